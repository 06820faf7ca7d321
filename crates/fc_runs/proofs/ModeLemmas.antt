-- What lines in turn leave in the safe mode, and what they leave in either.
use Rattle.std.proofs.Common.{◌≡◌, ◌≤◌, ◌⊎◌, ◌==◌, inl, inr, ℕ, suc, ◌-◌, Bool, true, false, nat_le, List, [], ◌∷◌, length, Option, Some, None, refl, sym, ap, subst, arith}
use Rattle.std.specs.Prelude.{if◌then◌else◌, slice_get, Result, Ok, Err}
use Rattle.std.proofs.lemmas.Bool.Decides.{nat_tests}
use Rattle.fc_host.specs.Asked.{Asked}
use Rattle.fc_host.specs.Files.{Files}
use Rattle.fc_names.specs.declared.refusal.Refusal.{Refusal}
use Rattle.fc_record.specs.declared.Kind.{Kind}
use Rattle.fc_image.specs.effects.Effect.{State, tree_in}
use Rattle.fc_image.specs.safe.SafeEffect.{HasTree, HasTreeBeforeOrAfter}
use Rattle.fc_script.specs.HostLines.{HostLine}
use Rattle.fc_runs.specs.HostPromises.{AskedHasTreeAfter, AskedLeaves, AskedStepsTo, AskedTreeAround}
use Rattle.fc_runs.specs.HostRun.{Reading}
use Rattle.fc_runs.specs.Run.{HasTreeAfter, HasTreeAround, Mode, line_begun, tree_after, whole_replies}
use Rattle.fc_runs.specs.Stops.{HasTreeBetween, LeftAs, LeftIn, StepsTo, replies_written}

-- ---- by the mode

pub no_false : {A : Type 0} → false ≡ true → A
no_false e = absurd (cc)

module _ (Safe Plain : List ℕ → Type 0) (image : List ℕ) where
  pub as_either : (safe : Bool) → (safe ≡ true → Safe image) → (safe ≡ false → Plain image) → LeftAs safe Safe Plain image
  as_either true first second = first refl
  as_either false first second = second refl

  pub as_safe : (safe : Bool) → safe ≡ true → LeftAs safe Safe Plain image → Safe image
  as_safe true is left = left
  as_safe false is left = no_false is

  pub as_plain : (safe : Bool) → safe ≡ false → LeftAs safe Safe Plain image → Plain image
  as_plain false is left = left
  as_plain true is left = no_false (sym is)

-- ---- the trees of lines that were done

module _ (To More : ℕ → State → Type 0) (most more : ℕ) (kind : Kind) (image : List ℕ) (low : most ≤ more) (longer : (n : ℕ) (mid : State) → n ≤ most → To n mid → More n mid) where
  -- the first of more lines
  pub between_more : HasTreeBetween To most kind image → HasTreeBetween More more kind image
  between_more has = record { count = has.count; within = omega (arith, low, has.within); mid = has.mid; steps = longer has.count has.mid has.within has.steps; tree = has.tree }

  -- the last of them, or one more
  pub between_last : (state next : State) → To most state → More more next → HasTreeBetween To most kind image ⊎ HasTreeBeforeOrAfter kind state (tree_in next) image → HasTreeBetween More more kind image
  between_last state next all last (inl has) = between_more has
  between_last state next all last (inr (inl was)) = record { count = most; within = low; mid = state; steps = longer most state (omega arith) all; tree = was }
  between_last state next all last (inr (inr now)) = record { count = more; within = omega arith; mid = next; steps = last; tree = now }

-- ---- and the line that broke off

pub around_before : (mode : Mode) (s : State) (next : Option (List ℕ)) (image : List ℕ) → HasTree mode.kind (tree_in s) image → HasTreeAround mode s next image
around_before mode s None image has = has
around_before mode s (Some line) image has = inl has

pub asked_leaves_before : (mode : Mode) (s : State) (r : Result HostLine Refusal) (asked : List Asked) (files : Option Files) (image : List ℕ) → HasTree mode.kind (tree_in s) image → AskedLeaves mode s r asked files image
asked_leaves_before mode s (Err refusal) asked files image has = (tree_in s, refl, inl has)
asked_leaves_before mode s (Ok (HostLine.Put host path load exec)) asked files image has = (tree_in s, inl refl, inl has)
asked_leaves_before mode s (Ok (HostLine.Get path host)) asked files image has = (tree_in s, refl, inl has)
asked_leaves_before mode s (Ok (HostLine.Other command)) asked files image has = (tree_after mode s (Ok command), refl, inl has)

pub asked_before : (read : Reading) (mode : Mode) (s : State) (next : Option (List ℕ)) (asked : List Asked) (files : Option Files) (image : List ℕ) → HasTree mode.kind (tree_in s) image
    → AskedTreeAround read mode s next asked files image
asked_before read mode s None asked files image has = has
asked_before read mode s (Some line) asked files image has = asked_leaves_before mode s (read line) asked files image has

-- The image is as it was, whatever is next.
pub left_unbegun : (by : Bool → List ℕ → List ℕ → Type 0) (s : State) (next : Option (List ℕ)) (image : List ℕ) → image ≡ s.image → ((line : List ℕ) → by false line image) → LeftIn by s next None image
left_unbegun by s None image same before = same
left_unbegun by s (Some line) image same before = before line

-- No line was begun before those that were done.
same_count : (n : ℕ) → (n == n) ≡ true
same_count n = grind (arith, nat_tests)

pub begun_next : (lines replies : List (List ℕ)) → line_begun lines replies (length replies) ≡ slice_get lines (length replies)
begun_next lines replies = ap (λ (b : Bool). if b then slice_get lines (length replies) else None) (same_count (length replies))

-- ---- texts

-- Only replies that are there were written whole.
pub whole_most : (n : ℕ) (replies : List (List ℕ)) → whole_replies n replies ≤ length replies
whole_most n [] = omega arith
whole_most n (reply ∷ replies) = by (nat_le (length reply) n) (whole_most (n - length reply) replies)
  where
    by : (fits : Bool) → whole_replies (n - length reply) replies ≤ length replies → (if fits then suc (whole_replies (n - length reply) replies) else 0) ≤ suc (length replies)
    by true low = omega (arith, low)
    by false low = omega arith

pub written_most : (demo : Option ℕ) (text : List ℕ) (replies : List (List ℕ)) → replies_written demo text replies ≤ length replies
written_most None text replies = whole_most (length text) replies
written_most (Some n) text replies = omega arith

-- ---- what crashes leave

module _ (mode : Mode) (s : State) (lines replies : List (List ℕ)) (image : List ℕ) where
  pub tree_between : HasTreeBetween (StepsTo mode s lines replies) (length replies) mode.kind image → HasTreeAfter (λ between. Unit {0}) mode s lines replies 0 image
  tree_between has = record {
    count = has.count;
    enough = omega arith;
    within = has.within;
    mid = has.mid;
    steps = has.steps;
    tree = around_before mode has.mid (line_begun lines replies has.count) image has.tree;
  }

  -- after all lines that were done
  pub tree_around : (end : State) (least : ℕ) → least ≤ length replies → StepsTo mode s lines replies (length replies) end → HasTreeAround mode end (slice_get lines (length replies)) image
      → HasTreeAfter (λ between. Unit {0}) mode s lines replies least image
  tree_around end least low all has = record {
    count = length replies;
    enough = low;
    within = omega arith;
    mid = end;
    steps = all;
    tree = subst (λ (o : Option (List ℕ)). HasTreeAround mode end o image) (sym (begun_next lines replies)) has;
  }

  module _ (read : Reading) (asks : List (List Asked)) (begun : List Asked) (files : Option Files) where
    pub asked_between : HasTreeBetween (AskedStepsTo read mode s lines replies asks) (length replies) mode.kind image → AskedHasTreeAfter read mode s lines replies asks begun files 0 image
    asked_between has = record {
      count = has.count;
      enough = omega arith;
      within = has.within;
      mid = has.mid;
      steps = has.steps;
      tree = asked_before read mode has.mid (line_begun lines replies has.count) begun files image has.tree;
    }

    pub asked_around : (end : State) (least : ℕ) → least ≤ length replies → AskedStepsTo read mode s lines replies asks (length replies) end
        → AskedTreeAround read mode end (slice_get lines (length replies)) begun files image → AskedHasTreeAfter read mode s lines replies asks begun files least image
    asked_around end least low all has = record {
      count = length replies;
      enough = low;
      within = omega arith;
      mid = end;
      steps = all;
      tree = subst (λ (o : Option (List ℕ)). AskedTreeAround read mode end o begun files image) (sym (begun_next lines replies)) has;
    }
