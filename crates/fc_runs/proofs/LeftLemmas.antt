-- What lines in turn may leave, at a crash or an I/O error.
use Rattle.std.proofs.Common.{◌≡◌, ◌<◌, ◌≤◌, inl, inr, ℕ, zero, suc, Bool, true, false, List, [], ◌∷◌, ◌++◌, length, take, Option, Some, None, Result, Ok, Err, refl, sym, subst, arith}
use Rattle.std.specs.Prelude.{slice_get}
use Rattle.std.proofs.lemmas.List.{append-nil, length-append, take-append-le, take_all}
use Rattle.std.proofs.lemmas.List.Elements.{All-nil, All-cons}
use Rattle.std.proofs.lemmas.Option.{slice_get_past}
use Rattle.fc_device.specs.Sectors.{sector_at}
use Rattle.fc_names.specs.declared.refusal.Refusal.{Refusal}
use Rattle.fc_record.specs.declared.Kind.{Kind}
use Rattle.fc_model.specs.Command.{Command}
use Rattle.fc_image.specs.Layout.{sector_bytes}
use Rattle.fc_image.specs.Opening.{Opened, boot_place}
use Rattle.fc_image.specs.Stays.{IsNewLayout, OpensAs}
use Rattle.fc_image.specs.effects.Effect.{State, tree_in}
use Rattle.fc_image.specs.safe.SafeEffect.{HasTree}
use Rattle.fc_image.specs.effects.Steady.{SameSectors}
use Rattle.fc_script.specs.Lines.{command_of}
use Rattle.fc_script.specs.HostLines.{HostLine}
use Rattle.fc_host.specs.Asked.{Asked}
use Rattle.fc_runs.specs.AskedRun.{AskedSteps}
use Rattle.fc_runs.specs.HostPromises.{AskedStepsTo}
use Rattle.fc_runs.specs.HostRun.{Reading, host_keeps_tree}
use Rattle.fc_runs.specs.Run.{Mode, Steps, is_error, keeps_tree_or}
use Rattle.fc_runs.specs.Spares.{Spares, idle_in}
use Rattle.fc_runs.specs.Stops.{HostLeftBy, HostLeftByLine, HostSparesBy, IsLeftBefore, IsLeftInLine, LeftBy, LeftByLine, LeftIf, LeftIn, SparesBy, StepsTo, host_leaves_image, leaves_image_or}
use Rattle.fc_runs.proofs.HostStepLemmas.{asks_weaker}
use Rattle.fc_runs.proofs.SpaceLemmas.{space_same}
use Rattle.fc_runs.proofs.StepLemmas.{has_tree}
use Rattle.fc_runs.proofs.TextLemmas.{get_next}

-- ---- an image that is as it was

all_same : (size : ℕ) (row image : List ℕ) → SameSectors size row image image
all_same size [] image = All-nil _
all_same size (s ∷ row) image = All-cons (λ n. sector_at size image n ≡ sector_at size image n) s row refl (all_same size row image)

pub spares_same : (kind : Kind) (v : Opened) (c : Command) (image : List ℕ) → OpensAs image kind v → Spares kind v c image image
spares_same kind v c image opens =
    let size = sector_bytes v.layout in
    record {
      length_stays = refl;
      files = λ o at file. all_same size o.sectors image;
      directories = λ o at stays. all_same size o.sectors image;
      boot = all_same size (boot_place kind size) image;
      lost = all_same size (idle_in v.layout v) image;
      behind = λ s past out. refl;
      space = space_same kind v c image opens;
    }

module _ (kind : Kind) (s : State) (opens : OpensAs s.image kind s.view) (image : List ℕ) (same : image ≡ s.image) where
  pub left_if_same : (leaves keeps : Bool) (P : List ℕ → Type 0) → P s.image → LeftIf leaves keeps kind s P image
  left_if_same true keeps P p = same
  left_if_same false true P p = λ new_map. has_tree kind s image opens same
  left_if_same false false P p = subst P (sym same) p

  spares_by_same : (r : Result Command Refusal) → SparesBy kind s r s.image
  spares_by_same (Err refusal) = refl
  spares_by_same (Ok c) = spares_same kind s.view c s.image opens

  pub left_by_same : (refused : Bool) (r : Result Command Refusal) → LeftBy kind s refused r image
  left_by_same refused r = left_if_same (leaves_image_or refused r) (keeps_tree_or refused r) (SparesBy kind s r) (spares_by_same r)

  host_spares_same : (r : Result HostLine Refusal) → HostSparesBy kind s r s.image
  host_spares_same (Err refusal) = refl
  host_spares_same (Ok (HostLine.Get path host)) = refl
  host_spares_same (Ok (HostLine.Put host path load exec)) = ([], spares_same kind s.view (Command.Save path load exec []) s.image opens)
  host_spares_same (Ok (HostLine.Other c)) = spares_same kind s.view c s.image opens

  pub host_left_same : (refused : Bool) (r : Result HostLine Refusal) → HostLeftBy kind s refused r image
  host_left_same refused r = left_if_same (host_leaves_image refused r) (host_keeps_tree refused r) (HostSparesBy kind s r) (host_spares_same r)

-- ---- by what the line does

-- It keeps the tree,
pub left_if_kept : (leaves keeps : Bool) (kind : Kind) (s : State) (P : List ℕ → Type 0) (image : List ℕ) → leaves ≡ false → keeps ≡ true → (IsNewLayout s.view.layout → HasTree kind (tree_in s) image)
    → LeftIf leaves keeps kind s P image
left_if_kept false true kind s P image left stays tree = tree
left_if_kept true keeps kind s P image left stays tree = absurd (cc)
left_if_kept false false kind s P image left stays tree = absurd (cc)

-- or changes it.
pub left_if_spared : (leaves keeps : Bool) (kind : Kind) (s : State) (P : List ℕ → Type 0) (image : List ℕ) → leaves ≡ false → keeps ≡ false → P image → LeftIf leaves keeps kind s P image
left_if_spared false false kind s P image left turned p = p
left_if_spared true keeps kind s P image left turned p = absurd (cc)
left_if_spared false true kind s P image left turned p = absurd (cc)

-- ---- lists

get_front : (xs ys : List (List ℕ)) (n : ℕ) → n < length xs → slice_get (xs ++ ys) n ≡ slice_get xs n
get_front [] ys n low = absurd (omega (arith, low))
get_front (x ∷ xs) ys zero low = refl
get_front (x ∷ xs) ys (suc n) low = get_front xs ys n (omega (arith, low))

-- ---- steps

pub steps_any : (May : List ℕ → Type 0) (mode : Mode) (s s' : State) (lines replies : List (List ℕ)) → Steps May mode s lines replies s' → Steps (λ between. Unit {0}) mode s lines replies s'
steps_any May mode s s' [] [] x = x
steps_any May mode s s' [] (reply ∷ replies) x = absurd x
steps_any May mode s s' (line ∷ lines) [] x = absurd x
steps_any May mode s s' (line ∷ lines) (reply ∷ replies) x = (x.0, tt, x.2, steps_any May mode x.0 s' lines replies x.3)

-- The first of some lines are the first of more.
module _ (mode : Mode) (s : State) (lines replies : List (List ℕ)) (long : length replies ≡ length lines) (n : ℕ) (low : n ≤ length replies) (mid : State) where
  pub steps_longer : (more : List (List ℕ)) → StepsTo mode s lines replies n mid → StepsTo mode s (lines ++ more) replies n mid
  steps_longer more x = subst (λ (ls : List (List ℕ)). Steps (λ between. Unit {0}) mode s ls (take n replies) mid) (sym (take-append-le n lines more (omega (arith, low, long)))) x

  pub steps_to_more : (more rest : List (List ℕ)) → StepsTo mode s lines replies n mid → StepsTo mode s (lines ++ more) (replies ++ rest) n mid
  steps_to_more more rest x =
      subst (λ (rs : List (List ℕ)). Steps (λ between. Unit {0}) mode s (take n (lines ++ more)) rs mid) (sym (take-append-le n replies rest low)) (steps_longer more x)

  module _ (read : Reading) (asks : List (List Asked)) (many : length asks ≡ length replies) where
    pub asked_longer : (more : List (List ℕ)) → AskedStepsTo read mode s lines replies asks n mid → AskedStepsTo read mode s (lines ++ more) replies asks n mid
    asked_longer more x =
        subst (λ (ls : List (List ℕ)). AskedSteps read (λ between. Unit {0}) mode s ls (take n replies) (take n asks) mid) (sym (take-append-le n lines more (omega (arith, low, long)))) x

    pub asked_to_more : (more rest : List (List ℕ)) (others : List (List Asked)) → AskedStepsTo read mode s lines replies asks n mid
        → AskedStepsTo read mode s (lines ++ more) (replies ++ rest) (asks ++ others) n mid
    asked_to_more more rest others x =
        subst (λ (rs : List (List ℕ)). AskedSteps read (λ between. Unit {0}) mode s (take n (lines ++ more)) rs (take n (asks ++ others)) mid) (sym (take-append-le n replies rest low))
        (subst (λ (qs : List (List Asked)). AskedSteps read (λ between. Unit {0}) mode s (take n (lines ++ more)) (take n replies) qs mid) (sym (take-append-le n asks others (omega (arith, low, many)))) (asked_longer more x))

-- All of them lead to where they do.
pub steps_to_all : (May : List ℕ → Type 0) (mode : Mode) (s s' : State) (lines replies : List (List ℕ)) → length replies ≡ length lines → Steps May mode s lines replies s' → StepsTo mode s lines replies (length replies) s'
steps_to_all May mode s s' lines replies long x =
    subst (λ (ls : List (List ℕ)). Steps (λ between. Unit {0}) mode s ls (take (length replies) replies) s') (sym (take_all (length replies) lines (omega (arith, long))))
    (subst (λ (rs : List (List ℕ)). Steps (λ between. Unit {0}) mode s lines rs s') (sym (take_all (length replies) replies (omega arith))) (steps_any May mode s s' lines replies x))

pub asked_to_all : (read : Reading) (May : List ℕ → Type 0) (mode : Mode) (s s' : State) (lines replies : List (List ℕ)) (asks : List (List Asked)) → length replies ≡ length lines → length asks ≡ length replies
    → AskedSteps read May mode s lines replies asks s' → AskedStepsTo read mode s lines replies asks (length replies) s'
asked_to_all read May mode s s' lines replies asks long many x =
    subst (λ (ls : List (List ℕ)). AskedSteps read (λ between. Unit {0}) mode s ls (take (length replies) replies) (take (length replies) asks) s') (sym (take_all (length replies) lines (omega (arith, long))))
    (subst (λ (rs : List (List ℕ)). AskedSteps read (λ between. Unit {0}) mode s lines rs (take (length replies) asks) s') (sym (take_all (length replies) replies (omega arith)))
    (subst (λ (qs : List (List Asked)). AskedSteps read (λ between. Unit {0}) mode s lines replies qs s') (sym (take_all (length replies) asks (omega (arith, many))))
    (asks_weaker read May (λ between. Unit {0}) (λ image may. tt) mode s s' lines replies asks x)))

-- ---- lines in turn

-- `To` for the lines that were done, and for more of them
module _ (To More : ℕ → State → Type 0) (by : State → Bool → List ℕ → List ℕ → Type 0) (state : State) (done replies : List (List ℕ)) (long : length replies ≡ length done) (all : To (length replies) state)
    (image : List ℕ) (same_by : (refused : Bool) (line : List ℕ) → image ≡ state.image → by state refused line image)
    (more_to : (n : ℕ) (mid : State) → n ≤ length replies → To n mid → More n mid) where
  abbrev before_more : (more rest : List (List ℕ)) → (left : IsLeftInLine To by done replies image) → left.count < length replies → IsLeftInLine More by (done ++ more) (replies ++ rest) image
  before_more more rest left low = record {
    count = left.count;
    within = (let l = length-append replies rest in omega (arith, low, l));
    mid = left.mid;
    steps = more_to left.count left.mid (omega (arith, low)) left.steps;
    left = subst (λ (o : Option (List ℕ)). LeftIn (by left.mid) left.mid o (slice_get (replies ++ rest) left.count) image) (sym (get_front done more left.count (omega (arith, low, long))))
        (subst (λ (o : Option (List ℕ)). LeftIn (by left.mid) left.mid (slice_get done left.count) o image) (sym (get_front replies rest left.count low)) left.left);
  }

  -- whatever is next
  pub left_in_same : (next reply : Option (List ℕ)) → image ≡ state.image → LeftIn (by state) state next reply image
  left_in_same None reply same = same
  left_in_same (Some line) None same = same_by false line same
  left_in_same (Some line) (Some reply) same = same_by (is_error reply) line same

  -- after all of them
  pub left_front : (rest : List (List ℕ)) → IsLeftBefore To by done replies state image → IsLeftInLine More by (done ++ rest) replies image
  left_front rest (inl same) = record {
    count = length replies;
    within = omega arith;
    mid = state;
    steps = more_to (length replies) state (omega arith) all;
    left = left_in_same (slice_get (done ++ rest) (length replies)) (slice_get replies (length replies)) same;
  }
  left_front rest (inr left) = subst (λ (rs : List (List ℕ)). IsLeftInLine More by (done ++ rest) rs image) (append-nil replies) (before_more rest [] left.0 left.1)

  -- in the next one, which broke off
  pub left_next : (line : List ℕ) (rest : List (List ℕ)) → by state false line image → IsLeftInLine More by (done ++ line ∷ rest) replies image
  left_next line rest left = record {
    count = length replies;
    within = omega arith;
    mid = state;
    steps = more_to (length replies) state (omega arith) all;
    left = subst (λ (o : Option (List ℕ)). LeftIn (by state) state o (slice_get replies (length replies)) image) (sym (get_next done line rest (length replies) long))
        (subst (λ (o : Option (List ℕ)). LeftIn (by state) state (Some line) o image) (sym (slice_get_past replies (length replies) (omega arith))) left);
  }

  -- with the next one, which was done
  pub left_last : (line reply : List ℕ) (next : State) → by state (is_error reply) line image → IsLeftBefore More by (done ++ line ∷ []) (replies ++ reply ∷ []) next image
  left_last line reply next left =
      let l = length-append replies (reply ∷ []) in
      inr (
        (record {
          count = length replies;
          within = omega (arith, l);
          mid = state;
          steps = more_to (length replies) state (omega arith) all;
          left = subst (λ (o : Option (List ℕ)). LeftIn (by state) state o (slice_get (replies ++ reply ∷ []) (length replies)) image) (sym (get_next done line [] (length replies) long))
              (subst (λ (o : Option (List ℕ)). LeftIn (by state) state (Some line) o image) (sym (get_next replies reply [] (length replies) refl)) left);
        }),
        omega (arith, l),
      )

  pub left_more : (line reply : List ℕ) (next : State) → IsLeftBefore To by done replies state image → IsLeftBefore More by (done ++ line ∷ []) (replies ++ reply ∷ []) next image
  left_more line reply next (inl same) = left_last line reply next (same_by (is_error reply) line same)
  left_more line reply next (inr left) = (let l = length-append replies (reply ∷ []) in let low = left.1 in inr (before_more (line ∷ []) (reply ∷ []) left.0 left.1, omega (arith, l, low)))

-- ---- before the first line

pub left_first : (mode : Mode) (s : State) → OpensAs s.image mode.kind s.view → (lines replies : List (List ℕ)) (image : List ℕ) → image ≡ s.image
    → IsLeftInLine (StepsTo mode s lines replies) (LeftByLine mode.kind) lines replies image
left_first mode s opens lines replies image same = record {
  count = 0;
  within = omega arith;
  mid = s;
  steps = refl;
  left = by (slice_get lines 0) (slice_get replies 0);
}
  where
    by : (next reply : Option (List ℕ)) → LeftIn (LeftByLine mode.kind s) s next reply image
    by None reply = same
    by (Some line) None = left_by_same mode.kind s opens image same false (command_of line)
    by (Some line) (Some reply) = left_by_same mode.kind s opens image same (is_error reply) (command_of line)

pub asked_first : (read : Reading) (mode : Mode) (s : State) → OpensAs s.image mode.kind s.view → (lines replies : List (List ℕ)) (asks : List (List Asked)) (image : List ℕ) → image ≡ s.image
    → IsLeftInLine (AskedStepsTo read mode s lines replies asks) (HostLeftByLine read mode.kind) lines replies image
asked_first read mode s opens lines replies asks image same = record {
  count = 0;
  within = omega arith;
  mid = s;
  steps = refl;
  left = by (slice_get lines 0) (slice_get replies 0);
}
  where
    by : (next reply : Option (List ℕ)) → LeftIn (HostLeftByLine read mode.kind s) s next reply image
    by None reply = same
    by (Some line) None = host_left_same mode.kind s opens image same false (read line)
    by (Some line) (Some reply) = host_left_same mode.kind s opens image same (is_error reply) (read line)

-- ---- after the last

pub ends_same : (kind : Kind) (s : State) → OpensAs s.image kind s.view → (next : Option (List ℕ)) (image : List ℕ) → image ≡ s.image → LeftIn (LeftByLine kind s) s next None image
ends_same kind s opens None image same = same
ends_same kind s opens (Some line) image same = left_by_same kind s opens image same false (command_of line)

pub host_ends_same : (read : Reading) (kind : Kind) (s : State) → OpensAs s.image kind s.view → (next : Option (List ℕ)) (image : List ℕ) → image ≡ s.image → LeftIn (HostLeftByLine read kind s) s next None image
host_ends_same read kind s opens None image same = same
host_ends_same read kind s opens (Some line) image same = host_left_same kind s opens image same false (read line)
