-- Whoever is told that a directory grows is one that the job rewrites.
use Rattle.std.proofs.Common.{◌≡◌, ◌==◌, ⊎_elim, ℕ, Bool, true, false, cond, List, [], ◌++◌, refl, sym, ap, subst, ◌∙◌, eq-eqb, Option, Some, None}
use Rattle.std.specs.Prelude.{Contains}
use Rattle.std.proofs.lemmas.List.Elements.{Contains-append_cases}
use Rattle.fc_plan.specs.Giving.{is_one_of}
use Rattle.fc_changes.proofs.StepsLemmas.{any_append}
use Rattle.fc_tree.specs.Counts.{address_in}
use Rattle.fc_tree.proofs.MemberLemmas.{no_element}
use Rattle.fc_change.specs.declared.change.Regrowth.{Regrowth}
use Rattle.fc_change.specs.declared.job.Growth.{Growth}
use Rattle.fc_change.specs.declared.spaces.GrownPlace.{GrownPlace}
use Rattle.fc_change.specs.declared.spaces.Spaces.{Spaces}
use Rattle.fc_change.specs.Directories.{children_of, directories_in, holders_of}
use Rattle.fc_safe.specs.Changed.{above_grown, holder_of, named_in, renamed_in, within_moved}
use Rattle.fc_safe.specs.FirstNeeds.{moving_out}
use Rattle.fc_safe.specs.FirstSpace.{ArePlacedFirst, IsFirstGrown, address_then}
use Rattle.fc_safe.proofs.ListLemmas.{any_of, or_left, or_right}
use Rattle.fc_safecommands.proofs.GrownSpaceLemmas.{out_is}
use Rattle.fc_safecommands.proofs.GrownStepLemmas.{grown_at}
use Rattle.fc_safecommands.proofs.GrownStirLemmas.{GrowingJob, changed, h}

module _ (x : GrowingJob) (s : Spaces) (placed : ArePlacedFirst x.m (h x) x.job x.wants s) where
  abbrev p : GrownPlace
  p = (grown_at x s placed).0

  abbrev first : IsFirstGrown x.m (h x) x.growth placed.plans (grown_at x s placed).0
  first = (grown_at x s placed).2

  at_node : (grown_at x s placed).0.directory.node ≡ x.growth.node
  at_node = ap (λ (d : Regrowth). d.node) first.directory

  abbrev above : List ℕ
  above = above_grown x.nodes x.wants.grows

  abbrev within : List ℕ
  within = within_moved x.nodes (moving_out x.m (h x) x.wants.grows)

  holders_same : holders_of x.nodes p.directory ≡ above
  holders_same = ap (holder_of x.nodes) at_node ∙ ap (above_grown x.nodes) (sym x.grows)

  -- They are told only if its address is another, and so with another identifier.
  children_in : (n : ℕ) → Contains (children_of x.nodes p.directory) n → Contains within n
  children_in n at = by (moving_out x.m (h x) (Some x.growth)) refl
    where
      address_is : (o : Option Growth) → moving_out x.m (h x) (Some x.growth) ≡ o → p.directory.address ≡ address_then o (address_in x.nodes x.growth.node) first.plan
      address_is o e = ap (λ (d : Regrowth). d.address) first.directory ∙ ap (λ (q : Option Growth). address_then q (address_in x.nodes x.growth.node) first.plan) e

      inside : (b : Bool) → Contains (cond b [] (directories_in x.nodes p.directory.node)) n → Contains (directories_in x.nodes p.directory.node) n
      inside true none = absurd (no_element n none)
      inside false there = there

      by : (o : Option Growth) → moving_out x.m (h x) (Some x.growth) ≡ o → Contains within n
      by None e =
          absurd (no_element n (subst (λ (b : Bool). Contains (cond b [] (directories_in x.nodes p.directory.node)) n) (eq-eqb (address_in x.nodes p.directory.node) p.directory.address (ap (address_in x.nodes) at_node ∙ sym (address_is None e))) at))
      by (Some k) e =
          let same : x.growth ≡ k = out_is x k (ap (moving_out x.m (h x)) x.grows ∙ e) in
          subst (λ (o : Option Growth). Contains (within_moved x.nodes o) n) (sym (ap (moving_out x.m (h x)) x.grows ∙ e))
          (subst (λ (m : ℕ). Contains (directories_in x.nodes m) n) (at_node ∙ ap (λ (g : Growth). g.node) same) (inside (address_in x.nodes p.directory.node == p.directory.address) at))

  -- it holds the one that grows, or lies in it
  pub around_changed : (n : ℕ) → Contains (holders_of x.nodes (grown_at x s placed).0.directory ++ children_of x.nodes (grown_at x s placed).0.directory) n → is_one_of (changed x) n ≡ true
  around_changed n at =
      any_append (λ (k : ℕ). k == n) (named_in x.job) (renamed_in x.nodes x.job ++ (above ++ within))
      ∙ or_right (is_one_of (named_in x.job) n) _
      (any_append (λ (k : ℕ). k == n) (renamed_in x.nodes x.job) (above ++ within)
      ∙ or_right (is_one_of (renamed_in x.nodes x.job) n) _
      (any_append (λ (k : ℕ). k == n) above within
      ∙ ⊎_elim
      (λ top. or_left (is_one_of above n) (is_one_of within n) (any_of (λ (k : ℕ). k == n) above n (subst (λ (ns : List ℕ). Contains ns n) holders_same top) (eq-eqb n n refl)))
      (λ kid. or_right (is_one_of above n) (is_one_of within n) (any_of (λ (k : ℕ). k == n) within n (children_in n kid) (eq-eqb n n refl)))
      (Contains-append_cases (holders_of x.nodes p.directory) (children_of x.nodes p.directory) n at)))

  -- it is named by the job,
  pub named_changed : (n : ℕ) → is_one_of (named_in x.job) n ≡ true → is_one_of (changed x) n ≡ true
  named_changed n e = any_append (λ (k : ℕ). k == n) (named_in x.job) (renamed_in x.nodes x.job ++ (above ++ within)) ∙ or_left (is_one_of (named_in x.job) n) (is_one_of (renamed_in x.nodes x.job ++ (above ++ within)) n) e

  -- or gets another name
  pub renamed_changed : (n : ℕ) → is_one_of (renamed_in x.nodes x.job) n ≡ true → is_one_of (changed x) n ≡ true
  renamed_changed n e =
      any_append (λ (k : ℕ). k == n) (named_in x.job) (renamed_in x.nodes x.job ++ (above ++ within))
      ∙ or_right (is_one_of (named_in x.job) n) _
      (any_append (λ (k : ℕ). k == n) (renamed_in x.nodes x.job) (above ++ within) ∙ or_left (is_one_of (renamed_in x.nodes x.job) n) (is_one_of (above ++ within) n) e)
