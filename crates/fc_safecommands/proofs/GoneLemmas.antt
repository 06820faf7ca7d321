-- What goes back by a job that needs no new object, and which identifier moves.
use Rattle.std.proofs.Common.{◌≡◌, ◌<◌, ◌≤◌, ◌==◌, ◌&&◌, ◌||◌, ⊎_elim, ℕ, Bool, true, false, not, List, [], ◌∷◌, refl, sym, ap, ap₂, subst, ◌∙◌, arith, eq-eqb}
use Rattle.std.specs.Prelude.{nat_lt}
use Rattle.std.specs.List.{list_any}
use Rattle.std.proofs.lemmas.Bool.{and_parts, cases_eq, cases_lt, eqb-true, le-leb, ltb-true, ne_eqb, or_cases}
use Rattle.fc_alloc.specs.Owners.{owns}
use Rattle.fc_record.specs.Record.{id_limit}
use Rattle.fc_newmap.specs.Map.{is_used}
use Rattle.fc_image.specs.Walk.{Object}
use Rattle.fc_image.specs.Objects.{is_movable, is_owner_of, objects_of}
use Rattle.fc_image.specs.effects.Steady.{is_given_back}
use Rattle.fc_image.specs.safe.SafeShort.{holds_changed, is_given_up, loses_owner, takes_slack}
use Rattle.fc_plan.specs.declared.plan.Plan.{Plan}
use Rattle.fc_plan.specs.Giving.{is_one_of}
use Rattle.fc_edits.specs.NewPlaces.{is_taken}
use Rattle.fc_edits.proofs.lemmas.IdentifierLemmas.{used_of}
use Rattle.fc_changes.proofs.BasicLemmas.{or_false}
use Rattle.fc_change.specs.declared.spaces.Spaces.{Spaces}
use Rattle.fc_safe.specs.FirstNeeds.{Stir, first_gone, goes, shared_by, stir_of}
use Rattle.fc_safe.specs.FirstSpace.{ArePlacedFirst}
use Rattle.fc_safe.specs.Gone.{is_left, is_lost_by}
use Rattle.fc_safe.specs.Staying.{holds_changed as owners_hold, remains}
use Rattle.fc_safe.proofs.GivenLemmas.{changed_high, given_high, owner_low}
use Rattle.fc_safe.proofs.ListLemmas.{any_of, found_of}
use Rattle.fc_safe.proofs.PlainLawLemmas.{plain_law}
use Rattle.fc_safe.proofs.PlainLemmas.{plain_stir}
use Rattle.fc_safe.proofs.ViewLemmas.{holds_same, remains_same}
use Rattle.fc_safe.proofs.ZoneLemmas.{in_range}
use Rattle.fc_safeedits.specs.SafePlaces.{moves_by}
use Rattle.fc_safeedits.specs.SafeSpace.{takings_of}
use Rattle.fc_safecommands.proofs.PlainLemmas.{PlainJob, d, d_in, d_some, h, holds_at, i, leaving, v}
use Rattle.fc_safecommands.proofs.SpaceLemmas.{one}

module _ (x : PlainJob) where
  abbrev objects : List Object
  objects = objects_of x.listings

  abbrev stir : Stir
  stir = plain_stir x.t.holder x.goes

  -- the directory's identifier is the one that holds a changed directory
  pub holds_is : (k : ℕ) → holds_changed (v x) x.c k ≡ (i x == k)
  holds_is k = sym (holds_same x.m (h x) (v x) x.c stir x.its.view x.stirs k) ∙ sym (holds_at x k) ∙ or_false (i x == k)

  pub i_high : 3 ≤ i x
  i_high = (changed_high x.m (h x) (v x) x.its.view x.c x.its.suits (i x) (holds_is (i x) ∙ eq-eqb (i x) (i x) refl)).0

  -- ---- what goes back

  abbrev pub back : List ℕ
  back = first_gone x.m (h x) x.job x.wants

  pub back_is : (k : ℕ) → 3 ≤ k → is_one_of (first_gone x.m (h x) x.job x.wants) k ≡ is_given_up x.m (v x) x.c k
  back_is k low = plain_law.given x.m (h x) (v x) x.c x.job x.wants k x.its low

  pub back_low : (k : ℕ) → is_one_of (first_gone x.m (h x) x.job x.wants) k ≡ true → 3 ≤ k
  back_low k e = ⊎_elim (λ held. of_held held) (λ lost. of_lost lost) (or_cases (owners_hold (x.t.holder ∷ []) (leaving x) x.owners k) (is_lost_by (leaving x) (shared_by x.m x.owners x.wants) x.owners k) goes_back)
    where
      goes_back : (owners_hold (x.t.holder ∷ []) (leaving x) x.owners k || is_lost_by (leaving x) (shared_by x.m x.owners x.wants) x.owners k) ≡ true
      goes_back =
          ap (λ (s : Stir). goes (h x) s (shared_by x.m x.owners x.wants) k) (sym x.stir)
          ∙ (and_parts (nat_lt k (id_limit x.m.geometry)) (goes (h x) (stir_of x.m (h x) x.job x.wants) (shared_by x.m x.owners x.wants) k)
          (sym (in_range (goes (h x) (stir_of x.m (h x) x.job x.wants) (shared_by x.m x.owners x.wants)) (id_limit x.m.geometry) k) ∙ e)).1

      of_held : owners_hold (x.t.holder ∷ []) (leaving x) x.owners k ≡ true → 3 ≤ k
      of_held held = let same = eqb-true (i x) k (sym (or_false (i x == k)) ∙ holds_at x k ∙ held) in let high = i_high in omega (arith, same, high)

      of_lost : is_lost_by (leaving x) (shared_by x.m x.owners x.wants) x.owners k ≡ true → 3 ≤ k
      of_lost lost =
          let both = and_parts (list_any (owns k) x.owners) (is_left (leaving x) (shared_by x.m x.owners x.wants) x.owners k) lost in
          let more = ltb-true 2 k (and_parts (nat_lt 2 k) _ both.1).0 in omega (arith, more)

  pub back_high : (k : ℕ) → is_given_up x.m (v x) x.c k ≡ true → k < id_limit x.m.geometry
  back_high k e = given_high x.m (h x) (v x) x.its.view x.c x.its.suits k e

  pub goes_one : is_one_of (first_gone x.m (h x) x.job x.wants) (i x) ≡ true
  goes_one = back_is (i x) i_high ∙ ap (λ (b : Bool). b || loses_owner (v x) x.c (i x)) (holds_is (i x) ∙ eq-eqb (i x) (i x) refl)

  -- ---- which identifier moves

  module _ (s : Spaces) (placed : ArePlacedFirst x.m (h x) x.job x.wants s) where
    pub taken_is : (k : ℕ) → is_taken (takings_of placed.plans) k ≡ (i x == k)
    taken_is k =
        ap (λ (ps : List Plan). is_taken (takings_of ps) k) (one x s placed).1 ∙ or_false ((one x s placed).0.id == k) ∙ ap (λ (n : ℕ). n == k) (one x s placed).2

    own_is : is_owner_of (i x) (d x) ≡ true
    own_is = ap₂ (λ (a b : Bool). a && b) (d_some x) (eq-eqb (i x) (i x) refl)

    pub moves_one : moves_by x.m (takings_of placed.plans) (i x) ≡ true
    moves_one =
        ap₂ (λ (a b : Bool). a && b) (taken_is (i x) ∙ eq-eqb (i x) (i x) refl) (used_of x.kind x.m x.nodes x.owners x.root x.listings x.agreed (d x) (d_in x) (i x) own_is)

    pub moved_is : (k : ℕ) → moves_by x.m (takings_of placed.plans) k ≡ true → k ≡ i x
    moved_is k e = sym (eqb-true (i x) k (sym (taken_is k) ∙ (and_parts (is_taken (takings_of placed.plans) k) (is_used x.m k) e).0))

    pub movable : (k : ℕ) → moves_by x.m (takings_of placed.plans) k ≡ true → is_movable objects k ≡ true
    movable k e =
        subst (λ (n : ℕ). is_movable objects n ≡ true) (sym (moved_is k e))
        (ap₂ (λ (a b : Bool). ((i x == 2) || a) && b) (any_of (is_owner_of (i x)) objects (d x) (d_in x) own_is) (le-leb 3 (i x) i_high) ∙ or_yes (i x == 2))
      where
        or_yes : (b : Bool) → ((b || true) && true) ≡ true
        or_yes true = refl
        or_yes false = refl

    -- What goes back is what loses its owners, if `now` are those that stay, and what moves.
    pub exactly : (now : List Object) → ((k : ℕ) → list_any (is_owner_of k) now ≡ list_any (remains (leaving x) k) x.owners) → (k : ℕ)
        → is_one_of (first_gone x.m (h x) x.job x.wants) k ≡ (is_given_back objects now k || is_taken (takings_of placed.plans) k)
    exactly now same k = ⊎_elim (λ low. below low) (λ high. from high) (cases_lt k 3)
      where
        not_two : (n : ℕ) → (k ≡ n → ⊥) → (k == n) ≡ false
        not_two n other = ne_eqb k n other

        given : (k == 2) ≡ false → is_given_back objects now k ≡ (list_any (is_owner_of k) objects && not (list_any (remains (leaving x) k) x.owners))
        given two = ap₂ (λ (a b : Bool). (a || list_any (is_owner_of k) objects) && not (a || b)) two (same k)

        from : 3 ≤ k → is_one_of (first_gone x.m (h x) x.job x.wants) k ≡ (is_given_back objects now k || is_taken (takings_of placed.plans) k)
        from high =
            let two = not_two 2 (λ e. omega (arith, e, high)) in
            back_is k high
            ∙ ap₂ (λ (a b : Bool). a || (list_any (is_owner_of k) objects && not b && not (takes_slack (v x) x.c k))) (holds_is k) (sym (remains_same x.m (h x) (v x) x.c stir x.its.view x.stirs k))
            ∙ ap (λ (b : Bool). (i x == k) || (list_any (is_owner_of k) objects && not (list_any (remains (leaving x) k) x.owners) && not b)) (x.no_slack k)
            ∙ turned (i x == k) (list_any (is_owner_of k) objects) (list_any (remains (leaving x) k) x.owners)
            ∙ ap₂ (λ (a b : Bool). a || b) (sym (given two)) (sym (taken_is k))
          where
            turned : (a b e : Bool) → (a || (b && not e && not false)) ≡ ((b && not e) || a)
            turned true true true = refl
            turned true true false = refl
            turned true false e = refl
            turned false true true = refl
            turned false true false = refl
            turned false false e = refl

        none_goes : k < 3 → is_one_of (first_gone x.m (h x) x.job x.wants) k ≡ false
        none_goes low = by (is_one_of (first_gone x.m (h x) x.job x.wants) k) refl
          where
            by : (b : Bool) → is_one_of (first_gone x.m (h x) x.job x.wants) k ≡ b → b ≡ false
            by false e = refl
            by true e = absurd (let more = back_low k e in omega (arith, more, low))

        none_taken : k < 3 → is_taken (takings_of placed.plans) k ≡ false
        none_taken low = taken_is k ∙ ne_eqb (i x) k (λ e. (let high = i_high in omega (arith, e, low, high)))

        below : k < 3 → is_one_of (first_gone x.m (h x) x.job x.wants) k ≡ (is_given_back objects now k || is_taken (takings_of placed.plans) k)
        below low = none_goes low ∙ sym (ap₂ (λ (a b : Bool). a || b) (⊎_elim (λ two. at_two two) (λ other. elsewhere other) (cases_eq k 2)) (none_taken low))
          where
            at_two : k ≡ 2 → is_given_back objects now k ≡ false
            at_two two = ap (λ (b : Bool). (b || list_any (is_owner_of k) objects) && not (b || list_any (is_owner_of k) now)) (eq-eqb k 2 two)

            elsewhere : (k ≡ 2 → ⊥) → is_given_back objects now k ≡ false
            elsewhere other = given (not_two 2 other) ∙ ap (λ (b : Bool). b && not (list_any (remains (leaving x) k) x.owners)) (none (list_any (is_owner_of k) objects) refl)
              where
                none : (b : Bool) → list_any (is_owner_of k) objects ≡ b → b ≡ false
                none false e = refl
                none true e = absurd (
                    let p = found_of (is_owner_of k) objects e in
                    let least = (owner_low x.m (h x) (v x) x.its.view k p.0 p.1 p.2).0 in
                    omega (arith, least, low, other))
