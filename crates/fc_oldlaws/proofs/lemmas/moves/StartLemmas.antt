-- Where objects begin before and after they slide, as lists.
use Rattle.std.proofs.Common.{◌≡◌, ◌<◌, ◌≤◌, inl, inr, ℕ, zero, suc, ◌+◌, Bool, true, false, cond, List, [], ◌∷◌, refl, sym, ap, subst, ◌∙◌, arith, Some, slice_get}
use Rattle.std.specs.Prelude.{Contains, ◌==◌}
use Rattle.std.proofs.lemmas.Bool.{eqb-true, eqb-false}
use Rattle.fc_oldmap.specs.Holes.{AreHoles, IsHole, hole_end}
use Rattle.fc_image.specs.Layout.{hole_sectors_in, is_among}
use Rattle.fc_image.specs.declared.effects.Owned.{Owned}
use Rattle.fc_image.specs.effects.Moves.{SameButStarts, is_in_body}
use Rattle.fc_squash.specs.Squashing.{place, places}
use Rattle.fc_changes.proofs.BasicLemmas.{any_in, cases_cons, first_in, in_any, next_in, nothing_in}
use Rattle.fc_oldlaws.specs.moves.After.{start_after}

-- ---- the same object before and after

-- the first object that began at an address, and the same one afterwards
pub record FoundAt (was now : List Owned) (address : ℕ) : Type 0 where
  pub i : ℕ
  pub o : Owned
  pub p : Owned
  pub was_at : slice_get was i ≡ Some o
  pub now_at : slice_get now i ≡ Some p
  pub began : o.start ≡ address
  pub same : p ≡ record o { start = p.start }
  pub begins : start_after was now address ≡ p.start

pub found_at : (was now : List Owned) → SameButStarts was now → (q : Owned) → Contains was q → FoundAt was now q.start
unfolding start_after
found_at [] [] same q at = absurd (nothing_in q at)
found_at [] (p ∷ now) same q at = absurd (nothing_in q at)
found_at (o ∷ was) [] same q at = absurd same
found_at (o ∷ was) (p ∷ now) same q at = by (o.start == q.start) refl (λ later. found_at was now same.1 q later)
  where
    by : (b : Bool) → (o.start == q.start) ≡ b → (Contains was q → FoundAt was now q.start) → FoundAt (o ∷ was) (p ∷ now) q.start
    by true e more = record {
      i = 0;
      o = o;
      p = p;
      was_at = refl;
      now_at = refl;
      began = eqb-true o.start q.start e;
      same = same.0;
      begins = ap (λ (b : Bool). cond b p.start (start_after was now q.start)) e;
    }
    by false e more = elim (cases_cons o was q at) [
      | inl is ↦ absurd (eqb-false o.start q.start e (ap (λ (x : Owned). x.start) is))
      | inr later ↦ (let r = more later in record {
        i = suc r.i;
        o = r.o;
        p = r.p;
        was_at = r.was_at;
        now_at = r.now_at;
        began = r.began;
        same = r.same;
        begins = ap (λ (b : Bool). cond b p.start (start_after was now q.start)) e ∙ r.begins;
      })
    ]

-- where no object began
pub not_found : (was now : List Owned) (address : ℕ) → ((q : Owned) → Contains was q → q.start ≡ address → ⊥) → start_after was now address ≡ address
unfolding start_after
not_found [] now address none = refl
not_found (o ∷ was) [] address none = refl
not_found (o ∷ was) (p ∷ now) address none = by (o.start == address) refl (not_found was now address (λ q at. none q (next_in o q was at)))
  where
    by : (b : Bool) → (o.start == address) ≡ b → start_after was now address ≡ address → cond b p.start (start_after was now address) ≡ address
    by true e more = absurd (none o (first_in o was) (eqb-true o.start address e))
    by false e more = more

-- an element by its number
pub by_number : {X : Type 0} (xs : List X) (i : ℕ) (x : X) → slice_get xs i ≡ Some x → Contains xs x
by_number [] i x e = absurd (cc)
by_number (y ∷ xs) zero x e = (0, omega arith, some_same y x e)
  where
    some_same : {Y : Type 0} (a b : Y) → Some a ≡ Some b → a ≡ b
    some_same a b f = cc
by_number (y ∷ xs) (suc i) x e = let r = by_number xs i x e in (suc r.0, omega (arith, r.1), r.2)

pub one_element : {X : Type 0} (xs : List X) (i : ℕ) (x y : X) → slice_get xs i ≡ Some x → slice_get xs i ≡ Some y → x ≡ y
one_element xs i x y e f = some_same x y (sym e ∙ f)
  where
    some_same : {Y : Type 0} (a b : Y) → Some a ≡ Some b → a ≡ b
    some_same a b g = cc

-- ---- rising places

pub rises : (d u floor : ℕ) (now : List Owned) → AreHoles d u floor (places now) → (i : ℕ) (p : Owned) → slice_get now i ≡ Some p → IsHole d u floor (place p)
rises d u floor [] are i p e = absurd (cc)
rises d u floor (o ∷ now) are zero p e = subst (λ (x : Owned). IsHole d u floor (place x)) (one_element (o ∷ now) 0 o p refl e) are.0
rises d u floor (o ∷ now) are (suc i) p e =
    let r = rises d u (hole_end (place o)) now are.1 i p e in
    let far = r.onward in
    let here = are.0.onward in
    record { positive = r.positive; onward = omega (arith, far, here); inside = r.inside; begins = r.begins; ends = r.ends }

pub in_order : (d u floor : ℕ) (now : List Owned) → AreHoles d u floor (places now) → (i j : ℕ) (p q : Owned) → i < j → slice_get now i ≡ Some p → slice_get now j ≡ Some q
    → p.start + p.len ≤ q.start
in_order d u floor [] are i j p q low e f = absurd (cc)
in_order d u floor (o ∷ now) are zero zero p q low e f = absurd (omega (arith, low))
in_order d u floor (o ∷ now) are zero (suc j) p q low e f =
    let r = (rises d u (hole_end (place o)) now are.1 j q f).onward in
    subst (λ (x : Owned). x.start + x.len ≤ q.start) (one_element (o ∷ now) 0 o p refl e) r
in_order d u floor (o ∷ now) are (suc i) zero p q low e f = absurd (omega (arith, low))
in_order d u floor (o ∷ now) are (suc i) (suc j) p q low e f = in_order d u (hole_end (place o)) now are.1 i j p q (omega (arith, low)) e f

-- ---- sectors

-- the sectors of an object's units
abbrev pub body : ℕ → Owned → List ℕ
body units o = hole_sectors_in units (record { start = o.start; len = o.len })

pub in_body : (units : ℕ) (owned : List Owned) (o : Owned) (s : ℕ) → Contains owned o → is_among (body units o) s ≡ true → is_in_body units owned s ≡ true
in_body units owned o s at h = any_in (λ (p : Owned). is_among (body units p) s) owned o at h

pub of_body : (units : ℕ) (owned : List Owned) (s : ℕ) → is_in_body units owned s ≡ true → (o : Owned) × Contains owned o × (is_among (body units o) s ≡ true)
of_body units owned s h = in_any (λ (p : Owned). is_among (body units p) s) owned h
