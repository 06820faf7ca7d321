-- Why nothing is left to do after `squash`.
use Rattle.std.proofs.Common.{◌≡◌, ℕ, zero, suc, Bool, true, false, not, List, [], ◌∷◌, length, refl, sym, ap, ap₂, ◌∙◌, arith}
use Rattle.std.specs.Prelude.{◌==◌, ◌||◌, ◌&&◌, Contains}
use Rattle.std.specs.List.{list_any, list_all}
use Rattle.std.proofs.lemmas.Bool.{eqb-true, eqb-false, eq-eqb, not-true as not_both, and_parts}
use Rattle.fc_oldmap.specs.declared.Hole.{Hole}
use Rattle.fc_oldmap.specs.Holes.{hole_end}
use Rattle.fc_image.specs.Walk.{Object}
use Rattle.fc_image.specs.Objects.{has_sectors}
use Rattle.fc_image.specs.declared.effects.Owned.{Owned}
use Rattle.fc_image.specs.effects.Settled.{is_object_start}
use Rattle.fc_squash.specs.Laws.{SettledLaw}
use Rattle.fc_image.proofs.lemmas.effects.OneHoleLemmas.{differ, Every}

every_contained : {A : Type 0} (P : A → Type 0) (xs : List A) → ((x : A) → Contains xs x → P x) → Every P xs
every_contained P [] each = tt
every_contained P (x ∷ xs) each = (each x (0, omega arith, refl), every_contained P xs (λ y there. each y (suc there.0, omega (arith, there.1), there.2)))

owned_start : (owned : List Owned) (p : Owned) → Contains owned p → list_any (λ o. o.start == p.start) owned ≡ true
owned_start [] p there = absurd (omega (arith, there.1))
owned_start (o ∷ owned) p (zero, lt, e) = ap (λ b. b || list_any (λ q. q.start == p.start) owned) (eq-eqb o.start p.start (ap (λ (q : Owned). q.start) e))
owned_start (o ∷ owned) p (suc k, lt, e) = or_true (o.start == p.start) (list_any (λ q. q.start == p.start) owned) (owned_start owned p (k, omega (arith, lt), e))
  where
    or_true : (a b : Bool) → b ≡ true → (a || b) ≡ true
    or_true true b e = refl
    or_true false b e = e

no_start_there : (at : ℕ) (owned : List Owned) (objects : List Object) → list_any (λ (o : Owned). o.start == at) owned ≡ false
    → Every (λ o. has_sectors o ≡ true → (length o.path ≡ 0 → ⊥) → (p : Owned) × Contains owned p × (p.start ≡ o.entry.address)) objects
    → is_object_start objects at ≡ false
no_start_there at owned [] none all = refl
no_start_there at owned (o ∷ objects) none (here, all) = ap₂ (λ a b. a || b) off (no_start_there at owned objects none all)
  where
    by : (x y z : Bool) → has_sectors o ≡ x → (length o.path == 0) ≡ y → (o.entry.address == at) ≡ z → (x && not y && z) ≡ false
    by true false true e f g =
        let p = here e (eqb-false (length o.path) 0 f) in
        let start : p.0.start ≡ at = p.2 ∙ eqb-true o.entry.address at g in
        absurd (differ (sym (owned_start owned p.0 p.1) ∙ ap (λ n. list_any (λ (q : Owned). q.start == n) owned) start ∙ none))
    by true false false e f g = refl
    by true true z e f g = refl
    by false y z e f g = refl

    off : (has_sectors o && not (length o.path == 0) && (o.entry.address == at)) ≡ false
    off = by (has_sectors o) (length o.path == 0) (o.entry.address == at) refl refl refl

pub settled_space : SettledLaw
settled_space old space was owned objects each settled =
    ap₂ (λ a b. a && b) settled.apart (go space.holes settled.settled)
  where
    all : Every (λ o. has_sectors o ≡ true → (length o.path ≡ 0 → ⊥) → (p : Owned) × Contains owned p × (p.start ≡ o.entry.address)) objects
    all = every_contained (λ o. has_sectors o ≡ true → (length o.path ≡ 0 → ⊥) → (p : Owned) × Contains owned p × (p.start ≡ o.entry.address)) objects each

    go : (holes : List Hole) → list_all (λ h. not (list_any (λ o. o.start == hole_end h) owned)) holes ≡ true → list_all (λ h. not (is_object_start objects (hole_end h))) holes ≡ true
    go [] e = refl
    go (h ∷ holes) e =
        let none = not_both (list_any (λ (o : Owned). o.start == hole_end h) owned)
        ((and_parts (not (list_any (λ (o : Owned). o.start == hole_end h) owned)) (list_all (λ g. not (list_any (λ o. o.start == hole_end g) owned)) holes) e).0) in
        ap₂ (λ a b. not a && b) (no_start_there (hole_end h) owned objects none all)
        (go holes ((and_parts (not (list_any (λ (o : Owned). o.start == hole_end h) owned)) (list_all (λ g. not (list_any (λ o. o.start == hole_end g) owned)) holes) e).1))
