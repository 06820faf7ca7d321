-- The zones that change by what is taken of a new map and goes back.
use Rattle.std.proofs.Common.{◌≡◌, ◌||◌, ◌++◌, ℕ, Bool, true, false, List, [], ◌∷◌, length, ◌==◌, Option, Some, None, refl, sym, ap, ap₂, ◌∙◌}
use Rattle.std.specs.Prelude.{filter}
use Rattle.std.specs.Borrow.{Bor}
use Rattle.std.specs.Option.{option_copied}
use Rattle.fc_changes.proofs.BasicLemmas.{filter_same}
use Rattle.fc_newmap.specs.Map.{Map, runs_of, zone_numbers}
use Rattle.fc_plan.specs.declared.plan.Plan.{Plan}
use Rattle.fc_plan.specs.Applied.{is_changed as is_changed_by, plan_in}
use Rattle.fc_plan.specs.Giving.{has_run_of}
use Rattle.fc_plan.specs.Parts.{fronts, has_part}
use Rattle.fc_writing.specs.Steps.{is_changed}
use Rattle.fc_change.specs.GrownSpace.{plans_of}
use Rattle.fc_change.specs.Steps.{IsNoStep}

lent : (o : Option (Bor Plan)) → plan_in o ≡ option_copied o
lent None = refl
lent (Some plan) = refl

-- One plan after another is as one beside the other.
one_after : (m : Map) (object dir : Option Plan) (gone : List ℕ) (z : ℕ) → is_changed_by m object dir gone z ≡ is_changed m (plans_of object dir) gone z
one_after m None None gone z = refl
one_after m None (Some q) gone z = by (has_part (fronts q.parts.items) z) (has_run_of gone (runs_of m z))
  where
    by : (b x : Bool) → (b || x) ≡ ((b || false) || x)
    by true x = refl
    by false x = refl
one_after m (Some p) None gone z = by (has_part (fronts p.parts.items) z) (has_run_of gone (runs_of m z))
  where
    by : (b x : Bool) → (b || x) ≡ ((b || false) || x)
    by true x = refl
    by false x = refl
one_after m (Some p) (Some q) gone z = by (has_part (fronts p.parts.items) z) (has_part (fronts q.parts.items) z) (has_run_of gone (runs_of m z))
  where
    by : (a b x : Bool) → (a || (b || x)) ≡ ((a || (b || false)) || x)
    by true b x = refl
    by false true x = refl
    by false false x = refl

pub zones_listed : (m : Map) (object dir : Option (Bor Plan)) (own grown : Option Plan) (gone old zones : List ℕ) → option_copied object ≡ own → option_copied dir ≡ grown → old ≡ []
    → zones ≡ old ++ filter (is_changed_by m (plan_in object) (plan_in dir) gone) (zone_numbers m.geometry) → zones ≡ filter (is_changed m (plans_of own grown) gone) (zone_numbers m.geometry)
zones_listed m object dir own grown gone old zones own_is grown_is none are =
    are ∙ ap (λ (xs : List ℕ). xs ++ filter (is_changed_by m (plan_in object) (plan_in dir) gone) (zone_numbers m.geometry)) none
    ∙ filter_same (is_changed_by m (plan_in object) (plan_in dir) gone) (is_changed m (plans_of own grown) gone) (zone_numbers m.geometry)
    (λ z at. ap₂ (λ (a b : Option Plan). is_changed_by m a b gone z) (lent object ∙ own_is) (lent dir ∙ grown_is) ∙ one_after m own grown gone z)

-- Some identifiers go back.
pub some_given : (gone : List ℕ) (count : ℕ) (empty : Bool) → length gone ≡ count → empty ≡ (count == 0) → empty ≡ false → IsNoStep [] gone None → ⊥
some_given gone count empty long is none nothing =
    let z : count ≡ 0 = sym long ∙ ap (λ (xs : List ℕ). length xs) nothing.gone_are in
    let e : true ≡ false = sym (ap (λ (n : ℕ). n == 0) z) ∙ sym is ∙ none in
    cc
