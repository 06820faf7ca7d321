-- Plans that meet needs by first fit can be taken, one after another.
use Rattle.std.proofs.Common.{◌≡◌, ◌<◌, ◌^◌, ℕ, zero, suc, List, [], ◌∷◌, get_or, refl, sym, ap, subst, ◌∙◌, arith, Some, None, Option, Contains, All}
use Rattle.std.specs.Prelude.{AllPairs}
use Rattle.std.specs.Option.{option_map}
use Rattle.std.proofs.lemmas.List.Elements.{All-contains, All-from_recursion, Contains-get_or}
use Rattle.fc_record.specs.declared.Geometry.{Geometry}
use Rattle.fc_newmap.specs.Map.{Map, ZoneRun, hole_runs}
use Rattle.fc_newmap.specs.NewMap.{IsNewMap}
use Rattle.fc_image.specs.effects.Placed.{BeginsBefore, HasRunLength, holes_left}
use Rattle.fc_image.specs.effects.Sharing.{new_ids, units}
use Rattle.fc_image.specs.safe.FirstFit.{first_fit}
use Rattle.fc_image.specs.safe.SafeShort.{fitted}
use Rattle.fc_plan.specs.declared.plan.Plan.{Plan}
use Rattle.fc_plan.specs.Parts.{fronts}
use Rattle.fc_plan.specs.Plan.{AreFreeRuns, AreParts, IsFrontOfOne}
use Rattle.fc_plan.proofs.FirstFit.{Fits, first_fits, fit_leaves, fit_leaves_free, units_least}
use Rattle.fc_plan.proofs.Order.{Rising, map_holes-free}
use Rattle.fc_plan.proofs.Plans.{min_some, min_whole, once_of, rising_apart}
use Rattle.fc_plan.proofs.Shorts.{are_new_ids}
use Rattle.fc_plan.proofs.Units.{units_whole_of}
use Rattle.fc_writing.specs.Steps.{CanTakeAll}
use Rattle.fc_safe.specs.Needs.{AreMet, CanNeed, HaveIds, IsIdOf, bits_of, parts_of}
use Rattle.fc_safe.specs.declared.needs.Need.{Need}
use Rattle.fc_safe.proofs.NeedsLemmas.{fitted_next, fitted_none}

-- An identifier can have runs.
pub record CanHave (m : Map) (id : ℕ) : Type 0 where
  pub some : 0 < id
  pub fits : id < 2 ^ m.geometry.idlen

pub pairs_of : (ps : List ZoneRun) → Rising ps → AllPairs BeginsBefore ps
pairs_of [] rising i j d less low = absurd (omega (arith, low))
pairs_of (p ∷ ps) rising zero zero d less low = absurd (omega (arith, less))
pairs_of (p ∷ ps) rising zero (suc j) d less low = All-contains (BeginsBefore p) ps (get_or ps j d) (All-from_recursion (BeginsBefore p) ps rising.0) (Contains-get_or ps j d (omega (arith, low)))
pairs_of (p ∷ ps) rising (suc i) zero d less low = absurd (omega (arith, less))
pairs_of (p ∷ ps) rising (suc i) (suc j) d less low = pairs_of ps rising.1 i j d (omega (arith, less)) (omega (arith, low))

module _ (m : Map) (is : IsNewMap m) where
  abbrev g : Geometry
  g = m.geometry

  -- the parts of a first fit
  fits_of : (holes parts : List ZoneRun) (bytes : ℕ) → 0 < bytes → AreFreeRuns g holes → first_fit g (units g bytes) holes ≡ Some parts → Fits g holes parts
  fits_of holes parts bytes some free e =
      first_fits g (min_some g is.of_record) (min_whole g is.of_record) holes (units g bytes) parts (units_least g bytes some) (units_whole_of g bytes is.of_record) free e

  cut_of : (holes parts : List ZoneRun) → Fits g holes parts → AreParts g holes parts
  cut_of holes parts fits =
      let front = All-from_recursion (IsFrontOfOne g holes) parts fits.0 in
      record { fronts = front; once = once_of g holes parts front (rising_apart parts fits.2); long = All-from_recursion (HasRunLength g) parts fits.1 }

  left_free : (holes parts : List ZoneRun) → AreFreeRuns g holes → Fits g holes parts → AreFreeRuns g (holes_left holes parts)
  left_free holes parts free fits =
      subst (AreFreeRuns g) (fit_leaves g holes parts (min_some g is.of_record) free fits) (fit_leaves_free g holes parts (min_some g is.of_record) free fits)

  -- what is met by a list of parts is met by each in what those before it left
  first_of : (bits : ℕ) (rest : List ℕ) (holes parts : List ZoneRun) (others : List (List ZoneRun)) → fitted m (bits ∷ rest) holes ≡ Some (parts ∷ others)
      → (first_fit g bits holes ≡ Some parts) × (fitted m rest (holes_left holes parts) ≡ Some others)
  first_of bits rest holes parts others e = by (first_fit g bits holes) refl
    where
      by : (o : Option (List ZoneRun)) → first_fit g bits holes ≡ o → (first_fit g bits holes ≡ Some parts) × (fitted m rest (holes_left holes parts) ≡ Some others)
      by None f = absurd (let none = sym e ∙ fitted_none m bits rest holes f in cc)
      by (Some found) f = from (fitted m rest (holes_left holes found)) refl (sym (fitted_next m bits rest holes found f) ∙ e)
        where
          from : (o : Option (List (List ZoneRun))) → fitted m rest (holes_left holes found) ≡ o → option_map (λ (all : List (List ZoneRun)). found ∷ all) (fitted m rest (holes_left holes found)) ≡ Some (parts ∷ others)
              → (first_fit g bits holes ≡ Some parts) × (fitted m rest (holes_left holes parts) ≡ Some others)
          from None k h = absurd (let none = sym (ap (option_map (λ (all : List (List ZoneRun)). found ∷ all)) k) ∙ h in cc)
          from (Some all) k h =
              let both = sym (ap (option_map (λ (all : List (List ZoneRun)). found ∷ all)) k) ∙ h in
              let same : found ≡ parts = cc in
              let more : all ≡ others = cc in (
                f ∙ ap (λ (ps : List ZoneRun). let o : Option (List ZoneRun) = Some ps in o) same,
                ap (λ (ps : List ZoneRun). fitted m rest (holes_left holes ps)) (sym same) ∙ k ∙ ap (λ (ps : List (List ZoneRun)). let o : Option (List (List ZoneRun)) = Some ps in o) more,
              )

  -- the identifier of one need, and those that are left
  id_of_need : (o : Option ℕ) (left rest : List ℕ) (own : ℕ) → IsIdOf o left rest own → ((id : ℕ) → Contains left id → CanHave m id) → ((id : ℕ) → o ≡ Some id → CanHave m id) → CanHave m own × ((id : ℕ) → Contains rest id → CanHave m id)
  id_of_need (Some id) left rest own is_id new old = (
    subst (CanHave m) (sym is_id.0) (old id refl),
    λ k at. new k (subst (λ (xs : List ℕ). Contains xs k) is_id.1 at),
  )
  id_of_need None left rest own is_id new old = (
    new own (subst (λ (xs : List ℕ). Contains xs own) (sym is_id) (0, omega arith, refl)),
    λ k at. new k (subst (λ (xs : List ℕ). Contains xs k) (sym is_id) (suc at.0, (let low = at.1 in omega (arith, low)), at.2)),
  )

  take_from : (needs : List Need) (plans : List Plan) (ids left : List ℕ) (holes : List ZoneRun) → AreFreeRuns g holes → ((n : Need) → Contains needs n → 0 < n.bytes)
      → fitted m (bits_of g needs) holes ≡ Some (parts_of plans) → HaveIds ids needs plans left → ((id : ℕ) → Contains ids id → CanHave m id)
      → ((n : Need) (id : ℕ) → Contains needs n → n.id ≡ Some id → CanHave m id) → CanTakeAll g holes plans
  take_from [] [] ids left holes free some fit have new old = tt
  take_from [] (p ∷ plans) ids left holes free some fit have new old = absurd have
  take_from (n ∷ needs) [] ids left holes free some fit have new old = absurd have
  take_from (n ∷ needs) (p ∷ plans) ids left holes free some fit have new old =
      let first = first_of (units g n.bytes) (bits_of g needs) holes (fronts p.parts.items) (parts_of plans) fit in
      let fits = fits_of holes (fronts p.parts.items) n.bytes (some n (0, omega arith, refl)) free first.0 in
      let id = id_of_need n.id ids have.0 p.id have.1 new (λ k e. old n k (0, omega arith, refl) e) in (
        record { cut = cut_of holes (fronts p.parts.items) fits; rising = pairs_of (fronts p.parts.items) fits.2; some = id.0.some; fits = id.0.fits },
        take_from needs plans have.0 left (holes_left holes (fronts p.parts.items)) (left_free holes (fronts p.parts.items) free fits)
            (λ k at. some k (suc at.0, (let low = at.1 in omega (arith, low)), at.2)) first.1 have.2 id.1 (λ k j at e. old k j (suc at.0, (let low = at.1 in omega (arith, low)), at.2) e),
      )

  new_can : (id : ℕ) → Contains (new_ids m) id → CanHave m id
  new_can id at = let ids = are_new_ids m in let low = ids.some id at in record { some = omega (arith, low); fits = ids.fit id at }

  pub take_all : (needs : List Need) (plans : List Plan) → AreMet m needs plans → All CanNeed needs → ((n : Need) (id : ℕ) → Contains needs n → n.id ≡ Some id → CanHave m id) → CanTakeAll g (hole_runs m) plans
  take_all needs plans met can old =
      take_from needs plans (new_ids m) met.left (hole_runs m) (map_holes-free m is) (λ n at. (All-contains CanNeed needs n can at).some) met.fit met.ids new_can old
