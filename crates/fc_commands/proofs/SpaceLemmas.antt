-- The steps of a change of space can be made of a new map.
use Rattle.std.proofs.Common.{◌≡◌, ℕ, Bool, true, false, List, [], refl, sym, ap, subst, ◌∙◌, arith, Option, Some, None}
use Rattle.std.specs.Prelude.{◌||◌, AllPairs, Contains, IfSome, IsSome}
use Rattle.std.specs.Option.{option_to_list}
use Rattle.fc_newmap.specs.Map.{Map, hole_runs, runs_of, zone_numbers}
use Rattle.fc_newmap.specs.NewMap.{IsNewMap}
use Rattle.fc_image.specs.effects.Placed.{BeginsBefore}
use Rattle.fc_changes.proofs.BasicLemmas.{filter_same}
use Rattle.fc_plan.specs.declared.plan.Part.{Part}
use Rattle.fc_plan.specs.declared.plan.Plan.{Plan}
use Rattle.fc_plan.specs.Applied.{CanTakePlan, is_changed as changes}
use Rattle.fc_plan.specs.Giving.{has_run_of, is_one_of}
use Rattle.fc_plan.specs.Parts.{fronts, has_part}
use Rattle.fc_changes.specs.Space.{zones_changed}
use Rattle.fc_changes.proofs.StepsLemmas.{unlisted, zones_low, zones_rise}
use Rattle.fc_tree.proofs.MemberLemmas.{no_element}
use Rattle.fc_edits.proofs.lemmas.ShapeLemmas.{only}
use Rattle.fc_writing.specs.declared.ready.MapStep.{MapStep}
use Rattle.fc_writing.specs.declared.ready.MapStep.TheVariants as steps
use Rattle.fc_writing.specs.declared.ready.RootPlace.{RootPlace}
use Rattle.fc_writing.specs.declared.ready.SpaceStep.{SpaceStep}
use Rattle.fc_writing.specs.Steps.{CanEdit, CanRoot, CanStep, CanTakeAll, HasStepped, is_changed}
use Rattle.fc_writing.proofs.LaterLemmas.{later_law}
use Rattle.fc_change.specs.Steps.{IsSpaceStep, IsStep, zones_of}
use Rattle.fc_commands.proofs.StepLemmas.{StaysTaken}

-- ---- the zones that are listed

or_nothing : (a b : Bool) → ((a || false) || b) ≡ (a || (false || b))
or_nothing true b = refl
or_nothing false b = refl

-- one plan, or none, changes the zones that it changed as an option
same_changes : (m : Map) (plan : Option Plan) (gone : List ℕ) (z : ℕ) → is_changed m (option_to_list plan) gone z ≡ changes m plan None gone z
same_changes m None gone z = refl
same_changes m (Some p) gone z = or_nothing (has_part (fronts p.parts.items) z) (has_run_of gone (runs_of m z))

pub zones_same : (m : Map) (plan : Option Plan) (gone : List ℕ) → zones_of m (option_to_list plan) gone None ≡ zones_changed m plan gone
zones_same m plan gone = filter_same (is_changed m (option_to_list plan) gone) (changes m plan None gone) (zone_numbers m.geometry) (λ z at. same_changes m plan gone z)

-- ---- a step

pub no_parts_kept : AllPairs BeginsBefore (fronts [])
no_parts_kept i j d less low = absurd (omega (arith, low, less))

abbrev pub CanTakeIf : Map → Option Plan → Type 0
CanTakeIf m None = Unit {0}
CanTakeIf m (Some p) = CanTakePlan m.geometry (hole_runs m) p

take_all : (m : Map) (plan : Option Plan) → CanTakeIf m plan → CanTakeAll m.geometry (hole_runs m) (option_to_list plan)
take_all m None can = tt
take_all m (Some p) can = (can, tt)

-- a step of one plan or none, and of identifiers that go back, can be made of the map on which it was found
pub can_edit : (m : Map) (plan : Option Plan) (gone : List ℕ) (s : SpaceStep) → IsSpaceStep m (option_to_list plan) gone [] None s → CanTakeIf m plan → CanEdit m s
can_edit m plan gone s is can =
    let zones = is.zones ∙ zones_same m plan gone in
    record {
      plans = subst (λ (ps : List Plan). CanTakeAll m.geometry (hole_runs m) ps) (sym is.plans_are) (take_all m plan can);
      kept = subst (λ (ks : List Part). AllPairs BeginsBefore (fronts ks)) (sym is.kept_are) no_parts_kept;
      root = subst (λ (o : Option RootPlace). IfSome o (CanRoot m)) (sym is.root_is) tt;
      rising = zones_rise m plan gone s.zones.items zones;
      low = zones_low m plan gone s.zones.items zones;
      all = λ z low none.
          subst (λ (ps : List Plan). is_changed m ps s.gone.items z ≡ false) (sym is.plans_are)
          (subst (λ (gs : List ℕ). is_changed m (option_to_list plan) gs z ≡ false) (sym is.gone_are) (same_changes m plan gone z ∙ unlisted m plan gone s.zones.items zones z low none));
      first = λ some. absurd (let no : IsSome {T = RootPlace} None = subst (λ (o : Option RootPlace). IsSome o) is.root_is some in cc);
    }

-- the first step
pub can_take : (m : Map) (plan : Option Plan) (take : MapStep) → IsStep m (option_to_list plan) [] [] None take → CanTakeIf m plan → CanStep m take
can_take m plan (steps.New s) is can = can_edit m plan [] s is can
can_take m plan (steps.Old space) is can = absurd is
can_take m plan steps.Nothing is can = tt

-- the second, of the map between
other_ids : (plan : Option Plan) (gone : List ℕ) → StaysTaken plan gone → (p : Plan) → Contains (option_to_list plan) p → is_one_of gone p.id ≡ false
other_ids None gone stays p at = absurd (no_element p at)
other_ids (Some q) gone stays p at = subst (λ (x : Plan). is_one_of gone x.id ≡ false) (only q p at) stays

pub can_give : (m mid : Map) (plan : Option Plan) (gone : List ℕ) (take give : MapStep) → IsNewMap m → IsStep m (option_to_list plan) [] [] None take → IsStep m [] gone [] None give
    → StaysTaken plan gone → HasStepped m mid take → CanStep mid give
can_give m mid plan gone (steps.New first) (steps.New later) is takes gives stays done =
    later_law m mid first later is done
    (record {
      nothing = gives.plans_are;
      none_kept = gives.kept_are;
      no_root = gives.root_is;
      zones = gives.zones ∙ zones_same m None gone ∙ ap (λ (gs : List ℕ). zones_changed m None gs) (sym gives.gone_are);
      others = λ p at.
          subst (λ (gs : List ℕ). is_one_of gs p.id ≡ false) (sym gives.gone_are)
          (other_ids plan gone stays p (subst (λ (ps : List Plan). Contains ps p) takes.plans_are at));
    })
can_give m mid plan gone steps.Nothing (steps.New later) is takes gives stays done = subst (λ (x : Map). CanEdit x later) (sym done) (can_edit m None gone later gives tt)
can_give m mid plan gone (steps.Old space) (steps.New later) is takes gives stays done = absurd takes
can_give m mid plan gone take (steps.Old space) is takes gives stays done = absurd gives
can_give m mid plan gone take steps.Nothing is takes gives stays done = tt
