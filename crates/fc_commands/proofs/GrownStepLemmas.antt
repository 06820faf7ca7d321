-- The first step of a new map in which a directory grows: what is taken for an object and for the directory, and what goes back at once.
use Rattle.std.proofs.Common.{◌≡◌, ◌<◌, ◌⊎◌, inl, inr, ⊎_elim, ℕ, Bool, true, false, cond, List, [], ◌∷◌, ◌++◌, filter, length, refl, sym, ap, ap₂, subst, ◌∙◌, Option, Some, None}
use Rattle.std.specs.Prelude.{◌&&◌, IfSome, IsPermutation, is_none, not}
use Rattle.std.specs.List.{find, list_any, flat_map}
use Rattle.fc_record.specs.declared.Geometry.{Geometry}
use Rattle.fc_zone.specs.declared.Run.{Run}
use Rattle.fc_newmap.specs.Map.{Map, ZoneRun, all_runs, has_id, hole_runs, id_runs, is_hole, is_used, runs_in, runs_of, search_order}
use Rattle.fc_newmap.specs.NewMap.{IsNewMap}
use Rattle.fc_newmap.specs.Edits.{KeepsRuns}
use Rattle.fc_image.specs.effects.Placed.{holes_left, stands_at}
use Rattle.fc_image.specs.effects.Steady.{has_id_that, holes_with, runs_that, zone_holes}
use Rattle.fc_plan.specs.declared.plan.Part.{Part}
use Rattle.fc_plan.specs.declared.plan.Plan.{Plan}
use Rattle.fc_plan.specs.Applied.{CanTakePlan, IsOther, IsTakenIn, gained, id_in, parts_in, unless_gone}
use Rattle.fc_plan.specs.Giving.{is_given, is_one_of, stays_given}
use Rattle.fc_plan.specs.Parts.{fronts}
use Rattle.fc_plan.specs.Taking.{as_runs, own_runs, runs_taken, own_of}
use Rattle.fc_plan.proofs.Applies.{can_then, cut_in, dir_taken, no_parts, none_kept, object_taken, others_stay, same_gone}
use Rattle.fc_plan.proofs.Composed.{given_after_take, given_at_holes}
use Rattle.fc_plan.proofs.Left.{left_of_none}
use Rattle.fc_changes.specs.Space.{HasTaken, IsMapEdited}
use Rattle.fc_changes.proofs.StepsLemmas.{ids_same}
use Rattle.fc_writing.specs.declared.ready.MapStep.{MapStep}
use Rattle.fc_writing.specs.declared.ready.MapStep.TheVariants as steps
use Rattle.fc_writing.specs.declared.ready.RootPlace.{RootPlace}
use Rattle.fc_writing.specs.declared.ready.SpaceStep.{SpaceStep}
use Rattle.fc_writing.specs.Steps.{AreTaken, HasEdited, HasMoved, HasStepped, rooted_map}
use Rattle.fc_writing.proofs.StepLemmas.{rooted_geometry}
use Rattle.fc_change.specs.GrownSpace.{gone_at_once, kept_parts, plans_of}
use Rattle.fc_change.specs.Steps.{IsSpaceStep, IsStep}
use Rattle.fc_commands.proofs.RowLemmas.{same_runs}
use Rattle.fc_commands.proofs.StepLemmas.{edited_same, every_same, given_none, holes_same}
use Rattle.fc_laws.proofs.lemmas.agree.MapLemmas.{no_id as none_goes}
use Rattle.fc_changes.proofs.CommittedLemmas.{all_same as runs_same}

-- ---- nothing is taken, or goes back

nothing_taken : (id z : ℕ) (runs : List Run) → runs_taken id [] z runs ≡ runs
nothing_taken id z [] = refl
nothing_taken id z (r ∷ runs) = ap₂ (λ (a b : List Run). a ++ b) (by (is_hole r.kind)) (nothing_taken id z runs)
  where
    by : (b : Bool) → (let rs : List Run = cond b (r ∷ []) (r ∷ []) in rs) ≡ r ∷ []
    by true = refl
    by false = refl

-- whatever is kept
all_stay : (kept ps : List ZoneRun) → filter (stays_given [] kept) ps ≡ ps
all_stay kept [] = refl
all_stay kept (p ∷ ps) =
    ap₂ (λ (b : Bool) (qs : List ZoneRun). cond b (p ∷ qs) qs) (ap (λ (b : Bool). not (b && is_none (find (stands_at p) kept))) (none_goes p.1.kind)) (all_stay kept ps)

none_given : (kept ps : List ZoneRun) → filter (is_given [] kept) ps ≡ []
none_given kept [] = refl
none_given kept (p ∷ ps) =
    ap₂ (λ (b : Bool) (qs : List ZoneRun). cond b (p ∷ qs) qs) (ap (λ (b : Bool). b && is_none (find (stands_at p) kept)) (none_goes p.1.kind)) (none_given kept ps)

-- The parts that are kept are those of the directory, where anything goes back at once.
stay_same : (dir : Option Plan) (alone : Bool) (ps : List ZoneRun)
    → filter (stays_given (gone_at_once dir alone) (fronts (kept_parts dir alone))) ps ≡ filter (stays_given (gone_at_once dir alone) (parts_in dir)) ps
stay_same None alone ps = refl
stay_same (Some q) true ps = refl
stay_same (Some q) false ps = all_stay [] ps ∙ sym (all_stay (fronts q.parts.items) ps)

given_same : (dir : Option Plan) (alone : Bool) (ps : List ZoneRun)
    → filter (is_given (gone_at_once dir alone) (fronts (kept_parts dir alone))) ps ≡ filter (is_given (gone_at_once dir alone) (parts_in dir)) ps
given_same None alone ps = refl
given_same (Some q) true ps = refl
given_same (Some q) false ps = none_given [] ps ∙ sym (none_given (fronts q.parts.items) ps)

-- ---- one plan, if there is one

-- The plan's parts are runs of its identifier, and all else is as it was.
pub record IsTakenOne (m n : Map) (plan : Option Plan) : Type 0 where
  pub is_map : IsNewMap n
  pub geometry : n.geometry ≡ m.geometry
  pub holes : hole_runs n ≡ holes_left (hole_runs m) (parts_in plan)
  pub own : IfSome plan (λ (p : Plan). id_runs n p.id ≡ own_runs m p.id (fronts p.parts.items))
  pub all : IfSome plan (λ (p : Plan). IsPermutation (id_runs n p.id) (gained m p))
  pub others : (id : ℕ) → IsOther id plan → id_runs n id ≡ id_runs m id
  pub runs : (z : ℕ) → z < m.geometry.zones → runs_of n z ≡ runs_taken (id_in plan) (parts_in plan) z (runs_of m z)
  pub took : IfSome plan (λ (p : Plan). HasTaken m n p.id (fronts p.parts.items))

none_taken : (m : Map) → IsNewMap m → IsTakenOne m m None
none_taken m is = record {
  is_map = is;
  geometry = refl;
  holes = sym (left_of_none (hole_runs m));
  own = tt;
  all = tt;
  others = λ id other. refl;
  runs = λ z low. sym (nothing_taken 0 z (runs_of m z));
  took = tt;
}

one_taken : (m n : Map) (p : Plan) → IsNewMap n → HasTaken m n p.id (fronts p.parts.items) → IsTakenOne m n (Some p)
one_taken m n p is taken = record { is_map = is; geometry = taken.geometry; holes = taken.holes; own = taken.own; all = taken.gained; others = taken.others; runs = taken.runs; took = taken }

-- an object's, and then a directory's
two_taken : (m n : Map) (object dir : Option Plan) → IsNewMap m → AreTaken m (plans_of object dir) n → (mid : Map) × IsTakenOne m mid object × IsTakenOne mid n dir
two_taken m n None None is t = (m, none_taken m is, subst (λ (x : Map). IsTakenOne m x None) (sym t) (none_taken m is))
two_taken m n (Some p) None is t = (t.0, one_taken m t.0 p t.1 t.2, subst (λ (x : Map). IsTakenOne t.0 x None) (sym t.3) (none_taken t.0 t.1))
two_taken m n None (Some q) is t = (m, none_taken m is, subst (λ (x : Map). IsTakenOne m x (Some q)) (sym t.3) (one_taken m t.0 q t.1 t.2))
two_taken m n (Some p) (Some q) is t =
    let u = t.3 in (t.0, one_taken m t.0 p t.1 t.2, subst (λ (x : Map). IsTakenOne t.0 x (Some q)) (sym u.3) (one_taken t.0 u.0 q u.1 u.2))

-- ---- maps with the same runs

-- What was taken of a map was taken of one that has the same runs.
took_of : (m first n : Map) (id : ℕ) (parts : List ZoneRun) → KeepsRuns m first → HasTaken first n id parts → HasTaken m n id parts
took_of m first n id parts kept taken = record {
  geometry = taken.geometry ∙ kept.geometry;
  runs = λ z low. taken.runs z (subst (λ (g : Geometry). z < g.zones) (sym kept.geometry) low) ∙ ap (runs_taken id parts z) (kept.runs z);
  holes = taken.holes ∙ ap (λ (hs : List ZoneRun). holes_left hs parts) (holes_same m first kept);
  own = taken.own ∙ ap (λ (g : Geometry). flat_map (own_of id parts) (runs_in first (search_order g id))) kept.geometry ∙ ap (flat_map (own_of id parts)) (runs_same m first kept (search_order m.geometry id));
  gained = subst (λ (runs : List ZoneRun). IsPermutation (id_runs n id) (runs ++ as_runs id parts)) (ids_same m first kept id) taken.gained;
  others = λ other ne. taken.others other ne ∙ ids_same m first kept other;
}

-- ---- the plans fit the map

-- Both can be taken, the directory's after the object's. The object's identifier is unused; so is the directory's, unless its old runs go
-- back at once. None of them goes back at last, and of the two times one gives nothing back.
pub record PlansFit (m : Map) (object dir : Option Plan) (alone : Bool) (back : List ℕ) : Type 0 where
  pub object_can : IfSome object (CanTakePlan m.geometry (hole_runs m))
  pub object_new : IfSome object (λ (p : Plan). is_used m p.id ≡ false)
  pub object_some : 0 < length (parts_in object) ⊎ (object ≡ None)
  pub dir_can : IfSome dir (CanTakePlan m.geometry (holes_left (hole_runs m) (parts_in object)))
  pub dir_new : IfSome dir (λ (p : Plan). (is_used m p.id ≡ false) ⊎ (is_one_of (gone_at_once dir alone) p.id ≡ true))
  pub two : IfSome object (λ (p : Plan). IsOther p.id dir)
  pub object_stays : IfSome object (λ (p : Plan). (is_one_of (gone_at_once dir alone) p.id ≡ false) × (is_one_of back p.id ≡ false))
  pub dir_stays : IfSome dir (λ (p : Plan). is_one_of back p.id ≡ false)
  pub once : (gone_at_once dir alone ≡ []) ⊎ (back ≡ [])

pub with_some : {P Q : Plan → Type 0} (o : Option Plan) → ((p : Plan) → P p → Q p) → IfSome o P → IfSome o Q
with_some None f h = tt
with_some (Some p) f h = f p h

used_same : (m n : Map) (id : ℕ) → KeepsRuns m n → is_used n id ≡ is_used m id
used_same m n id kept = ap (λ (runs : List ZoneRun). list_any (λ (p : ZoneRun). has_id id p.1.kind) runs) (every_same m n kept)

-- ---- the first step

-- What a map is once the first step was made of it.
pub record IsGrownTaken (m mid : Map) (object dir : Option Plan) (alone : Bool) (root : Option RootPlace) : Type 0 where
  pub edited : IsMapEdited (rooted_map root m) mid
  pub geometry : mid.geometry ≡ m.geometry
  pub holes : (z : ℕ) → z < m.geometry.zones
      → zone_holes (hole_runs mid) z ≡ holes_with (zone_holes (holes_left (holes_left (hole_runs m) (parts_in object)) (parts_in dir)) z) (zone_holes (runs_that (is_one_of (gone_at_once dir alone)) m) z)
  pub object_taken : IfSome object (IsTakenIn mid)
  pub dir_taken : IfSome dir (IsTakenIn mid)
  -- a map on which the object's plan alone was taken, and where it has the same runs
  pub object_first : IfSome object (λ (p : Plan). (n : Map) × HasTaken m n p.id (fronts p.parts.items) × IsTakenIn n p)
  pub others : (id : ℕ) → IsOther id object → IsOther id dir → id_runs mid id ≡ unless_gone (gone_at_once dir alone) id (id_runs m id)
  -- If nothing goes back at once, other identifiers have the runs that they had, in the order of the zones.
  pub kept : gone_at_once dir alone ≡ [] → (ids : List ℕ) → IfSome object (λ (p : Plan). is_one_of ids p.id ≡ false) → IfSome dir (λ (p : Plan). is_one_of ids p.id ≡ false)
      → runs_that (is_one_of ids) mid ≡ runs_that (is_one_of ids) m

module _ (m mid : Map) (object dir : Option Plan) (alone : Bool) (root : Option RootPlace) (back : List ℕ) (is : IsNewMap m) (fit : PlansFit m object dir alone back)
    (edited : IsMapEdited (rooted_map root m) mid) (moved : HasMoved m mid (plans_of object dir) (gone_at_once dir alone) (kept_parts dir alone)) where
  abbrev once : List ℕ
  once = gone_at_once dir alone

  -- the map before, with the same runs; and the maps with what is taken
  abbrev first : Map
  first = moved.first

  abbrev two : (n : Map) × IsTakenOne moved.first n object × IsTakenOne n moved.taken dir
  two = two_taken moved.first moved.taken object dir moved.same_runs.map moved.takes

  abbrev m1 : Map
  m1 = two.0

  g0 : moved.first.geometry ≡ m.geometry
  g0 = moved.same_runs.geometry

  g3 : mid.geometry ≡ moved.taken.geometry
  g3 = edited.geometry ∙ rooted_geometry m root ∙ sym moved.geometry

  first_holes : hole_runs moved.first ≡ hole_runs m
  first_holes = holes_same m moved.first moved.same_runs

  object_can : IfSome object (CanTakePlan moved.first.geometry (hole_runs moved.first))
  object_can =
      subst (λ (hs : List ZoneRun). IfSome object (CanTakePlan moved.first.geometry hs)) (sym first_holes) (subst (λ (g : Geometry). IfSome object (CanTakePlan g (hole_runs m))) (sym g0) fit.object_can)

  object_new : IfSome object (λ (p : Plan). (is_used moved.first p.id ≡ false) × (is_one_of once p.id ≡ false))
  object_new = both object fit.object_new fit.object_stays
    where
      both : (o : Option Plan) → IfSome o (λ (p : Plan). is_used m p.id ≡ false) → IfSome o (λ (p : Plan). (is_one_of once p.id ≡ false) × (is_one_of back p.id ≡ false))
          → IfSome o (λ (p : Plan). (is_used moved.first p.id ≡ false) × (is_one_of once p.id ≡ false))
      both None a b = tt
      both (Some p) a b = (used_same m moved.first p.id moved.same_runs ∙ a, b.0)

  dir_can : IfSome dir (CanTakePlan m1.geometry (hole_runs m1))
  dir_can =
      can_then moved.first m1 object dir two.1.geometry two.1.holes
      (subst (λ (hs : List ZoneRun). IfSome dir (CanTakePlan moved.first.geometry (holes_left hs (parts_in object)))) (sym first_holes)
      (subst (λ (g : Geometry). IfSome dir (CanTakePlan g (holes_left (hole_runs m) (parts_in object)))) (sym g0) fit.dir_can))

  dir_new : IfSome dir (λ (p : Plan). (is_used moved.first p.id ≡ false) ⊎ (is_one_of once p.id ≡ true))
  dir_new = with_some dir (λ p h. ⊎_elim (λ unused. inl (used_same m moved.first p.id moved.same_runs ∙ unused)) (λ goes. inr goes) h) fit.dir_new

  back_is : (id : ℕ) → id_runs mid id ≡ filter (stays_given once (parts_in dir)) (id_runs moved.taken id)
  back_is id = moved.of_ids id ∙ stay_same dir alone (id_runs moved.taken id)

  object_is : IfSome object (IsTakenIn mid)
  object_is =
      object_taken moved.first m1 moved.taken mid object dir once moved.same_runs.map two.1.is_map two.2.is_map two.1.geometry two.2.geometry g3 object_can object_new dir_can dir_new fit.two
      two.1.own two.1.all two.1.others two.2.own two.2.all two.2.others back_is

  -- once the object's plan alone was taken
  alone_is : IfSome object (IsTakenIn m1)
  alone_is =
      object_taken moved.first m1 m1 m1 object None [] moved.same_runs.map two.1.is_map two.1.is_map two.1.geometry refl refl object_can (with_some object (λ p h. (h.0, refl)) object_new) tt tt
      (by object) two.1.own two.1.all two.1.others tt tt (λ id other. refl) (λ id. sym (all_stay [] (id_runs m1 id)))
    where
      by : (o : Option Plan) → IfSome o (λ (p : Plan). IsOther p.id None)
      by None = tt
      by (Some p) = tt

  first_is : IfSome object (λ (p : Plan). (n : Map) × HasTaken m n p.id (fronts p.parts.items) × IsTakenIn n p)
  first_is = by object two.1.took alone_is
    where
      by : (o : Option Plan) → IfSome o (λ (p : Plan). HasTaken moved.first m1 p.id (fronts p.parts.items)) → IfSome o (IsTakenIn m1)
          → IfSome o (λ (p : Plan). (n : Map) × HasTaken m n p.id (fronts p.parts.items) × IsTakenIn n p)
      by None a b = tt
      by (Some p) a b = (m1, took_of m moved.first m1 p.id (fronts p.parts.items) moved.same_runs a, b)

  dir_is : IfSome dir (IsTakenIn mid)
  dir_is =
      dir_taken moved.first m1 moved.taken mid object dir once moved.same_runs.map two.1.is_map two.2.is_map two.1.geometry two.2.geometry g3 object_can object_new dir_can dir_new fit.two
      two.1.own two.1.all two.1.others two.2.own two.2.all two.2.others back_is

  others_are : (id : ℕ) → IsOther id object → IsOther id dir → id_runs mid id ≡ unless_gone once id (id_runs m id)
  others_are id no_object no_dir =
      others_stay moved.first m1 moved.taken mid object dir once moved.same_runs.map two.1.is_map two.2.is_map two.1.geometry two.2.geometry g3 object_can object_new dir_can dir_new fit.two
      two.1.own two.1.all two.1.others two.2.own two.2.all two.2.others back_is id no_object no_dir
      ∙ ap (unless_gone once id) (ids_same m moved.first moved.same_runs id)

  given_is : filter (is_given once (parts_in dir)) (all_runs moved.taken) ≡ runs_that (is_one_of once) m
  given_is =
      same_gone moved.first m1 moved.taken (parts_in object) (parts_in dir) (id_in object) (id_in dir) once moved.same_runs.map two.1.is_map two.1.geometry two.2.geometry two.1.runs two.2.runs
      (none_kept once object (with_some object (λ p h. h.0) fit.object_stays)) (cut_in m1 dir dir_can)
      ∙ ap (filter (λ (p : ZoneRun). has_id_that (is_one_of once) p.1.kind)) (every_same m moved.first moved.same_runs)

  taken_holes : hole_runs moved.taken ≡ holes_left (holes_left (hole_runs m) (parts_in object)) (parts_in dir)
  taken_holes = two.2.holes ∙ ap (λ (hs : List ZoneRun). holes_left hs (parts_in dir)) (two.1.holes ∙ ap (λ (hs : List ZoneRun). holes_left hs (parts_in object)) first_holes)

  -- if nothing goes back at once
  module _ (none : once ≡ []) where
    whole : KeepsRuns moved.taken mid
    whole =
        same_runs moved.taken mid moved.is_map edited.is_map g3
        (λ z low.
        moved.holes z (subst (λ (g : Geometry). z < g.zones) moved.geometry low)
        ∙ ap (λ (gs : List ZoneRun). holes_with (zone_holes (hole_runs moved.taken) z) (zone_holes gs z))
        (ap (λ (ids : List ℕ). filter (is_given ids (fronts (kept_parts dir alone))) (all_runs moved.taken)) none ∙ none_given (fronts (kept_parts dir alone)) (all_runs moved.taken)))
        (λ id. moved.of_ids id ∙ ap (λ (ids : List ℕ). filter (stays_given ids (fronts (kept_parts dir alone))) (id_runs moved.taken id)) none ∙ all_stay (fronts (kept_parts dir alone)) (id_runs moved.taken id))

    runs_kept : (ids : List ℕ) → IfSome object (λ (p : Plan). is_one_of ids p.id ≡ false) → IfSome dir (λ (p : Plan). is_one_of ids p.id ≡ false) → runs_that (is_one_of ids) mid ≡ runs_that (is_one_of ids) m
    runs_kept ids no_object no_dir =
        ap (filter (λ (p : ZoneRun). has_id_that (is_one_of ids) p.1.kind)) (every_same moved.taken mid whole)
        ∙ sym (given_at_holes moved.taken ids [] moved.is_map (no_parts moved.taken))
        ∙ given_after_take ids [] (id_in dir) (parts_in dir) (none_kept ids dir no_dir) m1 moved.taken two.2.geometry two.2.runs
        ∙ given_after_take ids [] (id_in object) (parts_in object) (none_kept ids object no_object) moved.first m1 two.1.geometry two.1.runs
        ∙ given_at_holes moved.first ids [] moved.same_runs.map (no_parts moved.first)
        ∙ ap (filter (λ (p : ZoneRun). has_id_that (is_one_of ids) p.1.kind)) (every_same m moved.first moved.same_runs)

  pub grown_taken : IsGrownTaken m mid object dir alone root
  grown_taken = record {
    edited = edited;
    geometry = edited.geometry ∙ rooted_geometry m root;
    holes = λ z low.
        moved.holes z low
        ∙ ap₂ (λ (hs gs : List ZoneRun). holes_with (zone_holes hs z) (zone_holes gs z)) taken_holes (given_same dir alone (all_runs moved.taken) ∙ given_is);
    object_taken = object_is;
    dir_taken = dir_is;
    object_first = first_is;
    others = others_are;
    kept = runs_kept;
  }

-- ---- a step of a map, as it was found on it

edited_by : (m m' : Map) (plans : List Plan) (gone : List ℕ) (kept : List Part) (root : Option RootPlace) (s : SpaceStep) → IsSpaceStep m plans gone kept root s → HasEdited m m' s → IsMapEdited (rooted_map root m) m'
edited_by m m' plans gone kept root s is done = subst (λ (o : Option RootPlace). IsMapEdited (rooted_map o m) m') is.root_is done.edited

moved_by : (m m' : Map) (plans : List Plan) (gone : List ℕ) (kept : List Part) (root : Option RootPlace) (s : SpaceStep) → IsSpaceStep m plans gone kept root s → HasEdited m m' s → HasMoved m m' plans gone kept
moved_by m m' plans gone kept root s is done =
    subst (λ (ks : List Part). HasMoved m m' plans gone ks) is.kept_are
    (subst (λ (gs : List ℕ). HasMoved m m' plans gs s.kept.items) is.gone_are (subst (λ (ps : List Plan). HasMoved m m' ps s.gone.items s.kept.items) is.plans_are done.moved))

no_plans : (object dir : Option Plan) → plans_of object dir ≡ [] → (object ≡ None) × (dir ≡ None)
no_plans None None e = (refl, refl)
no_plans None (Some q) e = absurd (cc)
no_plans (Some p) None e = absurd (cc)
no_plans (Some p) (Some q) e = absurd (cc)

-- where nothing is done
taken_still : (m : Map) (object dir : Option Plan) (alone : Bool) (root : Option RootPlace) → IsNewMap m → object ≡ None → dir ≡ None → root ≡ None → IsGrownTaken m m object dir alone root
taken_still m object dir alone root is no_object no_dir no_root =
    subst (λ (r : Option RootPlace). IsGrownTaken m m object dir alone r) (sym no_root)
    (subst (λ (d : Option Plan). IsGrownTaken m m object d alone None) (sym no_dir)
    (subst (λ (o : Option Plan). IsGrownTaken m m o None alone None) (sym no_object)
    (record {
      edited = edited_same m is;
      geometry = refl;
      holes = λ z low. ap₂ (λ (hs gs : List ZoneRun). holes_with (zone_holes hs z) (zone_holes gs z)) (sym (left_of_none (hole_runs m)) ∙ sym (left_of_none (holes_left (hole_runs m) []))) (sym (given_none m));
      object_taken = tt;
      dir_taken = tt;
      object_first = tt;
      others = λ id a b. refl;
      kept = λ none ids a b. refl;
    })))

-- What the first step makes of a map.
pub first_taken : (m mid : Map) (object dir : Option Plan) (alone : Bool) (root : Option RootPlace) (back : List ℕ) (take : MapStep) → IsNewMap m → PlansFit m object dir alone back
    → IsStep m (plans_of object dir) (gone_at_once dir alone) (kept_parts dir alone) root take → HasStepped m mid take → IsGrownTaken m mid object dir alone root
first_taken m mid object dir alone root back (steps.New s) is fit at done =
    grown_taken m mid object dir alone root back is fit (edited_by m mid (plans_of object dir) (gone_at_once dir alone) (kept_parts dir alone) root s at done)
    (moved_by m mid (plans_of object dir) (gone_at_once dir alone) (kept_parts dir alone) root s at done)
first_taken m mid object dir alone root back (steps.Old space) is fit at done = absurd at
first_taken m mid object dir alone root back steps.Nothing is fit at done =
    let none = no_plans object dir at.plans_are in
    subst (λ (x : Map). IsGrownTaken m x object dir alone root) (sym done) (taken_still m object dir alone root is none.0 none.1 at.root_is)
