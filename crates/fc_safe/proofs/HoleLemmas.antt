-- Parts of holes are holes, so that nothing is lost of them as parts of a plan.
use Rattle.std.proofs.Common.{◌≡◌, ◌==◌, ℕ, ◌+◌, ◌-◌, Bool, true, false, cond, List, [], ◌∷◌, map, refl, sym, ap, ap₂, subst, ◌∙◌, Some, None, Option}
use Rattle.std.specs.Prelude.{filter, max, nat_le, nat_lt}
use Rattle.std.specs.List.{AllByRecursion, find}
use Rattle.std.specs.Option.{option_and_then, option_map}
use Rattle.fc_record.specs.declared.Geometry.{Geometry}
use Rattle.fc_zone.specs.declared.RunKind.{RunKind}
use Rattle.fc_zone.specs.declared.RunKind.TheVariants as kinds
use Rattle.fc_newmap.specs.Map.{Map, ZoneRun, all_runs, hole_runs, is_hole}
use Rattle.fc_image.specs.effects.Placed.{front_of, holes_left, left_behind, stands_at}
use Rattle.fc_image.specs.safe.FirstFit.{first_fit, gathered}
use Rattle.fc_image.specs.safe.SafeShort.{fitted}
use Rattle.fc_plan.specs.declared.plan.Part.{Part}
use Rattle.fc_plan.specs.declared.plan.Plan.{Plan}
use Rattle.fc_plan.specs.Parts.{fronts, part_of}
use Rattle.fc_plan.proofs.FirstFit.{fit_one, fit_some, the_same as some_one}
use Rattle.fc_plan.proofs.Order.{both_all}
use Rattle.fc_safe.specs.Needs.{parts_of}

abbrev pub IsFree : ZoneRun → Type 0
IsFree p = p.1.kind ≡ kinds.Hole

abbrev pub AreHoles : List ZoneRun → Type 0
AreHoles holes = AllByRecursion IsFree holes

-- ---- the parts of one need

front_free : (g : Geometry) (bits : ℕ) (hole : ZoneRun) → IsFree hole → IsFree (front_of g bits hole)
front_free g bits hole is = by (nat_lt hole.1.len (bits + g.min))
  where
    by : (b : Bool) → IsFree (cond b hole (hole.0, record hole.1 { len = bits }))
    by true = is
    by false = is

found_free : (bits : ℕ) (holes : List ZoneRun) (hole : ZoneRun) → AreHoles holes → find (λ (h : ZoneRun). nat_le bits h.1.len) holes ≡ Some hole → IsFree hole
found_free bits [] hole free e = absurd (cc)
found_free bits (h ∷ holes) hole free e = by (nat_le bits h.1.len) e (found_free bits holes hole free.1)
  where
    by : (b : Bool) → cond b (Some h) (find (λ (x : ZoneRun). nat_le bits x.1.len) holes) ≡ Some hole → (find (λ (x : ZoneRun). nat_le bits x.1.len) holes ≡ Some hole → IsFree hole) → IsFree hole
    by true f more = subst IsFree (let same : h ≡ hole = cc in same) free.0
    by false f more = more f

gathered_free : (g : Geometry) (bits : ℕ) (holes parts : List ZoneRun) → AreHoles holes → gathered g bits holes ≡ Some parts → AreHoles parts
unfolding gathered
gathered_free g bits [] parts free e = absurd (cc)
gathered_free g bits (hole ∷ holes) parts free e = by (nat_le bits hole.1.len) e (gathered g (bits - hole.1.len) holes) refl (λ others. gathered_free g (bits - hole.1.len) holes others free.1)
  where
    by : (b : Bool) → cond b (Some (front_of g (max bits g.min) hole ∷ [])) (option_map (λ ps. hole ∷ ps) (gathered g (bits - hole.1.len) holes)) ≡ Some parts
        → (o : Option (List ZoneRun)) → gathered g (bits - hole.1.len) holes ≡ o → ((others : List ZoneRun) → gathered g (bits - hole.1.len) holes ≡ Some others → AreHoles others) → AreHoles parts
    by true f o is more = subst AreHoles (some_one (front_of g (max bits g.min) hole ∷ []) parts f) (front_free g (max bits g.min) hole free.0, tt)
    by false f None is more = absurd (let none = ap (option_map (λ (ps : List ZoneRun). hole ∷ ps)) is in cc)
    by false f (Some others) is more =
        subst AreHoles (some_one (hole ∷ others) parts (sym (ap (option_map (λ (ps : List ZoneRun). hole ∷ ps)) is) ∙ f)) (free.0, more others is)

first_free : (g : Geometry) (bits : ℕ) (holes parts : List ZoneRun) → AreHoles holes → first_fit g bits holes ≡ Some parts → AreHoles parts
first_free g bits holes parts free e = by (find (λ (h : ZoneRun). nat_le bits h.1.len) holes) refl
  where
    by : (o : Option ZoneRun) → find (λ (h : ZoneRun). nat_le bits h.1.len) holes ≡ o → AreHoles parts
    by (Some hole) is = subst AreHoles (some_one (front_of g bits hole ∷ []) parts (sym (fit_one g holes bits hole is) ∙ e)) (front_free g bits hole (found_free bits holes hole free is), tt)
    by None is = gathered_free g bits holes parts free (sym (fit_some g holes bits is) ∙ e)

-- ---- what it leaves

left_free : (holes parts : List ZoneRun) → AreHoles holes → AreHoles (holes_left holes parts)
left_free [] parts free = tt
left_free (h ∷ holes) parts free = both_all IsFree (left_behind h (find (stands_at h) parts)) (holes_left holes parts) (one (find (stands_at h) parts)) (left_free holes parts free.1)
  where
    one : (o : Option ZoneRun) → AreHoles (left_behind h o)
    one None = (free.0, tt)
    one (Some part) = by (part.1.len == h.1.len)
      where
        by : (b : Bool) → AreHoles (cond b [] ((h.0, record h.1 { start = h.1.start + part.1.len; len = h.1.len - part.1.len }) ∷ []))
        by true = tt
        by false = (free.0, tt)

-- ---- all needs

fitted_free : (m : Map) (needs : List ℕ) (holes : List ZoneRun) (all : List (List ZoneRun)) → AreHoles holes → fitted m needs holes ≡ Some all → AllByRecursion AreHoles all
unfolding fitted
fitted_free m [] holes all free e = subst (λ (xs : List (List ZoneRun)). AllByRecursion AreHoles xs) (let same : [] ≡ all = cc in same) tt
fitted_free m (bits ∷ needs) holes all free e = by (first_fit m.geometry bits holes) refl e (λ left others h. fitted_free m needs left others h)
  where
    rest : (parts : List ZoneRun) → AreHoles parts → (o : Option (List (List ZoneRun))) → ((others : List (List ZoneRun)) → o ≡ Some others → AllByRecursion AreHoles others)
        → option_map (λ others. parts ∷ others) o ≡ Some all → AllByRecursion AreHoles all
    rest parts here None more f = absurd (cc)
    rest parts here (Some others) more f = subst (λ (xs : List (List ZoneRun)). AllByRecursion AreHoles xs) (let same : parts ∷ others ≡ all = cc in same) (here, more others refl)

    by : (o : Option (List ZoneRun)) → first_fit m.geometry bits holes ≡ o → option_and_then (λ parts. option_map (λ others. parts ∷ others) (fitted m needs (holes_left holes parts))) o ≡ Some all
        → ((left : List ZoneRun) (others : List (List ZoneRun)) → AreHoles left → fitted m needs left ≡ Some others → AllByRecursion AreHoles others) → AllByRecursion AreHoles all
    by None is f more = absurd (cc)
    by (Some parts) is f more =
        rest parts (first_free m.geometry bits holes parts free is) (fitted m needs (holes_left holes parts)) (λ others. more (holes_left holes parts) others (left_free holes parts free)) f

-- ---- as parts of plans

fronts_same : (ps : List ZoneRun) → AreHoles ps → fronts (map part_of ps) ≡ ps
fronts_same [] free = refl
fronts_same (p ∷ ps) free =
    ap₂ (λ (k : RunKind) (qs : List ZoneRun). (p.0, record p.1 { kind = k }) ∷ qs) (sym free.0) (fronts_same ps free.1)

all_same : (all : List (List ZoneRun)) → AllByRecursion AreHoles all → map (λ (ps : List Part). fronts ps) (map (map part_of) all) ≡ all
all_same [] free = refl
all_same (ps ∷ all) free = ap₂ (λ (qs : List ZoneRun) (rest : List (List ZoneRun)). qs ∷ rest) (fronts_same ps free.0) (all_same all free.1)

kind_of : (k : RunKind) → is_hole k ≡ true → k ≡ kinds.Hole
kind_of kinds.Hole e = refl
kind_of (kinds.Id id) e = absurd (cc)

holes_in : (ps : List ZoneRun) → AreHoles (filter (λ (p : ZoneRun). is_hole p.1.kind) ps)
holes_in [] = tt
holes_in (p ∷ ps) = test (is_hole p.1.kind) refl (holes_in ps)
  where
    test : (b : Bool) → is_hole p.1.kind ≡ b → AreHoles (filter (λ (q : ZoneRun). is_hole q.1.kind) ps) → AreHoles (cond b (p ∷ filter (λ (q : ZoneRun). is_hole q.1.kind) ps) (filter (λ (q : ZoneRun). is_hole q.1.kind) ps))
    test true e more = (kind_of p.1.kind e, more)
    test false e more = more

map_holes : (m : Map) → AreHoles (hole_runs m)
map_holes m = holes_in (all_runs m)

plan_parts : (plans : List Plan) → map (λ (ps : List Part). fronts ps) (map (λ (p : Plan). p.parts.items) plans) ≡ parts_of plans
plan_parts [] = refl
plan_parts (p ∷ plans) = ap (λ (rest : List (List ZoneRun)). fronts p.parts.items ∷ rest) (plan_parts plans)

-- What is told of the parts of plans tells them as runs.
pub fitted_fronts : (m : Map) (bits : List ℕ) (plans : List Plan) → option_map (map (map part_of)) (fitted m bits (hole_runs m)) ≡ Some (map (λ (p : Plan). p.parts.items) plans) → fitted m bits (hole_runs m) ≡ Some (parts_of plans)
fitted_fronts m bits plans e = by (fitted m bits (hole_runs m)) refl e
  where
    by : (o : Option (List (List ZoneRun))) → fitted m bits (hole_runs m) ≡ o → option_map (map (map part_of)) o ≡ Some (map (λ (p : Plan). p.parts.items) plans) → o ≡ Some (parts_of plans)
    by None is f = absurd (cc)
    by (Some all) is f =
        let parts : map (map part_of) all ≡ map (λ (p : Plan). p.parts.items) plans = cc in
        ap (λ (xs : List (List ZoneRun)). let o : Option (List (List ZoneRun)) = Some xs in o)
        (sym (all_same all (fitted_free m bits (hole_runs m) all (map_holes m) is)) ∙ ap (map (λ (ps : List Part). fronts ps)) parts ∙ plan_parts plans)
