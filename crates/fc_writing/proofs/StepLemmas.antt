-- Steps of a new map.
use Rattle.std.proofs.Common.{◌≡◌, ◌<◌, ◌≤◌, ◌⊎◌, inl, inr, ⊎_elim, ℕ, zero, suc, ◌+◌, Bool, true, false, List, [], ◌∷◌, ◌++◌, length, get_or, take, drop, filter, refl, sym, ap, ap₂, subst, ◌∙◌, arith, Option, Some, None, eq-eqb, All, get_or-set_other, get_or-set_same}
use Rattle.std.specs.Prelude.{◌||◌, ◌==◌, Contains, IsSome, nat_lt, slice_index}
use Rattle.std.specs.List.{list_any}
use Rattle.std.proofs.lemmas.Bool.{cases_lt, eqb-true, lt-ltb}
use Rattle.std.proofs.lemmas.List.{get_or-take, take_more}
use Rattle.std.proofs.lemmas.List.Folds.{list_any-append}
use Rattle.fc_record.specs.declared.Geometry.{Geometry}
use Rattle.fc_zone.specs.declared.Run.{Run}
use Rattle.fc_zone.specs.Reading.{runs_of as runs_read}
use Rattle.fc_newmap.specs.Map.{Map, ZoneRun, all_runs, hole_runs, id_runs, is_hole, runs_in, runs_of, sector_of, shape, with_root, with_zone, zone_numbers}
use Rattle.fc_newmap.specs.NewMap.{IsNewMap}
use Rattle.fc_newmap.specs.RunsLaw.{placed}
use Rattle.fc_newmap.specs.Edits.{AreEdits, KeepsRuns}
use Rattle.fc_newmap.proofs.GeometryLemmas.{header_high}
use Rattle.fc_newmap.proofs.HeldLemmas.{geometry_facts}
use Rattle.fc_newmap.proofs.RootLemmas.{root_front}
use Rattle.fc_newmap.specs.Committing.{CanWrite, KeepsContents}
use Rattle.fc_newmap.specs.Copies.{Chooses, CommitLeaves, HoldsCopies, copy_of}
use Rattle.fc_newmap.specs.declared.copies.Which.TheVariants.{One}
use Rattle.fc_image.specs.effects.Placed.{holes_left}
use Rattle.fc_image.specs.effects.Steady.{holes_with, zone_holes}
use Rattle.fc_plan.specs.declared.plan.Part.{Part}
use Rattle.fc_plan.specs.declared.plan.Plan.{Plan}
use Rattle.fc_plan.specs.Applied.{CanTakePlan}
use Rattle.fc_plan.specs.Giving.{has_run_of, is_given, stays_given}
use Rattle.fc_plan.specs.Parts.{KeepsZones, fronts, has_part}
use Rattle.fc_changes.specs.Space.{HasTaken}
use Rattle.fc_changes.proofs.StepsLemmas.{edited, ids_same}
use Rattle.fc_writing.specs.declared.ready.MapStep.TheVariants as steps
use Rattle.fc_writing.specs.declared.ready.RootPlace.{RootPlace}
use Rattle.fc_writing.specs.declared.ready.SpaceStep.{SpaceStep}
use Rattle.fc_writing.specs.New.{InStep}
use Rattle.fc_writing.specs.Steps.{AreTaken, CanEdit, CanTakeAll, HasEdited, HasMoved, is_changed, rooted_map}
use Rattle.fc_writing.proofs.ContentLemmas.{clash}
use Rattle.fc_changes.proofs.CommittedLemmas.{all_same}

-- ---- plans, one after another

pub taken_more : (m mid new : Map) (plans : List Plan) (p : Plan) → AreTaken m plans mid → IsNewMap new → HasTaken mid new p.id (fronts p.parts.items) → AreTaken m (plans ++ p ∷ []) new
taken_more m mid new [] p same is now = (new, is, subst (λ (n : Map). HasTaken n new p.id (fronts p.parts.items)) same now, refl)
taken_more m mid new (q ∷ plans) p before is now = (before.0, before.1, before.2, taken_more before.0 mid new plans p before.3 is now)

pub taken_then : (m mid new : Map) (plans : List Plan) (i : ℕ) (p : Plan) → i < length plans → p ≡ get_or plans i p → AreTaken m (take i plans) mid → IsNewMap new → HasTaken mid new p.id (fronts p.parts.items)
    → AreTaken m (take (i + 1) plans) new
taken_then m mid new plans i p low is before is_map now =
    subst (λ (ps : List Plan). AreTaken m ps new) (sym (take_more plans i p low ∙ ap (λ (q : Plan). take i plans ++ q ∷ []) (sym is))) (taken_more m mid new (take i plans) p before is_map now)

drop_here : {X : Type 0} (xs : List X) (i : ℕ) (x : X) → i < length xs → x ≡ get_or xs i x → drop i xs ≡ x ∷ drop (i + 1) xs
drop_here [] i x low is = absurd (omega (arith, low))
drop_here (y ∷ xs) zero x low is = ap (λ (z : _). z ∷ xs) (sym is)
drop_here (y ∷ xs) (suc i) x low is = drop_here xs i x (omega (arith, low)) is ∙ (let e : suc (i + 1) ≡ suc i + 1 = omega arith in ap (λ (n : ℕ). x ∷ drop n (y ∷ xs)) e)

-- the next plan can be taken, and then those after it
pub take_next : (g : Geometry) (holes : List ZoneRun) (plans : List Plan) (i : ℕ) (p : Plan) → i < length plans → p ≡ get_or plans i p → CanTakeAll g holes (drop i plans)
    → CanTakePlan g holes p × CanTakeAll g (holes_left holes (fronts p.parts.items)) (drop (i + 1) plans)
take_next g holes plans i p low is can = subst (λ (ps : List Plan). CanTakeAll g holes ps) (drop_here plans i p low is) can

-- a plan in the zone
abbrev pub in_zone : ℕ → Plan → Bool
in_zone z p = has_part (fronts p.parts.items) z

or_left : (a b : Bool) → (a || b) ≡ false → a ≡ false
or_left true b e = cc
or_left false b e = refl

or_right : (a b : Bool) → (a || b) ≡ false → b ≡ false
or_right true b e = cc
or_right false b e = e

pub zones_more : (m mid new : Map) (plans : List Plan) (i : ℕ) (p : Plan) → i < length plans → p ≡ get_or plans i p → KeepsZones (λ z. list_any (in_zone z) (take i plans)) m mid
    → KeepsZones (has_part (fronts p.parts.items)) mid new → KeepsZones (λ z. list_any (in_zone z) (take (i + 1) plans)) m new
zones_more m mid new plans i p low is before now z none =
    let both : (list_any (in_zone z) (take i plans) || (in_zone z p || false)) ≡ false =
    sym (list_any-append (in_zone z) (take i plans) (p ∷ [])) ∙ ap (list_any (in_zone z)) (sym (take_more plans i p low ∙ ap (λ (q : Plan). take i plans ++ q ∷ []) (sym is))) ∙ none in
    now z (or_left (in_zone z p) false (or_right (list_any (in_zone z) (take i plans)) (in_zone z p || false) both)) ∙ before z (or_left (list_any (in_zone z) (take i plans)) (in_zone z p || false) both)

-- ---- a map with the same runs

pub holes_same : (m m' : Map) → KeepsRuns m m' → hole_runs m' ≡ hole_runs m
holes_same m m' kept = ap (filter (λ (p : ZoneRun). is_hole p.1.kind)) (ap (λ (g : Geometry). runs_in m' (zone_numbers g)) kept.geometry ∙ all_same m m' kept (zone_numbers m.geometry))

pub can_rooted : (m first : Map) (plans : List Plan) → KeepsRuns m first → CanTakeAll m.geometry (hole_runs m) plans → CanTakeAll first.geometry (hole_runs first) plans
can_rooted m first plans kept can =
    subst (λ (hs : List ZoneRun). CanTakeAll first.geometry hs plans) (sym (holes_same m first kept)) (subst (λ (g : Geometry). CanTakeAll g (hole_runs m) plans) (sym kept.geometry) can)

-- ---- a step in memory

module _ (m first taken new : Map) (plans : List Plan) (gone : List ℕ) (kept : List Part) (root : KeepsRuns m first) (took : AreEdits first taken) where
  pub step_zones : KeepsZones (λ z. list_any (in_zone z) plans) first taken → KeepsZones (λ z. has_run_of gone (runs_of taken z)) taken new → KeepsZones (is_changed m plans gone) first new
  step_zones one two z none =
      let here : sector_of taken z ≡ sector_of first z = one z (or_left (list_any (in_zone z) plans) (has_run_of gone (runs_of m z)) none) in
      let same : runs_of taken z ≡ runs_of m z =
      ap₂ (λ (g : Geometry) (s : List ℕ). runs_read (shape g z) s) took.geometry here ∙ root.runs z in
      two z (ap (has_run_of gone) same ∙ or_right (list_any (in_zone z) plans) (has_run_of gone (runs_of m z)) none) ∙ here

  pub step_moved : AreTaken first plans taken → ((z : ℕ) → z < taken.geometry.zones → zone_holes (hole_runs new) z ≡ holes_with (zone_holes (hole_runs taken) z) (zone_holes (filter (is_given gone (fronts kept)) (all_runs taken)) z))
      → ((id : ℕ) → id_runs new id ≡ filter (stays_given gone (fronts kept)) (id_runs taken id)) → HasMoved m new plans gone kept
  step_moved takes holes of_ids = record {
    first = first;
    taken = taken;
    same_runs = root;
    takes = takes;
    is_map = took.map;
    geometry = took.geometry ∙ root.geometry;
    holes = λ z low. holes z (subst (λ (g : Geometry). z < g.zones) (sym (took.geometry ∙ root.geometry)) low);
    of_ids = of_ids;
  }

-- ---- the root in the record

module _ (m : Map) (is : IsNewMap m) (p : RootPlace) where
  abbrev now : List ℕ
  now = with_root (sector_of m 0) p.address p.len

  some_zone : 0 < m.geometry.zones
  some_zone = (geometry_facts m.geometry is.of_record).zones

  zone_fits : 56 ≤ length (sector_of m 0)
  zone_fits = let whole = is.whole 0 some_zone in let size = sizes (geometry_facts m.geometry is.of_record).size in omega (arith, whole, size)
    where
      sizes : {n : ℕ} → (n ≡ 256) ⊎ ((n ≡ 512) ⊎ (n ≡ 1024)) → 256 ≤ n
      sizes (inl a) = omega (arith, a)
      sizes (inr (inl b)) = omega (arith, b)
      sizes (inr (inr d)) = omega (arith, d)

  there : sector_of (with_zone m 0 now) 0 ≡ now
  there = let all = is.all in let some = some_zone in get_or-set_same m.zones 0 now [] (omega (arith, all, some))

  elsewhere : (z : ℕ) → (z ≡ 0 → ⊥) → sector_of (with_zone m 0 now) z ≡ sector_of m z
  elsewhere z other = get_or-set_other m.zones 0 z now [] (λ same. other same)

  header_stays : slice_index now 3 ≡ slice_index (sector_of m 0) 3
  header_stays =
      sym (get_or-take 16 now 3 0 (omega arith)) ∙ ap (λ (xs : List ℕ). slice_index xs 3) (root_front (sector_of m 0) p.address p.len (omega (arith, zone_fits)))
      ∙ get_or-take 16 (sector_of m 0) 3 0 (omega arith)

  cross_stays : (z : ℕ) → slice_index (sector_of (with_zone m 0 now) z) 3 ≡ slice_index (sector_of m z) 3
  cross_stays z = by (z == 0) refl
    where
      by : (b : Bool) → (z == 0) ≡ b → slice_index (sector_of (with_zone m 0 now) z) 3 ≡ slice_index (sector_of m z) 3
      by true e =
          ap (λ (k : ℕ). slice_index (sector_of (with_zone m 0 now) k) 3) (eqb-true z 0 e) ∙ ap (λ (xs : List ℕ). slice_index xs 3) there ∙ header_stays
          ∙ ap (λ (k : ℕ). slice_index (sector_of m k) 3) (sym (eqb-true z 0 e))
      by false e = ap (λ (xs : List ℕ). slice_index xs 3) (elsewhere z (λ same. clash (z == 0) (eq-eqb z 0 same) e))

-- byte 3 of a zone stays
crosses_first : (m : Map) (is : IsNewMap m) (root : Option RootPlace) (z : ℕ) → slice_index (sector_of (rooted_map root m) z) 3 ≡ slice_index (sector_of m z) 3
crosses_first m is None z = refl
crosses_first m is (Some p) z = cross_stays m is p z

-- zones that aren't listed stay
first_stays : (m : Map) (is : IsNewMap m) (root : Option RootPlace) (zones : List ℕ) → (IsSome root → Contains zones 0) → (z : ℕ) → (Contains zones z → ⊥) → sector_of (rooted_map root m) z ≡ sector_of m z
first_stays m is None zones first z none = refl
first_stays m is (Some p) zones first z none = elsewhere m is p z (λ same. none (subst (λ (y : ℕ). Contains zones y) (sym same) (first refl)))

pub rooted_geometry : (m : Map) (root : Option RootPlace) → (rooted_map root m).geometry ≡ m.geometry
rooted_geometry m None = refl
rooted_geometry m (Some p) = refl

-- ---- the commit

module _ (m new : Map) (s : SpaceStep) (is : IsNewMap m) (can : CanEdit m s) (edits : AreEdits (rooted_map s.root m) new) (zones : KeepsZones (is_changed m s.plans.items s.gone.items) (rooted_map s.root m) new) where
  pub geometry_is : new.geometry ≡ m.geometry
  geometry_is = edits.geometry ∙ rooted_geometry m s.root

  pub zones_low : All (λ z. z < new.geometry.zones) s.zones.items
  zones_low = subst (λ (g : Geometry). All (λ z. z < g.zones) s.zones.items) (sym geometry_is) can.low

  pub ready : (image : List ℕ) → HoldsCopies m.geometry m.zones image → CanWrite new s.zones.items image
  ready image copies = record {
    base = m.zones;
    copies = subst (λ (g : Geometry). HoldsCopies g m.zones image) (sym geometry_is) copies;
    crosses = λ z low. edits.bytes z 3 (inr (omega arith)) (inl (let high = header_high z in omega (arith, high))) ∙ crosses_first m is s.root z;
    others = λ z low none.
        zones z (can.all z (subst (λ (g : Geometry). z < g.zones) geometry_is low) none) ∙ first_stays m is s.root s.zones.items can.first z none;
  }

  module _ (m' : Map) (runs : KeepsRuns new m') (contents : KeepsContents new m') (moved : HasMoved m new s.plans.items s.gone.items s.kept.items) where
    pub step_done : HasEdited m m' s
    step_done = record {
      edited = edited (rooted_map s.root m) new m' edits runs contents;
      moved = record {
        first = moved.first;
        taken = moved.taken;
        same_runs = moved.same_runs;
        takes = moved.takes;
        is_map = moved.is_map;
        geometry = moved.geometry;
        holes = λ z low. ap (λ (hs : List ZoneRun). zone_holes hs z) (holes_same new m' runs) ∙ moved.holes z low;
        of_ids = λ id. ids_same new m' runs id ∙ moved.of_ids id;
      };
    }

-- ---- what a crash inside the commit leaves

pub committed : (m m' : Map) (g : Geometry) (s : SpaceStep) (was image : List ℕ) → g ≡ m.geometry → HoldsCopies m.geometry m.zones was → CommitLeaves g was (copy_of g One was) m'.zones image → InStep m m' (steps.New s) image
committed m m' g s was image same copies leaves =
    let now : CommitLeaves m.geometry was (copy_of m.geometry One was) m'.zones image = subst (λ (h : Geometry). CommitLeaves h was (copy_of h One was) m'.zones image) same leaves in
    inr (⊎_elim (λ old. inl (subst (λ (zs : List (List ℕ)). Chooses m.geometry zs image) copies.first old)) (λ new. inr new) now.content)

pub not_more : (n : ℕ) → nat_lt 9 n ≡ false → n ≤ 9
not_more n e = elim (cases_lt 9 n) [
  | inl more ↦ absurd (clash (nat_lt 9 n) (lt-ltb 9 n more) e)
  | inr few ↦ few
]
