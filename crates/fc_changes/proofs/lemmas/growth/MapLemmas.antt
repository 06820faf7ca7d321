-- From edits of a map to what growth owes of it.
use Rattle.std.proofs.Common.{◌≡◌, ◌<◌, ◌≤◌, ◌⊎◌, inl, inr, ℕ, zero, suc, ◌+◌, ◌-◌, ◌^◌, Bool, true, false, cond, List, [], ◌∷◌, ◌++◌, length, take, drop, refl, sym, ap, ap₂, subst, ◌∙◌, arith, Some, None, Option, eq-eqb, get_or-set_same, get_or-set_other}
use Rattle.std.specs.Prelude.{Contains, IsPermutation, IfSome, filter, slice_index, slice_range, ◌==◌}
use Rattle.std.specs.List.{AllByRecursion}
use Rattle.std.proofs.lemmas.Bool.{eqb-true, false_from_ne_true as unless}
use Rattle.fc_bytes.specs.Bits.{bits, num}
use Rattle.fc_bytes.specs.BitLaws.{bits-drop, bits-take}
use Rattle.fc_record.specs.declared.Geometry.{Geometry}
use Rattle.fc_record.specs.Record.{first_bit}
use Rattle.fc_record.specs.Kinds.{map_record}
use Rattle.fc_zone.specs.declared.Run.{Run}
use Rattle.fc_zone.specs.declared.RunKind.TheVariants as kinds
use Rattle.fc_zone.specs.declared.ZoneShape.{ZoneShape}
use Rattle.fc_zone.specs.Edits.{KeepsLinks}
use Rattle.fc_zone.specs.Zone.{field_at, hole_starts}
use Rattle.fc_newmap.specs.Map.{Map, ZoneRun, all_runs, has_id, hole_runs, id_runs, is_hole, runs_in, runs_of, search_order, sector_of, shape, with_root, with_zone, zone_numbers}
use Rattle.fc_newmap.specs.Edits.{AreEdits, KeepsRuns}
use Rattle.fc_newmap.specs.NewMap.{IsNewMap}
use Rattle.fc_newmap.proofs.HeldLemmas.{geometry_facts}
use Rattle.fc_newmap.proofs.RootLemmas.{root_back, root_front, root_long}
use Rattle.fc_newmap.specs.Copies.{CommitEnds, HoldsCopies}
use Rattle.fc_newmap.specs.Committing.{KeepsContents}
use Rattle.fc_image.specs.Walk.{Object}
use Rattle.fc_image.specs.effects.Placed.{holes_left}
use Rattle.fc_image.specs.effects.Steady.{KeepsOrWritesLinks, ZoneSteady, has_id_that, holes_with, runs_that, zone_holes}
use Rattle.fc_plan.specs.declared.plan.Plan.{Plan}
use Rattle.fc_plan.specs.Applied.{IsOther, IsTakenIn, id_in, parts_in, unless_gone}
use Rattle.fc_plan.specs.Giving.{is_one_of}
use Rattle.fc_plan.specs.Taking.{as_runs}
use Rattle.fc_changes.proofs.CommittedLemmas.{committed_law, index_part, same_part, all_same, part_behind, starts_high}
use Rattle.fc_changes.proofs.BasicLemmas.{clash}
use Rattle.fc_changes.specs.growth.Grown.{IsGrowthSpace, IsMapGrown, NewPlace, zone0_with, zone_with}
use Rattle.fc_changes.specs.growth.Maps.{HasApplied, HasParts}

-- ---- maps with the same runs

pub runs_all : (m m' : Map) → KeepsRuns m m' → all_runs m' ≡ all_runs m
runs_all m m' kept = ap (λ (g : Geometry). runs_in m' (zone_numbers g)) kept.geometry ∙ all_same m m' kept (zone_numbers m.geometry)

holes_same : (m m' : Map) → KeepsRuns m m' → hole_runs m' ≡ hole_runs m
holes_same m m' kept = ap (filter (λ (p : ZoneRun). is_hole p.1.kind)) (runs_all m m' kept)

pub ids_same : (m m' : Map) → KeepsRuns m m' → (id : ℕ) → id_runs m' id ≡ id_runs m id
ids_same m m' kept id =
    ap (filter (λ (p : ZoneRun). has_id id p.1.kind)) (ap (λ (g : Geometry). runs_in m' (search_order g id)) kept.geometry ∙ all_same m m' kept (search_order m.geometry id))

-- ---- space

pub space' : (m first mid m' : Map) (place : NewPlace) (object dir : Option Plan) (gone : List ℕ) → KeepsRuns m first → HasApplied first mid object dir gone
    → KeepsRuns mid m' → IfSome object HasParts → IfSome dir HasParts → place.id ≡ id_in dir → place.parts ≡ parts_in dir → IsGrowthSpace m m' (id_in object) (parts_in object) place gone
space' m first mid m' place object dir gone start applied kept some_object some_dir id_is parts_are = record {
  holes = λ z low.
      ap (λ (hs : List ZoneRun). zone_holes hs z) (holes_same mid m' kept)
      ∙ applied.holes z (subst (λ (g : Geometry). z < g.zones) (sym start.geometry) low)
      ∙ ap₂ (λ (hs bs : List ZoneRun). holes_with (zone_holes (holes_left (holes_left hs (parts_in object)) (parts_in dir)) z) (zone_holes bs z))
      (holes_same m first start) (ap (filter (λ (p : ZoneRun). has_id_that (is_one_of gone) p.1.kind)) (runs_all m first start))
      ∙ ap (λ (ps : List ZoneRun). holes_with (zone_holes (holes_left (holes_left (hole_runs m) (parts_in object)) ps) z) (zone_holes (runs_that (is_one_of gone) m) z)) (sym parts_are);
  own = λ some. subst (λ (rs : List ZoneRun). IsPermutation (as_runs (id_in object) (parts_in object)) rs) (sym (ids_same mid m' kept (id_in object))) (taken object applied.object_taken some);
  dir = λ some. subst (λ (rs : List ZoneRun). IsPermutation (as_runs place.id place.parts) rs) (sym (ids_same mid m' kept place.id))
      (subst (λ (k : ℕ). IsPermutation (as_runs k place.parts) (id_runs mid k)) (sym id_is) (subst (λ (ps : List ZoneRun). IsPermutation (as_runs (id_in dir) ps) (id_runs mid (id_in dir))) (sym parts_are)
      (taken dir applied.dir_taken (subst (λ (ps : List ZoneRun). 0 < length ps) parts_are some))));
  others = λ k one two.
      ids_same mid m' kept k ∙ applied.others k (other object k some_object one)
      (other dir k some_dir (λ some is. two (subst (λ (ps : List ZoneRun). 0 < length ps) (sym parts_are) some) (is ∙ sym id_is)))
      ∙ ap (unless_gone gone k) (ids_same m first start k);
}
  where
    taken : (plan : Option Plan) → IfSome plan (IsTakenIn mid) → 0 < length (parts_in plan) → IsPermutation (as_runs (id_in plan) (parts_in plan)) (id_runs mid (id_in plan))
    taken None t some = absurd (omega (arith, some))
    taken (Some plan) t some = t.all

    other : (plan : Option Plan) (k : ℕ) → IfSome plan HasParts → (0 < length (parts_in plan) → k ≡ id_in plan → ⊥) → IsOther k plan
    other None k has never = tt
    other (Some plan) k has never = λ is. never has is

-- ---- the root in zone 0

module _ (s t : List ℕ) (front : take 16 t ≡ take 16 s) (back : drop 56 t ≡ drop 56 s) (long : length t ≡ length s) where
  pub early : (k : ℕ) → k < 16 → slice_index t k ≡ slice_index s k
  early k low =
      let zero' : 0 + k ≡ k = omega arith in
      ap (slice_index t) (sym zero') ∙ sym (index_part 0 16 k t low) ∙ ap (λ (xs : List ℕ). slice_index xs k) front ∙ index_part 0 16 k s low ∙ ap (slice_index s) zero'

  link_same : slice_range (bits t) 8 24 ≡ slice_range (bits s) 8 24
  link_same =
      ap (take 16) (sym (bits-drop 1 t)) ∙ sym (bits-take 2 (drop 1 t)) ∙ ap bits (same_part 1 2 s t long (λ k h g. early k (omega (arith, g))))
      ∙ bits-take 2 (drop 1 s) ∙ ap (take 16) (bits-drop 1 s)

  field_same : (shape' : ZoneShape) (at : ℕ) → 512 ≤ at → field_at shape' (bits t) at ≡ field_at shape' (bits s) at
  field_same shape' at high =
      ap num (part_behind 448 at (at + shape'.idlen - at) (bits s) (bits t) (omega (arith, high)) (sym (bits-drop 56 t) ∙ ap bits back ∙ bits-drop 56 s))

module _ (m mid m' : Map) (o : Object) (place : NewPlace) (start image' : List ℕ) where
  abbrev now : List ℕ
  now = with_root (sector_of m 0) place.address place.len

  abbrev first : Bool → Map
  first b = cond b (with_zone m 0 now) m

  module _ (is : IsNewMap m) where
    some_zone : 0 < m.geometry.zones
    some_zone = (geometry_facts m.geometry is.of_record).zones

    zone_there : sector_of (with_zone m 0 now) 0 ≡ now
    zone_there = let all = is.all in let some = some_zone in get_or-set_same m.zones 0 now [] (omega (arith, all, some))

    zone_other : (z : ℕ) → (z == 0) ≡ false → sector_of (with_zone m 0 now) z ≡ sector_of m z
    zone_other z other = get_or-set_other m.zones 0 z now [] (λ same. clash (z == 0) (eq-eqb z 0 same) other)

    sector_long : 256 ≤ m.geometry.sector
    sector_long = elim (geometry_facts m.geometry is.of_record).size [
      | inl small ↦ omega (arith, small)
      | inr more ↦ (elim more [ inl middle ↦ omega (arith, middle) | inr large ↦ omega (arith, large) ])
    ]

    pub fits : 64 ≤ length (sector_of m 0)
    fits = let whole = is.whole 0 some_zone in let low = sector_long in omega (arith, whole, low)

    -- ---- by whether it is the root that grows

    sector_first : (b : Bool) → (length o.path == 0) ≡ b → (z : ℕ) → sector_of (first b) z ≡ zone_with o place m z
    sector_first true root z = by (z == 0) refl ∙ ap (λ (b : Bool). cond (z == 0) (cond b now (sector_of m 0)) (sector_of m z)) (sym root)
      where
        by : (c : Bool) → (z == 0) ≡ c → sector_of (with_zone m 0 now) z ≡ cond c now (sector_of m z)
        by true zero' = ap (sector_of (with_zone m 0 now)) (eqb-true z 0 zero') ∙ zone_there
        by false other = zone_other z other
    sector_first false other z = by (z == 0) refl ∙ ap (λ (b : Bool). cond (z == 0) (cond b now (sector_of m 0)) (sector_of m z)) (sym other)
      where
        by : (c : Bool) → (z == 0) ≡ c → sector_of m z ≡ cond c (sector_of m 0) (sector_of m z)
        by true zero' = ap (sector_of m) (eqb-true z 0 zero')
        by false x = refl

    geometry_first : (b : Bool) → (first b).geometry ≡ m.geometry
    geometry_first true = refl
    geometry_first false = refl

    zone0_first : (b : Bool) → (length o.path == 0) ≡ b → sector_of (first b) 0 ≡ zone0_with o place (sector_of m 0)
    zone0_first b root = sector_first b root 0

    link_first : (b : Bool) (z : ℕ) → slice_range (bits (sector_of (first b) z)) 8 24 ≡ slice_range (bits (sector_of m z)) 8 24
    link_first false z = refl
    link_first true z = by (z == 0) refl
      where
        by : (c : Bool) → (z == 0) ≡ c → slice_range (bits (sector_of (with_zone m 0 now) z)) 8 24 ≡ slice_range (bits (sector_of m z)) 8 24
        by false other = ap (λ (xs : List ℕ). slice_range (bits xs) 8 24) (zone_other z other)
        by true zero' =
            ap (λ (k : ℕ). slice_range (bits (sector_of (with_zone m 0 now) k)) 8 24) (eqb-true z 0 zero')
            ∙ ap (λ (xs : List ℕ). slice_range (bits xs) 8 24) zone_there
            ∙ link_same (sector_of m 0) now (root_front (sector_of m 0) place.address place.len (omega (arith, fits))) (root_back (sector_of m 0) place.address place.len (omega (arith, fits))) (root_long (sector_of m 0) place.address place.len (omega (arith, fits)))
            ∙ ap (λ (k : ℕ). slice_range (bits (sector_of m k)) 8 24) (sym (eqb-true z 0 zero'))

    field_first : (b : Bool) (z at : ℕ) → 512 ≤ at → field_at (shape m.geometry z) (bits (sector_of (first b) z)) at ≡ field_at (shape m.geometry z) (bits (sector_of m z)) at
    field_first false z at high = refl
    field_first true z at high = by (z == 0) refl
      where
        by : (c : Bool) → (z == 0) ≡ c → field_at (shape m.geometry z) (bits (sector_of (with_zone m 0 now) z)) at ≡ field_at (shape m.geometry z) (bits (sector_of m z)) at
        by false other = ap (λ (xs : List ℕ). field_at (shape m.geometry z) (bits xs) at) (zone_other z other)
        by true zero' =
            ap (λ (k : ℕ). field_at (shape m.geometry z) (bits (sector_of (with_zone m 0 now) k)) at) (eqb-true z 0 zero')
            ∙ ap (λ (xs : List ℕ). field_at (shape m.geometry z) (bits xs) at) zone_there
            ∙ field_same (sector_of m 0) now (root_front (sector_of m 0) place.address place.len (omega (arith, fits))) (root_back (sector_of m 0) place.address place.len (omega (arith, fits))) (root_long (sector_of m 0) place.address place.len (omega (arith, fits)))
            (shape m.geometry z) at (zone0_high z at (eqb-true z 0 zero') high)
            ∙ ap (λ (k : ℕ). field_at (shape m.geometry z) (bits (sector_of m k)) at) (sym (eqb-true z 0 zero'))
          where
            zone0_high : (k a : ℕ) → k ≡ 0 → 512 ≤ a → 512 ≤ a
            zone0_high k a same h = h

    field_later : (b : Bool) (z at : ℕ) → (z == 0) ≡ false → field_at (shape m.geometry z) (bits (sector_of (first b) z)) at ≡ field_at (shape m.geometry z) (bits (sector_of m z)) at
    field_later false z at other = refl
    field_later true z at other = ap (λ (xs : List ℕ). field_at (shape m.geometry z) (bits xs) at) (zone_other z other)

    links_first : (b : Bool) → KeepsRuns m (first b) → IsNewMap m' → m'.geometry ≡ m.geometry → (z : ℕ) → z < m.geometry.zones
        → KeepsLinks (shape m.geometry z) (bits (sector_of (first b) z)) (bits (sector_of m' z)) (runs_of (first b) z) (runs_of m' z) → KeepsOrWritesLinks m m' z
    links_first b kept now_is same z low links = record {
      free_link = elim links.free_link [ inl stays ↦ inl (stays ∙ link_first b z) | inr top ↦ inr top ];
      fields = each (hole_starts (runs_of m' z)) links.fields (starts (subst (λ (g : Geometry). z < g.zones) (sym same) low));
    }
      where
        starts : z < m'.geometry.zones → AllByRecursion (λ at. first_bit z ≤ at) (hole_starts (runs_of m' z))
        starts there = starts_high (shape m'.geometry z) (bits (sector_of m' z)) (first_bit z) (runs_of m' z) _ (now_is.right z there).spelled

        each : (ats : List ℕ) → AllByRecursion (λ at. (Contains (hole_starts (runs_of (first b) z)) at × (field_at (shape m.geometry z) (bits (sector_of m' z)) at ≡ field_at (shape m.geometry z) (bits (sector_of (first b) z)) at)) ⊎ (field_at (shape m.geometry z) (bits (sector_of m' z)) at < 2 ^ 15)) ats
            → AllByRecursion (λ at. first_bit z ≤ at) ats
            → AllByRecursion (λ at. (Contains (hole_starts (runs_of m z)) at × (field_at (shape m.geometry z) (bits (sector_of m' z)) at ≡ field_at (shape m.geometry z) (bits (sector_of m z)) at)) ⊎ (field_at (shape m.geometry z) (bits (sector_of m' z)) at < 2 ^ 15)) ats
        each [] a h = tt
        each (at ∷ ats) a h = (
          elim a.0 [
            | inl was ↦ inl (subst (λ (runs : List Run). Contains (hole_starts runs) at) (kept.runs z) was.0, was.1 ∙ field_by z at h.0)
            | inr small ↦ inr small
          ],
          each ats a.1 h.1,
        )
          where
            field_by : (k a : ℕ) → first_bit k ≤ a → field_at (shape m.geometry k) (bits (sector_of (first b) k)) a ≡ field_at (shape m.geometry k) (bits (sector_of m k)) a
            field_by zero a from = field_first b zero a from
            field_by (suc k) a from = field_later b (suc k) a (unless (suc k == 0) (λ h. let none = eqb-true (suc k) 0 h in omega (arith, none)))

    pub map_by : (b : Bool) → (length o.path == 0) ≡ b → KeepsRuns m (first b) → AreEdits (first b) mid → KeepsRuns mid m' → KeepsContents mid m' → CommitEnds m.geometry start m'.zones image' → IsMapGrown m m' image' o place
    map_by b root kept edits runs contents ends =
        let g = geometry_first b in
        let done = committed_law (first b) mid m' start image' edits runs contents (subst (λ (x : Geometry). CommitEnds x start m'.zones image') (sym g) ends) in
        record {
          is_map = done.is_map;
          geometry = done.geometry ∙ g;
          copies = subst (λ (x : Geometry). HoldsCopies x m'.zones image') g done.copies;
          record_is = done.record_stays ∙ ap map_record (zone0_first b root);
          zones = λ z low. subst (λ (s : List ℕ). ZoneSteady m.geometry z s (sector_of m' z)) (sector_first b root z)
              (subst (λ (x : Geometry). ZoneSteady x z (sector_of (first b) z) (sector_of m' z)) g (done.zones z (subst (λ (x : Geometry). z < x.zones) (sym g) low)));
          links = λ z low. links_first b kept done.is_map (done.geometry ∙ g) z low
              (subst (λ (x : Geometry). KeepsLinks (shape x z) (bits (sector_of (first b) z)) (bits (sector_of m' z)) (runs_of (first b) z) (runs_of m' z)) g
              (done.links z (subst (λ (x : Geometry). z < x.zones) (sym g) low)));
        }
