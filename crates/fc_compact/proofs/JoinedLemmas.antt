-- A join: from a map m over one with all runs of an identifier given back, one with a new run, and one in which no two holes of
-- the zones touch, to the map that is committed.
use Rattle.std.proofs.Common.{◌≡◌, ◌<◌, ◌≤◌, inl, inr, ℕ, ◌+◌, ◌*◌, ◌/◌, Bool, true, false, cond, List, [], ◌∷◌, ◌++◌, length, refl, sym, ap, subst, ◌∙◌, arith}
use Rattle.std.specs.Prelude.{◌==◌, ◌||◌, filter, Contains}
use Rattle.std.proofs.lemmas.Bool.{cases_eq, eq-eqb}
use Rattle.std.proofs.lemmas.List.{map-append}
use Rattle.std.proofs.lemmas.List.Elements.{Contains-append_right}
use Rattle.fc_bytes.specs.Bits.{bits}
use Rattle.fc_zone.specs.declared.Run.{Run}
use Rattle.fc_zone.proofs.HolderLemmas.{run_spelled}
use Rattle.fc_zone.proofs.ZoneLemmas.{Spells-le, Contains-head as contains_here}
use Rattle.fc_newmap.specs.Edits.{AreEdits, IsEdit, KeepsRuns}
use Rattle.fc_newmap.specs.Map.{Map, ZoneRun, all_runs, bits_in, first_sector, has_id, hole_runs, id_runs, is_hole, runs_of, sector_of, shape, zone_numbers}
use Rattle.fc_newmap.specs.NewMap.{IsNewMap}
use Rattle.fc_newmap.specs.RunsLaw.{placed}
use Rattle.fc_newmap.specs.Walk.{IsInZone}
use Rattle.fc_newmap.proofs.ComposeLemmas.{edits_join, edits_then, runs_other, zone_cut}
use Rattle.fc_newmap.proofs.HeldLemmas.{geometry_facts}
use Rattle.fc_newmap.proofs.PlaceLemmas.{held_in, in_filter, in_range, in_zone}
use Rattle.fc_alloc.specs.declared.owner.Owner.{Owner}
use Rattle.fc_newmap.specs.Committing.{KeepsContents}
use Rattle.fc_newmap.specs.declared.copies.Which.TheVariants.{One}
use Rattle.fc_newmap.specs.Copies.{CommitEnds, CommitLeaves, copy_of}
use Rattle.fc_record.specs.declared.Geometry.{Geometry}
use Rattle.fc_image.specs.effects.Moves.{with_holes_joined}
use Rattle.fc_image.specs.Layout.{Layout, disc_sectors, hole_sectors, id_sectors, is_among}
use Rattle.fc_image.specs.Objects.{objects_of}
use Rattle.fc_image.specs.Moves.{CanCommit}
use Rattle.fc_compact.specs.Joins.{ArePut, EditsListed, HasBetween, all_freed, changed_runs, has_run_in, hole_part, ids_in, is_listed}
use Rattle.fc_compact.specs.Laws.{Laws}
use Rattle.fc_compact.specs.Ready.{IsReady, is_movable_by}
use Rattle.fc_compact.specs.Slides.{HasRuns, hole_at, run_at}
use Rattle.fc_compact.specs.Steps.{Leads, Preserves}
use Rattle.fc_compact.proofs.FoundLemmas.{no_ids}
use Rattle.fc_compact.proofs.JoinLemmas.{count_up, disc_run, join_can, runs_le}
use Rattle.fc_compact.proofs.KeptLemmas.{committed_geometry, committed_record}
use Rattle.fc_compact.proofs.OneRunLemmas.{one_zone_runs, taken_one, taken_other}
use Rattle.fc_compact.proofs.PreservesLemmas.{geometry_is}
use Rattle.fc_compact.proofs.ReleaseLemmas.{freed_none, freed_other}
use Rattle.fc_compact.proofs.StepLemmas.{commit_preserves, commit_ready, leads_one}
use Rattle.fc_compact.proofs.TouchLemmas.{ids_joined}

-- ---- the hole

module _ (m : Map) (is : IsNewMap m) (z : ℕ) (low : z < m.geometry.zones) (start len left : ℕ) (between : HasBetween m z (hole_at start (len + left))) where
  abbrev pub whole_hole : ZoneRun
  whole_hole = (z, hole_at start (len + left))

  pub hole_there : Contains (hole_runs m) whole_hole
  hole_there =
      let runs : runs_of m z ≡ between.0 ++ hole_at start (len + left) ∷ between.1 = between.2 in
      let there : Contains (placed z (runs_of m z)) whole_hole =
      subst (λ (rs : List Run). Contains (placed z rs) whole_hole) (sym runs)
      (subst (λ (ps : List ZoneRun). Contains ps whole_hole) (sym (map-append (λ (run : Run). let q : ZoneRun = (z, run) in q) between.0 (hole_at start (len + left) ∷ between.1)))
      (Contains-append_right (placed z between.0) (placed z (hole_at start (len + left) ∷ between.1)) whole_hole (contains_here whole_hole (placed z between.1)))) in
      in_filter (λ q. is_hole q.1.kind) (all_runs m) whole_hole (in_zone m (zone_numbers m.geometry) whole_hole (in_range 0 m.geometry.zones z (omega arith) (omega (arith, low))) there) refl

  pub front_in_zone : IsInZone m.geometry (z, hole_at start len)
  front_in_zone =
      let cut = run_spelled (shape m.geometry z) (sector_of m z) between.0 between.1 (hole_at start (len + left)) (zone_cut m z (between.0 ++ hole_at start (len + left) ∷ between.1) is low between.2) in
      let from = Spells-le (shape m.geometry z) (bits (sector_of m z)) between.0 (shape m.geometry z).first start cut.0 in
      let within = cut.1.1.within in
      record { zone = low; from = from; to = omega (arith, within) }

  module _ (id : ℕ) (enough : bits_in (id_runs m id) ≤ len) where
    some_sector : 0 < m.geometry.sector
    some_sector = (geometry_is m is).some

    enough_room : length (id_sectors m id) ≤ len * m.geometry.bit_bytes / m.geometry.sector
    enough_room = omega (arith, runs_le m.geometry (id_runs m id) some_sector, count_up m.geometry (bits_in (id_runs m id)) len some_sector enough)

    pub front_on_disc : first_sector m.geometry whole_hole + length (id_sectors m id) ≤ disc_sectors (Layout.New m)
    front_on_disc = omega (arith, enough_room, disc_run m is (z, hole_at start len) front_in_zone)

    pub front_in_hole : (i : ℕ) → i < length (id_sectors m id) → is_among (hole_sectors (Layout.New m)) (first_sector m.geometry whole_hole + i) ≡ true
    front_in_hole i lt =
        held_in m.geometry (hole_runs m) whole_hole (first_sector m.geometry whole_hole + i) hole_there
        (record { from = omega arith; to = omega (arith, lt, enough_room, count_up m.geometry len (len + left) some_sector (omega arith)) })

-- ---- the maps

-- m's runs of the identifier are given back in n, in o one run stands for them, in p holes that touch are one, and `last` is
-- committed
pub record Joins (m n o p last : Map) (id z start len left : ℕ) (zones : List ℕ) : Type 0 where
  pub released : EditsListed m n zones
  pub runs_n : (y : ℕ) → runs_of n y ≡ changed_runs (all_freed id) zones y (runs_of m y)
  pub edit : IsEdit n o z
  pub taken : (front rest : List Run) → HasRuns n z (front ++ hole_at start (len + left) ∷ rest) → HasRuns o z (front ++ run_at start len id ∷ hole_part (start + len) left rest)
  pub touching : EditsListed o p zones
  pub runs_p : (y : ℕ) → runs_of p y ≡ changed_runs with_holes_joined zones y (runs_of o y)
  pub runs : KeepsRuns p last
  pub contents : KeepsContents p last

pub hole_listed : (zones : List ℕ) (z : ℕ) (b : Bool) → is_listed zones z ≡ ((z == z) || b) → is_listed zones z ≡ true
hole_listed zones z b e = e ∙ ap (λ c. c || b) (eq-eqb z z refl)

-- the hole is in the map in which all runs are given back
pub hole_after : (m n : Map) (id z start size : ℕ) (zones : List ℕ) → ((y : ℕ) → runs_of n y ≡ changed_runs (all_freed id) zones y (runs_of m y)) → is_listed zones z ≡ true
    → (between : HasBetween m z (hole_at start size)) → HasRuns n z (all_freed id between.0 ++ hole_at start size ∷ all_freed id between.1)
hole_after m n id z start size zones runs listed between =
    runs z ∙ ap (λ b. cond b (all_freed id (runs_of m z)) (runs_of m z)) listed ∙ ap (all_freed id) between.2
    ∙ map-append _ between.0 (hole_at start size ∷ between.1)

module _ (law : Laws) (m n o p last : Map) (owners : List Owner) (is : IsNewMap m) (id z start len left : ℕ) (zones : List ℕ) (low : z < m.geometry.zones) (j : Joins m n o p last id z start len left zones)
    (between : HasBetween m z (hole_at start (len + left))) (listed : (y : ℕ) → y < m.geometry.zones → is_listed zones y ≡ ((y == z) || has_run_in m id y)) where
  pub joined_edits : AreEdits m p
  joined_edits = edits_join m o p (edits_then m n o z j.released.edits j.edit) j.touching.edits

  pub joined_geometry : last.geometry ≡ m.geometry
  joined_geometry = committed_geometry m p last joined_edits j.runs j.contents

  abbrev taken_run : ZoneRun
  taken_run = (z, run_at start len id)

  zones_last : last.geometry.zones ≡ m.geometry.zones
  zones_last = ap (λ (h : Geometry). h.zones) joined_geometry

  some : 1 ≤ m.geometry.zones
  some = (geometry_facts m.geometry is.of_record).zones

  abbrev front_n : List Run
  front_n = all_freed id between.0

  abbrev rest_n : List Run
  rest_n = all_freed id between.1

  hole_n : HasRuns n z (front_n ++ hole_at start (len + left) ∷ rest_n)
  hole_n = hole_after m n id z start (len + left) zones j.runs_n (hole_listed zones z (has_run_in m id z) (listed z low)) between

  runs_o : HasRuns o z (front_n ++ run_at start len id ∷ hole_part (start + len) left rest_n)
  runs_o = j.taken front_n rest_n hole_n

  abbrev ids_with : (k y : ℕ) → List Run → List ZoneRun
  ids_with k y runs = filter (λ (p : ZoneRun). has_id k p.1.kind) (placed y runs)

  none_n : (y : ℕ) → y < m.geometry.zones → ids_in n id y ≡ []
  none_n y below = ap (ids_with id y) (j.runs_n y) ∙ by (is_listed zones y) refl
    where
      by : (b : Bool) → is_listed zones y ≡ b → ids_with id y (cond b (all_freed id (runs_of m y)) (runs_of m y)) ≡ []
      by true e = freed_none id y (runs_of m y)
      by false e = no_ids m id y (λ there. (let f = sym (listed y below) ∙ e in let t = ap (λ b. (y == z) || b) (sym there) ∙ f in clash (y == z) t))
        where
          clash : (b : Bool) → (b || true) ≡ false → ⊥
          clash true e = cc
          clash false e = cc

  others_n : (k y : ℕ) → (k ≡ id → ⊥) → ids_in n k y ≡ ids_in m k y
  others_n k y other = ap (ids_with k y) (j.runs_n y) ∙ by (is_listed zones y)
    where
      by : (b : Bool) → ids_with k y (cond b (all_freed id (runs_of m y)) (runs_of m y)) ≡ ids_in m k y
      by true = freed_other id k y (runs_of m y) other
      by false = refl

  same_last : (k y : ℕ) → ids_in last k y ≡ ids_in o k y
  same_last k y = ap (ids_with k y) (j.runs.runs y ∙ j.runs_p y) ∙ by (is_listed zones y)
    where
      by : (b : Bool) → ids_with k y (cond b (with_holes_joined (runs_of o y)) (runs_of o y)) ≡ ids_in o k y
      by true = ids_joined k y (runs_of o y)
      by false = refl

  pub joined_one : id_runs last id ≡ taken_run ∷ []
  joined_one =
      one_zone_runs last id z taken_run (omega (arith, some, zones_last)) (omega (arith, low, zones_last))
      (same_last id z ∙ ap (ids_with id z) runs_o ∙ taken_one id z start len left front_n rest_n (sym (ap (ids_with id z) hole_n) ∙ none_n z low))
      (λ y below apart. let lower : y < m.geometry.zones = omega (arith, below, zones_last) in
      same_last id y ∙ ap (ids_with id y) (runs_other n o z y j.edit apart) ∙ none_n y lower)

  pub joined_others : (k : ℕ) → (k ≡ id → ⊥) → id_runs last k ≡ id_runs m k
  joined_others k other = law.ids m last k joined_geometry some (λ y below. same_last k y ∙ taken_same y ∙ others_n k y other)
    where
      taken_same : (y : ℕ) → ids_in o k y ≡ ids_in n k y
      taken_same y = elim (cases_eq y z) [
        | inl here ↦ subst (λ (x : ℕ). ids_in o k x ≡ ids_in n k x) (sym here)
            (ap (ids_with k z) runs_o ∙ taken_other id k z start len left front_n rest_n other ∙ sym (ap (ids_with k z) hole_n))
        | inr apart ↦ ap (ids_with k y) (runs_other n o z y j.edit apart)
      ]

  -- the zone of the hole, and the others
  pub joined_taken : (front rest : List Run) → HasRuns m z (front ++ hole_at start (len + left) ∷ rest)
      → HasRuns last z (with_holes_joined (all_freed id front ++ run_at start len id ∷ hole_part (start + len) left (all_freed id rest)))
  joined_taken front rest was =
      let here = hole_listed zones z (has_run_in m id z) (listed z low) in
      j.runs.runs z ∙ j.runs_p z ∙ ap (λ b. cond b (with_holes_joined (runs_of o z)) (runs_of o z)) here
      ∙ ap with_holes_joined (j.taken (all_freed id front) (all_freed id rest) (hole_after m n id z start (len + left) zones j.runs_n here (front, rest, was)))

  pub joined_freed : (y : ℕ) → (y ≡ z → ⊥) → runs_of last y ≡ changed_runs (λ runs. with_holes_joined (all_freed id runs)) zones y (runs_of m y)
  joined_freed y other =
      j.runs.runs y ∙ j.runs_p y ∙ ap (λ (rs : List Run). cond (is_listed zones y) (with_holes_joined rs) rs) (runs_other n o z y j.edit other ∙ j.runs_n y)
      ∙ by (is_listed zones y)
    where
      by : (b : Bool) → cond b (with_holes_joined (cond b (all_freed id (runs_of m y)) (runs_of m y))) (cond b (all_freed id (runs_of m y)) (runs_of m y))
          ≡ cond b (with_holes_joined (all_freed id (runs_of m y))) (runs_of m y)
      by true = refl
      by false = refl

  pub joined_leads : is_movable_by owners id ≡ true → Leads owners m last
  joined_leads may = leads_one m p last owners id joined_edits j.runs j.contents may joined_others

  module _ (was : List ℕ) (ready : IsReady m owners was) (may : is_movable_by owners id ≡ true) (enough : bits_in (id_runs m id) ≤ len)
      (put : ArePut m.geometry.sector (first_sector m.geometry (z, hole_at start (len + left))) (id_sectors m id) was) where
    joined_can : CanCommit m last (objects_of ready.view.listings) was
    joined_can =
        join_can law m last owners was ready is j.runs.map id len (z, hole_at start (len + left)) joined_geometry (committed_record m p last joined_edits j.runs j.contents (omega (arith, some))) may
        (hole_there m is z low start len left between) (omega arith) enough joined_one joined_others put

    pub joined_preserves : (image : List ℕ) → CommitLeaves p.geometry was (copy_of p.geometry One was) last.zones image → Preserves m owners was image
    joined_preserves image left_by =
        commit_preserves law m last owners was ready joined_geometry joined_can image (subst (λ (g : Geometry). CommitLeaves g was (copy_of g One was) last.zones image) joined_edits.geometry left_by)

    pub joined_ready : (image : List ℕ) → CommitEnds p.geometry was last.zones image → IsReady last owners image
    joined_ready image ends =
        commit_ready law m last owners was ready joined_geometry joined_can image (subst (λ (g : Geometry). CommitEnds g was last.zones image) joined_edits.geometry ends)
