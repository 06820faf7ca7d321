-- Where the walk over a zone stands while the runs that it has passed change.
use Rattle.std.proofs.Common.{◌≡◌, ◌<◌, ℕ, List, [], ◌∷◌, ◌++◌, map, refl, sym, ap, ap₂, subst, ◌∙◌, arith}
use Rattle.std.proofs.lemmas.List.{append-nil}
use Rattle.std.proofs.lemmas.List.Sums.{sum_by-append}
use Rattle.fc_bytes.specs.Bits.{bits}
use Rattle.fc_record.specs.declared.Geometry.{Geometry}
use Rattle.fc_zone.specs.declared.Run.{Run}
use Rattle.fc_zone.specs.declared.ZoneShape.{ZoneShape}
use Rattle.fc_zone.specs.declared.cursor.Cursor.{Cursor}
use Rattle.fc_zone.specs.Cursor.{StandsBetween, place_after}
use Rattle.fc_zone.specs.Zone.{IsShapeOf, Zone}
use Rattle.fc_zone.proofs.CursorLemmas.{Spells-sum, stands_still}
use Rattle.fc_newmap.specs.declared.walk.Walk.{Walk}
use Rattle.fc_newmap.specs.Map.{Map, ZoneRun, runs_in, runs_of, sector_of, shape}
use Rattle.fc_newmap.specs.NewMap.{IsNewMap}
use Rattle.fc_newmap.specs.RunsLaw.{placed}
use Rattle.fc_newmap.specs.Walk.{StandsBefore, zone_after, zones_from}
use Rattle.fc_newmap.specs.Edits.{IsEdit}
use Rattle.fc_newmap.proofs.ComposeLemmas.{zone_cut}
use Rattle.fc_newmap.proofs.HeldLemmas.{shape_fits}

-- ---- its beginning

runs_placed : (z : ℕ) (runs : List Run) → map (λ (p : ZoneRun). p.1) (placed z runs) ≡ runs
runs_placed z [] = refl
runs_placed z (run ∷ runs) = ap (λ (rs : List Run). run ∷ rs) (runs_placed z runs)

-- where a walk over one zone begins
pub record IsStart (m : Map) (z : ℕ) (walk : Walk) : Type 0 where
  pub shape_is : walk.shape ≡ shape m.geometry z
  pub done : List Run
  pub place : StandsBetween (shape m.geometry z) (sector_of m z) done (runs_of m z) walk.place

pub started_in : (m : Map) (z : ℕ) (walk : Walk) → StandsBefore m (placed z (runs_of m z) ++ runs_in m (zones_from m.geometry (zone_after m.geometry z) 0)) walk → walk.shape.zone ≡ z → walk.more ≡ 0 → IsStart m z walk
started_in m z walk stands zone last =
    let whole : placed z (runs_of m z) ++ [] ≡ placed z stands.here ++ [] =
    stands.rest ∙ ap₂ (λ (y n : ℕ). placed y stands.here ++ runs_in m (zones_from m.geometry (zone_after m.geometry y) n)) zone last in
    let same : runs_of m z ≡ stands.here =
    sym (runs_placed z (runs_of m z)) ∙ ap (map (λ (p : ZoneRun). p.1)) (sym (append-nil (placed z (runs_of m z))) ∙ whole ∙ append-nil (placed z stands.here)) ∙ runs_placed z stands.here in
    let shape_is : walk.shape ≡ shape m.geometry z = stands.shape ∙ ap (shape m.geometry) zone in
    let at : StandsBetween (shape m.geometry z) (sector_of m walk.shape.zone) stands.done stands.here walk.place = subst (λ (s : ZoneShape). StandsBetween s (sector_of m walk.shape.zone) stands.done stands.here walk.place) shape_is stands.place in
    let there : StandsBetween (shape m.geometry z) (sector_of m z) stands.done stands.here walk.place = subst (λ (y : ℕ). StandsBetween (shape m.geometry z) (sector_of m y) stands.done stands.here walk.place) zone at in
    record {
      shape_is = shape_is;
      done = stands.done;
      place = subst (λ (rs : List Run). StandsBetween (shape m.geometry z) (sector_of m z) stands.done rs walk.place) (sym same) there;
    }

-- ---- a change of the runs that were passed

pub stands_again : (shape : ZoneShape) (s t : List ℕ) (done front left : List Run) (place : Cursor) → StandsBetween shape s done left place → Zone shape t (front ++ left) → StandsBetween shape t front left place
stands_again shape s t done front left place stands zone =
    let was = Spells-sum shape (bits s) (done ++ left) shape.first shape.end stands.zone.spelled in
    let is = Spells-sum shape (bits t) (front ++ left) shape.first shape.end zone.spelled in
    let two = sum_by-append (λ (r : Run). r.len) done left in
    let both = sum_by-append (λ (r : Run). r.len) front left in
    let same : place_after shape front ≡ place_after shape done = omega arith in
    stands_still shape s t done front left place stands zone same

-- in a map: the runs after the place are as they were
pub stands_in_map : (m : Map) (z : ℕ) (shape_is : ZoneShape) (s : List ℕ) (done front left : List Run) (place : Cursor) → IsNewMap m → z < m.geometry.zones → shape_is ≡ shape m.geometry z
    → StandsBetween shape_is s done left place → runs_of m z ≡ front ++ left → StandsBetween shape_is (sector_of m z) front left place
stands_in_map m z shape_is s done front left place is low same stands runs =
    stands_again shape_is s (sector_of m z) done front left place stands
    (subst (λ (k : ZoneShape). Zone k (sector_of m z) (front ++ left)) (sym same) (zone_cut m z (front ++ left) is low runs))

pub shape_of_zone : (m : Map) (z : ℕ) → IsNewMap m → z < m.geometry.zones → IsShapeOf (sector_of m z) (shape m.geometry z)
shape_of_zone m z is low = shape_fits m.geometry z (sector_of m z) is.of_record low (is.whole z low)

pub shaped : (m now : Map) (z : ℕ) (k : ZoneShape) (b : List ℕ) → IsEdit m now z → z < m.geometry.zones → k ≡ shape m.geometry z → b ≡ sector_of now z → IsShapeOf b k
shaped m now z k b edit low same is =
    subst (λ (s : List ℕ). IsShapeOf s k) (sym is)
    (subst (λ (x : ZoneShape). IsShapeOf (sector_of now z) x) (ap (λ (g : Geometry). shape g z) edit.geometry ∙ sym same) (shape_of_zone now z edit.map (subst (λ (g : Geometry). z < g.zones) (sym edit.geometry) low)))
