-- One pass over the runs of a zone, while those that it has passed change.
use Rattle.std.proofs.Common.{◌≡◌, ◌<◌, ℕ, List, ◌++◌, ap, sym, subst, ◌∙◌}
use Rattle.fc_record.specs.declared.Geometry.{Geometry}
use Rattle.fc_zone.specs.declared.Run.{Run}
use Rattle.fc_zone.specs.declared.ZoneShape.{ZoneShape}
use Rattle.fc_zone.specs.declared.cursor.Cursor.{Cursor}
use Rattle.fc_zone.specs.Cursor.{StandsBetween}
use Rattle.fc_zone.specs.Zone.{IsShapeOf}
use Rattle.fc_newmap.specs.declared.walk.Walk.{Walk}
use Rattle.fc_newmap.specs.Map.{Map, runs_in, runs_of, sector_of, shape}
use Rattle.fc_newmap.specs.NewMap.{IsNewMap}
use Rattle.fc_newmap.specs.RunsLaw.{placed}
use Rattle.fc_newmap.specs.Walk.{StandsBefore, zone_after, zones_from}
use Rattle.fc_newmap.proofs.ZoneWalkLemmas.{shape_of_zone, stands_in_map, started_in}

-- where a pass begins: before all runs of the zone
pub record IsBegun (m : Map) (z : ℕ) (walk : Walk) : Type 0 where
  pub shape_is : walk.shape ≡ shape m.geometry z
  pub done : List Run
  pub stands : StandsBetween walk.shape (sector_of m z) done (runs_of m z) walk.place

pub begun : (m : Map) (z : ℕ) (walk : Walk) → StandsBefore m (placed z (runs_of m z) ++ runs_in m (zones_from m.geometry (zone_after m.geometry z) 0)) walk → walk.shape.zone ≡ z → walk.more ≡ 0 → IsBegun m z walk
begun m z walk stands zone last =
    let start = started_in m z walk stands zone last in
    record {
      shape_is = start.shape_is;
      done = start.done;
      stands = subst (λ (s : ZoneShape). StandsBetween s (sector_of m z) start.done (runs_of m z) walk.place) (sym start.shape_is) start.place;
    }

-- the zone's sector as its bytes are read
pub read_as : (k : ZoneShape) (s b : List ℕ) (done left : List Run) (place : Cursor) → b ≡ s → StandsBetween k s done left place → StandsBetween k b done left place
read_as k s b done left place same = subst (λ (t : List ℕ). StandsBetween k t done left place) (sym same)

-- the zone's shape, whatever has become of its runs
pub shape_stays : (m now : Map) (z : ℕ) (k : ZoneShape) (b : List ℕ) → IsNewMap now → now.geometry ≡ m.geometry → z < m.geometry.zones → k ≡ shape m.geometry z → b ≡ sector_of now z → IsShapeOf b k
shape_stays m now z k b map geometry low same is =
    subst (λ (s : List ℕ). IsShapeOf s k) (sym is)
    (subst (λ (x : ZoneShape). IsShapeOf (sector_of now z) x) (ap (λ (g : Geometry). shape g z) geometry ∙ sym same)
    (shape_of_zone now z map (subst (λ (g : Geometry). z < g.zones) (sym geometry) low)))

-- the runs that were passed have changed, and those that are left haven't
pub stands_on : (m now : Map) (z : ℕ) (k : ZoneShape) (s : List ℕ) (done front left : List Run) (place : Cursor) → IsNewMap now → now.geometry ≡ m.geometry → z < m.geometry.zones → k ≡ shape m.geometry z
    → StandsBetween k s done left place → runs_of now z ≡ front ++ left → StandsBetween k (sector_of now z) front left place
stands_on m now z k s done front left place map geometry low same stands runs =
    stands_in_map now z k s done front left place map (subst (λ (g : Geometry). z < g.zones) (sym geometry) low) (same ∙ ap (λ (g : Geometry). shape g z) (sym geometry)) stands runs
