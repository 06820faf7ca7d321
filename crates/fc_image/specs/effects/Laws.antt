-- Laws of holes: what taking leaves, and when an old map has just one.
use Rattle.std.specs.Prelude.{◌≡◌, ◌≤◌, ◌%◌, ℕ, true, List, [], length, All, Contains, Some}
use Rattle.fc_record.specs.declared.Geometry.{Geometry}
use Rattle.fc_record.specs.declared.Kind.{Kind}
use Rattle.fc_names.specs.declared.refusal.Refusal.TheVariants.{CompactionRequired}
use Rattle.fc_oldmap.specs.OldMap.{OldMapContent}
use Rattle.fc_newmap.specs.Map.{ZoneRun}
use Rattle.fc_model.specs.Command.{Command}
use Rattle.fc_image.specs.Layout.{Layout}
use Rattle.fc_image.specs.Walk.{Object}
use Rattle.fc_image.specs.Objects.{objects_of}
use Rattle.fc_image.specs.OldMaps.{IsOldDisc}
use Rattle.fc_image.specs.Opening.{Opened}
use Rattle.fc_image.specs.Stays.{OpensAs}
use Rattle.fc_image.specs.effects.Short.{short}
use Rattle.fc_image.specs.effects.Placed.{HasRunLength, IsPlan, IsTaken, holes_left, stands_at}
use Rattle.fc_image.specs.effects.Settled.{is_settled, is_settled_space}
use Rattle.fc_image.specs.effects.Steady.{lost_sectors}

-- ---- new maps

-- No two of these begin at one place, as no two runs of a map do.
abbrev pub HaveOwnPlaces : List ZoneRun → Type 0
HaveOwnPlaces runs = (p q : ZoneRun) → Contains runs p → Contains runs q → stands_at p q ≡ true → p ≡ q

-- After parts are taken, each hole that is left is long enough for a run, if each was before and the parts are whole sectors, as
-- those of a plan are. So a second plan can follow the first.
pub record LeftLaw : Type 0 where
  pub taken : (g : Geometry) (holes parts : List ZoneRun) (bits : ℕ) → HaveOwnPlaces holes → All (HasRunLength g) holes
      → IsTaken g holes bits parts → All (λ part. part.1.len % g.q ≡ 0) parts → All (HasRunLength g) (holes_left holes parts)
  pub planned : (g : Geometry) (holes parts : List ZoneRun) (bits : ℕ) → HaveOwnPlaces holes → All (HasRunLength g) holes
      → IsPlan g holes bits parts → All (HasRunLength g) (holes_left holes parts)

-- ---- old maps

-- A settled old map without lost sectors has at most one hole.
abbrev pub OneHoleLaw : Type 0
OneHoleLaw =
    (space : OldMapContent) (objects : List Object) → IsOldDisc space objects → lost_sectors space objects ≡ [] → is_settled_space space objects ≡ true
    → length space.holes ≤ 1

-- So has an opened image with such a map, and then no command needs compaction.
pub record OldMapCompactedLaw : Type 0 where
  pub one_hole : (image : List ℕ) (kind : Kind) (v : Opened) (space : OldMapContent) → OpensAs image kind v → v.layout ≡ Layout.Old space
      → lost_sectors space (objects_of v.listings) ≡ [] → is_settled v ≡ true → length space.holes ≤ 1
  pub none_required : (v : Opened) (space : OldMapContent) (c : Command) → v.layout ≡ Layout.Old space → length space.holes ≤ 1 → short v c ≡ Some CompactionRequired → ⊥
