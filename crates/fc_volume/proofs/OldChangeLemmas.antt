-- Old maps, as layouts, as volumes have them, and as writes leave them.
use Rattle.std.proofs.Common.{◌≡◌, List, [], ℕ, refl, subst, ◌∙◌}
use Rattle.fc_device.specs.declared.disk.Disk.{Ghosts}
use Rattle.fc_oldmap.specs.OldMap.{OldMapContent, IsOldMap}
use Rattle.fc_image.specs.Layout.{Layout}
use Rattle.fc_changes.specs.old.Owed.{IsWritten}
use Rattle.fc_space.specs.Space.{layout_of}
use Rattle.fc_holdings.specs.Holdings.{HoldsMap}
use Rattle.fc_volume.specs.Volume.{StandsFor, Volume}
use Rattle.fc_volume.specs.OldChanging.{IsOldLayout}
use Rattle.fc_change.specs.OldSpace.{LieBehind}

pub old_layout : (l : Layout) → IsOldLayout l → (space : OldMapContent) × (l ≡ Layout.Old space)
old_layout (Layout.New m) is = absurd is
old_layout (Layout.Old space) is = (space, refl)

-- ---- what is known of a volume with an old map

-- A map that a volume has is one.
abbrev pub HasMap : Volume → Type 0
HasMap v = (space : OldMapContent) → layout_of v.space ≡ Layout.Old space → IsOldMap space

-- the holes of the map of a volume that stands for a disk
pub lie_behind : {D : Type 0} (d : Ghosts D) (v : Volume) (disk : D) (space : OldMapContent) → layout_of v.space ≡ Layout.Old space → StandsFor d v disk → LieBehind space
lie_behind d v disk space layout stands = (subst (λ (l : Layout). HoldsMap l (d.sectors disk)) layout stands.map_room).1

-- ---- writes

-- one write after another to the same sectors
pub written_then : (space : OldMapContent) (sectors a b c : List ℕ) → IsWritten space sectors a b → IsWritten space sectors b c → IsWritten space sectors a c
written_then space sectors a b c first second = record {
  length_stays = second.length_stays ∙ first.length_stays;
  writes = λ s apart out. second.writes s apart out ∙ first.writes s apart out;
}

-- a write of the map alone
pub written_more : (space : OldMapContent) (sectors a b : List ℕ) → IsWritten space [] a b → IsWritten space sectors a b
written_more space sectors a b map = record { length_stays = map.length_stays; writes = λ s apart out. map.writes s refl out }
