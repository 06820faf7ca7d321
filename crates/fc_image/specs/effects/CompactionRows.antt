-- What compaction of old maps does not do, and one thing that it does, worked out.
use Rattle.std.specs.Prelude.{◌≡◌, ℕ, List, [], ◌∷◌, codes}
use Rattle.fc_oldmap.specs.Holes.{hole}
use Rattle.fc_oldmap.specs.OldMap.{OldMapContent}
use Rattle.fc_oldmap.specs.declared.Hole.{Hole}
use Rattle.fc_names.specs.Names.{Path}
use Rattle.fc_dirs.specs.declared.SmallForm.TheVariants.{Bytes1280}
use Rattle.fc_dirs.specs.Small.{SmallDir, empty_small}
use Rattle.fc_dirs.specs.Directory.{Directory}
use Rattle.fc_image.specs.Layout.{Layout}
use Rattle.fc_image.specs.Walk.{Object}
use Rattle.fc_image.specs.effects.Steady.{lost_sectors}
use Rattle.fc_image.specs.effects.Settled.{CompactedLayout, CompactedDir}
use Rattle.fc_image.specs.declared.effects.Owned.{Owned}
use Rattle.fc_image.specs.effects.Moves.{Squashed}

-- an old map of sectors of 256 bytes
abbrev pub space_of : ℕ → List Hole → OldMapContent
space_of units holes = record { holes = holes; disc_units = units; sector_units = 1 }

-- an object
abbrev pub owned_at : ℕ → ℕ → ℕ → Owned
owned_at node start len = record { node = node; start = start; len = len }

-- an object of the tree in some sectors, with nothing else said of it
abbrev pub object_in : Path → ℕ → List ℕ → Object
object_in path address sectors = record {
  path = path;
  entry = record { name = []; load = 0; exec = 0; len = 0; address = address; attrs = 3; last = 0 };
  sectors = sectors;
}

-- the root in sectors 2 to 6, and a file in 7 to 9
abbrev pub two_objects : List Object
two_objects = object_in [] 2 (2 ∷ 3 ∷ 4 ∷ 5 ∷ 6 ∷ []) ∷ object_in (codes "A" ∷ []) 7 (7 ∷ 8 ∷ 9 ∷ []) ∷ []

-- the root, as an empty directory
abbrev pub empty_root : SmallDir
empty_root = empty_small Bytes1280 2 (codes "$")

-- compaction of old maps
pub record CompactionRows : Type 0 where
  -- a hole that is said to lie inside an object, two objects at one place, and the map of another disc
  pub inside : Squashed (space_of 40 (hole 11 2 ∷ [])) (space_of 40 (hole 8 2 ∷ [])) (owned_at 1 7 4 ∷ []) (owned_at 1 7 4 ∷ []) → ⊥
  pub at_one_place : (space : OldMapContent) (was : List Owned)
      → Squashed space space was (owned_at 1 7 2 ∷ owned_at 2 7 2 ∷ []) → ⊥
  pub other_disc : (owned : List Owned) → Squashed (space_of 40 (hole 11 2 ∷ [])) (space_of 30 (hole 11 2 ∷ [])) owned owned → ⊥
  -- lost sectors that change places with a hole's
  pub lost : lost_sectors (space_of 14 (hole 10 2 ∷ [])) two_objects ≡ 12 ∷ 13 ∷ []
  pub changed_places : CompactedLayout (Layout.Old (space_of 14 (hole 10 2 ∷ []))) (Layout.Old (space_of 14 (hole 11 2 ∷ []))) two_objects two_objects → ⊥
  -- a sequence byte that counts on with nothing else changed, and one that must, since the holder has moved
  pub idle_count : CompactedDir 2 2 (Directory.Small empty_root) (Directory.Small (record empty_root { sequence = 1 })) → ⊥
  pub counted : CompactedDir 2 9 (Directory.Small empty_root) (Directory.Small (record empty_root { sequence = 1; parent = 9 }))
