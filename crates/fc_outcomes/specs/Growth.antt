-- What a command that makes a directory grow asks of its edit, and what it leaves of the map, whatever the command.
use Rattle.std.specs.Prelude.{◌≡◌, ◌<◌, ◌⊎◌, ℕ, ◌||◌, true, false, List, [], length, Some, Ok, Contains, if◌then◌else◌}
use Rattle.fc_names.specs.Names.{Path, is_same_path}
use Rattle.fc_record.specs.declared.DiscRecord.{DiscRecord}
use Rattle.fc_record.specs.Kinds.{map_record}
use Rattle.fc_newmap.specs.Map.{Map, sector_of}
use Rattle.fc_model.specs.Command.{Command}
use Rattle.fc_model.specs.Tree.{holder}
use Rattle.fc_image.specs.Report.{holder_address}
use Rattle.fc_image.specs.Walk.{Listing}
use Rattle.fc_image.specs.Opening.{Opened, agreement, difference}
use Rattle.fc_image.specs.effects.Short.{growth_in}
use Rattle.fc_image.specs.effects.Steady.{has_grown, has_new_holder}
use Rattle.fc_changes.specs.Owed.{IsMapAfter}
use Rattle.fc_edits.specs.Growing.{Growing, Told}
use Rattle.fc_outcomes.specs.NewImage.{IsMapRooted}

-- The command makes this directory grow. It tells those that hold it, or that lie in it if it gets another address, and no others need it.
pub record Grows (v : Opened) (c : Command) (g : Growing) : Type 0 where
  pub growth : growth_in v c ≡ Some (g.o, g.len)
  pub told : (t : Told) → Contains g.again t → (has_grown v c t.was.object.path || has_new_holder v c t.was.object.path) ≡ true
  pub kept : (k : Listing) → Contains g.same k → has_new_holder v c k.object.path ≡ false

-- the address of the directory that holds a path, afterwards
abbrev pub holder_now : List Listing → Growing → Path → ℕ
holder_now listings g path = if is_same_path (holder path) g.o.path then g.address else holder_address listings path

-- Both copies of the map are the new map, whose record stays: the directory isn't the root.
pub record GrowsBelow (m m' : Map) (g : Growing) (image' : List ℕ) : Type 0 where
  pub below : 0 < length g.o.path
  pub after : IsMapAfter m m' image'

-- If the root grows, the record has its new place, and agrees with that of the kind.
pub record GrowsRoot (m m' : Map) (g : Growing) (r : DiscRecord) (image' : List ℕ) : Type 0 where
  pub at_top : g.o.path ≡ []
  pub after : IsMapRooted m m' image' g.address g.len
  pub own : DiscRecord
  pub agreed : agreement r (map_record (sector_of m' 0)) (difference r (map_record (sector_of m' 0))) ≡ Ok own
  pub address : own.root ≡ g.address
  pub len : own.root_size ≡ g.len

abbrev pub MapGrows : Map → Map → Growing → DiscRecord → List ℕ → Type 0
MapGrows m m' g r image' = GrowsBelow m m' g image' ⊎ GrowsRoot m m' g r image'
