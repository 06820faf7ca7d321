-- The directories that compaction writes, by their nodes: where they lie, and what is on the disk then.
use Rattle.std.specs.Prelude.{◌≡◌, ◌<◌, ◌≤◌, ℕ, ◌+◌, ◌/◌, ◌*◌, Bool, true, false, not, List, length, Some}
use Rattle.std.specs.List.{range_with_len}
use Rattle.std.specs.Int.{div_ceil}
use Rattle.std.specs.FinMap.{get}
use Rattle.fc_device.specs.Sectors.{sector_at}
use Rattle.fc_oldmap.specs.OldMap.{OldMapContent}
use Rattle.fc_dirs.specs.declared.Entry.{Entry}
use Rattle.fc_dirs.specs.Small.{SmallDir, tail_of}
use Rattle.fc_dirs.specs.SmallBytes.{IsWrittenSmall}
use Rattle.fc_image.specs.Layout.{Layout, bytes_in, dir_form, disc_sectors, is_among, is_apart, sector_bytes}
use Rattle.fc_image.specs.Walk.{object_size}
use Rattle.fc_image.specs.effects.Settled.{has_same_places}
use Rattle.fc_tree.specs.declared.node.Body.TheVariants as bodies
use Rattle.fc_tree.specs.declared.node.Node.{Node}
use Rattle.fc_tree.specs.Counts.{address_in}
use Rattle.fc_laws.specs.nodes.Edits.{Nodes}
use Rattle.fc_oldlaws.specs.moves.After.{Slide, form_of, move_of, readdressed}

-- ---- places

-- how many sectors an entry's object has
abbrev pub count_of : OldMapContent → Entry → ℕ
count_of space e = div_ceil (object_size (dir_form (Layout.Old space)) e) (256 * space.sector_units)

-- an entry's object: a row of sectors from its address on
abbrev pub row_of : OldMapContent → Entry → List ℕ
row_of space e = range_with_len (e.address / space.sector_units) (count_of space e)

-- The node is that of a small directory.
pub record IsDirAt (nodes : Nodes) (n : ℕ) (node : Node) (dir : SmallDir) : Type 0 where
  pub there : get nodes n ≡ Some node
  pub says : node.body ≡ bodies.Small dir

-- Each directory lies on the disc, as many bytes as its form has, and apart from the others.
pub record AreDirectoriesPlaced (space : OldMapContent) (nodes : Nodes) : Type 0 where
  pub inside : (n : ℕ) (node : Node) (dir : SmallDir) → IsDirAt nodes n node dir → node.entry.address / space.sector_units + count_of space node.entry ≤ disc_sectors (Layout.Old space)
  pub size : (n : ℕ) (node : Node) (dir : SmallDir) → IsDirAt nodes n node dir → object_size (dir_form (Layout.Old space)) node.entry ≡ (tail_of dir.form).size
  pub apart : (m n : ℕ) (a b : Node) (k l : SmallDir) → IsDirAt nodes m a k → IsDirAt nodes n b l → (m ≡ n → ⊥) → is_apart (row_of space a.entry) (row_of space b.entry) ≡ true

-- ---- what is written

-- The marks tell in which directories something changes.
abbrev pub MarkChanges : Slide → Nodes → (ℕ → Bool) → Type 0
MarkChanges s nodes changed = (n : ℕ) (node : Node) (dir : SmallDir) → IsDirAt nodes n node dir
    → changed n ≡ not (has_same_places dir (readdressed (form_of s) (move_of s) (address_in nodes node.holder) dir))

-- Of the directories whose numbers are below a bound those that are marked have been written where they lie, and nothing else has.
pub record AreDirectoriesWritten (space : OldMapContent) (nodes : Nodes) (changed : ℕ → Bool) (bound : ℕ) (was image : List ℕ) : Type 0 where
  pub length_stays : length image ≡ length was
  pub written : (n : ℕ) (node : Node) (dir : SmallDir) → n < bound → changed n ≡ true → IsDirAt nodes n node dir
      → IsWrittenSmall (bytes_in (sector_bytes (Layout.Old space)) image (row_of space node.entry) (object_size (dir_form (Layout.Old space)) node.entry)) dir
  pub others : (t : ℕ) → ((n : ℕ) (node : Node) (dir : SmallDir) → n < bound → changed n ≡ true → IsDirAt nodes n node dir → is_among (row_of space node.entry) t ≡ false)
      → sector_at (sector_bytes (Layout.Old space)) image t ≡ sector_at (sector_bytes (Layout.Old space)) was t
