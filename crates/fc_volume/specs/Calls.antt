-- How many read calls a disc takes when it is opened.
use Rattle.std.specs.Prelude.{ℕ, ◌+◌, ◌*◌, List, length, nat_lt, if◌then◌else◌, Option, Some, None, Result, Ok, Err}
use Rattle.fc_record.specs.Record.{geometry}
use Rattle.fc_record.specs.Kinds.{disc_size, front_reads, kind_of}
use Rattle.fc_record.specs.declared.Kind.{Kind}
use Rattle.fc_record.specs.declared.Kind.TheVariants.{Boot, OneZone, DiscD, DiscL}
use Rattle.fc_newmap.specs.declared.copies.Which.{Which}
use Rattle.fc_newmap.specs.declared.copies.Which.TheVariants.{One, Two}
use Rattle.fc_newmap.specs.Copies.{chosen}
use Rattle.fc_image.specs.Layout.{Layout}
use Rattle.fc_image.specs.Opening.{MapAndRoot, map_and_root, reserved_in}
use Rattle.fc_image.specs.Walk.{reader_of}
use Rattle.fc_tree.specs.Reads.{unless_fault, walk_sectors}
use Rattle.fc_writing.specs.declared.copies.Copies.{Copies}
use Rattle.fc_writing.specs.declared.copies.Copies.TheVariants.{Equal, Chosen}

-- one for each zone of copy 1, and of copy 2, if that counts
abbrev pub copy_reads : Which → ℕ → ℕ
copy_reads One zones = zones
copy_reads Two zones = 2 * zones

-- those of the copies of a new map; an old one is known from the search for the kind
abbrev pub layout_reads : Layout → Copies → ℕ
layout_reads (Layout.New m) (Chosen which) = copy_reads which m.geometry.zones
layout_reads (Layout.New m) Equal = m.geometry.zones
layout_reads (Layout.Old space) copies = 0

-- only of a disc with a boot block: every other map is known from the search for the kind
abbrev pub map_reads : Kind → Layout → Copies → ℕ
map_reads (Boot r) layout copies = layout_reads layout copies
map_reads (OneZone r) layout copies = 0
map_reads DiscD layout copies = 0
map_reads (DiscL units) layout copies = 0

-- ---- whatever is answered

-- one for each zone of copy 1, and of copy 2, if copy 1 isn't the one that counts
abbrev pub chosen_reads : Result Which (ℕ × ℕ) → ℕ → ℕ
chosen_reads (Ok which) zones = copy_reads which zones
chosen_reads (Err wrong) zones = 2 * zones

-- those of the map's copies, if the image is a disc of this kind; every map but that of a disc with a boot block is known from
-- the search for the kind
abbrev pub copies_reads : List ℕ → Kind → ℕ
copies_reads image (Boot r) = chosen_reads (chosen (geometry r) image) (geometry r).zones
copies_reads image (OneZone r) = 0
copies_reads image DiscD = 0
copies_reads image (DiscL units) = 0

-- those of the directories, from the map and the root that were found
abbrev pub walk_reads : List ℕ → Kind → MapAndRoot → ℕ
walk_reads image kind found = walk_sectors (reader_of image found.0) found.0 (reserved_in kind found.0) found.1 found.2

-- those of the map and of the directories; of directories none, if the map has a fault
abbrev pub parts_reads : List ℕ → Kind → ℕ
parts_reads image kind = copies_reads image kind + unless_fault (map_and_root image kind) (walk_reads image kind)

-- nothing more is read of an image that is too short for its kind, or has none
abbrev pub kind_reads : List ℕ → Option Kind → ℕ
kind_reads image None = 0
kind_reads image (Some kind) = if nat_lt (length image) (disc_size kind) then 0 else parts_reads image kind

-- The read calls by which an image is opened, or found to have a fault: each sector that is looked at is read once.
unfoldable pub open_reads : List ℕ → ℕ
open_reads image = front_reads image + kind_reads image (kind_of image)
