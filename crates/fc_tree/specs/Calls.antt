-- How many sectors are read of directories.
use Rattle.std.specs.Prelude.{ℕ, if◌then◌else◌}
use Rattle.std.specs.List.{sum_by}
use Rattle.std.specs.Int.{div_ceil}
use Rattle.std.specs.Ordering.{nat_cmp}
use Rattle.std.specs.FinMap.{FinMap, entries}
use Rattle.fc_names.specs.Names.{is_directory}
use Rattle.fc_dirs.specs.declared.Entry.{Entry}
use Rattle.fc_image.specs.Layout.{Layout, dir_form, sector_bytes}
use Rattle.fc_image.specs.Walk.{object_size}
use Rattle.fc_tree.specs.declared.node.Node.{Node}

-- the sectors that the bytes of an object take
abbrev pub entry_sectors : Layout → Entry → ℕ
entry_sectors layout e = div_ceil (object_size (dir_form layout) e) (sector_bytes layout)

-- of a directory's node its sectors; of a file's none
abbrev pub directory_sectors : Layout → Node → ℕ
directory_sectors layout n = if is_directory n.entry.attrs then entry_sectors layout n.entry else 0

-- the sectors of all directories, the root's among them
abbrev pub all_directory_sectors : Layout → FinMap nat_cmp Node → ℕ
all_directory_sectors layout nodes = sum_by (λ e. directory_sectors layout e.1) (entries nodes)
