-- Counts over nodes, one more at a time.
use Rattle.std.specs.Prelude.{◌+◌, Bool, not, List, if◌then◌else◌}
use Rattle.fc_dirs.specs.declared.Entry.{Entry}
use Rattle.fc_dirs.specs.Entries.{is_sorted_by_name}
use Rattle.fc_tree.specs.Counts.{Said, is_directory_said, is_file_said, is_unsorted_said, is_wrong_parent_said}
use Rattle.fc_check.specs.declared.dirs.DirCounts.{DirCounts}

-- the counts with those of a directory more
abbrev pub with_dir : DirCounts → List Entry → Bool → DirCounts
with_dir counts entries is_parent_right = record counts {
  dirs = counts.dirs + 1;
  unsorted = counts.unsorted + (if not (is_sorted_by_name entries) then 1 else 0);
  parents = counts.parents + (if not is_parent_right then 1 else 0);
}

-- the counts with those of a node more, which says this
abbrev pub with_said : DirCounts → Said → DirCounts
with_said counts s = record {
  files = counts.files + (if is_file_said s then 1 else 0);
  dirs = counts.dirs + (if is_directory_said s then 1 else 0);
  unsorted = counts.unsorted + (if is_unsorted_said s then 1 else 0);
  parents = counts.parents + (if is_wrong_parent_said s then 1 else 0);
}
