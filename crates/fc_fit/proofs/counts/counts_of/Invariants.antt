use Rattle.std.proofs.Common.{◌≡◌, ◌≤◌, take}
use Rattle.fc_tree.specs.Nodes.{nodes_of}
use Rattle.fc_fit.specs.Counts.{counts_of}
use Rattle.fc_fit.proofs.counts.counts_of.Given as goal

abbrev pub invariant-loop-path : goal.invariant-loop-path
invariant-loop-path l = record {
  counts : l.counts ≡ counts_of (nodes_of l.tree) (take l.path-index l.paths);
  files : l.counts.files ≤ l.path-index;
  dirs : l.counts.dirs ≤ l.path-index;
}
