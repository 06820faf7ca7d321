use Rattle.std.proofs.Common.{◌≡◌, drop}
use Rattle.fc_tree.specs.Nodes.{nodes_of}
use Rattle.fc_fit.specs.Misfits.{entries_fault, entry_fault, first_from}
use Rattle.fc_fit.proofs.fit.directory_misfit.Given as goal

abbrev pub invariant-loop-at : goal.invariant-loop-at
invariant-loop-at l = first_from (nodes_of l.tree) (entries_fault l.form) 0 l.paths ≡ first_from (nodes_of l.tree) (entries_fault l.form) l.at (drop l.at l.paths)
