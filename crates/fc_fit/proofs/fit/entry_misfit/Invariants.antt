use Rattle.std.proofs.Common.{◌≡◌, drop}
use Rattle.fc_tree.specs.Nodes.{nodes_of}
use Rattle.fc_fit.specs.Misfits.{entries_fault, entry_fault, first_from}
use Rattle.fc_fit.proofs.fit.entry_misfit.Given as goal

abbrev pub invariant-loop-at : goal.invariant-loop-at
invariant-loop-at l = first_from (nodes_of l.tree) (entry_fault l.form) 1 (drop 1 l.paths) ≡ first_from (nodes_of l.tree) (entry_fault l.form) l.at (drop l.at l.paths)
