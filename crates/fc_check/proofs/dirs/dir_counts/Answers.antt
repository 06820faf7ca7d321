use Rattle.std.proofs.Common.{◌+◌, sym, subst}
use Rattle.fc_tree.specs.Nodes.{nodes_of}
use Rattle.fc_check.specs.declared.dirs.DirCounts.{DirCounts}
use Rattle.fc_check.proofs.NodeLemmas.{Count, count_more, count_other}
use Rattle.fc_check.proofs.dirs.dir_counts.Goals as goal
use Rattle.fc_check.proofs.dirs.dir_counts.Goals.{in-Some, in_default}

pub loop-n-preserved : goal.loop-n-preserved
loop-n-preserved c =
    let nodes = nodes_of c.args.tree.now in
    elim c.match-node.branch [
      | in-Some w ↦ subst (λ (d : DirCounts). Count nodes d (c.loop-n.n + 1)) (sym w.counts-is)
          (count_more nodes c.loop-n.counts w.with_node-counts.result c.loop-n.n w.in-Some.node.now (sym w.in-Some.ensures) w.with_node-counts.ensures c.loop-n.invariant)
      | in_default w ↦ subst (λ (d : DirCounts). Count nodes d (c.loop-n.n + 1)) (sym w.counts-is)
          (count_other nodes c.loop-n.counts c.loop-n.n (sym w.in_default.ensures) c.loop-n.invariant)
    ]
