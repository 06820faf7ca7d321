use Rattle.std.proofs.Common.{◌∙◌, sym}
use Rattle.fc_tree.specs.Nodes.{nodes_of}
use Rattle.fc_refusals.proofs.WalkLemmas.{stepped}
use Rattle.fc_refusals.proofs.places.find_holder.Goals as goal

pub loop-next-preserved : goal.loop-next-preserved
loop-next-preserved c =
    sym (stepped (nodes_of c.args.tree.now) c.loop-next.at c.in-Some-child.child c.loop-next.name.now c.in-Some-next.next.now c.loop-next.next-iterator c.next-in-loop-next.new.self
    c.in-Some-next.ensures.steps c.if-not-is_directory.ensures c.in-Some-child.ensures)
    ∙ c.loop-next.invariant
