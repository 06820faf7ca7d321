use Rattle.fc_tree.proofs.PathLemmas.{popped}
use Rattle.fc_tree.proofs.paths.reversed.Goals as goal

pub loop-name-preserved : goal.loop-name-preserved
loop-name-preserved c =
    popped c.loop-name.path c.push.new.self _ c.pop.new.self.items c.loop-name.names.items c.in-Some.name c.in-Some.ensures.items c.in_ok-push.ensures.ok c.loop-name.invariant
