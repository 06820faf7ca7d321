use Rattle.fc_tree.proofs.SlotLemmas.{get-past}
use Rattle.fc_tree.proofs.tree.Tree.bound.Goals as goal

pub returns-clause-above : goal.returns-clause-above
returns-clause-above c = get-past c.args.self.now
