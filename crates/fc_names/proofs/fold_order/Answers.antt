use Rattle.fc_names.proofs.FoldOrder.{fold_law}
use Rattle.fc_names.proofs.fold_order.Goals as goal

pub returns : goal.returns
returns c = fold_law
