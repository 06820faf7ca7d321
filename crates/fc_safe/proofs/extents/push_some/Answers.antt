use Rattle.fc_safe.proofs.ExtentLemmas.{one_row}
use Rattle.fc_safe.proofs.extents.push_some.Goals as goal

pub returns : goal.returns
returns c = one_row c.args.place.now.items c.push.new.list.items c.args.row c.in_ok-push.ensures
