use Rattle.std.proofs.Common.{ap, nat_lt, ◌∙◌}
use Rattle.fc_placing.proofs.OtherLemmas.{more_than_own}
use Rattle.fc_placing.proofs.leaving.has_other.Goals as goal

pub returns : goal.returns
returns c =
    ap (nat_lt c.own_count.result) c.count.ensures
    ∙ more_than_own c.args.owners.now c.args.node c.args.id c.own_count.result c.list.ensures.nodes c.own_count.ensures
