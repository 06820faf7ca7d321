use Rattle.std.proofs.Common.{ap, ◌∙◌, None}
use Rattle.fc_refusals.proofs.WalkLemmas.{last_from, last_is}
use Rattle.fc_refusals.proofs.places.own_name.Goals as goal

pub loop-name-init : goal.loop-name-init
loop-name-init c = ap (last_from None) (c.into_iter-name-iterator.ensures.into_iter_gives ∙ c.names-name-items.ensures.same) ∙ last_is c.args.path.now
