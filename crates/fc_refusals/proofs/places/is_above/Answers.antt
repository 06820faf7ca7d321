use Rattle.std.proofs.Common.{ap₂, ◌∙◌}
use Rattle.fc_refusals.proofs.AboveLemmas.{above_is, stands_above}
use Rattle.fc_refusals.proofs.places.is_above.Goals as goal

pub loop-name-init : goal.loop-name-init
loop-name-init c =
    ap₂ stands_above (c.into_iter-name-iterator.ensures.into_iter_gives ∙ c.names-name-items.ensures.same) c.names-rest.ensures.same
    ∙ above_is c.args.above.now c.args.path.now
