use Rattle.fc_image.proofs.lemmas.effects.OneHoleLemmas.{one_hole_law}
use Rattle.fc_image.proofs.effects.one_hole.Goals as goal

pub returns : goal.returns
returns c = one_hole_law
