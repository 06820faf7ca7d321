use Rattle.fc_newmap.proofs.HeldLemmas.{shape_fits}
use Rattle.fc_newmap.proofs.shapes.shape_of.Goals as goal

pub returns-clause-fits : goal.returns-clause-fits
returns-clause-fits c = λ sector long. shape_fits c.args.g.now c.args.z sector c.requires.geometry c.requires.zone long
