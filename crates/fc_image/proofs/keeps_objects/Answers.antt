use Rattle.fc_image.proofs.SameMapLemmas.{keeps_objects_law}
use Rattle.fc_image.proofs.keeps_objects.Goals as goal

pub returns : goal.returns
returns c = keeps_objects_law
