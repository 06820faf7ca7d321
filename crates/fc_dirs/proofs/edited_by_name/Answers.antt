use Rattle.fc_dirs.proofs.EditLemmas.{edit_law}
use Rattle.fc_dirs.proofs.edited_by_name.Goals as goal

pub returns : goal.returns
returns c = edit_law
