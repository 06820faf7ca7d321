use Rattle.fc_names.proofs.SpelledRead.{name_of-spelled_name, path_of-spelled_path}
use Rattle.fc_names.proofs.spelled_read.Goals as goal

pub returns : goal.returns
returns c = record { name = name_of-spelled_name; path = path_of-spelled_path }
