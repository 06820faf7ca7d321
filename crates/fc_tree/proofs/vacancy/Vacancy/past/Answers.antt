use Rattle.std.proofs.Common.{refl}
use Rattle.fc_tree.proofs.ChangeLemmas.{vacancy_past}
use Rattle.fc_tree.proofs.vacancy.Vacancy.past.Goals as goal

pub returns : goal.returns
returns c = λ slots size full. vacancy_past slots c.args.count _ size full refl refl
