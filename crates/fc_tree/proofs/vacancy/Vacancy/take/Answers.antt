use Rattle.std.proofs.Common.{refl}
use Rattle.fc_tree.proofs.ChangeLemmas.{vacancy_taken}
use Rattle.fc_tree.proofs.vacancy.Vacancy.take.Goals as goal

pub returns : goal.returns
returns c = λ slots new same size is. vacancy_taken slots new c.args.n c.args.self.now _ same size is refl refl c.min-self.ensures
