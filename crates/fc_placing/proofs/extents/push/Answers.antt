use Rattle.std.proofs.Common.{◌≡◌, ◌++◌, ◌∷◌, ◌∙◌, [], true, not, ap}
use Rattle.std.specs.Result.{is_ok}
use Rattle.fc_placing.proofs.ExtentLemmas.{one_pushed}
use Rattle.fc_placing.proofs.extents.push.Goals as goal

pub returns-clause-sectors : goal.returns-clause-sectors
returns-clause-sectors c =
    let done : is_ok c.push.result ≡ true = c.is_err.ensures.negation ∙ ap not c.if-is_err.false in
    let pushed : c.push.new.self.items ≡ c.args.place.now.items ++ (record { first = c.args.extent.first; sectors = c.min-sectors.result }) ∷ [] = rw done at c.push.ensures.items in
    one_pushed c.args.place.now.items c.push.new.self.items c.args.extent.first c.args.extent.sectors c.args.need c.min-sectors.result pushed c.min-sectors.ensures
