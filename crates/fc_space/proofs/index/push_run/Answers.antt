use Rattle.std.proofs.Common.{◌≡◌, true, not, ap, ◌∙◌}
use Rattle.std.specs.Result.{is_ok}
use Rattle.fc_space.proofs.GeometryLemmas.{extent_fits}
use Rattle.fc_space.proofs.IndexLemmas.{one_low}
use Rattle.fc_space.proofs.index.push_run.Goals as goal

pub returns-clause-low : goal.returns-clause-low
returns-clause-low c = λ low.
    let done : is_ok c.push.result ≡ true = c.is_err.ensures.negation ∙ ap not c.if-is_err.false in
    one_low c.args.rows.now.items c.push.new.self.items _ (rw done at c.push.ensures.items)
    (extent_fits c.args.g.now (c.args.z, c.args.run) c.extent_of-place.result c.requires.record c.requires.within c.extent_of-place.ensures) low
