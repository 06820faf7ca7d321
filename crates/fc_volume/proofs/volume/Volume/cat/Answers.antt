use Rattle.std.proofs.Common.{ap}
use Rattle.fc_space.specs.Space.{layout_of}
use Rattle.fc_volume.proofs.CatLemmas.{cat_answers, cat_faults}
use Rattle.fc_volume.proofs.volume.Volume.cat.Goals as goal

pub returns-clause-answer : goal.returns-clause-answer
returns-clause-answer g c = λ image kind view opens parts.
    cat_answers (λ lines. lines.items) c.lines_at.result c.args.self.now c.args.p.now c.self.inside.holdings.tree (ap (λ v. v.tree) c.self.view_is) c.lines_at.ensures.lines c.lines_at.ensures.error
    image kind view opens parts (layout_of c.self.inside.holdings.places) (ap (λ v. layout_of v.space) c.self.view_is) c.places_suffice.ensures

pub returns-clause-no_fault : goal.returns-clause-no_fault
returns-clause-no_fault g c =
    cat_faults (λ lines. lines.items) c.lines_at.result c.args.self.now c.args.p.now c.self.inside.holdings.tree (ap (λ v. v.tree) c.self.view_is) c.lines_at.ensures.lines c.lines_at.ensures.error
