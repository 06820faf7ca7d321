use Rattle.std.proofs.Common.{◌<◌, ap, subst, sym, ◌∙◌, refl}
use Rattle.std.specs.Prelude.{◌||◌, ◌==◌}
use Rattle.fc_tree.specs.Taken.{has_mark}
use Rattle.fc_tree.proofs.TakenLemmas.{marked}
use Rattle.fc_tree.proofs.taken.Taken.mark.Goals as goal

pub returns-clause-marks : goal.returns-clause-marks
returns-clause-marks c = λ s.
    let low = subst (λ m. c.args.sector < m.sectors) (sym c.self.view_is) c.requires in
    marked c.self.inside.words.items _ c.self.inside.sectors c.args.sector c.index_mut.result.now low c.self.invariant c.index_mut.ensures.value refl s
    ∙ ap (λ m. (s == c.args.sector) || has_mark m s) c.self.view_is
