use Rattle.std.proofs.Common.{List, ℕ, Err, sym, subst}
use Rattle.std.specs.Prelude.{Contains}
use Rattle.fc_compact.specs.Candidates.{Rises}
use Rattle.fc_compact.proofs.CandidatesLemmas.{found_at, others_more, rises_more}
use Rattle.fc_compact.proofs.candidates.Candidates.put.Goals as goal

pub returns-in-Err-clause-rises : goal.returns-in-Err-clause-rises
returns-in-Err-clause-rises c =
    let ids = c.args.self.now.ids.items in
    let at = c.in-Err.at in
    let found = found_at ids c.deref.result.now c.args.id (Err at) c.deref.ensures.0 c.requires.rises c.in-Err.ensures.position in
    subst Rises (sym c.insert.ensures.items) (rises_more ids at c.args.id found.0 c.requires.rises found.1 found.2)

pub returns-in-Err-clause-others : goal.returns-in-Err-clause-others
returns-in-Err-clause-others c = λ k there.
    let ids = c.args.self.now.ids.items in
    let at = c.in-Err.at in
    let found = found_at ids c.deref.result.now c.args.id (Err at) c.deref.ensures.0 c.requires.rises c.in-Err.ensures.position in
    subst (λ (xs : List ℕ). Contains xs k) (sym c.insert.ensures.items) (others_more ids at c.args.id found.0 k there)
