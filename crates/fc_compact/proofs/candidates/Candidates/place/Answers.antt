use Rattle.std.proofs.Common.{sym, subst}
use Rattle.fc_compact.specs.Candidates.{IsPlaced}
use Rattle.fc_compact.proofs.CandidatesLemmas.{found_at, placed_is}
use Rattle.fc_compact.proofs.candidates.Candidates.place.Goals as goal

pub returns : goal.returns
returns c =
    let ids = c.args.self.now.ids.items in
    subst (IsPlaced ids c.args.id) (sym c.ok.ensures.value)
    (placed_is ids c.args.id c.binary_search.result (found_at ids c.deref.result.now c.args.id c.binary_search.result c.deref.ensures.0 c.requires c.binary_search.ensures.position))
