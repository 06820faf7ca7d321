use Rattle.std.proofs.Common.{List, [], ap, get_or, length, length-set, set, ◌∙◌, sym, arith}
use Rattle.std.specs.List.{refill}
use Rattle.std.proofs.lemmas.List.{get_or_read}
use Rattle.fc_compact.proofs.CandidatesLemmas.{Row, refilled, seen_put}
use Rattle.fc_compact.proofs.candidates.Candidates.see.Goals as goal

pub returns-in-Some-clause-found : goal.returns-in-Some-clause-found
returns-in-Some-clause-found c = λ m done was.
    let old = c.args.self.now in
    let rows = old.zones.items in
    let k = c.in-Some.k in
    let row = c.put_zone.new.zones in
    let here = get_or_read c.deref_mut.result.now k c.index-deref_mut-k.result (omega (arith, c.in-Some.ensures.0, c.requires.size, ap length c.deref_mut.ensures.value)) c.index-deref_mut-k.is (record { items = [] })
    ∙ ap (λ (xs : List Row). get_or xs k (record { items = [] })) c.deref_mut.ensures.value in
    seen_put m c.args.z done c.args.run old _ k c.in-Id.id row c.requires.rises c.requires.size c.in-Some.ensures.0 c.in-Some.ensures.1 c.in-Id.is
    (ap (λ (xs : List Row). refill (length rows) rows (set xs k row)) c.deref_mut.ensures.value ∙ refilled rows (set rows k row) (length-set rows k row))
    (λ front there low e. c.put_zone.ensures front there low (ap (λ (r : Row). r.items) (sym c.index-deref_mut-k.is ∙ here) ∙ e)) was
