use Rattle.std.proofs.Common.{◌<◌, ◌∙◌, ℕ, List, ap, sym, arith, get_or, length, max}
use Rattle.std.proofs.lemmas.List.{get_or-set_other, get_or-set_same}
use Rattle.fc_plan.specs.Giving.{is_one_of}
use Rattle.fc_safe.proofs.StayingLemmas.{raised_there}
use Rattle.fc_safe.proofs.staying.raise.Goals as goal

pub returns-in-Some-clause-each : goal.returns-in-Some-clause-each
returns-in-Some-clause-each c =
    let place = c.in-Some.place in
    let ends = c.args.ends.now in
    let many = c.requires.as_many in
    let low = c.in-Some.ensures.0 in
    let within : place < length ends = omega (arith, many, low) in
    raised_there c.args.g.now c.args.moving.now c.args.ids.now c.args.o.now ends _ place c.requires.rising low c.in-Some.ensures.1
    (sym (ap (λ (xs : List ℕ). is_one_of xs c.args.o.now.node) c.deref.ensures.value) ∙ sym c.leaves.ensures ∙ c.if-leaves.false)
    (get_or-set_same ends place c.max.result 0 within ∙ c.max.ensures ∙ ap (max (get_or ends place 0)) c.end_then.ensures)
    (λ k apart. get_or-set_other ends place k c.max.result 0 apart)
