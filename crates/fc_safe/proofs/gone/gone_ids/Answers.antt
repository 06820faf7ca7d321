use Rattle.std.proofs.Common.{◌++◌, ◌∙◌, ℕ, List, ap}
use Rattle.std.specs.List.{flat_map}
use Rattle.std.proofs.lemmas.List.{take_all}
use Rattle.fc_safe.specs.Gone.{left_of}
use Rattle.fc_safe.proofs.GoneLemmas.{gone_same}
use Rattle.fc_safe.proofs.gone.gone_ids.Goals as goal

pub returns-clause-same : goal.returns-clause-same
returns-clause-same c = λ id.
    c.id_set.ensures.same id
    ∙ gone_same c.args.owners.now c.args.leaving.now c.args.shared c.list.ensures.nodes c.args.ids.now c.loop-n.gone.items id
    (c.loop-n.invariant ∙ ap (λ (ns : List ℕ). c.args.ids.now ++ flat_map (left_of c.args.leaving.now c.args.shared c.args.owners.now) ns) (take_all c.loop-n.n-index c.args.leaving.now c.loop-n-test.false))
