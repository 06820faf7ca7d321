use Rattle.std.proofs.Common.{◌<◌, ◌++◌, ◌∷◌, [], ◌∙◌, List, ℕ, length, ap, sym, arith}
use Rattle.fc_alloc.proofs.ListLemmas.{nodes_kept, nodes_read, nodes_written}
use Rattle.fc_alloc.proofs.lists.put_last.Goals as goal

pub returns-in_err-push-clause-elsewhere : goal.returns-in_err-push-clause-elsewhere
returns-in_err-push-clause-elsewhere c d other = nodes_kept c.grow.new.lists.items c.args.dir d c.push.new.self other ∙ c.grow.ensures.same d

pub returns-clause-here : goal.returns-clause-here
returns-clause-here c ok =
    let lists = c.grow.new.lists.items in
    let dir = c.args.dir in
    let was = c.index_mut.result.now in
    let room : dir < length lists = omega (arith, c.in_ok-grow.ensures.room, c.grow.new.lists.ok.0) in
    nodes_written lists dir c.push.new.self room
    ∙ (c.in_ok-push.ensures.items
    ∙ ap (λ (xs : List ℕ). xs ++ c.args.node ∷ []) (sym (nodes_read lists dir was room c.index_mut.ensures.value) ∙ c.grow.ensures.same dir))

pub returns-clause-elsewhere : goal.returns-clause-elsewhere
returns-clause-elsewhere c d other = nodes_kept c.grow.new.lists.items c.args.dir d c.push.new.self other ∙ c.grow.ensures.same d
