use Rattle.std.proofs.Common.{◌<◌, ◌∙◌, List, ℕ, length, ap, sym, arith}
use Rattle.std.specs.List.{insert}
use Rattle.fc_alloc.proofs.ListLemmas.{nodes_kept, nodes_read, nodes_written}
use Rattle.fc_tree.proofs.table.put_number.Goals as goal

pub returns-clause-here : goal.returns-clause-here
returns-clause-here c ok =
    let lists = c.grow.new.lists.items in
    let dir = c.args.dir in
    let was = c.index_mut.result.now in
    let room : dir < length lists = omega (arith, c.in_ok-grow.ensures.room, c.grow.new.lists.ok.0) in
    nodes_written lists dir c.insert.new.self room
    ∙ (c.in_ok-insert.ensures.items
    ∙ ap (λ (xs : List ℕ). insert xs c.args.at c.args.n) (sym (nodes_read lists dir was room c.index_mut.ensures.value) ∙ c.grow.ensures.same dir))

pub returns-clause-elsewhere : goal.returns-clause-elsewhere
returns-clause-elsewhere c ok d other = nodes_kept c.grow.new.lists.items c.args.dir d c.insert.new.self other ∙ c.grow.ensures.same d
