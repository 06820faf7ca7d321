use Rattle.std.proofs.Common.{◌∙◌, List, ℕ, ap, sym}
use Rattle.std.specs.List.{remove}
use Rattle.fc_alloc.proofs.ListLemmas.{nodes_kept, nodes_read, nodes_written}
use Rattle.fc_tree.proofs.TableLemmas.{list_there}
use Rattle.fc_tree.proofs.table.remove_number.Goals as goal

pub returns-clause-here : goal.returns-clause-here
returns-clause-here c =
    let lists = c.args.lists.now.items in
    let dir = c.args.dir in
    let room = list_there lists dir c.args.at c.requires in
    nodes_written lists dir c.remove.new.self room
    ∙ (c.remove.ensures.items
    ∙ ap (λ (xs : List ℕ). remove xs c.args.at) (sym (nodes_read lists dir c.index_mut.result.now room c.index_mut.ensures.value)))

pub returns-clause-elsewhere : goal.returns-clause-elsewhere
returns-clause-elsewhere c d other = nodes_kept c.args.lists.now.items c.args.dir d c.remove.new.self other
