use Rattle.std.proofs.Common.{◌≡◌, ◌<◌, ◌∙◌, Some, ap, sym, subst, length}
use Rattle.std.specs.Prelude.{slice_index}
use Rattle.std.specs.Option.{option_map}
use Rattle.std.specs.Borrow.{Bor}
use Rattle.fc_tree.specs.declared.node.Node.{Node}
use Rattle.fc_tree.specs.Slots.{slot_at}
use Rattle.fc_tree.proofs.TableLemmas.{lists_taken}
use Rattle.fc_tree.proofs.table.Table.take.Goals as goal

pub returns : goal.returns
returns c new none same complete =
    let slots = c.args.slots.now in
    let old = c.args.self.now.lists.items in
    let n = c.args.n in
    let node = c.unwrap.result.now in
    let is : slot_at slots n ≡ Some node = sym c.node_at.ensures ∙ ap (option_map (λ (node : Bor Node). node.now)) c.unwrap.ensures in
    lists_taken slots new old c.remove_number.new.lists.items c.rank_of-at.result n node (c.requires.index complete) is none same
    (subst (λ l. c.rank_of-at.result < length l) c.list.ensures c.rank_of-at.ensures.within)
    (ap (λ l. slice_index l c.rank_of-at.result) (sym c.list.ensures) ∙ c.rank_of-at.ensures.number)
    c.remove_number.ensures.here c.remove_number.ensures.elsewhere
