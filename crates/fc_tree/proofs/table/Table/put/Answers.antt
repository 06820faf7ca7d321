use Rattle.std.proofs.Common.{◌≡◌, true, subst, arith, is_ok}
use Rattle.std.proofs.lemmas.Grind.{common_steps}
use Rattle.fc_alloc.specs.Lists.{nodes_at}
use Rattle.fc_tree.specs.Index.{IsRank}
use Rattle.fc_tree.specs.Places.{shown}
use Rattle.fc_tree.proofs.TableLemmas.{lists_put}
use Rattle.fc_tree.proofs.table.Table.put.Goals as goal

pub returns-else-is_err : goal.returns-else-is_err
returns-else-is_err c new is same complete =
    let slots = c.args.slots.now in
    let old = c.args.self.now.lists.items in
    let node = c.args.node.now in
    let put : is_ok c.put_number.result ≡ true = grind (arith, common_steps, c.if-is_err.false, c.is_err.ensures.value) in
    lists_put slots new old c.put_number.new.lists.items c.rank-at.result c.args.n node (c.requires.index complete) c.requires.free is same
    (subst (λ key. IsRank slots (nodes_at old node.holder) key c.rank-at.result) c.place_of.ensures
    (subst (λ l. IsRank slots l (shown c.place_of.result) c.rank-at.result) c.list.ensures c.rank-at.ensures))
    (c.put_number.ensures.here put) (c.put_number.ensures.elsewhere put)
