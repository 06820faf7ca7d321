use Rattle.std.proofs.Common.{◌≡◌, ◌<◌, ◌≤◌, ◌∷◌, [], List, length, set, sym, subst, arith, Contains, IsPermutation}
use Rattle.std.specs.Prelude.{IsTrue}
use Rattle.fc_alloc.specs.declared.owner.Owner.{Owner}
use Rattle.fc_alloc.specs.Owners.{AreInOrder}
use Rattle.fc_alloc.specs.Lists.{row_at}
use Rattle.fc_alloc.proofs.HeldLemmas.{held_take, held_there}
use Rattle.fc_alloc.proofs.ListLemmas.{nodes_kept, nodes_past, nodes_read, nodes_written}
use Rattle.fc_alloc.proofs.held.Held.take.Goals as goal

pub returns-then-o-len : goal.returns-then-o-len
returns-then-o-len c owners left order had complete dir =
    let o = c.args.o in
    let old = c.args.self.now.rows.items in
    let row = c.take_out.new.row in
    let room : o.dir < length old = omega (arith, c.if-o-len.true, c.len.ensures, c.args.self.now.rows.ok.0) in
    let read : row_at old o.dir ≡ c.index_mut.result.now.items = nodes_read old o.dir c.index_mut.result.now room c.index_mut.ensures.value in
    let written : row_at (set old o.dir row) o.dir ≡ row.items = nodes_written old o.dir row room in
    let settled = c.args.self.now.settled in
    let has = held_there settled owners left o old order (had complete) in
    let sorted : IsTrue settled → AreInOrder c.index_mut.result.now.items = λ is. subst AreInOrder read ((had complete o.dir).sorted is) in
    held_take settled owners left o old (set old o.dir row) order (had complete)
    (subst (λ (os : List Owner). IsPermutation os (o ∷ row_at (set old o.dir row) o.dir)) (sym read)
    (subst (λ (os : List Owner). IsPermutation c.index_mut.result.now.items (o ∷ os)) (sym written)
    (c.take_out.ensures.same sorted (subst (λ (os : List Owner). Contains os o) read has))))
    (λ is. subst AreInOrder (sym written) (c.take_out.ensures.sorted (sorted is)))
    (λ d other. nodes_kept old o.dir d row other)
    dir

-- no owner's directory is past the table
pub returns-else-o-len : goal.returns-else-o-len
returns-else-o-len c owners left order had complete dir =
    let o = c.args.o in
    let old = c.args.self.now.rows.items in
    let past : length old ≤ o.dir = omega (arith, c.if-o-len.false, c.len.ensures, c.args.self.now.rows.ok.0) in
    let there : Contains [] o = subst (λ (os : List Owner). Contains os o) (nodes_past old o.dir past) (held_there c.args.self.now.settled owners left o old order (had complete)) in
    absurd (omega (arith, there.1))
