use Rattle.std.proofs.Common.{◌≡◌, ◌<◌, ◌∷◌, ◌∙◌, List, length, true, false, set, ap, sym, subst, arith, IsPermutation}
use Rattle.std.specs.List.{insert}
use Rattle.std.proofs.lemmas.List.Sorted.{IsPermutation-insert}
use Rattle.fc_alloc.specs.declared.owner.Owner.{Owner}
use Rattle.fc_alloc.specs.Owners.{AreInOrder}
use Rattle.fc_alloc.specs.Lists.{row_at}
use Rattle.fc_alloc.proofs.ListLemmas.{nodes_kept, nodes_read, nodes_written}
use Rattle.fc_alloc.proofs.OrderLemmas.{order_put}
use Rattle.fc_alloc.proofs.held.put_in_row.Goals as goal
use Rattle.fc_alloc.proofs.held.put_in_row.Goals.{In_ok-insert, then-sorted, else-sorted}

pub returns-in_err-insert-clause-elsewhere : goal.returns-in_err-insert-clause-elsewhere
returns-in_err-insert-clause-elsewhere c d other = nodes_kept c.grow.new.lists.items c.args.o.dir d c.insert.new.self other ∙ c.grow.ensures.same d

-- the directory's row before and after
row_was : (c : In_ok-insert) → row_at c.args.rows.now.items c.args.o.dir ≡ c.index_mut-row.result.now.items
row_was c =
    let rows = c.grow.new.lists.items in
    let room : c.args.o.dir < length rows = omega (arith, c.in_ok-grow.ensures.room, c.grow.new.lists.ok.0) in
    sym (c.grow.ensures.same c.args.o.dir) ∙ nodes_read rows c.args.o.dir c.index_mut-row.result.now room c.index_mut-row.ensures.value

row_is : (c : In_ok-insert) → row_at (set c.grow.new.lists.items c.args.o.dir c.insert.new.self) c.args.o.dir ≡ insert (row_at c.args.rows.now.items c.args.o.dir) c.if-sorted.place c.args.o
row_is c =
    let rows = c.grow.new.lists.items in
    let room : c.args.o.dir < length rows = omega (arith, c.in_ok-grow.ensures.room, c.grow.new.lists.ok.0) in
    nodes_written rows c.args.o.dir c.insert.new.self room ∙ (c.in_ok-insert.ensures.items ∙ ap (λ (row : List Owner). insert row c.if-sorted.place c.args.o) (sym (row_was c)))

pub returns-clause-here : goal.returns-clause-here
returns-clause-here c ok =
    let old = row_at c.args.rows.now.items c.args.o.dir in
    subst (λ (row : List Owner). IsPermutation (c.args.o ∷ old) row) (sym (row_is c)) (IsPermutation-insert old c.if-sorted.place c.args.o)

pub returns-clause-sorted : goal.returns-clause-sorted
returns-clause-sorted c ok sorted order =
    let old = row_at c.args.rows.now.items c.args.o.dir in
    elim c.if-sorted.branch [
      | then-sorted w ↦
          let searched : w.deref.result.now ≡ old = w.deref.ensures.value ∙ sym (row_was c) in
          let at = rw searched at w.place_in-place.ensures in
          subst AreInOrder (sym (row_is c ∙ ap (λ place. insert old place c.args.o) w.place-is)) (order_put old w.place_in-place.result c.args.o order at.within (at.point order))
      | else-sorted w ↦ let bad : true ≡ false = sym sorted ∙ w.if-sorted.false in absurd (cc)
    ]

pub returns-clause-elsewhere : goal.returns-clause-elsewhere
returns-clause-elsewhere c d other = nodes_kept c.grow.new.lists.items c.args.o.dir d c.insert.new.self other ∙ c.grow.ensures.same d
