use Rattle.std.proofs.Common.{rules, ◌≡◌, ◌<◌, ◌≤◌, List, IsPermutation, inl, inr, length, set, sym, subst, arith}
use Rattle.std.proofs.lemmas.Bool.{cases_eq, cases_lt}
use Rattle.std.proofs.lemmas.List.Sorted.{IsPermutation-trans, answers_always}
use Rattle.fc_alloc.specs.declared.owner.Owner.{Owner}
use Rattle.fc_alloc.specs.Lists.{row_at}
use Rattle.fc_alloc.specs.Owners.{AreInOrder}
use Rattle.fc_alloc.proofs.ListLemmas.{nodes_kept, nodes_past, nodes_read, nodes_written}
use Rattle.fc_alloc.proofs.OrderLemmas.{in_order, key, none_in_order}
use Rattle.fc_alloc.proofs.held.sort_rows.Goals as goal

pub loop-dir-preserved : goal.loop-dir-preserved
loop-dir-preserved c =
    let rows = c.loop-dir.rows.items in
    let dir = c.loop-dir.dir in
    let row = c.sort_unstable_by_key.new.self in
    let was = c.loop-dir.invariant in
    let room : dir < length rows = omega (arith, c.loop-dir-test.true, c.len-dir-end.ensures, was.2, c.loop-dir.rows.ok.0, c.args.rows.now.ok.0) in
    let read = nodes_read rows dir c.index_mut.result.now room c.index_mut.ensures.value in
    let written = nodes_written rows dir row room in
    let sorted : AreInOrder row.items = in_order row.items (c.sort_unstable_by_key.ensures.sorted key (answers_always _ (λ a r. r ≡ key a.0.now) _ (λ f a r f' q. search rules))) in
    let moved : IsPermutation (row_at rows dir) (row_at (set rows dir row) dir) =
    subst (λ (os : List Owner). IsPermutation os (row_at (set rows dir row) dir)) (sym read)
    (subst (λ (os : List Owner). IsPermutation c.index_mut.result.now.items os) (sym written) c.sort_unstable_by_key.ensures.permutation) in (
      λ d. elim (cases_eq d dir) [
        | inl is ↦ rw is (IsPermutation-trans _ _ _ (was.0 dir) moved)
        | inr other ↦ subst (λ (os : List Owner). IsPermutation (row_at c.args.rows.now.items d) os) (sym (nodes_kept rows dir d row other)) (was.0 d)
      ],
      λ d below. elim (cases_eq d dir) [
        | inl is ↦ rw is (subst AreInOrder (sym written) sorted)
        | inr other ↦ subst AreInOrder (sym (nodes_kept rows dir d row other)) (was.1 d (omega (arith, below, other)))
      ],
      was.2,
    )

-- past the end no row is left
pub returns-clause-sorted : goal.returns-clause-sorted
returns-clause-sorted c dir =
    elim (cases_lt dir c.loop-dir.dir) [
      | inl below ↦ c.loop-dir.invariant.1 dir below
      | inr above ↦
          let was = c.loop-dir.invariant in
          let past : length c.loop-dir.rows.items ≤ dir = omega (arith, above, c.loop-dir-test.false, c.len-dir-end.ensures, was.2, c.loop-dir.rows.ok.0, c.args.rows.now.ok.0) in
          subst AreInOrder (sym (nodes_past c.loop-dir.rows.items dir past)) none_in_order
    ]
