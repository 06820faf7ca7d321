use Rattle.std.proofs.Common.{◌≡◌, ◌∙◌, ◌+◌, refl, get_or, set, length, arith, length-take-le, take}
use Rattle.std.proofs.lemmas.List.{length-set, get_or-set_other}
use Rattle.fc_alloc.proofs.PlaceLemmas.{blank}
use Rattle.fc_alloc.proofs.CountLemmas.{count, count_few, count_more, one_there, risen}
use Rattle.fc_alloc.proofs.index.count_from.Goals as goal
use Rattle.fc_alloc.proofs.index.count_from.Goals.{then-from-owner, else-from-owner}

-- so far an identifier was counted no more often than there were owners
pub count_up-requires : goal.count_up-requires
count_up-requires c room =
    let i = c.loop-owner.owner-index in
    let id = (get_or c.args.list.now i blank).id in
    let is = c.loop-owner.invariant.counted id c.if-from-owner.true (omega (arith, room)) in
    let few = count_few (take i c.args.list.now) id in
    let size : length (take i c.args.list.now) ≡ i = length-take-le i c.args.list.now (omega arith) in
    omega (arith, is, few, size)

pub loop-owner-preserved : goal.loop-owner-preserved
loop-owner-preserved c =
    let i = c.loop-owner.owner-index in
    let n = (get_or c.args.list.now i blank).id in
    let was = c.loop-owner.counts.items in
    elim c.if-from-owner.branch [
      | then-from-owner w ↦
          let items : c.if-from-owner.counts.items ≡ set was n (get_or was n 0 + 1) = rw w.counts-is w.count_up.ensures in
          let size : length c.if-from-owner.counts.items ≡ length was = rw (items, length-set) refl in
          record {
            len = omega arith;
            before = λ id below. rw items (get_or-set_other was n id (get_or was n 0 + 1) 0 (λ e. absurd (omega (arith, w.if-from-owner.true))) ∙ c.loop-owner.invariant.before id below);
            counted = λ id above within.
                rw items (risen was (count (take i c.args.list.now) id) (count (take (i + 1) c.args.list.now) id) n id (omega arith) (c.loop-owner.invariant.counted id above within) (count_more c.args.list.now i id blank c.loop-owner-test.true));
          }
      | else-from-owner w ↦ record {
        len = rw w.counts-is c.loop-owner.invariant.len;
        before = λ id below. rw w.counts-is (c.loop-owner.invariant.before id below);
        counted = λ id above within.
            let none = one_there n id (λ e. absurd (omega (arith, w.if-from-owner.false))) in
            let step = count_more c.args.list.now i id blank c.loop-owner-test.true in
            let so_far = c.loop-owner.invariant.counted id above within in
            rw w.counts-is (omega (arith, none, step, so_far));
      }
    ]
