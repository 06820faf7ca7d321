use Rattle.std.proofs.Common.{rules, ◌≡◌, ◌≤◌, List, subst, true, false, length, sym, ap, ◌∙◌, arith, eq-eqb}
use Rattle.std.specs.Prelude.{nat_lt}
use Rattle.std.specs.List.Sorted.{IsPartitionPoint}
use Rattle.std.proofs.lemmas.Fn.{always_returns_same}
use Rattle.std.proofs.lemmas.List.Sorted.{IsPartitionedBy-ltb}
use Rattle.fc_image.specs.declared.effects.Owned.{Owned}
use Rattle.fc_volume.specs.OldCompacting.{AreSorted}
use Rattle.fc_volume.proofs.CompactingLemmas.{either_past, start_behind, start_first, start_nowhere}
use Rattle.fc_volume.proofs.old.compacting.moves.Moves.start_after.Goals as goal
use Rattle.fc_volume.proofs.old.compacting.moves.Moves.start_after.Goals.{After-partition_point-k}

cut : (c : After-partition_point-k) → IsPartitionPoint (λ (o : Owned). nat_lt o.start c.args.address ≡ true) (λ (o : Owned). nat_lt o.start c.args.address ≡ false) c.args.self.now.before.items c.partition_point-k.result
cut c =
    let items : c.deref.result.now ≡ c.args.self.now.before.items = c.deref.ensures.value in
    subst (λ (os : List Owned). IsPartitionPoint (λ (o : Owned). nat_lt o.start c.args.address ≡ true) (λ (o : Owned). nat_lt o.start c.args.address ≡ false) os c.partition_point-k.result) items
    (c.partition_point-k.ensures.partitioned (λ o. nat_lt o.start c.args.address) (always_returns_same _ _ _ (λ a r q h. search rules)) (IsPartitionedBy-ltb (λ (o : Owned). o.start) c.deref.result.now c.args.address (subst AreSorted (sym items) c.requires)))

pub returns-then-k-min : goal.returns-then-k-min
returns-then-k-min c =
    let few : c.partition_point-k.result ≤ length c.args.self.now.before.items = subst (λ (os : List Owned). c.partition_point-k.result ≤ length os) c.deref.ensures.value c.partition_point-k.ensures.bound in
    start_nowhere c.args.self.now.before.items c.args.self.now.after.items c.partition_point-k.result c.args.address few (cut (goal.at.returns-then-k-min c).After-partition_point-k)
    (either_past (length c.args.self.now.before.items) (length c.args.self.now.after.items) c.partition_point-k.result
    (let over = c.if-k-min.true in let least = c.min.ensures in let first = c.len.ensures in let second = c.len-2.ensures in omega (arith, over, least, first, second)))

pub returns-then-index-address : goal.returns-then-index-address
returns-then-index-address c =
    let few : c.partition_point-k.result ≤ length c.args.self.now.before.items = subst (λ (os : List Owned). c.partition_point-k.result ≤ length os) c.deref.ensures.value c.partition_point-k.ensures.bound in
    start_behind c.args.self.now.before.items c.args.self.now.after.items c.partition_point-k.result c.args.address few (cut (goal.at.returns-then-index-address c).After-partition_point-k)
    c.index.result.now c.requires
    (let within = c.if-k-min.false in let least = c.min.ensures in let first = c.len.ensures in let second = c.len-2.ensures in omega (arith, within, least, first, second))
    (λ same. c.if-index-address.true (ap (λ (o : Owned). o.start) c.index.ensures ∙ same))

pub returns : goal.returns
returns c =
    let few : c.partition_point-k.result ≤ length c.args.self.now.before.items = subst (λ (os : List Owned). c.partition_point-k.result ≤ length os) c.deref.ensures.value c.partition_point-k.ensures.bound in
    ap (λ (o : Owned). o.start) c.index-2.ensures
    ∙ start_first c.args.self.now.before.items c.args.self.now.after.items c.partition_point-k.result c.args.address few (cut (goal.at.returns c).After-partition_point-k) c.index.result.now c.index-2.result.now
    (let within = c.if-k-min.false in let least = c.min.ensures in let first = c.len.ensures in let second = c.len-2.ensures in omega (arith, within, least, first, second))
    (let within = c.if-k-min.false in let least = c.min.ensures in let first = c.len.ensures in let second = c.len-2.ensures in omega (arith, within, least, first, second))
    (eq-eqb _ _ (ap (λ (o : Owned). o.start) (sym c.index.ensures) ∙ c.if-index-address.false))
