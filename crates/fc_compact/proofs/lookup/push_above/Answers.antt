use Rattle.std.proofs.Common.{◌++◌, ◌∙◌, List, ℕ, append-nil, ap, length, length-append, refl, sym, take, arith}
use Rattle.std.specs.Prelude.{filter, nat_lt}
use Rattle.std.proofs.lemmas.List.{take_all}
use Rattle.fc_compact.proofs.SideLemmas.{kept_room, put_more}
use Rattle.fc_compact.proofs.lookup.push_above.Goals as goal

pub loop-y-init : goal.loop-y-init
loop-y-init c = sym (append-nil c.args.list.now.items)

pub push_if-requires : goal.push_if-requires
push_if-requires c = λ flagged.
    let room = kept_room (λ y. nat_lt c.args.z y) c.args.zones.now c.loop-y.y-index c.loop-y-test.true flagged in
    let now = ap length c.loop-y.invariant in
    omega (arith, room, now, c.requires, length-append c.args.list.now.items (filter (λ y. nat_lt c.args.z y) (take c.loop-y.y-index c.args.zones.now)))

pub loop-y-preserved : goal.loop-y-preserved
loop-y-preserved c = put_more (λ y. nat_lt c.args.z y) c.args.zones.now c.loop-y.y-index c.loop-y-test.true c.args.list.now.items c.loop-y.list.items c.push_if.new.changed.items _ refl c.push_if.ensures c.loop-y.invariant

pub returns : goal.returns
returns c = c.loop-y.invariant ∙ ap (λ (zs : List ℕ). c.args.list.now.items ++ filter (λ y. nat_lt c.args.z y) zs) (take_all c.loop-y.y-index c.args.zones.now (omega (arith, c.loop-y-test.false)))
