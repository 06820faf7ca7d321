use Rattle.std.proofs.Common.{◌≡◌, ℕ, Bool, sym, ap₂, ◌∙◌}
use Rattle.fc_change.proofs.GrownLemmas.{none_planned}
use Rattle.fc_change.proofs.ShortageLemmas.{bits_lack, short_of_none, stock_suffices}
use Rattle.fc_change.specs.Planning.{alone_in, len_moved}
use Rattle.fc_change.specs.Shortage.{short_of}
use Rattle.fc_change.proofs.placing.growth.plan_both.Goals as goal

pub returns-then-len_moved-eq0-clause-planned : goal.returns-then-len_moved-eq0-clause-planned
returns-then-len_moved-eq0-clause-planned c = record { object = c.if-bytes-eq0.true; dir = none_planned c.args.map.now c.args.growing.now c.requires.longer (sym c.len_moved.ensures ∙ c.if-len_moved-eq0.true) }

pub returns-then-len_moved-eq0-clause-refused : goal.returns-then-len_moved-eq0-clause-refused
returns-then-len_moved-eq0-clause-refused c =
    short_of_none c.args.map.now c.args.bytes (alone_in c.args.growing.now) (len_moved c.args.growing.now) c.if-bytes-eq0.true (sym c.len_moved.ensures ∙ c.if-len_moved-eq0.true)

pub plan_from-requires-clause-enough : goal.plan_from-requires-clause-enough
plan_from-requires-clause-enough c =
    let m = c.args.map.now in
    let short = short_of m c.args.bytes in
    ap₂ (λ (alone : Bool) (len : ℕ). short alone len) (sym c.alone_in.ensures) (sym c.len_moved-2.ensures)
    ∙ stock_suffices m c.in_ok-supply.supply (short c.alone_in.result c.len_moved-2.result) c.in_ok-needed.needed c.in_ok-supply.ensures c.in_ok-needed.ensures (sym c.has_bits.ensures ∙ c.if-not-has_bits.false)

pub returns-clause-refused : goal.returns-clause-refused
returns-clause-refused c =
    let m = c.args.map.now in
    let short = short_of m c.args.bytes in
    ap₂ (λ (alone : Bool) (len : ℕ). short alone len) (sym c.alone_in.ensures) (sym c.len_moved-2.ensures)
    ∙ stock_suffices m c.in_ok-supply.supply (short c.alone_in.result c.len_moved-2.result) c.in_ok-needed.needed c.in_ok-supply.ensures c.in_ok-needed.ensures (sym c.has_bits.ensures ∙ c.if-not-has_bits.false)
