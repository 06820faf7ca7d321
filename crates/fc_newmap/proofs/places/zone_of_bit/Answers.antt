use Rattle.std.proofs.Common.{◌+◌, ◌/◌, ℕ, ap, arith}
use Rattle.fc_newmap.proofs.BitLemmas.{zone_number}
use Rattle.fc_newmap.proofs.HeldLemmas.{geometry_facts}
use Rattle.fc_newmap.proofs.places.zone_of_bit.Goals as goal

pub overflow_add-z : goal.overflow_add-z
overflow_add-z c = let f = geometry_facts c.args.g.now c.requires.geometry in omega (arith, f.bits, c.requires.bit)

pub nonzero_div-z : goal.nonzero_div-z
nonzero_div-z c = let f = geometry_facts c.args.g.now c.requires.geometry in omega (arith, f.room, c.from.ensures)

pub prove-unreachable-requires : goal.prove-unreachable-requires
prove-unreachable-requires c =
    let r = zone_number c.args.g.now c.args.bit ((c.args.bit + 480) / c.from.result) c.requires.geometry c.requires.bit (ap (λ (n : ℕ). (c.args.bit + 480) / n) c.from.ensures) in
    absurd (omega (arith, r.0, c.from-zones.ensures, c.if-prove.true))

pub returns-clause-low : goal.returns-clause-low
returns-clause-low c =
    (zone_number c.args.g.now c.args.bit ((c.args.bit + 480) / c.from.result) c.requires.geometry c.requires.bit (ap (λ (n : ℕ). (c.args.bit + 480) / n) c.from.ensures)).0

pub returns-clause-from : goal.returns-clause-from
returns-clause-from c =
    (zone_number c.args.g.now c.args.bit ((c.args.bit + 480) / c.from.result) c.requires.geometry c.requires.bit (ap (λ (n : ℕ). (c.args.bit + 480) / n) c.from.ensures)).1

pub returns-clause-to : goal.returns-clause-to
returns-clause-to c =
    (zone_number c.args.g.now c.args.bit ((c.args.bit + 480) / c.from.result) c.requires.geometry c.requires.bit (ap (λ (n : ℕ). (c.args.bit + 480) / n) c.from.ensures)).2
