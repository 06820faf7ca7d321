use Rattle.std.proofs.Common.{arith}
use Rattle.fc_newmap.proofs.ExtentLemmas.{bits_on_disc}
use Rattle.fc_newmap.proofs.HeldLemmas.{geometry_facts}
use Rattle.fc_newmap.proofs.places.holds_bit.Goals as goal

pub overflow_add-first : goal.overflow_add-first
overflow_add-first c =
    let lies = c.requires.run in
    let d = bits_on_disc c.args.g.now (c.args.z, c.args.run) c.requires.geometry lies in
    let f = geometry_facts c.args.g.now c.requires.geometry in
    omega (arith, d, f.bits, c.base.ensures, c.from.ensures, c.first_bit.ensures)

pub overflow_add-result : goal.overflow_add-result
overflow_add-result c =
    let lies = c.requires.run in
    let d = bits_on_disc c.args.g.now (c.args.z, c.args.run) c.requires.geometry lies in
    let f = geometry_facts c.args.g.now c.requires.geometry in
    omega (arith, d, f.bits, c.base.ensures, c.from.ensures, c.first_bit.ensures, c.from-then-first-bit.ensures)
