use Rattle.std.proofs.Common.{◌+◌, arith}
use Rattle.fc_newmap.proofs.ExtentLemmas.{bits_on_disc, bytes_fit}
use Rattle.fc_newmap.proofs.extents.extent_of.Goals as goal

pub overflow_mul-result : goal.overflow_mul-result
overflow_mul-result c =
    let lies = c.requires.run in
    let d = bits_on_disc c.args.g.now (c.args.z, c.args.run) c.requires.geometry lies in
    let fits = bytes_fit c.args.g.now (c.base.result + c.from.result) c.requires.geometry (omega (arith, d, c.base.ensures, c.from.ensures, c.first_bit.ensures)) in
    omega (arith, fits)

pub overflow_mul-result-2 : goal.overflow_mul-result-2
overflow_mul-result-2 c =
    let lies = c.requires.run in
    let d = bits_on_disc c.args.g.now (c.args.z, c.args.run) c.requires.geometry lies in
    let fits = bytes_fit c.args.g.now c.from-2.result c.requires.geometry (omega (arith, d, c.from-2.ensures)) in
    omega (arith, fits)
