use Rattle.std.proofs.Common.{◌+◌, rules}
use Rattle.fc_bytes.specs.Bits.{bits, IsFirstOne}
use Rattle.fc_zone.proofs.HolderLemmas.{end_is}
use Rattle.fc_zone.proofs.reading.end_of.Goals as goal

pub returns : goal.returns
returns c =
    let shape = c.args.shape.now in
    let first : IsFirstOne (bits c.args.b.now) (c.args.at + shape.idlen) shape.end c.unwrap.result = search rules in
    let ends = end_is shape (bits c.args.b.now) c.args.at c.requires.begins.0 shape.end c.unwrap.result c.requires.begins.1 first in
    rw ends c.requires.begins.1
