use Rattle.std.proofs.Common.{◌∙◌, arith}
use Rattle.fc_bytes.specs.Bits.{bits}
use Rattle.fc_zone.specs.Zone.{first_hole, hole_starts}
use Rattle.fc_zone.proofs.CursorLemmas.{chain_first}
use Rattle.fc_zone.proofs.cursor.Cursor.start.Goals as goal

pub returns : goal.returns
returns c = λ runs zone. record {
  zone = zone;
  place = omega arith;
  hole = c.first_hole.ensures ∙ chain_first c.args.shape.now (bits c.args.b.now) (first_hole (bits c.args.b.now)) (hole_starts runs) zone.chained;
}
