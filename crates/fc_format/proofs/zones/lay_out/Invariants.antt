use Rattle.std.proofs.Common.{drop}
use Rattle.fc_bytes.specs.BitLaws.{AreBytes}
use Rattle.fc_zone.specs.Zone.{IsShapeOf}
use Rattle.fc_format.proofs.ZoneLemmas.{LaidUpTo}
use Rattle.fc_format.proofs.zones.lay_out.Given as goal

abbrev pub invariant-loop-run : goal.invariant-loop-run
invariant-loop-run l = record {
  bytes : AreBytes l.b;
  shape : IsShapeOf l.b l.shape;
  laid : LaidUpTo l.shape l.fn.b l.b l.at (drop l.run-index l.owned) l.owned;
}
