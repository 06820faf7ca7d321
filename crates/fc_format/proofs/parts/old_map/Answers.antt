use Rattle.std.proofs.Common.{refl}
use Rattle.fc_oldmap.specs.OldMap.{with_holes}
use Rattle.fc_format.proofs.parts.old_map.Goals as goal

pub returns : goal.returns
unfolding with_holes
returns c = rw (c.seal_half-2.ensures, c.seal_half.ensures, c.put_le24-3.ensures.bytes, c.put_le24-2.ensures.bytes, c.put_le24.ensures.bytes) refl
