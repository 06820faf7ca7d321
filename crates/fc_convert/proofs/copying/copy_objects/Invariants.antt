use Rattle.std.proofs.Common.{take}
use Rattle.fc_convert.proofs.CopyLemmas.{IsAt}
use Rattle.fc_convert.proofs.copying.copy_objects.Given as goal

abbrev pub invariant-loop-path : goal.invariant-loop-path
invariant-loop-path g l = IsAt g.D.Disk g.E.Disk l.source l.fn.from l.from l.fn.target l.target l.fn.to l.to (take l.path-index l.paths)
