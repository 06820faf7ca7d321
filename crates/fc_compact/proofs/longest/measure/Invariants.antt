use Rattle.std.proofs.Common.{◌≡◌, length, take}
use Rattle.fc_compact.specs.Longest.{zones_at_most}
use Rattle.fc_compact.proofs.LongestLemmas.{Measured}
use Rattle.fc_compact.proofs.longest.measure.Given as goal

abbrev pub invariant-loop-z : goal.invariant-loop-z
invariant-loop-z l = record {
  size : length l.lens ≡ zones_at_most;
  measured : Measured l.map (take l.z-index l.zones) l.fn.lens l.lens;
}
