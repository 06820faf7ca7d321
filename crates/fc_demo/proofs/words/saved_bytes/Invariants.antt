use Rattle.std.proofs.Common.{◌≡◌, length, take}
use Rattle.fc_runs.specs.Demo.{saved_bytes}
use Rattle.fc_demo.proofs.words.saved_bytes.Given as goal

abbrev pub invariant-loop-j : goal.invariant-loop-j
invariant-loop-j l = record {
  long : length l.bytes ≡ 64;
  first : take l.j l.bytes ≡ saved_bytes l.i l.j;
}
