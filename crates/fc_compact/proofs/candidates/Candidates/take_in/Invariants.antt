use Rattle.std.proofs.Common.{◌≡◌, [], take}
use Rattle.fc_compact.specs.Candidates.{AreTakenIn, Rises}
use Rattle.fc_compact.proofs.candidates.Candidates.take_in.Given as goal

abbrev pub invariant-loop-i : goal.invariant-loop-i
invariant-loop-i l = record {
  rises : Rises l.self.ids.items;
  taken : AreTakenIn l.seen l.self.ids.items (take l.i l.list);
  none : l.i ≡ 0 → l.self.ids.items ≡ [];
}
