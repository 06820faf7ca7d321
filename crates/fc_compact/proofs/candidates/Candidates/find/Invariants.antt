use Rattle.std.proofs.Common.{◌≡◌, []}
use Rattle.fc_compact.specs.Candidates.{AreFoundIn}
use Rattle.fc_compact.proofs.candidates.Candidates.find.Given as goal

abbrev pub invariant-loop-z : goal.invariant-loop-z
invariant-loop-z l = record {
  ids : l.self.ids ≡ l.fn.self.ids;
  found : AreFoundIn l.map l.z [] l.self;
}
