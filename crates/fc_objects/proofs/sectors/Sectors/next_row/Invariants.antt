use Rattle.std.proofs.Common.{◌≡◌, length}
use Rattle.fc_objects.specs.Ahead.{ahead}
use Rattle.fc_objects.proofs.sectors.Sectors.next_row.Given as goal

abbrev pub invariant-loop-self : goal.invariant-loop-self
invariant-loop-self l = ahead l.fn.self ≡ ahead l.self

abbrev pub decreases-loop-self : goal.decreases-loop-self
decreases-loop-self l = length l.self.rest.now
