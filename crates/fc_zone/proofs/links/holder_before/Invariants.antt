use Rattle.std.proofs.Common.{ℕ, List}
use Rattle.fc_bytes.specs.Bits.{bits}
use Rattle.fc_zone.proofs.HolderLemmas.{HasSeen, distance}
use Rattle.fc_zone.proofs.links.holder_before.Given as goal

abbrev pub invariant-loop-next : goal.invariant-loop-next
invariant-loop-next l = (seen rest : List ℕ) × HasSeen l.shape (bits l.b) l.at l.holder l.next seen rest

abbrev pub decreases-loop-next : goal.decreases-loop-next
decreases-loop-next l = distance l.next l.at
