use Rattle.std.proofs.Common.{take}
use Rattle.std.specs.Prelude.{filter}
use Rattle.fc_change.specs.Held.{parts_of}
use Rattle.fc_safecommands.specs.Anew.{AreTakenAlong, is_taken_along}
use Rattle.fc_safecommands.proofs.anew.all_taken_along.Given as goal

abbrev pub invariant-loop-own : goal.invariant-loop-own
invariant-loop-own l = AreTakenAlong l.map (parts_of l.held) l.plans (filter (is_taken_along l.plans l.wants l.change) (take l.own-index l.held.owners.now)) l.transfers.items
