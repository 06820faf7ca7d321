use Rattle.std.proofs.Common.{take}
use Rattle.fc_change.specs.Held.{parts_of}
use Rattle.fc_safecommands.specs.Anew.{PiecesAnew}
use Rattle.fc_safecommands.proofs.anew.pieces_anew.Given as goal

abbrev pub invariant-loop-said : goal.invariant-loop-said
invariant-loop-said l = PiecesAnew l.map (parts_of l.held) l.plans l.grown (take l.said-index l.change.says.items) l.pieces.items
