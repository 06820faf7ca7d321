use Rattle.std.proofs.Common.{take}
use Rattle.fc_change.specs.Held.{parts_of}
use Rattle.fc_change.specs.Prepared.{ArePiecesOf}
use Rattle.fc_change.proofs.pieces.late_pieces.Given as goal

abbrev pub invariant-loop-said : goal.invariant-loop-said
invariant-loop-said l = ArePiecesOf (parts_of l.held).layout (parts_of l.held).nodes l.grown (take l.said-index l.says) l.pieces.items
