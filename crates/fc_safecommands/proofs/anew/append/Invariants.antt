use Rattle.std.proofs.Common.{◌≡◌, ◌++◌, length}
use Rattle.std.specs.Vec.Iter.{into_iter_items, into_iter_len}
use Rattle.fc_safecommands.proofs.anew.append.Given as goal

abbrev pub invariant-loop-piece : goal.invariant-loop-piece
invariant-loop-piece l = (l.yielded ++ into_iter_items l.piece-iterator ≡ l.fn.more.items)
    × (l.pieces.items ≡ l.fn.pieces.items ++ l.yielded)
    × (into_iter_len l.piece-iterator ≡ length (into_iter_items l.piece-iterator))
