use Rattle.std.proofs.Common.{◌≡◌, map, take, drop, ◌++◌}
use Rattle.fc_oldmap.specs.declared.Hole.{Hole}
use Rattle.fc_oldmap.proofs.WriteLemmas.{padded}
use Rattle.fc_oldmap.proofs.write.write_holes.Given as goal

-- the holes before are written
abbrev pub invariant-loop-i : goal.invariant-loop-i
invariant-loop-i l =
    record { starts : l.starts ≡ padded (map (λ (h : Hole). h.start) (take l.i l.holes)) ++ drop 246 l.fn.starts; lengths : l.lengths ≡ padded (map (λ (h : Hole). h.len) (take l.i l.holes)) ++ drop 246 l.fn.lengths }
