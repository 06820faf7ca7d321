use Rattle.std.proofs.Common.{◌≡◌, ◌≤◌, ◌++◌, All, drop}
use Rattle.fc_plan.specs.Plan.{left_of_both}
use Rattle.fc_plan.proofs.planning.holes_left.Given as goal

abbrev pub invariant-loop-hole : goal.invariant-loop-hole
invariant-loop-hole l = record {
  left : l.left.items ++ left_of_both (drop l.hole-index l.holes) l.rest ≡ left_of_both l.holes l.parts;
  low : All (λ part. part.1.len ≤ 8192) l.rest;
}
