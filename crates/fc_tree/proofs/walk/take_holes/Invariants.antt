use Rattle.std.proofs.Common.{◌≡◌, ◌++◌, ℕ, List, take}
use Rattle.std.specs.List.{flat_map}
use Rattle.fc_image.specs.Layout.{hole_sectors_in}
use Rattle.fc_tree.specs.Taken.{AreTaken}
use Rattle.fc_tree.proofs.walk.take_holes.Given as goal

abbrev pub invariant-loop-hole : goal.invariant-loop-hole
invariant-loop-hole l = record {
  sectors : l.taken.sectors ≡ l.fn.taken.sectors;
  taken : (before : List ℕ) → AreTaken l.fn.taken before → AreTaken l.taken (flat_map (hole_sectors_in l.units) (take l.hole-index l.hole-items) ++ before);
}
