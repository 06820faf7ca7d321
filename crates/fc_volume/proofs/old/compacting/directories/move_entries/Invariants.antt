use Rattle.std.proofs.Common.{length}
use Rattle.fc_image.specs.Layout.{dir_form}
use Rattle.fc_oldlaws.specs.moves.After.{entry_after, start_after}
use Rattle.fc_space.specs.Space.{layout_of}
use Rattle.fc_volume.specs.OldCompacting.{IsReaddressing}
use Rattle.fc_volume.proofs.old.compacting.directories.move_entries.Given as goal

-- the last ones have their addresses, and of the others there are copies
abbrev pub invariant-loop-e : goal.invariant-loop-e
invariant-loop-e l = IsReaddressing (entry_after (dir_form (layout_of l.space)) (start_after l.moves.before.items l.moves.after.items)) l.fn.dir l.dir l.spare

abbrev pub decreases-loop-e : goal.decreases-loop-e
decreases-loop-e l = length l.spare.entries.items
