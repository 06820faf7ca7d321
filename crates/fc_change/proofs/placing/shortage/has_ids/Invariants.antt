use Rattle.std.proofs.Common.{◌≡◌, ◌+◌, length}
use Rattle.fc_newmap.specs.Ids.{unused_from}
use Rattle.fc_image.specs.effects.Sharing.{new_ids}
use Rattle.fc_change.proofs.placing.shortage.has_ids.Given as goal

-- of the identifiers from 3 on, so many come before this one
abbrev pub invariant-loop : goal.invariant-loop
invariant-loop l = l.counter + length (unused_from l.map l.from) ≡ length (new_ids l.map)
