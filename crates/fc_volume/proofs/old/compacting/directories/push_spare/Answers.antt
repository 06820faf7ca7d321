use Rattle.std.proofs.Common.{rules, refl, false}
use Rattle.fc_volume.proofs.old.compacting.directories.push_spare.Goals as goal

pub returns : goal.returns
returns c = record { spare = record { entries = c.in_ok-entries_of.field-0; changed = false }; is = search rules; entries = c.in_ok-entries_of.ensures; idle = refl }
