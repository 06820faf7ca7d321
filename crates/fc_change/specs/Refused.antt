-- Why there is no space.
use Rattle.fc_names.specs.declared.refusal.Refusal.TheVariants as refusals
use Rattle.fc_names.specs.declared.refusal.Refusal.{Refusal}
use Rattle.fc_oldmap.specs.declared.TakeError.{TakeError}
use Rattle.fc_oldmap.specs.declared.TakeError.TheVariants as takes

-- the refusal of an old map that has no space
abbrev pub refused_take : TakeError → Refusal
refused_take takes.DiscFull = refusals.DiscFull
refused_take takes.CompactionRequired = refusals.CompactionRequired
