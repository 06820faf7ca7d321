-- Maps that stay, and space that isn't given back.
use Rattle.std.proofs.Common.{◌≡◌, false, [], refl}
use Rattle.fc_zone.specs.declared.RunKind.{RunKind}
use Rattle.fc_zone.specs.declared.RunKind.TheVariants as kinds
use Rattle.fc_image.specs.effects.Steady.{has_id_that}
use Rattle.fc_plan.specs.Giving.{is_one_of}

pub no_id : (k : RunKind) → has_id_that (is_one_of []) k ≡ false
no_id kinds.Hole = refl
no_id (kinds.Id id) = refl
