-- Why an object has no place, as a claim answers it.
use Rattle.fc_space.specs.declared.PlaceError.{PlaceError}
use Rattle.fc_space.specs.declared.PlaceError.TheVariants as places
use Rattle.fc_tree.specs.declared.claim.ClaimError.{ClaimError}
use Rattle.fc_tree.specs.declared.claim.ClaimError.TheVariants.{Outside, NoMemory}

abbrev pub unplaced : PlaceError → ClaimError
unplaced places.Outside = Outside
unplaced places.NoMemory = NoMemory
