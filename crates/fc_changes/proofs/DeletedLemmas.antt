-- Delete: a file or an empty directory goes.
use Rattle.std.proofs.Common.{◌≡◌, List, [], ◌∷◌, ◌++◌, refl, ap}
use Rattle.fc_image.specs.Walk.{Listing, Object}
use Rattle.fc_image.specs.Order.{held}
use Rattle.fc_changes.specs.Owed.{GoesAlone}

pub none_held : (out : List Listing) (o : Object) → GoesAlone out o → held out ≡ []
none_held [] o alone = refl
none_held (d ∷ []) o alone = ap (λ (os : List Object). os ++ []) alone.2
none_held (d ∷ e ∷ out) o alone = absurd alone
