-- `delete`: a file or an empty directory goes.
use Rattle.std.proofs.Common.{◌≡◌, Bool, cond, List, [], ◌∷◌, ◌++◌, sym, ap, ◌∙◌}
use Rattle.fc_image.specs.Walk.{Listing, Object}
use Rattle.fc_image.specs.Order.{directories, held, listed}
use Rattle.fc_changes.specs.Owed.{GoesAlone}

pub gone_listed : (out : List Listing) (o : Object) → GoesAlone out o → listed out ≡ directories (o ∷ [])
gone_listed [] o alone = ap (λ (b : Bool). cond b (o ∷ []) []) (sym alone)
gone_listed (d ∷ []) o alone = ap (λ (x : Object). x ∷ []) alone.0 ∙ ap (λ (b : Bool). cond b (o ∷ []) []) (sym alone.1)
gone_listed (d ∷ e ∷ out) o alone = absurd alone
