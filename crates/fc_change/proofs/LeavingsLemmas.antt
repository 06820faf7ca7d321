-- Identifiers that others keep.
use Rattle.std.proofs.Common.{◌≡◌, ◌&&◌, ◌||◌, ◌==◌, ℕ, Bool, true, false, List, [], ◌∷◌, Option, refl}
use Rattle.std.specs.Prelude.{not}
use Rattle.fc_alloc.specs.declared.owner.Owner.{Owner}
use Rattle.fc_placing.specs.Leaving.{has_other}
use Rattle.fc_change.specs.GrownSpace.{has_rest, is_file}

-- If no owner of another node has it, none keeps it.
pub no_rest : (owners : List Owner) (node : ℕ) (copied : Option ℕ) (id : ℕ) → has_other owners node id ≡ false → has_rest owners node copied id ≡ false
no_rest [] node copied id none = refl
no_rest (o ∷ owners) node copied id none = by (o.id == id) (not (o.node == node)) (not (is_file copied o.node)) none (no_rest owners node copied id)
  where
    by : (a b c : Bool) → ((a && b) || has_other owners node id) ≡ false → (has_other owners node id ≡ false → has_rest owners node copied id ≡ false)
        → ((a && (b && c)) || has_rest owners node copied id) ≡ false
    by true true c none more = absurd (cc)
    by true false c none more = more none
    by false b c none more = more none
