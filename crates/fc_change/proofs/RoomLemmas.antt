-- Room for a directory where it lies.
use Rattle.std.proofs.Common.{◌≡◌, ◌<◌, ◌&&◌, ◌||◌, ◌==◌, ℕ, ◌+◌, Bool, true, false, cond, List, [], ◌∷◌, refl, sym, ap, ap₂, ◌∙◌, arith, Some, None, Option, nat_le}
use Rattle.std.specs.Prelude.{not, is_some}
use Rattle.std.specs.Int.{div_ceil}
use Rattle.std.proofs.lemmas.Bool.{ne_eqb}
use Rattle.fc_alloc.specs.declared.owner.Owner.{Owner}
use Rattle.fc_newmap.specs.Map.{Map}
use Rattle.fc_image.specs.Layout.{Layout, id_of, low_of, low_start, new_sectors, sectors_at}
use Rattle.fc_changes.proofs.BasicLemmas.{and_false}
use Rattle.fc_placing.specs.Leaving.{has_other}
use Rattle.fc_change.specs.Shortage.{has_room_by, others_leave_free}

-- ---- room that is asked of the map

pub no_place : (m : Map) (owners : List Owner) (node address bytes : ℕ) → 0 < bytes → sectors_at (Layout.New m) address bytes ≡ None → has_room_by m owners node address bytes ≡ false
unfolding sectors_at
no_place m owners node address bytes some none =
    let nothing : new_sectors m address bytes ≡ None = sym (ap (λ (b : Bool). let q : Option (List ℕ) = cond b (Some []) (new_sectors m address bytes) in q) (ne_eqb bytes 0 (λ e. omega (arith, e, some)))) ∙ none in
    ap (λ (q : Option (List ℕ)). not (id_of address == 2) && (is_some q && others_leave_free owners node (id_of address) (low_start m (low_of address)) (div_ceil bytes m.geometry.sector))) nothing
    ∙ and_false (not (id_of address == 2))

module _ (m : Map) (owners : List Owner) (node address bytes : ℕ) (sectors : List ℕ) (some : 0 < bytes) (at : sectors_at (Layout.New m) address bytes ≡ Some sectors) where
  found_there : new_sectors m address bytes ≡ Some sectors
  unfolding sectors_at
  found_there = sym (ap (λ (b : Bool). let q : Option (List ℕ) = cond b (Some []) (new_sectors m address bytes) in q) (ne_eqb bytes 0 (λ e. omega (arith, e, some)))) ∙ at

  pub room_there : (id_of address ≡ 2 → ⊥) → others_leave_free owners node (id_of address) (low_start m (low_of address)) (div_ceil bytes m.geometry.sector) ≡ true
      → (has_room_by m owners node address bytes ≡ true) × (sectors_at (Layout.New m) address bytes ≡ Some sectors)
  room_there other free = (
    ap₂ (λ (b : Bool) (q : Option (List ℕ)). not b && (is_some q && others_leave_free owners node (id_of address) (low_start m (low_of address)) (div_ceil bytes m.geometry.sector))) (ne_eqb (id_of address) 2 other) found_there ∙ free,
    at,
  )

-- ---- an identifier that no other node has

pub no_other_leaves : (owners : List Owner) (node id first need : ℕ) → has_other owners node id ≡ false → others_leave_free owners node id first need ≡ true
no_other_leaves [] node id first need none = refl
no_other_leaves (o ∷ owners) node id first need none = by (o.id == id) (o.node == node) none (no_other_leaves owners node id first need)
  where
    by : (same here : Bool) → ((same && not here) || has_other owners node id) ≡ false → (has_other owners node id ≡ false → others_leave_free owners node id first need ≡ true)
        → ((here || (not same || (nat_le (first + need) o.first || (nat_le (o.first + o.sectors) first || (o.sectors == 0))))) && others_leave_free owners node id first need) ≡ true
    by true true none more = more none
    by true false none more = absurd (cc)
    by false true none more = more none
    by false false none more = more none
