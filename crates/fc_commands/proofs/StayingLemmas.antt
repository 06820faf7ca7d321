-- The owner of an object that gets another entry of its address and length: it stays as it is.
use Rattle.std.proofs.Common.{◌≡◌, ◌+◌, ◌++◌, min, ℕ, Bool, true, false, cond, find, List, [], ◌∷◌, length, take, drop, refl, sym, ap, ap₂, subst, ◌∙◌, arith, Option, Some, None, is_some, inl, inr}
use Rattle.std.specs.Prelude.{◌==◌, Contains, nat_le, nat_lt, not}
use Rattle.std.specs.Int.{div_ceil}
use Rattle.std.proofs.Math.Nat.{zero-div, zero-mod}
use Rattle.std.proofs.lemmas.Bool.{eqb-true, leb-true}
use Rattle.std.proofs.lemmas.List.{length-take}
use Rattle.fc_names.specs.Names.{is_directory}
use Rattle.fc_alloc.specs.declared.owner.Owner.{Owner}
use Rattle.fc_alloc.specs.Owners.{has_node, is_node, with_changed}
use Rattle.fc_dirs.specs.declared.Entry.{Entry}
use Rattle.fc_dirs.specs.Directory.{directory_size}
use Rattle.fc_dirs.proofs.SearchLemmas.{is_some-find}
use Rattle.fc_oldmap.specs.OldMap.{OldMapContent}
use Rattle.fc_newmap.specs.Map.{Map}
use Rattle.fc_image.specs.Layout.{Layout, dir_form, first_part, id_of, id_sectors, is_object_id, low_of, low_start, sector_bytes, sectors_at}
use Rattle.fc_image.specs.Edits.{IsAt}
use Rattle.fc_image.specs.Objects.{has_sectors}
use Rattle.fc_image.specs.Walk.{Object, object_size}
use Rattle.fc_laws.specs.nodes.Edits.{owner_with}
use Rattle.fc_laws.proofs.lemmas.nodes.ListLemmas.{map_fixed}
use Rattle.fc_changes.proofs.lemmas.old.PlaceLemmas.{row_or_none}
use Rattle.fc_tree.specs.Parts.{first_in}
use Rattle.fc_tree.proofs.WalkedLemmas.{same_some}
use Rattle.fc_change.specs.After.{HasPlaceFor}
use Rattle.fc_change.specs.Owned.{IsOwnerNow, entry_owner, owner_if, owners_with_room}

-- ---- as many sectors as the bytes need

pub no_ceil : (size : ℕ) → div_ceil 0 size ≡ 0
no_ceil size = ap₂ (λ (a b : ℕ). a + min 1 b) (zero-div size) (zero-mod size)

new_count : (m : Map) (address n : ℕ) (sectors : List ℕ) → sectors_at (Layout.New m) address n ≡ Some sectors → length sectors ≡ div_ceil n m.geometry.sector
unfolding sectors_at
new_count m address n sectors h = by (n == 0) refl (is_object_id m (id_of address)) h
  where
    part : (k : ℕ) (xs : List ℕ) → first_part k xs ≡ Some sectors → length sectors ≡ k
    part k xs e = cut (nat_le k (length xs)) refl e
      where
        cut : (b : Bool) → nat_le k (length xs) ≡ b → cond b (Some (take k xs)) None ≡ Some sectors → length sectors ≡ k
        cut true low f =
            let fits = leb-true k (length xs) low in
            let long = length-take k xs in
            sym (ap (λ (ys : List ℕ). length ys) (same_some (take k xs) sectors f)) ∙ (let e' : length (take k xs) ≡ k = omega (arith, fits, long) in e')
        cut false low f = absurd (cc)

    by : (b : Bool) → (n == 0) ≡ b → (c : Bool) → cond b (Some []) (cond c (first_part (div_ceil n m.geometry.sector) (drop (low_start m (low_of address)) (id_sectors m (id_of address)))) None) ≡ Some sectors
        → length sectors ≡ div_ceil n m.geometry.sector
    by true e c f = sym (ap (λ (ys : List ℕ). length ys) (same_some [] sectors f)) ∙ sym (ap (λ (k : ℕ). div_ceil k m.geometry.sector) (eqb-true n 0 e) ∙ no_ceil m.geometry.sector)
    by false e true f = part (div_ceil n m.geometry.sector) (drop (low_start m (low_of address)) (id_sectors m (id_of address))) f
    by false e false f = absurd (cc)

old_count : (space : OldMapContent) (address n : ℕ) (sectors : List ℕ) → sectors_at (Layout.Old space) address n ≡ Some sectors → length sectors ≡ div_ceil n (sector_bytes (Layout.Old space))
old_count space address n sectors at = elim (row_or_none space address n sectors at) [
  | inl none ↦ ap (λ (xs : List ℕ). length xs) none.1 ∙ sym (ap (λ (k : ℕ). div_ceil k (sector_bytes (Layout.Old space))) none.0 ∙ no_ceil (sector_bytes (Layout.Old space)))
  | inr row ↦ row.long
]

pub count : (layout : Layout) (address n : ℕ) (sectors : List ℕ) → sectors_at layout address n ≡ Some sectors → length sectors ≡ div_ceil n (sector_bytes layout)
count (Layout.New m) address n sectors at = new_count m address n sectors at
count (Layout.Old space) address n sectors at = old_count space address n sectors at

-- ---- the owner that an entry is

-- The entry has the object's address, length and kind.
pub record KeepsSpace (e was : Entry) : Type 0 where
  pub address : e.address ≡ was.address
  pub len : e.len ≡ was.len
  pub kind : is_directory e.attrs ≡ is_directory was.attrs

module _ (layout : Layout) (n dir : ℕ) (o : Object) (e : Entry) (at : IsAt layout o) (keeps : KeepsSpace e o.entry) where
  size_is : object_size (dir_form layout) e ≡ object_size (dir_form layout) o.entry
  size_is = ap₂ (λ (b : Bool) (k : ℕ). cond b (directory_size (dir_form layout) k) k) keeps.kind keeps.len

  sectors_are : div_ceil (object_size (dir_form layout) e) (sector_bytes layout) ≡ length o.sectors
  sectors_are = ap (λ (k : ℕ). div_ceil k (sector_bytes layout)) size_is ∙ sym (count layout o.entry.address (object_size (dir_form layout) o.entry) o.sectors at)

  pub owner_same : entry_owner layout n dir e ≡ owner_with layout dir n o
  owner_same = λ i. record {
    id = id_of (keeps.address i);
    dir = dir;
    node = n;
    file = not (keeps.kind i);
    low = low_of (keeps.address i);
    first = first_in layout (low_of (keeps.address i));
    sectors = sectors_are i;
  }

  pub owner_if_is : owner_if layout n dir e ≡ cond (has_sectors o) (Some (owner_with layout dir n o)) None
  owner_if_is = ap₂ (λ (k : ℕ) (w : Owner). cond (nat_lt 0 k) (Some w) None) sectors_are owner_same

-- ---- it stays

-- these are the owners of the node's object, and of no other
module _ (n : ℕ) (own : Owner) (some : Bool) (owners : List Owner) (own_node : own.node ≡ n) (found : find (is_node n) owners ≡ cond some (Some own) None)
    (only : (w : Owner) → Contains owners w → w.node ≡ n → w ≡ own) where
  has_it : has_node owners n ≡ some
  has_it = sym (is_some-find (is_node n) owners) ∙ ap is_some found ∙ by some
    where
      by : (b : Bool) → is_some (cond b (Some own) None) ≡ b
      by true = refl
      by false = refl

  -- no memory is taken for one more
  pub no_room : (o : Option Owner) → o ≡ cond some (Some own) None → owners_with_room o owners ≡ owners
  no_room o is = ap (λ (x : Option Owner). owners_with_room x owners) is ∙ by some refl
    where
      by : (b : Bool) → some ≡ b → owners_with_room (cond b (Some own) None) owners ≡ owners
      by true e = ap (λ (k : ℕ). cond (has_node owners k) owners (owners ++ own ∷ [])) own_node ∙ ap (λ (b : Bool). cond b owners (owners ++ own ∷ [])) (has_it ∙ e)
      by false e = refl

  pub can_turn : (o : Option Owner) → o ≡ cond some (Some own) None → HasPlaceFor o owners
  can_turn o is = subst (λ (x : Option Owner). HasPlaceFor x owners) (sym is) (by some refl)
    where
      by : (b : Bool) → some ≡ b → HasPlaceFor (cond b (Some own) None) owners
      by true e = subst (λ (k : ℕ). has_node owners k ≡ true) (sym own_node) (has_it ∙ e)
      by false e = tt

  changed_same : with_changed own owners ≡ owners
  changed_same = map_fixed (λ (p : Owner). cond (is_node own.node p) own p) owners (λ p at. by p at (is_node own.node p) refl)
    where
      by : (p : Owner) → Contains owners p → (b : Bool) → is_node own.node p ≡ b → cond b own p ≡ p
      by p at true e = sym (only p at (eqb-true p.node own.node e ∙ own_node))
      by p at false e = refl

  pub owners_stay : (o : Option Owner) (owners' : List Owner) → o ≡ cond some (Some own) None → IsOwnerNow n o owners owners' → owners' ≡ owners
  owners_stay o owners' is now = by some refl (subst (λ (x : Option Owner). IsOwnerNow n x owners owners') is now)
    where
      by : (b : Bool) → some ≡ b → IsOwnerNow n (cond b (Some own) None) owners owners' → owners' ≡ owners
      by true e changed = changed ∙ changed_same
      by false e gone = gone.none (has_it ∙ e)
