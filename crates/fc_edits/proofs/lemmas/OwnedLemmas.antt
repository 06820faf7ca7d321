-- Which identifiers are owned after an edit.
use Rattle.std.proofs.Common.{◌≡◌, ◌≤◌, ⊎_elim, ℕ, ◌+◌, Bool, true, false, cond, List, [], ◌∷◌, ◌++◌, length, map, refl, sym, ap, ap₂, ◌∙◌, arith}
use Rattle.std.specs.Prelude.{Contains, IsPermutation, nat_lt, ◌==◌, ◌||◌, ◌&&◌}
use Rattle.std.specs.List.{list_any}
use Rattle.std.proofs.lemmas.List.Elements.{Contains-append_cases, Contains-append_left, Contains-append_right}
use Rattle.std.proofs.lemmas.List.Sorted.{IsPermutation-trans}
use Rattle.fc_dirs.specs.declared.Entry.{Entry}
use Rattle.fc_image.specs.Layout.{id_of}
use Rattle.fc_image.specs.Walk.{Listing, Object}
use Rattle.fc_image.specs.Objects.{is_owned, is_owner_of, objects_of}
use Rattle.fc_image.specs.Sound.{AreSound}
use Rattle.fc_image.proofs.PathsLemmas.{many, many-append}
use Rattle.fc_tree.proofs.MemberLemmas.{contains_here, from_map, in_map, many_permuted, some_many}
use Rattle.fc_changes.proofs.BasicLemmas.{any_in, in_any}
use Rattle.fc_laws.proofs.lemmas.nodes.ListLemmas.{in_first, in_other}
use Rattle.fc_edits.specs.Edit.{joining, leaving, listings_after, objects}
use Rattle.fc_edits.specs.PartsEdit.{PartsEdit}
use Rattle.fc_edits.specs.Places.{Stays}
use Rattle.fc_edits.proofs.lemmas.AgreeLemmas as ag
use Rattle.fc_edits.proofs.lemmas.OwnerLemmas.{objects_now}
use Rattle.fc_image.proofs.CommandLemmas.{both_ways as same_bool}
use Rattle.fc_image.proofs.EntriesLemmas.{later as contains_later}

-- ---- tests and lists

from_many : {X : Type 0} (t : X → Bool) (xs : List X) → 1 ≤ many t xs → (x : X) × Contains xs x × (t x ≡ true)
unfolding many
from_many t [] some = absurd (omega (arith, some))
from_many {X} t (x ∷ xs) some = by (t x) refl some (from_many t xs)
  where
    by : (b : Bool) → t x ≡ b → 1 ≤ cond b 1 0 + many t xs → (1 ≤ many t xs → (y : X) × Contains xs y × (t y ≡ true)) → (y : X) × Contains (x ∷ xs) y × (t y ≡ true)
    by true e low more = (x, contains_here x xs, e)
    by false e low more = let r = more (omega (arith, low)) in (r.0, contains_later x r.0 xs r.1, r.2)

-- ---- an edit

-- the objects afterwards are those that join and those that stay
pub found_parted : (pe : PartsEdit) (found : List Listing) → AreSound pe.layout' found → IsPermutation (listings_after pe.edit) found → IsPermutation (objects_of found) (ag.all_now pe)
found_parted pe found sound order = IsPermutation-trans (objects_of found) _ (ag.all_now pe) (objects_now (ag.ne pe) pe.layout' found sound order) (ag.whole_after pe)

-- an object that joins a directory is found
pub joins_found : (pe : PartsEdit) (found : List Listing) → AreSound pe.layout' found → IsPermutation (listings_after pe.edit) found → (p : ℕ × Object) → Contains (joining pe.edit) p
    → Contains (objects_of found) p.1
joins_found pe found sound order p at =
    let c = ag.cut pe in
    in_first (objects_of found) (ag.all_now pe) (found_parted pe found sound order) p.1
    (in_other (objects (joining pe.edit) ++ map pe.edit.turn c.stays) (ag.all_now pe) c.after p.1
    (Contains-append_left (objects (joining pe.edit)) (map pe.edit.turn c.stays) p.1 (in_map (λ (q : ℕ × Object). q.1) (joining pe.edit) p at)))

module _ (pe : PartsEdit) (stay : List Object) (others : IsPermutation (objects_of pe.listings) (objects (leaving pe.edit) ++ stay)) (found : List Listing) (sound : AreSound pe.layout' found)
    (order : IsPermutation (listings_after pe.edit) found) where
  cut : ag.Cut pe
  cut = ag.cut pe

  objects_found : IsPermutation (objects_of found) (ag.all_now pe)
  objects_found = found_parted pe found sound order

  keeps_owner : (o : Object) → Stays pe.nodes pe.listings pe.edit o → (k : ℕ) → is_owner_of k (pe.edit.turn o) ≡ is_owner_of k o
  keeps_owner o s k = let keep = ag.keeps pe o s in ap₂ (λ (ss : List ℕ) (x : Entry). nat_lt 0 (length ss) && (id_of x.address == k)) keep.sectors keep.entry

  -- as many owners stay by either list
  as_many : (k : ℕ) → many (is_owner_of k) stay ≡ many (is_owner_of k) cut.stays
  as_many k =
      let a = many_permuted (is_owner_of k) (objects_of pe.listings) (objects (leaving pe.edit) ++ stay) others in
      let b = many_permuted (is_owner_of k) (objects_of pe.listings) (objects (leaving pe.edit) ++ cut.stays) cut.before' in
      let a' = many-append (is_owner_of k) (objects (leaving pe.edit)) stay in
      let b' = many-append (is_owner_of k) (objects (leaving pe.edit)) cut.stays in
      omega (arith, a, b, a', b')

  there : (k : ℕ) → list_any (is_owner_of k) (objects_of found) ≡ true → list_any (is_owner_of k) (objects (joining pe.edit) ++ stay) ≡ true
  there k h =
      let p = in_any (is_owner_of k) (objects_of found) h in
      let now = in_first (objects (joining pe.edit) ++ map pe.edit.turn cut.stays) (ag.all_now pe) cut.after p.0 (in_other (objects_of found) (ag.all_now pe) objects_found p.0 p.1) in
      ⊎_elim (λ joins. any_in (is_owner_of k) (objects (joining pe.edit) ++ stay) p.0 (Contains-append_left (objects (joining pe.edit)) stay p.0 joins) p.2)
      (λ stays.
      let q = from_map pe.edit.turn cut.stays p.0 stays in
      let own : is_owner_of k q.0 ≡ true = sym (keeps_owner q.0 (cut.each q.0 q.1) k) ∙ ap (is_owner_of k) q.2 ∙ p.2 in
      let some = some_many (is_owner_of k) cut.stays q.0 q.1 own in
      let same = as_many k in
      let r = from_many (is_owner_of k) stay (omega (arith, some, same)) in
      any_in (is_owner_of k) (objects (joining pe.edit) ++ stay) r.0 (Contains-append_right (objects (joining pe.edit)) stay r.0 r.1) r.2)
      (Contains-append_cases (objects (joining pe.edit)) (map pe.edit.turn cut.stays) p.0 now)

  back : (k : ℕ) → list_any (is_owner_of k) (objects (joining pe.edit) ++ stay) ≡ true → list_any (is_owner_of k) (objects_of found) ≡ true
  back k h =
      let p = in_any (is_owner_of k) (objects (joining pe.edit) ++ stay) h in
      let owner : (o : Object) → Contains (objects (joining pe.edit) ++ map pe.edit.turn cut.stays) o → is_owner_of k o ≡ true → list_any (is_owner_of k) (objects_of found) ≡ true =
      λ o at own. any_in (is_owner_of k) (objects_of found) o (in_first (objects_of found) (ag.all_now pe) objects_found o (in_other (objects (joining pe.edit) ++ map pe.edit.turn cut.stays) (ag.all_now pe) cut.after o at)) own in
      ⊎_elim (λ joins. owner p.0 (Contains-append_left (objects (joining pe.edit)) (map pe.edit.turn cut.stays) p.0 joins) p.2)
      (λ stays.
      let some = some_many (is_owner_of k) stay p.0 stays p.2 in
      let same = as_many k in
      let r = from_many (is_owner_of k) cut.stays (omega (arith, some, same)) in
      owner (pe.edit.turn r.0) (Contains-append_right (objects (joining pe.edit)) (map pe.edit.turn cut.stays) (pe.edit.turn r.0) (in_map pe.edit.turn cut.stays r.0 r.1))
      (keeps_owner r.0 (cut.each r.0 r.1) k ∙ r.2))
      (Contains-append_cases (objects (joining pe.edit)) stay p.0 p.1)

  pub owned_now : (k : ℕ) → is_owned (objects_of found) k ≡ is_owned (objects (joining pe.edit) ++ stay) k
  owned_now k = ap (λ (b : Bool). (k == 2) || b) (same_bool (list_any (is_owner_of k) (objects_of found)) (list_any (is_owner_of k) (objects (joining pe.edit) ++ stay)) (there k) (back k))
