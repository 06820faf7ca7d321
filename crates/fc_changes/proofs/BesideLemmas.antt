-- Lists of objects: who owns an identifier beside a first owner, and what holds of each object.
use Rattle.std.proofs.Common.{◌≡◌, ◌<◌, ◌≤◌, inl, inr, ℕ, ◌+◌, Bool, true, false, cond, List, [], ◌∷◌, length, refl, sym, ap, subst, ◌∙◌, arith}
use Rattle.std.specs.Prelude.{Contains, IsPermutation, filter, not, ◌&&◌, ◌||◌, ◌==◌, nat_lt}
use Rattle.std.specs.List.{list_any}
use Rattle.std.proofs.lemmas.Bool.{eqb-true, ltb-true}
use Rattle.std.proofs.lemmas.List.Sorted.{Contains-permutation}
use Rattle.fc_newmap.specs.Map.{Map}
use Rattle.fc_image.specs.Layout.{Layout, id_of}
use Rattle.fc_image.specs.Walk.{Object}
use Rattle.fc_image.specs.Objects.{has_sectors, is_owned, is_owner_of, owner_count}
use Rattle.fc_image.proofs.PathsLemmas.{many}
use Rattle.fc_image.proofs.RenameLemmas.{many_shuffled}
use Rattle.fc_image.specs.effects.Short.{is_sharing}
use Rattle.fc_changes.specs.Owed.{GivesBack}
use Rattle.fc_changes.proofs.BasicLemmas.{any_in, cases_cons, first_in, in_any, next_in}
use Rattle.fc_record.proofs.KindLemmas.{and_second}

-- how many pass a test
pub counted : (t : Object → Bool) (xs : List Object) → length (filter t xs) ≡ many t xs
unfolding many
counted t [] = refl
counted t (x ∷ xs) = by (t x) (counted t xs)
  where
    by : (b : Bool) → length (filter t xs) ≡ many t xs → length (cond b (x ∷ filter t xs) (filter t xs)) ≡ (let n : ℕ = cond b 1 0 in n) + many t xs
    by true h = omega (arith, h)
    by false h = omega (arith, h)

-- one does, if some do
one_of : (t : Object → Bool) (xs : List Object) → 0 < many t xs → (x : Object) × Contains xs x × (t x ≡ true)
unfolding many
one_of t [] some = absurd (omega (arith, some))
one_of t (x ∷ xs) some = by (t x) refl some (one_of t xs)
  where
    by : (b : Bool) → t x ≡ b → 0 < (let n : ℕ = cond b 1 0 in n) + many t xs → (0 < many t xs → (y : Object) × Contains xs y × (t y ≡ true))
        → (y : Object) × Contains (x ∷ xs) y × (t y ≡ true)
    by true h low later = (x, first_in x xs, h)
    by false h low later = (let r = later (omega (arith, low)) in (r.0, next_in x r.0 xs r.1, r.2))

-- if more than one owns an identifier, another one than the first does
pub beside_first : (t : Object → Bool) (all xs : List Object) (x : Object) → IsPermutation all (x ∷ xs) → 1 < length (filter t all) → (y : Object) × Contains xs y × (t y ≡ true)
unfolding many
beside_first t all xs x order several =
    let whole = many_shuffled t all (x ∷ xs) order in
    let long = counted t all in
    let one : (let n : ℕ = cond (t x) 1 0 in n) ≤ 1 = at_most (t x) in
    one_of t xs (omega (arith, whole, long, several, one))
  where
    at_most : (b : Bool) → (let n : ℕ = cond b 1 0 in n) ≤ 1
    at_most true = omega arith
    at_most false = omega arith

-- all three hold
pub three : (a b c : Bool) → (a && b && c) ≡ true → (a ≡ true) × (b ≡ true) × (c ≡ true)
three true true true h = (refl, refl, refl)
three false b c h = absurd (cc)
three true false c h = absurd (cc)
three true true false h = absurd (cc)

-- ---- a shared identifier

module _ (m : Map) (objects stay : List Object) (o : Object) (cut : IsPermutation objects (o ∷ stay)) (shares : is_sharing (Layout.New m) objects o ≡ true) where
  its_id : (k : ℕ) → is_owner_of k o ≡ true → id_of o.entry.address ≡ k
  its_id k own = eqb-true (id_of o.entry.address) k (and_second (has_sectors o) (id_of o.entry.address == k) own)

  -- its other owner
  another : (k : ℕ) → id_of o.entry.address ≡ k → (k == 2) ≡ false → (q : Object) × Contains stay q × (is_owner_of k q ≡ true)
  another k is two =
      let several = ltb-true 1 (owner_count objects k) (subst (λ (n : ℕ). nat_lt 1 (owner_count objects n) ≡ true) is (and_second (has_sectors o) (nat_lt 1 (owner_count objects (id_of o.entry.address))) shares)) in
      let none : (let n : ℕ = cond (k == 2) 1 0 in n) ≡ 0 = ap (λ (b : Bool). let n : ℕ = cond b 1 0 in n) two in
      beside_first (is_owner_of k) objects stay o cut (omega (arith, several, none))

  owned_still : (after : List Object) → ((p : Object) → Contains stay p → Contains after p) → (k : ℕ) → is_owned objects k ≡ true → is_owned after k ≡ true
  owned_still after stays k own = by (k == 2) refl own
    where
      by : (b : Bool) → (k == 2) ≡ b → (b || list_any (is_owner_of k) objects) ≡ true → (b || list_any (is_owner_of k) after) ≡ true
      by true two h = refl
      by false two h =
          let p = in_any (is_owner_of k) objects h in
          elim (cases_cons o stay p.0 (Contains-permutation objects (o ∷ stay) p.0 cut p.1)) [
            | inl is ↦ (let q = another k (its_id k (ap (is_owner_of k) is ∙ p.2)) two in any_in (is_owner_of k) after q.0 (stays q.0 q.1) q.2)
            | inr other ↦ any_in (is_owner_of k) after p.0 (stays p.0 other) p.2
          ]

  -- without the object no identifier goes back
  pub shared_stays : (after : List Object) → ((p : Object) → Contains stay p → Contains after p) → GivesBack m [] objects after
  shared_stays after stays = record { exactly = λ k used. by k (is_owned objects k) refl }
    where
      by : (k : ℕ) (b : Bool) → is_owned objects k ≡ b → false ≡ (b && not (is_owned after k))
      by k false h = refl
      by k true h = sym (ap not (owned_still after stays k h))
