-- What a walk found, by its path.
use Rattle.std.proofs.Common.{◌≡◌, ◌≤◌, zero, suc, Bool, true, false, cond, List, [], ◌∷◌, refl, ap, subst, ◌∙◌, arith, Some, None, Option}
use Rattle.std.specs.Prelude.{Contains, find}
use Rattle.fc_names.specs.Names.{Path, is_same_path}
use Rattle.fc_image.specs.Layout.{Layout}
use Rattle.fc_image.specs.Walk.{Object, Listing}
use Rattle.fc_image.specs.Objects.{objects_of}
use Rattle.fc_image.specs.Sound.{AreSound, LookupLaw}
use Rattle.fc_image.proofs.PathsLemmas.{many, is_at, listed_few}
use Rattle.fc_image.proofs.EditLemmas.{walk_gives, root_first}
use Rattle.fc_image.proofs.TreeLemmas.{sound_few}
use Rattle.fc_image.proofs.EntriesLemmas.{later, one_passes, same_some}
use Rattle.fc_zone.proofs.ZoneLemmas.{Contains-head as here}

-- the first that passes is one, and where one passes there is a first
module _ {X : Type 0} (t : X → Bool) where
  found_passes : (xs : List X) (x : X) → find t xs ≡ Some x → Contains xs x × (t x ≡ true)
  found_passes [] x h = absurd (cc)
  found_passes (y ∷ xs) x h = by (t y) refl h (found_passes xs x)
    where
      by : (b : Bool) → t y ≡ b → cond b (Some y) (find t xs) ≡ Some x → (find t xs ≡ Some x → Contains xs x × (t x ≡ true)) → Contains (y ∷ xs) x × (t x ≡ true)
      by true e g more =
          let is = same_some y x g in (subst (λ (z : X). Contains (y ∷ xs) z) is (here y xs), subst (λ (z : X). t z ≡ true) is e)
      by false e g more = let r = more g in (later y x xs r.0, r.1)

  not_missed : (xs : List X) (x : X) → Contains xs x → t x ≡ true → find t xs ≡ None → ⊥
  not_missed [] x at h none = absurd (omega (arith, at.1))
  not_missed (y ∷ xs) x (zero, low, e) h none = by (t y) (ap t e ∙ h) none
    where
      by : (b : Bool) → b ≡ true → cond b (Some y) (find t xs) ≡ None → ⊥
      by true g f = cc
      by false g f = cc
  not_missed (y ∷ xs) x (suc i, low, e) h none = by (t y) none (not_missed xs x (i, omega (arith, low), e) h)
    where
      by : (b : Bool) → cond b (Some y) (find t xs) ≡ None → (find t xs ≡ None → ⊥) → ⊥
      by true f more = cc
      by false f more = more f

  found_one : (xs : List X) (x : X) → many t xs ≤ 1 → Contains xs x → t x ≡ true → find t xs ≡ Some x
  found_one xs x few at h = by (find t xs) refl
    where
      by : (o : Option X) → find t xs ≡ o → o ≡ Some x
      by None e = absurd (not_missed xs x at h e)
      by (Some y) e = let r = found_passes xs y e in ap (λ (z : X). let s : Option X = Some z in s) (one_passes t xs y x few r.0 at r.1 h)

listings_few : (layout : Layout) (listings : List Listing) → AreSound layout listings → (path : Path) → many (λ (l : Listing). is_same_path path l.object.path) listings ≤ 1
unfolding many
listings_few layout listings w path =
    let had = walk_gives w.read layout w.reserved w.address w.size listings w.walked in
    let few = subst (λ (os : List Object). many (is_at path) os ≤ 1) (root_first w.read layout had.0 w.reserved listings had.2) (sound_few layout listings w path) in
    let most = listed_few w.read layout (is_at path) (had.0 ∷ []) listings had.2 in
    omega (arith, few, most)

pub lookup_law : LookupLaw
lookup_law = record {
  object = λ layout listings path o w at same. found_one (is_at path) (objects_of listings) o (sound_few layout listings w path) at same;
  listing = λ layout listings path l w at same. found_one (λ (k : Listing). is_same_path path k.object.path) listings l (listings_few layout listings w path) at same;
}
