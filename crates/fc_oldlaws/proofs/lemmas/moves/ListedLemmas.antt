-- What is listed are directories, and where a path leads afterwards.
use Rattle.std.proofs.Common.{◌≡◌, inl, inr, Bool, true, false, cond, List, [], ◌∷◌, refl, ap, subst}
use Rattle.std.specs.Prelude.{Contains, filter}
use Rattle.std.proofs.lemmas.List.Sorted.{Contains-permutation}
use Rattle.fc_dirs.specs.declared.Entry.{Entry}
use Rattle.fc_image.specs.Walk.{Listing, Object, is_directory_object}
use Rattle.fc_image.specs.Order.{directories, held, listed}
use Rattle.fc_image.proofs.EntriesLemmas.{in_mapped}
use Rattle.fc_changes.proofs.BasicLemmas.{cases_cons, nothing_in}
use Rattle.fc_oldlaws.proofs.lemmas.moves.PlaceLemmas.{Start, had}

-- what passes a test
pub passed : {X : Type 0} (t : X → Bool) (xs : List X) (x : X) → Contains (filter t xs) x → t x ≡ true
passed t [] x at = absurd (nothing_in x at)
passed {X} t (z ∷ xs) x at = by (t z) refl at (passed t xs x)
  where
    by : (b : Bool) → t z ≡ b → Contains (cond b (z ∷ filter t xs) (filter t xs)) x → (Contains (filter t xs) x → t x ≡ true) → t x ≡ true
    by true e c more = elim (cases_cons z (filter t xs) x c) [ inl is ↦ subst (λ (k : X). t k ≡ true) is e | inr later ↦ more later ]
    by false e c more = more c

pub is_listed_directory : (e : Start) (l : Listing) → Contains e.listings l → is_directory_object l.object ≡ true
is_listed_directory e l at =
    elim (cases_cons (had e).root (directories (held e.listings)) l.object
    (Contains-permutation (listed e.listings) ((had e).root ∷ directories (held e.listings)) l.object (had e).all.all (in_mapped (λ (k : Listing). k.object) e.listings l at))) [
      | inl top ↦ subst (λ (o : Object). is_directory_object o ≡ true) top (ap (λ (d : Entry). is_directory_object (record (had e).root { entry = d })) (had e).is_root.entry)
      | inr kept ↦ passed is_directory_object (held e.listings) l.object kept
    ]
