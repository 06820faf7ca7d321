-- Rename within a directory.
use Rattle.std.proofs.Common.{◌≡◌, inl, inr, ℕ, true, List, [], ◌∷◌, ◌++◌, refl, sym, ap, subst}
use Rattle.std.specs.Prelude.{Contains}
use Rattle.fc_names.specs.Names.{Path, is_same_path}
use Rattle.fc_image.specs.Layout.{is_apart}
use Rattle.fc_image.specs.Walk.{Object}
use Rattle.fc_changes.proofs.BasicLemmas.{cases_cons, nothing_in}
use Rattle.fc_image.specs.Edits.{IsApartFrom}
use Rattle.fc_image.proofs.CommandLemmas.{same_by_folds}
use Rattle.fc_image.proofs.TreeLemmas.{folds_alike}
use Rattle.fc_names.specs.Names.{folded_path, folded}

pub each_apart : (taken : List ℕ) (objects : List Object) (o p : Object) → IsApartFrom taken objects o → Contains objects p → is_apart o.sectors p.sectors ≡ true
each_apart taken [] o p a at = absurd (nothing_in p at)
each_apart taken (q ∷ objects) o p a at = elim (cases_cons q objects p at) [
  | inl is ↦ subst (λ (x : Object). is_apart o.sectors x.sectors ≡ true) is a.0
  | inr later ↦ each_apart taken objects o p a.1 later
]

pub folds_append : (xs ys : Path) → folded_path (xs ++ ys) ≡ folded_path xs ++ folded_path ys
folds_append [] ys = refl
folds_append (x ∷ xs) ys = ap (λ (zs : Path). folded x ∷ zs) (folds_append xs ys)

pub same_turned : (p q : Path) → is_same_path p q ≡ true → is_same_path q p ≡ true
same_turned p q h = same_by_folds q p (sym (folds_alike p q h))
