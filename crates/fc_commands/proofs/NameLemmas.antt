-- The last names of paths.
use Rattle.std.proofs.Common.{◌≡◌, ◌<◌, ℕ, zero, suc, List, [], ◌∷◌, length, refl, arith, ◌∙◌}
use Rattle.std.specs.Prelude.{All, IfOk, IsTrue, Result, Ok, Err}
use Rattle.std.specs.Int.{IsInRange}
use Rattle.std.proofs.lemmas.List.Elements.{All-cons}
use Rattle.fc_names.specs.declared.name.NameForm.{NameForm}
use Rattle.fc_names.specs.declared.name.NameForm.TheVariants as forms
use Rattle.fc_names.specs.Names.{IsName, Path, is_writable}
use Rattle.fc_model.specs.Tree.{last_name}

-- the last of some names, or the one given
abbrev pub last_from : List ℕ → Path → List ℕ
last_from last [] = last
last_from last (name ∷ names) = last_from name names

pub last_is : (last : List ℕ) (path : Path) → 0 < length path → last_from last path ≡ last_name path
last_is last [] some = absurd (omega (arith, some))
last_is last (x ∷ path) some = go x path
  where
    go : (x : List ℕ) (path : Path) → last_from x path ≡ last_name (x ∷ path)
    go x [] = refl
    go x (y ∷ path) = go y path

-- the last name is one
pub name_from : (last : List ℕ) (path : Path) → IsName last → All IsName path → IsName (last_from last path)
name_from last [] name all = name
name_from last (x ∷ path) name all = name_from x path (all 0 last (omega arith)) (λ k d low. all (suc k) d (omega (arith, low)))

pub dollar : IsName (36 ∷ [])
dollar = record { some = omega arith; most = omega arith; bytes = All-cons (IsInRange 32 255) 36 [] (omega arith, omega arith) (λ k d low. absurd (omega (arith, low))) }

-- no bytes are no name that may be written
empty : (form : NameForm) → IsTrue (is_writable form []) → ⊥
empty forms.Seven is = cc
empty forms.Ten is = cc
empty forms.Long is = cc

-- The path is not the root's.
pub some_name : (form : NameForm) (path : Path) → IsTrue (is_writable form (last_name path)) → 0 < length path
some_name form [] is = absurd (empty form is)
some_name form (name ∷ names) is = omega arith

-- what is made of the last one found
pub named_last : {E : Type 0} (r : Result (List ℕ) E) (last : List ℕ) (path : Path) → last ≡ last_from (36 ∷ []) path → IfOk r (λ name. name ≡ last) → IfOk r (λ name. 0 < length path → name ≡ last_name path)
named_last (Ok name) last path from is = λ some. is ∙ from ∙ last_is (36 ∷ []) path some
named_last (Err e) last path from is = is
