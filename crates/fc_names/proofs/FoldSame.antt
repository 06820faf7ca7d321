-- Names that fold to the same are those that are the same in lower case.
use Rattle.std.proofs.Common.{◌≡◌, ℕ, Bool, true, false, List, [], ◌∷◌, map, arith, refl, sym, ap₂}
use Rattle.std.specs.Prelude.{◌↔◌, IsTrue}
use Rattle.std.specs.Char.{to_ascii_lowercase}
use Rattle.std.proofs.lemmas.Bool.Decides.{nat_tests}
use Rattle.fc_names.specs.Names.{folded, is_same_name, upper}
use Rattle.fc_names.proofs.FoldOrder.{fold_law}

upper-lower : (x y : ℕ) → to_ascii_lowercase x ≡ to_ascii_lowercase y → upper x ≡ upper y
upper-lower x y e = grind (arith, nat_tests, e)

lower-upper : (x y : ℕ) → upper x ≡ upper y → to_ascii_lowercase x ≡ to_ascii_lowercase y
lower-upper x y e = grind (arith, nat_tests, e)

folded-lower : (a b : List ℕ) → map to_ascii_lowercase a ≡ map to_ascii_lowercase b → folded a ≡ folded b
folded-lower [] [] e = refl
folded-lower [] (y ∷ b) e = cc e
folded-lower (x ∷ a) [] e = cc e
folded-lower (x ∷ a) (y ∷ b) e = ap₂ ◌∷◌ (upper-lower x y (cc e)) (folded-lower a b (cc e))

lower-folded : (a b : List ℕ) → folded a ≡ folded b → map to_ascii_lowercase a ≡ map to_ascii_lowercase b
lower-folded [] [] e = refl
lower-folded [] (y ∷ b) e = cc e
lower-folded (x ∷ a) [] e = cc e
lower-folded (x ∷ a) (y ∷ b) e = ap₂ ◌∷◌ (lower-upper x y (cc e)) (lower-folded a b (cc e))

pub is_same-lower : (a b : List ℕ) (test : Bool) → (IsTrue test ↔ (map to_ascii_lowercase a ≡ map to_ascii_lowercase b))
    → test ≡ is_same_name a b
is_same-lower a b test is = by test (is_same_name a b)
    (λ t. (fold_law.folds a b).1 (folded-lower a b (is.0 t)))
    (λ s. is.1 (lower-folded a b ((fold_law.folds a b).0 s)))
  where
    by : (t s : Bool) → (IsTrue t → IsTrue s) → (IsTrue s → IsTrue t) → t ≡ s
    by true true f g = refl
    by true false f g = sym (f refl)
    by false true f g = g refl
    by false false f g = refl
