-- Folding tells which names are the same, and orders the others.
use Rattle.std.specs.Prelude.{◌≡◌, ◌↔◌, false, ℕ, List, [], ◌∷◌, count_by, IsTrue}
use Rattle.std.specs.Cmp.{IsEquivalence}
use Rattle.fc_names.specs.Names.{folded, is_same_name, is_name_before}

pub record FoldLaw : Type 0 where
  pub folds : (a b : List ℕ) → IsTrue (is_same_name a b) ↔ (folded a ≡ folded b)
  pub same : IsEquivalence is_same_name
  pub irreflexive : (a : List ℕ) → is_name_before a a ≡ false
  pub transitive : (a b c : List ℕ) → IsTrue (is_name_before a b) → IsTrue (is_name_before b c) → IsTrue (is_name_before a c)
  pub one_of_three : (a b : List ℕ) → count_by (λ holds. holds) (is_name_before a b ∷ is_same_name a b ∷ is_name_before b a ∷ []) ≡ 1
