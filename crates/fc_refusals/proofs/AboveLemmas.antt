-- Which path is that of a directory above another.
use Rattle.std.proofs.Common.{◌≡◌, ℕ, Bool, true, false, not, ◌&&◌, List, [], ◌∷◌, ◌++◌, length, refl, sym, ap₂, ◌∙◌, arith}
use Rattle.std.specs.Prelude.{◌==◌}
use Rattle.std.specs.Str.{bytes_eq}
use Rattle.std.specs.Cmp.Lexicographic.{bytes_decides}
use Rattle.std.proofs.lemmas.Bool.Decides.{nat_tests}
use Rattle.fc_names.specs.Names.{Path, folded, folded_path, is_same_name}
use Rattle.fc_names.proofs.FoldOrder.{fold_law}
use Rattle.fc_model.specs.Tree.{is_prefix}
use Rattle.fc_model.specs.Answer.{is_above}
use Rattle.std.proofs.lemmas.Bool.{and_parts as both_hold}

-- names that are left to compare
abbrev pub stands_above : Path → Path → Bool
stands_above [] [] = false
stands_above [] (y ∷ ys) = true
stands_above (x ∷ xs) [] = false
stands_above (x ∷ xs) (y ∷ ys) = is_same_name x y && stands_above xs ys

pub same_name : (x y : List ℕ) → is_same_name x y ≡ bytes_eq (folded x) (folded y)
same_name x y = by (is_same_name x y) refl (bytes_eq (folded x) (folded y)) refl
  where
    by : (a : Bool) → is_same_name x y ≡ a → (b : Bool) → bytes_eq (folded x) (folded y) ≡ b → a ≡ b
    by true e true f = refl
    by true e false f = absurd (let g = (bytes_decides (folded x) (folded y)).1 ((fold_law.folds x y).0 e) in cc)
    by false e true f = absurd (let g = (fold_law.folds x y).1 ((bytes_decides (folded x) (folded y)).0 f) in cc)
    by false e false f = refl

prefix_more : (a b : List ℕ) (p q : Path) → is_prefix (a ∷ p) (b ∷ q) ≡ (bytes_eq a b && is_prefix p q)
prefix_more a b p q = refl

same_longer : (x y : List ℕ) (p q : Path) → (length (x ∷ p) == length (y ∷ q)) ≡ (length p == length q)
same_longer x y p q = grind (arith, nat_tests)

and_assoc : (a b c : Bool) → ((a && b) && c) ≡ (a && (b && c))
and_assoc true b c = refl
and_assoc false b c = refl

pub above_is : (p q : Path) → stands_above p q ≡ is_above p q
above_is [] [] = refl
above_is [] (y ∷ q) = grind (arith, nat_tests)
above_is (x ∷ p) [] = refl
above_is (x ∷ p) (y ∷ q) =
    ap₂ (λ (a b : Bool). a && b) (same_name x y) (above_is p q)
    ∙ sym (ap₂ (λ (a b : Bool). a && not b) (prefix_more (folded x) (folded y) (folded_path p) (folded_path q)) (same_longer x y p q)
    ∙ and_assoc (bytes_eq (folded x) (folded y)) (is_prefix (folded_path p) (folded_path q)) (not (length p == length q)))

-- a path at or above another is above what that holds
pub above_child : (p front : Path) (last : List ℕ) → is_prefix (folded_path p) (folded_path front) ≡ true → stands_above p (front ++ last ∷ []) ≡ true
above_child [] [] last h = refl
above_child [] (y ∷ front) last h = refl
above_child (x ∷ p) [] last h = absurd (cc)
above_child (x ∷ p) (y ∷ front) last h =
    let parts = both_hold (bytes_eq (folded x) (folded y)) (is_prefix (folded_path p) (folded_path front)) (sym (prefix_more (folded x) (folded y) (folded_path p) (folded_path front)) ∙ h) in
    ap₂ (λ (a b : Bool). a && b) (same_name x y ∙ parts.0) (above_child p front last parts.1)
