-- Folded names are in a total order.
use Rattle.std.proofs.Common.{◌≡◌, ℕ, true, List, [], ◌∷◌, count_by, refl, ◌∙◌, ap}
use Rattle.std.specs.Prelude.{◌↔◌, IsTrue}
use Rattle.std.specs.declared.cmp.Ordering.{Ordering}
use Rattle.std.specs.declared.cmp.Ordering.TheVariants.{Less, Equal, Greater}
use Rattle.std.specs.Ordering.{nat_cmp, is_lt, is_eq, ordering_reverse}
use Rattle.std.specs.Cmp.{IsTotalOrder, on_total}
use Rattle.std.specs.Cmp.Lexicographic.{slice_cmp}
use Rattle.std.specs.FinMap.{nat_cmp-IsAntisymmetric, slice_cmp-IsAntisymmetric}
use Rattle.std.proofs.lemmas.Cmp.{nat_list_cmp_total, eq_by_cmp_equiv}
use Rattle.fc_names.specs.Names.{folded, name_cmp, is_same_name}
use Rattle.fc_names.specs.FoldLaw.{FoldLaw}

ordered : IsTotalOrder name_cmp
ordered = on_total folded nat_list_cmp_total

pub less : (o : Ordering) → is_lt o ≡ true → o ≡ Less
less Less h = refl
less Equal h = cc h
less Greater h = cc h

equal : (o : Ordering) → is_eq o ≡ true → o ≡ Equal
equal Less h = cc h
equal Equal h = refl
equal Greater h = cc h

folds : (a b : List ℕ) → IsTrue (is_same_name a b) ↔ (folded a ≡ folded b)
folds a b = (
  λ h. slice_cmp-IsAntisymmetric nat_cmp-IsAntisymmetric (folded a) (folded b) (equal (name_cmp a b) h),
  λ e. ap (λ f. is_eq (slice_cmp nat_cmp f (folded b))) e ∙ (eq_by_cmp_equiv nat_list_cmp_total).refl (folded b),
)

-- an order and its reverse are less, equal or greater
three : (o : Ordering) → count_by (λ holds. holds) (is_lt o ∷ is_eq o ∷ is_lt (ordering_reverse o) ∷ []) ≡ 1
three Less = refl
three Equal = refl
three Greater = refl

pub fold_law : FoldLaw
fold_law = record {
  folds = folds;
  same = eq_by_cmp_equiv ordered;
  irreflexive = λ a. ap is_lt (equal (name_cmp a a) ((eq_by_cmp_equiv ordered).refl a));
  transitive = λ a b c h k. ap is_lt (ordered.trans a b c (less _ h) (less _ k));
  one_of_three = λ a b. rw (ordered.antisymm b a) (three (name_cmp a b));
}
