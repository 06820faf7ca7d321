-- Entries that get other addresses, one after another from the last on.
use Rattle.std.proofs.Common.{◌≡◌, ◌<◌, ℕ, ◌^◌, Bool, true, false, cond, not, List, [], ◌∷◌, ◌++◌, length, map, refl, sym, ap, ap₂, subst, ◌∙◌, eq-eqb, ne_eqb}
use Rattle.std.specs.Prelude.{◌==◌, ◌&&◌, slice_set}
use Rattle.std.specs.List.{AllByRecursion}
use Rattle.std.specs.Str.{bytes_eq}
use Rattle.fc_names.specs.declared.name.NameForm.{NameForm}
use Rattle.fc_dirs.specs.declared.Entry.{Entry}
use Rattle.fc_dirs.specs.declared.SmallForm.{SmallForm}
use Rattle.fc_dirs.specs.Small.{FitsSmall, IsSmall, SmallDir}
use Rattle.fc_image.specs.Walk.{object_size}
use Rattle.fc_oldlaws.specs.moves.After.{address_after}
use Rattle.fc_volume.specs.OldCompacting.{IsLow, IsReaddressing}
use Rattle.fc_volume.specs.declared.old.compacting.directories.Spare.{Spare}

joined : {X : Type 0} (xs ys : List X) (x : X) → (xs ++ x ∷ []) ++ ys ≡ xs ++ x ∷ ys
joined [] ys x = refl
joined {X} (k ∷ xs) ys x = ap (λ (l : List X). k ∷ l) (joined xs ys x)

set_middle : {X : Type 0} (xs ys : List X) (x z : X) → slice_set (xs ++ x ∷ ys) (length xs) z ≡ xs ++ z ∷ ys
set_middle [] ys x z = refl
set_middle {X} (k ∷ xs) ys x z = ap (λ (l : List X). k ∷ l) (set_middle xs ys x z)

fits_middle : (P : Entry → Type 0) (xs ys : List Entry) (e : Entry) → AllByRecursion P (xs ++ e ∷ ys) → P e
fits_middle P [] ys e all = all.0
fits_middle P (x ∷ xs) ys e all = fits_middle P xs ys e all.1

module _ (f : Entry → Entry) (old now : SmallDir) (spare : Spare) (r : IsReaddressing f old now spare) (xs : List Entry) (e : Entry) (items : spare.entries.items ≡ xs ++ e ∷ []) where
  -- it was the last of those that are left
  was_last : old.entries ≡ xs ++ e ∷ r.back
  was_last = r.was ∙ ap (λ (l : List Entry). l ++ r.back) (sym r.left ∙ items) ∙ joined xs r.back e

  pub copy_fits : IsSmall old → FitsSmall now.form e
  copy_fits small =
      subst (λ (form : SmallForm). FitsSmall form e) (ap (λ (d : SmallDir). d.form) (sym r.is))
      (fits_middle (FitsSmall old.form) xs r.back e (subst (AllByRecursion (FitsSmall old.form)) was_last small.entries))

  module _ (now' : SmallDir) (spare' : Spare) (e' : Entry) (n : ℕ) (left : spare'.entries.items ≡ xs) (at : n ≡ length xs) (same : e' ≡ f e)
      (is : now' ≡ record now { entries = slice_set now.entries n e' }) where
    now_is : now' ≡ record old { entries = xs ++ f e ∷ map f r.back }
    now_is =
        let entries : slice_set now.entries n e' ≡ xs ++ f e ∷ map f r.back =
        ap₂ (λ (l : List Entry) (k : ℕ). slice_set l k e') (ap (λ (d : SmallDir). d.entries) r.is ∙ ap (λ (l : List Entry). l ++ map f r.back) (sym r.left ∙ items) ∙ joined xs (map f r.back) e) at
        ∙ set_middle xs (map f r.back) e e' ∙ ap (λ (x : Entry). xs ++ x ∷ map f r.back) same in
        is ∙ ap (λ (l : List Entry). record now { entries = l }) entries ∙ ap (λ (d : SmallDir). record d { entries = xs ++ f e ∷ map f r.back }) r.is

    told : (b : Bool) → ((f e).address == e.address) ≡ b → spare'.changed ≡ cond b spare.changed true
        → spare'.changed ≡ not (((f e).address == e.address) && bytes_eq (map (λ (x : Entry). x.address) (map f r.back)) (map (λ (x : Entry). x.address) r.back))
    told true t c = c ∙ r.told ∙ ap (λ (b : Bool). not (b && bytes_eq (map (λ (x : Entry). x.address) (map f r.back)) (map (λ (x : Entry). x.address) r.back))) (sym t)
    told false t c = c ∙ ap (λ (b : Bool). not (b && bytes_eq (map (λ (x : Entry). x.address) (map f r.back)) (map (λ (x : Entry). x.address) r.back))) (sym t)

    by : (b : Bool) → ((f e).address == e.address) ≡ b → spare'.changed ≡ cond b spare.changed true → IsReaddressing f old now' spare'
    by b t c = record { front = xs; back = e ∷ r.back; was = was_last; is = now_is; left = left; told = told b t c }

    -- with another address, and with the same
    pub moved : (e'.address ≡ e.address → ⊥) → spare'.changed ≡ true → IsReaddressing f old now' spare'
    moved other c = by false (ne_eqb (f e).address e.address (λ h. other (ap (λ (x : Entry). x.address) same ∙ h))) c

    pub kept : e'.address ≡ e.address → spare'.changed ≡ spare.changed → IsReaddressing f old now' spare'
    kept h c = by true (eq-eqb (f e).address e.address (ap (λ (x : Entry). x.address) (sym same) ∙ h)) c

pub address_low : (form : NameForm) (move : ℕ → ℕ) (e : Entry) → IsLow move → e.address < 2 ^ 24 → address_after form move e < 2 ^ 24
address_low form move e low fits = by (object_size form e == 0)
  where
    by : (b : Bool) → cond b e.address (move e.address) < 2 ^ 24
    by true = fits
    by false = low.stays e.address fits
