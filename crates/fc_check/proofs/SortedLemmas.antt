-- Entries whose names rise.
use Rattle.std.proofs.Common.{◌≡◌, ◌<◌, ℕ, zero, suc, ◌+◌, ◌&&◌, Bool, true, false, List, [], ◌∷◌, length, get_or, refl, sym, ap, ◌∙◌, arith}
use Rattle.std.specs.List.{IsAllAdjacentAnswer}
use Rattle.fc_names.specs.Names.{is_name_before}
use Rattle.fc_dirs.specs.declared.Entry.{Entry}
use Rattle.fc_dirs.specs.Entries.{is_sorted_by_name}

abbrev rises : Entry → Entry → Bool
rises e f = is_name_before e.name f.name

all_rise : (es : List Entry) → ((k : ℕ) (d : Entry) → k + 1 < length es → true ≡ rises (get_or es k d) (get_or es (k + 1) d)) → is_sorted_by_name es ≡ true
all_rise [] rise = refl
all_rise (e ∷ []) rise = refl
all_rise (e ∷ f ∷ es) rise =
    ap (λ b. b && is_sorted_by_name (f ∷ es)) (sym (rise 0 e (omega arith)))
    ∙ all_rise (f ∷ es) (λ k d low. let r = rise (suc k) d (omega arith) in let on : suc k + 1 ≡ suc (k + 1) = omega arith in r ∙ ap (λ n. rises (get_or (f ∷ es) k d) (get_or (e ∷ f ∷ es) n d)) on)

one_falls : (es : List Entry) (k : ℕ) → k + 1 < length es → ((d : Entry) → false ≡ rises (get_or es k d) (get_or es (k + 1) d)) → is_sorted_by_name es ≡ false
one_falls [] k low falls = absurd (omega arith)
one_falls (e ∷ []) k low falls = absurd (omega arith)
one_falls (e ∷ f ∷ es) zero low falls = ap (λ b. b && is_sorted_by_name (f ∷ es)) (sym (falls e))
one_falls (e ∷ f ∷ es) (suc k) low falls =
    ap (λ b. rises e f && b) (one_falls (f ∷ es) k (omega arith) (λ d. let on : suc k + 1 ≡ suc (k + 1) = omega arith in falls d ∙ ap (λ n. rises (get_or (f ∷ es) k d) (get_or (e ∷ f ∷ es) n d)) on))
    ∙ and_false (rises e f)
  where
    and_false : (b : Bool) → (b && false) ≡ false
    and_false true = refl
    and_false false = refl

pub sorted_is : (es : List Entry) (r : Bool) → IsAllAdjacentAnswer (λ e f b. b ≡ is_name_before e.name f.name) es r → r ≡ is_sorted_by_name es
sorted_is es true a = sym (all_rise es (λ k d low. a k d low))
sorted_is es false a = sym (one_falls es a.0 a.1 a.2)
