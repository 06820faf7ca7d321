-- Runs and those that follow them.
use Rattle.std.proofs.Common.{◌≡◌, Bool, true, false, List, [], ◌∷◌, ◌++◌, refl, ap, ◌∙◌}
use Rattle.std.specs.Prelude.{◌&&◌}
use Rattle.fc_zone.specs.declared.Run.{Run}
use Rattle.fc_image.specs.effects.Settled.{passes_adjacent}

-- one more is done
pub adjacent_more : (f : Run → Run → Bool) (front : List Run) (last next : Run) → passes_adjacent f (front ++ last ∷ []) ≡ true → f last next ≡ true → passes_adjacent f ((front ++ last ∷ []) ++ next ∷ []) ≡ true
adjacent_more f [] last next was e = ap (λ b. b && true) e
adjacent_more f (x ∷ []) last next was e = by (f x last) (f last next) was e
  where
    by : (a b : Bool) → (a && true) ≡ true → b ≡ true → (a && (b && true)) ≡ true
    by true true p q = refl
    by true false p q = absurd (cc)
    by false b p q = absurd (cc)
adjacent_more f (x ∷ (y ∷ front)) last next was e = by (f x y) was (λ w. adjacent_more f (y ∷ front) last next w e)
  where
    by : (a : Bool) → (a && passes_adjacent f ((y ∷ front) ++ last ∷ [])) ≡ true → (passes_adjacent f ((y ∷ front) ++ last ∷ []) ≡ true → passes_adjacent f (((y ∷ front) ++ last ∷ []) ++ next ∷ []) ≡ true)
        → (a && passes_adjacent f (((y ∷ front) ++ last ∷ []) ++ next ∷ [])) ≡ true
    by true p more = more p
    by false p more = absurd (cc)

-- one pair fails
pub adjacent_fails : (f : Run → Run → Bool) (front : List Run) (run next : Run) (rest : List Run) → f run next ≡ false → passes_adjacent f (front ++ run ∷ (next ∷ rest)) ≡ false
adjacent_fails f [] run next rest e = ap (λ b. b && passes_adjacent f (next ∷ rest)) e
adjacent_fails f (x ∷ []) run next rest e = ap (λ b. f x run && b) (adjacent_fails f [] run next rest e) ∙ and_false (f x run)
  where
    and_false : (b : Bool) → (b && false) ≡ false
    and_false true = refl
    and_false false = refl
adjacent_fails f (x ∷ (y ∷ front)) run next rest e = ap (λ b. f x y && b) (adjacent_fails f (y ∷ front) run next rest e) ∙ and_false (f x y)
  where
    and_false : (b : Bool) → (b && false) ≡ false
    and_false true = refl
    and_false false = refl
