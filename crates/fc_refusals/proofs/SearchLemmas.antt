-- The first element that passes a test.
use Rattle.std.proofs.Common.{◌≡◌, ◌<◌, ℕ, Bool, true, false, cond, List, [], ◌∷◌, length, get_or, position, nat_lt, Some, None, refl, sym, ap, ◌∙◌, arith}
use Rattle.std.specs.Prelude.{Contains, slice_get}
use Rattle.std.specs.List.{position_or_len}
use Rattle.std.proofs.lemmas.List.Sums.{fails_before_first}
use Rattle.std.proofs.lemmas.List.Quantifiers.{position-Some}
use Rattle.std.proofs.lemmas.Option.{slice_get-get_or}
use Rattle.std.proofs.lemmas.Bool.Decides.{nat_tests}

-- what stands at the place that is found passes
pub passes_there : {X : Type 0} (p : X → Bool) (xs : List X) (i : ℕ) → position p xs ≡ Some i → (x : X) × (slice_get xs i ≡ Some x) × (p x ≡ true)
passes_there p [] i e = let f = position-Some p [] i in absurd (cc)
passes_there p (y ∷ ys) i e =
    let f = position-Some p (y ∷ ys) i y e in
    (get_or (y ∷ ys) i y, slice_get-get_or (y ∷ ys) i y f.0, f.1)

-- if none is found, none passes
pub none_passes : {X : Type 0} (p : X → Bool) (xs : List X) (x : X) → position p xs ≡ None → Contains xs x → p x ≡ false
none_passes p xs x e at =
    let low : at.0 < position_or_len p xs = by (nat_lt (position_or_len p xs) (length xs)) refl e in
    ap p (sym at.2) ∙ fails_before_first p xs at.0 x low
  where
    by : (b : Bool) → nat_lt (position_or_len p xs) (length xs) ≡ b → cond b (Some (position_or_len p xs)) None ≡ None → at.0 < position_or_len p xs
    by true h none = absurd (cc)
    by false h none = let within = at.1 in grind (arith, nat_tests, h, within)
