use Rattle.std.proofs.Common.{◌≡◌, ◌≤◌, ℕ, zero, suc, Bool, true, false, List, [], ◌∷◌, length, refl, inl, inr, arith, Contains}
use Rattle.std.proofs.lemmas.List.Elements.{All-contains, All-from_recursion}
use Rattle.std.specs.List.{AllPairs, count_by}
use Rattle.fc_newmap.specs.Map.{ZoneRun}
use Rattle.fc_image.specs.effects.Placed.{BeginsBefore, HasRunLength, IsFront, IsTaken, chosen_bits, stands_at}
use Rattle.fc_image.specs.effects.PlacingRows.{hole_at, narrow, two, three}
use Rattle.fc_image.proofs.effects.placing_rows.Goals as goal

front_whole : (holes : List ZoneRun) (hole : ZoneRun) → Contains holes hole → stands_at hole hole ≡ true → (h : ZoneRun) × Contains holes h × IsFront narrow h hole
front_whole holes hole held same = (hole, held, record { at_front = same; within = omega arith; rest = inl refl })

two_fewest : (flags : List Bool) → length flags ≡ length two → 20 ≤ chosen_bits flags two → 2 ≤ count_by (λ b. b) flags
two_fewest [] long enough = absurd (omega (arith, long))
two_fewest (a ∷ []) long enough = absurd (omega (arith, long))
two_fewest (true ∷ true ∷ []) long enough = omega arith
two_fewest (true ∷ false ∷ []) long enough = absurd (omega (arith, enough))
two_fewest (false ∷ true ∷ []) long enough = absurd (omega (arith, enough))
two_fewest (false ∷ false ∷ []) long enough = absurd (omega (arith, enough))
two_fewest (a ∷ b ∷ c ∷ flags) long enough = absurd (omega (arith, long))

three_fewest : (flags : List Bool) → length flags ≡ length three → 70 ≤ chosen_bits flags three → 2 ≤ count_by (λ b. b) flags
three_fewest [] long enough = absurd (omega (arith, long))
three_fewest (a ∷ []) long enough = absurd (omega (arith, long))
three_fewest (a ∷ b ∷ []) long enough = absurd (omega (arith, long))
three_fewest (true ∷ true ∷ true ∷ []) long enough = omega arith
three_fewest (true ∷ true ∷ false ∷ []) long enough = omega arith
three_fewest (true ∷ false ∷ true ∷ []) long enough = omega arith
three_fewest (false ∷ true ∷ true ∷ []) long enough = omega arith
three_fewest (true ∷ false ∷ false ∷ []) long enough = absurd (omega (arith, enough))
three_fewest (false ∷ true ∷ false ∷ []) long enough = absurd (omega (arith, enough))
three_fewest (false ∷ false ∷ true ∷ []) long enough = absurd (omega (arith, enough))
three_fewest (false ∷ false ∷ false ∷ []) long enough = absurd (omega (arith, enough))
three_fewest (a ∷ b ∷ c ∷ d ∷ flags) long enough = absurd (omega (arith, long))

both_taken : IsTaken narrow two 20 two
both_taken = record {
  fronts = All-from_recursion (λ (part : ZoneRun). (h : ZoneRun) × Contains two h × IsFront narrow h part) two (
    front_whole two (hole_at 32 18) (0, omega arith, refl) refl,
    (front_whole two (hole_at 96 18) (1, omega arith, refl) refl, tt),
  );
  enough = omega arith;
  few_more = omega arith;
  fewest = record { some = (true ∷ true ∷ [], refl, refl, omega arith); no_fewer = two_fewest };
}

rise : AllPairs BeginsBefore two
rise zero zero d less within = absurd (omega (arith, less))
rise zero (suc zero) d less within = inr (refl, omega arith)
rise zero (suc (suc j)) d less within = absurd (omega (arith, within))
rise (suc i) j d less within = absurd (omega (arith, less, within))

not_before : (a b : ℕ) → b ≤ a → BeginsBefore (hole_at a 18) (hole_at b 18) → ⊥
not_before a b le (inl zone) = omega (arith, zone)
not_before a b le (inr same) = omega (arith, le, same.1)

pub returns : goal.returns
returns c = record {
  needs = refl;
  least = refl;
  whole = refl;
  both = both_taken;
  long_and_one = record {
    fronts = All-from_recursion (λ (part : ZoneRun). (h : ZoneRun) × Contains three h × IsFront narrow h part) (hole_at 160 64 ∷ hole_at 32 16 ∷ []) (
      front_whole three (hole_at 160 64) (2, omega arith, refl) refl,
      (front_whole three (hole_at 32 16) (0, omega arith, refl) refl, tt),
    );
    enough = omega arith;
    few_more = omega arith;
    fewest = record { some = (true ∷ false ∷ true ∷ [], refl, refl, omega arith); no_fewer = three_fewest };
  };
  planned = record {
    taken = both_taken;
    long = All-from_recursion (HasRunLength narrow) two ((omega arith, refl), ((omega arith, refl), tt));
    rising = rise;
  };
  short_part = λ p. (let clash : 16 ≤ 2 = (All-contains (HasRunLength narrow) (hole_at 32 18 ∷ hole_at 96 2 ∷ []) (hole_at 96 2) p.long (1, omega arith, refl)).0 in absurd (omega (arith, clash)));
  half_sector = λ p. (let clash : 1 ≡ 0 = (All-contains (HasRunLength narrow) (hole_at 160 17 ∷ []) (hole_at 160 17) p.long (0, omega arith, refl)).1 in absurd (cc));
  twice_is_taken = record {
    fronts = All-from_recursion (λ (part : ZoneRun). (h : ZoneRun) × Contains two h × IsFront narrow h part) (hole_at 32 18 ∷ hole_at 32 18 ∷ []) (
      front_whole two (hole_at 32 18) (0, omega arith, refl) refl,
      (front_whole two (hole_at 32 18) (0, omega arith, refl) refl, tt),
    );
    enough = omega arith;
    few_more = omega arith;
    fewest = record { some = (true ∷ true ∷ [], refl, refl, omega arith); no_fewer = two_fewest };
  };
  twice = λ p. not_before 32 32 (omega arith) (p.rising 0 1 (hole_at 32 18) (omega arith) (omega arith));
  falling = λ p. not_before 96 32 (omega arith) (p.rising 0 1 (hole_at 32 18) (omega arith) (omega arith));
}
