-- The least low byte at which no owner is in the way, found by going over the owners in the order of their first sectors.
use Rattle.std.proofs.Common.{◌≡◌, ◌<◌, ◌≤◌, ◌&&◌, ◌==◌, ℕ, zero, suc, ◌+◌, ◌-◌, ◌*◌, ◌/◌, ◌%◌, ◌^◌, min, max, Bool, true, false, List, [], ◌∷◌, length, get_or, take, nat_le, refl, sym, ap, ap₂, subst, ◌∙◌, inl, inr, arith, mul-le-mul_right}
use Rattle.std.specs.Prelude.{◌||◌}
use Rattle.std.specs.List.{list_all}
use Rattle.std.specs.List.Sorted.{IsNonDecreasingBy}
use Rattle.std.proofs.lemmas.Bool.{cases_lt, le-leb, leb-true}
use Rattle.std.proofs.lemmas.Grind.{div_ceil_times}
use Rattle.std.proofs.lemmas.List.Folds.{list_all_more}
use Rattle.std.proofs.lemmas.Nat.{pow_pos}
use Rattle.std.proofs.Math.Nat.{add-mul, mul-div_cancel_left}
use Rattle.fc_alloc.specs.declared.owner.Owner.{Owner}
use Rattle.fc_image.specs.Layout.{low_start}
use Rattle.fc_newmap.specs.Map.{Map}
use Rattle.fc_newmap.specs.NewMap.{IsNewMap}
use Rattle.fc_record.specs.declared.Geometry.{Geometry}
use Rattle.fc_placing.specs.Lows.{IsLow, IsPast, is_clear, start_of}
use Rattle.fc_changes.proofs.BasicLemmas.{and_false}

pub not_le : (a b : ℕ) → b < a → nat_le a b ≡ false
not_le a b less = by (nat_le a b) refl
  where
    by : (t : Bool) → nat_le a b ≡ t → t ≡ false
    by true e = absurd (let h = leb-true a b e in omega arith)
    by false e = refl

pub later : (step low k : ℕ) → low ≤ k → start_of step low ≤ start_of step k
later step low k le = mul-le-mul_right step (let e : low - 1 ≤ k - 1 = omega arith in e)

pub later_start : (m : Map) (low k : ℕ) → low ≤ k → low_start m low ≤ low_start m k
later_start m = later (m.geometry.share / m.geometry.sector)

-- ---- one owner

pub or_true : (b : Bool) → (b || true) ≡ true
or_true true = refl
or_true false = refl

-- an owner that is in the way, and what is after it
pub moves : (step need : ℕ) (o : Owner) (low new : ℕ) → is_clear (start_of step low) need o ≡ false → low ≤ new → new ≤ 256 → (new < 256 → o.first + o.sectors ≤ start_of step new)
    → ((k : ℕ) → low ≤ k → k < new → start_of step k < o.first + o.sectors) → IsPast step need o low new
moves step need o low new in_way from byte behind before = record {
  from = from;
  byte = λ b. byte;
  clear = λ b. (
      ap (λ (t : Bool). nat_le (start_of step new + need) o.first || (t || (o.sectors == 0))) (le-leb (o.first + o.sectors) (start_of step new) (behind b))
      ∙ or_true (nat_le (start_of step new + need) o.first));
  least = λ k a b. (
      let after = later step low k a in
      let far : o.first < start_of step k + need = (let h = near_of in omega arith) in
      let short = before k a b in
      ap₂ (λ (s t : Bool). s || (t || (o.sectors == 0))) (not_le (start_of step k + need) o.first far) (not_le (o.first + o.sectors) (start_of step k) short) ∙ some);
  near = λ h. near_of;
}
  where
    near_of : o.first < start_of step low + need
    near_of = by (nat_le (start_of step low + need) o.first) refl in_way
      where
        by : (t : Bool) → nat_le (start_of step low + need) o.first ≡ t → (t || (nat_le (o.first + o.sectors) (start_of step low) || (o.sectors == 0))) ≡ false → o.first < start_of step low + need
        by true e f = absurd (cc)
        by false e f = elim (cases_lt o.first (start_of step low + need)) [ inl less ↦ less | inr more ↦ absurd (let h = le-leb (start_of step low + need) o.first more in let k : true ≡ false = sym h ∙ e in cc) ]

    some : (o.sectors == 0) ≡ false
    some = by (nat_le (start_of step low + need) o.first) (nat_le (o.first + o.sectors) (start_of step low)) (o.sectors == 0) in_way
      where
        by : (a b t : Bool) → (a || (b || t)) ≡ false → t ≡ false
        by true b t f = absurd (cc)
        by false true t f = absurd (cc)
        by false false t f = f

-- the low byte at which so many sectors are behind, by a division
pub behind : (step low end new : ℕ) → 0 < step → 0 < low → new ≡ max low (min (end / step + min 1 (end % step)) 255 + 1)
    → (new < 256 → end ≤ start_of step new) × ((k : ℕ) → low ≤ k → k < new → start_of step k < end)
behind step low end new some from is =
    let steps : ℕ = end / step + min 1 (end % step) in
    let times = div_ceil_times end step some in (
      λ b. (let le : steps ≤ new - 1 = omega arith in let far = mul-le-mul_right step le in let h = times.0 in omega arith),
      λ k a b. (
          let le : k - 1 + 1 ≤ steps = omega arith in
          let near = mul-le-mul_right step le in
          let one = add-mul (k - 1) 1 step in
          let h = times.1 in omega arith),
    )

-- ---- some owners

-- an owner that begins before one that was in the way is not in the way later, if it was not before
kept_one : (need f f' bound : ℕ) (x : Owner) → x.first ≤ bound → bound < f + need → f ≤ f' → is_clear f need x ≡ true → is_clear f' need x ≡ true
kept_one need f f' bound x before near le e = by (nat_le (f + need) x.first) refl (nat_le (x.first + x.sectors) f) refl e
  where
    by : (a : Bool) → nat_le (f + need) x.first ≡ a → (b : Bool) → nat_le (x.first + x.sectors) f ≡ b → (a || (b || (x.sectors == 0))) ≡ true
        → (nat_le (f' + need) x.first || (nat_le (x.first + x.sectors) f' || (x.sectors == 0))) ≡ true
    by true ea b eb h = absurd (let k = leb-true (f + need) x.first ea in omega arith)
    by false ea true eb h =
        ap (λ (t : Bool). nat_le (f' + need) x.first || (t || (x.sectors == 0))) (le-leb (x.first + x.sectors) f' (let k = leb-true (x.first + x.sectors) f eb in omega arith))
        ∙ or_true (nat_le (f' + need) x.first)
    by false ea false eb h =
        ap (λ (t : Bool). nat_le (f' + need) x.first || (nat_le (x.first + x.sectors) f' || t)) h
        ∙ ap (λ (t : Bool). nat_le (f' + need) x.first || t) (or_true (nat_le (x.first + x.sectors) f'))
        ∙ or_true (nat_le (f' + need) x.first)

kept : (need f f' bound : ℕ) (d : Owner) (xs : List Owner) (i : ℕ) → ((j : ℕ) → j < i → j < length xs → (get_or xs j d).first ≤ bound) → bound < f + need → f ≤ f'
    → list_all (is_clear f need) (take i xs) ≡ true → list_all (is_clear f' need) (take i xs) ≡ true
kept need f f' bound d [] zero before near le e = refl
kept need f f' bound d [] (suc i) before near le e = refl
kept need f f' bound d (x ∷ xs) zero before near le e = refl
kept need f f' bound d (x ∷ xs) (suc i) before near le e =
    let first : x.first ≤ bound = before 0 (omega arith) (omega arith) in
    let both = parts (is_clear f need x) (list_all (is_clear f need) (take i xs)) e in
    ap₂ (λ (a b : Bool). a && b) (kept_one need f f' bound x first near le both.0) (kept need f f' bound d xs i (λ j a b. before (suc j) (omega arith) (omega arith)) near le both.1)
  where
    parts : (a b : Bool) → (a && b) ≡ true → (a ≡ true) × (b ≡ true)
    parts true true h = (refl, refl)
    parts true false h = absurd (cc)
    parts false b h = absurd (cc)

-- ---- an owner more

-- low bytes begin one sector or more after one another
pub some_step : (m : Map) → IsNewMap m → 0 < m.geometry.share / m.geometry.sector
some_step m is =
    let r = is.of_record in
    subst (λ (g : Geometry). 0 < g.share / g.sector) r.1.1 (by r.0.log2_sector r.0.log2_share)
  where
    by : (s k : ℕ) → 0 < 2 ^ s * 2 ^ k / 2 ^ s
    by s k = subst (λ (n : ℕ). 0 < n) (sym (mul-div_cancel_left (2 ^ k) (pow_pos s))) (pow_pos k)

-- before the first owner
pub set_off : (m : Map) (need : ℕ) (owners : List Owner) → IsLow m need (take 0 owners) 1
set_off m need [] = record { from = omega arith; byte = omega arith; clear = λ b. refl; least = λ k a b. absurd (omega arith) }
set_off m need (o ∷ owners) = record { from = omega arith; byte = omega arith; clear = λ b. refl; least = λ k a b. absurd (omega arith) }

module _ (m : Map) (need : ℕ) (xs : List Owner) (i : ℕ) (o : Owner) (in' : i < length xs) (is : get_or xs i o ≡ o) where
  abbrev free : ℕ → ℕ → Bool
  free k n = list_all (is_clear (low_start m k) need) (take n xs)

  more : (k : ℕ) → free k (i + 1) ≡ (free k i && is_clear (low_start m k) need o)
  more k = list_all_more (is_clear (low_start m k) need) xs i o in' ∙ ap (λ (x : Owner). free k i && is_clear (low_start m k) need x) is

  pub goes_on : (low new : ℕ) → IsNonDecreasingBy (λ (x : Owner). x.first) xs → IsPast (m.geometry.share / m.geometry.sector) need o low new → IsLow m need (take i xs) low → IsLow m need (take (i + 1) xs) new
  goes_on low new sorted past is_low = record {
    from = (let f = past.from in let g = is_low.from in omega arith);
    byte = past.byte is_low.byte;
    clear = λ b. more new ∙ ap₂ (λ (s t : Bool). s && t) (before b) (past.clear b);
    least = λ k a b. more k ∙ elim (cases_lt k low) [
      | inl early ↦ ap (λ (t : Bool). t && is_clear (low_start m k) need o) (is_low.least k a early)
      | inr late ↦ ap (λ (t : Bool). free k i && t) (past.least k late b) ∙ and_false (free k i)
    ];
  }
    where
      before : new < 256 → free new i ≡ true
      before b = elim (cases_lt low new) [
        | inl moved ↦
            kept need (low_start m low) (low_start m new) o.first o xs i (λ j a c. (let h = sorted j i o (omega arith) in' in let e = ap (λ (x : Owner). x.first) is in omega arith)) (past.near moved)
            (later_start m low new past.from) (is_low.clear (omega (arith, past.from)))
        | inr stayed ↦ (let e : low ≡ new = (let f = past.from in omega arith) in subst (λ (k : ℕ). free k i ≡ true) e (is_low.clear (omega arith)))
      ]
