-- Holes as units and as sectors: what taking and giving do to them.
use Rattle.std.proofs.Common.{◌≡◌, ◌<◌, ◌≤◌, ◌⊎◌, inl, inr, ⊎_elim, ℕ, ◌+◌, ◌-◌, ◌*◌, ◌/◌, ◌%◌, Bool, true, false, cond, List, [], ◌∷◌, ◌++◌, refl, sym, subst, arith, Some}
use Rattle.std.specs.Prelude.{Ok, Err, nat_le, nat_lt, ◌==◌}
use Rattle.std.specs.List.{flat_map}
use Rattle.std.proofs.lemmas.Bool.{eqb-true, leb-true, ltb-true, ltb-false}
use Rattle.fc_newmap.proofs.PlaceLemmas.{in_back, in_either, in_front}
use Rattle.fc_oldmap.specs.declared.Hole.{Hole}
use Rattle.fc_oldmap.specs.Holes.{AreHoles, IsHole, after_give, after_take, first_fit_place, hole, hole_end, rest_after_take}
use Rattle.fc_image.specs.Layout.{hole_sectors_in, is_among}
use Rattle.fc_image.proofs.EntriesLemmas.{same_some}
use Rattle.fc_image.proofs.FreeLemmas.{among_range, range_bounds}

-- the unit lies in the hole
abbrev pub IsIn : Hole → ℕ → Type 0
IsIn h n = (h.start ≤ n) × (n < hole_end h)

-- the unit lies in one of the holes
abbrev pub IsInOne : List Hole → ℕ → Type 0
IsInOne [] n = ⊥
IsInOne (h ∷ holes) n = IsIn h n ⊎ IsInOne holes n

-- ---- giving

pub in_given : (x : Hole) (holes : List Hole) (n : ℕ) → IsInOne (after_give x holes) n → IsIn x n ⊎ IsInOne holes n
unfolding after_give
in_given x [] n i = i
in_given x (h ∷ holes) n i =
    by (nat_lt (hole_end h) x.start) (hole_end h == x.start) (hole_end x == h.start) refl refl i (in_given x holes n) (in_given (hole h.start (h.len + x.len)) holes n)
  where
    joined : hole_end h ≡ x.start → IsIn (hole h.start (h.len + x.len)) n ⊎ IsInOne holes n → IsIn x n ⊎ IsInOne (h ∷ holes) n
    joined touch (inr later) = inr (inr later)
    joined touch (inl here) = by_place (nat_lt n (hole_end h)) refl
      where
        by_place : (b : Bool) → nat_lt n (hole_end h) ≡ b → IsIn x n ⊎ IsInOne (h ∷ holes) n
        by_place true e = inr (inl (here.0, ltb-true n (hole_end h) e))
        by_place false e = inl (let low = ltb-false n (hole_end h) e in (omega (arith, low, touch), omega (arith, here.1, touch)))

    front : hole_end x ≡ h.start → IsIn (hole x.start (x.len + h.len)) n ⊎ IsInOne holes n → IsIn x n ⊎ IsInOne (h ∷ holes) n
    front touch (inr later) = inr (inr later)
    front touch (inl here) = by_place (nat_lt n (hole_end x)) refl
      where
        by_place : (b : Bool) → nat_lt n (hole_end x) ≡ b → IsIn x n ⊎ IsInOne (h ∷ holes) n
        by_place true e = inl (here.0, ltb-true n (hole_end x) e)
        by_place false e = inr (inl (let low = ltb-false n (hole_end x) e in (omega (arith, low, touch), omega (arith, here.1, touch))))

    past : (IsInOne (after_give x holes) n → IsIn x n ⊎ IsInOne holes n) → IsIn h n ⊎ IsInOne (after_give x holes) n → IsIn x n ⊎ IsInOne (h ∷ holes) n
    past more (inl here) = inr (inl here)
    past more (inr later) = ⊎_elim (λ a. inl a) (λ b. inr (inr b)) (more later)

    by : (a b c : Bool) → (hole_end h == x.start) ≡ b → (hole_end x == h.start) ≡ c
        → IsInOne (cond a (h ∷ after_give x holes) (cond b (after_give (hole h.start (h.len + x.len)) holes) (cond c (hole x.start (x.len + h.len) ∷ holes) (x ∷ h ∷ holes)))) n
        → (IsInOne (after_give x holes) n → IsIn x n ⊎ IsInOne holes n)
        → (IsInOne (after_give (hole h.start (h.len + x.len)) holes) n → IsIn (hole h.start (h.len + x.len)) n ⊎ IsInOne holes n) → IsIn x n ⊎ IsInOne (h ∷ holes) n
    by true b c e f j more wide = past more j
    by false true c e f j more wide = joined (eqb-true (hole_end h) x.start e) (wide j)
    by false false true e f j more wide = front (eqb-true (hole_end x) h.start f) j
    by false false false e f j more wide = j

-- ---- taking

pub in_left : (k : ℕ) (holes : List Hole) (n : ℕ) → IsInOne (after_take k holes) n → IsInOne holes n
unfolding after_take
in_left k [] n i = i
in_left k (h ∷ holes) n i = by (nat_le k h.len) refl i (in_left k holes n)
  where
    rest : (b : Bool) → k ≤ h.len → IsInOne (cond b [] (hole (h.start + k) (h.len - k) ∷ []) ++ holes) n → IsInOne (h ∷ holes) n
    rest true low j = inr j
    rest false low (inl here) = inl (omega (arith, here.0), omega (arith, here.1, low))
    rest false low (inr later) = inr later

    by : (b : Bool) → nat_le k h.len ≡ b → IsInOne (cond b (rest_after_take h k ++ holes) (h ∷ after_take k holes)) n → (IsInOne (after_take k holes) n → IsInOne holes n) → IsInOne (h ∷ holes) n
    by true e j more = rest (h.len == k) (leb-true k h.len e) j
    by false e (inl here) more = inl here
    by false e (inr later) more = inr (more later)

-- no unit lies below the floor
pub above_floor : (d u floor : ℕ) (holes : List Hole) (n : ℕ) → AreHoles d u floor holes → IsInOne holes n → floor ≤ n
above_floor d u floor [] n are i = absurd i
above_floor d u floor (h ∷ holes) n are (inl here) = let on = are.0.onward in omega (arith, on, here.0)
above_floor d u floor (h ∷ holes) n are (inr later) =
    let more = above_floor d u (hole_end h) holes n are.1 later in let on = are.0.onward in omega (arith, on, more)

pub below_end : (d u floor : ℕ) (holes : List Hole) (n : ℕ) → AreHoles d u floor holes → IsInOne holes n → n < d
below_end d u floor [] n are i = absurd i
below_end d u floor (h ∷ holes) n are (inl here) = let on = are.0.inside in omega (arith, on, here.1)
below_end d u floor (h ∷ holes) n are (inr later) = below_end d u (hole_end h) holes n are.1 later

fit_above : (d u floor k a : ℕ) (holes : List Hole) → AreHoles d u floor holes → first_fit_place k holes ≡ Some a → floor ≤ a
unfolding first_fit_place
fit_above d u floor k a [] are e = absurd (cc)
fit_above d u floor k a (h ∷ holes) are e = by (nat_le k h.len) e (fit_above d u (hole_end h) k a holes are.1)
  where
    by : (b : Bool) → cond b (Some h.start) (first_fit_place k holes) ≡ Some a → (first_fit_place k holes ≡ Some a → hole_end h ≤ a) → floor ≤ a
    by true f more = (let is = same_some h.start a f in let on = are.0.onward in omega (arith, is, on))
    by false f more = (let far = more f in let on = are.0.onward in omega (arith, far, on))

-- what is taken lay in a hole, and lies in none afterwards
pub taken_in : (d u floor k a : ℕ) (holes : List Hole) (n : ℕ) → AreHoles d u floor holes → first_fit_place k holes ≡ Some a → a ≤ n → n < a + k
    → IsInOne holes n × (IsInOne (after_take k holes) n → ⊥)
unfolding first_fit_place after_take
taken_in d u floor k a [] n are e low high = absurd (cc)
taken_in d u floor k a (h ∷ holes) n are e low high = by (nat_le k h.len) refl e (λ f. taken_in d u (hole_end h) k a holes n are.1 f low high)
  where
    rest : (b : Bool) → h.start ≡ a → k ≤ h.len → IsInOne (cond b [] (hole (h.start + k) (h.len - k) ∷ []) ++ holes) n → ⊥
    rest true is fits j = (let more = above_floor d u (hole_end h) holes n are.1 j in omega (arith, more, is, fits, high))
    rest false is fits (inl here) = omega (arith, here.0, is, high)
    rest false is fits (inr later) = (let more = above_floor d u (hole_end h) holes n are.1 later in omega (arith, more, is, fits, high))

    by : (b : Bool) → nat_le k h.len ≡ b → cond b (Some h.start) (first_fit_place k holes) ≡ Some a
        → (first_fit_place k holes ≡ Some a → IsInOne holes n × (IsInOne (after_take k holes) n → ⊥))
        → IsInOne (h ∷ holes) n × (IsInOne (cond b (rest_after_take h k ++ holes) (h ∷ after_take k holes)) n → ⊥)
    by true t f more =
        let is = same_some h.start a f in let fits = leb-true k h.len t in
        (inl (omega (arith, is, low), omega (arith, is, high, fits)), rest (h.len == k) is fits)
    by false t f more =
        let r = more f in let far = fit_above d u (hole_end h) k a holes are.1 f in
        (inr r.0, λ j. ⊎_elim (λ here. let x = here.1 in omega (arith, x, far, low)) r.1 j)

-- ---- sectors

module _ (u : ℕ) (units : (u ≡ 1) ⊎ (u ≡ 4)) where
  in_row : (start len s : ℕ) → start % u ≡ 0 → (start + len) % u ≡ 0 → start / u ≤ s → s < start / u + len / u → (start ≤ u * s) × (u * s < start + len)
  in_row start len s a b low high = ⊎_elim
      (λ e. subst (λ (v : ℕ). start % v ≡ 0 → (start + len) % v ≡ 0 → start / v ≤ s → s < start / v + len / v → (start ≤ v * s) × (v * s < start + len)) (sym e)
      (λ w x y z. (omega (arith, y), omega (arith, z))) a b low high)
      (λ e. subst (λ (v : ℕ). start % v ≡ 0 → (start + len) % v ≡ 0 → start / v ≤ s → s < start / v + len / v → (start ≤ v * s) × (v * s < start + len)) (sym e)
      (λ w x y z. (omega (arith, w, y), omega (arith, w, x, z))) a b low high) units

  of_row : (start len s : ℕ) → start % u ≡ 0 → (start + len) % u ≡ 0 → start ≤ u * s → u * s < start + len → (start / u ≤ s) × (s < start / u + len / u)
  of_row start len s a b low high = ⊎_elim
      (λ e. subst (λ (v : ℕ). start % v ≡ 0 → (start + len) % v ≡ 0 → start ≤ v * s → v * s < start + len → (start / v ≤ s) × (s < start / v + len / v)) (sym e)
      (λ w x y z. (omega (arith, y), omega (arith, z))) a b low high)
      (λ e. subst (λ (v : ℕ). start % v ≡ 0 → (start + len) % v ≡ 0 → start ≤ v * s → v * s < start + len → (start / v ≤ s) × (s < start / v + len / v)) (sym e)
      (λ w x y z. (omega (arith, w, y), omega (arith, w, x, z))) a b low high) units

  -- a sector of a hole, by its first unit
  pub hole_units : (d floor : ℕ) (h : Hole) (s : ℕ) → IsHole d u floor h → is_among (hole_sectors_in u h) s ≡ true → IsIn h (u * s)
  hole_units d floor h s is i = let b = range_bounds (h.start / u) (h.len / u) s i in in_row h.start h.len s is.begins is.ends b.0 b.1

  pub hole_of_units : (d floor : ℕ) (h : Hole) (s : ℕ) → IsHole d u floor h → IsIn h (u * s) → is_among (hole_sectors_in u h) s ≡ true
  hole_of_units d floor h s is i = let b = of_row h.start h.len s is.begins is.ends i.0 i.1 in among_range (h.start / u) (h.len / u) s b.0 b.1

  pub units_in : (d floor : ℕ) (holes : List Hole) (s : ℕ) → AreHoles d u floor holes → is_among (flat_map (hole_sectors_in u) holes) s ≡ true → IsInOne holes (u * s)
  units_in d floor [] s are i = absurd (cc)
  units_in d floor (h ∷ holes) s are i = elim (in_either (hole_sectors_in u h) (flat_map (hole_sectors_in u) holes) s i) [
    | Ok first ↦ inl (hole_units d floor h s are.0 first)
    | Err second ↦ inr (units_in d (hole_end h) holes s are.1 second)
  ]

  pub in_units : (d floor : ℕ) (holes : List Hole) (s : ℕ) → AreHoles d u floor holes → IsInOne holes (u * s) → is_among (flat_map (hole_sectors_in u) holes) s ≡ true
  in_units d floor [] s are i = absurd i
  in_units d floor (h ∷ holes) s are (inl here) = in_front (hole_sectors_in u h) (flat_map (hole_sectors_in u) holes) s (hole_of_units d floor h s are.0 here)
  in_units d floor (h ∷ holes) s are (inr later) = in_back (hole_sectors_in u h) (flat_map (hole_sectors_in u) holes) s (in_units d (hole_end h) holes s are.1 later)
