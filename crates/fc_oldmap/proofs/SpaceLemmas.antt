-- Rising holes, and what stays of that when space is taken, given, moved and joined.
use Rattle.std.proofs.Common.{◌≡◌, ℕ, zero, suc, ◌+◌, ◌-◌, ◌*◌, ◌/◌, ◌%◌, ◌<◌, ◌≤◌, ◌^◌, Bool, true, false, cond, List, [], ◌∷◌, ◌++◌, length, slice_set, slice_index_or, slice_get, refl, sym, ap, ◌∙◌, subst, arith, Some, Option}
use Rattle.std.specs.Prelude.{◌==◌, nat_le, All}
use Rattle.std.proofs.lemmas.Bool.{leb-true, eqb-true, eqb-false}
use Rattle.std.proofs.Math.Nat.{mod-add-div', add-mul, add-mul-mod_self_right, zero-mod}
use Rattle.std.proofs.lemmas.Option.{slice_get_within, get_or_from_slice_get}
use Rattle.fc_oldmap.specs.declared.Hole.{Hole}
use Rattle.fc_oldmap.specs.Holes.{hole, hole_end, hole_sum, rest_after_take, after_take, joined_with, joined_at, tidied, IsHole, AreHoles, AreOfSomeDisc}
use Rattle.fc_oldmap.proofs.HoleLemmas.{sum-cons}

-- a sum of two multiples
pub mod-sum : (s a b : ℕ) → a % s ≡ 0 → b % s ≡ 0 → (a + b) % s ≡ 0
mod-sum s a b ha hb =
    let ea = mod-add-div' a s in
    let eb = mod-add-div' b s in
    let e : a + b ≡ 0 + (a / s + b / s) * s = rw (add-mul (a / s) (b / s) s) (omega (arith, ea, eb, ha, hb)) in
    ap (λ (n : ℕ). n % s) e ∙ add-mul-mod_self_right 0 (a / s + b / s) s ∙ zero-mod s

-- the first floor may be lower
pub AreHoles-lower : (d s from to : ℕ) (holes : List Hole) → to ≤ from → AreHoles d s from holes → AreHoles d s to holes
AreHoles-lower d s from to [] le h = tt
AreHoles-lower d s from to (x ∷ holes) le (h, rest) =
    (record { positive = h.positive; onward = omega (arith, h.onward); inside = h.inside; begins = h.begins; ends = h.ends }, rest)

-- every hole ends inside the disc
pub end-inside : (d s floor : ℕ) (holes : List Hole) → AreHoles d s floor holes → (k : ℕ) (e : Hole) → k < length holes
    → hole_end (slice_index_or holes k e) ≤ d
end-inside d s floor [] h k e within = absurd (omega arith)
end-inside d s floor (x ∷ holes) (h, rest) zero e within = h.inside
end-inside d s floor (x ∷ holes) (h, rest) (suc k) e within = end-inside d s (hole_end x) holes rest k e (omega arith)

-- the sum of holes lies in the disc
pub sum-inside : (d s floor : ℕ) (holes : List Hole) → floor ≤ d → AreHoles d s floor holes → floor + hole_sum holes ≤ d
sum-inside d s floor [] le h = omega arith
sum-inside d s floor (x ∷ holes) le (h, rest) =
    omega (arith, sum-cons x holes, h.onward, sum-inside d s (hole_end x) holes h.inside rest)

-- a hole joined with the next
pub AreHoles-joined_with : (d s floor : ℕ) (x : Hole) (holes : List Hole) → IsHole d s floor x → AreHoles d s (hole_end x) holes
    → AreHoles d s floor (joined_with x holes)
AreHoles-joined_with d s floor x [] h rest = (h, tt)
AreHoles-joined_with d s floor x (y ∷ holes) h (g, rest) = by (hole_end x == y.start) refl
  where
    by : (b : Bool) → (hole_end x == y.start) ≡ b → AreHoles d s floor (cond b (hole x.start (x.len + y.len) ∷ holes) (x ∷ y ∷ holes))
    by true e =
        let touch = eqb-true (hole_end x) y.start e in
        let same : hole_end y ≡ hole_end (hole x.start (x.len + y.len)) = omega arith in
        let ends : hole_end (hole x.start (x.len + y.len)) % s ≡ 0 = subst (λ (n : ℕ). n % s ≡ 0) same g.ends in
        let A : ℕ → Type 0 = λ n. AreHoles d s n holes in
        (record { positive = omega (arith, h.positive); onward = h.onward; inside = omega (arith, g.inside); begins = h.begins; ends = ends }, subst A same rest)
    by false e = (h, (g, rest))

pub AreHoles-tidied : (d s floor : ℕ) (holes : List Hole) → AreHoles d s floor holes → AreHoles d s floor (tidied holes)
unfolding tidied
AreHoles-tidied d s floor [] h = tt
AreHoles-tidied d s floor (x ∷ holes) (h, rest) = AreHoles-joined_with d s floor x (tidied holes) h (AreHoles-tidied d s (hole_end x) holes rest)

-- what stays of a hole
AreHoles-rest : (d s floor n : ℕ) (x : Hole) (holes : List Hole) → n % s ≡ 0 → n ≤ x.len → IsHole d s floor x
    → AreHoles d s (hole_end x) holes → AreHoles d s floor (rest_after_take x n ++ holes)
AreHoles-rest d s floor n x holes whole fits h rest = by (x.len == n) refl
  where
    by : (b : Bool) → (x.len == n) ≡ b → AreHoles d s floor (cond b [] (hole (x.start + n) (x.len - n) ∷ []) ++ holes)
    by true e = AreHoles-lower d s (hole_end x) floor holes (omega (arith, h.onward)) rest
    by false e =
        let same : hole_end x ≡ hole_end (hole (x.start + n) (x.len - n)) = omega arith in
        let A : ℕ → Type 0 = λ m. AreHoles d s m holes in
        (record { positive = omega (arith, eqb-false x.len n e, fits); onward = omega (arith, h.onward); inside = omega (arith, h.inside); begins = mod-sum s x.start n h.begins whole; ends = subst (λ (m : ℕ). m % s ≡ 0) same h.ends }, subst A same rest)

pub AreHoles-after_take : (d s floor n : ℕ) (holes : List Hole) → n % s ≡ 0 → AreHoles d s floor holes → AreHoles d s floor (after_take n holes)
unfolding after_take
AreHoles-after_take d s floor n [] whole h = tt
AreHoles-after_take d s floor n (x ∷ holes) whole (h, rest) = by (nat_le n x.len) refl (AreHoles-after_take d s (hole_end x) n holes whole rest)
  where
    by : (b : Bool) → nat_le n x.len ≡ b → AreHoles d s (hole_end x) (after_take n holes)
        → AreHoles d s floor (cond b (rest_after_take x n ++ holes) (x ∷ after_take n holes))
    by true e r = AreHoles-rest d s floor n x holes whole (leb-true n x.len e) h rest
    by false e r = (h, r)

-- each unit of holes of a disc, and each end, fits 32 bits
pub ends_fit : (holes seen : List Hole) → AreOfSomeDisc holes → seen ≡ holes → All (λ h. hole_end h < 2 ^ 32) seen
ends_fit holes seen of same =
    let All_fit : List Hole → Type 0 = λ l. All (λ h. hole_end h < 2 ^ 32) l in
    subst All_fit (sym same) (λ k e l. omega (arith, end-inside of.disc_units of.sector_units 0 holes of.are_holes k e l, of.small))

-- holes stay such where two of them are joined
pub AreHoles-joined_at : (d s floor i : ℕ) (holes : List Hole) → AreHoles d s floor holes → AreHoles d s floor (joined_at i holes)
unfolding joined_at
AreHoles-joined_at d s floor i [] h = tt
AreHoles-joined_at d s floor zero (x ∷ holes) (h, rest) = AreHoles-joined_with d s floor x holes h rest
AreHoles-joined_at d s floor (suc i) (x ∷ holes) (h, rest) = (h, AreHoles-joined_at d s (hole_end x) i holes rest)

pub AreOfSomeDisc-joined_at : (i : ℕ) (holes : List Hole) → AreOfSomeDisc holes → AreOfSomeDisc (joined_at i holes)
AreOfSomeDisc-joined_at i holes of =
    record { disc_units = of.disc_units; sector_units = of.sector_units; small = of.small; are_holes = AreHoles-joined_at of.disc_units of.sector_units 0 i holes of.are_holes }

-- joining leaves no more holes
pub length-joined_with : (x : Hole) (holes : List Hole) → length (joined_with x holes) ≤ suc (length holes)
length-joined_with x [] = omega arith
length-joined_with x (y ∷ holes) = by (hole_end x == y.start)
  where
    by : (b : Bool) → length (cond b (hole x.start (x.len + y.len) ∷ holes) (x ∷ y ∷ holes)) ≤ suc (suc (length holes))
    by true = omega arith
    by false = omega arith

pub length-joined_at : (i : ℕ) (holes : List Hole) → length (joined_at i holes) ≤ length holes
unfolding joined_at
length-joined_at i [] = omega arith
length-joined_at zero (x ∷ holes) = length-joined_with x holes
length-joined_at (suc i) (x ∷ holes) = omega (arith, length-joined_at i holes)

-- an end that fits in the place of another
pub ends_fit-set : (holes : List Hole) (i : ℕ) (x : Hole) → All (λ h. hole_end h < 2 ^ 32) holes → hole_end x < 2 ^ 32
    → All (λ h. hole_end h < 2 ^ 32) (slice_set holes i x)
ends_fit-set [] i x all fits k e l = absurd (omega arith)
ends_fit-set (y ∷ holes) zero x all fits zero e l = fits
ends_fit-set (y ∷ holes) zero x all fits (suc k) e l = all (suc k) e l
ends_fit-set (y ∷ holes) (suc i) x all fits zero e l = all zero e (omega arith)
ends_fit-set (y ∷ holes) (suc i) x all fits (suc k) e l = ends_fit-set holes i x (λ j f m. all (suc j) f (omega arith)) fits k e (omega arith)

-- the element of a place that is seen
pub seen_at : (holes seen : List Hole) (i : ℕ) (o : Option Hole) → seen ≡ holes → o ≡ slice_get seen i → slice_get holes i ≡ o
seen_at holes seen i o same is = ap (λ l. slice_get l i) (sym same) ∙ sym is

pub seen_end : (holes : List Hole) (i : ℕ) (h : Hole) → AreOfSomeDisc holes → slice_get holes i ≡ Some h → hole_end h < 2 ^ 24
seen_end holes i h of at =
    let there = slice_get_within holes i h at in
    let inside = end-inside of.disc_units of.sector_units 0 holes of.are_holes i h there in
    let e : slice_index_or holes i h ≡ h = get_or_from_slice_get holes i h h at in
    omega (arith, of.small, subst (λ (x : Hole). hole_end x ≤ of.disc_units) e inside)
