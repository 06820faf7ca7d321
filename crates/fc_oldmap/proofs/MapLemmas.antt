-- What a map in memory keeps.
use Rattle.std.proofs.Common.{◌≡◌, ℕ, zero, suc, ◌+◌, ◌-◌, ◌%◌, ◌<◌, ◌≤◌, Bool, true, false, cond, List, [], ◌∷◌, ◌++◌, length, slice_get, refl, sym, ap, subst, arith, Some, None, Result, Ok, Err, inl, inr}
use Rattle.std.specs.Prelude.{◌==◌, nat_le, nat_lt, All, IsErr, OnOk, OnErr, ◌↔◌, if◌then◌else◌}
use Rattle.std.proofs.lemmas.Bool.{leb-true, leb-false, eqb-true, eqb-false, false≢true}
use Rattle.std.proofs.lemmas.Option.{none-some}
use Rattle.fc_oldmap.specs.declared.TakeError.{TakeError}
use Rattle.fc_oldmap.specs.declared.TakeError.TheVariants.{DiscFull, CompactionRequired}
use Rattle.fc_oldmap.specs.declared.Hole.{Hole}
use Rattle.fc_oldmap.specs.Holes.{hole, hole_end, hole_sum, hole_limit, rest_after_take, after_take, first_fit_place, take_answer, after_give, shifted, tidied, IsHole, AreHoles, AreApart}
use Rattle.fc_oldmap.specs.OldMap.{OldMapContent, IsOldMap}
use Rattle.fc_oldmap.proofs.FitLemmas.{after_give-front, raised}
use Rattle.fc_oldmap.proofs.SpaceLemmas.{mod-sum, AreHoles-joined_with, length-joined_with}

-- given space
pub AreHoles-after_give : (d s floor : ℕ) (space : Hole) (holes : List Hole) → IsHole d s floor space → AreHoles d s floor holes
    → All (AreApart space) holes → AreHoles d s floor (after_give space holes)
unfolding after_give
AreHoles-after_give d s floor space [] new h apart = (new, tt)
AreHoles-after_give d s floor space (x ∷ holes) new (h, rest) apart =
    by (nat_lt (hole_end x) space.start) refl (hole_end x == space.start) refl (hole_end space == x.start) refl (λ above. AreHoles-after_give d s (hole_end x) space holes
    (record { positive = new.positive; onward = omega (arith, above); inside = new.inside; begins = new.begins; ends = new.ends }) rest (λ k e l. apart (suc k) e (omega arith)))
  where
    by : (a : Bool) → nat_lt (hole_end x) space.start ≡ a → (b : Bool) → (hole_end x == space.start) ≡ b → (t : Bool) → (hole_end space == x.start) ≡ t
        → (hole_end x < space.start → AreHoles d s (hole_end x) (after_give space holes))
        → AreHoles d s floor (cond a (x ∷ after_give space holes) (cond b (after_give (hole x.start (x.len + space.len)) holes)
        (cond t (hole space.start (space.len + x.len) ∷ holes) (space ∷ x ∷ holes))))
    by true ea b eb t et more = (h, more (leb-true (suc (hole_end x)) space.start ea))
    by false ea true eb t et more =
        let touch = eqb-true (hole_end x) space.start eb in
        let joined = hole x.start (x.len + space.len) in
        let behind = raised space x holes d s touch rest (λ k e l. apart (suc k) e (omega arith)) in
        let same : hole_end space ≡ hole_end joined = omega arith in
        let is_hole : IsHole d s floor joined = record { positive = omega (arith, h.positive); onward = h.onward; inside = omega (arith, new.inside); begins = h.begins; ends = subst (λ (n : ℕ). n % s ≡ 0) same new.ends } in
        let A : List Hole → Type 0 = λ l. AreHoles d s floor l in
        subst A (sym (after_give-front joined holes (omega (arith, h.positive)) d s behind)) (AreHoles-joined_with d s floor joined holes is_hole behind)
    by false ea false eb true et more =
        let touch = eqb-true (hole_end space) x.start et in
        let joined = hole space.start (space.len + x.len) in
        let same : hole_end x ≡ hole_end joined = omega arith in
        let A : ℕ → Type 0 = λ n. AreHoles d s n holes in
        (record { positive = omega (arith, new.positive); onward = new.onward; inside = omega (arith, h.inside); begins = new.begins; ends = subst (λ (n : ℕ). n % s ≡ 0) same h.ends }, subst A same rest)
    by false ea false eb false et more =
        let above = leb-false (suc (hole_end x)) space.start ea in
        let other = eqb-false (hole_end x) space.start eb in
        let onward : hole_end space ≤ x.start = elim (apart 0 x (omega arith)) [ inl l ↦ absurd (other (omega (arith, above, l))) | inr l ↦ l ] in
        (new, (record { positive = h.positive; onward = onward; inside = h.inside; begins = h.begins; ends = h.ends }, rest))

-- a hole moved up
pub AreHoles-shifted : (d s floor i n : ℕ) (holes : List Hole) → n % s ≡ 0 → AreHoles d s floor holes
    → ((h : Hole) → slice_get holes i ≡ Some h → (hole_end h + n ≤ d) × ((g : Hole) → slice_get holes (suc i) ≡ Some g → hole_end h + n ≤ g.start))
    → AreHoles d s floor (shifted i n holes)
unfolding shifted
AreHoles-shifted d s floor i n [] whole h room = tt
AreHoles-shifted d s floor zero n (x ∷ holes) whole (h, rest) room =
    AreHoles-joined_with d s floor moved holes
    (record { positive = h.positive; onward = omega (arith, h.onward); inside = omega (arith, (room x refl).0); begins = mod-sum s x.start n h.begins whole; ends = subst (λ (m : ℕ). m % s ≡ 0) same (mod-sum s (hole_end x) n h.ends whole) })
    (behind holes rest (room x refl).1)
  where
    moved : Hole
    moved = hole (x.start + n) x.len

    same : hole_end x + n ≡ hole_end (hole (x.start + n) x.len)
    same = omega arith

    behind : (holes : List Hole) → AreHoles d s (hole_end x) holes → ((g : Hole) → slice_get holes 0 ≡ Some g → hole_end x + n ≤ g.start)
        → AreHoles d s (hole_end (hole (x.start + n) x.len)) holes
    behind [] r up = tt
    behind (y ∷ ys) (r, more) up = (record { positive = r.positive; onward = omega (arith, up y refl); inside = r.inside; begins = r.begins; ends = r.ends }, more)
AreHoles-shifted d s floor (suc i) n (x ∷ holes) whole (h, rest) room = (h, AreHoles-shifted d s (hole_end x) i n holes whole rest room)

-- no more holes stand after these
pub length-tidied : (holes : List Hole) → length (tidied holes) ≤ length holes
unfolding tidied
length-tidied [] = omega arith
length-tidied (x ∷ holes) = omega (arith, length-joined_with x (tidied holes), length-tidied holes)

pub length-shifted : (i n : ℕ) (holes : List Hole) → length (shifted i n holes) ≤ length holes
unfolding shifted
length-shifted i n [] = omega arith
length-shifted zero n (x ∷ holes) = length-joined_with (hole (x.start + n) x.len) holes
length-shifted (suc i) n (x ∷ holes) = omega (arith, length-shifted i n holes)

pub length-after_take : (n : ℕ) (holes : List Hole) → length (after_take n holes) ≤ length holes
unfolding after_take
length-after_take n [] = omega arith
length-after_take n (x ∷ holes) = by (nat_le n x.len) (x.len == n) (length-after_take n holes)
  where
    by : (a b : Bool) → length (after_take n holes) ≤ length holes
        → length (cond a (cond b [] (hole (x.start + n) (x.len - n) ∷ []) ++ holes) (x ∷ after_take n holes)) ≤ suc (length holes)
    by true true le = omega arith
    by true false le = omega arith
    by false b le = omega arith

-- another list of holes of the same disc
pub with_list : (space : OldMapContent) (holes : List Hole) → IsOldMap space → length holes ≤ hole_limit
    → AreHoles space.disc_units space.sector_units 0 holes → IsOldMap (record space { holes = holes })
with_list space holes map few right = record { few = few; disc = map.disc; units = map.units; holes = right }

not_more : (n : ℕ) → (hole_limit < n → ⊥) → n ≤ hole_limit
not_more n h = by (nat_lt hole_limit n) refl
  where
    by : (b : Bool) → nat_lt hole_limit n ≡ b → n ≤ hole_limit
    by true e = absurd (h (leb-true (suc hole_limit) n e))
    by false e = omega (arith, leb-false (suc hole_limit) n e)

-- what giving leaves, whatever it answers
pub given_keeps : {A E : Type 0} (r : Result A E) (space : OldMapContent) (new given : List Hole) → (IsErr r ↔ (hole_limit < length given))
    → OnOk r (new ≡ given) → OnErr r (new ≡ space.holes) → IsOldMap space → AreHoles space.disc_units space.sector_units 0 given
    → IsOldMap (record space { holes = new })
given_keeps (Ok x) space new given full ok err map right =
    let few : length given ≤ hole_limit = not_more (length given) (λ more. false≢true (full.1 more)) in
    let M : List Hole → Type 0 = λ l. IsOldMap (record space { holes = l }) in
    subst M (sym ok) (with_list space given map few right)
given_keeps (Err e) space new given full ok err map right =
    let M : List Hole → Type 0 = λ l. IsOldMap (record space { holes = l }) in
    subst M (sym err) map

-- where no hole fits nothing is taken
pub after_take-same : (n : ℕ) (holes : List Hole) → first_fit_place n holes ≡ None → after_take n holes ≡ holes
unfolding after_take first_fit_place
after_take-same n [] none = refl
after_take-same n (x ∷ holes) none = by (nat_le n x.len) none (after_take-same n holes)
  where
    by : (a : Bool) → cond a (Some x.start) (first_fit_place n holes) ≡ None → (first_fit_place n holes ≡ None → after_take n holes ≡ holes)
        → cond a (rest_after_take x n ++ holes) (x ∷ after_take n holes) ≡ x ∷ holes
    by true none rest = absurd (none-some x.start (sym none))
    by false none rest = ap (λ l. x ∷ l) (rest none)

-- the two answers
pub take_answer-some : (n start : ℕ) (holes : List Hole) → first_fit_place n holes ≡ Some start → take_answer n holes ≡ Ok start
take_answer-some n start holes e = rw e refl

pub take_answer-none : (n : ℕ) (holes : List Hole) → first_fit_place n holes ≡ None
    → take_answer n holes ≡ (if nat_lt (hole_sum holes) n then Err DiscFull else Err CompactionRequired)
take_answer-none n holes e = rw e refl

abbrev pub refused : TakeError → Result ℕ TakeError
refused e = Err e

pub refused-if : (b : Bool) (e : TakeError) → e ≡ (if b then DiscFull else CompactionRequired)
    → refused e ≡ (if b then Err DiscFull else Err CompactionRequired)
refused-if true e is = ap refused is
refused-if false e is = ap refused is
