-- Sums over the runs of a new map and over the holes of an old one.
use Rattle.std.proofs.Common.{◌≡◌, ◌<◌, ◌≤◌, ℕ, ◌+◌, ◌-◌, Bool, true, false, cond, List, [], ◌∷◌, length, sym, subst, arith, sum_by}
use Rattle.std.specs.Prelude.{filter}
use Rattle.std.proofs.lemmas.List.Sums.{sum_by-cons}
use Rattle.fc_newmap.specs.Map.{ZoneRun, bits_in, is_hole}
use Rattle.fc_zone.specs.declared.RunKind.{RunKind}
use Rattle.fc_zone.specs.declared.RunKind.TheVariants as kinds
use Rattle.fc_newmap.specs.Walk.{holes_in}
use Rattle.fc_alloc.specs.declared.owner.Owner.{Owner}
use Rattle.fc_check.specs.declared.space.RunSums.{RunSums}
use Rattle.fc_check.specs.Space.{is_lost_kind, left_by, with_run}

-- ---- runs

first_bits : (t : ZoneRun → Bool) (p : ZoneRun) (rest : List ZoneRun) → bits_in (filter t (p ∷ rest)) ≡ cond (t p) p.1.len 0 + bits_in (filter t rest)
first_bits t p rest = by (t p)
  where
    by : (b : Bool) → bits_in (cond b (p ∷ filter t rest) (filter t rest)) ≡ cond b p.1.len 0 + bits_in (filter t rest)
    by true = sum_by-cons (λ (q : ZoneRun). q.1.len) p (filter t rest)
    by false = omega arith

first_one : (t : ZoneRun → Bool) (p : ZoneRun) (rest : List ZoneRun) → length (filter t (p ∷ rest)) ≡ cond (t p) 1 0 + length (filter t rest)
first_one t p rest = by (t p)
  where
    by : (b : Bool) → length (cond b (p ∷ filter t rest) (filter t rest)) ≡ cond b 1 0 + length (filter t rest)
    by true = omega arith
    by false = omega arith

-- the sums so far come to some totals with the runs that are left
pub record Come (owners : List Owner) (sums : RunSums) (left : List ZoneRun) (all_holes all_free all_lost : ℕ) : Type 0 where
  pub holes : sums.holes + length (holes_in left) ≡ all_holes
  pub free : sums.free + bits_in (holes_in left) ≡ all_free
  pub lost : sums.lost + bits_in (filter (λ p. is_lost_kind owners p.1.kind) left) ≡ all_lost

pub come_on : (owners : List Owner) (sums next : RunSums) (left rest : List ZoneRun) (p : ZoneRun) (holes free lost : ℕ) → Come owners sums left holes free lost
    → left ≡ p ∷ rest → next ≡ with_run owners sums p.1 → Come owners next rest holes free lost
come_on owners sums next left rest p holes free lost so_far e is =
    let before = subst (λ l. Come owners sums l holes free lost) e so_far in
    let one = first_one (λ q. is_hole q.1.kind) p rest in
    let free_bits = first_bits (λ q. is_hole q.1.kind) p rest in
    let lost_bits = first_bits (λ q. is_lost_kind owners q.1.kind) p rest in
    subst (λ s. Come owners s rest holes free lost) (sym is) (record {
      holes = (let h = before.holes in omega arith);
      free = (let h = before.free in omega arith);
      lost = (let h = before.lost in omega arith);
    })

pub come_end : (owners : List Owner) (sums : RunSums) (left : List ZoneRun) (holes free lost : ℕ) → Come owners sums left holes free lost → left ≡ []
    → (sums.holes ≡ holes) × (sums.free ≡ free) × (sums.lost ≡ lost)
come_end owners sums left holes free lost so_far e =
    let at_end = subst (λ l. Come owners sums l holes free lost) e so_far in
    let h = at_end.holes in
    let f = at_end.free in
    let l = at_end.lost in
    (omega (arith, h), omega (arith, f), omega (arith, l))

-- a run is a hole, or lost, or neither
pub run_room : (owners : List Owner) (sums next : RunSums) (p : ZoneRun) (left most : ℕ) → next ≡ with_run owners sums p.1 → 0 < p.1.len
    → sums.free + sums.lost + (left + p.1.len) ≤ most → sums.holes ≤ sums.free → (next.free + next.lost + left ≤ most) × (next.holes ≤ next.free)
run_room owners sums next p left most is some room few =
    subst (λ (s : RunSums). (s.free + s.lost + left ≤ most) × (s.holes ≤ s.free)) (sym is) (by p.1.kind)
  where
    by : (kind : RunKind) → (sums.free + cond (is_hole kind) p.1.len 0 + (sums.lost + cond (is_lost_kind owners kind) p.1.len 0) + left ≤ most)
        × (sums.holes + cond (is_hole kind) 1 0 ≤ sums.free + cond (is_hole kind) p.1.len 0)
    by kinds.Hole = (omega arith, omega arith)
    by (kinds.Id id) = (lost (is_lost_kind owners (kinds.Id id)), omega arith)
      where
        lost : (b : Bool) → sums.free + 0 + (sums.lost + cond b p.1.len 0) + left ≤ most
        lost true = omega arith
        lost false = omega arith

-- ---- owners

pub left_sum : (n : ℕ) (owners : List Owner) → left_by n owners ≡ n - sum_by (λ o. o.sectors) owners
left_sum n [] = omega arith
left_sum n (o ∷ owners) =
    let rest = left_sum (n - o.sectors) owners in
    let all = sum_by-cons (λ (p : Owner). p.sectors) o owners in
    omega arith

pub left_low : (n : ℕ) (owners : List Owner) → left_by n owners ≤ n
left_low n owners = let e = left_sum n owners in omega arith
