-- Runs of identifiers, counted in a table.
use Rattle.std.proofs.Common.{◌≡◌, ◌≤◌, ℕ, ◌+◌, ◌-◌, List, ◌++◌, length, length-append, ap, ◌∙◌, arith}
use Rattle.std.specs.Prelude.{filter}
use Rattle.std.specs.List.{range_with_len}
use Rattle.std.proofs.lemmas.List.Elements.{filter-append}
use Rattle.std.proofs.lemmas.Grind.{flat_map-append}
use Rattle.fc_newmap.specs.Map.{Map, ZoneRun, all_runs, home_zone, id_runs, runs_in, runs_of}
use Rattle.fc_newmap.specs.RunsLaw.{placed}
use Rattle.fc_newmap.proofs.CoverLemmas.{range_cut}
use Rattle.fc_newmap.proofs.PlaceLemmas.{home_low}
use Rattle.fc_compact.specs.Candidates.{AreSeen, SeesFew}
use Rattle.fc_newmap.proofs.WalkLemmas.{of_id as of}

-- ---- all runs

runs_both : (m : Map) (xs ys : List ℕ) → runs_in m (xs ++ ys) ≡ runs_in m xs ++ runs_in m ys
runs_both m xs ys = flat_map-append (λ y. placed y (runs_of m y)) xs ys

long_both : (m : Map) (id : ℕ) (xs ys : List ℕ) → length (filter (of id) (runs_in m (xs ++ ys))) ≡ length (filter (of id) (runs_in m xs)) + length (filter (of id) (runs_in m ys))
long_both m id xs ys =
    ap (λ (ps : List ZoneRun). length (filter (of id) ps)) (runs_both m xs ys) ∙ ap length (filter-append (of id) (runs_in m xs) (runs_in m ys))
    ∙ length-append (filter (of id) (runs_in m xs)) (filter (of id) (runs_in m ys))

-- an identifier has as many runs in the order of the search as in that of the zones
pub long_same : (m : Map) (id : ℕ) → 1 ≤ m.geometry.zones → length (id_runs m id) ≡ length (filter (of id) (all_runs m))
long_same m id some =
    let g = m.geometry in
    let home = home_zone g id in
    let low = home_low g id some in
    let front = range_with_len 0 home in
    let back = range_with_len home (g.zones - home) in
    let cut : range_with_len 0 g.zones ≡ front ++ back =
    ap (range_with_len 0) (let e : g.zones ≡ home + (g.zones - home) = omega (arith, low) in e) ∙ range_cut 0 home (g.zones - home) ∙ ap (λ (k : ℕ). front ++ range_with_len k (g.zones - home)) (let e : 0 + home ≡ home = omega arith in e) in
    let one = long_both m id back front in
    let two = ap (λ (zs : List ℕ). length (filter (of id) (runs_in m zs))) cut ∙ long_both m id front back in
    omega (arith, one, two)

pub seen_few : (m : Map) (seen : List ℕ) → 1 ≤ m.geometry.zones → AreSeen seen (all_runs m) → SeesFew seen m
seen_few m seen some are id few = let here = are id few in let same = long_same m id some in omega (arith, here, same, few)
