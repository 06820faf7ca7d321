-- Runs lie one after another on the disc.
use Rattle.std.proofs.Common.{◌≡◌, ◌<◌, ◌≤◌, ℕ, zero, suc, ◌+◌, ◌-◌, ◌*◌, ◌/◌, ◌%◌, List, [], ◌∷◌, ◌++◌, map, sym, ap, subst, ◌∙◌, arith}
use Rattle.std.specs.Prelude.{Contains, Result, Ok, Err}
use Rattle.std.specs.List.{range_with_len}
use Rattle.std.proofs.Math.Nat.{mul_assoc}
use Rattle.std.proofs.lemmas.Nat.{div-mul-add, div-add-mod'}
use Rattle.fc_bytes.specs.Bits.{bits}
use Rattle.fc_record.specs.declared.Geometry.{Geometry}
use Rattle.fc_record.specs.Record.{base, first_bit, end_bit}
use Rattle.fc_zone.specs.declared.Run.{Run}
use Rattle.fc_zone.specs.Zone.{Spells}
use Rattle.fc_newmap.specs.Map.{Map, ZoneRun, shape, sector_of, runs_of, runs_in, all_runs, first_sector, sector_count}
use Rattle.fc_newmap.specs.RunsLaw.{IsGeometry, HasZones, HoldsSector}

-- ---- whole sectors

quotient : (k w t : ℕ) → 0 < w → (k * w + t) / w ≡ k + t / w
quotient k w t some =
    let e : k * w + t ≡ (k + t / w) * w + t % w = omega (arith, div-add-mod' t w) in
    ap (λ n. n / w) e ∙ div-mul-add (k + t / w) w (t % w) (omega arith)

-- x is a number of whole qs, so its bytes are whole sectors, and what follows them is counted from there
pub sectors_add : (q unit sector x y : ℕ) → 0 < sector → (q * unit) % sector ≡ 0 → x % q ≡ 0 → (x + y) * unit / sector ≡ x * unit / sector + y * unit / sector
sectors_add q unit sector x y some whole on =
    let k = x / q * (q * unit / sector) in
    let wholes : x / q * q ≡ x = omega (arith, div-add-mod' x q) in
    let parts : q * unit / sector * sector ≡ q * unit = omega (arith, div-add-mod' (q * unit) sector) in
    let bytes : x * unit ≡ k * sector =
    ap (λ n. n * unit) (sym wholes) ∙ mul_assoc (x / q) q unit ∙ ap (λ n. x / q * n) (sym parts) ∙ sym (mul_assoc (x / q) (q * unit / sector) sector) in
    let all : (x + y) * unit ≡ k * sector + y * unit = omega (arith, bytes) in
    let front : x * unit / sector ≡ k = ap (λ n. n / sector) (let e : x * unit ≡ k * sector + 0 = omega (arith, bytes) in e) ∙ div-mul-add k sector 0 some in
    ap (λ n. n / sector) all ∙ quotient k sector (y * unit) some ∙ ap (λ n. n + y * unit / sector) (sym front)

-- ---- rows of runs

-- the runs lie one after another, from a sector on and up to one
abbrev pub Rises : Geometry → ℕ → List ZoneRun → ℕ → Type 0
Rises g from [] to = from ≤ to
Rises g from (p ∷ places) to = (from ≤ first_sector g p) × Rises g (first_sector g p + sector_count g p) places to

pub Rises-append : (g : Geometry) (from mid to : ℕ) (xs ys : List ZoneRun) → Rises g from xs mid → Rises g mid ys to → Rises g from (xs ++ ys) to
Rises-append g from mid to [] ys rx ry = lower ys ry
  where
    lower : (zs : List ZoneRun) → Rises g mid zs to → Rises g from zs to
    lower [] r = omega arith
    lower (z ∷ zs) r = (omega (arith, r.0), r.1)
Rises-append g from mid to (x ∷ xs) ys rx ry = (rx.0, Rises-append g (first_sector g x + sector_count g x) mid to xs ys rx.1 ry)

pub cases : (x : ZoneRun) (xs : List ZoneRun) (y : ZoneRun) → Contains (x ∷ xs) y → Result (x ≡ y) (Contains xs y)
cases x xs y (zero, h, e) = Ok e
cases x xs y (suc k, h, e) = Err (k, omega arith, e)

pub not_in : (y : ZoneRun) → Contains [] y → ⊥
not_in y (k, h, e) = omega arith

-- each run begins after where the row does
pub behind : (g : Geometry) (from to : ℕ) (places : List ZoneRun) (p : ZoneRun) → Rises g from places to → Contains places p → from ≤ first_sector g p
behind g from to [] p r c = absurd (not_in p c)
behind g from to (x ∷ places) p r c =
    elim (cases x places p c) [
      | Ok here ↦ subst (λ (y : ZoneRun). from ≤ first_sector g y) here r.0
      | Err later ↦ (let rest = behind g (first_sector g x + sector_count g x) to places p r.1 later in omega (arith, r.0))
    ]

one_run : (g : Geometry) (from to : ℕ) (places : List ZoneRun) → Rises g from places to → (p q : ZoneRun) → Contains places p → Contains places q
    → (s : ℕ) → HoldsSector g p s → HoldsSector g q s → p ≡ q
one_run g from to [] r p q cp cq s hp hq = absurd (not_in p cp)
one_run g from to (x ∷ places) r p q cp cq s hp hq =
    let end = first_sector g x + sector_count g x in
    elim (cases x places p cp) [
      | Ok p_here ↦ elim (cases x places q cq) [
        | Ok q_here ↦ sym p_here ∙ q_here
        | Err q_later ↦ absurd (
            let low = behind g end to places q r.1 q_later in
            let high = subst (λ (y : ZoneRun). s < first_sector g y + sector_count g y) (sym p_here) hp.to in
            omega (arith, hq.from))
      ]
      | Err p_later ↦ elim (cases x places q cq) [
        | Ok q_here ↦ absurd (
            let low = behind g end to places p r.1 p_later in
            let high = subst (λ (y : ZoneRun). s < first_sector g y + sector_count g y) (sym q_here) hq.to in
            omega (arith, hp.from))
        | Err q_later ↦ one_run g end to places r.1 p q p_later q_later s hp hq
      ]
    ]

-- ---- zones

-- the sector at which a place of a zone lies
abbrev pub place_sector : Geometry → ℕ → ℕ → ℕ
place_sector g z at = (base g z + (at - first_bit z)) * g.bit_bytes / g.sector

pub runs_rise : (g : Geometry) → IsGeometry g → (z : ℕ) (bs : List ℕ) (runs : List Run) (at end : ℕ) → first_bit z ≤ at → Spells (shape g z) bs at runs end
    → Rises g (place_sector g z at) (map (λ (run : Run). let p : ZoneRun = (z, run) in p) runs) (place_sector g z end)
runs_rise g is z bs [] at end low h = subst (λ (e : ℕ). place_sector g z at ≤ place_sector g z e) h (omega arith)
runs_rise g is z bs (run ∷ runs) at end low h =
    let start = h.0 in
    let first : first_sector g (z, run) ≡ place_sector g z at = ap (λ (a : ℕ). place_sector g z a) start in
    let long = h.1.long in
    let after : place_sector g z (at + run.len) ≡ place_sector g z at + sector_count g (z, run) =
    ap (λ (x : ℕ). x * g.bit_bytes / g.sector) (let e : base g z + (at + run.len - first_bit z) ≡ base g z + (at - first_bit z) + run.len = omega arith in e)
    ∙ sectors_add g.q g.bit_bytes g.sector (base g z + (at - first_bit z)) run.len is.some is.whole h.1.begins in
    let rest = runs_rise g is z bs runs (at + run.len) end (omega arith) h.3 in
    (omega (arith, first), subst (λ (e : ℕ). Rises g e (map (λ (r : Run). let p : ZoneRun = (z, r) in p) runs) (place_sector g z end)) (after ∙ ap (λ (e : ℕ). e + sector_count g (z, run)) (sym first)) rest)

pub zones_rise : (m : Map) → IsGeometry m.geometry → HasZones m → (n z : ℕ) → z + n ≡ m.geometry.zones
    → (to : ℕ) × Rises m.geometry (place_sector m.geometry z (first_bit z)) (runs_in m (range_with_len z n)) to
zones_rise m is has zero z e = (place_sector m.geometry z (first_bit z), omega arith)
zones_rise m is has (suc zero) z e =
    let g = m.geometry in
    let here = runs_rise g is z (bits (sector_of m z)) (runs_of m z) (first_bit z) (end_bit g z) (omega arith) (has z (omega arith)).spelled in
    (place_sector g z (end_bit g z), Rises-append g _ (place_sector g z (end_bit g z)) _ _ [] here (omega arith))
zones_rise m is has (suc (suc n)) z e =
    let g = m.geometry in
    let here = runs_rise g is z (bits (sector_of m z)) (runs_of m z) (first_bit z) (end_bit g z) (omega arith) (has z (omega arith)).spelled in
    let further = zones_rise m is has (suc n) (z + 1) (omega arith) in
    let meets : place_sector g (z + 1) (first_bit (z + 1)) ≡ place_sector g z (end_bit g z) =
    ap (λ x. x * g.bit_bytes / g.sector) (let b : base g (z + 1) + (first_bit (z + 1) - first_bit (z + 1)) ≡ base g z + (end_bit g z - first_bit z) = omega (arith, is.next z (omega arith)) in b) in (
      further.0,
      Rises-append g _ (place_sector g z (end_bit g z)) further.0 _ _ here
          (subst (λ (from : ℕ). Rises g from (runs_in m (range_with_len (z + 1) (suc n))) further.0) meets further.1),
    )

pub runs_apart : (m : Map) → IsGeometry m.geometry → HasZones m → (p q : ZoneRun) → Contains (all_runs m) p → Contains (all_runs m) q
    → (s : ℕ) → HoldsSector m.geometry p s → HoldsSector m.geometry q s → p ≡ q
runs_apart m is has p q cp cq s hp hq =
    let r = zones_rise m is has m.geometry.zones 0 (omega arith) in
    one_run m.geometry _ r.0 (all_runs m) r.1 p q cp cq s hp hq
