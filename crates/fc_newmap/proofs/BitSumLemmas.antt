-- The bits of an identifier's runs, summed by zones, and what an edit makes of the sum.
use Rattle.std.proofs.Common.{◌≡◌, ◌<◌, ◌≤◌, ℕ, zero, suc, ◌+◌, ◌-◌, ◌*◌, Bool, true, false, cond, List, [], ◌∷◌, ◌++◌, refl, sym, ap, ap₂, ◌∙◌, inl, inr, arith}
use Rattle.std.specs.Prelude.{filter, sum_by}
use Rattle.std.specs.List.{range_with_len}
use Rattle.std.proofs.lemmas.Bool.{cases_eq}
use Rattle.std.proofs.lemmas.List.{map-append}
use Rattle.std.proofs.lemmas.List.Sums.{sum_by-append, sum_by-cons}
use Rattle.fc_bytes.specs.Bits.{bits}
use Rattle.fc_record.specs.declared.Geometry.{Geometry}
use Rattle.fc_record.specs.Record.{first_bit, end_bit}
use Rattle.fc_zone.specs.declared.Run.{Run}
use Rattle.fc_zone.specs.declared.RunKind.{RunKind}
use Rattle.fc_zone.specs.declared.ZoneShape.{ZoneShape}
use Rattle.fc_zone.specs.Zone.{Spells}
use Rattle.fc_newmap.specs.Map.{Map, ZoneRun, all_runs, bits_in, has_id, home_zone, id_runs, runs_in, runs_of, search_order, shape, zone_numbers}
use Rattle.fc_newmap.specs.Edits.{IsEdit, MergesIn, RelabelsIn, SplitsIn}
use Rattle.fc_newmap.specs.NewMap.{IsNewMap}
use Rattle.fc_newmap.specs.RunsLaw.{placed}
use Rattle.fc_newmap.proofs.ComposeLemmas.{runs_other}
use Rattle.fc_newmap.proofs.CoverLemmas.{range_cut}
use Rattle.fc_newmap.proofs.HeldLemmas.{end_within, geometry_facts, sector_high}
use Rattle.fc_newmap.proofs.PlaceLemmas.{home_low}

-- ---- sums

-- the bits that an identifier has of a run
abbrev pub share : ℕ → RunKind → ℕ → ℕ
share id kind len = cond (has_id id kind) len 0

abbrev pub bits_of_id : ℕ → ZoneRun → ℕ
bits_of_id id p = share id p.1.kind p.1.len

-- those that it has of some runs of a zone
abbrev pub part : ℕ → ℕ → List Run → ℕ
part id z runs = sum_by (bits_of_id id) (placed z runs)

pub of_runs : (id : ℕ) (runs : List ZoneRun) → bits_in (filter (λ p. has_id id p.1.kind) runs) ≡ sum_by (bits_of_id id) runs
of_runs id [] = refl
of_runs id (p ∷ runs) = by (has_id id p.1.kind) (of_runs id runs) ∙ sym (sum_by-cons (bits_of_id id) p runs)
  where
    by : (b : Bool) → bits_in (filter (λ q. has_id id q.1.kind) runs) ≡ sum_by (bits_of_id id) runs
        → bits_in (cond b (p ∷ filter (λ q. has_id id q.1.kind) runs) (filter (λ q. has_id id q.1.kind) runs)) ≡ cond b p.1.len 0 + sum_by (bits_of_id id) runs
    by true h = sum_by-cons (λ (q : ZoneRun). q.1.len) p (filter (λ q. has_id id q.1.kind) runs) ∙ ap (λ (n : ℕ). p.1.len + n) h
    by false h = h ∙ none (sum_by (bits_of_id id) runs)
      where
        none : (n : ℕ) → n ≡ 0 + n
        none n = omega arith

in_zones : (m : Map) (id : ℕ) (zones : List ℕ) → sum_by (bits_of_id id) (runs_in m zones) ≡ sum_by (λ z. part id z (runs_of m z)) zones
in_zones m id [] = refl
in_zones m id (z ∷ zones) =
    ap (sum_by (bits_of_id id)) cut
    ∙ sum_by-append (bits_of_id id) (placed z (runs_of m z)) (runs_in m zones)
    ∙ ap (λ (n : ℕ). part id z (runs_of m z) + n) (in_zones m id zones)
    ∙ sym (sum_by-cons (λ y. part id y (runs_of m y)) z zones)
  where
    cut : runs_in m (z ∷ zones) ≡ placed z (runs_of m z) ++ runs_in m zones
    cut = refl

turned : (f : ℕ → ℕ) (home rest : ℕ) → sum_by f (range_with_len home rest ++ range_with_len 0 home) ≡ sum_by f (range_with_len 0 (home + rest))
turned f home rest =
    sum_by-append f (range_with_len home rest) (range_with_len 0 home)
    ∙ swapped (sum_by f (range_with_len home rest)) (sum_by f (range_with_len 0 home))
    ∙ sym (ap (sum_by f) (range_cut 0 home rest ∙ ap (λ (k : ℕ). range_with_len 0 home ++ range_with_len k rest) (from_none home)) ∙ sum_by-append f (range_with_len 0 home) (range_with_len home rest))
  where
    swapped : (a b : ℕ) → a + b ≡ b + a
    swapped a b = omega arith

    from_none : (n : ℕ) → 0 + n ≡ n
    from_none n = omega arith

-- an identifier's bits are those that it has in each zone
pub bits_by_zones : (m : Map) (id : ℕ) → 1 ≤ m.geometry.zones → bits_in (id_runs m id) ≡ sum_by (λ z. part id z (runs_of m z)) (zone_numbers m.geometry)
bits_by_zones m id some =
    let g = m.geometry in
    let low = home_low g id some in
    let f : ℕ → ℕ = λ z. part id z (runs_of m z) in
    let all : home_zone g id + (g.zones - home_zone g id) ≡ g.zones = omega arith in
    of_runs id (runs_in m (search_order g id))
    ∙ in_zones m id (search_order g id)
    ∙ turned f (home_zone g id) (g.zones - home_zone g id)
    ∙ ap (λ (n : ℕ). sum_by f (range_with_len 0 n)) all

pub all_bits : (m : Map) (id : ℕ) → 1 ≤ m.geometry.zones → sum_by (bits_of_id id) (all_runs m) ≡ bits_in (id_runs m id)
all_bits m id some = in_zones m id (zone_numbers m.geometry) ∙ sym (bits_by_zones m id some)

-- ---- how many there can be

part_high : (id z : ℕ) (shape : ZoneShape) (bs : List ℕ) (runs : List Run) (at end : ℕ) → Spells shape bs at runs end → part id z runs + at ≤ end
part_high id z shape bs [] at end h = omega arith
part_high id z shape bs (run ∷ runs) at end h =
    let rest = part_high id z shape bs runs (at + run.len) end h.3 in
    let first = share_low (has_id id run.kind) run.len in
    omega (arith, sum_by-cons (bits_of_id id) (z, run) (placed z runs), rest, first)
  where
    share_low : (b : Bool) (n : ℕ) → cond b n 0 ≤ n
    share_low true n = omega arith
    share_low false n = omega arith

zone_high : (m : Map) (id z : ℕ) → IsNewMap m → z < m.geometry.zones → part id z (runs_of m z) ≤ 8192
zone_high m id z is low =
    let zone = is.right z low in
    let high = part_high id z (shape m.geometry z) _ (runs_of m z) (first_bit z) (end_bit m.geometry z) zone.spelled in
    let within = end_within m.geometry z is.of_record low in
    let sector = sector_high m.geometry (geometry_facts m.geometry is.of_record) in
    omega (arith, high, within, sector)

sum_high : (f : ℕ → ℕ) (from n : ℕ) → ((z : ℕ) → z < from + n → f z ≤ 8192) → sum_by f (range_with_len from n) ≤ 8192 * n
sum_high f from zero high = omega arith
sum_high f from (suc n) high =
    let rest = sum_high f (from + 1) n (λ z low. high z (omega arith)) in
    let first = high from (omega arith) in
    omega (arith, sum_by-cons f from (range_with_len (from + 1) n), rest, first)

pub bits_high : (m : Map) (id : ℕ) → IsNewMap m → bits_in (id_runs m id) ≤ 8192 * m.geometry.zones
bits_high m id is =
    let facts = geometry_facts m.geometry is.of_record in
    let high = sum_high (λ z. part id z (runs_of m z)) 0 m.geometry.zones (λ z low. zone_high m id z is (omega arith)) in
    omega (arith, bits_by_zones m id facts.zones, high)

-- ---- one zone changes

-- two sums that differ in one place
pub sum_one : (f f' : ℕ → ℕ) (z from n : ℕ) → from ≤ z → z < from + n → ((y : ℕ) → (y ≡ z → ⊥) → f' y ≡ f y)
    → (rest : ℕ) × ((sum_by f (range_with_len from n) ≡ rest + f z) × (sum_by f' (range_with_len from n) ≡ rest + f' z))
sum_one f f' z from zero low high same = absurd (omega arith)
sum_one f f' z from (suc n) low high same =
    let first = sum_by-cons f from (range_with_len (from + 1) n) in
    let first' = sum_by-cons f' from (range_with_len (from + 1) n) in
    elim (cases_eq from z) [
      | inl here ↦ (
          let rest = sums_same f f' z (from + 1) n (omega arith) same in
          (sum_by f (range_with_len (from + 1) n), (omega (arith, first, ap f here), omega (arith, first', ap f' here, rest))))
      | inr other ↦ (
          let r = sum_one f f' z (from + 1) n (omega arith) (omega arith) same in
          (f from + r.0, (omega (arith, first, r.1.0), omega (arith, first', r.1.1, same from other))))
    ]
  where
    sums_same : (f f' : ℕ → ℕ) (z from n : ℕ) → z < from → ((y : ℕ) → (y ≡ z → ⊥) → f' y ≡ f y) → sum_by f' (range_with_len from n) ≡ sum_by f (range_with_len from n)
    sums_same f f' z from zero low same = refl
    sums_same f f' z from (suc n) low same =
        sum_by-cons f' from (range_with_len (from + 1) n)
        ∙ ap₂ (λ (a b : ℕ). a + b) (same from (λ e. omega arith)) (sums_same f f' z (from + 1) n (omega arith) same)
        ∙ sym (sum_by-cons f from (range_with_len (from + 1) n))

pub part-append : (id z : ℕ) (xs ys : List Run) → part id z (xs ++ ys) ≡ part id z xs + part id z ys
part-append id z xs ys =
    ap (sum_by (bits_of_id id)) (map-append (λ (run : Run). let p : ZoneRun = (z, run) in p) xs ys) ∙ sum_by-append (bits_of_id id) (placed z xs) (placed z ys)

part_mid : (id z : ℕ) (front mid rest : List Run) → part id z (front ++ (mid ++ rest)) ≡ part id z front + (part id z mid + part id z rest)
part_mid id z front mid rest = part-append id z front (mid ++ rest) ∙ ap (λ (n : ℕ). part id z front + n) (part-append id z mid rest)

-- runs of one zone become others
pub bits_edited : (m n : Map) (z id : ℕ) (front olds news rest : List Run) → IsEdit m n z → z < m.geometry.zones → runs_of m z ≡ front ++ (olds ++ rest) → runs_of n z ≡ front ++ (news ++ rest)
    → (others : ℕ) × ((bits_in (id_runs m id) ≡ others + part id z olds) × (bits_in (id_runs n id) ≡ others + part id z news))
bits_edited m n z id front olds news rest edit low was now =
    let facts = geometry_facts m.geometry edit.was.of_record in
    let zones : n.geometry.zones ≡ m.geometry.zones = ap (λ (g : Geometry). g.zones) edit.geometry in
    let f : ℕ → ℕ = λ y. part id y (runs_of m y) in
    let f' : ℕ → ℕ = λ y. part id y (runs_of n y) in
    let sums = sum_one f f' z 0 m.geometry.zones (omega arith) (omega arith) (λ y other. ap (part id y) (runs_other m n z y edit other)) in
    let old : f z ≡ part id z front + (part id z olds + part id z rest) = ap (part id z) was ∙ part_mid id z front olds rest in
    let new : f' z ≡ part id z front + (part id z news + part id z rest) = ap (part id z) now ∙ part_mid id z front news rest in
    let new_bits : bits_in (id_runs n id) ≡ sum_by f' (range_with_len 0 m.geometry.zones) =
    bits_by_zones n id (omega (arith, zones, facts.zones)) ∙ ap (λ (k : ℕ). sum_by f' (range_with_len 0 k)) zones in
    (sums.0 + part id z front + part id z rest, (omega (arith, bits_by_zones m id facts.zones, sums.1.0, old), omega (arith, new_bits, sums.1.1, new)))

part_one : (id z : ℕ) (run : Run) → part id z (run ∷ []) ≡ share id run.kind run.len
part_one id z run = sum_by-cons (bits_of_id id) (z, run) [] ∙ plus (share id run.kind run.len)
  where
    plus : (n : ℕ) → n + 0 ≡ n
    plus n = omega arith

part_two : (id z : ℕ) (one two : Run) → part id z (one ∷ two ∷ []) ≡ share id one.kind one.len + share id two.kind two.len
part_two id z one two = sum_by-cons (bits_of_id id) (z, one) (placed z (two ∷ [])) ∙ ap (λ (n : ℕ). share id one.kind one.len + n) (part_one id z two)

-- a run of another kind
pub bits_relabelled : (m n : Map) (z id : ℕ) (front rest : List Run) (run : Run) (kind : RunKind) → IsEdit m n z → z < m.geometry.zones → runs_of m z ≡ front ++ run ∷ rest → RelabelsIn m n z run.start kind
    → bits_in (id_runs n id) + share id run.kind run.len ≡ bits_in (id_runs m id) + share id kind run.len
bits_relabelled m n z id front rest run kind edit low was relabels =
    let r = bits_edited m n z id front (run ∷ []) (record run { kind = kind } ∷ []) rest edit low was (relabels front rest run was refl) in
    omega (arith, r.1.0, r.1.1, part_one id z run, part_one id z (record run { kind = kind }))

-- a run cut in two
pub bits_split : (m n : Map) (z id len : ℕ) (front rest : List Run) (run : Run) → IsEdit m n z → z < m.geometry.zones → runs_of m z ≡ front ++ run ∷ rest → len ≤ run.len → SplitsIn m n z run.start len
    → bits_in (id_runs n id) ≡ bits_in (id_runs m id)
bits_split m n z id len front rest run edit low was fits splits =
    let one : Run = record run { len = len } in
    let two : Run = record run { start = run.start + len; len = run.len - len } in
    let r = bits_edited m n z id front (run ∷ []) (one ∷ two ∷ []) rest edit low was (splits front rest run was refl) in
    omega (arith, r.1.0, r.1.1, part_one id z run, part_two id z one two, both (has_id id run.kind))
  where
    both : (b : Bool) → cond b len 0 + cond b (run.len - len) 0 ≡ cond b run.len 0
    both true = omega arith
    both false = omega arith

-- two runs joined
pub bits_merged : (m n : Map) (z id : ℕ) (front rest : List Run) (one two : Run) → IsEdit m n z → z < m.geometry.zones → runs_of m z ≡ front ++ one ∷ two ∷ rest → one.kind ≡ two.kind → MergesIn m n z one.start
    → bits_in (id_runs n id) ≡ bits_in (id_runs m id)
bits_merged m n z id front rest one two edit low was same merges =
    let all : Run = record one { len = one.len + two.len } in
    let r = bits_edited m n z id front (one ∷ two ∷ []) (all ∷ []) rest edit low was (merges front rest one two was refl) in
    omega (arith, r.1.0, r.1.1, part_one id z all, part_two id z one two, both (has_id id one.kind), ap (λ (k : RunKind). share id k two.len) same)
  where
    both : (b : Bool) → cond b one.len 0 + cond b two.len 0 ≡ cond b (one.len + two.len) 0
    both true = omega arith
    both false = omega arith
