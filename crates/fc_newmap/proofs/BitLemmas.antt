-- The run in which a bit of the disc lies.
use Rattle.std.proofs.Common.{◌≡◌, ◌<◌, ◌≤◌, ℕ, zero, suc, ◌+◌, ◌-◌, ◌*◌, ◌/◌, ◌%◌, Bool, true, false, cond, Option, Some, None, List, [], ◌∷◌, ◌++◌, refl, sym, ap, ap₂, subst, ◌∙◌, inl, inr, arith, mod-lt}
use Rattle.std.specs.Prelude.{find, nat_le, ◌&&◌}
use Rattle.std.specs.List.{range_with_len}
use Rattle.std.specs.Option.{option_or}
use Rattle.std.proofs.Math.Nat.{mul-le-mul_right}
use Rattle.std.proofs.lemmas.Bool.{cases_lt, cases_order, le-leb, lt-ltb, le-ltb}
use Rattle.std.proofs.lemmas.Nat.{div-add-mod'}
use Rattle.std.proofs.lemmas.List.Folds.{find-append}
use Rattle.std.proofs.lemmas.List.Concat.{flat_map-append}
use Rattle.fc_bytes.specs.Bits.{bits}
use Rattle.fc_record.specs.declared.Geometry.{Geometry}
use Rattle.fc_record.specs.Record.{base, first_bit, end_bit}
use Rattle.fc_zone.specs.declared.Run.{Run}
use Rattle.fc_zone.specs.Zone.{Spells}
use Rattle.fc_zone.proofs.ZoneLemmas.{Spells-le}
use Rattle.fc_newmap.specs.declared.walk.Walk.{Walk}
use Rattle.std.specs.Option.{IsSome}
use Rattle.fc_newmap.specs.Map.{Map, ZoneRun, all_runs, disc_bit, holds_bit, run_at, runs_in, runs_of, sector_of, shape}
use Rattle.fc_newmap.specs.NewMap.{IsNewMap, IsOfRecord}
use Rattle.fc_newmap.specs.RunsLaw.{placed}
use Rattle.fc_newmap.specs.Walk.{StandsBefore}
use Rattle.fc_newmap.proofs.CoverLemmas.{range_cut}
use Rattle.fc_newmap.proofs.GeometryLemmas.{base_at, ends, ends_last, first_later, first_low, next_base}
use Rattle.fc_newmap.proofs.HeldLemmas.{geometry_facts}
use Rattle.fc_newmap.proofs.WalkLemmas.{IsStepOf}

-- ---- the zone of a bit

pub zone_number : (g : Geometry) (bit q : ℕ) → IsOfRecord g → bit < g.disc_bits → q ≡ (bit + 480) / g.zone_size
    → (q < g.zones) × (base g q ≤ bit) × (bit < base g q + (end_bit g q - first_bit q))
zone_number g bit q is low e =
    let f = geometry_facts g is in
    let room = f.room in
    let covered = f.covered in
    let parts : q * g.zone_size + (bit + 480) % g.zone_size ≡ bit + 480 = ap (λ (n : ℕ). n * g.zone_size + (bit + 480) % g.zone_size) e ∙ div-add-mod' (bit + 480) g.zone_size in
    let rest = mod-lt (bit + 480) {m = g.zone_size} (omega arith) in
    let less : q < g.zones = elim (cases_lt q g.zones) [
      | inl here ↦ here
      | inr past ↦ absurd (let all : g.zones * g.zone_size ≤ q * g.zone_size = mul-le-mul_right {m = g.zones} {n = q} g.zone_size past in omega arith)
    ] in (
      less,
      from q refl,
      elim (cases_order (q + 1) g.zones) [
        | inl last ↦ (
            let here : g.zones - 1 ≡ q = omega arith in
            let begun : base g q < g.disc_bits = subst (λ (n : ℕ). base g n < g.disc_bits) here f.begun in
            let l = first_low q in
            omega (arith, ends_last g q last))
        | inr other ↦ elim other [
          | inl before ↦ to q refl before
          | inr after ↦ absurd (omega arith)
        ]
      ],
    )
  where
    parts_of : (n : ℕ) → q ≡ n → (n * g.zone_size ≤ bit + 480) × (bit + 480 < n * g.zone_size + g.zone_size)
    parts_of n same =
        let f = geometry_facts g is in
        let parts : n * g.zone_size + (bit + 480) % g.zone_size ≡ bit + 480 = ap (λ (k : ℕ). k * g.zone_size + (bit + 480) % g.zone_size) (sym same ∙ e) ∙ div-add-mod' (bit + 480) g.zone_size in
        let rest = mod-lt (bit + 480) {m = g.zone_size} (let r = f.room in omega arith) in
        (omega arith, omega arith)

    from : (n : ℕ) → q ≡ n → base g n ≤ bit
    from zero same = omega arith
    from (suc n) same = let p = parts_of (suc n) same in omega (arith, base_at g (suc n) (omega arith), p.0)

    to : (n : ℕ) → q ≡ n → n + 1 < g.zones → bit < base g n + (end_bit g n - first_bit n)
    to zero same before = let p = parts_of zero same in omega (arith, ends g zero before, p.1)
    to (suc n) same before =
        let p = parts_of (suc n) same in
        let f = geometry_facts g is in
        let more : 1 * g.zone_size ≤ suc n * g.zone_size = mul-le-mul_right {m = 1} {n = suc n} g.zone_size (omega arith) in
        let one : 1 * g.zone_size ≡ g.zone_size = omega arith in
        omega (arith, ends g (suc n) before, base_at g (suc n) (omega arith), first_later n, p.1, f.room)

-- ---- the run among those of its zone

holds : (g : Geometry) (bit : ℕ) (p : ZoneRun) → disc_bit g p ≤ bit → bit < disc_bit g p + p.1.len → holds_bit g bit p ≡ true
holds g bit p from to = ap₂ (λ (x y : Bool). x && y) (le-leb (disc_bit g p) bit from) (lt-ltb bit (disc_bit g p + p.1.len) to)

holds_later : (g : Geometry) (bit : ℕ) (p : ZoneRun) → disc_bit g p + p.1.len ≤ bit → holds_bit g bit p ≡ false
holds_later g bit p past = ap (λ (y : Bool). nat_le (disc_bit g p) bit && y) (le-ltb bit (disc_bit g p + p.1.len) past) ∙ no (nat_le (disc_bit g p) bit)
  where
    no : (b : Bool) → (b && false) ≡ false
    no true = refl
    no false = refl

skipped : (g : Geometry) (bit : ℕ) (p : ZoneRun) (rest : List ZoneRun) → holds_bit g bit p ≡ false → find (holds_bit g bit) (p ∷ rest) ≡ find (holds_bit g bit) rest
skipped g bit p rest e = ap (λ (b : Bool). cond b (Some p) (find (holds_bit g bit) rest)) e

found : (g : Geometry) (bit : ℕ) (p : ZoneRun) (rest : List ZoneRun) → holds_bit g bit p ≡ true → find (holds_bit g bit) (p ∷ rest) ≡ Some p
found g bit p rest e = ap (λ (b : Bool). cond b (Some p) (find (holds_bit g bit) rest)) e

-- no run of a zone that ends at or before the bit
none_holds : (g : Geometry) (z bit : ℕ) (bs : List ℕ) (runs : List Run) (at end : ℕ) → first_bit z ≤ at → Spells (shape g z) bs at runs end → base g z + (end - first_bit z) ≤ bit
    → find (holds_bit g bit) (placed z runs) ≡ None
none_holds g z bit bs [] at end low h past = refl
none_holds g z bit bs (run ∷ runs) at end low h past =
    let first = h.0 in
    let long = h.1.long in
    let le = Spells-le (shape g z) bs runs (at + run.len) end h.3 in
    skipped g bit (z, run) (placed z runs) (holds_later g bit (z, run) (omega arith)) ∙ none_holds g z bit bs runs (at + run.len) end (omega arith) h.3 past

some_holds : (g : Geometry) (z bit : ℕ) (bs : List ℕ) (runs : List Run) (at end : ℕ) → first_bit z ≤ at → Spells (shape g z) bs at runs end
    → base g z + (at - first_bit z) ≤ bit → bit < base g z + (end - first_bit z) → (p : ZoneRun) × (find (holds_bit g bit) (placed z runs) ≡ Some p)
some_holds g z bit bs [] at end low h from to = absurd (omega arith)
some_holds g z bit bs (run ∷ runs) at end low h from to =
    let first = h.0 in
    let long = h.1.long in
    elim (cases_lt bit (base g z + (at + run.len - first_bit z))) [
      | inl here ↦ ((z, run), found g bit (z, run) (placed z runs) (holds g bit (z, run) (omega arith) (omega arith)))
      | inr past ↦ (
          let rest = some_holds g z bit bs runs (at + run.len) end (omega arith) h.3 (omega arith) to in
          (rest.0, skipped g bit (z, run) (placed z runs) (holds_later g bit (z, run) (omega arith)) ∙ rest.1))
    ]

-- ---- the zones before

zones_before : (m : Map) → IsNewMap m → (n from z bit : ℕ) → from + n ≡ z → z < m.geometry.zones → base m.geometry z ≤ bit → find (holds_bit m.geometry bit) (runs_in m (range_with_len from n)) ≡ None
zones_before m is zero from z bit e low at = refl
zones_before m is (suc n) from z bit e low at =
    let g = m.geometry in
    let f = geometry_facts g is.of_record in
    let zone = is.right from (omega arith) in
    let next = next_base g f.room from (omega arith) in
    let more : (from + 1) * g.zone_size ≤ z * g.zone_size = mul-le-mul_right {m = from + 1} {n = z} g.zone_size (omega arith) in
    let up : base g (from + 1) ≤ base g z = omega (arith, base_at g (from + 1) (omega arith), base_at g z (omega arith), more) in
    find-append (holds_bit g bit) (placed from (runs_of m from)) (runs_in m (range_with_len (from + 1) n))
    ∙ ap₂ option_or (none_holds g from bit (bits (sector_of m from)) (runs_of m from) (first_bit from) (end_bit g from) (omega arith) zone.spelled (omega arith))
    (zones_before m is n (from + 1) z bit (omega arith) low at)

-- the run is found in its zone
pub found_in_zone : (m : Map) → IsNewMap m → (z bit : ℕ) → z < m.geometry.zones → base m.geometry z ≤ bit → bit < base m.geometry z + (end_bit m.geometry z - first_bit z)
    → (p : ZoneRun) × ((run_at m bit ≡ Some p) × (find (holds_bit m.geometry bit) (placed z (runs_of m z) ++ []) ≡ Some p))
found_in_zone m is z bit low from to =
    let g = m.geometry in
    let zone = is.right z low in
    let t = holds_bit g bit in
    let r = some_holds g z bit (bits (sector_of m z)) (runs_of m z) (first_bit z) (end_bit g z) (omega arith) zone.spelled (omega arith) to in
    let n = g.zones - z - 1 in
    let order : range_with_len 0 g.zones ≡ range_with_len 0 z ++ (z ∷ range_with_len (z + 1) n) =
    ap (range_with_len 0) (let e : g.zones ≡ z + suc n = omega arith in e) ∙ range_cut 0 z (suc n)
    ∙ ap (λ (k : ℕ). range_with_len 0 z ++ range_with_len k (suc n)) (let e : 0 + z ≡ z = omega arith in e) in
    let all : all_runs m ≡ runs_in m (range_with_len 0 z) ++ (placed z (runs_of m z) ++ runs_in m (range_with_len (z + 1) n)) =
    ap (runs_in m) order ∙ flat_map-append (λ y. placed y (runs_of m y)) (range_with_len 0 z) (z ∷ range_with_len (z + 1) n) in (
      r.0,
      (
        ap (find t) all ∙ find-append t (runs_in m (range_with_len 0 z)) (placed z (runs_of m z) ++ runs_in m (range_with_len (z + 1) n))
            ∙ ap₂ option_or (zones_before m is z 0 z bit (omega arith) low from)
            (find-append t (placed z (runs_of m z)) (runs_in m (range_with_len (z + 1) n)) ∙ ap (λ (o : Option ZoneRun). option_or o (find t (runs_in m (range_with_len (z + 1) n)))) r.1),
        find-append t (placed z (runs_of m z)) [] ∙ ap (λ (o : Option ZoneRun). option_or o None) r.1,
      ),
    )

-- ---- the walk to it

-- what is left of the walk has the run
pub record IsAhead (m : Map) (bit : ℕ) (walk : Walk) : Type 0 where
  pub left : List ZoneRun
  pub run : ZoneRun
  pub stands : StandsBefore m left walk
  pub ahead : find (holds_bit m.geometry bit) left ≡ Some run
  pub is : run_at m bit ≡ Some run

pub ahead_some : (m : Map) (bit : ℕ) (old new : Walk) (result : Option ZoneRun) → IsAhead m bit old → IsStepOf m old new result → IsSome result
ahead_some m bit old new None ahead step = absurd (let r = step ahead.left ahead.stands in let n = ap (find (holds_bit m.geometry bit)) (sym r.0) ∙ ahead.ahead in let k : None ≡ Some ahead.run = n in cc)
ahead_some m bit old new (Some p) ahead step = refl

pub ahead_end : (m : Map) (bit : ℕ) (old new : Walk) (p : ZoneRun) → IsAhead m bit old → IsStepOf m old new (Some p) → holds_bit m.geometry bit p ≡ true → run_at m bit ≡ Some p
ahead_end m bit old new p ahead step e =
    let r = step ahead.left ahead.stands in
    ahead.is ∙ sym ahead.ahead ∙ ap (find (holds_bit m.geometry bit)) r.1.0 ∙ found m.geometry bit p r.0 e

pub ahead_on : (m : Map) (bit : ℕ) (old new : Walk) (p : ZoneRun) → IsAhead m bit old → IsStepOf m old new (Some p) → holds_bit m.geometry bit p ≡ false → IsAhead m bit new
ahead_on m bit old new p ahead step e =
    let r = step ahead.left ahead.stands in
    record {
      left = r.0;
      run = ahead.run;
      stands = r.1.1;
      ahead = sym (skipped m.geometry bit p r.0 e) ∙ ap (find (holds_bit m.geometry bit)) (sym r.1.0) ∙ ahead.ahead;
      is = ahead.is;
    }
