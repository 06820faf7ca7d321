-- New space for a directory that grows lies in holes, whatever becomes of the other objects.
use Rattle.std.proofs.Common.{◌≡◌, ◌<◌, ◌≤◌, inl, inr, ℕ, ◌+◌, ◌-◌, ◌*◌, ◌/◌, ◌%◌, Bool, true, false, cond, List, [], ◌∷◌, refl, sym, ap, ap₂, subst, ◌∙◌, arith, Some, None, Option}
use Rattle.std.specs.Prelude.{Contains, IsPermutation, All, find, ◌==◌}
use Rattle.std.proofs.Math.Nat.{add-mul-div_right, div-mul-le_self, mul-le-mul_right, mul_assoc, zero-div}
use Rattle.std.proofs.lemmas.Bool.{cases_lt}
use Rattle.std.proofs.lemmas.List.Elements.{All-contains}
use Rattle.std.proofs.lemmas.List.Sorted.{Contains-permutation, IsPermutation-sym}
use Rattle.std.proofs.lemmas.Nat.{div-add-mod', le-div}
use Rattle.fc_record.specs.declared.Geometry.{Geometry}
use Rattle.fc_record.specs.Record.{base, first_bit}
use Rattle.fc_newmap.specs.Map.{Map, ZoneRun, all_runs, disc_bit, first_sector, hole_runs, id_runs, is_hole, sector_count}
use Rattle.fc_newmap.specs.NewMap.{IsNewMap}
use Rattle.fc_newmap.specs.RunsLaw.{HoldsSector, IsGeometry}
use Rattle.fc_newmap.proofs.PlaceLemmas.{filter_in, held_in, holder_of}
use Rattle.fc_image.specs.Layout.{Layout, hole_sectors, id_sectors, is_among}
use Rattle.fc_image.proofs.EntriesLemmas.{from_map}
use Rattle.fc_plan.proofs.MapLemmas.{all_placed}
use Rattle.fc_plan.proofs.Order.{same_place}
use Rattle.fc_plan.specs.Taking.{as_runs, with_id}
use Rattle.fc_image.specs.effects.Placed.{HasRunLength, IsFront, holes_left, left_behind, stands_at}
use Rattle.fc_changes.proofs.BasicLemmas.{cases_cons, in_flat, nothing_in}
use Rattle.fc_changes.proofs.PlacedLemmas.{found_in}

-- a sector of a part lies in its hole
front_holds : (g : Geometry) (hole part : ZoneRun) (s : ℕ) → 0 < g.sector → IsFront g hole part → HoldsSector g part s → HoldsSector g hole s
front_holds g hole part s size front holds =
    let place = same_place hole part front.at_front in
    let first : first_sector g hole ≡ first_sector g part =
    ap₂ (λ (z start : ℕ). (base g z + (start - first_bit z)) * g.bit_bytes / g.sector) place.0 place.1 in
    let within = front.within in
    let bytes : part.1.len * g.bit_bytes ≤ hole.1.len * g.bit_bytes = mul-le-mul_right {m = part.1.len} {n = hole.1.len} g.bit_bytes within in
    let whole = div-mul-le_self (part.1.len * g.bit_bytes) g.sector in
    let count : sector_count g part ≤ sector_count g hole = le-div (sector_count g part) (hole.1.len * g.bit_bytes) g.sector size (omega (arith, bytes, whole)) in
    let from = holds.from in
    let to = holds.to in
    record { from = omega (arith, first, from); to = omega (arith, first, to, count) }

-- bits that are a multiple of q are whole sectors
whole_sectors : (g : Geometry) (n : ℕ) → IsGeometry g → n % g.q ≡ 0 → (t : ℕ) × (n * g.bit_bytes ≡ t * g.sector)
whole_sectors g n is multiple =
    let a = n / g.q in
    let b = g.q * g.bit_bytes / g.sector in
    let n_is : n ≡ a * g.q = (let d = div-add-mod' n g.q in omega (arith, d, multiple)) in
    let q_is : g.q * g.bit_bytes ≡ b * g.sector = (let d = div-add-mod' (g.q * g.bit_bytes) g.sector in let w = is.whole in omega (arith, d, w)) in
    (a * b, ap (λ (k : ℕ). k * g.bit_bytes) n_is ∙ mul_assoc a g.q g.bit_bytes ∙ ap (λ (k : ℕ). a * k) q_is ∙ sym (mul_assoc a b g.sector))

distribute : (x y z : ℕ) → (x + y) * z ≡ x * z + y * z
distribute x y z = omega arith

-- a sector behind a part lies in its hole
behind_holds : (g : Geometry) (hole : ZoneRun) (n s : ℕ) → IsGeometry g → first_bit hole.0 ≤ hole.1.start → n % g.q ≡ 0
    → HoldsSector g (hole.0, record hole.1 { start = hole.1.start + n; len = hole.1.len - n }) s → HoldsSector g hole s
behind_holds g hole n s is low multiple holds =
    elim (cases_lt hole.1.len n) [
      | inl short ↦
          (let none : hole.1.len - n ≡ 0 = omega (arith, short) in
          let count : sector_count g (hole.0, record hole.1 { start = hole.1.start + n; len = hole.1.len - n }) ≡ 0 = ap (λ (k : ℕ). k * g.bit_bytes / g.sector) none ∙ ap (λ (k : ℕ). k / g.sector) (let z : 0 * g.bit_bytes ≡ 0 = omega arith in z) ∙ zero-div g.sector in
          let from = holds.from in
          let to = holds.to in
          absurd (omega (arith, from, to, count)))
      | inr long ↦ inside long
    ]
  where
    inside : n ≤ hole.1.len → HoldsSector g hole s
    inside long =
        let t = whole_sectors g n is multiple in
        let rest : ZoneRun = (hole.0, record hole.1 { start = hole.1.start + n; len = hole.1.len - n }) in
        let bit : disc_bit g rest ≡ disc_bit g hole + n = omega (arith, low) in
        let first : first_sector g rest ≡ first_sector g hole + t.0 =
        ap (λ (k : ℕ). k / g.sector) (ap (λ (k : ℕ). k * g.bit_bytes) bit ∙ distribute (disc_bit g hole) n g.bit_bytes ∙ ap (λ (k : ℕ). disc_bit g hole * g.bit_bytes + k) t.1)
        ∙ add-mul-div_right (disc_bit g hole * g.bit_bytes) t.0 is.some in
        let sum : hole.1.len ≡ (hole.1.len - n) + n = omega (arith, long) in
        let count : sector_count g hole ≡ sector_count g rest + t.0 =
        ap (λ (k : ℕ). k / g.sector) (ap (λ (k : ℕ). k * g.bit_bytes) sum ∙ distribute (hole.1.len - n) n g.bit_bytes ∙ ap (λ (k : ℕ). (hole.1.len - n) * g.bit_bytes + k) t.1)
        ∙ add-mul-div_right ((hole.1.len - n) * g.bit_bytes) t.0 is.some in
        let from = holds.from in
        let to = holds.to in
        record { from = omega (arith, first, from); to = omega (arith, first, count, to) }

module _ (m : Map) (is : IsNewMap m) (geo : IsGeometry m.geometry) where
  -- what is left of holes lies in them
  left_holds : (parts : List ZoneRun) → All (HasRunLength m.geometry) parts → (rest : ZoneRun) → Contains (holes_left (hole_runs m) parts) rest → (s : ℕ) → HoldsSector m.geometry rest s
      → (hole : ZoneRun) × Contains (hole_runs m) hole × HoldsSector m.geometry hole s
  left_holds parts long rest at s holds =
      let h = in_flat (λ (hole : ZoneRun). left_behind hole (find (stands_at hole) parts)) (hole_runs m) rest at in
      (h.0, h.1, by h.0 h.1 (find (stands_at h.0) parts) refl h.2)
    where
      by : (hole : ZoneRun) → Contains (hole_runs m) hole → (q : Option ZoneRun) → find (stands_at hole) parts ≡ q → Contains (left_behind hole q) rest → HoldsSector m.geometry hole s
      by hole hole_in None none c = elim (cases_cons hole [] rest c) [ inl same ↦ subst (λ (x : ZoneRun). HoldsSector m.geometry x s) (sym same) holds | inr more ↦ absurd (nothing_in rest more) ]
      by hole hole_in (Some part) some c = by_len (part.1.len == hole.1.len) c
        where
          placed_low : first_bit hole.0 ≤ hole.1.start
          placed_low = (all_placed m is hole (filter_in (λ (q : ZoneRun). is_hole q.1.kind) (all_runs m) hole hole_in).0).in_zone.from

          multiple : part.1.len % m.geometry.q ≡ 0
          multiple = (All-contains (HasRunLength m.geometry) parts part long (found_in (stands_at hole) parts part some).0).1

          by_len : (b : Bool) → Contains (let xs : List ZoneRun = cond b [] ((hole.0, record hole.1 { start = hole.1.start + part.1.len; len = hole.1.len - part.1.len }) ∷ []) in xs) rest → HoldsSector m.geometry hole s
          by_len true d = absurd (nothing_in rest d)
          by_len false d = elim (cases_cons (hole.0, record hole.1 { start = hole.1.start + part.1.len; len = hole.1.len - part.1.len }) [] rest d) [
            | inl same ↦ behind_holds m.geometry hole part.1.len s geo placed_low multiple (subst (λ (x : ZoneRun). HoldsSector m.geometry x s) (sym same) holds)
            | inr more ↦ absurd (nothing_in rest more)
          ]

  -- Runs of an identifier that are parts of what is left of holes lie in holes.
  pub parts_in_holes : (m' : Map) (first parts : List ZoneRun) (id : ℕ) → m'.geometry ≡ m.geometry → All (HasRunLength m.geometry) first
      → All (λ part. (hole : ZoneRun) × Contains (holes_left (hole_runs m) first) hole × IsFront m.geometry hole part) parts → IsPermutation (as_runs id parts) (id_runs m' id)
      → (s : ℕ) → is_among (id_sectors m' id) s ≡ true → is_among (hole_sectors (Layout.New m)) s ≡ true
  parts_in_holes m' first parts id same long fronts own s h =
      let p = holder_of m'.geometry (id_runs m' id) s h in
      let part = from_map (with_id id) parts p.0 (Contains-permutation (id_runs m' id) (as_runs id parts) p.0 (IsPermutation-sym (as_runs id parts) (id_runs m' id) own) p.1.0) in
      let holds : HoldsSector m.geometry part.0 s =
      subst (λ (g : Geometry). HoldsSector g part.0 s) same (turn m'.geometry part.0 (subst (λ (q : ZoneRun). HoldsSector m'.geometry q s) (sym part.2) p.1.1)) in
      let front = All-contains (λ q. (hole : ZoneRun) × Contains (holes_left (hole_runs m) first) hole × IsFront m.geometry hole q) parts part.0 fronts part.1 in
      let hole = left_holds first long front.0 front.1 s (front_holds m.geometry front.0 part.0 s geo.some front.2 holds) in
      held_in m.geometry (hole_runs m) hole.0 s hole.1 hole.2
    where
      turn : (g : Geometry) (q : ZoneRun) → HoldsSector g (with_id id q) s → HoldsSector g q s
      turn g q k = record { from = k.from; to = k.to }
