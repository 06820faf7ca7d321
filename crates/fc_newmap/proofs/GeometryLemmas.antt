-- What a valid record says of its geometry.
use Rattle.std.proofs.Common.{◌≡◌, ◌<◌, ◌≤◌, ℕ, zero, suc, ◌+◌, ◌-◌, ◌*◌, ◌/◌, ◌%◌, ◌^◌, max, Bool, true, false, cond, List, [], ◌∷◌, length, refl, sym, ap, subst, ◌∙◌, inl, inr, arith, Option, Some, None, mod-lt, ◌⊎◌}
use Rattle.std.proofs.Math.Nat.{mul-le-mul_right, div-le_self}
use Rattle.std.specs.Prelude.{not, ◌&&◌, ◌==◌, nat_le, nat_lt, is_none}
use Rattle.std.specs.List.{find}
use Rattle.std.specs.Option.{option_map}
use Rattle.std.proofs.Math.Pow.{pow-lt, pow_mono}
use Rattle.std.proofs.lemmas.Bool.{cases_order, leb-true, ltb-true, ne_eqb, eq-eqb}
use Rattle.std.proofs.lemmas.Nat.{div-add-mod', pow-add, pow_pos, div-mul-add, mod-mul-add}
use Rattle.fc_record.specs.declared.DiscRecord.{DiscRecord}
use Rattle.fc_record.specs.declared.Geometry.{Geometry}
use Rattle.fc_record.specs.declared.RecordFault.{RecordFault}
use Rattle.fc_record.specs.Record.{geometry, base, first_bit, end_bit, conditions, record_fault, is_valid}
use Rattle.fc_zone.specs.Zone.{IsShapeOf}
use Rattle.fc_newmap.specs.Map.{shape}
use Rattle.fc_newmap.specs.RunsLaw.{IsGeometry}
use Rattle.fc_zone.proofs.ReadingLemmas.{first_part}
use Rattle.fc_record.proofs.KindLemmas.{and_second as second_part}
use Rattle.fc_record.proofs.FaultLemmas.{all_right}

-- ---- powers of two

finer : (d b : ℕ) → (max 1 (2 ^ (d + b) / 2 ^ b) * 2 ^ b) % 2 ^ (d + b) ≡ 0
finer d b =
    let power = pow-add 2 d b in
    let over : 2 ^ (d + b) / 2 ^ b ≡ 2 ^ d = ap (λ n. n / 2 ^ b) (let e : 2 ^ (d + b) ≡ 2 ^ d * 2 ^ b + 0 = omega (arith, power) in e) ∙ div-mul-add (2 ^ d) (2 ^ b) 0 (pow_pos b) in
    let most : max 1 (2 ^ (d + b) / 2 ^ b) ≡ 2 ^ d = ap (max 1) over ∙ (let m : max 1 (2 ^ d) ≡ 2 ^ d = omega (arith, pow_pos d) in m) in
    let back : max 1 (2 ^ (d + b) / 2 ^ b) * 2 ^ b ≡ 1 * 2 ^ (d + b) + 0 = ap (λ n. n * 2 ^ b) most ∙ (let e : 2 ^ d * 2 ^ b ≡ 1 * 2 ^ (d + b) + 0 = omega (arith, power) in e) in
    ap (λ n. n % 2 ^ (d + b)) back ∙ mod-mul-add 1 (2 ^ (d + b)) 0 (pow_pos (d + b))

coarser : (d a : ℕ) → 0 < d → (max 1 (2 ^ a / 2 ^ (d + a)) * 2 ^ (d + a)) % 2 ^ a ≡ 0
coarser d a some =
    let power = pow-add 2 d a in
    let low : 2 ^ a < 2 ^ (d + a) = pow-lt {i = a} {j = d + a} (omega arith) in
    let none : 2 ^ a / 2 ^ (d + a) ≡ 0 = ap (λ n. n / 2 ^ (d + a)) (let e : 2 ^ a ≡ 0 * 2 ^ (d + a) + 2 ^ a = omega arith in e) ∙ div-mul-add 0 (2 ^ (d + a)) (2 ^ a) low in
    let one : max 1 (2 ^ a / 2 ^ (d + a)) ≡ 1 = ap (max 1) none in
    let back : max 1 (2 ^ a / 2 ^ (d + a)) * 2 ^ (d + a) ≡ 2 ^ d * 2 ^ a + 0 = ap (λ n. n * 2 ^ (d + a)) one ∙ (let e : 1 * 2 ^ (d + a) ≡ 2 ^ d * 2 ^ a + 0 = omega (arith, power) in e) in
    ap (λ n. n % 2 ^ a) back ∙ mod-mul-add (2 ^ d) (2 ^ a) 0 (pow_pos a)

whole_bits : (a b : ℕ) → (max 1 (2 ^ a / 2 ^ b) * 2 ^ b) % 2 ^ a ≡ 0
whole_bits a b = elim (cases_order a b) [
  | inl same ↦ subst (λ (n : ℕ). (max 1 (2 ^ n / 2 ^ b) * 2 ^ b) % 2 ^ n ≡ 0) (let e : 0 + b ≡ a = omega arith in e) (finer 0 b)
  | inr rest ↦ elim rest [
    | inl less ↦ subst (λ (n : ℕ). (max 1 (2 ^ a / 2 ^ n) * 2 ^ n) % 2 ^ a ≡ 0) (let e : (b - a) + a ≡ b = omega arith in e) (coarser (b - a) a (omega arith))
    | inr more ↦ subst (λ (n : ℕ). (max 1 (2 ^ n / 2 ^ b) * 2 ^ b) % 2 ^ n ≡ 0) (let e : (a - b) + b ≡ a = omega arith in e) (finer (a - b) b)
  ]
]

-- ---- conditions

no_fault : (o : Option (ℕ × ℕ × Bool)) → is_none (option_map (λ c. let f : RecordFault = record { field = c.0; value = c.1 } in f) o) ≡ true → o ≡ None
no_fault None e = refl
no_fault (Some c) e = absurd (cc)

-- ---- zones

pub ends : (g : Geometry) (z : ℕ) → z + 1 < g.zones → end_bit g z ≡ 32 + g.zone_size
ends g z h = ap (λ b. cond b (first_bit z + g.disc_bits - base g z) (32 + g.zone_size)) (ne_eqb (z + 1) g.zones (omega arith))

pub ends_last : (g : Geometry) (z : ℕ) → z + 1 ≡ g.zones → end_bit g z ≡ first_bit z + g.disc_bits - base g z
ends_last g z h = ap (λ b. cond b (first_bit z + g.disc_bits - base g z) (32 + g.zone_size)) (eq-eqb (z + 1) g.zones h)

pub first_later : (z : ℕ) → first_bit (suc z) ≡ 32
first_later z = ap (λ b. cond b 512 32) (ne_eqb (suc z) 0 (omega arith))

pub base_at : (g : Geometry) (z : ℕ) → 0 < z → base g z ≡ z * g.zone_size - 480
base_at g z some = ap (λ b. cond b 0 (z * g.zone_size - 480)) (ne_eqb z 0 (omega arith))

pub next_base : (g : Geometry) → 480 ≤ g.zone_size → (z : ℕ) → z + 1 < g.zones → base g (z + 1) ≡ base g z + (end_bit g z - first_bit z)
next_base g large zero h = omega (arith, ends g zero h, base_at g 1 (omega arith))
next_base g large (suc z) h =
    omega (arith, ends g (suc z) h, first_later z, base_at g (suc z) (omega arith), base_at g (suc z + 1) (omega arith))

pub first_low : (z : ℕ) → first_bit z ≤ 512
first_low zero = omega arith
first_low (suc z) = omega (arith, first_later z)

in_order : (g : Geometry) → 480 ≤ g.zone_size → base g (g.zones - 1) < g.disc_bits → (z : ℕ) → z < g.zones → first_bit z ≤ end_bit g z
in_order g large last z h = elim (cases_order (z + 1) g.zones) [
  | inl same ↦ (let here : g.zones - 1 ≡ z = omega arith in let l : base g z < g.disc_bits = subst (λ (n : ℕ). base g n < g.disc_bits) here last in omega (arith, ends_last g z same))
  | inr rest ↦ elim rest [ inl less ↦ omega (arith, ends g z less, first_low z) | inr more ↦ absurd (omega arith) ]
]

pub geometry_of_valid : (r : DiscRecord) → is_valid r ≡ true → IsGeometry (geometry r)
unfolding record_fault
geometry_of_valid r e =
    let all = all_right (conditions r) (no_fault (find (λ c. not c.2) (conditions r)) e) in
    let g = geometry r in
    let room : 480 + g.min ≤ g.zone_size = leb-true (480 + g.min) g.zone_size (second_part (nat_le 32 r.spare) (nat_le (480 + g.min) g.zone_size) all.1.1.1.1.0) in
    let ends_on : Bool = nat_le ((g.map_sector + 2 * r.zones) * g.sector) r.size in
    let covered : Bool = nat_le g.disc_bits (r.zones * g.zone_size - 480) in
    let begun : Bool = nat_lt (base g (r.zones - 1)) g.disc_bits in
    let front : Bool = nat_lt 0 r.size && (r.size % g.sector == 0) && nat_le r.size (2 ^ 40) in
    let last : base g (r.zones - 1) < g.disc_bits =
    ltb-true (base g (r.zones - 1)) g.disc_bits (second_part front begun (first_part (front && begun) covered (first_part (front && begun && covered) ends_on all.1.1.1.1.1.0))) in
    record {
      some = pow_pos r.log2_sector;
      whole = whole_bits r.log2_sector r.log2_bit;
      order = in_order (geometry r) (omega (arith, room)) last;
      next = next_base (geometry r) (omega (arith, room));
    }

-- ---- what a valid record says

pub record ValidFacts (r : DiscRecord) : Type 0 where
  pub sector_low : 8 ≤ r.log2_sector
  pub sector_high : r.log2_sector ≤ 10
  pub idlen_low : r.log2_sector + 3 ≤ r.idlen
  pub idlen_high : r.idlen ≤ 19
  pub zones : 1 ≤ r.zones
  pub spare : 32 ≤ r.spare
  pub room : 480 + (geometry r).min ≤ (geometry r).zone_size
  pub size : r.size ≤ 2 ^ 40
  pub begun : base (geometry r) (r.zones - 1) < (geometry r).disc_bits
  pub covered : (geometry r).disc_bits ≤ r.zones * (geometry r).zone_size - 480
  pub fits : ((geometry r).map_sector + 2 * r.zones) * (geometry r).sector ≤ r.size

in_range_low : (lo hi n : ℕ) → (nat_le lo n && nat_le n hi) ≡ true → lo ≤ n
in_range_low lo hi n e = leb-true lo n (first_part (nat_le lo n) (nat_le n hi) e)

in_range_high : (lo hi n : ℕ) → (nat_le lo n && nat_le n hi) ≡ true → n ≤ hi
in_range_high lo hi n e = leb-true n hi (second_part (nat_le lo n) (nat_le n hi) e)

at_most_19 : (b : Bool) (lo n : ℕ) → (nat_le lo n && nat_le n (cond b 15 19)) ≡ true → n ≤ 19
at_most_19 true lo n e = let h = in_range_high lo 15 n e in omega arith
at_most_19 false lo n e = in_range_high lo 19 n e

pub facts_of_valid : (r : DiscRecord) → is_valid r ≡ true → ValidFacts r
unfolding record_fault
facts_of_valid r e =
    let all = all_right (conditions r) (no_fault (find (λ c. not c.2) (conditions r)) e) in
    let g = geometry r in
    let ends_on : Bool = nat_le ((g.map_sector + 2 * r.zones) * g.sector) r.size in
    let covered : Bool = nat_le g.disc_bits (r.zones * g.zone_size - 480) in
    let begun : Bool = nat_lt (base g (r.zones - 1)) g.disc_bits in
    let front : Bool = nat_lt 0 r.size && (r.size % g.sector == 0) in
    let small : Bool = nat_le r.size (2 ^ 40) in
    let here = all.1.1.1.1.1.0 in
    record {
      sector_low = in_range_low 8 10 r.log2_sector all.0;
      sector_high = in_range_high 8 10 r.log2_sector all.0;
      idlen_low = in_range_low (r.log2_sector + 3) _ r.idlen all.1.0;
      idlen_high = at_most_19 (r.version == 0) (r.log2_sector + 3) r.idlen all.1.0;
      zones = leb-true 1 r.zones all.1.1.1.0;
      spare = leb-true 32 r.spare (first_part (nat_le 32 r.spare) (nat_le (480 + g.min) g.zone_size) all.1.1.1.1.0);
      room = leb-true (480 + g.min) g.zone_size (second_part (nat_le 32 r.spare) (nat_le (480 + g.min) g.zone_size) all.1.1.1.1.0);
      size = leb-true r.size (2 ^ 40) (second_part front small (first_part (front && small) begun (first_part (front && small && begun) covered (first_part (front && small && begun && covered) ends_on here))));
      begun = ltb-true (base g (r.zones - 1)) g.disc_bits (second_part (front && small) begun (first_part (front && small && begun) covered (first_part (front && small && begun && covered) ends_on here)));
      covered = leb-true g.disc_bits (r.zones * g.zone_size - 480) (second_part (front && small && begun) covered (first_part (front && small && begun && covered) ends_on here));
      fits = leb-true ((g.map_sector + 2 * r.zones) * g.sector) r.size (second_part (front && small && begun && covered) ends_on here);
    }

-- ---- each zone's bits lie in its sector

last_within : (g : Geometry) (z : ℕ) → z + 1 ≡ g.zones → 480 ≤ g.zone_size → g.disc_bits ≤ g.zones * g.zone_size - 480 → end_bit g z ≤ 32 + g.zone_size
last_within g zero last large covered =
    let n : g.zones ≡ 1 = omega arith in
    let c : g.disc_bits ≤ 1 * g.zone_size - 480 = subst (λ (k : ℕ). g.disc_bits ≤ k * g.zone_size - 480) n covered in
    omega (arith, ends_last g zero last)
last_within g (suc z) last large covered =
    let n : g.zones ≡ suc z + 1 = omega arith in
    let c : g.disc_bits ≤ (suc z + 1) * g.zone_size - 480 = subst (λ (k : ℕ). g.disc_bits ≤ k * g.zone_size - 480) n covered in
    let e : (suc z + 1) * g.zone_size ≡ suc z * g.zone_size + g.zone_size = omega arith in
    omega (arith, ends_last g (suc z) last, first_later z, base_at g (suc z) (omega arith))

pub zone_within : (r : DiscRecord) → ValidFacts r → (z : ℕ) → z < r.zones → end_bit (geometry r) z ≤ 8 * (geometry r).sector
zone_within r is z low =
    let room = is.room in
    let spare = is.spare in
    let power = pow_le_of r.log2_sector is.sector_low in
    let size : (geometry r).zone_size ≡ 8 * 2 ^ r.log2_sector - r.spare = refl in
    let most : end_bit (geometry r) z ≤ 32 + (geometry r).zone_size = elim (cases_order (z + 1) r.zones) [
      | inl same ↦ last_within (geometry r) z same (omega arith) is.covered
      | inr rest ↦ elim rest [ inl less ↦ (let e = ends (geometry r) z less in omega arith) | inr more ↦ absurd (omega arith) ]
    ] in
    omega arith
  where
    pow_le_of : (n : ℕ) → 8 ≤ n → 32 ≤ 8 * 2 ^ n
    pow_le_of n h = let e : (n - 8) + 8 ≡ n = omega arith in let p = pow-add 2 (n - 8) 8 in let q = pow_pos (n - 8) in let s : 2 ^ n ≡ 2 ^ (n - 8) * 2 ^ 8 = ap (λ (k : ℕ). 2 ^ k) (sym e) ∙ p in omega arith

-- ---- the shapes of the zones

module _ (q x : ℕ) (some : 0 < q) where
  next_low : (q - x % q) % q < q
  next_low = mod-lt (q - x % q) some

  -- the next multiple is one
  next_whole : (x + (q - x % q) % q) % q ≡ 0
  next_whole = elim (cases_order (x % q) 0) [
    | inl none ↦ (
        let full : q - x % q ≡ 1 * q + 0 = omega arith in
        let zero_more : (q - x % q) % q ≡ 0 = ap (λ n. n % q) full ∙ mod-mul-add 1 q 0 some in
        ap (λ n. n % q) (let e : x + (q - x % q) % q ≡ x = omega arith in e) ∙ none)
    | inr rest ↦ elim rest [
      | inl less ↦ absurd (omega arith)
      | inr more ↦ (
          let low : x % q < q = mod-lt x some in
          let part : (q - x % q) % q ≡ q - x % q = ap (λ n. n % q) (let e : q - x % q ≡ 0 * q + (q - x % q) = omega arith in e) ∙ mod-mul-add 0 q (q - x % q) (omega arith) in
          let whole : x + (q - x % q) % q ≡ (x / q + 1) * q + 0 = omega (arith, part, low, div-add-mod' x q) in
          ap (λ n. n % q) whole ∙ mod-mul-add (x / q + 1) q 0 some)
    ]
  ]

pub three_sizes : (l n : ℕ) → 8 ≤ l → l ≤ 10 → n ≡ 2 ^ l → (n ≡ 256) ⊎ ((n ≡ 512) ⊎ (n ≡ 1024))
three_sizes l n low high e = elim (cases_order l 9) [
  | inl same ↦ inr (inl (e ∙ ap (λ (k : ℕ). 2 ^ k) same))
  | inr rest ↦ elim rest [
    | inl less ↦ inl (e ∙ ap (λ (k : ℕ). 2 ^ k) (let s : l ≡ 8 = omega arith in s))
    | inr more ↦ inr (inr (e ∙ ap (λ (k : ℕ). 2 ^ k) (let s : l ≡ 10 = omega arith in s)))
  ]
]

pub header_high : (z : ℕ) → 32 ≤ first_bit z
header_high zero = omega arith
header_high (suc z) = omega (arith, first_later z)

-- a zone's bits lie on the disc
pub zone_on_disc : (g : Geometry) (z : ℕ) → z < g.zones → 480 ≤ g.zone_size → base g (g.zones - 1) < g.disc_bits → base g z + (end_bit g z - first_bit z) ≤ g.disc_bits
zone_on_disc g z low large begun = elim (cases_order (z + 1) g.zones) [
  | inl same ↦ (
      let here : g.zones - 1 ≡ z = omega arith in
      let b : base g z < g.disc_bits = subst (λ (n : ℕ). base g n < g.disc_bits) here begun in
      omega (arith, ends_last g z same))
  | inr rest ↦ elim rest [
    | inl less ↦ (
        let next = next_base g large z less in
        let more : (z + 1) * g.zone_size ≤ (g.zones - 1) * g.zone_size = mul-le-mul_right {m = z + 1} {n = g.zones - 1} g.zone_size (omega arith) in
        omega (arith, next, more, base_at g (z + 1) (omega arith), base_at g (g.zones - 1) (omega arith)))
    | inr more ↦ absurd (omega arith)
  ]
]

pub shape_of_valid : (r : DiscRecord) (z : ℕ) (sector : List ℕ) → is_valid r ≡ true → z < (geometry r).zones → length sector ≡ (geometry r).sector → IsShapeOf sector (shape (geometry r) z)
shape_of_valid r z sector valid low len =
    let g = geometry r in
    let is = facts_of_valid r valid in
    let geo = geometry_of_valid r valid in
    let some : 0 < g.q = most_one (g.sector / g.bit_bytes) in
    let within = zone_within r is z low in
    let room = is.room in
    let disc : base g z + (end_bit g z - first_bit z) ≤ g.disc_bits = zone_on_disc g z low (omega arith) is.begun in
    let bits : g.disc_bits ≤ r.size = div-le_self r.size g.bit_bytes in
    let size = is.size in
    let reach : 8 * 2 ^ r.log2_sector ≤ 2 ^ r.idlen =
    (let p = pow-add 2 3 r.log2_sector in let m : 2 ^ (3 + r.log2_sector) ≤ 2 ^ r.idlen = pow_mono {i = 3 + r.log2_sector} {j = r.idlen} (let l = is.idlen_low in omega arith) in omega arith) in
    let part = next_low g.q (r.idlen + 1) some in
    record {
      size = three_sizes r.log2_sector (length sector) is.sector_low is.sector_high len;
      header = header_high z;
      order = geo.order z low;
      within = omega arith;
      links_reach = omega arith;
      field = is.idlen_high;
      disc_bits_fit = omega arith;
      step = some;
      least_whole = next_whole g.q (r.idlen + 1) some;
      least_room = omega arith;
      least = omega arith;
    }
  where
    most_one : (n : ℕ) → 0 < max 1 n
    most_one n = omega arith
