-- The bits that bytes take are whole sectors.
use Rattle.std.proofs.Common.{◌≡◌, ◌<◌, ◌==◌, ℕ, ◌+◌, ◌-◌, ◌*◌, ◌/◌, ◌%◌, max, Bool, true, false, cond, replicate, sym, ap, subst, ◌∙◌, inl, inr, arith, mod-lt}
use Rattle.std.specs.Int.{div_ceil, next_multiple_of}
use Rattle.std.proofs.Math.Nat.{zero-mod}
use Rattle.std.proofs.lemmas.List.{length-replicate}
use Rattle.std.proofs.lemmas.Bool.{cases_lt, ne_eqb}
use Rattle.std.proofs.lemmas.Nat.{div-add-mod', mod-mul-add}
use Rattle.fc_newmap.specs.Map.{Map, sector_of}
use Rattle.fc_record.specs.declared.Geometry.{Geometry}
use Rattle.fc_newmap.specs.NewMap.{IsNewMap, IsOfRecord}
use Rattle.fc_newmap.proofs.HeldLemmas.{geometry_facts, shape_fits}
use Rattle.fc_image.specs.effects.Sharing.{units}

next_whole : (x q : ℕ) → 0 < q → next_multiple_of x q % q ≡ 0
next_whole x q some =
    elim (cases_lt 0 (x % q)) [
      | inr none ↦ (
          let full : q - x % q ≡ 1 * q + 0 = omega arith in
          let zero_more : (q - x % q) % q ≡ 0 = ap (λ n. n % q) full ∙ mod-mul-add 1 q 0 some in
          let even : x % q ≡ 0 = omega arith in
          ap (λ n. n % q) (let e : x + (q - x % q) % q ≡ x = omega arith in e) ∙ even)
      | inl more ↦ (
          let low : x % q < q = mod-lt x some in
          let part : (q - x % q) % q ≡ q - x % q = ap (λ n. n % q) (let e : q - x % q ≡ 0 * q + (q - x % q) = omega arith in e) ∙ mod-mul-add 0 q (q - x % q) (omega arith) in
          let whole : x + (q - x % q) % q ≡ (x / q + 1) * q + 0 = omega (arith, part, low, div-add-mod' x q) in
          ap (λ n. n % q) whole ∙ mod-mul-add (x / q + 1) q 0 some)
    ]

max_whole : (a b q : ℕ) → a % q ≡ 0 → b % q ≡ 0 → max a b % q ≡ 0
max_whole a b q ea eb = elim (cases_lt a b) [
  | inl less ↦ ap (λ n. n % q) (let e : max a b ≡ b = omega arith in e) ∙ eb
  | inr more ↦ ap (λ n. n % q) (let e : max a b ≡ a = omega arith in e) ∙ ea
]

pub units_whole_of : (g : Geometry) (bytes : ℕ) → IsOfRecord g → units g bytes % g.q ≡ 0
units_whole_of g bytes of = by (bytes == 0)
  where
    by : (b : Bool) → cond b 0 (max g.min (next_multiple_of (div_ceil bytes g.bit_bytes) g.q)) % g.q ≡ 0
    by true = zero-mod g.q
    by false =
        let some = (geometry_facts g of).zones in
        let fits = shape_fits g 0 (replicate g.sector 0) of (omega arith) (length-replicate g.sector 0) in
        max_whole g.min (next_multiple_of (div_ceil bytes g.bit_bytes) g.q) g.q fits.least_whole (next_whole (div_ceil bytes g.bit_bytes) g.q fits.step)

pub units_whole : (m : Map) (bytes : ℕ) → IsNewMap m → units m.geometry bytes % m.geometry.q ≡ 0
units_whole m bytes is = units_whole_of m.geometry bytes is.of_record

pub units_some : (m : Map) (bytes : ℕ) → IsNewMap m → 0 < bytes → 0 < units m.geometry bytes
units_some m bytes is more =
    let some = (geometry_facts m.geometry is.of_record).zones in
    let fits = shape_fits m.geometry 0 (sector_of m 0) is.of_record (omega arith) (is.whole 0 (omega arith)) in
    let room = fits.least_room in
    let least : 0 < max m.geometry.min (next_multiple_of (div_ceil bytes m.geometry.bit_bytes) m.geometry.q) = omega arith in
    subst (λ (b : Bool). 0 < cond b 0 (max m.geometry.min (next_multiple_of (div_ceil bytes m.geometry.bit_bytes) m.geometry.q))) (sym (ne_eqb bytes 0 (λ e. omega arith))) least
