-- The sectors of places lie on the disc, and hold the bytes.
use Rattle.std.proofs.Common.{◌≡◌, ◌<◌, ◌≤◌, ℕ, zero, suc, ◌+◌, ◌*◌, ◌/◌, ◌^◌, Bool, true, false, cond, List, [], ◌∷◌, length, take, drop, Some, None, refl, sym, ap, ◌∙◌, subst, arith}
use Rattle.std.specs.Prelude.{nat_le, ◌==◌, ◌||◌}
use Rattle.std.specs.List.{range_with_len}
use Rattle.std.specs.Int.{div_ceil}
use Rattle.std.proofs.Math.Nat.{div-le_self}
use Rattle.std.proofs.lemmas.Bool.{leb-true}
use Rattle.std.proofs.lemmas.Grind.{div_ceil_times}
use Rattle.std.proofs.lemmas.List.{length-take-le}
use Rattle.std.proofs.lemmas.List.FromFn.{length-range_with_len}
use Rattle.fc_record.specs.declared.Geometry.{Geometry}
use Rattle.fc_oldmap.specs.OldMap.{OldMapContent}
use Rattle.fc_newmap.specs.Map.{Map, id_runs}
use Rattle.fc_newmap.specs.NewMap.{IsNewMap}
use Rattle.fc_newmap.specs.RunsLaw.{IsGeometry}
use Rattle.fc_newmap.proofs.CoverLemmas.{run_on_disc}
use Rattle.fc_newmap.proofs.GeometryLemmas.{geometry_of_valid}
use Rattle.fc_newmap.proofs.HeldLemmas.{geometry_facts}
use Rattle.fc_newmap.proofs.PlaceLemmas.{holder_of, id_run_in, in_back, range_in}
use Rattle.fc_image.specs.Layout.{Layout, disc_sectors, first_part, id_sectors, is_among}
use Rattle.fc_space.specs.Space.{Suffice}
use Rattle.fc_image.proofs.HolesLemmas.{in_drop}

in_take : (n : ℕ) (xs : List ℕ) (s : ℕ) → is_among (take n xs) s ≡ true → is_among xs s ≡ true
in_take zero xs s e = absurd (cc)
in_take (suc n) [] s e = e
in_take (suc n) (x ∷ xs) s e = by (x == s) e (in_take n xs s)
  where
    by : (b : Bool) → (b || is_among (take n xs) s) ≡ true → (is_among (take n xs) s ≡ true → is_among xs s ≡ true) → (b || is_among xs s) ≡ true
    by true f more = refl
    by false f more = more f

-- what the first part of a row is
pub first_is : (n : ℕ) (xs sectors : List ℕ) → first_part n xs ≡ Some sectors → (n ≤ length xs) × (take n xs ≡ sectors)
first_is n xs sectors e = by (nat_le n (length xs)) refl e
  where
    by : (b : Bool) → nat_le n (length xs) ≡ b → cond b (Some (take n xs)) None ≡ Some sectors → (n ≤ length xs) × (take n xs ≡ sectors)
    by true h f = (leb-true n (length xs) h, (let g : take n xs ≡ sectors = cc in g))
    by false h f = absurd (cc)

module _ (m : Map) (is : IsNewMap m) where
  pub geometry_is : IsGeometry m.geometry
  geometry_is = subst (λ (g : Geometry). IsGeometry g) is.of_record.1.1 (geometry_of_valid is.of_record.0 is.of_record.1.0)

  pub id_on_disc : (id s : ℕ) → is_among (id_sectors m id) s ≡ true → s < disc_sectors (Layout.New m)
  id_on_disc id s e =
      let facts = geometry_facts m.geometry is.of_record in
      let p = holder_of m.geometry (id_runs m id) s e in
      let p_in = id_run_in m id p.0 facts.zones p.1.0 in
      run_on_disc m geometry_is is.right facts.zones facts.begun p.0 s p_in.0 p.1.1

  -- a part of an identifier's sectors, as many as hold the bytes
  pub part_suffices : (id from n sector bytes : ℕ) (sectors : List ℕ) → n ≡ div_ceil bytes sector → sector ≡ m.geometry.sector → first_part n (drop from (id_sectors m id)) ≡ Some sectors
      → Suffice (Layout.New m) bytes sectors
  part_suffices id from n sector bytes sectors counted size e =
      let first = first_is n (drop from (id_sectors m id)) sectors e in
      let long : length sectors ≡ n = ap length (sym first.1) ∙ length-take-le n (drop from (id_sectors m id)) first.0 in
      let enough = (div_ceil_times bytes m.geometry.sector geometry_is.some).0 in
      record {
        on_disc = λ s h. id_on_disc id s (in_drop from (id_sectors m id) s (in_take n (drop from (id_sectors m id)) s (subst (λ (xs : List ℕ). is_among xs s ≡ true) (sym first.1) h)));
        room = subst (λ (k : ℕ). bytes ≤ k * m.geometry.sector) (sym (long ∙ counted ∙ ap (div_ceil bytes) size)) enough;
      }

  pub disc_low : (disc_bits bit_bytes sector : ℕ) → disc_bits ≡ m.geometry.disc_bits → bit_bytes ≡ m.geometry.bit_bytes → (disc_bits * bit_bytes ≤ 2 ^ 40) × (disc_bits * bit_bytes / sector ≤ 2 ^ 40)
  disc_low disc_bits bit_bytes sector d b =
      let bytes = (geometry_facts m.geometry is.of_record).bytes in
      let low : disc_bits * bit_bytes ≤ 2 ^ 40 = rw (d, b) bytes in
      (low, (let l = div-le_self (disc_bits * bit_bytes) sector in omega (arith, low, l)))

-- a row of sectors that ends on the disc of an old map
pub old_suffice : (space : OldMapContent) (bytes first count : ℕ) (sectors : List ℕ) → 0 < space.sector_units → sectors ≡ range_with_len first count → count ≡ div_ceil bytes (256 * space.sector_units)
    → first + count ≤ space.disc_units / space.sector_units → Suffice (Layout.Old space) bytes sectors
old_suffice space bytes first count sectors some is counted ends =
    let long : length sectors ≡ count = ap length is ∙ length-range_with_len first count in
    let enough = (div_ceil_times bytes (256 * space.sector_units) (omega arith)).0 in
    record {
      on_disc = λ s h. (let r = range_in first count s (subst (λ (xs : List ℕ). is_among xs s ≡ true) is h) in omega (arith, r.1, ends));
      room = subst (λ (k : ℕ). bytes ≤ k * (256 * space.sector_units)) (sym (long ∙ counted)) enough;
    }
