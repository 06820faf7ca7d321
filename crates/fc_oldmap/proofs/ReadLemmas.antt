-- Holes read one after another.
use Rattle.std.proofs.Common.{◌≡◌, ℕ, suc, ◌+◌, ◌-◌, ◌/◌, ◌%◌, ◌<◌, ◌≤◌, Bool, true, false, cond, List, [], ◌∷◌, ◌++◌, length, map, take, drop, slice_index, refl, sym, arith, Some, None, Ok, Err, Result, ◌^◌}
use Rattle.std.specs.Prelude.{◌==◌, nat_le, nat_lt, ◌&&◌}
use Rattle.std.specs.List.{range_with_len}
use Rattle.std.proofs.lemmas.Bool.{leb-true, eqb-true}
use Rattle.std.proofs.lemmas.List.{get_or-drop}
use Rattle.std.proofs.lemmas.Option.{none-some}
use Rattle.std.proofs.lemmas.List.FromFn.{map-range_with_len_more, length-map-range_with_len}
use Rattle.fc_oldmap.specs.declared.Hole.{Hole}
use Rattle.fc_oldmap.specs.Holes.{hole_end, IsHole, AreHoles}
use Rattle.fc_oldmap.specs.OldMap.{OldMapContent, stored_hole, holes_of, is_free_end, is_hole_right, map_units, old_map, wrong_hole}
use Rattle.fc_oldmap.specs.declared.OldMapFault.{OldMapFault}
use Rattle.fc_oldmap.specs.declared.OldMapFault.TheVariants.{Check, Bad}
use Rattle.fc_bytes.specs.Words.{u24_at}
use Rattle.fc_bytes.specs.Checks.{is_half_right}

-- n stored holes from a number on
unfoldable pub holes_from : List ℕ → ℕ → ℕ → List Hole
holes_from bytes a n = map (stored_hole bytes) (range_with_len a n)

pub holes_from-all : (bytes : List ℕ) (n : ℕ) → holes_from bytes 0 n ≡ holes_of bytes n
unfolding holes_from holes_of
holes_from-all bytes n = refl

pub holes_of-none : (bytes : List ℕ) → holes_of bytes 0 ≡ []
unfolding holes_of
holes_of-none bytes = refl

pub holes_of-more : (bytes : List ℕ) (n : ℕ) → holes_of bytes (n + 1) ≡ holes_of bytes n ++ stored_hole bytes n ∷ []
unfolding holes_of
holes_of-more bytes n = map-range_with_len_more (stored_hole bytes) 0 n n (omega arith)

pub length-holes_of : (bytes : List ℕ) (n : ℕ) → length (holes_of bytes n) ≡ n
unfolding holes_of
length-holes_of bytes n = length-map-range_with_len (stored_hole bytes) 0 n

module _ (disc units : ℕ) where
  -- a right hole is passed over
  pub wrong_hole-right : (bytes : List ℕ) (i n m floor : ℕ) → i < n → m ≡ n - (i + 1) → is_hole_right disc units floor (stored_hole bytes i) ≡ true
      → wrong_hole disc units i floor (holes_from bytes i (n - i)) ≡ wrong_hole disc units (i + 1) (hole_end (stored_hole bytes i)) (holes_from bytes (i + 1) m)
  unfolding wrong_hole holes_from
  wrong_hole-right bytes i n m floor below left right =
      let e : n - i ≡ suc m = omega arith in
      rw (e, right) refl

  -- and a wrong one is found
  pub wrong_hole-here : (bytes : List ℕ) (i n floor : ℕ) → i < n → is_hole_right disc units floor (stored_hole bytes i) ≡ false
      → wrong_hole disc units i floor (holes_from bytes i (n - i)) ≡ Some i
  unfolding wrong_hole holes_from
  wrong_hole-here bytes i n floor below wrong =
      let e : n - i ≡ suc (n - i - 1) = omega arith in
      rw (e, wrong) refl

  pub wrong_hole-end : (bytes : List ℕ) (i n floor : ℕ) → n ≡ i → wrong_hole disc units i floor (holes_from bytes i (n - i)) ≡ None
  unfolding wrong_hole holes_from
  wrong_hole-end bytes i n floor at =
      let e : n - i ≡ 0 = omega arith in
      rw e refl

  -- a hole that passes the test
  and-parts : (a b : Bool) → (a && b) ≡ true → (a ≡ true) × (b ≡ true)
  and-parts true b e = (refl, e)
  and-parts false b e = (e, absurd (cc e))

  pub right-is : (floor : ℕ) (h : Hole) → is_hole_right disc units floor h ≡ true → IsHole disc units floor h
  unfolding is_hole_right
  right-is floor h right =
      let a = and-parts (nat_lt 0 h.len && nat_le floor h.start && nat_le (hole_end h) disc && (h.start % units == 0)) (hole_end h % units == 0) right in
      let b = and-parts (nat_lt 0 h.len && nat_le floor h.start && nat_le (hole_end h) disc) (h.start % units == 0) a.0 in
      let c = and-parts (nat_lt 0 h.len && nat_le floor h.start) (nat_le (hole_end h) disc) b.0 in
      let d = and-parts (nat_lt 0 h.len) (nat_le floor h.start) c.0 in
      record { positive = leb-true 1 h.len d.0; onward = leb-true floor h.start d.1; inside = leb-true (hole_end h) disc c.1; begins = eqb-true (h.start % units) 0 b.1; ends = eqb-true (hole_end h % units) 0 a.1 }

  -- where no hole is wrong the holes rise
  pub AreHoles-right : (i floor : ℕ) (holes : List Hole) → wrong_hole disc units i floor holes ≡ None → AreHoles disc units floor holes
  unfolding wrong_hole
  AreHoles-right i floor [] none = tt
  AreHoles-right i floor (h ∷ holes) none = by (is_hole_right disc units floor h) refl none (AreHoles-right (i + 1) (hole_end h) holes)
    where
      by : (b : Bool) → is_hole_right disc units floor h ≡ b → cond b (wrong_hole disc units (i + 1) (hole_end h) holes) (Some i) ≡ None
          → (wrong_hole disc units (i + 1) (hole_end h) holes ≡ None → AreHoles disc units (hole_end h) holes) → IsHole disc units floor h × AreHoles disc units (hole_end h) holes
      by true right none rest = (right-is floor h right, rest none)
      by false right none rest = absurd (none-some i (sym none))

-- what reading gives, test by test
module _ (bytes : List ℕ) (units : ℕ) where
  pub old_map-first : is_half_right (take 256 bytes) ≡ false → old_map bytes units ≡ Err (Check 0)
  unfolding old_map
  old_map-first first = rw first refl

  pub old_map-second : is_half_right (take 256 bytes) ≡ true → is_half_right (take 256 (drop 256 bytes)) ≡ false → old_map bytes units ≡ Err (Check 1)
  unfolding old_map
  old_map-second first second = rw (first, second) refl

  module _ (first : is_half_right (take 256 bytes) ≡ true) (second : is_half_right (take 256 (drop 256 bytes)) ≡ true) where
    pub old_map-end : is_free_end (slice_index bytes 510) ≡ false → old_map bytes units ≡ Err (Bad (slice_index bytes 510 / 3))
    unfolding old_map
    old_map-end wrong = rw (first, second, wrong) refl

    pub old_map-wrong : is_free_end (slice_index bytes 510) ≡ true → (i : ℕ)
        → wrong_hole (u24_at bytes 252) units 0 (map_units units) (holes_of bytes (slice_index bytes 510 / 3)) ≡ Some i → old_map bytes units ≡ Err (Bad i)
    unfolding old_map
    old_map-wrong right i wrong = rw (first, second, right, wrong) refl

    pub old_map-right : is_free_end (slice_index bytes 510) ≡ true
        → wrong_hole (u24_at bytes 252) units 0 (map_units units) (holes_of bytes (slice_index bytes 510 / 3)) ≡ None
        → old_map bytes units ≡ Ok (record { holes = holes_of bytes (slice_index bytes 510 / 3); disc_units = u24_at bytes 252; sector_units = units })
    unfolding old_map
    old_map-right right none = rw (first, second, right, none) refl

-- the two answers as functions
abbrev pub bad : ℕ → Result OldMapContent OldMapFault
bad index = Err (Bad index)

abbrev pub read_as : OldMapContent → Result OldMapContent OldMapFault
read_as space = Ok space

pub few_holes : (n : ℕ) → is_free_end n ≡ true → n / 3 ≤ 82
few_holes n right =
    let fits = leb-true n 246 (and-parts' (n % 3 == 0) (nat_le n 246) right) in
    omega arith
  where
    and-parts' : (a b : Bool) → (a && b) ≡ true → b ≡ true
    and-parts' true b e = e
    and-parts' false b e = absurd (cc e)

pub u24_fits : (bytes : List ℕ) → ((i : ℕ) → slice_index bytes i < 256) → u24_at bytes 252 < 2 ^ 24
u24_fits bytes fits =
    let at = λ (k : ℕ). get_or-drop 252 bytes k 0 in
    omega (arith, at 0, at 1, at 2, fits 252, fits 253, fits 254)
