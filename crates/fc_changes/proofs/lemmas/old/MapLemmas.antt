-- The old map of an image, before and after it is written.
use Rattle.std.proofs.Common.{◌≡◌, ◌<◌, ◌≤◌, ◌∷◌, ◌+◌, ◌-◌, ◌*◌, ◌/◌, ◌%◌, ◌⊎◌, inl, inr, ℕ, zero, suc, Bool, true, false, List, [], length, take, drop, refl, sym, ap, ap₂, subst, ◌∙◌, arith}
use Rattle.std.specs.Prelude.{nat_le, Option, Some, None, Result, Ok, Err, if◌then◌else◌, ◌==◌, ◌&&◌, ◌++◌}
use Rattle.byteorder.specs.Endian.{little_number}
use Rattle.std.proofs.lemmas.List.{get_or-take, drop-take, take-take, length-take-le}
use Rattle.std.proofs.lemmas.List.FromFn.{map-range_with_len_more}
use Rattle.std.proofs.lemmas.Bool.{and_from, leb-true, le-leb, lt-ltb, eq-eqb, eqb-true, and_parts}
use Rattle.std.specs.List.{range_with_len}
use Rattle.std.specs.Int.{is_in_range}
use Rattle.std.proofs.Math.Seq.{take-add}
use Rattle.fc_bytes.specs.Words.{bytes_at, u24_at}
use Rattle.fc_bytes.specs.Checks.{is_half_right}
use Rattle.fc_device.specs.Sectors.{sector_at}
use Rattle.fc_record.specs.declared.Kind.{Kind}
use Rattle.fc_record.specs.declared.Kind.TheVariants.{Boot, OneZone, DiscD, DiscL}
use Rattle.fc_record.specs.Kinds.{IsKind, disc_size, fits_kind, is_old_map, old_units}
use Rattle.fc_oldmap.specs.declared.Hole.{Hole}
use Rattle.fc_oldmap.specs.declared.OldMapFault.{OldMapFault}
use Rattle.fc_oldmap.specs.declared.OldMapFault.TheVariants.{Check, Bad}
use Rattle.fc_oldmap.specs.OldMap.{OldMapContent, IsOldMap, free_end, free_space, hole_fault, holes_of, is_free_end, is_hole_right, map_units, old_map, stored_hole, stored_holes, wrong_hole}
use Rattle.fc_oldmap.specs.Holes.{AreHoles, IsHole, hole, hole_end}
use Rattle.fc_oldmap.specs.Laws.{ReadsBack}
use Rattle.fc_newmap.specs.Map.{Map}
use Rattle.fc_image.specs.declared.ImageFault.{ImageFault}
use Rattle.fc_image.specs.Layout.{Layout}
use Rattle.fc_image.specs.Opening.{MapAndRoot, holes_or, map_and_root, old_layout}
use Rattle.fc_image.specs.Stays.{HasSectorsOf}
use Rattle.fc_image.proofs.HolesLemmas.{found_map}
use Rattle.fc_changes.specs.old.Owed.{IsMapAfter, holding}
use Rattle.fc_oldmap.proofs.ReadLemmas.{holes_of-more as holes_step}
use Rattle.fc_image.proofs.OldEditLemmas.{found_ok}
use Rattle.fc_image.proofs.OldMapLemmas.{old_same, not_old as no_new}

-- ---- what reading 512 bytes answers

pub record IsRead (bytes : List ℕ) (units : ℕ) (space : OldMapContent) : Type 0 where
  pub first : is_half_right (bytes_at bytes 0 256) ≡ true
  pub second : is_half_right (bytes_at bytes 256 256) ≡ true
  pub none : hole_fault bytes units ≡ None
  pub is : free_space bytes units ≡ space

module _ (bytes : List ℕ) (units : ℕ) where
  first_wrong : is_half_right (bytes_at bytes 0 256) ≡ false → old_map bytes units ≡ Err (Check 0)
  unfolding old_map
  first_wrong first = rw first refl

  second_wrong : is_half_right (bytes_at bytes 0 256) ≡ true → is_half_right (bytes_at bytes 256 256) ≡ false → old_map bytes units ≡ Err (Check 1)
  unfolding old_map
  second_wrong first second = rw (first, second) refl

  hole_wrong : is_half_right (bytes_at bytes 0 256) ≡ true → is_half_right (bytes_at bytes 256 256) ≡ true → (i : ℕ) → hole_fault bytes units ≡ Some i → old_map bytes units ≡ Err (Bad i)
  unfolding old_map
  hole_wrong first second i wrong = rw (first, second, wrong) refl

  all_right : is_half_right (bytes_at bytes 0 256) ≡ true → is_half_right (bytes_at bytes 256 256) ≡ true → hole_fault bytes units ≡ None → old_map bytes units ≡ Ok (free_space bytes units)
  unfolding old_map
  all_right first second none = rw (first, second, none) refl

  read_is : (space : OldMapContent) → old_map bytes units ≡ Ok space → IsRead bytes units space
  read_is space e = go (is_half_right (bytes_at bytes 0 256)) (is_half_right (bytes_at bytes 256 256)) (hole_fault bytes units) refl refl refl
    where
      ok_same : (x y : OldMapContent) → (let q : Result OldMapContent OldMapFault = Ok x in q) ≡ Ok y → x ≡ y
      ok_same x y h = cc

      go : (first second : Bool) (fault : Option ℕ) → is_half_right (bytes_at bytes 0 256) ≡ first → is_half_right (bytes_at bytes 256 256) ≡ second → hole_fault bytes units ≡ fault
          → IsRead bytes units space
      go false second fault f s h = absurd (let is = first_wrong f in cc)
      go true false fault f s h = absurd (let is = second_wrong f s in cc)
      go true true (Some i) f s h = absurd (let is = hole_wrong f s i h in cc)
      go true true None f s h = record { first = f; second = s; none = h; is = ok_same (free_space bytes units) space (sym (all_right f s h) ∙ e) }

-- ---- the front of an image

pub little_front : (k : ℕ) (l : List ℕ) → 3 ≤ k → little_number 3 (take k l) ≡ little_number 3 l
little_front k l high =
    let a = get_or-take k l 0 0 (omega arith) in
    let b = get_or-take k l 1 0 (omega arith) in
    let c = get_or-take k l 2 0 (omega arith) in
    omega (arith, a, b, c)

pub u24_front : (image : List ℕ) (i : ℕ) → i + 3 ≤ 512 → u24_at (take 512 image) i ≡ u24_at image i
u24_front image i low =
    let k : ℕ = 512 - i in
    let e : 512 ≡ i + k = omega arith in
    ap (λ n. little_number 3 (drop i (take n image))) e ∙ ap (little_number 3) (drop-take i k image) ∙ little_front k (drop i image) (omega arith)

pub end_front : (image : List ℕ) → free_end (take 512 image) ≡ free_end image
end_front image = get_or-take 512 image 510 0 (omega arith)

pub hole_front : (image : List ℕ) (i : ℕ) → i < 82 → stored_hole (take 512 image) i ≡ stored_hole image i
hole_front image i low = ap₂ (λ a b. hole a b) (u24_front image (3 * i) (omega arith)) (u24_front image (256 + 3 * i) (omega arith))

pub holes_front : (image : List ℕ) (n : ℕ) → n ≤ 82 → holes_of (take 512 image) n ≡ holes_of image n
unfolding holes_of
holes_front image zero low = refl
holes_front image (suc n) low =
    let e : suc n ≡ n + 1 = omega arith in
    ap (holes_of (take 512 image)) e ∙ holes_step (take 512 image) n
    ∙ ap₂ (λ hs h. hs ++ h ∷ []) (holes_front image n (omega arith)) (hole_front image n (omega arith))
    ∙ sym (ap (holes_of image) e ∙ holes_step image n)

pub few : (n : ℕ) → is_free_end n ≡ true → n / 3 ≤ 82
few n right = let fits = leb-true n 246 (and_parts (n % 3 == 0) (nat_le n 246) right).1 in omega arith

pub space_front : (image : List ℕ) (units : ℕ) → is_free_end (free_end image) ≡ true → free_space (take 512 image) units ≡ free_space image units
space_front image units right =
    let ends = end_front image in
    let holes : stored_holes (take 512 image) ≡ stored_holes image = ap (λ n. holes_of (take 512 image) (n / 3)) ends ∙ holes_front image (free_end image / 3) (few (free_end image) right) in
    ap₂ (λ hs n. let s : OldMapContent = record { holes = hs; disc_units = n; sector_units = units } in s) holes (u24_front image 252 (omega arith))

abbrev pub fault_by : Bool → ℕ → ℕ → List Hole → ℕ → Option ℕ
fault_by right disc units holes last = if right then wrong_hole disc units 0 (map_units units) holes else Some (last / 3)

pub fault_front : (image : List ℕ) (units : ℕ) → hole_fault (take 512 image) units ≡ hole_fault image units
fault_front image units = go (is_free_end (free_end image)) refl
  where
    go : (right : Bool) → is_free_end (free_end image) ≡ right → hole_fault (take 512 image) units ≡ hole_fault image units
    go true right =
        let ends = end_front image in
        let s = space_front image units right in
        let there : is_free_end (free_end (take 512 image)) ≡ true = ap is_free_end ends ∙ right in
        ap (λ b. fault_by b (u24_at (take 512 image) 252) units (stored_holes (take 512 image)) (free_end (take 512 image))) there
        ∙ ap (λ (x : OldMapContent). wrong_hole x.disc_units units 0 (map_units units) x.holes) s
        ∙ sym (ap (λ b. fault_by b (u24_at image 252) units (stored_holes image) (free_end image)) right)
    go false wrong =
        let ends = end_front image in
        let there : is_free_end (free_end (take 512 image)) ≡ false = ap is_free_end ends ∙ wrong in
        ap (λ b. fault_by b (u24_at (take 512 image) 252) units (stored_holes (take 512 image)) (free_end (take 512 image))) there
        ∙ ap (λ n. let o : Option ℕ = Some (n / 3) in o) ends
        ∙ sym (ap (λ b. fault_by b (u24_at image 252) units (stored_holes image) (free_end image)) wrong)

pub right_end : (bytes : List ℕ) (units : ℕ) → hole_fault bytes units ≡ None → is_free_end (free_end bytes) ≡ true
right_end bytes units none = go (is_free_end (free_end bytes)) refl
  where
    go : (right : Bool) → is_free_end (free_end bytes) ≡ right → is_free_end (free_end bytes) ≡ true
    go true right = right
    go false wrong = absurd (let e = sym (ap (λ b. fault_by b (u24_at bytes 252) units (stored_holes bytes) (free_end bytes)) wrong) ∙ none in cc)

-- ---- right holes are read

hole_right : (d s floor : ℕ) (h : Hole) → IsHole d s floor h → is_hole_right d s floor h ≡ true
unfolding is_hole_right
hole_right d s floor h is =
    rw (lt-ltb 0 h.len is.positive, le-leb floor h.start is.onward, le-leb (hole_end h) d is.inside, eq-eqb (h.start % s) 0 is.begins, eq-eqb (hole_end h % s) 0 is.ends) refl

none_wrong : (d s i floor : ℕ) (holes : List Hole) → AreHoles d s floor holes → wrong_hole d s i floor holes ≡ None
unfolding wrong_hole
none_wrong d s i floor [] are = refl
none_wrong d s i floor (h ∷ holes) are = rw (hole_right d s floor h are.0) (none_wrong d s (i + 1) (hole_end h) holes are.1)

-- ---- discs with old maps

-- what is fixed of such a disc, and what its image says
pub record IsOldDisc (kind : Kind) (image : List ℕ) (space : OldMapContent) : Type 0 where
  pub units : (space.sector_units ≡ 1) ⊎ (space.sector_units ≡ 4)
  pub root : ℕ
  pub layout : (other : List ℕ) → map_and_root other kind ≡ old_layout other space.sector_units root
  pub size : disc_size kind ≡ 256 * space.disc_units
  pub whole : space.disc_units ≡ space.disc_units / space.sector_units * space.sector_units
  pub small : map_units space.sector_units / space.sector_units ≤ space.disc_units / space.sector_units
  pub fits : (other : List ℕ) → is_old_map other ≡ true → old_units other ≡ space.disc_units → fits_kind other kind ≡ true
  pub old : is_old_map image ≡ true
  pub none : hole_fault image space.sector_units ≡ None
  pub is : free_space image space.sector_units ≡ space

read_disc : (image : List ℕ) (units root a size : ℕ) (space : OldMapContent) → old_layout image units root ≡ Ok (Layout.Old space, a, size) → (hole_fault image units ≡ None) × (free_space image units ≡ space)
read_disc image units root a size space e = go (hole_fault image units) refl e
  where
    go : (fault : Option ℕ) → hole_fault image units ≡ fault → holes_or (Layout.Old (free_space image units), root, 0) fault ≡ Ok (Layout.Old space, a, size)
        → (hole_fault image units ≡ None) × (free_space image units ≡ space)
    go None h f = (h, old_same (free_space image units) space (ap (λ (x : MapAndRoot). x.0) (found_ok (Layout.Old (free_space image units), root, 0) (Layout.Old space, a, size) f)))
    go (Some i) h f = absurd (cc)

pub old_disc : (kind : Kind) (image : List ℕ) (space : OldMapContent) (a size : ℕ) → map_and_root image kind ≡ Ok (Layout.Old space, a, size) → fits_kind image kind ≡ true → IsKind kind → IsOldDisc kind image space
old_disc (Boot r) image space a size e fits is =
    let f = found_map image (Boot r) r (Layout.Old space, a, size) refl e in absurd (no_new _ space (ap (λ (x : MapAndRoot). x.0) f.is))
old_disc (OneZone r) image space a size e fits is =
    let f = found_map image (OneZone r) r (Layout.Old space, a, size) refl e in absurd (no_new _ space (ap (λ (x : MapAndRoot). x.0) f.is))
old_disc DiscD image space a size e fits is =
    let d = read_disc image 4 4 a size space e in
    let four : space.sector_units ≡ 4 = ap (λ (s : OldMapContent). s.sector_units) (sym d.1) in
    let p = and_parts (is_old_map image) (old_units image == 3200) fits in
    let disc : space.disc_units ≡ 3200 = ap (λ (s : OldMapContent). s.disc_units) (sym d.1) ∙ eqb-true (old_units image) 3200 p.1 in
    record {
      units = inr four;
      root = 4;
      layout = λ other. ap (λ (u : ℕ). old_layout other u 4) (sym four);
      size = ap (λ (n : ℕ). 256 * n) (sym disc);
      whole = disc ∙ ap₂ (λ (n u : ℕ). n / u * u) (sym disc) (sym four);
      small = let low : 4 / 4 ≤ 3200 / 4 = omega arith in subst (λ (u : ℕ). map_units u / u ≤ space.disc_units / u) (sym four) (subst (λ (n : ℕ). map_units 4 / 4 ≤ n / 4) (sym disc) low);
      fits = λ other old units. and_from _ _ old (eq-eqb (old_units other) 3200 (units ∙ disc));
      old = p.0;
      none = ap (hole_fault image) four ∙ d.0;
      is = ap (free_space image) four ∙ d.1;
    }
old_disc (DiscL n) image space a size e fits is =
    let d = read_disc image 1 2 a size space e in
    let one : space.sector_units ≡ 1 = ap (λ (s : OldMapContent). s.sector_units) (sym d.1) in
    let p = and_parts (is_old_map image && is_in_range 7 2560 n) (old_units image == n) fits in
    let q = and_parts (is_old_map image) (is_in_range 7 2560 n) p.0 in
    let disc : space.disc_units ≡ n = ap (λ (s : OldMapContent). s.disc_units) (sym d.1) ∙ eqb-true (old_units image) n p.1 in
    record {
      units = inl one;
      root = 2;
      layout = λ other. ap (λ (u : ℕ). old_layout other u 2) (sym one);
      size = ap (λ (k : ℕ). 256 * k) (sym disc);
      whole = (let e1 : space.disc_units ≡ space.disc_units / 1 * 1 = omega arith in e1) ∙ ap (λ (u : ℕ). space.disc_units / u * u) (sym one);
      small = let low : 2 / 1 ≤ n / 1 = (let seven = is.0 in omega (arith, seven)) in subst (λ (u : ℕ). map_units u / u ≤ space.disc_units / u) (sym one) (subst (λ (k : ℕ). map_units 1 / 1 ≤ k / 1) (sym disc) low);
      fits = λ other old units. and_from _ _ (and_from _ _ old q.1) (eq-eqb (old_units other) n (units ∙ disc));
      old = q.0;
      none = ap (hole_fault image) one ∙ d.0;
      is = ap (free_space image) one ∙ d.1;
    }

-- ---- after the map is written

one_front : (image : List ℕ) → bytes_at (take 512 image) 0 256 ≡ bytes_at image 0 256
one_front image = take-take 256 512 image (omega arith)

two_front : (image : List ℕ) → bytes_at (take 512 image) 256 256 ≡ bytes_at image 256 256
two_front image = ap (take 256) (drop-take 256 256 image) ∙ take-take 256 256 (drop 256 image) (omega arith)

module _ (back : ReadsBack) (kind : Kind) (image image' : List ℕ) (space : OldMapContent) (d : IsOldDisc kind image space) (holes : List Hole) (long : length image' ≡ length image) (map : IsMapAfter space holes image image')
    (is_map : IsOldMap (holding space holes)) (right : AreHoles space.disc_units space.sector_units (map_units space.sector_units) holes) where
  abbrev u : ℕ
  u = space.sector_units

  record Halves : Type 0 where
    high : nat_le 512 (length image) ≡ true
    first : is_half_right (bytes_at image 0 256) ≡ true
    second : is_half_right (bytes_at image 256 256) ≡ true

  halves : Halves
  halves =
      let p = and_parts (nat_le 512 (length image) && is_half_right (bytes_at image 0 256)) (is_half_right (bytes_at image 256 256)) d.old in
      let q = and_parts (nat_le 512 (length image)) (is_half_right (bytes_at image 0 256)) p.0 in
      record { high = q.0; first = q.1; second = p.1 }

  read_old : IsRead (take 512 image) u space
  read_old = record {
    first = ap is_half_right (one_front image) ∙ halves.first;
    second = ap is_half_right (two_front image) ∙ halves.second;
    none = fault_front image u ∙ d.none;
    is = space_front image u (right_end image u d.none) ∙ d.is;
  }

  pub read_now : IsRead (take 512 image') u (holding space holes)
  read_now = elim map.bytes [
    | inl same ↦ subst (λ (bs : List ℕ). IsRead bs u (holding space holes)) (sym same.1) (subst (λ (hs : List Hole). IsRead (take 512 image) u (holding space hs)) (sym same.0) read_old)
    | inr anew ↦ read_is (take 512 image') u (holding space holes)
        (ap (λ (bs : List ℕ). old_map bs u) anew
        ∙ back (holding space holes) (take 512 image) (length-take-le 512 image (leb-true 512 (length image) halves.high))
        (u24_front image 252 (omega arith) ∙ ap (λ (s : OldMapContent). s.disc_units) d.is) is_map (none_wrong space.disc_units u 0 (map_units u) holes right))
  ]

  pub fits_now : fits_kind image' kind ≡ true
  fits_now =
      d.fits image'
      (and_from _ _ (and_from _ _ (ap (nat_le 512) long ∙ halves.high) (ap is_half_right (sym (one_front image')) ∙ read_now.first)) (ap is_half_right (sym (two_front image')) ∙ read_now.second))
      (sym (u24_front image' 252 (omega arith)) ∙ ap (λ (s : OldMapContent). s.disc_units) read_now.is)

  pub found_now : map_and_root image' kind ≡ Ok (Layout.Old (holding space holes), d.root, 0)
  found_now =
      let none : hole_fault image' u ≡ None = sym (fault_front image' u) ∙ read_now.none in
      d.layout image' ∙ ap (λ (o : Option ℕ). holes_or (Layout.Old (free_space image' u), d.root, 0) o) none
      ∙ ap (λ (s : OldMapContent). let r : Result MapAndRoot ImageFault = Ok (Layout.Old s, d.root, 0) in r) (sym (space_front image' u (right_end image' u none)) ∙ read_now.is)

-- ---- a map that isn't written

narrow : (image image' : List ℕ) → HasSectorsOf 256 (0 ∷ 1 ∷ []) image image' → (take 512 image' ≡ take 512 image) × (take 0 (drop 512 image') ≡ take 0 (drop 512 image))
unfolding sector_at
narrow image image' s = (take-add 256 256 image' ∙ ap₂ (λ (xs ys : List ℕ). xs ++ ys) (s 0 refl) (s 1 refl) ∙ sym (take-add 256 256 image), refl)

wide : (image image' : List ℕ) → HasSectorsOf 1024 (0 ∷ []) image image' → (take 512 image' ≡ take 512 image) × (take 512 (drop 512 image') ≡ take 512 (drop 512 image))
unfolding sector_at
wide image image' s = (
  sym (take-take 512 1024 image' (omega arith)) ∙ ap (take 512) (s 0 refl) ∙ take-take 512 1024 image (omega arith),
  sym (drop-take 512 512 image') ∙ ap (drop 512) (s 0 refl) ∙ drop-take 512 512 image,
)

pub front_same : (image image' : List ℕ) (u : ℕ) → (u ≡ 1) ⊎ (u ≡ 4) → HasSectorsOf (256 * u) (range_with_len 0 (map_units u / u)) image image'
    → (take 512 image' ≡ take 512 image) × (bytes_at image' 512 (256 * u - 512) ≡ bytes_at image 512 (256 * u - 512))
front_same image image' u (inl one) same =
    subst (λ (n : ℕ). HasSectorsOf (256 * n) (range_with_len 0 (map_units n / n)) image image' → (take 512 image' ≡ take 512 image) × (bytes_at image' 512 (256 * n - 512) ≡ bytes_at image 512 (256 * n - 512)))
    (sym one) (narrow image image') same
front_same image image' u (inr four) same =
    subst (λ (n : ℕ). HasSectorsOf (256 * n) (range_with_len 0 (map_units n / n)) image image' → (take 512 image' ≡ take 512 image) × (bytes_at image' 512 (256 * n - 512) ≡ bytes_at image 512 (256 * n - 512)))
    (sym four) (wide image image') same
