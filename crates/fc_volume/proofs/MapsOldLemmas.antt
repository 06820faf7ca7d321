-- Old maps as they are read from the front of an image.
use Rattle.std.proofs.Common.{◌≡◌, ◌<◌, ◌≤◌, ◌∷◌, ◌+◌, ◌-◌, ◌*◌, ◌/◌, ◌%◌, ◌⊎◌, inl, inr, ℕ, Bool, true, false, cond, List, [], length, take, drop, refl, sym, ap, subst, ◌∙◌, arith}
use Rattle.std.specs.Prelude.{nat_le, Option, Some, None, Result, Ok, Err, if◌then◌else◌, ◌==◌, ◌&&◌, ◌++◌}
use Rattle.std.proofs.lemmas.List.{drop-take, take-take, length-take-le}
use Rattle.std.proofs.lemmas.Bool.{and_from, leb-true, and_parts}
use Rattle.fc_bytes.specs.Words.{bytes_at, u24_at}
use Rattle.fc_bytes.specs.Checks.{is_half_right}
use Rattle.std.specs.Int.{is_in_range}
use Rattle.fc_record.specs.declared.Kind.TheVariants.{DiscL}
use Rattle.fc_record.specs.Kinds.{fits_kind, is_old_map, old_units}
use Rattle.fc_oldmap.specs.declared.Hole.{Hole}
use Rattle.fc_oldmap.specs.declared.OldMapFault.TheVariants.{Check, Bad}
use Rattle.fc_oldmap.specs.OldMap.{OldMapContent, free_end, free_space, hole_fault, is_free_end, map_units, old_map, stored_holes, wrong_hole}
use Rattle.fc_oldmap.specs.Holes.{AreHoles}
use Rattle.fc_oldmap.proofs.ReadLemmas.{AreHoles-right}
use Rattle.fc_image.specs.declared.ImageFault.{ImageFault}
use Rattle.fc_image.specs.declared.ImageFault.TheVariants as faults
use Rattle.fc_image.specs.Layout.{Layout}
use Rattle.fc_image.specs.Opening.{MapAndRoot, holes_or, old_layout}
use Rattle.fc_changes.proofs.lemmas.old.MapLemmas.{u24_front, right_end, space_front, fault_front}

-- ---- what reading answers

module _ (bytes : List ℕ) (units : ℕ) where
  first_wrong : is_half_right (bytes_at bytes 0 256) ≡ false → old_map bytes units ≡ Err (Check 0)
  unfolding old_map
  first_wrong first = rw first refl

  second_wrong : is_half_right (bytes_at bytes 0 256) ≡ true → is_half_right (bytes_at bytes 256 256) ≡ false → old_map bytes units ≡ Err (Check 1)
  unfolding old_map
  second_wrong first second = rw (first, second) refl

  hole_wrong : is_half_right (bytes_at bytes 0 256) ≡ true → is_half_right (bytes_at bytes 256 256) ≡ true → (i : ℕ) → hole_fault bytes units ≡ Some i → old_map bytes units ≡ Err (Bad i)
  unfolding old_map
  hole_wrong first second i wrong = rw (first, second, wrong) refl

  all_right : is_half_right (bytes_at bytes 0 256) ≡ true → is_half_right (bytes_at bytes 256 256) ≡ true → hole_fault bytes units ≡ None → old_map bytes units ≡ Ok (free_space bytes units)
  unfolding old_map
  all_right first second none = rw (first, second, none) refl

  pub map_read : (m : OldMapContent) → old_map bytes units ≡ Ok m → (m ≡ free_space bytes units) × (hole_fault bytes units ≡ None)
  map_read m e = go (is_half_right (bytes_at bytes 0 256)) (is_half_right (bytes_at bytes 256 256)) (hole_fault bytes units) refl refl refl
    where
      go : (first second : Bool) (fault : Option ℕ) → is_half_right (bytes_at bytes 0 256) ≡ first → is_half_right (bytes_at bytes 256 256) ≡ second → hole_fault bytes units ≡ fault
          → (m ≡ free_space bytes units) × (hole_fault bytes units ≡ None)
      go false second fault f s h = absurd (let is = first_wrong f in cc)
      go true false fault f s h = absurd (let is = second_wrong f s in cc)
      go true true (Some i) f s h = absurd (let is = hole_wrong f s i h in cc)
      go true true None f s h = (let is = all_right f s h in cc, h)

  pub hole_read : (index : ℕ) → old_map bytes units ≡ Err (Bad index) → hole_fault bytes units ≡ Some index
  hole_read index e = go (is_half_right (bytes_at bytes 0 256)) (is_half_right (bytes_at bytes 256 256)) (hole_fault bytes units) refl refl refl
    where
      go : (first second : Bool) (fault : Option ℕ) → is_half_right (bytes_at bytes 0 256) ≡ first → is_half_right (bytes_at bytes 256 256) ≡ second → hole_fault bytes units ≡ fault
          → hole_fault bytes units ≡ Some index
      go false second fault f s h = absurd (let is = first_wrong f in cc)
      go true false fault f s h = absurd (let is = second_wrong f s in cc)
      go true true (Some i) f s h = (let is = hole_wrong f s i h in h ∙ cc)
      go true true None f s h = absurd (let is = all_right f s h in cc)

  -- the checks are right where they gave the kind
  pub no_check : (half : ℕ) → is_old_map bytes ≡ true → old_map bytes units ≡ Err (Check half) → ⊥
  no_check half old e =
      let right = and_parts (nat_le 512 (length bytes) && is_half_right (bytes_at bytes 0 256)) (is_half_right (bytes_at bytes 256 256)) old in
      let first = and_parts (nat_le 512 (length bytes)) (is_half_right (bytes_at bytes 0 256)) right.0 in
      go (hole_fault bytes units) first.1 right.1 refl
    where
      go : (fault : Option ℕ) → is_half_right (bytes_at bytes 0 256) ≡ true → is_half_right (bytes_at bytes 256 256) ≡ true → hole_fault bytes units ≡ fault → ⊥
      go (Some i) f s h = (let is = hole_wrong f s i h in cc)
      go None f s h = (let is = all_right f s h in cc)

  -- its holes lie after it
  pub behind : hole_fault bytes units ≡ None → AreHoles (u24_at bytes 252) units (map_units units) (stored_holes bytes)
  behind e = AreHoles-right (u24_at bytes 252) units 0 (map_units units) (stored_holes bytes) (by (is_free_end (free_end bytes)) e)
    where
      by : (b : Bool) → cond b (wrong_hole (u24_at bytes 252) units 0 (map_units units) (stored_holes bytes)) (Some (free_end bytes / 3)) ≡ None
          → wrong_hole (u24_at bytes 252) units 0 (map_units units) (stored_holes bytes) ≡ None
      by true h = h
      by false h = absurd (cc)

-- ---- the front of an image

module _ (image front : List ℕ) (units root : ℕ) (same : front ≡ take 512 image) where
  there : hole_fault front units ≡ hole_fault image units
  there = ap (λ bs. hole_fault bs units) same ∙ fault_front image units

  pub old_found : (m : OldMapContent) → m ≡ free_space front units → hole_fault front units ≡ None → old_layout image units root ≡ Ok (Layout.Old m, root, 0)
  old_found m is none =
      let right = sym there ∙ none in
      ap (λ o. holes_or (Layout.Old (free_space image units), root, 0) o) right
      ∙ ap (λ s. let r : Result MapAndRoot ImageFault = Ok (Layout.Old s, root, 0) in r) (sym (is ∙ ap (λ bs. free_space bs units) same ∙ space_front image units (right_end image units right)))

  pub old_wrong : (index : ℕ) → hole_fault front units ≡ Some index → old_layout image units root ≡ Err (faults.Hole index)
  old_wrong index is = ap (λ o. holes_or (Layout.Old (free_space image units), root, 0) o) (sym there ∙ is)

  -- what gave the kind is true of the front
  pub old_front : (disc : ℕ) → (is_old_map image && (old_units image == disc)) ≡ true → (is_old_map front && (old_units front == disc)) ≡ true
  old_front disc fits =
      let parts = and_parts (is_old_map image) (old_units image == disc) fits in
      let halves = and_parts (nat_le 512 (length image) && is_half_right (bytes_at image 0 256)) (is_half_right (bytes_at image 256 256)) parts.0 in
      let first = and_parts (nat_le 512 (length image)) (is_half_right (bytes_at image 0 256)) halves.0 in
      let long = length-take-le 512 image (leb-true 512 (length image) first.0) in
      let one : bytes_at (take 512 image) 0 256 ≡ bytes_at image 0 256 = take-take 256 512 image (omega arith) in
      let two : bytes_at (take 512 image) 256 256 ≡ bytes_at image 256 256 = ap (take 256) (drop-take 256 256 image) ∙ take-take 256 256 (drop 256 image) (omega arith) in
      ap (λ bs. is_old_map bs && (old_units bs == disc)) same
      ∙ and_from _ _ (and_from _ _ (and_from _ _ (ap (nat_le 512) long) (ap is_half_right one ∙ first.1)) (ap is_half_right two ∙ halves.1)) (ap (λ n. n == disc) (u24_front image 252 (omega arith)) ∙ parts.1)

-- the image of a disc of so many units in small sectors has an old map with these units
pub old_fits : (image : List ℕ) (units : ℕ) → fits_kind image (DiscL units) ≡ true → (is_old_map image && (old_units image == units)) ≡ true
old_fits image units fits =
    let parts = and_parts (is_old_map image && is_in_range 7 2560 units) (old_units image == units) fits in
    and_from (is_old_map image) (old_units image == units) (and_parts (is_old_map image) (is_in_range 7 2560 units) parts.0).0 parts.1

pub old_room : (disc units long size sectors : ℕ) → (units ≡ 1) ⊎ (units ≡ 4) → size ≡ 256 * units → sectors ≡ long / size → 256 * disc ≤ long → disc / units ≤ sectors
old_room disc units long size sectors (inl one) wide whole fits =
    let s : sectors ≡ long / 256 = whole ∙ ap (λ n. long / n) (let e : size ≡ 256 = omega arith in e) in
    let d : disc / units ≡ disc / 1 = ap (λ n. disc / n) one in
    omega arith
old_room disc units long size sectors (inr four) wide whole fits =
    let s : sectors ≡ long / 1024 = whole ∙ ap (λ n. long / n) (let e : size ≡ 1024 = omega arith in e) in
    let d : disc / units ≡ disc / 4 = ap (λ n. disc / n) four in
    omega arith

-- a disc of so many units has two sectors at least
pub two_sectors : (units u sectors : ℕ) → (u ≡ 1) ⊎ (u ≡ 4) → 2 * u ≤ units → units / u ≤ sectors → 2 ≤ sectors
two_sectors units u sectors (inl one) two room = let t = subst (λ (k : ℕ). 2 * k ≤ units) one two in let r = subst (λ (k : ℕ). units / k ≤ sectors) one room in omega (arith, t, r)
two_sectors units u sectors (inr four) two room = let t = subst (λ (k : ℕ). 2 * k ≤ units) four two in let r = subst (λ (k : ℕ). units / k ≤ sectors) four room in omega (arith, t, r)
