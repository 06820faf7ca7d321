-- A copy that is read, and looked at zone by zone.
use Rattle.std.proofs.Common.{◌≡◌, ◌<◌, ◌≤◌, ◌≢◌, ℕ, zero, suc, ◌+◌, ◌-◌, ◌*◌, ◌/◌, ◌%◌, ◌^◌, Bool, true, false, cond, inl, inr, List, [], ◌∷◌, length, length-take, length-drop, get_or, take, drop, refl, sym, ap, ◌∙◌, arith, Some, None}
use Rattle.std.specs.Prelude.{not, ◌&&◌, ◌==◌, slice_index, bit_xor, Option, Result, Ok, Err}
use Rattle.std.specs.List.{fold, list_all}
use Rattle.std.proofs.lemmas.Bool.{ne_eqb, eq-eqb}
use Rattle.std.proofs.lemmas.List.{take_all}
use Rattle.std.proofs.lemmas.List.Folds.{fold-map, list_all_more, list_all_at}
use Rattle.std.proofs.lemmas.List.Sums.{fold_more, position_or_len_is}
use Rattle.std.proofs.lemmas.List.FromFn.{length-map-range_with_len, get_or-map-range_with_len}
use Rattle.fc_device.specs.Sectors.{IsSectorSize, sector_at}
use Rattle.fc_device.specs.declared.disk.Disk.{Ghosts}
use Rattle.fc_device.proofs.DiskLaws.{Laws}
use Rattle.fc_newmap.specs.Map.{zones_in}
use Rattle.fc_newmap.proofs.HeldLemmas.{place_fits}
use Rattle.fc_record.specs.declared.Geometry.{Geometry}
use Rattle.fc_newmap.specs.declared.copies.Which.{Which}
use Rattle.fc_newmap.specs.declared.copies.Which.TheVariants.{One, Two}
use Rattle.fc_newmap.specs.Choosing.{copy_fault, cross_if_right}
use Rattle.fc_newmap.specs.Copies.{chosen, copy_of, copy_start, cross_of, is_check_right, is_sound, unsound_zone}
use Rattle.fc_zone.proofs.ReadingLemmas.{first_part}
use Rattle.fc_record.proofs.KindLemmas.{and_second as second_part}

-- a disk's sectors are a number of 64 bits
pub sectors_fit : {D : Type 0} {d : Ghosts D} → Laws d → (s : D) (n : ℕ) → n ≤ d.sectors s → n < 2 ^ 64
sectors_fit {d = d} law s n le =
    let fits = law.length_fits s in
    let few : d.image_length s / d.sector_size s ≤ d.image_length s = grind arith in
    omega (arith, le, few, fits, law.whole_sectors s)

-- a sector's bytes are words, and more than its header
pub sector_words : (size : ℕ) → IsSectorSize size → (3 < size) × (size % 4 ≡ 0)
sector_words size is = elim is [
  | inl one ↦ (omega (arith, one), ap (λ (n : ℕ). n % 4) one)
  | inr rest ↦ elim rest [ inl two ↦ (omega (arith, two), ap (λ (n : ℕ). n % 4) two) | inr three ↦ (omega (arith, three), ap (λ (n : ℕ). n % 4) three) ]
]

-- the bytes of a zone in a buffer
pub sector_long : (bytes : List ℕ) (z zones size : ℕ) → length bytes ≡ zones * size → z < zones → length (take (z * size + size - z * size) (drop (z * size) bytes)) ≡ size
sector_long bytes z zones size whole low =
    let fits = place_fits z zones size low in
    omega (arith, whole, fits, length-take (z * size + size - z * size) (drop (z * size) bytes), length-drop (z * size) bytes)

-- ---- the sectors of a copy

pub length-copy : (g : Geometry) (w : Which) (image : List ℕ) → length (copy_of g w image) ≡ g.zones
length-copy g w image = length-map-range_with_len (sector_at g.sector image) (copy_start g w) g.zones

pub zone_of_copy : (g : Geometry) (w : Which) (image : List ℕ) (z : ℕ) → z < g.zones → get_or (copy_of g w image) z [] ≡ sector_at g.sector image (copy_start g w + z)
zone_of_copy g w image z lt = get_or-map-range_with_len (sector_at g.sector image) (copy_start g w) g.zones z (copy_start g w + z) [] lt refl

-- lists of rows that agree in each place are equal
pub same_lists : (xs ys : List (List ℕ)) → length xs ≡ length ys → ((k : ℕ) → k < length xs → get_or xs k [] ≡ get_or ys k []) → xs ≡ ys
same_lists [] [] e each = refl
same_lists [] (y ∷ ys) e each = absurd (omega arith)
same_lists (x ∷ xs) [] e each = absurd (omega arith)
same_lists (x ∷ xs) (y ∷ ys) e each =
    let head : x ≡ y = each 0 (omega arith) in
    let rest = same_lists xs ys (omega arith) (λ k lt. each (suc k) (omega arith)) in
    ap (λ (a : List ℕ). a ∷ xs) head ∙ ap (λ (l : List (List ℕ)). y ∷ l) rest

-- a list of as many zones, each of which is that of the copy, is the copy
pub copy_is : (g : Geometry) (w : Which) (image : List ℕ) (zones : List (List ℕ)) → length zones ≡ g.zones → ((z : ℕ) → z < g.zones → sector_at g.sector image (copy_start g w + z) ≡ get_or zones z [])
    → copy_of g w image ≡ zones
copy_is g w image zones long each =
    same_lists (copy_of g w image) zones (length-copy g w image ∙ sym long)
    (λ k lt. let in_copy : k < g.zones = omega (arith, lt, length-copy g w image) in zone_of_copy g w image k in_copy ∙ each k in_copy)

-- ---- where it is wrong

taken_in : (b : Bool) (v w : ℕ) → cond b (Some v) None ≡ Some w → (b ≡ true) × (v ≡ w)
taken_in true v w e = (refl, cc)
taken_in false v w e = absurd (cc)

left_out : (b : Bool) (v : ℕ) → cond b (Some v) None ≡ None → b ≡ false
left_out true v e = absurd (cc)
left_out false v e = refl

-- a zone before that place has a right check
pub right_before : (zs : List (List ℕ)) (n k : ℕ) → k < n → n ≤ length zs → list_all is_check_right (take n zs) ≡ true → is_check_right (get_or zs k []) ≡ true
right_before [] n k lt le all = absurd (omega arith)
right_before (s ∷ zs) zero k lt le all = absurd (omega arith)
right_before (s ∷ zs) (suc n) zero lt le all = first_part _ _ all
right_before (s ∷ zs) (suc n) (suc k) lt le all = right_before zs n k (omega arith) (omega arith) (second_part _ _ all)

module _ (zones : List (List ℕ)) (z : ℕ) (inside : z < length zones) (so_far : list_all is_check_right (take z zones) ≡ true) where
  -- one zone more with a right check
  pub right_more : (v : ℕ) → cross_if_right (get_or zones z []) ≡ Some v → list_all is_check_right (take (z + 1) zones) ≡ true
  right_more v found =
      let here = (taken_in (is_check_right (get_or zones z [])) (slice_index (get_or zones z []) 3) v found).0 in
      list_all_more is_check_right zones z [] inside ∙ ap (λ b. b && is_check_right (get_or zones z [])) so_far ∙ here

  pub total_more : (total v : ℕ) → cross_if_right (get_or zones z []) ≡ Some v → total ≡ cross_of (take z zones) → bit_xor total v ≡ cross_of (take (z + 1) zones)
  total_more total v found is =
      let here = (taken_in (is_check_right (get_or zones z [])) (slice_index (get_or zones z []) 3) v found).1 in
      ap (λ t. bit_xor t v) (is ∙ fold-map bit_xor (λ (s : List ℕ). slice_index s 3) 0 (take z zones))
      ∙ ap (λ x. bit_xor (fold (λ b (s : List ℕ). bit_xor b (slice_index s 3)) 0 (take z zones)) x) (sym here)
      ∙ sym (fold_more (λ b (s : List ℕ). bit_xor b (slice_index s 3)) 0 zones z [] inside)
      ∙ sym (fold-map bit_xor (λ (s : List ℕ). slice_index s 3) 0 (take (z + 1) zones))

  -- the first one with a wrong check
  pub wrong_here : cross_if_right (get_or zones z []) ≡ None → Some z ≡ copy_fault zones
  unfolding is_sound
  wrong_here found =
      let wrong = left_out (is_check_right (get_or zones z [])) (slice_index (get_or zones z []) 3) found in
      let none : list_all is_check_right zones ≡ false = list_all_at is_check_right zones z [] inside wrong in
      let first : unsound_zone zones ≡ z = position_or_len_is (λ (s : List ℕ). not (is_check_right s)) zones z [] (omega arith)
      (λ k lt. ap not (right_before zones z k lt (omega arith) so_far)) (λ _. ap not wrong) in
      ap Some (sym first) ∙ sym (ap (λ b. cond (b && (cross_of zones == 255)) None (Some (unsound_zone zones))) none)

-- all of them have right checks
pub all_read : (zones : List (List ℕ)) (z total : ℕ) → z ≡ length zones → list_all is_check_right (take z zones) ≡ true → total ≡ cross_of (take z zones)
    → cond (total == 255) None (Some z) ≡ copy_fault zones
unfolding is_sound
all_read zones z total end right is =
    let whole : take z zones ≡ zones = take_all z zones (omega arith) in
    let all : list_all is_check_right zones ≡ true = ap (list_all is_check_right) (sym whole) ∙ right in
    let sum : total ≡ cross_of zones = is ∙ ap cross_of whole in
    let end_at : unsound_zone zones ≡ z = position_or_len_is (λ (s : List ℕ). not (is_check_right s)) zones z [] (omega arith)
    (λ k lt. ap not (right_before zones z k lt (omega arith) right)) (λ lt. absurd (omega arith)) in
    ap (λ n. cond (total == 255) None (Some n)) (sym end_at)
    ∙ ap (λ t. cond (t == 255) None (Some (unsound_zone zones))) sum
    ∙ sym (ap (λ b. cond (b && (cross_of zones == 255)) None (Some (unsound_zone zones))) all)

module _ (zones : List (List ℕ)) (z total : ℕ) (end : z ≡ length zones) (right : list_all is_check_right (take z zones) ≡ true) (is : total ≡ cross_of (take z zones)) where
  pub total_right : total ≡ 255 → None ≡ copy_fault zones
  total_right e = sym (ap (λ b. cond b None (Some z)) (eq-eqb total 255 e)) ∙ all_read zones z total end right is

  pub total_wrong : total ≢ 255 → (n : ℕ) → n ≡ z → Some n ≡ copy_fault zones
  total_wrong other n n_is = ap Some n_is ∙ sym (ap (λ b. cond b None (Some z)) (ne_eqb total 255 other)) ∙ all_read zones z total end right is

-- Bytes whose zones are those of the copy.
pub filled_all : (g : Geometry) (w : Which) (image bytes : List ℕ) → ((k : ℕ) → k < g.zones → sector_at g.sector bytes k ≡ sector_at g.sector image (copy_start g w + k)) → zones_in g bytes ≡ copy_of g w image
filled_all g w image bytes each =
    sym
    (copy_is g w image (zones_in g bytes) (length-map-range_with_len (sector_at g.sector bytes) 0 g.zones)
    (λ z lt. sym (each z lt) ∙ sym (get_or-map-range_with_len (sector_at g.sector bytes) 0 g.zones z z [] lt (omega arith))))

-- ---- what the two copies' faults come to

fault_is : (b : Bool) (n : ℕ) (found : Option ℕ) → found ≡ cond b None (Some n) → (k : ℕ) → found ≡ Some k → (b ≡ false) × (n ≡ k)
fault_is true n found e k is = absurd (cc)
fault_is false n found e k is = (refl, cc)

no_fault : (b : Bool) (n : ℕ) (found : Option ℕ) → found ≡ cond b None (Some n) → found ≡ None → b ≡ true
no_fault true n found e is = refl
no_fault false n found e is = absurd (cc)

pub sound_copy : (zones : List (List ℕ)) (found : Option ℕ) → found ≡ copy_fault zones → found ≡ None → is_sound zones ≡ true
sound_copy zones found e is = no_fault (is_sound zones) (unsound_zone zones) found e is

pub wrong_copy : (zones : List (List ℕ)) (found : Option ℕ) (n : ℕ) → found ≡ copy_fault zones → found ≡ Some n → (is_sound zones ≡ false) × (unsound_zone zones ≡ n)
wrong_copy zones found n e is = fault_is (is_sound zones) (unsound_zone zones) found e n is

module _ (g : Geometry) (image : List ℕ) where
  abbrev one : List (List ℕ)
  one = copy_of g One image

  abbrev two : List (List ℕ)
  two = copy_of g Two image

  abbrev Either : Type 0
  Either = Result Which (ℕ × ℕ)

  abbrev faults : Either
  faults = Err (unsound_zone one, unsound_zone two)

  pub chooses_one : is_sound one ≡ true → chosen g image ≡ Ok One
  unfolding chosen
  chooses_one first = ap (λ b. let r : Either = cond b (Ok One) (cond (is_sound two) (Ok Two) faults) in r) first

  pub chooses_two : is_sound one ≡ false → is_sound two ≡ true → chosen g image ≡ Ok Two
  unfolding chosen
  chooses_two first second =
      ap (λ b. let r : Either = cond b (Ok One) (cond (is_sound two) (Ok Two) faults) in r) first
      ∙ ap (λ b. let r : Either = cond b (Ok Two) faults in r) second

  pub chooses_none : (c1 c2 : ℕ) → is_sound one ≡ false → unsound_zone one ≡ c1 → is_sound two ≡ false → unsound_zone two ≡ c2 → chosen g image ≡ Err (c1, c2)
  unfolding chosen
  chooses_none c1 c2 first c1_is second c2_is =
      ap (λ b. let r : Either = cond b (Ok One) (cond (is_sound two) (Ok Two) faults) in r) first
      ∙ ap (λ b. let r : Either = cond b (Ok Two) faults in r) second
      ∙ ap (λ n. let r : Either = Err (n, unsound_zone two) in r) c1_is
      ∙ ap (λ n. let r : Either = Err (c1, n) in r) c2_is

  -- what was sound where a copy was chosen
  pub one_was : chosen g image ≡ Ok One → is_sound one ≡ true
  unfolding chosen
  one_was e = which (is_sound one) (is_sound two) e
    where
      which : (a b : Bool) → (let r : Either = cond a (Ok One) (cond b (Ok Two) faults) in r) ≡ Ok One → a ≡ true
      which true b e = refl
      which false true e = absurd (cc)
      which false false e = absurd (cc)

  pub two_was : chosen g image ≡ Ok Two → (is_sound one ≡ false) × (is_sound two ≡ true)
  unfolding chosen
  two_was e = which (is_sound one) (is_sound two) e
    where
      which : (a b : Bool) → (let r : Either = cond a (Ok One) (cond b (Ok Two) faults) in r) ≡ Ok Two → (a ≡ false) × (b ≡ true)
      which true b e = absurd (cc)
      which false true e = (refl, refl)
      which false false e = absurd (cc)

-- a copy 1 that is wrong doesn't count
pub not_counted : (g : Geometry) (image : List ℕ) → is_sound (copy_of g One image) ≡ false → chosen g image ≡ Ok One → ⊥
not_counted g image wrong counts = let same : true ≡ false = sym (one_was g image counts) ∙ wrong in cc
