-- Discs of one zone: what is known of the sector that counts as the map.
use Rattle.std.proofs.Common.{◌≡◌, ◌≤◌, ℕ, ◌+◌, ◌^◌, Bool, true, false, cond, List, [], ◌∷◌, length, map, refl, sym, ap, ap₂, subst, ◌∙◌, arith, None}
use Rattle.std.specs.Prelude.{Result, Ok, Err, ◌==◌, ◌&&◌, ◌||◌, slice_index, slice_index_or, is_none}
use Rattle.std.specs.List.{range_with_len}
use Rattle.std.specs.Int.Bits.{xor_zero_l}
use Rattle.std.proofs.lemmas.Bool.{eq-eqb, and_from as both}
use Rattle.fc_bytes.specs.Words.{bytes_at}
use Rattle.fc_device.specs.Sectors.{sector_at}
use Rattle.fc_record.specs.declared.DiscRecord.{DiscRecord}
use Rattle.fc_record.specs.declared.Geometry.{Geometry}
use Rattle.fc_record.specs.declared.Kind.TheVariants.{OneZone}
use Rattle.fc_record.specs.Record.{geometry, record_fault, is_valid}
use Rattle.fc_record.specs.Kinds.{IsKind, map_record, is_whole_map, is_one_zone, fits_kind}
use Rattle.fc_newmap.specs.declared.copies.Which.{Which}
use Rattle.fc_newmap.specs.declared.copies.Which.TheVariants.{One, Two}
use Rattle.fc_newmap.specs.Copies.{copy_of, is_check_right, is_sound, chosen, unsound_zone}
use Rattle.fc_newmap.proofs.GeometryLemmas.{ValidFacts, facts_of_valid}
use Rattle.fc_image.specs.Opening.{MapAndRoot, map_and_root, agreement, difference}
use Rattle.fc_image.proofs.KindLemmas.{first_place, second_place, map_at_front}
use Rattle.fc_image.proofs.HolesLemmas.{found_map, copy_sectors, valid_of}
use Rattle.fc_image.proofs.RecordLemmas.{Agreed, agreed_valid, agreed_own}
use Rattle.fc_record.proofs.KindLemmas.{and_first, and_second}

-- ---- the map of one zone

-- where a copy of one zone stands
abbrev pub place : Which → ℕ
place One = 0
place Two = 1

copy_by : ℕ → ℕ → ℕ → Which → List ℕ → List (List ℕ)
copy_by sector start zones One image = map (sector_at sector image) (range_with_len start zones)
copy_by sector start zones Two image = map (sector_at sector image) (range_with_len (start + zones) zones)

copy_is_by : (g : Geometry) (w : Which) (image : List ℕ) → copy_of g w image ≡ copy_by g.sector g.map_sector g.zones w image
unfolding copy_by
copy_is_by g One image = refl
copy_is_by g Two image = refl

copy_at_front : (w : Which) (image : List ℕ) → copy_by 1024 0 1 w image ≡ sector_at 1024 image (place w) ∷ []
unfolding copy_by
copy_at_front One image = refl
copy_at_front Two image = refl

-- a copy of one zone is one sector
pub one_copy : (r : DiscRecord) (w : Which) (image : List ℕ) → r.log2_sector ≡ 10 → r.zones ≡ 1 → copy_of (geometry r) w image ≡ sector_at 1024 image (place w) ∷ []
one_copy r w image size one =
    copy_is_by (geometry r) w image
    ∙ ap₂ (λ (a b : ℕ). copy_by a b r.zones w image) (ap (λ (n : ℕ). 2 ^ n) size) (map_at_front r one)
    ∙ ap (λ (n : ℕ). copy_by 1024 0 n w image) one
    ∙ copy_at_front w image

-- ---- whole maps

cross_one : (z : List ℕ) → is_sound (z ∷ []) ≡ ((is_check_right z && true) && (slice_index z 3 == 255))
unfolding is_sound
cross_one z = ap (λ (n : ℕ). (is_check_right z && true) && (n == 255)) (xor_zero_l (slice_index z 3))

pub whole_sound : (z : List ℕ) → is_whole_map z ≡ true → is_sound (z ∷ []) ≡ true
whole_sound z e = cross_one z ∙ by (length z == 1024) (is_check_right z) (slice_index z 3 == 255) (is_valid (map_record z)) ((map_record z).log2_sector == 10) ((map_record z).zones == 1) e
  where
    by : (a b c d f g : Bool) → (a && b && c && d && f && g) ≡ true → ((b && true) && c) ≡ true
    by true true true d f g h = refl
    by true true false d f g h = absurd (cc)
    by true false c d f g h = absurd (cc)
    by false b c d f g h = absurd (cc)

pub sound_whole : (z : List ℕ) → length z ≡ 1024 → is_sound (z ∷ []) ≡ true → record_fault (map_record z) ≡ None → (map_record z).log2_sector ≡ 10 → (map_record z).zones ≡ 1
    → is_whole_map z ≡ true
sound_whole z long sound valid size one =
    by (length z == 1024) (is_check_right z) (slice_index z 3 == 255) (is_valid (map_record z)) ((map_record z).log2_sector == 10) ((map_record z).zones == 1)
    (eq-eqb (length z) 1024 long) (sym (cross_one z) ∙ sound) (ap is_none valid) (eq-eqb _ 10 size) (eq-eqb _ 1 one)
  where
    by : (a b c d f g : Bool) → a ≡ true → ((b && true) && c) ≡ true → d ≡ true → f ≡ true → g ≡ true → (a && b && c && d && f && g) ≡ true
    by true true true true true true h i j k l = refl
    by true true true true true false h i j k l = absurd (cc)
    by true true true true false g h i j k l = absurd (cc)
    by true true true false f g h i j k l = absurd (cc)
    by true true false d f g h i j k l = absurd (cc)
    by true false c d f g h i j k l = absurd (cc)
    by false b c d f g h i j k l = absurd (cc)

-- ---- which copy was chosen

abbrev Choice : Geometry → List ℕ → Bool → Bool → Result Which (ℕ × ℕ)
Choice g image a b = cond a (Ok One) (cond b (Ok Two) (Err (unsound_zone (copy_of g One image), unsound_zone (copy_of g Two image))))

-- what a choice says of both copies
abbrev pub SaysOf : List ℕ → Geometry → Which → Type 0
SaysOf image g One = is_sound (copy_of g One image) ≡ true
SaysOf image g Two = (is_sound (copy_of g One image) ≡ false) × (is_sound (copy_of g Two image) ≡ true)

pub choice_says : (g : Geometry) (image : List ℕ) (w : Which) → chosen g image ≡ Ok w → SaysOf image g w
unfolding chosen
choice_says g image w e = by (is_sound (copy_of g One image)) (is_sound (copy_of g Two image)) refl refl e
  where
    which_ok : (x y : Which) → (let q : Result Which (ℕ × ℕ) = Ok x in q) ≡ Ok y → x ≡ y
    which_ok x y h = cc

    by : (a b : Bool) → is_sound (copy_of g One image) ≡ a → is_sound (copy_of g Two image) ≡ b → Choice g image a b ≡ Ok w → SaysOf image g w
    by true b s t h = subst (SaysOf image g) (which_ok One w h) s
    by false true s t h = subst (SaysOf image g) (which_ok Two w h) (s, t)
    by false false s t h = absurd (cc)

says_sound : (image : List ℕ) (g : Geometry) (w : Which) → SaysOf image g w → is_sound (copy_of g w image) ≡ true
says_sound image g One s = s
says_sound image g Two s = s.1

-- ---- one zone whose map is found

-- the sector that counts is a whole map, whose record agrees with the kind's
pub one_whole : (image : List ℕ) (r own : DiscRecord) (w : Which) → IsKind (OneZone r) → ValidFacts r → r.size ≤ length image → chosen (geometry r) image ≡ Ok w
    → agreement r (map_record (slice_index_or (copy_of (geometry r) w image) 0 [])) (difference r (map_record (slice_index_or (copy_of (geometry r) w image) 0 []))) ≡ Ok own
    → (is_whole_map (sector_at 1024 image (place w)) ≡ true) × Agreed r (map_record (sector_at 1024 image (place w))) × (map_record (sector_at 1024 image (place w)) ≡ own)
one_whole image r own w kind facts long choice agreed =
    let z = sector_at 1024 image (place w) in
    let s = map_record z in
    let copy = one_copy r w image kind.1 kind.2 in
    let agreed' : agreement r s (difference r s) ≡ Ok own = subst (λ (zs : List (List ℕ)). agreement r (map_record (slice_index_or zs 0 [])) (difference r (map_record (slice_index_or zs 0 []))) ≡ Ok own) copy agreed in
    let a = agreed_valid r s own kind.0.from_raw refl kind.0.valid agreed' in
    let zones = facts.zones in
    let whole : length z ≡ 1024 = ap (λ (zs : List (List ℕ)). length (slice_index_or zs 0 [])) (sym copy) ∙ copy_sectors r w image facts long 0 (omega arith) ∙ ap (λ (n : ℕ). 2 ^ n) kind.1 in
    let sound : is_sound (z ∷ []) ≡ true = ap is_sound (sym copy) ∙ says_sound image (geometry r) w (choice_says (geometry r) image w choice) in
    let size : s.log2_sector ≡ 10 = ap (λ (t : DiscRecord). t.log2_sector) a.same ∙ kind.1 in
    let one : s.zones ≡ 1 = ap (λ (t : DiscRecord). t.zones) a.same ∙ kind.2 in
    (sound_whole z whole sound a.valid size one, a, agreed_own r s own (difference r s) agreed')

pub either : (w : Which) (image : List ℕ) → is_whole_map (sector_at 1024 image (place w)) ≡ true → is_one_zone image ≡ true
either One image e = ap (λ (z : List ℕ). is_whole_map z || is_whole_map (bytes_at image 1024 1024)) (first_place image) ∙ ap (λ (b : Bool). b || is_whole_map (bytes_at image 1024 1024)) e
either Two image e = by (is_whole_map (bytes_at image 0 1024)) (is_whole_map (bytes_at image 1024 1024)) (ap is_whole_map (second_place image) ∙ e)
  where
    by : (a b : Bool) → b ≡ true → (a || b) ≡ true
    by true b h = refl
    by false b h = h

-- An image whose map is found as a disc of one zone passes that kind's own test.
pub zone_fits : (image : List ℕ) (r : DiscRecord) (found : MapAndRoot) → IsKind (OneZone r) → r.size ≤ length image → map_and_root image (OneZone r) ≡ Ok found
    → fits_kind image (OneZone r) ≡ true
zone_fits image r found kind long e =
    let f = found_map image (OneZone r) r found refl e in
    let a = one_whole image r f.own f.which kind (facts_of_valid r (valid_of (OneZone r) r refl kind)) long f.chosen_one f.agreed in
    both (is_one_zone image) (is_valid r && (r.log2_sector == 10) && (r.zones == 1)) (either f.which image a.0)
    (both (is_valid r && (r.log2_sector == 10)) (r.zones == 1) (both (is_valid r) (r.log2_sector == 10) (ap is_none kind.0.valid) (eq-eqb _ 10 kind.1)) (eq-eqb _ 1 kind.2))
