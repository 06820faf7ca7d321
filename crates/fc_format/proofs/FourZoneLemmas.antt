-- What the fresh discs of four zones open as.
use Rattle.std.proofs.Common.{◌≡◌, ◌<◌, ◌≤◌, ◌+◌, ◌-◌, ◌*◌, ℕ, true, ◌==◌, List, [], ◌∷◌, ◌++◌, length, take, drop, slice_index, slice_index_or, None, Ok, refl, ap, sym, ◌∙◌, subst, arith, length-append, append_assoc}
use Rattle.std.proofs.lemmas.List.{length-replicate, take-append-drop}
use Rattle.fc_bytes.specs.Bits.{bits, num, low_bits}
use Rattle.fc_bytes.specs.Words.{bytes_at}
use Rattle.fc_device.specs.Sectors.{sector_at}
use Rattle.fc_bytes.specs.Checks.{accumulated, boot_check, carry_sum}
use Rattle.fc_record.specs.declared.DiscRecord.{DiscRecord}
use Rattle.fc_record.specs.declared.Kind.TheVariants.{Boot}
use Rattle.fc_record.specs.Record.{geometry, is_valid, record_fault, record_of}
use Rattle.fc_zone.specs.Reading.{runs_from, runs_of}
use Rattle.fc_newmap.specs.declared.copies.Which.TheVariants.{One}
use Rattle.fc_newmap.specs.Copies.{copy_of, is_sound}
use Rattle.fc_dirs.specs.declared.SmallForm.TheVariants.{Bytes2048}
use Rattle.fc_dirs.specs.Directory.{Directory, directory_of}
use Rattle.fc_names.specs.declared.name.NameForm.TheVariants.{Ten, Long}
use Rattle.fc_dirs.specs.Small.{small_fault, small_dir}
use Rattle.fc_dirs.specs.Big.{big_fault, big_dir}
use Rattle.fc_image.specs.Laws.{OpensLaw}
use Rattle.fc_image.specs.Layout.{Layout, sectors_at, bytes_in}
use Rattle.fc_image.specs.Walk.{Listing, children_of, listings_from, reader_of, root_entry, walk}
use Rattle.fc_image.specs.Objects.{objects_of}
use Rattle.fc_image.specs.Opening.{misplaced_sector, reserved_in}
use Rattle.fc_format.specs.declared.Format.TheVariants.{F, FPlus}
use Rattle.fc_format.specs.Fresh.{big_root, boot_block, f_map, f_plus_map, f_plus_zone2, f_record, f_zone0, f_zone1, f_zone2, f_zone3, front_of, new_root, plus_record, zeros}
use Rattle.fc_names.specs.declared.name.NameForm.TheVariants.{Ten, Long}
use Rattle.fc_format.proofs.OpenLemmas.{AreSectors, OpensAlone, boot_fits, boot_kind, first_layout, layout_of, opens_alone, part_at, pieces, sector_is}

-- lists of four, element by element
four : {a b c d e f g h : List ℕ} → a ≡ e → b ≡ f → c ≡ g → d ≡ h → a ∷ b ∷ c ∷ d ∷ [] ≡ e ∷ f ∷ g ∷ h ∷ []
four {b = b} {c = c} {d = d} {e = e} {f = f} {g = g} one two three last =
    ap (λ (x : List ℕ). x ∷ b ∷ c ∷ d ∷ []) one ∙ ap (λ (x : List ℕ). e ∷ x ∷ c ∷ d ∷ []) two ∙ ap (λ (x : List ℕ). e ∷ f ∷ x ∷ d ∷ []) three ∙ ap (λ (x : List ℕ). e ∷ f ∷ g ∷ x ∷ []) last

-- numbers of ten sectors
is_0 : 0 < 10
is_0 = omega arith

is_1 : 1 < 10
is_1 = omega arith

is_2 : 2 < 10
is_2 = omega arith

is_3 : 3 < 10
is_3 = omega arith

is_8 : 8 < 10
is_8 = omega arith

is_9 : 9 < 10
is_9 = omega arith

-- what stands before the map
abbrev before_map : List ℕ → List ℕ
before_map b = zeros 0xC00 ++ b ++ zeros (0xC6800 - 0xE00)

length-three : (a b c : List ℕ) → length a ≡ 3072 → length b ≡ 512 → length c ≡ 809472 → length (a ++ b ++ c) ≡ 794 * 1024
length-three a b c a_long b_long c_long = omega (arith, a_long, b_long, c_long, length-append (a ++ b) c, length-append a b)

length-before : (b : List ℕ) → length b ≡ 512 → length (before_map b) ≡ 794 * 1024
length-before b long = length-three (zeros 0xC00) b (zeros (0xC6800 - 0xE00)) (length-replicate {A = ℕ} 0xC00 0) long (length-replicate {A = ℕ} (0xC6800 - 0xE00) 0)

block_at : (a b c x : List ℕ) (at n : ℕ) → length a ≡ at → length b ≡ n → take n (drop at (a ++ b ++ c ++ x)) ≡ b
block_at a b c x at n place whole = ap (λ (l : List ℕ). take n (drop at l)) (append_assoc (a ++ b) c x ∙ append_assoc a b (c ++ x)) ∙ part_at a b (c ++ x) at n place whole

regrouped : (pre z0 z1 z2 z3 r0 r1 rest : List ℕ) → pre ++ (z0 ++ z1 ++ z2 ++ z3) ++ (z0 ++ z1 ++ z2 ++ z3) ++ (r0 ++ r1) ++ rest
    ≡ pre ++ pieces (z0 ∷ z1 ∷ z2 ∷ z3 ∷ z0 ∷ z1 ∷ z2 ∷ z3 ∷ r0 ∷ r1 ∷ []) rest
regrouped pre z0 z1 z2 z3 r0 r1 rest = simp append_assoc refl

-- ---- F

pub record_F : DiscRecord
record_F = record_of (bytes_at (boot_block f_record) 0x1C0 60)

pub zones_F : List (List ℕ)
zones_F = f_zone0 f_record ∷ f_zone1 ∷ f_zone2 ∷ f_zone3 ∷ []

pub layout_F : Layout
layout_F = Layout.New (record { geometry = geometry (record_F); zones = zones_F })

pub root_F : Listing
root_F = record {
  object = record { path = []; entry = root_entry 0x209 2048; sectors = 802 ∷ 803 ∷ [] };
  content = Directory.Small (small_dir Bytes2048 (new_root 0x209));
  children = [];
}

check_F : (slice_index (boot_block f_record) 511 == boot_check (boot_block f_record)) ≡ true
unfolding carry_sum
check_F = refl

valid_F : is_valid (record_F) ≡ true
unfolding record_F record_fault
valid_F = refl

sound_F : is_sound zones_F ≡ true
unfolding zones_F is_sound carry_sum
sound_F = refl

pub laid_F : layout_of record_F zones_F ≡ Ok (layout_F, 0x209, 0)
unfolding record_F zones_F layout_F bits num low_bits carry_sum runs_from runs_of
laid_F = refl

walked_F : walk (λ o. Ok (root_F).content) layout_F (reserved_in (Boot record_F) layout_F) 0x209 0 ≡ Ok (root_F ∷ [])
unfolding record_F zones_F layout_F root_F bits num low_bits carry_sum accumulated runs_from runs_of small_dir sectors_at children_of listings_from walk
walked_F = refl

placed_F : misplaced_sector (Boot record_F) layout_F (objects_of (root_F ∷ [])) ≡ None
unfolding record_F zones_F layout_F root_F bits num low_bits carry_sum accumulated runs_from runs_of small_dir sectors_at
placed_F = refl

read_F : directory_of Ten (new_root 0x209) ≡ Ok (root_F).content
unfolding root_F small_fault small_dir accumulated
read_F = refl

module _ (image : List ℕ) (block : bytes_at image 0xC00 512 ≡ boot_block f_record) (zone0 : sector_at 1024 image 794 ≡ f_zone0 f_record) (zone1 : sector_at 1024 image 795 ≡ f_zone1)
    (zone2 : sector_at 1024 image 796 ≡ f_zone2) (zone3 : sector_at 1024 image 797 ≡ f_zone3) (front : sector_at 1024 image 802 ≡ take 1024 (new_root 0x209))
    (back : sector_at 1024 image 803 ≡ drop 1024 (new_root 0x209)) (long : 1638400 ≤ length image) where
  copy_F : copy_of (geometry (record_F)) One image ≡ zones_F
  unfolding record_F zones_F
  copy_F = four zone0 zone1 zone2 zone3

  whole_F : take 2048 (take 1024 (new_root 0x209) ++ (drop 1024 (new_root 0x209) ++ [])) ≡ new_root 0x209
  unfolding accumulated
  whole_F = refl

  bytes_F : bytes_in 1024 image (802 ∷ 803 ∷ []) 2048 ≡ new_root 0x209
  unfolding bytes_in
  bytes_F =
      ap (λ (l : List ℕ). take 2048 (l ++ (sector_at 1024 image 803 ++ []))) front
      ∙ ap (λ (l : List ℕ). take 2048 (take 1024 (new_root 0x209) ++ (l ++ []))) back
      ∙ whole_F

  says_F : reader_of image layout_F (root_F).object ≡ Ok (root_F).content
  unfolding record_F layout_F root_F
  says_F = ap (directory_of Ten) bytes_F ∙ read_F

  opens_image_F : OpensLaw → OpensAlone Ten image
  unfolding record_F root_F small_dir layout_F
  opens_image_F law =
      opens_alone law image (Boot record_F) layout_F 0x209 0 root_F
      (boot_kind image (boot_block f_record) (omega (arith, long)) block check_F valid_F)
      (boot_fits image (boot_block f_record) (omega (arith, long)) block check_F valid_F refl)
      (omega (arith, long)) (first_layout image record_F zones_F copy_F sound_F ∙ laid_F) walked_F placed_F says_F refl refl refl

-- the sectors from that of the map on
sectors_F : List (List ℕ)
sectors_F = f_zone0 f_record ∷ f_zone1 ∷ f_zone2 ∷ f_zone3 ∷ f_zone0 f_record ∷ f_zone1 ∷ f_zone2 ∷ f_zone3 ∷ take 1024 (new_root 0x209) ∷ drop 1024 (new_root 0x209) ∷ []

are_sectors_F : AreSectors sectors_F
unfolding sectors_F
are_sectors_F = (refl, (refl, (refl, (refl, (refl, (refl, (refl, (refl, (refl, (refl, tt))))))))))

module _ (rest : List ℕ) where
  abbrev image_F : List ℕ
  image_F = before_map (boot_block f_record) ++ pieces sectors_F rest

  sector_F : (k m : ℕ) → k < 10 → m ≡ 794 + k → sector_at 1024 image_F m ≡ slice_index_or sectors_F k []
  unfolding sectors_F
  sector_F k m lt is = sector_is sectors_F (before_map (boot_block f_record)) rest 794 k m (length-before (boot_block f_record) refl) are_sectors_F lt is

  opens_parts_F : OpensLaw → 1638400 ≤ length image_F → OpensAlone Ten image_F
  unfolding sectors_F
  opens_parts_F law long =
      opens_image_F image_F (block_at (zeros 0xC00) (boot_block f_record) (zeros (0xC6800 - 0xE00)) (pieces sectors_F rest) 0xC00 512 (length-replicate {A = ℕ} 0xC00 0) refl)
      (sector_F 0 794 is_0 refl) (sector_F 1 795 is_1 refl) (sector_F 2 796 is_2 refl) (sector_F 3 797 is_3 refl)
      (sector_F 8 802 is_8 refl) (sector_F 9 803 is_9 refl) long law

  grouped_F : front_of F ++ rest ≡ image_F
  unfolding sectors_F
  grouped_F =
      ap (λ (l : List ℕ). before_map (boot_block f_record) ++ f_map ++ f_map ++ l ++ rest) (sym (take-append-drop 1024 (new_root 0x209)))
      ∙ regrouped (before_map (boot_block f_record)) (f_zone0 f_record) f_zone1 f_zone2 f_zone3 (take 1024 (new_root 0x209)) (drop 1024 (new_root 0x209)) rest

  pub opens_F : OpensLaw → 1638400 ≤ length (front_of F ++ rest) → OpensAlone Ten (front_of F ++ rest)
  opens_F law long =
      subst (OpensAlone Ten) (sym grouped_F) (opens_parts_F law (subst (λ (l : List ℕ). 1638400 ≤ length l) grouped_F long))

-- ---- F+

pub record_F+ : DiscRecord
record_F+ = record_of (bytes_at (boot_block (plus_record f_record)) 0x1C0 60)

pub zones_F+ : List (List ℕ)
zones_F+ = f_zone0 (plus_record f_record) ∷ f_zone1 ∷ f_plus_zone2 ∷ f_zone3 ∷ []

pub layout_F+ : Layout
layout_F+ = Layout.New (record { geometry = geometry (record_F+); zones = zones_F+ })

pub root_F+ : Listing
root_F+ = record {
  object = record { path = []; entry = root_entry 0x301 2048; sectors = 802 ∷ 803 ∷ [] };
  content = Directory.Big (big_dir (big_root 0x301));
  children = [];
}

check_F+ : (slice_index (boot_block (plus_record f_record)) 511 == boot_check (boot_block (plus_record f_record))) ≡ true
unfolding carry_sum
check_F+ = refl

valid_F+ : is_valid (record_F+) ≡ true
unfolding record_F+ record_fault
valid_F+ = refl

sound_F+ : is_sound zones_F+ ≡ true
unfolding zones_F+ is_sound carry_sum
sound_F+ = refl

pub laid_F+ : layout_of record_F+ zones_F+ ≡ Ok (layout_F+, 0x301, 2048)
unfolding record_F+ zones_F+ layout_F+ bits num low_bits carry_sum runs_from runs_of
laid_F+ = refl

walked_F+ : walk (λ o. Ok (root_F+).content) layout_F+ (reserved_in (Boot record_F+) layout_F+) 0x301 2048 ≡ Ok (root_F+ ∷ [])
unfolding record_F+ zones_F+ layout_F+ root_F+ bits num low_bits carry_sum accumulated runs_from runs_of big_dir sectors_at children_of listings_from walk
walked_F+ = refl

placed_F+ : misplaced_sector (Boot record_F+) layout_F+ (objects_of (root_F+ ∷ [])) ≡ None
unfolding record_F+ zones_F+ layout_F+ root_F+ bits num low_bits carry_sum accumulated runs_from runs_of big_dir sectors_at
placed_F+ = refl

read_F+ : directory_of Long (big_root 0x301) ≡ Ok (root_F+).content
unfolding root_F+ big_fault big_dir accumulated
read_F+ = refl

module _ (image : List ℕ) (block : bytes_at image 0xC00 512 ≡ boot_block (plus_record f_record)) (zone0 : sector_at 1024 image 794 ≡ f_zone0 (plus_record f_record)) (zone1 : sector_at 1024 image 795 ≡ f_zone1)
    (zone2 : sector_at 1024 image 796 ≡ f_plus_zone2) (zone3 : sector_at 1024 image 797 ≡ f_zone3) (front : sector_at 1024 image 802 ≡ take 1024 (big_root 0x301))
    (back : sector_at 1024 image 803 ≡ drop 1024 (big_root 0x301)) (long : 1638400 ≤ length image) where
  copy_F+ : copy_of (geometry (record_F+)) One image ≡ zones_F+
  unfolding record_F+ zones_F+
  copy_F+ = four zone0 zone1 zone2 zone3

  whole_F+ : take 2048 (take 1024 (big_root 0x301) ++ (drop 1024 (big_root 0x301) ++ [])) ≡ big_root 0x301
  unfolding accumulated
  whole_F+ = refl

  bytes_F+ : bytes_in 1024 image (802 ∷ 803 ∷ []) 2048 ≡ big_root 0x301
  unfolding bytes_in
  bytes_F+ =
      ap (λ (l : List ℕ). take 2048 (l ++ (sector_at 1024 image 803 ++ []))) front
      ∙ ap (λ (l : List ℕ). take 2048 (take 1024 (big_root 0x301) ++ (l ++ []))) back
      ∙ whole_F+

  says_F+ : reader_of image layout_F+ (root_F+).object ≡ Ok (root_F+).content
  unfolding record_F+ layout_F+ root_F+
  says_F+ = ap (directory_of Long) bytes_F+ ∙ read_F+

  opens_image_F+ : OpensLaw → OpensAlone Long image
  unfolding record_F+ root_F+ big_dir layout_F+
  opens_image_F+ law =
      opens_alone law image (Boot record_F+) layout_F+ 0x301 2048 root_F+
      (boot_kind image (boot_block (plus_record f_record)) (omega (arith, long)) block check_F+ valid_F+)
      (boot_fits image (boot_block (plus_record f_record)) (omega (arith, long)) block check_F+ valid_F+ refl)
      (omega (arith, long)) (first_layout image record_F+ zones_F+ copy_F+ sound_F+ ∙ laid_F+) walked_F+ placed_F+ says_F+ refl refl refl

-- the sectors from that of the map on
sectors_F+ : List (List ℕ)
sectors_F+ = f_zone0 (plus_record f_record) ∷ f_zone1 ∷ f_plus_zone2 ∷ f_zone3 ∷ f_zone0 (plus_record f_record) ∷ f_zone1 ∷ f_plus_zone2 ∷ f_zone3 ∷ take 1024 (big_root 0x301) ∷ drop 1024 (big_root 0x301) ∷ []

are_sectors_F+ : AreSectors sectors_F+
unfolding sectors_F+
are_sectors_F+ = (refl, (refl, (refl, (refl, (refl, (refl, (refl, (refl, (refl, (refl, tt))))))))))

module _ (rest : List ℕ) where
  abbrev image_F+ : List ℕ
  image_F+ = before_map (boot_block (plus_record f_record)) ++ pieces sectors_F+ rest

  sector_F+ : (k m : ℕ) → k < 10 → m ≡ 794 + k → sector_at 1024 image_F+ m ≡ slice_index_or sectors_F+ k []
  unfolding sectors_F+
  sector_F+ k m lt is = sector_is sectors_F+ (before_map (boot_block (plus_record f_record))) rest 794 k m (length-before (boot_block (plus_record f_record)) refl) are_sectors_F+ lt is

  opens_parts_F+ : OpensLaw → 1638400 ≤ length image_F+ → OpensAlone Long image_F+
  unfolding sectors_F+
  opens_parts_F+ law long =
      opens_image_F+ image_F+ (block_at (zeros 0xC00) (boot_block (plus_record f_record)) (zeros (0xC6800 - 0xE00)) (pieces sectors_F+ rest) 0xC00 512 (length-replicate {A = ℕ} 0xC00 0) refl)
      (sector_F+ 0 794 is_0 refl) (sector_F+ 1 795 is_1 refl) (sector_F+ 2 796 is_2 refl) (sector_F+ 3 797 is_3 refl)
      (sector_F+ 8 802 is_8 refl) (sector_F+ 9 803 is_9 refl) long law

  grouped_F+ : front_of FPlus ++ rest ≡ image_F+
  unfolding sectors_F+
  grouped_F+ =
      ap (λ (l : List ℕ). before_map (boot_block (plus_record f_record)) ++ f_plus_map ++ f_plus_map ++ l ++ rest) (sym (take-append-drop 1024 (big_root 0x301)))
      ∙ regrouped (before_map (boot_block (plus_record f_record))) (f_zone0 (plus_record f_record)) f_zone1 f_plus_zone2 f_zone3 (take 1024 (big_root 0x301)) (drop 1024 (big_root 0x301)) rest

  pub opens_F+ : OpensLaw → 1638400 ≤ length (front_of FPlus ++ rest) → OpensAlone Long (front_of FPlus ++ rest)
  opens_F+ law long =
      subst (OpensAlone Long) (sym grouped_F+) (opens_parts_F+ law (subst (λ (l : List ℕ). 1638400 ≤ length l) grouped_F+ long))
