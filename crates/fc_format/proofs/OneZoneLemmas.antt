-- What the fresh discs of one zone open as.
use Rattle.std.proofs.Common.{◌≡◌, ◌≤◌, ℕ, true, false, ◌&&◌, ◌==◌, List, [], ◌∷◌, ◌++◌, length, Some, None, Ok, refl, ap, ◌∙◌}
use Rattle.fc_bytes.specs.Bits.{bits, num, low_bits}
use Rattle.fc_bytes.specs.Words.{bytes_at}
use Rattle.fc_device.specs.Sectors.{sector_at}
use Rattle.fc_bytes.specs.Checks.{carry_sum, accumulated}
use Rattle.fc_record.specs.declared.Kind.{Kind}
use Rattle.fc_record.specs.declared.Kind.TheVariants.{OneZone}
use Rattle.fc_record.specs.Record.{geometry, is_valid, record_fault}
use Rattle.fc_record.specs.Kinds.{boot_record, is_whole_map, map_record}
use Rattle.fc_zone.specs.Reading.{runs_from, runs_of}
use Rattle.fc_newmap.specs.Copies.{is_sound, chosen}
use Rattle.fc_dirs.specs.declared.SmallForm.TheVariants.{Bytes2048}
use Rattle.fc_dirs.specs.Directory.{Directory}
use Rattle.fc_dirs.specs.Small.{small_fault, small_dir}
use Rattle.fc_dirs.specs.Big.{big_fault, big_dir}
use Rattle.fc_image.specs.Laws.{OpensLaw}
use Rattle.fc_image.specs.Layout.{Layout, sectors_at, bytes_in}
use Rattle.fc_image.specs.Walk.{Listing, children_of, listings_from, reader_of, root_entry, walk}
use Rattle.fc_image.specs.Objects.{objects_of}
use Rattle.fc_image.specs.Opening.{map_and_root, misplaced_sector, reserved_in}
use Rattle.fc_format.specs.declared.Format.TheVariants.{E, EPlus}
use Rattle.fc_format.specs.Fresh.{big_root, e_map, e_plus_map, front_of, new_root}
use Rattle.fc_names.specs.declared.name.NameForm.TheVariants.{Ten, Long}
use Rattle.fc_format.proofs.OpenLemmas.{OpensAlone, not_boot, one_zone_fits, one_zone_kind, opens_alone}

-- ---- E

pub kind_E : Kind
kind_E = OneZone (map_record e_map)

pub layout_E : Layout
layout_E = Layout.New (record { geometry = geometry (map_record e_map); zones = e_map ∷ [] })

pub root_E : Listing
root_E = record {
  object = record { path = []; entry = root_entry 0x203 2048; sectors = 2 ∷ 3 ∷ [] };
  content = Directory.Small (small_dir Bytes2048 (new_root 0x203));
  children = [];
}

is_map_E : is_whole_map e_map ≡ true
unfolding record_fault carry_sum
is_map_E = refl

right_E : (is_valid (map_record e_map) && ((map_record e_map).log2_sector == 10) && ((map_record e_map).zones == 1)) ≡ true
unfolding record_fault
right_E = refl

walked_E : walk (λ o. Ok (root_E).content) layout_E (reserved_in kind_E layout_E) 0x203 0 ≡ Ok (root_E ∷ [])
unfolding kind_E layout_E root_E bits num low_bits carry_sum accumulated runs_from runs_of small_dir sectors_at children_of listings_from walk
walked_E = refl

placed_E : misplaced_sector kind_E layout_E (objects_of (root_E ∷ [])) ≡ None
unfolding kind_E layout_E root_E bits num low_bits carry_sum accumulated runs_from runs_of small_dir sectors_at
placed_E = refl

module _ (rest : List ℕ) where
  abbrev image_E : List ℕ
  image_E = front_of E ++ rest

  no_record_E : is_valid (boot_record image_E) ≡ false
  unfolding record_fault
  no_record_E = refl

  whole_E : bytes_at image_E 0 1024 ≡ e_map
  whole_E = refl

  found_E : map_and_root image_E kind_E ≡ Ok (layout_E, 0x203, 0)
  unfolding kind_E layout_E bits num low_bits sector_at carry_sum record_fault runs_from runs_of is_sound chosen
  found_E = refl

  says_E : reader_of image_E layout_E (root_E).object ≡ Ok (root_E).content
  unfolding layout_E root_E sector_at bytes_in small_fault small_dir accumulated
  says_E = refl

  pub opens_E : OpensLaw → 819200 ≤ length image_E → OpensAlone Ten (front_of E ++ rest)
  unfolding kind_E root_E small_dir layout_E
  opens_E law long =
      let is_map : is_whole_map (bytes_at image_E 0 1024) ≡ true = ap is_whole_map whole_E ∙ is_map_E in
      let is = one_zone_kind image_E (not_boot image_E no_record_E) is_map ∙ ap (λ l. Some (OneZone (map_record l))) whole_E in
      let fits = one_zone_fits image_E (map_record e_map) is_map right_E in
      opens_alone law image_E kind_E layout_E 0x203 0 root_E is fits long found_E walked_E placed_E says_E refl refl refl

-- ---- E+

pub kind_E+ : Kind
kind_E+ = OneZone (map_record e_plus_map)

pub layout_E+ : Layout
layout_E+ = Layout.New (record { geometry = geometry (map_record e_plus_map); zones = e_plus_map ∷ [] })

pub root_E+ : Listing
root_E+ = record {
  object = record { path = []; entry = root_entry 0x301 2048; sectors = 2 ∷ 3 ∷ [] };
  content = Directory.Big (big_dir (big_root 0x301));
  children = [];
}

is_map_E+ : is_whole_map e_plus_map ≡ true
unfolding record_fault carry_sum
is_map_E+ = refl

right_E+ : (is_valid (map_record e_plus_map) && ((map_record e_plus_map).log2_sector == 10) && ((map_record e_plus_map).zones == 1)) ≡ true
unfolding record_fault
right_E+ = refl

walked_E+ : walk (λ o. Ok (root_E+).content) layout_E+ (reserved_in kind_E+ layout_E+) 0x301 2048 ≡ Ok (root_E+ ∷ [])
unfolding kind_E+ layout_E+ root_E+ bits num low_bits carry_sum accumulated runs_from runs_of big_dir sectors_at children_of listings_from walk
walked_E+ = refl

placed_E+ : misplaced_sector kind_E+ layout_E+ (objects_of (root_E+ ∷ [])) ≡ None
unfolding kind_E+ layout_E+ root_E+ bits num low_bits carry_sum accumulated runs_from runs_of big_dir sectors_at
placed_E+ = refl

module _ (rest : List ℕ) where
  abbrev image_E+ : List ℕ
  image_E+ = front_of EPlus ++ rest

  no_record_E+ : is_valid (boot_record image_E+) ≡ false
  unfolding record_fault
  no_record_E+ = refl

  whole_E+ : bytes_at image_E+ 0 1024 ≡ e_plus_map
  whole_E+ = refl

  found_E+ : map_and_root image_E+ kind_E+ ≡ Ok (layout_E+, 0x301, 2048)
  unfolding kind_E+ layout_E+ bits num low_bits sector_at carry_sum record_fault runs_from runs_of is_sound chosen
  found_E+ = refl

  says_E+ : reader_of image_E+ layout_E+ (root_E+).object ≡ Ok (root_E+).content
  unfolding layout_E+ root_E+ sector_at bytes_in big_fault big_dir accumulated
  says_E+ = refl

  pub opens_E+ : OpensLaw → 819200 ≤ length image_E+ → OpensAlone Long (front_of EPlus ++ rest)
  unfolding kind_E+ root_E+ big_dir layout_E+
  opens_E+ law long =
      let is_map : is_whole_map (bytes_at image_E+ 0 1024) ≡ true = ap is_whole_map whole_E+ ∙ is_map_E+ in
      let is = one_zone_kind image_E+ (not_boot image_E+ no_record_E+) is_map ∙ ap (λ l. Some (OneZone (map_record l))) whole_E+ in
      let fits = one_zone_fits image_E+ (map_record e_plus_map) is_map right_E+ in
      opens_alone law image_E+ kind_E+ layout_E+ 0x301 2048 root_E+ is fits long found_E+ walked_E+ placed_E+ says_E+ refl refl refl
