-- What the fresh discs with an old map open as.
use Rattle.std.proofs.Common.{◌≡◌, ◌≤◌, ℕ, true, false, List, [], ◌∷◌, ◌++◌, length, Ok, refl, arith}
use Rattle.fc_bytes.specs.Words.{bytes_at}
use Rattle.fc_device.specs.Sectors.{sector_at}
use Rattle.fc_bytes.specs.Checks.{accumulated, carry_sum, is_half_right}
use Rattle.fc_record.specs.declared.Kind.TheVariants.{DiscD, DiscL}
use Rattle.fc_record.specs.Record.{is_valid, record_fault}
use Rattle.fc_record.specs.Kinds.{boot_record, is_whole_map, old_units}
use Rattle.fc_oldmap.specs.Holes.{hole}
use Rattle.fc_oldmap.specs.OldMap.{holes_of, is_hole_right, with_holes, wrong_hole}
use Rattle.fc_dirs.specs.declared.SmallForm.TheVariants.{Bytes1280, Bytes2048}
use Rattle.fc_dirs.specs.Directory.{Directory}
use Rattle.fc_dirs.specs.Small.{small_fault, small_dir}
use Rattle.fc_image.specs.Laws.{OpensLaw}
use Rattle.fc_image.specs.Layout.{Layout, sectors_at, bytes_in}
use Rattle.fc_image.specs.Walk.{Listing, children_of, listings_from, reader_of, root_entry, walk}
use Rattle.fc_image.specs.Opening.{map_and_root, reserved_in}
use Rattle.fc_format.specs.declared.Format.TheVariants.{D, L}
use Rattle.fc_format.specs.Fresh.{front_of, new_root, old_root, zeros}
use Rattle.fc_names.specs.declared.name.NameForm.TheVariants.{Ten, Seven}
use Rattle.fc_format.proofs.OpenLemmas.{OpensAlone, disc_d_fits, disc_d_kind, disc_l_fits, disc_l_kind, is_old, not_boot, opens_alone}

-- ---- D

pub layout_D : Layout
layout_D = Layout.Old (record { holes = hole 12 3188 ∷ []; disc_units = 3200; sector_units = 4 })

pub root_D : Listing
root_D = record {
  object = record { path = []; entry = root_entry 4 2048; sectors = 1 ∷ 2 ∷ [] };
  content = Directory.Small (small_dir Bytes2048 (new_root 4));
  children = [];
}

walked_D : walk (λ o. Ok (root_D).content) layout_D (reserved_in DiscD layout_D) 4 0 ≡ Ok (root_D ∷ [])
unfolding layout_D root_D small_dir sectors_at children_of listings_from walk
walked_D = refl

module _ (rest : List ℕ) where
  -- the front, and zeros up to the end of what a boot block would take
  abbrev image_D : List ℕ
  image_D = front_of D ++ zeros 1024 ++ rest

  no_record_D : is_valid (boot_record image_D) ≡ false
  unfolding record_fault with_holes
  no_record_D = refl

  no_map_D : is_whole_map (bytes_at image_D 0 1024) ≡ false
  unfolding record_fault carry_sum with_holes
  no_map_D = refl

  no_copy_D : is_whole_map (bytes_at image_D 1024 1024) ≡ false
  unfolding record_fault carry_sum with_holes accumulated
  no_copy_D = refl

  first_D : is_half_right (bytes_at image_D 0 256) ≡ true
  unfolding carry_sum with_holes
  first_D = refl

  second_D : is_half_right (bytes_at image_D 256 256) ≡ true
  unfolding carry_sum with_holes
  second_D = refl

  units_D : old_units image_D ≡ 3200
  unfolding with_holes
  units_D = refl

  found_D : map_and_root image_D DiscD ≡ Ok (layout_D, 4, 0)
  unfolding layout_D with_holes holes_of is_hole_right wrong_hole
  found_D = refl

  says_D : reader_of image_D layout_D (root_D).object ≡ Ok (root_D).content
  unfolding layout_D root_D with_holes sector_at bytes_in small_fault small_dir accumulated
  says_D = refl

  pub opens_D : OpensLaw → 819200 ≤ length image_D → OpensAlone Ten (front_of D ++ zeros 1024 ++ rest)
  unfolding layout_D root_D small_dir with_holes
  opens_D law reach =
      let old = is_old image_D (omega (arith, reach)) first_D second_D in
      let is = disc_d_kind image_D (not_boot image_D no_record_D) no_map_D no_copy_D old units_D in
      opens_alone law image_D DiscD layout_D 4 0 root_D is (disc_d_fits image_D old units_D) reach found_D walked_D refl says_D refl refl refl

-- ---- L

pub layout_L : Layout
layout_L = Layout.Old (record { holes = hole 7 2553 ∷ []; disc_units = 2560; sector_units = 1 })

pub root_L : Listing
root_L = record {
  object = record { path = []; entry = root_entry 2 1280; sectors = 2 ∷ 3 ∷ 4 ∷ 5 ∷ 6 ∷ [] };
  content = Directory.Small (small_dir Bytes1280 (old_root 2));
  children = [];
}

walked_L : walk (λ o. Ok (root_L).content) layout_L (reserved_in (DiscL 2560) layout_L) 2 0 ≡ Ok (root_L ∷ [])
unfolding layout_L root_L small_dir sectors_at children_of listings_from walk
walked_L = refl

module _ (rest : List ℕ) where
  -- the front, and zeros up to the end of what a boot block would take
  abbrev image_L : List ℕ
  image_L = front_of L ++ zeros 2304 ++ rest

  no_record_L : is_valid (boot_record image_L) ≡ false
  unfolding record_fault with_holes
  no_record_L = refl

  no_map_L : is_whole_map (bytes_at image_L 0 1024) ≡ false
  unfolding record_fault carry_sum with_holes
  no_map_L = refl

  no_copy_L : is_whole_map (bytes_at image_L 1024 1024) ≡ false
  unfolding record_fault carry_sum with_holes accumulated
  no_copy_L = refl

  first_L : is_half_right (bytes_at image_L 0 256) ≡ true
  unfolding carry_sum with_holes
  first_L = refl

  second_L : is_half_right (bytes_at image_L 256 256) ≡ true
  unfolding carry_sum with_holes
  second_L = refl

  units_L : old_units image_L ≡ 2560
  unfolding with_holes
  units_L = refl

  found_L : map_and_root image_L (DiscL 2560) ≡ Ok (layout_L, 2, 0)
  unfolding layout_L with_holes holes_of is_hole_right wrong_hole
  found_L = refl

  says_L : reader_of image_L layout_L (root_L).object ≡ Ok (root_L).content
  unfolding layout_L root_L with_holes sector_at bytes_in small_fault small_dir accumulated
  says_L = refl

  pub opens_L : OpensLaw → 655360 ≤ length image_L → OpensAlone Seven (front_of L ++ zeros 2304 ++ rest)
  unfolding layout_L root_L small_dir with_holes
  opens_L law reach =
      let old = is_old image_L (omega (arith, reach)) first_L second_L in
      let is = disc_l_kind image_L (not_boot image_L no_record_L) no_map_L no_copy_L old units_L in
      opens_alone law image_L (DiscL 2560) layout_L 2 0 root_L is (disc_l_fits image_L old units_L) reach found_L walked_L refl says_L refl refl refl
