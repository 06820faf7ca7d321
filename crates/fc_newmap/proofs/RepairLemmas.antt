-- One copy made equal to the other: what counts on the way.
use Rattle.std.proofs.Common.{◌≡◌, ◌<◌, ◌≤◌, ◌⊎◌, inl, inr, ⊎_elim, ℕ, zero, suc, ◌+◌, true, false, List, [], ◌∷◌, length, get_or, set, refl, sym, ap, subst, ◌∙◌, arith, Ok, Some}
use Rattle.std.specs.Option.{ForSome}
use Rattle.std.specs.Prelude.{◌&&◌, ◌==◌, slice_index, bit_xor}
use Rattle.std.specs.List.{list_all}
use Rattle.std.proofs.lemmas.Bool.{eqb-true, ne_eqb}
use Rattle.std.proofs.lemmas.List.{get_or-set_same, set-get_or, take_all}
use Rattle.std.proofs.lemmas.List.Folds.{list_all_at}
use Rattle.std.specs.Int.Bits.{xor_zero_r}
use Rattle.fc_bytes.specs.Checks.{zone_check}
use Rattle.fc_device.specs.Sectors.{sector_at}
use Rattle.fc_device.specs.Sectors.{IsSectorSize}
use Rattle.fc_device.specs.Stops.{Keeps}
use Rattle.fc_device.specs.declared.disk.Disk.{Ghosts}
use Rattle.fc_device.proofs.DiskLaws.{Laws, sector_fits}
use Rattle.fc_device.proofs.SectorLemmas.{length-sector_at}
use Rattle.fc_newmap.proofs.PassLemmas.{keeps_on, keeps_told, part_as, written_as}
use Rattle.fc_record.specs.declared.Geometry.{Geometry}
use Rattle.fc_newmap.specs.declared.copies.Which.{Which}
use Rattle.fc_newmap.specs.declared.copies.Which.TheVariants.{One, Two}
use Rattle.fc_newmap.specs.Copies.{ChangesCopies, HoldsCopies, RepairLeaves, chosen, copy_of, copy_start, cross_of, is_check_right, is_sound}
use Rattle.fc_newmap.specs.Passes.{HasWritten, IsPartWritten, masked, zone_from}
use Rattle.fc_newmap.proofs.GateLemmas.{cancel}
use Rattle.fc_newmap.proofs.ReadingLemmas.{chooses_one, chooses_two, copy_is, length-copy, one_was, right_before, two_was, zone_of_copy}
use Rattle.fc_zone.proofs.ReadingLemmas.{first_part}
use Rattle.fc_device.proofs.StopLemmas.{one_told as some_is}

-- copies with the same sectors
pub same_copy : (g : Geometry) (w : Which) (image start : List ℕ) → ((z : ℕ) → z < g.zones → sector_at g.sector image (copy_start g w + z) ≡ sector_at g.sector start (copy_start g w + z))
    → copy_of g w image ≡ copy_of g w start
same_copy g w image start each = copy_is g w image (copy_of g w start) (length-copy g w start) (λ z lt. each z lt ∙ sym (zone_of_copy g w start z lt))

-- a copy with a wrong ZoneCheck isn't sound
pub wrong_sound : (zones : List (List ℕ)) (z : ℕ) → z < length zones → is_check_right (get_or zones z []) ≡ false → is_sound zones ≡ false
unfolding is_sound
wrong_sound zones z lt wrong = ap (λ b. b && (cross_of zones == 255)) (list_all_at is_check_right zones z [] lt wrong)

-- a zone of a sound copy has a right one
pub sound_right : (zones : List (List ℕ)) (z : ℕ) → z < length zones → is_sound zones ≡ true → is_check_right (get_or zones z []) ≡ true
unfolding is_sound
sound_right zones z lt sound = right_before zones (length zones) z lt (omega arith) (ap (list_all is_check_right) (take_all (length zones) zones (omega arith)) ∙ first_part _ _ sound)

-- a zone's check doesn't read its own byte
pub check-masked : (s : List ℕ) (v : ℕ) → zone_check (set s 0 v) ≡ zone_check s
check-masked [] v = refl
check-masked (x ∷ s) v = refl

-- a right ZoneCheck that is masked is wrong
pub masked_wrong : (s : List ℕ) → 0 < length s → is_check_right s ≡ true → is_check_right (masked 255 s) ≡ false
masked_wrong s long right = ne_eqb _ _ (λ e.
    let turned : bit_xor (slice_index s 0) 255 ≡ slice_index s 0 =
    sym (get_or-set_same s 0 (bit_xor (slice_index s 0) 255) 0 long) ∙ e ∙ check-masked s (bit_xor (slice_index s 0) 255) ∙ sym (eqb-true _ _ right) in
    let none : 255 ≡ 0 = cancel (slice_index s 0) 255 turned in
    absurd (omega arith))

pub masked_none : (s : List ℕ) → masked 0 s ≡ s
masked_none s = ap (set s 0) (xor_zero_r (slice_index s 0)) ∙ set-get_or s 0 0

-- ---- copy 1 was chosen, and copy 2 is written

module _ (g : Geometry) (start image : List ℕ) (new : ℕ → List ℕ) (chosen_one : chosen g start ≡ Ok One) (part : IsPartWritten g.sector (copy_start g Two) 0 g.zones new start image) where
  one_stays : copy_of g One image ≡ copy_of g One start
  one_stays = same_copy g One image start (λ z lt. part.outside (g.map_sector + z) (inl (omega (arith, lt))))

  pub one_leaves : RepairLeaves g start One image
  one_leaves = record {
    frame = record {
      same_length = part.same_length;
      outside = λ s there. part.outside s (⊎_elim (λ l. inl (omega (arith, l))) (λ r. inr (omega (arith, r))) there);
    };
    content = record { which = One; chosen_one = chooses_one g image (ap is_sound one_stays ∙ one_was g start chosen_one); content = one_stays };
    source = one_stays;
  }

  pub one_holds : HasWritten g.sector (copy_start g Two) 0 g.zones (λ z. sector_at g.sector start (copy_start g One + z)) image → HoldsCopies g (copy_of g One start) image
  one_holds written = record {
    first = one_stays;
    second = copy_is g Two image (copy_of g One start) (length-copy g One start) (λ z lt. written z (omega arith) lt ∙ sym (zone_of_copy g One start z lt));
    sound = one_was g start chosen_one;
  }

-- ---- copy 2 was chosen, and copy 1 is written

-- On the way copy 2 stays, and copy 1 isn't sound or has the content of copy 2.
pub record Mending (g : Geometry) (start image : List ℕ) : Type 0 where
  pub frame : ChangesCopies g start image
  pub second : copy_of g Two image ≡ copy_of g Two start
  pub first : (is_sound (copy_of g One image) ≡ false) ⊎ (copy_of g One image ≡ copy_of g Two start)

module _ (g : Geometry) (start : List ℕ) (some : 1 ≤ g.zones) (chosen_two : chosen g start ≡ Ok Two) (long : 0 < length (sector_at g.sector start (copy_start g Two))) where
  abbrev zone_zero : List ℕ
  zone_zero = sector_at g.sector start (copy_start g Two)

  abbrev two_sound : is_sound (copy_of g Two start) ≡ true
  two_sound = (two_was g start chosen_two).1

  pub mending_leaves : (image : List ℕ) → Mending g start image → RepairLeaves g start Two image
  mending_leaves image m = record {
    frame = m.frame;
    content = ⊎_elim
        (λ torn. record { which = Two; chosen_one = chooses_two g image torn (ap is_sound m.second ∙ two_sound); content = m.second })
        (λ whole. record { which = One; chosen_one = chooses_one g image (ap is_sound whole ∙ two_sound); content = whole })
        m.first;
    source = m.second;
  }

  pub mending_start : Mending g start start
  mending_start = record { frame = record { same_length = refl; outside = λ s there. refl }; second = refl; first = inl (two_was g start chosen_two).0 }

  -- zone 0 of copy 1 has a wrong check
  abbrev pub IsSpoilt : List ℕ → Type 0
  IsSpoilt image = sector_at g.sector image g.map_sector ≡ masked 255 zone_zero

  first_place : g.map_sector + 0 ≡ g.map_sector
  first_place = omega arith

  zero_right : is_check_right zone_zero ≡ true
  zero_right =
      let place : copy_start g Two + 0 ≡ copy_start g Two = omega arith in
      let in_copy : 0 < length (copy_of g Two start) = omega (arith, some, length-copy g Two start) in
      ap is_check_right (sym (ap (sector_at g.sector start) place) ∙ sym (zone_of_copy g Two start 0 (omega (arith, some)))) ∙ sound_right (copy_of g Two start) 0 in_copy two_sound

  spoilt_torn : (image : List ℕ) → IsSpoilt image → is_sound (copy_of g One image) ≡ false
  spoilt_torn image spoilt =
      let in_copy : 0 < length (copy_of g One image) = omega (arith, some, length-copy g One image) in
      let zone = zone_of_copy g One image 0 (omega (arith, some)) ∙ ap (sector_at g.sector image) first_place ∙ spoilt in
      wrong_sound (copy_of g One image) 0 in_copy (ap is_check_right zone ∙ masked_wrong zone_zero long zero_right)

  -- a pass over zones of copy 1
  module _ (mid image : List ℕ) (low high : ℕ) (new : ℕ → List ℕ) (was : Mending g start mid) (fits : high ≤ g.zones) (part : IsPartWritten g.sector g.map_sector low high new mid image) where
    part_frame : ChangesCopies g start image
    part_frame = record {
      same_length = part.same_length ∙ was.frame.same_length;
      outside = λ s there. part.outside s (⊎_elim (λ l. inl (omega (arith, l))) (λ r. inr (omega (arith, r, fits))) there) ∙ was.frame.outside s there;
    }

    part_second : copy_of g Two image ≡ copy_of g Two start
    part_second = same_copy g Two image mid (λ z lt. part.outside (copy_start g Two + z) (inr (omega (arith, fits)))) ∙ was.second

    torn_on : is_sound (copy_of g One image) ≡ false → Mending g start image
    torn_on torn = record { frame = part_frame; second = part_second; first = inl torn }

    whole_on : copy_of g One image ≡ copy_of g Two start → Mending g start image
    whole_on whole = record { frame = part_frame; second = part_second; first = inr whole }

  -- zone 0 is spoilt
  pub first_on : (image : List ℕ) → IsPartWritten g.sector g.map_sector 0 1 (λ z. masked 255 zone_zero) start image → Mending g start image
  first_on image part =
      ⊎_elim
      (λ old. torn_on start image 0 1 _ mending_start some part
      (ap is_sound (same_copy g One image start (λ z lt. all_same old z)) ∙ (two_was g start chosen_two).0))
      (λ new. torn_on start image 0 1 _ mending_start some part (spoilt_torn image (sym (ap (sector_at g.sector image) first_place) ∙ new)))
      (part.inside 0 (omega arith) (omega arith))
    where
      all_same : sector_at g.sector image (g.map_sector + 0) ≡ sector_at g.sector start (g.map_sector + 0) → (z : ℕ) → sector_at g.sector image (g.map_sector + z) ≡ sector_at g.sector start (g.map_sector + z)
      all_same old zero = old
      all_same old (suc z) = part.outside (g.map_sector + suc z) (inr (omega arith))

  -- the other zones are written
  pub rest_spoilt : (mid image : List ℕ) (new : ℕ → List ℕ) → IsSpoilt mid → IsPartWritten g.sector g.map_sector 1 g.zones new mid image → IsSpoilt image
  rest_spoilt mid image new spoilt part = part.outside g.map_sector (inl (omega arith)) ∙ spoilt

  pub rest_on : (mid image : List ℕ) (new : ℕ → List ℕ) → Mending g start mid → IsSpoilt mid → IsPartWritten g.sector g.map_sector 1 g.zones new mid image → Mending g start image
  rest_on mid image new was spoilt part = torn_on mid image 1 g.zones new was (omega arith) part (spoilt_torn image (rest_spoilt mid image new spoilt part))

  -- they are those of copy 2
  pub rest_is : (mid image : List ℕ) → Mending g start mid → HasWritten g.sector g.map_sector 1 g.zones (λ z. sector_at g.sector mid (copy_start g Two + z)) image
      → HasWritten g.sector g.map_sector 1 g.zones (λ z. get_or (copy_of g Two start) z []) image
  rest_is mid image was written z from to = written z from to ∙ sym (zone_of_copy g Two mid z to) ∙ ap (λ (zs : List (List ℕ)). get_or zs z []) was.second

  -- zone 0 is that of copy 2
  module _ (mid image : List ℕ) (was : Mending g start mid) (rest : HasWritten g.sector g.map_sector 1 g.zones (λ z. get_or (copy_of g Two start) z []) mid)
      (part : IsPartWritten g.sector g.map_sector 0 1 (λ z. masked 0 (sector_at g.sector mid (copy_start g Two))) mid image) where
    whole_is : sector_at g.sector image (g.map_sector + 0) ≡ masked 0 (sector_at g.sector mid (copy_start g Two)) → copy_of g One image ≡ copy_of g Two start
    whole_is new = copy_is g One image (copy_of g Two start) (length-copy g Two start) each
      where
        place : copy_start g Two + 0 ≡ copy_start g Two
        place = omega arith

        each : (z : ℕ) → z < g.zones → sector_at g.sector image (copy_start g One + z) ≡ get_or (copy_of g Two start) z []
        each zero lt =
            new ∙ masked_none _ ∙ sym (ap (sector_at g.sector mid) place) ∙ sym (zone_of_copy g Two mid 0 lt) ∙ ap (λ (zs : List (List ℕ)). get_or zs 0 []) was.second
        each (suc z) lt = part.outside (g.map_sector + suc z) (inr (omega arith)) ∙ rest (suc z) (omega arith) lt

    pub last_on : IsSpoilt mid → Mending g start image
    last_on spoilt =
        ⊎_elim
        (λ old. torn_on mid image 0 1 _ was some part (spoilt_torn image (sym (ap (sector_at g.sector image) first_place) ∙ old ∙ ap (sector_at g.sector mid) first_place ∙ spoilt)))
        (λ new. whole_on mid image 0 1 _ was some part (whole_is new))
        (part.inside 0 (omega arith) (omega arith))

    pub last_holds : sector_at g.sector image (g.map_sector + 0) ≡ masked 0 (sector_at g.sector mid (copy_start g Two)) → HoldsCopies g (copy_of g Two start) image
    last_holds new = record { first = whole_is new; second = part_second mid image 0 1 _ was some part; sound = two_sound }

-- ---- the three passes over a disk

some_bytes : (size : ℕ) → IsSectorSize size → 0 < size
some_bytes size (inl e) = omega arith
some_bytes size (inr (inl e)) = omega arith
some_bytes size (inr (inr e)) = omega arith

module _ {D : Type 0} {d : Ghosts D} (law : Laws d) (g : Geometry) (start : D) (size_is : d.sector_size start ≡ g.sector) (some : 1 ≤ g.zones) (one two : ℕ) (one_is : one ≡ g.map_sector)
    (two_is : two ≡ copy_start g Two) (on_disk : two < d.sectors start) (chosen_two : ForSome (d.bytes start) (λ image. chosen g image ≡ Ok Two)) where
  abbrev Mends : D → Type 0
  Mends mid = Keeps d.moment d.left_since d.bytes start mid (Mending g)

  abbrev pub Spoils : D → Type 0
  Spoils mid = ForSome (d.bytes start) (λ was. ForSome (d.bytes mid) (λ image. sector_at g.sector image g.map_sector ≡ masked 255 (sector_at g.sector was (copy_start g Two))))

  abbrev pub Rests : D → Type 0
  Rests mid = ForSome (d.bytes start) (λ was. ForSome (d.bytes mid) (HasWritten g.sector g.map_sector 1 g.zones (λ z. get_or (copy_of g Two was) z [])))

  long : (was : List ℕ) → d.bytes start ≡ Some was → 0 < length (sector_at g.sector was (copy_start g Two))
  long was told =
      let whole : length (sector_at g.sector was (copy_start g Two)) ≡ g.sector =
      subst (λ (s : ℕ). length (sector_at s was (copy_start g Two)) ≡ s) size_is
      (subst (λ (n : ℕ). length (sector_at (d.sector_size start) was n) ≡ d.sector_size start) two_is (length-sector_at (d.sector_size start) was two (sector_fits law start two on_disk was told))) in
      let positive : 0 < d.sector_size start = some_bytes (d.sector_size start) (law.sector_sizes start) in
      omega (arith, whole, positive, size_is)

  first_new : (was : List ℕ) (z : ℕ) → masked 255 (sector_at (d.sector_size start) was two) ≡ masked 255 (sector_at g.sector was (copy_start g Two))
  first_new was z = ap (λ s. masked 255 (sector_at s was two)) size_is ∙ ap (λ n. masked 255 (sector_at g.sector was n)) two_is

  pub first_mends : (mid : D) → Keeps d.moment d.left_since d.bytes start mid (λ was image. IsPartWritten (d.sector_size start) one 0 1 (λ z. masked 255 (sector_at (d.sector_size start) was two)) was image)
      → Mends mid
  first_mends mid keeps = keeps_told law keeps (λ was image told part.
      first_on g was some (chosen_two was told) (long was told) image (part_as (d.sector_size start) g.sector one g.map_sector 0 1 _ _ size_is one_is (first_new was) was image part))

  pub first_spoils : (mid : D) → ForSome (d.bytes start) (λ was. ForSome (d.bytes mid) (HasWritten (d.sector_size start) one 0 1 (λ z. masked 255 (sector_at (d.sector_size start) was two)))) → Spoils mid
  first_spoils mid written was told image is =
      let place : g.map_sector ≡ g.map_sector + 0 = omega arith in
      ap (sector_at g.sector image) place ∙ written_as (d.sector_size start) g.sector one g.map_sector 0 1 _ (λ z. masked 255 (sector_at g.sector was (copy_start g Two))) size_is one_is (first_new was) image (written was told image is) 0 (omega arith) (omega arith)

  module _ (mid new : D) (same : d.sector_size mid ≡ g.sector) (mends : Mends mid) where
    rest_new : (was : List ℕ) (z : ℕ) → zone_from (d.sector_size mid) was two z ≡ sector_at g.sector was (copy_start g Two + z)
    rest_new was z = ap (λ s. sector_at s was (two + z)) same ∙ ap (λ n. sector_at g.sector was (n + z)) two_is

    abbrev pub RestPass : Type 0
    RestPass = Keeps d.moment d.left_since d.bytes mid new (λ was image. IsPartWritten (d.sector_size mid) one 1 g.zones (zone_from (d.sector_size mid) was two) was image)

    rest_part : (was image : List ℕ) → IsPartWritten (d.sector_size mid) one 1 g.zones (zone_from (d.sector_size mid) was two) was image
        → IsPartWritten g.sector g.map_sector 1 g.zones (λ z. sector_at g.sector was (copy_start g Two + z)) was image
    rest_part was image = part_as (d.sector_size mid) g.sector one g.map_sector 1 g.zones _ _ same one_is (rest_new was) was image

    pub rest_mends : Spoils mid → RestPass → Mends new
    rest_mends spoils keeps = keeps_on law mends keeps (λ was image told m. m) (λ was there image told told_mid m part.
        rest_on g was some (chosen_two was told) (long was told) there image _ m (spoils was told there told_mid) (rest_part there image part))

    pub rest_spoils : Spoils mid → RestPass → Spoils new
    rest_spoils spoils keeps was told image is =
        let there = mends.exit was told in
        let then = keeps.exit there.0 there.1 in
        let e : then.0 ≡ image = some_is (sym then.1 ∙ is) in
        subst (λ (i : List ℕ). sector_at g.sector i g.map_sector ≡ masked 255 (sector_at g.sector was (copy_start g Two))) e
        (rest_spoilt g was some (chosen_two was told) (long was told) there.0 then.0 _ (spoils was told there.0 there.1) (rest_part there.0 then.0 then.2))

    pub rest_rests : ForSome (d.bytes mid) (λ was. ForSome (d.bytes new) (HasWritten (d.sector_size mid) one 1 g.zones (zone_from (d.sector_size mid) was two))) → Rests new
    rest_rests written was told image is =
        let there = mends.exit was told in
        rest_is g was some (chosen_two was told) (long was told) there.0 image there.2
        (written_as (d.sector_size mid) g.sector one g.map_sector 1 g.zones _ _ same one_is (rest_new there.0) image (written there.0 there.1 image is))

    last_new : (was : List ℕ) (z : ℕ) → masked 0 (sector_at (d.sector_size mid) was two) ≡ masked 0 (sector_at g.sector was (copy_start g Two))
    last_new was z = ap (λ s. masked 0 (sector_at s was two)) same ∙ ap (λ n. masked 0 (sector_at g.sector was n)) two_is

    abbrev pub LastPass : Type 0
    LastPass = Keeps d.moment d.left_since d.bytes mid new (λ was image. IsPartWritten (d.sector_size mid) one 0 1 (λ z. masked 0 (sector_at (d.sector_size mid) was two)) was image)

    last_part : (was image : List ℕ) → IsPartWritten (d.sector_size mid) one 0 1 (λ z. masked 0 (sector_at (d.sector_size mid) was two)) was image
        → IsPartWritten g.sector g.map_sector 0 1 (λ z. masked 0 (sector_at g.sector was (copy_start g Two))) was image
    last_part was image = part_as (d.sector_size mid) g.sector one g.map_sector 0 1 _ _ same one_is (last_new was) was image

    pub last_mends : Spoils mid → Rests mid → LastPass → Mends new
    last_mends spoils rests keeps = keeps_on law mends keeps (λ was image told m. m) (λ was there image told told_mid m part.
        last_on g was some (chosen_two was told) (long was told) there image m (rests was told there told_mid) (last_part there image part) (spoils was told there told_mid))

    pub last_ends : Rests mid → LastPass → ForSome (d.bytes mid) (λ was. ForSome (d.bytes new) (HasWritten (d.sector_size mid) one 0 1 (λ z. masked 0 (sector_at (d.sector_size mid) was two))))
        → ForSome (d.bytes start) (λ was. ForSome (d.bytes new) (HoldsCopies g (copy_of g Two was)))
    last_ends rests keeps written was told image is =
        let there = mends.exit was told in
        let then = keeps.exit there.0 there.1 in
        let e : then.0 ≡ image = some_is (sym then.1 ∙ is) in
        let part = subst (λ (i : List ℕ). IsPartWritten g.sector g.map_sector 0 1 (λ z. masked 0 (sector_at g.sector there.0 (copy_start g Two))) there.0 i) e (last_part there.0 then.0 then.2) in
        let zero = written_as (d.sector_size mid) g.sector one g.map_sector 0 1 _ (λ z. masked 0 (sector_at g.sector there.0 (copy_start g Two))) same one_is (last_new there.0) image (written there.0 there.1 image is) 0 (omega arith) (omega arith) in
        last_holds g was some (chosen_two was told) (long was told) there.0 image there.2 (rests was told there.0 there.1) part zero

  pub mends_leaves : (mid : D) → Mends mid → Keeps d.moment d.left_since d.bytes start mid (λ was image. RepairLeaves g was Two image)
  mends_leaves mid mends = keeps_told law mends (λ was image told m. mending_leaves g was some (chosen_two was told) (long was told) image m)
