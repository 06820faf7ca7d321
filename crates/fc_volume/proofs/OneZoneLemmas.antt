-- The copies of a map of one zone, in the front of an image.
use Rattle.std.proofs.Common.{◌≡◌, ◌+◌, ◌*◌, ◌/◌, ◌^◌, inl, subst, inr, ℕ, Bool, true, false, List, [], ◌∷◌, length, take, map, refl, sym, ap, ap₂, ◌∙◌, arith}
use Rattle.std.specs.Prelude.{◌&&◌, ◌==◌, slice_index, Result, Ok, Err, IfOk, IfErr}
use Rattle.std.specs.List.{range_with_len}
use Rattle.std.proofs.Math.Seq.{take-length}
use Rattle.std.proofs.Math.Nat.{zero-div}
use Rattle.fc_device.specs.Sectors.{sector_at}
use Rattle.fc_bytes.specs.Words.{bytes_at}
use Rattle.fc_record.specs.declared.DiscRecord.{DiscRecord}
use Rattle.fc_record.specs.declared.Front.{Front}
use Rattle.fc_record.specs.declared.Kind.TheVariants.{OneZone}
use Rattle.fc_record.specs.Front.{HasMapOf}
use Rattle.fc_record.specs.Kinds.{IsKind, is_whole_map, map_record}
use Rattle.fc_record.specs.Record.{geometry, is_valid, zone_start}
use Rattle.fc_newmap.specs.Map.{zones_in}
use Rattle.fc_newmap.specs.declared.copies.Which.{Which}
use Rattle.fc_newmap.specs.declared.copies.Which.TheVariants.{One, Two}
use Rattle.fc_newmap.specs.Copies.{chosen, copy_of, is_check_right, is_sound}
use Rattle.fc_volume.specs.declared.maps.CopyRead.{CopyRead}
use Rattle.fc_record.proofs.KindLemmas.{and_first}

-- a sector's own checks
abbrev pub is_right : List ℕ → Bool
is_right sector = is_check_right sector && (slice_index sector 3 == 255)

whole_right : (sector : List ℕ) → is_whole_map sector ≡ true → is_right sector ≡ true
whole_right sector e =
    let r = map_record sector in
    let long : Bool = length sector == 1024 in
    let check : Bool = is_check_right sector in
    let cross : Bool = slice_index sector 3 == 255 in
    let valid : Bool = is_valid r in
    let size : Bool = r.log2_sector == 10 in
    let zones : Bool = r.zones == 1 in
    let front = and_first (long && check && cross) valid (and_first (long && check && cross && valid) size (and_first (long && check && cross && valid && size) zones e)) in
    last long check cross front
  where
    last : (a b c : Bool) → (a && b && c) ≡ true → (b && c) ≡ true
    last true b c e = e
    last false b c e = absurd (cc)

-- the checks of a copy of one sector are the sector's own
sound_one : (sector : List ℕ) → is_sound (sector ∷ []) ≡ is_right sector
unfolding is_sound
sound_one sector = by (is_check_right sector) (slice_index sector 3)
  where
    by : (a : Bool) (n : ℕ) → ((a && true) && (n == 255)) ≡ (a && (n == 255))
    by true n = refl
    by false n = refl

module _ (r : DiscRecord) (is : IsKind (OneZone r)) (image : List ℕ) where
  size : (geometry r).sector ≡ 1024
  size = ap (λ (n : ℕ). 2 ^ n) is.1

  place : (geometry r).map_sector ≡ 0
  place =
      let g = geometry r in
      ap (λ (z : ℕ). zone_start g.zone_size (z / 2) * g.bit_bytes / g.sector) is.2 ∙ ap (λ (n : ℕ). n / g.sector) (let e : 0 * g.bit_bytes ≡ 0 = omega arith in e) ∙ zero-div g.sector

  abbrev row : ℕ → ℕ → ℕ → List (List ℕ)
  row s from count = map (sector_at s image) (range_with_len from count)

  row_same : (s s' a a' n n' : ℕ) → s ≡ s' → a ≡ a' → n ≡ n' → row s a n ≡ row s' a' n'
  row_same s s' a a' n n' e f g = cc

  one : copy_of (geometry r) One image ≡ bytes_at image 0 1024 ∷ []
  unfolding sector_at
  one = row_same (geometry r).sector 1024 (geometry r).map_sector 0 (geometry r).zones 1 size place is.2

  two : copy_of (geometry r) Two image ≡ bytes_at image 1024 1024 ∷ []
  unfolding sector_at
  two = row_same (geometry r).sector 1024 ((geometry r).map_sector + (geometry r).zones) 1 (geometry r).zones 1 size (ap₂ (λ (a b : ℕ). a + b) place is.2) is.2

  held : (bytes : List ℕ) → length bytes ≡ 1024 → zones_in (geometry r) bytes ≡ bytes ∷ []
  unfolding sector_at
  held bytes long =
      ap₂ (λ (s n : ℕ). map (sector_at s bytes) (range_with_len 0 n)) size is.2
      ∙ ap (λ (n : ℕ). take n bytes ∷ []) (sym long) ∙ ap (λ (b : List ℕ). b ∷ []) (take-length bytes)

  first_counts : is_right (bytes_at image 0 1024) ≡ true → chosen (geometry r) image ≡ Ok One
  unfolding chosen
  first_counts right = rw (ap is_sound one ∙ sound_one (bytes_at image 0 1024) ∙ right) refl

  second_counts : is_right (bytes_at image 0 1024) ≡ false → is_right (bytes_at image 1024 1024) ≡ true → chosen (geometry r) image ≡ Ok Two
  unfolding chosen
  second_counts wrong right = rw (ap is_sound one ∙ sound_one (bytes_at image 0 1024) ∙ wrong, ap is_sound two ∙ sound_one (bytes_at image 1024 1024) ∙ right) refl

  pub held_one : (front : Front) (zones : List ℕ) → HasMapOf image (OneZone r) front → is_right front.first ≡ true → zones ≡ front.first → length zones ≡ 1024
      → (chosen (geometry r) image ≡ Ok One) × (zones_in (geometry r) zones ≡ copy_of (geometry r) One image)
  held_one front zones has right same long =
      (first_counts (ap is_right (sym has.0) ∙ right), held zones long ∙ ap (λ (b : List ℕ). b ∷ []) (same ∙ has.0) ∙ sym one)

  pub held_two : (front : Front) (zones : List ℕ) → HasMapOf image (OneZone r) front → is_right front.first ≡ false → zones ≡ front.second → length zones ≡ 1024
      → (chosen (geometry r) image ≡ Ok Two) × (zones_in (geometry r) zones ≡ copy_of (geometry r) Two image)
  held_two front zones has wrong same long = elim has.1 [
    | inl whole ↦ absurd (let right = whole_right front.first whole in let e : true ≡ false = sym right ∙ wrong in cc)
    | inr there ↦ (
      second_counts (ap is_right (sym has.0) ∙ wrong) (ap is_right (sym there.0) ∙ whole_right front.second there.1),
      held zones long ∙ ap (λ (b : List ℕ). b ∷ []) (same ∙ there.0) ∙ sym two,
    )
  ]

  pub one_sector : (geometry r).zones * (geometry r).sector ≡ 1024
  one_sector = ap₂ (λ (a b : ℕ). a * b) is.2 size

-- ---- the copy that was taken

-- what counts in each image whose front was read
abbrev pub Counts : Front → CopyRead → Type 0
Counts front copy = (r : DiscRecord) (image : List ℕ) → IsKind (OneZone r) → HasMapOf image (OneZone r) front
    → (chosen (geometry r) image ≡ Ok copy.which) × (zones_in (geometry r) copy.zones.items ≡ copy_of (geometry r) copy.which image)

abbrev CountsAs : DiscRecord → List ℕ → List ℕ → Which → Type 0
CountsAs r image zones which = (chosen (geometry r) image ≡ Ok which) × (zones_in (geometry r) zones ≡ copy_of (geometry r) which image)

pub first_taken : (front : Front) → true ≡ is_right front.first → (copy : CopyRead) → copy.which ≡ One → copy.zones.items ≡ front.first → length copy.zones.items ≡ 1024 → Counts front copy
first_taken front right copy which zones long = λ r image is has.
    subst (λ (w : Which). CountsAs r image copy.zones.items w) (sym which) (held_one r is image front copy.zones.items has (sym right) zones long)

pub second_taken : (front : Front) → false ≡ is_right front.first → (copy : CopyRead) → copy.which ≡ Two → copy.zones.items ≡ front.second → length copy.zones.items ≡ 1024 → Counts front copy
second_taken front wrong copy which zones long = λ r image is has.
    subst (λ (w : Which). CountsAs r image copy.zones.items w) (sym which) (held_two r is image front copy.zones.items has (sym wrong) zones long)

pub ok_three : {A E : Type 0} (r : Result A E) (P Q R S : A → Type 0) → ((a : A) → P a → Q a → R a → S a) → IfOk r P → IfOk r Q → IfOk r R → IfOk r S
ok_three (Ok a) P Q R S f p q s = f a p q s
ok_three (Err e) P Q R S f p q s = tt

pub err_weaker : {A E : Type 0} (r : Result A E) (P Q : E → Type 0) → ((e : E) → P e → Q e) → IfErr r P → IfErr r Q
err_weaker (Ok a) P Q f p = tt
err_weaker (Err e) P Q f p = f e p
