-- What is written before the map's first step: the new object, what is carried along, and pieces.
use Rattle.std.proofs.Common.{◌≡◌, ◌<◌, ℕ, true, false, List, [], ◌++◌, All, refl, sym, ap₂, subst, ◌∙◌, append_assoc}
use Rattle.std.specs.List.{flat_map}
use Rattle.std.proofs.lemmas.List.Elements.{Contains-append_left}
use Rattle.fc_newmap.proofs.PlaceLemmas.{in_back, in_front}
use Rattle.fc_objects.specs.Extents.{sectors_in}
use Rattle.fc_objects.specs.Written.{AreApart, part_at}
use Rattle.fc_image.specs.Layout.{is_among, is_apart}
use Rattle.fc_image.proofs.HolesLemmas.{apart_at, apart_from}
use Rattle.fc_writing.specs.declared.ready.Ready.{Ready}
use Rattle.fc_writing.specs.declared.ready.Source.{Source}
use Rattle.fc_writing.specs.declared.ready.Source.TheVariants as from
use Rattle.fc_writing.specs.Content.{Content, HasContent, IsPart, content_sectors}
use Rattle.fc_writing.specs.Ready.{CanPut, carried_by, content_of, copied_place, early_content, early_place, from_of, late_content, late_place, place_of, source_content, source_from, source_place, to_of, written_place}
use Rattle.fc_writing.proofs.ContentLemmas.{all_back, all_front, apart_back, apart_between, apart_front, clash, content_append, has_both, has_stays, numbered_sectors, out_left, part_outside, part_then, part_wider}
use Rattle.fc_writing.proofs.ListLemmas.{all_carried, carried_sectors, flat_carried, flat_pieces}

pub source_sectors : (size : ℕ) (was bytes : List ℕ) (s : Source) → content_sectors (source_content size was bytes s) ≡ source_place s
source_sectors size was bytes from.Nothing = refl
source_sectors size was bytes (from.Bytes place) = numbered_sectors (part_at size bytes) 0 (sectors_in place.items)
source_sectors size was bytes (from.Sectors t) = carried_sectors size was t

pub early_sectors : (size : ℕ) (was bytes : List ℕ) (r : Ready) → content_sectors (early_content size was bytes r) ≡ early_place r
early_sectors size was bytes r =
    content_append (source_content size was bytes r.source) (flat_map (carried_by size was) r.carried.items ++ flat_map (content_of size) r.early.items)
    ∙ ap₂ (λ (a b : List ℕ). a ++ b) (source_sectors size was bytes r.source)
    (content_append (flat_map (carried_by size was) r.carried.items) (flat_map (content_of size) r.early.items)
    ∙ ap₂ (λ (a b : List ℕ). a ++ b) (flat_carried size was r.carried.items) (flat_pieces size r.early.items))

pub late_sectors : (size : ℕ) (r : Ready) → content_sectors (late_content size r) ≡ late_place r
late_sectors size r = flat_pieces size r.late.items

-- two lists within two others
apart_within : (xs ys all others : List ℕ) → ((s : ℕ) → is_among xs s ≡ true → is_among all s ≡ true) → ((s : ℕ) → is_among ys s ≡ true → is_among others s ≡ true) → is_apart all others ≡ true → is_apart xs ys ≡ true
apart_within xs ys all others left right apart = apart_from xs ys (λ s a b. clash (is_among others s) (right s b) (apart_at all others s apart (left s a)))

module _ (n : ℕ) (mapped : List ℕ) (r : Ready) (can : CanPut n mapped r) where
  abbrev source : List ℕ
  source = source_place r.source

  abbrev carried : List ℕ
  carried = flat_map to_of r.carried.items

  abbrev pieces : List ℕ
  pieces = flat_map place_of r.early.items

  abbrev P : ℕ → Type 0
  P s = s < n

  early_low : All P (early_place r)
  early_low = all_front P (early_place r) (late_place r) can.on_disk

  pub source_low : All P source
  source_low = all_front P source (carried ++ pieces) early_low

  pub carried_low : All P carried
  carried_low = all_front P carried pieces (all_back P source (carried ++ pieces) early_low)

  pub pieces_low : All P pieces
  pieces_low = all_back P carried pieces (all_back P source (carried ++ pieces) early_low)

  pub late_low : All P (late_place r)
  late_low = all_back P (early_place r) (late_place r) can.on_disk

  pub source_from_low : All P (source_from r.source)
  source_from_low = all_front P (source_from r.source) (flat_map from_of r.carried.items) can.from_disk

  pub carried_from_low : All P (flat_map from_of r.carried.items)
  carried_from_low = all_back P (source_from r.source) (flat_map from_of r.carried.items) can.from_disk

  once_early : AreApart (early_place r)
  once_early = apart_front (early_place r) (late_place r) can.once

  pub once_source : AreApart source
  once_source = apart_front source (carried ++ pieces) once_early

  once_after : AreApart (carried ++ pieces)
  once_after = apart_back source (carried ++ pieces) once_early

  pub once_carried : AreApart carried
  once_carried = apart_front carried pieces once_after

  pub once_pieces : AreApart pieces
  once_pieces = apart_back carried pieces once_after

  pub once_late : AreApart (late_place r)
  once_late = apart_back (early_place r) (late_place r) can.once

  source_in : (s : ℕ) → is_among source s ≡ true → is_among (written_place r) s ≡ true
  source_in s e = in_front (early_place r) (late_place r) s (in_front source (carried ++ pieces) s e)

  carried_in : (s : ℕ) → is_among carried s ≡ true → is_among (written_place r) s ≡ true
  carried_in s e = in_front (early_place r) (late_place r) s (in_back source (carried ++ pieces) s (in_front carried pieces s e))

  pub source_others : is_apart (source_from r.source) source ≡ true
  source_others = apart_within (source_from r.source) source (copied_place r) (written_place r) (λ s e. in_front (source_from r.source) (flat_map from_of r.carried.items) s e) source_in can.others

  pub carried_others : is_apart (flat_map from_of r.carried.items) carried ≡ true
  carried_others = apart_within (flat_map from_of r.carried.items) carried (copied_place r) (written_place r) (λ s e. in_back (source_from r.source) (flat_map from_of r.carried.items) s e) carried_in can.others

  -- those who write what comes early and late meet no sector of the map
  pub early_beside : (s : ℕ) → is_among (early_place r) s ≡ true → is_among mapped s ≡ false
  early_beside s e = apart_at (written_place r) mapped s can.beside (in_front (early_place r) (late_place r) s e)

  pub late_beside : (s : ℕ) → is_among (late_place r) s ≡ true → is_among mapped s ≡ false
  late_beside s e = apart_at (written_place r) mapped s can.beside (in_back (early_place r) (late_place r) s e)

  module _ (size : ℕ) (bytes : List ℕ) where
    abbrev one : List ℕ → Content
    one was = source_content size was bytes r.source

    abbrev two : List ℕ → Content
    two was = flat_map (carried_by size was) r.carried.items

    abbrev three : Content
    three = flat_map (content_of size) r.early.items

    module _ (was there : List ℕ) (first : IsPart size [] (one was) was there) where
      -- what is carried is what was there at first
      pub two_now : two there ≡ two was
      two_now =
          all_carried size was there r.carried.items can.enough
          (λ s e. part_outside size [] (one was) was there first s refl
          (subst (λ (ss : List ℕ). is_among ss s ≡ false) (sym (source_sectors size was bytes r.source))
          (out_left source (carried ++ pieces) s (out_left (early_place r) (late_place r) s
          (apart_at (copied_place r) (written_place r) s can.others (in_back (source_from r.source) (flat_map from_of r.carried.items) s e))))))

      pub part_two : (image : List ℕ) → IsPart size [] (two there) there image → IsPart size [] (one was ++ two was) was image
      part_two image second = part_then size [] (one was) (two was) was there image first (subst (λ (x : Content). IsPart size [] x there image) two_now second)

      pub has_two : (image : List ℕ) → HasContent size (one was) there → IsPart size [] (two there) there image → HasContent size (two there) image → HasContent size (one was ++ two was) image
      has_two image had second has =
          has_both size (one was) (two was) image
          (has_stays size [] (one was) (two was) there image had (subst (λ (x : Content). IsPart size [] x there image) two_now second)
          (λ s e. (
            refl,
            subst (λ (ss : List ℕ). is_among ss s ≡ false) (sym (flat_carried size was r.carried.items))
                (out_left carried pieces s (apart_between source (carried ++ pieces) once_early s (subst (λ (ss : List ℕ). is_among ss s ≡ true) (source_sectors size was bytes r.source) e))),
          )))
          (subst (λ (x : Content). HasContent size x image) two_now has)

    pub part_one : (was image : List ℕ) → IsPart size [] (one was) was image → IsPart size [] (early_content size was bytes r) was image
    part_one was image part = part_wider size [] [] (one was) (early_content size was bytes r) was image (λ s out. out) (λ w there. Contains-append_left (one was) (two was ++ three) w there) part

    pub part_start : (was image : List ℕ) → IsPart size [] (one was) was image → IsPart size [] (one was ++ two was) was image
    part_start was image part = part_wider size [] [] (one was) (one was ++ two was) was image (λ s out. out) (λ w there. Contains-append_left (one was) (two was) w there) part

    assoc : (was : List ℕ) → (one was ++ two was) ++ three ≡ early_content size was bytes r
    assoc was = append_assoc (one was) (two was) three

    pub part_few : (was image : List ℕ) → IsPart size [] (one was ++ two was) was image → IsPart size [] (early_content size was bytes r) was image
    part_few was image part =
        subst (λ (x : Content). IsPart size [] x was image) (assoc was)
        (part_wider size [] [] (one was ++ two was) ((one was ++ two was) ++ three) was image (λ s out. out) (λ w there. Contains-append_left (one was ++ two was) three w there) part)

    pub part_three : (was there image : List ℕ) → IsPart size [] (one was ++ two was) was there → IsPart size [] three there image → IsPart size [] (early_content size was bytes r) was image
    part_three was there image first third = subst (λ (x : Content). IsPart size [] x was image) (assoc was) (part_then size [] (one was ++ two was) three was there image first third)

    pub has_three : (was there image : List ℕ) → HasContent size (one was ++ two was) there → IsPart size [] three there image → HasContent size three image → HasContent size (early_content size was bytes r) image
    has_three was there image had third has =
        subst (λ (x : Content). HasContent size x image) (assoc was)
        (has_both size (one was ++ two was) three image
        (has_stays size [] (one was ++ two was) three there image had third
        (λ s e. (
          refl,
          subst (λ (ss : List ℕ). is_among ss s ≡ false) (sym (flat_pieces size r.early.items))
              (apart_between (source ++ carried) pieces (subst AreApart (sym (append_assoc source carried pieces)) once_early) s
              (subst (λ (ss : List ℕ). is_among ss s ≡ true)
              (content_append (one was) (two was) ∙ ap₂ (λ (a b : List ℕ). a ++ b) (source_sectors size was bytes r.source) (flat_carried size was r.carried.items)) e)),
        )))
        has)
