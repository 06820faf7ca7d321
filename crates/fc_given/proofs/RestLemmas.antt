-- The rest of a change, after the new object's bytes.
use Rattle.std.proofs.Common.{◌≡◌, ◌⊎◌, inl, inr, ⊎_elim, ◌<◌, ℕ, true, false, List, [], ◌++◌, All, append_assoc, refl, sym, ap, ap₂, subst, ◌∙◌}
use Rattle.std.specs.List.{flat_map}
use Rattle.std.proofs.lemmas.Bool.{false_from_ne_true}
use Rattle.std.proofs.lemmas.List.{append-nil}
use Rattle.fc_newmap.proofs.PlaceLemmas.{in_back, in_front}
use Rattle.fc_image.specs.Layout.{is_among, is_apart}
use Rattle.fc_image.proofs.HolesLemmas.{apart_at, apart_from}
use Rattle.fc_objects.specs.Written.{AreApart}
use Rattle.fc_writing.specs.declared.ready.Ready.{Ready}
use Rattle.fc_writing.specs.Content.{Content, HasContent, IsPart, content_sectors}
use Rattle.fc_writing.specs.Ready.{CanPut, carried_by, content_of, copied_place, early_content, early_place, from_of, late_content, late_place, place_of, source_content, source_from, source_place, to_of, written_place}
use Rattle.fc_writing.specs.Stages.{Leaves, Stage}
use Rattle.fc_writing.proofs.ContentLemmas.{all_back, apart_back, apart_between, clash, content_append, has_both, has_none, has_stays, part_then, part_wider}
use Rattle.std.proofs.lemmas.List.Elements.{Contains-append_left}
use Rattle.fc_writing.proofs.EarlyLemmas.{early_beside, early_sectors, late_sectors, source_sectors, two_now}
use Rattle.fc_writing.proofs.StageLemmas.{before_stage, part_mapped}
use Rattle.fc_given.specs.Law.{IsBegun, IsStored, rest_of}

module _ (n : ℕ) (mapped : List ℕ) (r : Ready) (can : CanPut n mapped r) where
  abbrev source : List ℕ
  source = source_place r.source

  -- what is written of the rest before the map's first step, and all of it
  abbrev tail : List ℕ
  tail = flat_map to_of r.carried.items ++ flat_map place_of r.early.items

  abbrev others : List ℕ
  others = tail ++ late_place r

  cut : written_place r ≡ source ++ others
  cut = append_assoc source tail (late_place r)

  in_written : (s : ℕ) → is_among others s ≡ true → is_among (written_place r) s ≡ true
  in_written s e = subst (λ (ss : List ℕ). is_among ss s ≡ true) (sym cut) (in_back source others s e)

  carried_in : (s : ℕ) → is_among (flat_map from_of r.carried.items) s ≡ true → is_among (copied_place r) s ≡ true
  carried_in s e = in_back (source_from r.source) (flat_map from_of r.carried.items) s e

  once : AreApart (source ++ others)
  once = subst AreApart cut can.once

  pub can_rest : CanPut n mapped (rest_of r)
  can_rest = record {
    on_disk = all_back (λ s. s < n) source others (subst (All (λ s. s < n)) cut can.on_disk);
    from_disk = all_back (λ s. s < n) (source_from r.source) (flat_map from_of r.carried.items) can.from_disk;
    once = apart_back source others once;
    beside = apart_from others mapped (λ s a b. clash (is_among mapped s) b (apart_at (written_place r) mapped s can.beside (in_written s a)));
    others = apart_from (flat_map from_of r.carried.items) others (λ s a b. clash (is_among (written_place r) s) (in_written s b) (apart_at (copied_place r) (written_place r) s can.others (carried_in s a)));
    unmapped = apart_from (flat_map from_of r.carried.items) mapped (λ s a b. clash (is_among mapped s) b (apart_at (copied_place r) mapped s can.unmapped (carried_in s a)));
    source_enough = tt;
    enough = can.enough;
  }

  module _ (size : ℕ) (bytes : List ℕ) where
    abbrev first : List ℕ → Content
    first was = source_content size was bytes r.source

    pub first_out : (was : List ℕ) (s : ℕ) → is_among (content_sectors (first was)) s ≡ true → is_among mapped s ≡ false
    first_out was s e = early_beside n mapped r can s (in_front source tail s (subst (λ (ss : List ℕ). is_among ss s ≡ true) (source_sectors size was bytes r.source) e))

    -- some of it is there
    pub first_stage : (P : List ℕ → Type 0) (was image : List ℕ) → IsBegun size r bytes was image → P image → Stage size mapped [] (early_content size was bytes r) P was image
    first_stage P was image begun map =
        before_stage size mapped (early_content size was bytes r) P was image
        (part_wider size [] mapped (first was) (early_content size was bytes r) was image (λ s out. refl) (λ w there. Contains-append_left (first was) (flat_map (carried_by size was) r.carried.items ++ flat_map (content_of size) r.early.items) w there) begun) map

    module _ (none was mid : List ℕ) (stored : IsStored size r bytes was mid) where
      abbrev E : Content
      E = early_content size mid none (rest_of r)

      abbrev L : Content
      L = late_content size r

      early_is : early_content size was bytes r ≡ first was ++ E
      early_is = ap (λ (c : Content). first was ++ (c ++ flat_map (content_of size) r.early.items)) (sym (two_now n mapped r can size bytes was mid stored.begun))

      -- only sectors of the rest
      abbrev Within : Content → Type 0
      Within c = (s : ℕ) → is_among (content_sectors c) s ≡ true → is_among others s ≡ true

      all_sectors : content_sectors (E ++ L) ≡ others
      all_sectors = content_append E L ∙ ap₂ (λ (a b : List ℕ). a ++ b) (early_sectors size mid none (rest_of r)) (late_sectors size r)

      within_all : Within (E ++ L)
      within_all s e = subst (λ (ss : List ℕ). is_among ss s ≡ true) all_sectors e

      within_early : Within E
      within_early s e = in_front tail (late_place r) s (subst (λ (ss : List ℕ). is_among ss s ≡ true) (early_sectors size mid none (rest_of r)) e)

      apart : (c : Content) → Within c → (s : ℕ) → is_among (content_sectors (first was)) s ≡ true → (is_among mapped s ≡ false) × (is_among (content_sectors c) s ≡ false)
      apart c within s e = (
        first_out was s e,
        false_from_ne_true (is_among (content_sectors c) s) (λ h. clash (is_among others s) (within s h)
            (apart_between source others once s (subst (λ (ss : List ℕ). is_among ss s ≡ true) (source_sectors size was bytes r.source) e))),
      )

      module _ (image : List ℕ) where
        still_has : (c : Content) → Within c → IsPart size mapped c mid image → HasContent size (first was) image
        still_has c within part = has_stays size mapped (first was) c mid image stored.whole part (apart c within)

        both_parts : (c : Content) → IsPart size mapped c mid image → IsPart size mapped (first was ++ c) was image
        both_parts c part = part_then size mapped (first was) c was mid image (part_mapped size mapped (first was) was mid stored.begun) part

        shift : (there part : Content) (P Q : List ℕ → Type 0) → Within (there ++ part) → Stage size mapped there part P mid image → Q image → Stage size mapped (first was ++ there) part Q was image
        shift there part P Q within stage map = record {
          written = has_both size (first was) there image (still_has (there ++ part) within stage.sectors) stage.written;
          sectors = subst (λ (c : Content). IsPart size mapped c was image) (sym (append_assoc (first was) there part)) (both_parts (there ++ part) stage.sectors);
          map = map;
        }

        shift_first : (P Q : List ℕ → Type 0) → Stage size mapped [] E P mid image → Q image → Stage size mapped [] (first was ++ E) Q was image
        shift_first P Q stage map = record { written = has_none size image; sectors = both_parts E stage.sectors; map = map }

        none_more : (c : Content) → Within c → Within (c ++ [])
        none_more c within = subst Within (sym (append-nil c)) within

        pub leaves_then : (A B C D A' B' C' D' : List ℕ → Type 0) → (A image → A' image) → (B image → B' image) → (C image → C' image) → (D image → D' image)
            → Leaves size mapped E L A B C D mid image → Leaves size mapped (early_content size was bytes r) L A' B' C' D' was image
        leaves_then A B C D A' B' C' D' a b c d leaves =
            subst (λ (early : Content). Leaves size mapped early L A' B' C' D' was image) (sym early_is)
            (⊎_elim (λ stage. inl (shift_first A A' stage (a stage.map)))
            (λ more. inr (⊎_elim (λ stage. inl (shift E [] B B' (none_more E within_early) stage (b stage.map)))
            (λ rest. inr (⊎_elim (λ stage. inl (shift E L C C' within_all stage (c stage.map)))
            (λ stage. inr (subst (λ (there : Content). Stage size mapped there [] D' was image) (sym (append_assoc (first was) E L)) (shift (E ++ L) [] D D' (none_more (E ++ L) within_all) stage (d stage.map)))) rest)) more)) leaves)

        pub has_all : HasContent size (E ++ L) image → IsPart size mapped (E ++ L) mid image → HasContent size (early_content size was bytes r ++ L) image
        has_all has part =
            subst (λ (early : Content). HasContent size (early ++ L) image) (sym early_is)
            (subst (λ (c : Content). HasContent size c image) (sym (append_assoc (first was) E L)) (has_both size (first was) (E ++ L) image (still_has (E ++ L) within_all part) has))

        pub part_all : IsPart size mapped (E ++ L) mid image → IsPart size mapped (early_content size was bytes r ++ L) was image
        part_all part =
            subst (λ (early : Content). IsPart size mapped (early ++ L) was image) (sym early_is)
            (subst (λ (c : Content). IsPart size mapped c was image) (sym (append_assoc (first was) E L)) (both_parts (E ++ L) part))
