-- A change of a disc with an old map, stage by stage.
use Rattle.std.proofs.Common.{◌≡◌, ◌<◌, inl, inr, ⊎_elim, ℕ, true, false, List, [], ◌++◌, sym, ap, subst, ◌∙◌, arith}
use Rattle.std.specs.List.{flat_map}
use Rattle.fc_device.specs.Sectors.{sector_at}
use Rattle.fc_newmap.proofs.PlaceLemmas.{in_range}
use Rattle.fc_image.specs.Layout.{Layout, is_among, map_place}
use Rattle.fc_oldmap.specs.OldMap.{OldMapContent}
use Rattle.fc_writing.specs.declared.ready.Piece.{Piece}
use Rattle.fc_writing.specs.declared.ready.Ready.{Ready}
use Rattle.fc_writing.specs.Content.{Content, HasContent, IsPart, content_sectors}
use Rattle.fc_writing.specs.Old.{ChangeLeaves, GiveLeaves, IsTorn, IsWritten, StepLeaves, TakeLeaves, front_after, front_given, front_in, front_taken, sector_of}
use Rattle.fc_writing.specs.Ready.{CanPut, content_of, early_content, late_content}
use Rattle.fc_writing.proofs.FrontLemmas.{HasUnits, count_of, in_front_at, untorn}
use Rattle.fc_writing.proofs.StageLemmas.{all_parts, all_written, before_stage, early_apart, early_out, last_stage, late_out, late_stage, map_stays, part_mapped, step_has, step_parts, step_stage}

-- what is written beside the map, of some content, and then a step of the map
module _ (space : OldMapContent) (units : HasUnits space) (c : Content) (beside : (s : ℕ) → is_among (content_sectors c) s ≡ true → is_among (map_place (Layout.Old space)) s ≡ false)
    (was there : List ℕ) (part : IsPart (sector_of space) [] c was there) where
  abbrev mapped : List ℕ
  mapped = map_place (Layout.Old space)

  stays : (s : ℕ) → s < count_of space → sector_at (sector_of space) there s ≡ sector_at (sector_of space) was s
  stays s low = map_stays (sector_of space) mapped c was there beside part s (in_range 0 (count_of space) s (omega arith) (omega (arith, low)))

  -- the map is as it was
  pub front_stays : front_in space there ≡ front_in space was
  front_stays = untorn space units was there stays

  pub part_there : IsPart (sector_of space) mapped c was there
  part_there = part_mapped (sector_of space) mapped c was there part

  module _ (new image : List ℕ) where
    -- a step since then, by what was there at first
    pub torn_since : IsTorn space there new image → IsTorn space was new image
    torn_since torn s low = ⊎_elim (λ old. inl (old ∙ stays s low)) (λ now. inr now) (torn s low)

-- ---- up to the first step and with it

module _ (space : OldMapContent) (units : HasUnits space) (n : ℕ) (r : Ready) (bytes : List ℕ) (can : CanPut n (map_place (Layout.Old space)) r) (was there : List ℕ)
    (part : IsPart (sector_of space) [] (early_content (sector_of space) was bytes r) was there) where
  abbrev early : Content
  early = early_content (sector_of space) was bytes r

  out : (s : ℕ) → is_among (content_sectors early) s ≡ true → is_among (map_place (Layout.Old space)) s ≡ false
  out = early_out n (map_place (Layout.Old space)) r can (sector_of space) was bytes

  pub early_before : TakeLeaves space r bytes was there
  early_before =
      inl (before_stage (sector_of space) (map_place (Layout.Old space)) early (λ other. front_in space other ≡ front_in space was) was there
      (part_there space units early out was there part) (front_stays space units early out was there part))

  module _ (has : HasContent (sector_of space) early there) (image : List ℕ) (leaves : StepLeaves space r.take there image) where
    pub early_taking : TakeLeaves space r bytes was image
    early_taking =
        inr (step_stage (sector_of space) (map_place (Layout.Old space)) early out was there has (part_there space units early out was there part) image leaves.others
        (IsTorn space was (front_taken space r was))
        (subst (λ (f : List ℕ). IsTorn space was (front_after r.take f) image) (front_stays space units early out was there part)
        (torn_since space units early out was there part (front_after r.take (front_in space there)) image leaves.torn)))

    pub early_taken : front_in space image ≡ front_after r.take (front_in space there) → IsWritten space (front_taken space r was) early was image
    early_taken map = record {
      written = step_has (sector_of space) (map_place (Layout.Old space)) early out was there has (part_there space units early out was there part) image leaves.others;
      others = step_parts (sector_of space) (map_place (Layout.Old space)) early out was there has (part_there space units early out was there part) image leaves.others;
      map = map ∙ ap (front_after r.take) (front_stays space units early out was there part);
    }

-- ---- after it

module _ (space : OldMapContent) (units : HasUnits space) (n : ℕ) (r : Ready) (can : CanPut n (map_place (Layout.Old space)) r) (was there : List ℕ)
    (part : IsPart (sector_of space) [] (late_content (sector_of space) r) was there) where
  abbrev late : Content
  late = late_content (sector_of space) r

  late_beside_map : (s : ℕ) → is_among (content_sectors late) s ≡ true → is_among (map_place (Layout.Old space)) s ≡ false
  late_beside_map = late_out n (map_place (Layout.Old space)) r can (sector_of space) was []

  pub late_before : GiveLeaves space r was there
  late_before =
      inl (before_stage (sector_of space) (map_place (Layout.Old space)) late (λ other. front_in space other ≡ front_in space was) was there
      (part_there space units late late_beside_map was there part) (front_stays space units late late_beside_map was there part))

  module _ (has : HasContent (sector_of space) late there) (image : List ℕ) (leaves : StepLeaves space r.give there image) where
    pub late_giving : GiveLeaves space r was image
    late_giving =
        inr (step_stage (sector_of space) (map_place (Layout.Old space)) late late_beside_map was there has (part_there space units late late_beside_map was there part) image leaves.others
        (IsTorn space was (front_after r.give (front_in space was)))
        (subst (λ (f : List ℕ). IsTorn space was (front_after r.give f) image) (front_stays space units late late_beside_map was there part)
        (torn_since space units late late_beside_map was there part (front_after r.give (front_in space there)) image leaves.torn)))

    pub late_given : front_in space image ≡ front_after r.give (front_in space there) → IsWritten space (front_after r.give (front_in space was)) late was image
    late_given map = record {
      written = step_has (sector_of space) (map_place (Layout.Old space)) late late_beside_map was there has (part_there space units late late_beside_map was there part) image leaves.others;
      others = step_parts (sector_of space) (map_place (Layout.Old space)) late late_beside_map was there has (part_there space units late late_beside_map was there part) image leaves.others;
      map = map ∙ ap (front_after r.give) (front_stays space units late late_beside_map was there part);
    }

-- the pieces that come late, as they were lent
pub late_lent : (size size' : ℕ) (r : Ready) (pieces : List Piece) (image : List ℕ) → size' ≡ size → pieces ≡ r.late.items → HasContent size' (flat_map (content_of size') pieces) image → HasContent size (late_content size r) image
late_lent size size' r pieces image same are has =
    subst (λ (ps : List Piece). HasContent size (flat_map (content_of size) ps) image) are (subst (λ (k : ℕ). HasContent k (flat_map (content_of k) pieces) image) same has)

-- ---- both

pub old_early : (space : OldMapContent) (r : Ready) (bytes was image : List ℕ) → TakeLeaves space r bytes was image → ChangeLeaves space r bytes was image
old_early space r bytes was image leaves = ⊎_elim (λ stage. inl stage) (λ stage. inr (inl stage)) leaves

module _ (space : OldMapContent) (units : HasUnits space) (n : ℕ) (r : Ready) (bytes : List ℕ) (can : CanPut n (map_place (Layout.Old space)) r) (was there : List ℕ)
    (done : IsWritten space (front_taken space r was) (early_content (sector_of space) was bytes r) was there) where
  abbrev earlier : Content
  earlier = early_content (sector_of space) was bytes r

  abbrev later : Content
  later = late_content (sector_of space) r

  apart : (s : ℕ) → is_among (content_sectors earlier) s ≡ true → (is_among (map_place (Layout.Old space)) s ≡ false) × (is_among (content_sectors later) s ≡ false)
  apart = early_apart n (map_place (Layout.Old space)) r can (sector_of space) was bytes

  -- by the map after the first step
  torn_now : (image : List ℕ) → IsTorn space there (front_after r.give (front_in space there)) image → IsTorn space (front_taken space r was) (front_given space r was) image
  torn_now image torn s low =
      ⊎_elim (λ old. inl (old ∙ sym (in_front_at space units there s low) ∙ ap (λ (f : List ℕ). sector_at (sector_of space) f s) done.map))
      (λ now. inr (now ∙ ap (λ (f : List ℕ). sector_at (sector_of space) (front_after r.give f) s) done.map)) (torn s low)

  pub old_late : (image : List ℕ) → GiveLeaves space r there image → ChangeLeaves space r bytes was image
  old_late image leaves =
      inr (inr (⊎_elim
      (λ stage. inl (late_stage (sector_of space) (map_place (Layout.Old space)) earlier later apart was there done.written done.others (λ other. front_in space other ≡ front_taken space r was) image stage.sectors
      (stage.map ∙ done.map)))
      (λ stage. inr (last_stage (sector_of space) (map_place (Layout.Old space)) earlier later apart was there done.written done.others (IsTorn space there (front_after r.give (front_in space there)))
      (IsTorn space (front_taken space r was) (front_given space r was)) image stage (torn_now image stage.map))) leaves))

  pub old_done : (image : List ℕ) → IsWritten space (front_after r.give (front_in space there)) later there image → IsWritten space (front_given space r was) (earlier ++ later) was image
  old_done image last = record {
    written = all_written (sector_of space) (map_place (Layout.Old space)) earlier later apart was there done.written done.others image last.written last.others;
    others = all_parts (sector_of space) (map_place (Layout.Old space)) earlier later apart was there done.written done.others image last.others;
    map = last.map ∙ ap (front_after r.give) done.map;
  }
