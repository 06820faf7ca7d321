-- A change of a disc with a new map, stage by stage.
use Rattle.std.proofs.Common.{◌≡◌, ◌⊎◌, inl, inr, ⊎_elim, ℕ, true, false, List, [], ◌++◌, sym, ap, subst, ◌∙◌}
use Rattle.fc_record.specs.declared.Geometry.{Geometry}
use Rattle.fc_newmap.specs.Map.{Map, map_sectors}
use Rattle.fc_device.specs.Sectors.{sector_at}
use Rattle.fc_newmap.proofs.PlaceLemmas.{contains_none}
use Rattle.fc_image.specs.Layout.{is_among}
use Rattle.fc_newmap.specs.Copies.{ChangesCopies, Chooses, HoldsCopies}
use Rattle.fc_writing.specs.declared.ready.MapStep.{MapStep}
use Rattle.fc_writing.specs.declared.ready.MapStep.TheVariants as steps
use Rattle.std.specs.List.{flat_map}
use Rattle.fc_writing.specs.declared.ready.Piece.{Piece}
use Rattle.fc_writing.specs.declared.ready.Ready.{Ready}
use Rattle.fc_writing.specs.Content.{Content, HasContent, IsPart, content_sectors}
use Rattle.fc_writing.specs.Copies.{KeepsMap}
use Rattle.fc_writing.specs.New.{AfterTake, ChangeLeaves, GiveLeaves, InGive, InLast, InStep, InTake, IsReached, IsTaken, IsWritten, TakeLeaves}
use Rattle.fc_writing.specs.Ready.{CanPut, content_of, early_content, late_content}
use Rattle.fc_writing.specs.Stages.{Half, Stage}
use Rattle.fc_writing.specs.Steps.{HasStepped}
use Rattle.fc_writing.proofs.ContentLemmas.{part_then, part_wider}
use Rattle.fc_writing.proofs.CopyLemmas.{chooses_first, chooses_stays, copies_stay, part_of_map}
use Rattle.fc_writing.proofs.StageLemmas.{all_parts, all_written, before_stage, early_apart, early_out, early_same, last_stage, late_out, late_stage, map_stays, part_mapped, step_has, step_parts, step_stage}
use Rattle.fc_writing.proofs.StepLemmas.{rooted_geometry}

-- a step keeps the geometry
pub step_geometry : (m n : Map) (step : MapStep) → HasStepped m n step → n.geometry ≡ m.geometry
step_geometry m n (steps.New s) done = done.edited.geometry ∙ rooted_geometry m s.root
step_geometry m n (steps.Old space) done = absurd done
step_geometry m n steps.Nothing done = ap (λ (x : Map). x.geometry) done

-- ---- before the first step

module _ (m : Map) (r : Ready) (bytes was : List ℕ) where
  abbrev size : ℕ
  size = m.geometry.sector

  abbrev mapped : List ℕ
  mapped = map_sectors m.geometry

  abbrev early : Content
  early = early_content size was bytes r

  -- while the copies are made equal
  pub match_stage : (image : List ℕ) → KeepsMap m was image → Stage size mapped [] early (Chooses m.geometry m.zones) was image
  match_stage image kept =
      before_stage size mapped early (Chooses m.geometry m.zones) was image
      (part_wider size mapped mapped [] early was image (λ s out. out) (λ w there. absurd (contains_none w there)) (part_of_map m.geometry was image kept.frame)) kept.content

module _ (m : Map) (n : ℕ) (r : Ready) (bytes : List ℕ) (can : CanPut n (map_sectors m.geometry) r) (was there : List ℕ) (kept : KeepsMap m was there) (image : List ℕ)
    (part : IsPart m.geometry.sector [] (early_content m.geometry.sector there bytes r) there image) where
  abbrev now : Content
  now = early_content m.geometry.sector was bytes r

  part_now : IsPart m.geometry.sector [] now there image
  part_now = subst (λ (c : Content). IsPart m.geometry.sector [] c there image) (early_same n (map_sectors m.geometry) r can m.geometry.sector bytes was there (part_of_map m.geometry was there kept.frame)) part

  all_part : IsPart m.geometry.sector (map_sectors m.geometry) now was image
  all_part =
      part_then m.geometry.sector (map_sectors m.geometry) [] now was there image (part_of_map m.geometry was there kept.frame)
      (part_mapped m.geometry.sector (map_sectors m.geometry) now there image part_now)

  pub laid_stage : Stage m.geometry.sector (map_sectors m.geometry) [] now (Chooses m.geometry m.zones) was image
  laid_stage =
      before_stage m.geometry.sector (map_sectors m.geometry) now (Chooses m.geometry m.zones) was image all_part
      (chooses_stays m.geometry there image (map_stays m.geometry.sector (map_sectors m.geometry) now there image (early_out n (map_sectors m.geometry) r can m.geometry.sector was bytes) part_now) m.zones kept.content)

  pub laid : HoldsCopies m.geometry m.zones there → HasContent m.geometry.sector (early_content m.geometry.sector there bytes r) image → IsWritten m.geometry m.zones now was image
  laid copies has = record {
    written = subst (λ (c : Content). HasContent m.geometry.sector c image) (early_same n (map_sectors m.geometry) r can m.geometry.sector bytes was there (part_of_map m.geometry was there kept.frame)) has;
    others = all_part;
    copies = copies_stay m.geometry there image (map_stays m.geometry.sector (map_sectors m.geometry) now there image (early_out n (map_sectors m.geometry) r can m.geometry.sector was bytes) part_now) m.zones copies;
  }

-- ---- the first step

module _ (m m' : Map) (n : ℕ) (r : Ready) (bytes : List ℕ) (can : CanPut n (map_sectors m.geometry) r) (was there image : List ℕ)
    (laid : IsWritten m.geometry m.zones (early_content m.geometry.sector was bytes r) was there) (frame : ChangesCopies m.geometry there image) where
  abbrev first : Content
  first = early_content m.geometry.sector was bytes r

  pub taking : HasStepped m m' r.take → InStep m m' r.take image → TakeLeaves m r bytes was image
  taking stepped counts =
      inr (step_stage m.geometry.sector (map_sectors m.geometry) first (early_out n (map_sectors m.geometry) r can m.geometry.sector was bytes) was there laid.written laid.others image
      (part_of_map m.geometry there image frame) (InTake m r) (m', stepped, counts))

  pub taken : HoldsCopies m.geometry m'.zones image → IsWritten m.geometry m'.zones first was image
  taken copies = record {
    written = step_has m.geometry.sector (map_sectors m.geometry) first (early_out n (map_sectors m.geometry) r can m.geometry.sector was bytes) was there laid.written laid.others image (part_of_map m.geometry there image frame);
    others = step_parts m.geometry.sector (map_sectors m.geometry) first (early_out n (map_sectors m.geometry) r can m.geometry.sector was bytes) was there laid.written laid.others image (part_of_map m.geometry there image frame);
    copies = copies;
  }

-- ---- after the first step

module _ (m : Map) (n : ℕ) (r : Ready) (can : CanPut n (map_sectors m.geometry) r) (was : List ℕ) (equal : HoldsCopies m.geometry m.zones was) where
  abbrev late : Content
  late = late_content m.geometry.sector r

  module _ (there : List ℕ) (part : IsPart m.geometry.sector [] late was there) where
    stay : (s : ℕ) → is_among (map_sectors m.geometry) s ≡ true → sector_at m.geometry.sector there s ≡ sector_at m.geometry.sector was s
    stay = map_stays m.geometry.sector (map_sectors m.geometry) late was there (late_out n (map_sectors m.geometry) r can m.geometry.sector was []) part

    pub putting : GiveLeaves m r was there
    putting =
        inl (before_stage m.geometry.sector (map_sectors m.geometry) late (Chooses m.geometry m.zones) was there (part_mapped m.geometry.sector (map_sectors m.geometry) late was there part)
        (chooses_stays m.geometry was there stay m.zones (chooses_first m.geometry m.zones was equal)))

    pub equal_still : HoldsCopies m.geometry m.zones there
    equal_still = copies_stay m.geometry was there stay m.zones equal

    module _ (m' : Map) (image : List ℕ) (has : HasContent m.geometry.sector late there) (frame : ChangesCopies m.geometry there image) where
      pub giving : HasStepped m m' r.give → InStep m m' r.give image → GiveLeaves m r was image
      giving stepped counts =
          inr (step_stage m.geometry.sector (map_sectors m.geometry) late (late_out n (map_sectors m.geometry) r can m.geometry.sector was []) was there has
          (part_mapped m.geometry.sector (map_sectors m.geometry) late was there part) image (part_of_map m.geometry there image frame) (InLast m r) (m', stepped, counts))

      pub given : HoldsCopies m.geometry m'.zones image → IsWritten m.geometry m'.zones late was image
      given copies = record {
        written = step_has m.geometry.sector (map_sectors m.geometry) late (late_out n (map_sectors m.geometry) r can m.geometry.sector was []) was there has
            (part_mapped m.geometry.sector (map_sectors m.geometry) late was there part) image (part_of_map m.geometry there image frame);
        others = step_parts m.geometry.sector (map_sectors m.geometry) late (late_out n (map_sectors m.geometry) r can m.geometry.sector was []) was there has
            (part_mapped m.geometry.sector (map_sectors m.geometry) late was there part) image (part_of_map m.geometry there image frame);
        copies = copies;
      }

-- ---- both

module _ (m mid : Map) (n : ℕ) (r : Ready) (bytes : List ℕ) (can : CanPut n (map_sectors m.geometry) r) (was there : List ℕ) (stepped : IsTaken m r mid)
    (done : IsWritten m.geometry mid.zones (early_content m.geometry.sector was bytes r) was there) where
  abbrev g : Geometry
  g = m.geometry

  same : mid.geometry ≡ g
  same = step_geometry m mid r.take stepped

  abbrev earlier : Content
  earlier = early_content g.sector was bytes r

  abbrev later : Content
  later = late_content g.sector r

  apart : (s : ℕ) → is_among (content_sectors earlier) s ≡ true → (is_among (map_sectors g) s ≡ false) × (is_among (content_sectors later) s ≡ false)
  apart = early_apart n (map_sectors g) r can g.sector was bytes

  pub late_leaves : (image : List ℕ) → GiveLeaves mid r there image → ChangeLeaves m r bytes was image
  late_leaves image leaves =
      let now : Half g.sector (map_sectors g) later (Chooses g mid.zones) (InLast mid r) there image =
      subst (λ (h : Geometry). Half h.sector (map_sectors h) (late_content h.sector r) (Chooses h mid.zones) (InLast mid r) there image) same leaves in
      inr (inr (⊎_elim
      (λ stage. inl (late_stage g.sector (map_sectors g) earlier later apart was there done.written done.others (AfterTake m r) image stage.sectors (mid, stepped, stage.map)))
      (λ stage. inr (last_stage g.sector (map_sectors g) earlier later apart was there done.written done.others (InLast mid r) (InGive m r) image stage
      (mid, stage.map.0, stepped, stage.map.1, stage.map.2))) now))

  pub all_done : (zones : List (List ℕ)) (image : List ℕ) → IsWritten mid.geometry zones (late_content mid.geometry.sector r) there image → IsWritten g zones (earlier ++ later) was image
  all_done zones image last =
      let now : IsWritten g zones later there image = subst (λ (h : Geometry). IsWritten h zones (late_content h.sector r) there image) same last in
      record {
        written = all_written g.sector (map_sectors g) earlier later apart was there done.written done.others image now.written now.others;
        others = all_parts g.sector (map_sectors g) earlier later apart was there done.written done.others image now.others;
        copies = now.copies;
      }

pub early_leaves : (m : Map) (r : Ready) (bytes was image : List ℕ) → TakeLeaves m r bytes was image → ChangeLeaves m r bytes was image
early_leaves m r bytes was image leaves = ⊎_elim (λ stage. inl stage) (λ stage. inr (inl stage)) leaves

pub reached_early : (m n : Map) (r : Ready) → (n ≡ m) ⊎ IsTaken m r n → IsReached m r n
reached_early m n r at = ⊎_elim (λ same. inl same) (λ taken. inr (inl taken)) at

pub reached_late : (m mid n : Map) (r : Ready) → IsTaken m r mid → (n ≡ mid) ⊎ HasStepped mid n r.give → IsReached m r n
reached_late m mid n r taken at = ⊎_elim (λ same. inr (inl (subst (IsTaken m r) (sym same) taken))) (λ stepped. inr (inr (mid, taken, stepped))) at

-- the pieces that come late, as they were lent
pub late_put : (g g' : Geometry) (r : Ready) (pieces : List Piece) (image : List ℕ) → g' ≡ g → pieces ≡ r.late.items → HasContent g'.sector (flat_map (content_of g'.sector) pieces) image → HasContent g.sector (late_content g.sector r) image
late_put g g' r pieces image same are has =
    subst (λ (ps : List Piece). HasContent g.sector (flat_map (content_of g.sector) ps) image) are (subst (λ (h : Geometry). HasContent h.sector (flat_map (content_of h.sector) pieces) image) same has)
