-- What follows from what a change leaves.
use Rattle.std.proofs.Common.{◌≡◌, ◌⊎◌, inl, inr, ⊎_elim, ℕ, false, List, [], ◌++◌, refl, sym, ap, ap₂, subst, ◌∙◌}
use Rattle.std.specs.List.{flat_map}
use Rattle.std.proofs.lemmas.List.{append-nil}
use Rattle.fc_newmap.specs.Map.{Map, map_sectors}
use Rattle.fc_newmap.specs.Copies.{Chooses}
use Rattle.fc_oldmap.specs.OldMap.{OldMapContent}
use Rattle.fc_image.specs.Layout.{Layout, is_among, map_place}
use Rattle.fc_writing.specs.declared.ready.MapStep.{MapStep}
use Rattle.fc_writing.specs.declared.ready.MapStep.TheVariants as steps
use Rattle.fc_writing.specs.declared.ready.Piece.{Piece}
use Rattle.fc_writing.specs.declared.ready.Ready.{Ready}
use Rattle.fc_writing.specs.Content.{Content, HasContent, IsPart, content_sectors}
use Rattle.fc_writing.specs.Laws.{ChangesOnly, IsTurned, IsUnturned, LeavesLaw}
use Rattle.fc_writing.specs.New.{AfterTake, ChangeLeaves, InGive, InStep, InTake, IsGiven, IsTaken}
use Rattle.fc_writing.specs.Old.{IsTorn, front_after, front_in, front_given, front_taken}
use Rattle.fc_writing.specs.Old as old
use Rattle.fc_writing.specs.Ready.{content_of, early_content, late_content, written_place}
use Rattle.fc_writing.specs.Stages.{Leaves}
use Rattle.fc_writing.specs.Steps.{HasStepped, is_wide}
use Rattle.fc_record.specs.declared.Geometry.{Geometry}
use Rattle.fc_writing.proofs.NewLemmas.{step_geometry}
use Rattle.fc_writing.proofs.ContentLemmas.{clash, content_append, has_none, out_left, out_right, part_outside}
use Rattle.fc_writing.proofs.EarlyLemmas.{early_sectors, late_sectors}
use Rattle.fc_writing.proofs.FrontLemmas.{torn_front, torn_was, untorn}

-- ---- the sectors that differ

module _ (size : ℕ) (mapped : List ℕ) (early late : Content) (was image : List ℕ) where
  abbrev places : List ℕ
  places = content_sectors early ++ content_sectors late

  only : (c : Content) → ((s : ℕ) → is_among places s ≡ false → is_among (content_sectors c) s ≡ false) → IsPart size mapped c was image → ChangesOnly size (places ++ mapped) was image
  only c within part = record {
    length_stays = part.length_stays;
    outside = λ s out. part_outside size mapped c was image part s (out_right places mapped s out) (within s (out_left places mapped s out));
  }

  pub leaves_only : (A B C D : List ℕ → Type 0) → Leaves size mapped early late A B C D was image → ChangesOnly size (places ++ mapped) was image
  leaves_only A B C D leaves =
      ⊎_elim (λ stage. only early (λ s out. out_left (content_sectors early) (content_sectors late) s out) stage.sectors)
      (λ more. ⊎_elim (λ stage. only (early ++ []) (λ s out. subst (λ (c : Content). is_among (content_sectors c) s ≡ false) (sym (append-nil early)) (out_left (content_sectors early) (content_sectors late) s out)) stage.sectors)
      (λ rest. ⊎_elim (λ stage. only (early ++ late) (λ s out. both s out) stage.sectors)
      (λ stage. only ((early ++ late) ++ []) (λ s out. subst (λ (c : Content). is_among (content_sectors c) s ≡ false) (sym (append-nil (early ++ late))) (both s out)) stage.sectors) rest) more) leaves
    where
      both : (s : ℕ) → is_among places s ≡ false → is_among (content_sectors (early ++ late)) s ≡ false
      both s out = subst (λ (ss : List ℕ). is_among ss s ≡ false) (sym (content_append early late)) out

change_places : (size : ℕ) (was bytes : List ℕ) (r : Ready) → content_sectors (early_content size was bytes r) ++ content_sectors (late_content size r) ≡ written_place r
change_places size was bytes r = ap₂ (λ (a b : List ℕ). a ++ b) (early_sectors size was bytes r) (late_sectors size r)

frame : (m : Map) (r : Ready) (bytes was image : List ℕ) → ChangeLeaves m r bytes was image → ChangesOnly m.geometry.sector (written_place r ++ map_sectors m.geometry) was image
frame m r bytes was image leaves =
    subst (λ (ss : List ℕ). ChangesOnly m.geometry.sector (ss ++ map_sectors m.geometry) was image) (change_places m.geometry.sector was bytes r)
    (leaves_only m.geometry.sector (map_sectors m.geometry) (early_content m.geometry.sector was bytes r) (late_content m.geometry.sector r) was image (Chooses m.geometry m.zones) (InTake m r) (AfterTake m r) (InGive m r) leaves)

old_frame : (space : OldMapContent) (r : Ready) (bytes was image : List ℕ) → old.ChangeLeaves space r bytes was image → ChangesOnly (old.sector_of space) (written_place r ++ map_place (Layout.Old space)) was image
old_frame space r bytes was image leaves =
    subst (λ (ss : List ℕ). ChangesOnly (old.sector_of space) (ss ++ map_place (Layout.Old space)) was image) (change_places (old.sector_of space) was bytes r)
    (leaves_only (old.sector_of space) (map_place (Layout.Old space)) (early_content (old.sector_of space) was bytes r) (late_content (old.sector_of space) r) was image
    (λ other. front_in space other ≡ front_in space was) (IsTorn space was (front_taken space r was))
    (λ other. front_in space other ≡ front_taken space r was) (IsTorn space (front_taken space r was) (front_given space r was)) leaves)

-- ---- the copy that counts

-- one of two, if the step isn't wide
narrow : (m n : Map) (step : MapStep) (image : List ℕ) → is_wide step ≡ false → InStep m n step image → Chooses m.geometry m.zones image ⊎ Chooses m.geometry n.zones image
narrow m n step image few at = ⊎_elim (λ wide. absurd (clash (is_wide step) wide few)) (λ one. one) at

taken_geometry : (m n : Map) (step : MapStep) → HasStepped m n step → n.geometry ≡ m.geometry
taken_geometry m n step done = step_geometry m n step done

abbrev pub OneOf : Map → Ready → List ℕ → Type 0
OneOf m r image = (n : Map) × ((n ≡ m) ⊎ (IsTaken m r n ⊎ IsGiven m r n)) × Chooses m.geometry n.zones image

whole : (m : Map) (r : Ready) (bytes was image : List ℕ) → is_wide r.take ≡ false → is_wide r.give ≡ false → ChangeLeaves m r bytes was image → OneOf m r image
whole m r bytes was image few_take few_give leaves =
    ⊎_elim (λ stage. (m, inl refl, stage.map))
    (λ more. ⊎_elim
    (λ stage. let at = stage.map in ⊎_elim (λ before. (m, inl refl, before)) (λ after. (at.0, inr (inl at.1), after)) (narrow m at.0 r.take image few_take at.2))
    (λ rest. ⊎_elim (λ stage. let at = stage.map in (at.0, inr (inl at.1), at.2)) (λ stage. last stage.map) rest) more) leaves
  where
    last : InGive m r image → OneOf m r image
    last at =
        let same = taken_geometry m at.0 r.take at.2 in
        ⊎_elim (λ before. (at.0, inr (inl at.2), subst (λ (h : Geometry). Chooses h at.0.zones image) same before))
        (λ after. (at.1, inr (inr (at.0, at.2, at.3)), subst (λ (h : Geometry). Chooses h at.1.zones image) same after)) (narrow at.0 at.1 r.give image few_give at.4)

-- a step that isn't there
nothing_stepped : (m n : Map) (step : MapStep) → step ≡ steps.Nothing → HasStepped m n step → n ≡ m
nothing_stepped m n step none done = subst (λ (s : MapStep). HasStepped m n s) none done

nothing_narrow : (step : MapStep) → step ≡ steps.Nothing → is_wide step ≡ false
nothing_narrow step none = ap is_wide none

still : (m : Map) (r : Ready) (bytes was image : List ℕ) → r.take ≡ steps.Nothing → r.give ≡ steps.Nothing → ChangeLeaves m r bytes was image → Chooses m.geometry m.zones image
still m r bytes was image no_take no_give leaves =
    let at = whole m r bytes was image (nothing_narrow r.take no_take) (nothing_narrow r.give no_give) leaves in
    subst (λ (n : Map). Chooses m.geometry n.zones image) (same at.0 at.1) at.2
  where
    same : (n : Map) → (n ≡ m) ⊎ (IsTaken m r n ⊎ IsGiven m r n) → n ≡ m
    same n at = ⊎_elim (λ e. e) (λ more. ⊎_elim (λ taken. nothing_stepped m n r.take no_take taken)
        (λ given. nothing_stepped given.0 n r.give no_give given.2 ∙ nothing_stepped m given.0 r.take no_take given.1) more) at

-- ---- one step alone

late_none : (size : ℕ) (r : Ready) → r.late.items ≡ [] → late_content size r ≡ []
late_none size r none = ap (λ (ps : List Piece). flat_map (content_of size) ps) none

turns : (m : Map) (r : Ready) (bytes was image : List ℕ) → r.late.items ≡ [] → r.give ≡ steps.Nothing → is_wide r.take ≡ false → ChangeLeaves m r bytes was image
    → IsUnturned m r bytes was image ⊎ IsTurned m r bytes was image
turns m r bytes was image no_late no_give few leaves =
    let size = m.geometry.sector in
    let early = early_content size was bytes r in
    let late = late_content size r in
    let none = late_none size r no_late in
    ⊎_elim (λ stage. inl stage)
    (λ more. ⊎_elim (λ stage. let at = stage.map in
    ⊎_elim (λ before. inl (unturned stage.sectors before)) (λ after. inr (record { written = stage.written; sectors = stage.sectors; map = (at.0, at.1, after) })) (narrow m at.0 r.take image few at.2))
    (λ rest. ⊎_elim
    (λ stage. inr (record { written = stage.written; sectors = subst (λ (c : Content). IsPart size (map_sectors m.geometry) (early ++ c) was image) none stage.sectors; map = stage.map }))
    (λ stage. let at = stage.map in
    inr (record {
      written = subst (λ (c : Content). HasContent size c image) (all none) stage.written;
      sectors = subst (λ (c : Content). IsPart size (map_sectors m.geometry) (c ++ []) was image) (all none) stage.sectors;
      map = last at;
    })) rest) more) leaves
  where
    unturned : IsPart m.geometry.sector (map_sectors m.geometry) (early_content m.geometry.sector was bytes r ++ []) was image → Chooses m.geometry m.zones image → IsUnturned m r bytes was image
    unturned part before = record {
      written = has_none m.geometry.sector image;
      sectors = subst (λ (c : Content). IsPart m.geometry.sector (map_sectors m.geometry) c was image) (append-nil (early_content m.geometry.sector was bytes r)) part;
      map = before;
    }

    all : late_content m.geometry.sector r ≡ [] → early_content m.geometry.sector was bytes r ++ late_content m.geometry.sector r ≡ early_content m.geometry.sector was bytes r
    all none = ap (λ (c : Content). early_content m.geometry.sector was bytes r ++ c) none ∙ append-nil (early_content m.geometry.sector was bytes r)

    last : InGive m r image → AfterTake m r image
    last at =
        let same = taken_geometry m at.0 r.take at.2 in
        let stays : at.1 ≡ at.0 = nothing_stepped at.0 at.1 r.give no_give at.3 in (
          at.0,
          at.2,
          subst (λ (h : Geometry). Chooses h at.0.zones image) same
              (⊎_elim (λ before. before) (λ after. subst (λ (n : Map). Chooses at.0.geometry n.zones image) stays after) (narrow at.0 at.1 r.give image (nothing_narrow r.give no_give) at.4)),
        )

-- ---- old maps

front_nothing : (step : MapStep) (front : List ℕ) → step ≡ steps.Nothing → front_after step front ≡ front
front_nothing step front none = ap (λ (s : MapStep). front_after s front) none

old_still : (space : OldMapContent) (r : Ready) (bytes was image : List ℕ) → (space.sector_units ≡ 1) ⊎ (space.sector_units ≡ 4) → r.take ≡ steps.Nothing → r.give ≡ steps.Nothing
    → old.ChangeLeaves space r bytes was image → front_in space image ≡ front_in space was
old_still space r bytes was image units no_take no_give leaves =
    let taken : front_taken space r was ≡ front_in space was = front_nothing r.take (front_in space was) no_take in
    let given : front_given space r was ≡ front_in space was = front_nothing r.give (front_taken space r was) no_give ∙ taken in
    ⊎_elim (λ stage. stage.map)
    (λ more. ⊎_elim (λ stage. untorn space units was image (λ s low. torn_was space units was (front_taken space r was) image taken stage.map s low))
    (λ rest. ⊎_elim (λ stage. stage.map ∙ taken)
    (λ stage. untorn space units was image (λ s low. torn_front space units was (front_taken space r was) (front_given space r was) image taken given stage.map s low)) rest) more) leaves

pub leaves_law : LeavesLaw
leaves_law = record { frame = frame; old_frame = old_frame; whole = whole; still = still; old_still = old_still; turns = turns }
