-- The stages of a change, put together.
use Rattle.std.proofs.Common.{◌≡◌, ℕ, true, false, List, [], ◌++◌, refl, sym, ap₂, subst, ◌∙◌}
use Rattle.std.specs.List.{flat_map}
use Rattle.std.proofs.lemmas.Bool.{false_from_ne_true}
use Rattle.std.proofs.lemmas.List.{append-nil}
use Rattle.fc_device.specs.Sectors.{sector_at}
use Rattle.fc_device.specs.Stops.{Keeps}
use Rattle.fc_device.specs.declared.disk.Disk.{Ghosts}
use Rattle.fc_image.specs.Layout.{is_among, is_apart}
use Rattle.fc_image.proofs.HolesLemmas.{apart_at, apart_from}
use Rattle.fc_newmap.proofs.PlaceLemmas.{in_back, in_front}
use Rattle.fc_writing.specs.declared.ready.Ready.{Ready}
use Rattle.fc_writing.specs.declared.ready.Source.{Source}
use Rattle.fc_writing.specs.declared.ready.Source.TheVariants as from
use Rattle.fc_writing.specs.Content.{Content, HasContent, IsPart, content_sectors}
use Rattle.fc_writing.specs.Ready.{CanPut, IsSourceEnough, content_of, copied_place, early_content, early_place, from_of, late_content, late_place, source_content, source_from, written_place}
use Rattle.fc_writing.specs.Stages.{Stage}
use Rattle.fc_writing.proofs.ContentLemmas.{apart_between, clash, has_both, has_none, has_stays, part_outside, part_then, part_wider}
use Rattle.fc_writing.proofs.EarlyLemmas.{early_beside, early_sectors, late_beside, late_sectors}
use Rattle.fc_writing.proofs.ListLemmas.{all_carried, carried_same}
use Rattle.fc_device.proofs.StopLemmas.{one_told}

-- two things that a call keeps
pub keeps_both : {D : Type 0} (d : Ghosts D) {P Q : List ℕ → List ℕ → Type 0} {old new : D} → Keeps d.moment d.left_since d.bytes old new P → Keeps d.moment d.left_since d.bytes old new Q
    → Keeps d.moment d.left_since d.bytes old new (λ was image. P was image × Q was image)
keeps_both d {P} {Q} one two = record {
  stops = record {
    later = one.stops.later;
    since = λ image left was told. (one.stops.since image left was told, two.stops.since image left was told);
    before = one.stops.before;
    keeps = one.stops.keeps;
  };
  exit = λ was told.
      let first = one.exit was told in
      let second = two.exit was told in
      (first.0, first.1, (first.2, subst (Q was) (one_told (sym second.1 ∙ first.1)) second.2));
  told = one.told;
}

-- ---- stages

-- what comes early is written in part
pub before_stage : (size : ℕ) (mapped : List ℕ) (early : Content) (P : List ℕ → Type 0) (was image : List ℕ) → IsPart size mapped early was image → P image → Stage size mapped [] early P was image
before_stage size mapped early P was image part map = record { written = has_none size image; sectors = part; map = map }

-- a piece writes nothing of the map
pub part_mapped : (size : ℕ) (mapped : List ℕ) (c : Content) (was image : List ℕ) → IsPart size [] c was image → IsPart size mapped c was image
part_mapped size mapped c was image part = part_wider size [] mapped c c was image (λ s out. refl) (λ w there. there) part

module _ (size : ℕ) (mapped : List ℕ) (early late : Content)
    (apart : (s : ℕ) → is_among (content_sectors early) s ≡ true → (is_among mapped s ≡ false) × (is_among (content_sectors late) s ≡ false))
    (was there : List ℕ) (has : HasContent size early there) (part : IsPart size mapped early was there) where
  -- all that comes early stays
  pub early_stays : (image : List ℕ) → IsPart size mapped late there image → HasContent size early image
  early_stays image then = has_stays size mapped early late there image has then apart

  pub late_stage : (P : List ℕ → Type 0) (image : List ℕ) → IsPart size mapped late there image → P image → Stage size mapped early late P was image
  late_stage P image then map = record { written = early_stays image then; sectors = part_then size mapped early late was there image part then; map = map }

  both_parts : (image : List ℕ) → IsPart size mapped (late ++ []) there image → IsPart size mapped late there image
  both_parts image then = subst (λ (c : Content). IsPart size mapped c there image) (append-nil late) then

  pub all_written : (image : List ℕ) → HasContent size late image → IsPart size mapped late there image → HasContent size (early ++ late) image
  all_written image now then = has_both size early late image (early_stays image then) now

  pub all_parts : (image : List ℕ) → IsPart size mapped late there image → IsPart size mapped (early ++ late) was image
  all_parts image then = part_then size mapped early late was there image part then

  pub last_stage : (P Q : List ℕ → Type 0) (image : List ℕ) → Stage size mapped late [] P there image → Q image → Stage size mapped (early ++ late) [] Q was image
  last_stage P Q image stage map = record {
    written = all_written image stage.written (both_parts image stage.sectors);
    sectors = subst (λ (c : Content). IsPart size mapped c was image) (sym (append-nil (early ++ late))) (all_parts image (both_parts image stage.sectors));
    map = map;
  }

-- the map's step, after all of a content
module _ (size : ℕ) (mapped : List ℕ) (c : Content) (beside : (s : ℕ) → is_among (content_sectors c) s ≡ true → is_among mapped s ≡ false)
    (was there : List ℕ) (has : HasContent size c there) (part : IsPart size mapped c was there) (image : List ℕ) (step : IsPart size mapped [] there image) where
  pub step_has : HasContent size c image
  step_has = has_stays size mapped c [] there image has step (λ s e. (beside s e, refl))

  pub step_parts : IsPart size mapped c was image
  step_parts = subst (λ (x : Content). IsPart size mapped x was image) (append-nil c) (part_then size mapped c [] was there image part step)

  pub step_stage : (P : List ℕ → Type 0) → P image → Stage size mapped c [] P was image
  step_stage P map = record { written = step_has; sectors = part_then size mapped c [] was there image part step; map = map }

-- ---- what is ready

source_same : (size : ℕ) (was there bytes : List ℕ) (s : Source) → IsSourceEnough s → ((t : ℕ) → is_among (source_from s) t ≡ true → sector_at size there t ≡ sector_at size was t) → source_content size there bytes s ≡ source_content size was bytes s
source_same size was there bytes from.Nothing enough same = refl
source_same size was there bytes (from.Bytes place) enough same = refl
source_same size was there bytes (from.Sectors t) enough same = carried_same size was there t enough same

module _ (n : ℕ) (mapped : List ℕ) (r : Ready) (can : CanPut n mapped r) where
  -- what is copied is none of the map's
  pub early_same : (size : ℕ) (bytes was there : List ℕ) → IsPart size mapped [] was there → early_content size there bytes r ≡ early_content size was bytes r
  early_same size bytes was there part =
      let same : (s : ℕ) → is_among (copied_place r) s ≡ true → sector_at size there s ≡ sector_at size was s =
      λ s e. part_outside size mapped [] was there part s (apart_at (copied_place r) mapped s can.unmapped e) refl in
      let one = source_same size was there bytes r.source can.source_enough (λ s e. same s (in_front (source_from r.source) (flat_map from_of r.carried.items) s e)) in
      let two = all_carried size was there r.carried.items can.enough (λ s e. same s (in_back (source_from r.source) (flat_map from_of r.carried.items) s e)) in
      ap₂ (λ (a b : Content). a ++ (b ++ flat_map (content_of size) r.early.items)) one two

  pub without_map : CanPut n [] r
  without_map = record {
    on_disk = can.on_disk;
    from_disk = can.from_disk;
    once = can.once;
    beside = none (written_place r);
    others = can.others;
    unmapped = none (copied_place r);
    source_enough = can.source_enough;
    enough = can.enough;
  }
    where
      none : (xs : List ℕ) → is_apart xs [] ≡ true
      none xs = apart_from xs [] (λ s a b. (cc))

  module _ (size : ℕ) (was bytes : List ℕ) where
    pub early_out : (s : ℕ) → is_among (content_sectors (early_content size was bytes r)) s ≡ true → is_among mapped s ≡ false
    early_out s e = early_beside n mapped r can s (subst (λ (ss : List ℕ). is_among ss s ≡ true) (early_sectors size was bytes r) e)

    pub late_out : (s : ℕ) → is_among (content_sectors (late_content size r)) s ≡ true → is_among mapped s ≡ false
    late_out s e = late_beside n mapped r can s (subst (λ (ss : List ℕ). is_among ss s ≡ true) (late_sectors size r) e)

    pub early_apart : (s : ℕ) → is_among (content_sectors (early_content size was bytes r)) s ≡ true → (is_among mapped s ≡ false) × (is_among (content_sectors (late_content size r)) s ≡ false)
    early_apart s e = (
      early_out s e,
      subst (λ (ss : List ℕ). is_among ss s ≡ false) (sym (late_sectors size r))
          (apart_between (early_place r) (late_place r) can.once s (subst (λ (ss : List ℕ). is_among ss s ≡ true) (early_sectors size was bytes r) e)),
    )

-- no sector of the map is written
pub map_stays : (size : ℕ) (mapped : List ℕ) (c : Content) (was image : List ℕ) → ((s : ℕ) → is_among (content_sectors c) s ≡ true → is_among mapped s ≡ false) → IsPart size [] c was image
    → (s : ℕ) → is_among mapped s ≡ true → sector_at size image s ≡ sector_at size was s
map_stays size mapped c was image beside part s e =
    part_outside size [] c was image part s refl
    (false_from_ne_true (is_among (content_sectors c) s) (λ h. clash (is_among mapped s) e (beside s h)))
