-- What compaction does to an image, where its map is compacted.
use Rattle.std.proofs.Common.{◌≡◌, ◌<◌, ◌≤◌, ℕ, zero, suc, ◌+◌, ◌-◌, ◌*◌, ◌/◌, Bool, true, false, cond, List, [], ◌∷◌, ◌++◌, length, take, drop, refl, sym, ap, ap₂, subst, ◌∙◌, arith, drop_of_length-le}
use Rattle.std.specs.Prelude.{filter, not, ◌==◌, ◌||◌}
use Rattle.std.proofs.Math.Nat.{div-mul-le_self, le-div_iff_mul-le}
use Rattle.std.proofs.lemmas.Bool.{eqb-true, false_from_ne_true as unless}
use Rattle.std.proofs.lemmas.Nat.{mul-le}
use Rattle.std.proofs.lemmas.List.{drop-drop, take-append-drop}
use Rattle.fc_device.specs.Sectors.{sector_at}
use Rattle.fc_record.specs.declared.DiscRecord.{DiscRecord}
use Rattle.fc_record.specs.declared.Geometry.{Geometry}
use Rattle.fc_record.specs.declared.Kind.{Kind}
use Rattle.fc_record.specs.Kinds.{disc_size}
use Rattle.fc_record.specs.Record.{base, geometry}
use Rattle.fc_zone.specs.declared.RunKind.{RunKind}
use Rattle.fc_zone.specs.declared.RunKind.TheVariants as kinds
use Rattle.fc_newmap.specs.Map.{Map, ZoneRun, all_runs, map_sectors, sector_of, sectors_of}
use Rattle.fc_newmap.proofs.CoverLemmas.{run_on_disc}
use Rattle.fc_newmap.proofs.PlaceLemmas.{filter_in, held_in, holder_of, in_back, in_filter, range_in}
use Rattle.fc_alloc.specs.declared.owner.Owner.{Owner}
use Rattle.fc_model.specs.Command.{Command}
use Rattle.fc_image.specs.Layout.{Layout, is_among, map_place}
use Rattle.fc_image.specs.Walk.{Object}
use Rattle.fc_image.specs.Objects.{is_lost, objects_of}
use Rattle.fc_image.specs.Opening.{Opened, boot_place, is_hole_or_movable, reserved_in}
use Rattle.fc_image.specs.Moves.{KeepsObjects, SameMapLaw, StaysBy, with_map}
use Rattle.fc_image.specs.Stays.{FixedBytesStay, FixedStay, IsNewKind, OpensAs, fixed_sectors, is_fixed, is_fixed_run}
use Rattle.fc_image.proofs.HolesLemmas.{OpenMap, loose_sectors as loose_objects, none_loose, new_size as kind_size}
use Rattle.fc_image.proofs.MoveLemmas.{all_filter, open_by}
use Rattle.fc_image.proofs.StepLemmas.{all_at, among_filter}
use Rattle.fc_image.specs.effects.Effect.{Compacts}
use Rattle.fc_image.specs.effects.Settled.{CompactedLayout, IdleStay, ObjectsStay}
use Rattle.fc_image.specs.effects.Steady.{MapOutside, OutsideSteady, SameSectors, ZoneSteady, expected_zone, idle_sectors, is_idle}
use Rattle.fc_compact.specs.Ready.{AreOwnersOf, IsReady}
use Rattle.fc_compact.specs.Compaction.{ByOwnersLaw, ChangesLoose, is_loose, loose_sectors}
use Rattle.fc_volume.specs.Compacting.{IsCompacted}
use Rattle.fc_volume.proofs.AgreeLemmas.{movable_same}
pub use Rattle.fc_laws.proofs.lemmas.takeover.KindLemmas.{new_kind}
pub use Rattle.fc_reclaim.proofs.ReclaimsLemmas.{all_among}

-- ---- bytes after the sectors that change

module _ (size : ℕ) (some : 0 < size) (xs ys : List ℕ) (long : length xs ≡ length ys) where
  tail_from : (fuel k : ℕ) → length xs ≤ (k + fuel) * size → ((s : ℕ) → k ≤ s → sector_at size xs s ≡ sector_at size ys s) → drop (k * size) xs ≡ drop (k * size) ys
  unfolding sector_at
  tail_from zero k short same =
      let e : (k + 0) * size ≡ k * size = ap (λ (n : ℕ). n * size) (let z : k + 0 ≡ k = omega arith in z) in
      drop_of_length-le xs {i = k * size} (omega arith) ∙ sym (drop_of_length-le ys {i = k * size} (omega arith))
  tail_from (suc fuel) k short same =
      let next : (k + 1) * size ≡ k * size + size = omega arith in
      let count : (k + suc fuel) * size ≡ (k + 1 + fuel) * size = ap (λ (n : ℕ). n * size) (let z : k + suc fuel ≡ k + 1 + fuel = omega arith in z) in
      let rest = tail_from fuel (k + 1) (omega arith) (λ s low. same s (omega arith)) in
      let cut : (zs : List ℕ) → take size (drop (k * size) zs) ++ drop ((k + 1) * size) zs ≡ drop (k * size) zs =
      λ zs. ap (λ (l : List ℕ). take size (drop (k * size) zs) ++ l) (ap (λ (n : ℕ). drop n zs) next ∙ sym (drop-drop size (k * size) zs)) ∙ take-append-drop size (drop (k * size) zs) in
      sym (cut xs) ∙ ap₂ (λ (a b : List ℕ). a ++ b) (same k (omega arith)) rest ∙ cut ys

  -- Where all sectors from the last that begins before a byte on are the same, so is what is after that byte.
  behind_same : (bytes : ℕ) → ((s : ℕ) → bytes / size ≤ s → sector_at size xs s ≡ sector_at size ys s) → drop bytes xs ≡ drop bytes ys
  behind_same bytes same =
      let k = bytes / size in
      let low = div-mul-le_self bytes size in
      let whole : length xs ≤ (k + length xs) * size = fits k (length xs) in
      let all = tail_from (length xs) k whole same in
      let e : k * size + (bytes - k * size) ≡ bytes = omega (arith, low) in
      ap (λ (n : ℕ). drop n xs) (sym e) ∙ sym (drop-drop (bytes - k * size) (k * size) xs) ∙ ap (drop (bytes - k * size)) all ∙ drop-drop (bytes - k * size) (k * size) ys ∙ ap (λ (n : ℕ). drop n ys) e
    where
      fits : (k n : ℕ) → n ≤ (k + n) * size
      fits k n = let a : (k + n) * 1 ≤ (k + n) * size = mul-le (k + n) 1 (k + n) size (omega arith) some in omega arith

-- ---- the kind

-- ---- what may change

loose_kind : (owners : List Owner) (objects : List Object) → AreOwnersOf owners objects → (k : RunKind) → is_loose owners k ≡ is_hole_or_movable objects k
loose_kind owners objects own kinds.Hole = refl
loose_kind owners objects own (kinds.Id id) = sym (movable_same owners objects own id)

loose_same : (m : Map) (owners : List Owner) (objects : List Object) → AreOwnersOf owners objects → loose_sectors m owners ≡ loose_objects m objects
loose_same m owners objects own =
    ap (λ (t : ZoneRun → Bool). sectors_of m.geometry (filter t (all_runs m))) (λ i p. loose_kind owners objects own p.1.kind i)

-- idle identifiers are fixed
idle_fixed : (objects : List Object) (k : RunKind) → is_idle objects k ≡ true → is_fixed_run objects k ≡ true
idle_fixed objects kinds.Hole e = absurd (cc)
idle_fixed objects (kinds.Id id) e = by (id == 1) (id == 2) (is_lost objects id) e
  where
    by : (a b d : Bool) → (a || d) ≡ true → (a || b || d) ≡ true
    by true b d h = refl
    by false true d h = refl
    by false false d h = h

-- ---- the opened image

module _ (law : ByOwnersLaw) (one_map : SameMapLaw) (m m' : Map) (owners : List Owner) (c : IsCompacted m m' owners) (was image : List ℕ) (keeps : KeepsObjects m.geometry was image)
    (frame : ChangesLoose m owners was image) (ready : IsReady m' owners image) (kind : Kind) (view : Opened) (opens : OpensAs was kind view) (layout : view.layout ≡ Layout.New m)
    (own : AreOwnersOf owners (objects_of view.listings)) where
  abbrev r : DiscRecord
  r = (new_kind was kind view m opens layout).0

  new : IsNewKind kind r
  new = (new_kind was kind view m opens layout).1

  o : OpenMap was kind r view m
  o = open_by was kind r view m new opens layout

  abbrev after : Opened
  after = with_map m' view

  abbrev objects : List Object
  objects = objects_of view.listings

  -- the map to which the kept image leads is the map in memory
  pub stays : StaysBy kind was view m' image
  stays =
      let kept = keeps kind r view m new opens layout refl in
      let p = open_by image kind r (with_map kept.0 view) kept.0 new kept.1.opens refl in
      let same = one_map image ready.kind kind ready.of_record r ready.view (with_map kept.0 view) m' kept.0 ready.new_kind new ready.opens kept.1.opens ready.layout refl
      (p.geometry_is ∙ sym o.geometry_is ∙ sym c.geometry) in
      subst (λ (n : Map). StaysBy kind was view n image) same.0 kept.1

  own_after : AreOwnersOf owners (objects_of after.listings)
  own_after id = own id ∙ sym (stays.owned id)

  -- a sector from the disc's end on doesn't change
  past_end : (s : ℕ) → r.size / m.geometry.sector ≤ s → sector_at m.geometry.sector image s ≡ sector_at m.geometry.sector was s
  past_end s past =
      let g = m.geometry in
      let fits : (g.map_sector + 2 * g.zones) * g.sector ≤ r.size = subst (λ (h : Geometry). (h.map_sector + 2 * h.zones) * h.sector ≤ r.size) (sym o.geometry_is) o.facts.fits in
      let map_end : g.map_sector + 2 * g.zones ≤ r.size / g.sector = (le-div_iff_mul-le o.shape.some).1 fits in
      let bits : g.disc_bits * g.bit_bytes ≤ r.size = subst (λ (h : Geometry). h.disc_bits * h.bit_bytes ≤ r.size) (sym o.geometry_is) (div-mul-le_self r.size (geometry r).bit_bytes) in
      let low = div-mul-le_self (g.disc_bits * g.bit_bytes) g.sector in
      let disc_end : g.disc_bits * g.bit_bytes / g.sector ≤ r.size / g.sector = (le-div_iff_mul-le o.shape.some).1 (omega (arith, low, bits)) in
      frame.outside s
      (unless (is_among (map_sectors g) s) (λ h. let at = range_in g.map_sector (2 * g.zones) s h in omega (arith, at.1, map_end, past)))
      (unless (is_among (loose_sectors m owners) s)
      (λ h.
      let p = holder_of g (filter (λ q. is_loose owners q.1.kind) (all_runs m)) s h in
      let there = filter_in (λ q. is_loose owners q.1.kind) (all_runs m) p.0 p.1.0 in
      let on = run_on_disc m o.shape o.zones o.some (begun m.geometry o.geometry_is) p.0 s there.0 p.1.1 in
      omega (arith, on, disc_end, past)))
    where
      begun : (g : Geometry) → g ≡ geometry r → base g (g.zones - 1) < g.disc_bits
      begun g e = subst (λ (h : Geometry). base h (h.zones - 1) < h.disc_bits) (sym e) o.facts.begun

  behind : drop (disc_size kind) image ≡ drop (disc_size kind) was
  behind =
      subst (λ (n : ℕ). drop n image ≡ drop n was) (sym (kind_size kind r new))
      (behind_same m.geometry.sector o.shape.some image was frame.same_length r.size past_end)

  -- no sector of the boot block changes
  boot : SameSectors m.geometry.sector (boot_place kind m.geometry.sector) was image
  boot =
      all_among (λ s. sector_at m.geometry.sector image s ≡ sector_at m.geometry.sector was s) (boot_place kind m.geometry.sector)
      (λ s i. frame.outside s
      (none_loose (map_sectors m.geometry) (boot_place kind m.geometry.sector) o.apart s i)
      (ap (λ (xs : List ℕ). is_among xs s) (loose_same m owners objects own)
      ∙ none_loose (loose_objects m objects) (reserved_in kind (Layout.New m)) o.tight s (in_back (map_place (Layout.New m)) (boot_place kind m.geometry.sector) s i)))

  -- nor does one of an idle identifier
  kept_bytes : FixedBytesStay (Layout.New m) objects was image
  kept_bytes = subst (λ (l : Layout). FixedBytesStay l objects was image) layout stays.fixed_bytes

  idle : SameSectors m.geometry.sector (idle_sectors view m) was image
  idle =
      all_filter (λ s. not (is_among (map_place (Layout.New m)) s)) (λ s. sector_at m.geometry.sector image s ≡ sector_at m.geometry.sector was s)
      (sectors_of m.geometry (filter (λ p. is_idle objects p.1.kind) (all_runs m)))
      (λ s i out.
      (let p = holder_of m.geometry (filter (λ p. is_idle objects p.1.kind) (all_runs m)) s i in
      let there = filter_in (λ p. is_idle objects p.1.kind) (all_runs m) p.0 p.1.0 in
      let held = held_in m.geometry (filter (λ p. is_fixed_run objects p.1.kind) (all_runs m)) p.0 s
      (in_filter (λ p. is_fixed_run objects p.1.kind) (all_runs m) p.0 there.0 (idle_fixed objects p.0.1.kind there.1)) p.1.1 in
      all_at (λ t. sector_at m.geometry.sector image t ≡ sector_at m.geometry.sector was t) (fixed_sectors m objects) s kept_bytes
      (among_filter (λ t. not (is_among (map_place (Layout.New m)) t)) (sectors_of m.geometry (filter (λ p. is_fixed_run objects p.1.kind) (all_runs m))) s held out)))

  expected : (z : ℕ) → expected_zone view after Command.Compact m z ≡ sector_of m z
  expected z = by (z == 0) refl
    where
      by : (b : Bool) → (z == 0) ≡ b → cond b (sector_of m 0) (sector_of m z) ≡ sector_of m z
      by true e = ap (sector_of m) (sym (eqb-true z 0 e))
      by false e = refl

  outside : MapOutside was image view.kind (expected_zone view after Command.Compact m) (idle_sectors view m) m m'
  outside = record {
    geometry = c.geometry;
    zones = λ z lt. subst (λ (s : List ℕ). ZoneSteady m.geometry z s (sector_of m' z)) (sym (expected z)) (c.zones z lt).outside;
    links = λ z lt. (c.zones z lt).links;
    boot = subst (λ (k : Kind). SameSectors m.geometry.sector (boot_place k m.geometry.sector) was image) (sym o.kind_is) boot;
    kept_stay = idle;
  }

  fixed_runs : FixedStay (Layout.New m) (Layout.New m') objects
  fixed_runs = subst (λ (l : Layout). FixedStay l (Layout.New m') objects) layout stays.fixed

  lost_fixed : (id : ℕ) → is_lost objects id ≡ true → is_fixed objects id ≡ true
  lost_fixed id e = by (id == 1) (id == 2) (is_lost objects id) e
    where
      by : (a b d : Bool) → d ≡ true → (a || b || d) ≡ true
      by true b d h = refl
      by false true d h = refl
      by false false d h = h

  pub compacts : Compacts kind (record { image = was; view = view }) (record { image = image; view = after })
  compacts = record {
    opens = record { opens = stays.opens; copies = ready.copies };
    tree = stays.tree;
    compacted = record {
      settled = law.settled m' owners (objects_of after.listings) own_after c.settled;
      layout = subst (λ (l : Layout). CompactedLayout l (Layout.New m') objects (objects_of after.listings)) (sym layout) (law.compacted m m' owners objects own c.compacted);
    };
    objects = subst (λ (l : Layout). ObjectsStay was image l view after) (sym layout) stays.objects;
    idle = subst (λ (l : Layout). IdleStay l (Layout.New m') objects) (sym layout) (fixed_runs 1 refl, fixed_runs 2 refl, λ id e. fixed_runs id (lost_fixed id e));
    outside = subst (λ (l : Layout). OutsideSteady was image view after Command.Compact l (Layout.New m')) (sym layout) outside;
    behind = behind;
  }
