-- An image on which lost space was given back meets what giving it back promises.
use Rattle.std.proofs.Common.{◌≡◌, ◌<◌, ℕ, ◌+◌, ◌-◌, ◌*◌, Bool, true, false, cond, List, [], ◌∷◌, ◌++◌, drop, refl, sym, ap, ap₂, subst, ◌∙◌, arith, eq-eqb}
use Rattle.std.specs.Prelude.{All, filter, not, ◌&&◌, ◌||◌}
use Rattle.std.specs.Str.{bytes_eq}
use Rattle.std.proofs.lemmas.List.Elements.{All-cons, All-nil, filter-append}
use Rattle.std.proofs.lemmas.List.Sums.{sum_by-cons}
use Rattle.fc_device.specs.Sectors.{sector_at}
use Rattle.fc_record.specs.declared.DiscRecord.{DiscRecord}
use Rattle.fc_record.specs.declared.Geometry.{Geometry}
use Rattle.fc_record.specs.declared.Kind.{Kind}
use Rattle.fc_record.specs.declared.Kind.TheVariants.{Boot, OneZone, DiscD, DiscL}
use Rattle.fc_record.specs.Kinds.{boot_record, disc_size, fits_kind, is_boot}
use Rattle.fc_zone.specs.declared.RunKind.{RunKind}
use Rattle.fc_zone.specs.declared.RunKind.TheVariants as kinds
use Rattle.fc_newmap.specs.Map.{Map, ZoneRun, all_runs, bits_in, has_id, hole_runs, is_hole, map_sectors, run_sectors, runs_in, runs_of, sector_of, sectors_of, zone_numbers}
use Rattle.fc_newmap.specs.RunsLaw.{placed}
use Rattle.fc_newmap.proofs.PlaceLemmas.{in_back, range_in}
use Rattle.fc_alloc.specs.declared.owner.Owner.{Owner}
use Rattle.fc_newmap.specs.Copies.{ChangesCopies}
use Rattle.fc_image.specs.Layout.{Layout, is_among, is_apart}
use Rattle.fc_image.specs.Walk.{Object}
use Rattle.fc_image.specs.Objects.{objects_of}
use Rattle.fc_image.specs.Opening.{Opened, boot_place}
use Rattle.fc_image.specs.Report.{is_lost_run, lost_bytes}
use Rattle.fc_image.specs.Stays.{IsNewKind, OpensAs}
use Rattle.fc_image.specs.effects.Steady.{MapOutside, SameSectors, zone_holes}
use Rattle.fc_image.specs.safe.Reclaim.{OwnedStay, ReclaimOutside, Reclaimed, ReclaimedLayout, Reclaims, StaysOwned, all_absorbed, is_held, is_reclaimable, reclaimed_bytes, sectors_that}
use Rattle.fc_image.proofs.HolesLemmas.{none_loose}
use Rattle.fc_image.proofs.MoveLemmas.{all_filter, open_by}
use Rattle.fc_image.proofs.SameMapLemmas.{same_map_law}
use Rattle.fc_changes.proofs.AfterLemmas.{behind_stays}
use Rattle.fc_plan.proofs.GivenRuns.{holes_of_zone, spaces_of_zone}
use Rattle.fc_compact.specs.Ready.{AreOwnersOf}
use Rattle.fc_reclaim.specs.Kept.{IsReadyBy, KeepsOwned, OwnedStayBy}
use Rattle.fc_reclaim.specs.Lost.{Covers, boot_row, goes_back, is_used_run}
use Rattle.fc_reclaim.specs.Map.{IsReclaimed, bits_back}
use Rattle.fc_reclaim.specs.Settled.{by_map}
use Rattle.fc_reclaim.specs.Zone.{staying}
use Rattle.fc_reclaim.proofs.KeptLemmas.{by_own}
use Rattle.fc_reclaim.proofs.OwnedLemmas.{filter_less, lost_kind_same}
use Rattle.fc_reclaim.proofs.SettledLemmas.{beside_map}
use Rattle.std.proofs.lemmas.Bool.{not-true as not_true}
use Rattle.fc_device.specs.Numbers.{is_listed as is_in}
use Rattle.fc_record.proofs.KindLemmas.{and_first}

-- ---- the boot block

-- an image that opens as a disc with a boot block has one
pub covers_kind : (was : List ℕ) (kind : Kind) → fits_kind was kind ≡ true → Covers (is_boot was) kind
covers_kind was (Boot r) fits sector s i = and_first (is_boot was) (bytes_eq (boot_record was).raw r.raw) fits
covers_kind was (OneZone r) fits sector s i = absurd (cc)
covers_kind was DiscD fits sector s i = absurd (cc)
covers_kind was (DiscL units) fits sector s i = absurd (cc)

-- ---- sectors

pub all_among : (P : ℕ → Type 0) (xs : List ℕ) → ((s : ℕ) → is_among xs s ≡ true → P s) → All P xs
all_among P [] each = All-nil P
all_among P (x ∷ xs) each =
    All-cons P x xs (each x (ap (λ b. b || is_among xs x) (eq-eqb x x refl))) (all_among P xs (λ s e. each s (in_back (x ∷ []) xs s e)))

-- sectors that don't hold the map have their bytes
pub beside : (m : Map) (test : ZoneRun → Bool) (was image : List ℕ) → ChangesCopies m.geometry was image → SameSectors m.geometry.sector (sectors_that test m) was image
beside m test was image frame =
    all_filter (λ s. not (is_among (map_sectors m.geometry) s)) (λ s. sector_at m.geometry.sector image s ≡ sector_at m.geometry.sector was s) (sectors_of m.geometry (filter test (all_runs m)))
    (λ s i out. beside_map m.geometry was image frame s (not_true (is_among (map_sectors m.geometry) s) out))

-- ---- what a crash leaves

module _ (boot : Bool) (owners : List Owner) (was image : List ℕ) (kind : Kind) (r : DiscRecord) (view : Opened) (m : Map) (new : IsNewKind kind r) (covers : Covers boot kind) (opens : OpensAs was kind view)
    (layout : view.layout ≡ Layout.New m) (own : AreOwnersOf owners (objects_of view.listings)) (keeps : KeepsOwned boot owners m.geometry was image) where
  abbrev objects : List Object
  objects = objects_of view.listings

  owned_stay : (n : Map) → OwnedStayBy kind was view m n image → OwnedStay was image view.layout (Layout.New n) objects
  owned_stay n stays = subst (λ (l : Layout). OwnedStay was image l (Layout.New n) objects) (sym layout) (stays.runs, beside m _ was image keeps.frame)

  pub stays_owned : StaysOwned kind was view image
  stays_owned =
      let stays = keeps.opens kind r view m new covers opens layout refl own in
      record { view = by_map kind view stays.0; opens = stays.1.opens; tree = stays.1.tree; owned = owned_stay stays.0 stays.1 }

  -- ---- what is done at the end

  module _ (m' : Map) (done : IsReclaimed boot owners m m') (fits : boot ≡ is_boot was) (ready : IsReadyBy boot m' owners image) where
    -- the map in memory is the one by which it opens
    stays : OwnedStayBy kind was view m m' image
    stays =
        let by = keeps.opens kind r view m new covers opens layout refl own in
        let rd = ready.ready in
        let one = same_map_law image rd.kind kind rd.of_record r rd.view (by_map kind view by.0) m' by.0 rd.new_kind new rd.opens by.1.opens rd.layout refl (by.1.geometry ∙ sym done.geometry) in
        subst (λ (n : Map). OwnedStayBy kind was view m n image) one.0 by.1

    abbrev goes : ZoneRun → Bool
    goes = goes_back boot owners m.geometry

    goes_same : (p : ZoneRun) → goes p ≡ is_reclaimable was m objects p
    goes_same p =
        ap₂ (λ (a : Bool) (xs : List ℕ). a && is_apart (run_sectors m.geometry p) (map_sectors m.geometry) && is_apart (run_sectors m.geometry p) xs)
        (sym (lost_kind_same owners objects own p.1.kind)) (ap (λ (b : Bool). boot_row b m.geometry.sector) fits)

    holes : (z : ℕ) → z < m.geometry.zones
        → zone_holes (hole_runs m') z ≡ all_absorbed (zone_holes (hole_runs m) z) (zone_holes (filter (is_reclaimable was m objects) (all_runs m)) z)
    holes z low =
        holes_of_zone m' z (subst (λ (g : Geometry). z < g.zones) (sym done.geometry) low)
        ∙ (done.done z low).holes
        ∙ ap₂ all_absorbed (sym (holes_of_zone m z low)) (sym (spaces_of_zone goes m z low) ∙ ap (λ (t : ZoneRun → Bool). zone_holes (filter t (all_runs m)) z) (λ i p. goes_same p i))

    -- ---- the lost runs that are left

    lost_used : (p : ZoneRun) → is_lost_run objects p.1.kind ≡ true → is_used_run p ≡ true
    lost_used p = by p.1.kind
      where
        by : (k : RunKind) → is_lost_run objects k ≡ true → not (is_hole k) ≡ true
        by kinds.Hole e = absurd (cc)
        by (kinds.Id id) e = refl

    rest_zones : (zones : List ℕ) → ((z : ℕ) → is_in zones z ≡ true → filter is_used_run (placed z (runs_of m' z)) ≡ staying goes z (runs_of m z))
        → filter is_used_run (runs_in m' zones) ≡ filter (λ p. is_used_run p && not (goes p)) (runs_in m zones)
    rest_zones [] all = refl
    rest_zones (z ∷ zones) all =
        filter-append is_used_run (placed z (runs_of m' z)) (runs_in m' zones)
        ∙ ap₂ (λ (xs ys : List ZoneRun). xs ++ ys) (all z (ap (λ b. b || is_in zones z) (eq-eqb z z refl))) (rest_zones zones (λ y h. all y (in_back (z ∷ []) zones y h)))
        ∙ sym (filter-append (λ p. is_used_run p && not (goes p)) (placed z (runs_of m z)) (runs_in m zones))

    rest : filter is_used_run (all_runs m') ≡ filter (λ p. is_used_run p && not (goes p)) (all_runs m)
    rest =
        ap (λ (g : Geometry). filter is_used_run (runs_in m' (zone_numbers g))) done.geometry
        ∙ rest_zones (zone_numbers m.geometry) (λ z h. (done.done z (let b = range_in 0 m.geometry.zones z h in omega (arith, b.1))).rest)

    filter_both : (t u w : ZoneRun → Bool) (xs : List ZoneRun) → ((p : ZoneRun) → (u p && t p) ≡ w p) → filter t (filter u xs) ≡ filter w xs
    filter_both t u w [] same = refl
    filter_both t u w (x ∷ xs) same = by (u x) refl (filter_both t u w xs same)
      where
        by : (b : Bool) → u x ≡ b → filter t (filter u xs) ≡ filter w xs → filter t (cond b (x ∷ filter u xs) (filter u xs)) ≡ cond (w x) (x ∷ filter w xs) (filter w xs)
        by true e h = ap₂ (λ (b : Bool) (ys : List ZoneRun). cond b (x ∷ ys) ys) (sym (ap (λ (b : Bool). b && t x) e) ∙ same x) h
        by false e h = h ∙ sym (ap (λ (b : Bool). cond b (x ∷ filter w xs) (filter w xs)) (sym (same x) ∙ ap (λ (b : Bool). b && t x) e))

    stays_held : (p : ZoneRun) → ((is_used_run p && not (goes p)) && is_lost_run objects p.1.kind) ≡ is_held was m objects p
    stays_held p =
        ap (λ (b : Bool). (is_used_run p && not b) && is_lost_run objects p.1.kind) (goes_same p)
        ∙ by (is_used_run p) (is_reclaimable was m objects p) (is_lost_run objects p.1.kind) (lost_used p)
      where
        by : (used r lost : Bool) → (lost ≡ true → used ≡ true) → ((used && not r) && lost) ≡ (lost && not r)
        by true true true h = refl
        by true true false h = refl
        by true false true h = refl
        by true false false h = refl
        by false r true h = absurd (let no' = h refl in cc)
        by false r false h = refl

    held : filter (λ p. is_lost_run objects p.1.kind) (all_runs m') ≡ filter (is_held was m objects) (all_runs m)
    held =
        sym (filter_less (λ p. is_lost_run objects p.1.kind) is_used_run (all_runs m') lost_used)
        ∙ ap (filter (λ (p : ZoneRun). is_lost_run objects p.1.kind)) rest
        ∙ filter_both (λ p. is_lost_run objects p.1.kind) (λ p. is_used_run p && not (goes p)) (is_held was m objects) (all_runs m) stays_held

    reclaimed : Reclaimed was m m' objects
    reclaimed = record { holes = holes; owned = stays.runs; held = held }

    outside : MapOutside was image kind (sector_of m) (sectors_that (λ p. has_id 1 p.1.kind || is_held was m objects p) m) m m'
    outside = record {
      geometry = done.geometry;
      zones = λ z low. (done.stays z low).outside;
      links = λ z low. (done.stays z low).links;
      boot = all_among (λ s. sector_at m.geometry.sector image s ≡ sector_at m.geometry.sector was s) (boot_place kind m.geometry.sector)
          (λ s i. beside_map m.geometry was image keeps.frame s
          (none_loose (map_sectors m.geometry) (boot_place kind m.geometry.sector) (open_by was kind r view m new opens layout).apart s i));
      kept_stay = beside m (λ p. has_id 1 p.1.kind || is_held was m objects p) was image keeps.frame;
    }

    behind : drop (disc_size kind) image ≡ drop (disc_size kind) was
    behind =
        behind_stays kind r was m view.listings new (subst (OpensAs was kind) (sym (by_own was kind r view m new opens layout)) opens) image []
        (record { length_stays = keeps.frame.same_length; writes = λ s free out. beside_map m.geometry was image keeps.frame s out }) (λ s h. absurd (cc))

    pub reclaims : Reclaims kind (record { image = was; view = view }) (record { image = image; view = by_map kind view m' })
    reclaims = record {
      opens = record { opens = stays.opens; copies = ready.ready.copies };
      tree = stays.tree;
      owned = owned_stay m' stays;
      reclaimed = subst (λ (l : Layout). ReclaimedLayout was l (Layout.New m') objects) (sym layout) reclaimed;
      outside = subst (λ (l : Layout). ReclaimOutside was image kind l (Layout.New m') objects) (sym layout) outside;
      behind = behind;
    }

    -- ---- the bytes given back

    parted : (xs : List ZoneRun) → bits_in (filter (λ p. is_lost_run objects p.1.kind) xs) ≡ bits_in (filter goes xs) + bits_in (filter (is_held was m objects) xs)
    parted [] = omega arith
    parted (x ∷ xs) = by (goes x) (is_reclaimable was m objects x) (is_lost_run objects x.1.kind) refl refl refl (goes_same x) (parted xs)
      where
        reclaimable_lost : is_reclaimable was m objects x ≡ true → is_lost_run objects x.1.kind ≡ true
        reclaimable_lost = by' (is_lost_run objects x.1.kind) (is_apart (run_sectors m.geometry x) (map_sectors m.geometry)) (is_apart (run_sectors m.geometry x) (boot_row (is_boot was) m.geometry.sector))
          where
            by' : (a b d : Bool) → (a && b && d) ≡ true → a ≡ true
            by' true b d e = refl
            by' false b d e = absurd (cc)

        by : (a b d : Bool) → goes x ≡ a → is_reclaimable was m objects x ≡ b → is_lost_run objects x.1.kind ≡ d → a ≡ b
            → bits_in (filter (λ p. is_lost_run objects p.1.kind) xs) ≡ bits_in (filter goes xs) + bits_in (filter (is_held was m objects) xs)
            → bits_in (cond d (x ∷ filter (λ p. is_lost_run objects p.1.kind) xs) (filter (λ p. is_lost_run objects p.1.kind) xs))
            ≡ bits_in (cond a (x ∷ filter goes xs) (filter goes xs)) + bits_in (cond (d && not b) (x ∷ filter (is_held was m objects) xs) (filter (is_held was m objects) xs))
        by true true true e f h s rest' =
            sum_by-cons (λ (p : ZoneRun). p.1.len) x (filter (λ p. is_lost_run objects p.1.kind) xs) ∙ ap (λ (k : ℕ). x.1.len + k) rest'
            ∙ (let k : x.1.len + (bits_in (filter goes xs) + bits_in (filter (is_held was m objects) xs)) ≡ x.1.len + bits_in (filter goes xs) + bits_in (filter (is_held was m objects) xs) = omega arith in k)
            ∙ sym (ap (λ (k : ℕ). k + bits_in (filter (is_held was m objects) xs)) (sum_by-cons (λ (p : ZoneRun). p.1.len) x (filter goes xs)))
        by true true false e f h s rest' = absurd (let lost = reclaimable_lost f in cc)
        by true false d e f h s rest' = absurd (cc)
        by false true d e f h s rest' = absurd (cc)
        by false false true e f h s rest' =
            sum_by-cons (λ (p : ZoneRun). p.1.len) x (filter (λ p. is_lost_run objects p.1.kind) xs) ∙ ap (λ (k : ℕ). x.1.len + k) rest'
            ∙ (let k : x.1.len + (bits_in (filter goes xs) + bits_in (filter (is_held was m objects) xs)) ≡ bits_in (filter goes xs) + (x.1.len + bits_in (filter (is_held was m objects) xs)) = omega arith in k)
            ∙ sym (ap (λ (k : ℕ). bits_in (filter goes xs) + k) (sum_by-cons (λ (p : ZoneRun). p.1.len) x (filter (is_held was m objects) xs)))
        by false false false e f h s rest' = rest'

    less : (a b k : ℕ) → (a + b) * k - b * k ≡ a * k
    less a b k = let both : (a + b) * k ≡ a * k + b * k = omega arith in omega (arith, both)

    pub given_bytes : bits_back boot owners m * m.geometry.bit_bytes ≡ reclaimed_bytes view (by_map kind view m')
    given_bytes =
        let lost : List ZoneRun → ℕ = λ xs. bits_in (filter (λ (p : ZoneRun). is_lost_run objects p.1.kind) xs) in
        let after : lost_bytes (Layout.New m') objects ≡ bits_in (filter (is_held was m objects) (all_runs m)) * m.geometry.bit_bytes =
        ap₂ (λ (k : ℕ) (g : Geometry). k * g.bit_bytes) (ap bits_in held) done.geometry in
        sym (less (bits_back boot owners m) (bits_in (filter (is_held was m objects) (all_runs m))) m.geometry.bit_bytes)
        ∙ ap₂ (λ (a b : ℕ). a - b) (ap (λ (k : ℕ). k * m.geometry.bit_bytes) (sym (parted (all_runs m))) ∙ ap (λ (l : Layout). lost_bytes l objects) (sym layout)) (sym after)
