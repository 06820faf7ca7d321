-- A map in some zones of which lost runs have gone back: what its identifiers have, and what lies in its holes.
use Rattle.std.proofs.Common.{◌≡◌, ◌<◌, ◌≤◌, ◌⊎◌, inl, inr, ℕ, ◌+◌, Bool, true, false, cond, List, [], ◌∷◌, ◌++◌, refl, sym, ap, ap₂, subst, ◌∙◌, arith, None, eq-eqb, eqb-true}
use Rattle.std.specs.Prelude.{Contains, Ok, Err, filter, nat_le, not, ◌==◌, ◌&&◌, ◌||◌}
use Rattle.std.specs.List.{range_with_len}
use Rattle.fc_record.specs.declared.Geometry.{Geometry}
use Rattle.fc_record.specs.declared.Kind.{Kind}
use Rattle.fc_record.specs.declared.Kind.TheVariants.{Boot, OneZone, DiscD, DiscL}
use Rattle.fc_zone.specs.declared.Run.{Run}
use Rattle.fc_zone.specs.declared.RunKind.{RunKind}
use Rattle.fc_zone.specs.declared.RunKind.TheVariants as kinds
use Rattle.fc_newmap.specs.Map.{Map, ZoneRun, all_runs, has_id, hole_runs, id_runs, is_hole, map_sectors, run_sectors, runs_of}
use Rattle.fc_newmap.specs.NewMap.{IsNewMap}
use Rattle.fc_newmap.specs.RunsLaw.{HoldsSector, IsGeometry, placed}
use Rattle.fc_newmap.proofs.CoverLemmas.{run_there}
use Rattle.fc_newmap.proofs.HeldLemmas.{geometry_facts}
use Rattle.fc_newmap.proofs.PlaceLemmas.{filter_in, held_in, holder_of, id_run_in, id_runs_by_zones, in_either, in_filter, in_id_runs, in_range, in_zone, range_in, zone_in}
use Rattle.fc_newmap.proofs.RunsLemmas.{runs_apart}
use Rattle.fc_alloc.specs.declared.owner.Owner.{Owner}
use Rattle.fc_alloc.specs.Owners.{is_id_owned}
use Rattle.fc_image.specs.Layout.{Layout, hole_sectors, is_among, is_apart}
use Rattle.fc_image.specs.Walk.{Object}
use Rattle.fc_image.specs.Objects.{is_lost, is_movable, is_owned}
use Rattle.fc_image.specs.Opening.{boot_place, is_hole_or_movable, least_of, misplaced_sector, reserved_in}
use Rattle.fc_image.specs.Report.{is_lost_run}
use Rattle.fc_image.proofs.HolesLemmas.{apart_at, holes_loose, least_none, loose_sectors, none_loose}
use Rattle.fc_image.proofs.MoveLemmas.{tight_from}
use Rattle.fc_compact.specs.Ready.{AreOwnersOf}
use Rattle.fc_reclaim.specs.Lost.{Covers, boot_row, goes_back, is_lost_by, is_lost_kind, is_used_run}
use Rattle.fc_reclaim.specs.Zone.{IsReclaimedIn}
use Rattle.std.proofs.lemmas.Bool.{false_from_ne_true as unless}
use Rattle.fc_compact.proofs.PreservesLemmas.{geometry_is}
pub use Rattle.fc_image.proofs.HolesLemmas.{none_least}

-- ---- lost identifiers

-- by the owners it is lost if it is by the objects
pub lost_same : (owners : List Owner) (objects : List Object) → AreOwnersOf owners objects → (id : ℕ) → is_lost objects id ≡ is_lost_by owners id
lost_same owners objects own id = ap (λ (b : Bool). not b && not (id == 1) && not (id == 2)) (sym (own id)) ∙ by (id == 2) (is_id_owned owners id) (id == 1)
  where
    and_false : (b : Bool) → (b && false) ≡ false
    and_false true = refl
    and_false false = refl

    by : (two o one : Bool) → (not (two || o) && not one && not two) ≡ (not o && not one && not two)
    by true o one = sym (and_false (not o && not one))
    by false o one = refl

pub lost_kind_same : (owners : List Owner) (objects : List Object) → AreOwnersOf owners objects → (k : RunKind) → is_lost_run objects k ≡ is_lost_kind owners k
lost_kind_same owners objects own kinds.Hole = refl
lost_kind_same owners objects own (kinds.Id id) = lost_same owners objects own id

-- a movable identifier isn't lost
movable_kept : (objects : List Object) (id : ℕ) → is_movable objects id ≡ true → is_lost objects id ≡ false
movable_kept objects id e = by (is_owned objects id) refl
  where
    by : (b : Bool) → is_owned objects id ≡ b → is_lost objects id ≡ false
    by true h = ap (λ (b : Bool). not b && not (id == 1) && not (id == 2)) h
    by false h = absurd (let none' : is_movable objects id ≡ false = ap (λ (b : Bool). b && nat_le 3 id) h in cc)

-- a run of an identifier that isn't lost doesn't go
pub owned_stays : (boot : Bool) (owners : List Owner) (g : Geometry) (id : ℕ) (p : ZoneRun) → is_lost_by owners id ≡ false → has_id id p.1.kind ≡ true → goes_back boot owners g p ≡ false
owned_stays boot owners g id p e = by p.1.kind
  where
    by : (k : RunKind) → has_id id k ≡ true → (is_lost_kind owners k && is_apart (run_sectors g p) (map_sectors g) && is_apart (run_sectors g p) (boot_row boot g.sector)) ≡ false
    by kinds.Hole h = refl
    by (kinds.Id other) h =
        ap (λ (b : Bool). b && is_apart (run_sectors g p) (map_sectors g) && is_apart (run_sectors g p) (boot_row boot g.sector))
        (ap (is_lost_by owners) (eqb-true other id h) ∙ e)

-- ---- least numbers

-- ---- maps

-- In each zone the runs are as they were, or lost ones have gone back.
pub record HasPassed (boot : Bool) (owners : List Owner) (m m' : Map) : Type 0 where
  pub was : IsNewMap m
  pub map : IsNewMap m'
  pub geometry : m'.geometry ≡ m.geometry
  pub zones : (z : ℕ) → z < m.geometry.zones → (runs_of m' z ≡ runs_of m z) ⊎ IsReclaimedIn (goes_back boot owners m.geometry) m m' z

pub filter_less : (t u : ZoneRun → Bool) (xs : List ZoneRun) → ((p : ZoneRun) → t p ≡ true → u p ≡ true) → filter t (filter u xs) ≡ filter t xs
filter_less t u [] less = refl
filter_less t u (x ∷ xs) less = by (u x) (t x) refl refl (filter_less t u xs less)
  where
    by : (b d : Bool) → u x ≡ b → t x ≡ d → filter t (filter u xs) ≡ filter t xs → filter t (cond b (x ∷ filter u xs) (filter u xs)) ≡ cond d (x ∷ filter t xs) (filter t xs)
    by true d h i rest = ap (λ (c : Bool). cond c (x ∷ filter t (filter u xs)) (filter t (filter u xs))) i ∙ ap (λ (ys : List ZoneRun). cond d (x ∷ ys) ys) rest
    by false true h i rest = absurd (let yes' = less x i in cc)
    by false false h i rest = rest

id_used : (id : ℕ) (p : ZoneRun) → has_id id p.1.kind ≡ true → is_used_run p ≡ true
id_used id p = by p.1.kind
  where
    by : (k : RunKind) → has_id id k ≡ true → not (is_hole k) ≡ true
    by kinds.Hole e = absurd (cc)
    by (kinds.Id other) e = refl

module _ (boot : Bool) (owners : List Owner) (m m' : Map) (is : HasPassed boot owners m m') where
  abbrev g : Geometry
  g = m.geometry

  abbrev goes : ZoneRun → Bool
  goes = goes_back boot owners m.geometry

  some : 1 ≤ m.geometry.zones
  some = (geometry_facts m.geometry is.was.of_record).zones

  shaped : IsGeometry m.geometry
  shaped = geometry_is m is.was

  some' : 1 ≤ m'.geometry.zones
  some' = subst (λ (h : Geometry). 1 ≤ h.zones) (sym is.geometry) some

  shaped' : IsGeometry m'.geometry
  shaped' = subst IsGeometry (sym is.geometry) shaped

  -- the runs of an identifier that isn't lost, in a zone
  zone_kept : (id z : ℕ) → is_lost_by owners id ≡ false → z < m.geometry.zones → filter (λ (p : ZoneRun). has_id id p.1.kind) (placed z (runs_of m' z)) ≡ filter (λ (p : ZoneRun). has_id id p.1.kind) (placed z (runs_of m z))
  zone_kept id z kept low = elim (is.zones z low) [
    | inl same ↦ ap (λ (rs : List Run). filter (λ (p : ZoneRun). has_id id p.1.kind) (placed z rs)) same
    | inr done ↦
        sym (filter_less (λ p. has_id id p.1.kind) is_used_run (placed z (runs_of m' z)) (id_used id))
        ∙ ap (filter (λ (p : ZoneRun). has_id id p.1.kind)) done.rest
        ∙ filter_less (λ p. has_id id p.1.kind) (λ p. is_used_run p && not (goes p)) (placed z (runs_of m z))
        (λ p h. ap₂ (λ (a b : Bool). a && not b) (id_used id p h) (owned_stays boot owners m.geometry id p kept h))
  ]

  pub owned_kept : (id : ℕ) → is_lost_by owners id ≡ false → id_runs m' id ≡ id_runs m id
  owned_kept id kept = id_runs_by_zones m m' id is.geometry some (λ z low. zone_kept id z kept low)

  -- a run that is no hole is there, or it has gone back
  stays_or_goes : (p : ZoneRun) → Contains (all_runs m) p → is_used_run p ≡ true → Contains (all_runs m') p ⊎ (goes p ≡ true)
  stays_or_goes p c used =
      let at = zone_in m (range_with_len 0 m.geometry.zones) p c in
      let low : p.0 < m.geometry.zones = (let r = range_in 0 m.geometry.zones p.0 at.0 in omega (arith, r.1)) in
      let there : Contains (placed p.0 (runs_of m' p.0)) p → Contains (all_runs m') p =
      λ h. in_zone m' (range_with_len 0 m'.geometry.zones) p (in_range 0 m'.geometry.zones p.0 (omega arith) (subst (λ (h' : Geometry). p.0 < 0 + h'.zones) (sym is.geometry) (omega (arith, low)))) h in
      elim (is.zones p.0 low) [
        | inl same ↦ inl (there (subst (λ (rs : List Run). Contains (placed p.0 rs) p) (sym same) at.1))
        | inr done ↦ by (goes p) refl (λ e.
            there (filter_in is_used_run (placed p.0 (runs_of m' p.0)) p
            (subst (λ (ps : List ZoneRun). Contains ps p) (sym done.rest)
            (in_filter (λ q. is_used_run q && not (goes q)) (placed p.0 (runs_of m p.0)) p at.1 (ap₂ (λ (a b : Bool). a && not b) used e)))).0)
      ]
    where
      by : (b : Bool) → goes p ≡ b → (goes p ≡ false → Contains (all_runs m') p) → Contains (all_runs m') p ⊎ (goes p ≡ true)
      by true e h = inr e
      by false e h = inl (h e)

  -- ---- sectors

  and_parts : (a b d : Bool) → (a && b && d) ≡ true → (b ≡ true) × (d ≡ true)
  and_parts true true true e = (refl, refl)
  and_parts true true false e = absurd (cc)
  and_parts true false d e = absurd (cc)
  and_parts false b d e = absurd (cc)

  -- a sector of the map or of a boot block that lies in a hole lay in one before
  hole_before : (s : ℕ) → (is_among (map_sectors m.geometry) s ≡ true) ⊎ (is_among (boot_row boot m.geometry.sector) s ≡ true)
      → is_among (hole_sectors (Layout.New m')) s ≡ true → is_among (hole_sectors (Layout.New m)) s ≡ true
  hole_before s reserved h =
      let p' = holder_of m'.geometry (hole_runs m') s h in
      let f' = filter_in (λ q. is_hole q.1.kind) (all_runs m') p'.0 p'.1.0 in
      let holds' : HoldsSector m.geometry p'.0 s = subst (λ (k : Geometry). HoldsSector k p'.0 s) is.geometry p'.1.1 in
      let p = run_there m m' is.geometry shaped is.was.right is.map.right some p'.0 s f'.0 holds' in
      by p'.0 p.0 f' p.1 p'.1.1 (is_hole p.0.1.kind) refl
    where
      never : (k : RunKind) → is_hole k ≡ true → is_hole k ≡ false → ⊥
      never k a b = cc

      by : (p' p : ZoneRun) → Contains (all_runs m') p' × (is_hole p'.1.kind ≡ true) → Contains (all_runs m) p × HoldsSector m.geometry p s → HoldsSector m'.geometry p' s
          → (b : Bool) → is_hole p.1.kind ≡ b → is_among (hole_sectors (Layout.New m)) s ≡ true
      by p' p f' c holds' true e = held_in m.geometry (hole_runs m) p s (in_filter (λ q. is_hole q.1.kind) (all_runs m) p c.0 e) c.1
      by p' p f' c holds' false e = absurd (elim (stays_or_goes p c.0 (ap not e)) [
        | inl there ↦
            (let same = runs_apart m' shaped' is.map.right p p' there f'.0 s (subst (λ (k : Geometry). HoldsSector k p s) (sym is.geometry) c.1) holds' in
            never p'.1.kind f'.1 (subst (λ (q : ZoneRun). is_hole q.1.kind ≡ false) same e))
        | inr gone ↦
            (let apart = and_parts (is_lost_kind owners p.1.kind) (is_apart (run_sectors m.geometry p) (map_sectors m.geometry)) (is_apart (run_sectors m.geometry p) (boot_row boot m.geometry.sector)) gone in
            let within : is_among (run_sectors m.geometry p) s ≡ true = in_range _ _ s c.1.from c.1.to in
            elim reserved [
              | inl of_map ↦ (let no' = apart_at (run_sectors m.geometry p) (map_sectors m.geometry) s apart.0 within in cc)
              | inr of_boot ↦ (let no' = apart_at (run_sectors m.geometry p) (boot_row boot m.geometry.sector) s apart.1 within in cc)
            ])
      ])

  -- ---- the map's place

  module _ (kind : Kind) (objects : List Object) (own : AreOwnersOf owners objects) (covers : Covers boot kind) where
    abbrev reserved : List ℕ
    reserved = reserved_in kind (Layout.New m)

    boot_covered : (s : ℕ) → is_among (boot_place kind m.geometry.sector) s ≡ true → is_among (boot_row boot m.geometry.sector) s ≡ true
    boot_covered s h = by kind (covers m.geometry.sector s h) h
      where
        all : (xs : List ℕ) → filter (λ (k : ℕ). true) xs ≡ xs
        all [] = refl
        all (x ∷ xs) = ap (λ (ys : List ℕ). x ∷ ys) (all xs)

        by : (k : Kind) → boot ≡ true → is_among (boot_place k m.geometry.sector) s ≡ true → is_among (boot_row boot m.geometry.sector) s ≡ true
        by (Boot r) e i = subst (λ (xs : List ℕ). is_among xs s ≡ true)
            (sym (ap (λ (b : Bool). boot_row b m.geometry.sector) e ∙ all (boot_place (Boot r) m.geometry.sector))) i
        by (OneZone r) e i = absurd (cc)
        by DiscD e i = absurd (cc)
        by (DiscL units) e i = absurd (cc)

    movable_before : (s : ℕ) (p' : ZoneRun) → Contains (all_runs m') p' → HoldsSector m.geometry p' s → (k : RunKind) → p'.1.kind ≡ k → is_hole k ≡ false → is_hole_or_movable objects k ≡ true
        → is_among (loose_sectors m objects) s ≡ true
    movable_before s p' c holds kinds.Hole e other loose = absurd (cc)
    movable_before s p' c holds (kinds.Id id) e other loose =
        let kept : is_lost_by owners id ≡ false = sym (lost_same owners objects own id) ∙ movable_kept objects id loose in
        let of_id : has_id id p'.1.kind ≡ true = ap (has_id id) e ∙ eq-eqb id id refl in
        let there = subst (λ (ps : List ZoneRun). Contains ps p') (owned_kept id kept) (in_id_runs m' id p' some' c of_id) in
        held_in m.geometry (filter (λ q. is_hole_or_movable objects q.1.kind) (all_runs m)) p' s
        (in_filter (λ q. is_hole_or_movable objects q.1.kind) (all_runs m) p' (id_run_in m id p' some there).0 (ap (is_hole_or_movable objects) e ∙ loose)) holds

    loose_before : (s : ℕ) → is_among reserved s ≡ true → is_among (loose_sectors m' objects) s ≡ true → is_among (loose_sectors m objects) s ≡ true
    loose_before s i h =
        let test : ZoneRun → Bool = λ q. is_hole_or_movable objects q.1.kind in
        let p' = holder_of m'.geometry (filter test (all_runs m')) s h in
        let f' = filter_in test (all_runs m') p'.0 p'.1.0 in
        by (is_hole p'.0.1.kind) p'.0 refl f'.0 f'.1 p'.1.1
      where
        at : (is_among (map_sectors m.geometry) s ≡ true) ⊎ (is_among (boot_row boot m.geometry.sector) s ≡ true)
        at = elim (in_either (map_sectors m.geometry) (boot_place kind m.geometry.sector) s i) [ Ok of_map ↦ inl of_map | Err of_boot ↦ inr (boot_covered s of_boot) ]

        by : (b : Bool) (p' : ZoneRun) → is_hole p'.1.kind ≡ b → Contains (all_runs m') p' → is_hole_or_movable objects p'.1.kind ≡ true → HoldsSector m'.geometry p' s → is_among (loose_sectors m objects) s ≡ true
        by true p' e c loose holds = holes_loose m objects s (hole_before s at (held_in m'.geometry (hole_runs m') p' s (in_filter (λ q. is_hole q.1.kind) (all_runs m') p' c e) holds))
        by false p' e c loose holds = movable_before s p' c (subst (λ (k : Geometry). HoldsSector k p' s) is.geometry holds) p'.1.kind refl e loose

    place_core : (h : Geometry) → h ≡ m.geometry → misplaced_sector kind (Layout.New m) objects ≡ None
        → least_of (filter (is_among (loose_sectors m' objects)) (map_sectors h ++ boot_place kind h.sector) ++ filter (is_among (map_sectors h)) (boot_place kind h.sector)) ≡ None
    place_core h same placed =
        let parts = none_least (filter (is_among (loose_sectors m objects)) reserved) (filter (is_among (map_sectors m.geometry)) (boot_place kind m.geometry.sector)) placed in
        subst (λ (k : Geometry). least_of (filter (is_among (loose_sectors m' objects)) (map_sectors k ++ boot_place kind k.sector) ++ filter (is_among (map_sectors k)) (boot_place kind k.sector)) ≡ None) (sym same)
        (least_none (filter (is_among (loose_sectors m' objects)) reserved) (filter (is_among (map_sectors m.geometry)) (boot_place kind m.geometry.sector))
        (tight_from (loose_sectors m' objects) reserved
        (λ s i. unless (is_among (loose_sectors m' objects) s)
        (λ h'. let no' = none_loose (loose_sectors m objects) reserved parts.0 s i in let was = loose_before s i h' in cc)))
        parts.1)

    -- no sector that is reserved has come into a hole, or into what may move
    pub placed_after : misplaced_sector kind (Layout.New m) objects ≡ None → misplaced_sector kind (Layout.New m') objects ≡ None
    placed_after placed = place_core m'.geometry is.geometry placed
