-- What a change leaves outside its directory, its object and the map's runs.
use Rattle.std.proofs.Common.{◌≡◌, ◌<◌, ◌≤◌, inl, inr, ℕ, zero, suc, ◌+◌, ◌*◌, Bool, true, false, List, [], ◌∷◌, ◌++◌, length, take, drop, refl, sym, ap, ap₂, subst, ◌∙◌, arith, Some, eq-eqb}
use Rattle.std.specs.Prelude.{Contains, filter, not, ◌==◌, ◌&&◌, ◌||◌, nat_le, nat_lt}
use Rattle.std.specs.List.{list_any}
use Rattle.std.proofs.lemmas.Bool.{cases_lt, eqb-true, leb-false, lt-ltb, ltb-true, false_from_ne_true as unless, not-true as not_true}
use Rattle.std.proofs.lemmas.List.{drop-drop, drop_all, take-append-drop}
use Rattle.fc_device.specs.Sectors.{sector_at}
use Rattle.fc_zone.specs.declared.RunKind.{RunKind}
use Rattle.fc_zone.specs.declared.RunKind.TheVariants as kinds
use Rattle.fc_newmap.specs.Map.{Map, ZoneRun, all_runs, has_id, hole_runs, id_runs, is_hole, map_sectors, sectors_of}
use Rattle.fc_newmap.specs.RunsLaw.{HasZones, HoldsSector, IsGeometry}
use Rattle.fc_newmap.proofs.PlaceLemmas.{filter_in, holder_of, id_run_in}
use Rattle.fc_newmap.proofs.RunsLemmas.{runs_apart}
use Rattle.fc_image.specs.Layout.{Layout, hole_sectors, id_of, is_among, is_apart, map_place, sectors_at}
use Rattle.fc_image.specs.Walk.{Object}
use Rattle.fc_image.specs.Objects.{has_sectors, is_owned, is_owner_of}
use Rattle.fc_image.specs.Written.{WritesOnly}
use Rattle.fc_image.specs.Edits.{IsAt}
use Rattle.fc_image.proofs.HolesLemmas.{apart_from, in_id}
use Rattle.fc_image.proofs.MoveLemmas.{all_filter}
use Rattle.fc_image.specs.effects.Steady.{SameSectors, is_idle}
use Rattle.fc_changes.proofs.BasicLemmas.{any_in, clash, in_any}
use Rattle.fc_changes.proofs.BeforeLemmas.{id_high}
use Rattle.fc_record.proofs.KindLemmas.{and_first, and_second}

pub no_sectors : (xs : List ℕ) → is_apart xs [] ≡ true
no_sectors xs = apart_from xs [] (λ s a b. absurd (cc))

-- ---- sectors that are somebody's

-- Each of the sectors lies in a run that is a hole, or of an identifier that an object owns.
abbrev pub AreBusy : Map → List Object → List ℕ → Type 0
AreBusy m objects sectors = (s : ℕ) → is_among sectors s ≡ true → (p : ZoneRun) × Contains (all_runs m) p × HoldsSector m.geometry p s × (is_idle objects p.1.kind ≡ false)

-- a run of an owned identifier isn't idle
pub owned_busy : (objects : List Object) (id : ℕ) (k : RunKind) → has_id id k ≡ true → is_owned objects id ≡ true → 2 ≤ id → is_idle objects k ≡ false
owned_busy objects id kinds.Hole h own high = absurd (cc)
owned_busy objects id (kinds.Id other) h own high =
    subst (λ (n : ℕ). is_idle objects (kinds.Id n) ≡ false) (sym (eqb-true other id h)) (by (id == 1) (is_owned objects id) refl own)
  where
    by : (one owned : Bool) → (id == 1) ≡ one → owned ≡ true → (one || (not owned && not one && not (id == 2))) ≡ false
    by true owned a o = absurd (let is = eqb-true id 1 a in omega arith)
    by false true a o = refl
    by false false a o = absurd (cc)

pub some_sectors : (sectors : List ℕ) (s : ℕ) → is_among sectors s ≡ true → nat_lt 0 (length sectors) ≡ true
some_sectors [] s h = absurd (cc)
some_sectors (x ∷ sectors) s h = lt-ltb 0 (length (x ∷ sectors)) (omega arith)

pub object_owns : (objects : List Object) (o : Object) (s : ℕ) → Contains objects o → is_among o.sectors s ≡ true → is_owned objects (id_of o.entry.address) ≡ true
object_owns objects o s at h =
    let id = id_of o.entry.address in
    let own : is_owner_of id o ≡ true = ap₂ (λ (a b : Bool). a && b) (some_sectors o.sectors s h) (eq-eqb id id refl) in
    ap (λ (b : Bool). (id == 2) || b) (any_in (is_owner_of id) objects o at own) ∙ or_true (id == 2)
  where
    or_true : (b : Bool) → (b || true) ≡ true
    or_true true = refl
    or_true false = refl

-- no object owns identifiers 0 and 1
pub no_owner_low : (m : Map) (objects : List Object) → ((o : Object) → Contains objects o → IsAt (Layout.New m) o) → (id : ℕ) → id < 2 → is_owned objects id ≡ false
no_owner_low m objects placed id low = unless (is_owned objects id) (λ own.
    let p = in_any (is_owner_of id) objects (not_two (id == 2) refl own) in
    let one = eqb-true (id_of p.0.entry.address) id (and_second (has_sectors p.0) (id_of p.0.entry.address == id) p.2) in
    let s = a_sector p.0.sectors (and_first (has_sectors p.0) (id_of p.0.entry.address == id) p.2) in
    let high = id_high m p.0.entry.address _ p.0.sectors s.0 (placed p.0 p.1) s.1 in
    omega (arith, one, high, low))
  where
    a_sector : (sectors : List ℕ) → nat_lt 0 (length sectors) ≡ true → (s : ℕ) × (is_among sectors s ≡ true)
    a_sector [] h = absurd (let low = ltb-true 0 0 h in omega arith)
    a_sector (x ∷ sectors) h = (x, ap (λ b. b || is_among sectors x) (eq-eqb x x refl))

    not_two : (b : Bool) → (id == 2) ≡ b → (b || list_any (is_owner_of id) objects) ≡ true → list_any (is_owner_of id) objects ≡ true
    not_two true e h = absurd (let two = eqb-true id 2 e in omega (arith, two, low))
    not_two false e h = h

-- below 3, 2 alone is owned
pub low_owned : (m : Map) (objects : List Object) → ((o : Object) → Contains objects o → IsAt (Layout.New m) o) → (id : ℕ) → is_owned objects id ≡ true → nat_le 3 id ≡ false → id ≡ 2
low_owned m objects placed id own low =
    let below = leb-false 3 id low in
    elim (cases_lt id 2) [
      | inl less ↦ absurd (clash (is_owned objects id) own (no_owner_low m objects placed id less))
      | inr more ↦ omega (arith, below, more)
    ]

module _ (m : Map) (objects : List Object) (some : 1 ≤ m.geometry.zones) where
  pub object_busy : (o : Object) (bytes : ℕ) → Contains objects o → sectors_at (Layout.New m) o.entry.address bytes ≡ Some o.sectors → AreBusy m objects o.sectors
  object_busy o bytes at placed s h =
      let id = id_of o.entry.address in
      let p = holder_of m.geometry (id_runs m id) s (in_id m o.entry.address bytes o.sectors s placed h) in
      let in_map = id_run_in m id p.0 some p.1.0 in
      (p.0, in_map.0, p.1.1, owned_busy objects id p.0.1.kind in_map.1 (object_owns objects o s at h) (id_high m o.entry.address bytes o.sectors s placed h))

  pub holes_busy : (sectors : List ℕ) → ((s : ℕ) → is_among sectors s ≡ true → is_among (hole_sectors (Layout.New m)) s ≡ true) → AreBusy m objects sectors
  holes_busy sectors within s h =
      let p = holder_of m.geometry (hole_runs m) s (within s h) in
      let in_map = filter_in (λ (q : ZoneRun). is_hole q.1.kind) (all_runs m) p.0 p.1.0 in
      (p.0, in_map.0, p.1.1, not_idle p.0.1.kind in_map.1)
    where
      not_idle : (k : RunKind) → is_hole k ≡ true → is_idle objects k ≡ false
      not_idle kinds.Hole e = refl
      not_idle (kinds.Id id) e = absurd (cc)

  -- idle sectors keep their bytes
  pub idle_stay : IsGeometry m.geometry → HasZones m → (image image' sectors : List ℕ) → AreBusy m objects sectors → WritesOnly m sectors image image'
      → SameSectors m.geometry.sector (filter (λ s. not (is_among (map_place (Layout.New m)) s)) (sectors_of m.geometry (filter (λ p. is_idle objects p.1.kind) (all_runs m)))) image image'
  idle_stay is has image image' sectors busy writes =
      all_filter (λ s. not (is_among (map_place (Layout.New m)) s)) (λ s. sector_at m.geometry.sector image' s ≡ sector_at m.geometry.sector image s)
      (sectors_of m.geometry (filter (λ p. is_idle objects p.1.kind) (all_runs m)))
      (λ s i h. writes s
      (unless (is_among sectors s) (λ j.
      let q = holder_of m.geometry (filter (λ (p : ZoneRun). is_idle objects p.1.kind) (all_runs m)) s i in
      let in_map = filter_in (λ (p : ZoneRun). is_idle objects p.1.kind) (all_runs m) q.0 q.1.0 in
      let b = busy s j in
      let same = runs_apart m is has q.0 b.0 in_map.0 b.1 s q.1.1 b.2 in
      clash (is_idle objects b.0.1.kind) (subst (λ (p : ZoneRun). is_idle objects p.1.kind ≡ true) same in_map.1) b.3))
      (not_true (is_among (map_sectors m.geometry) s) h))

-- ---- after the disc

-- from a sector on, all sectors are the same, and so are the bytes
pub same_behind : (size : ℕ) (image image' : List ℕ) → 0 < size → length image' ≡ length image → (fuel n : ℕ) → length image ≤ n * size + fuel
    → ((s : ℕ) → n ≤ s → sector_at size image' s ≡ sector_at size image s) → drop (n * size) image' ≡ drop (n * size) image
unfolding sector_at
same_behind size image image' some long zero n low same =
    drop_all (n * size) image' (omega (arith, low, long)) ∙ sym (drop_all (n * size) image (omega (arith, low)))
same_behind size image image' some long (suc fuel) n low same =
    let next : (n + 1) * size ≡ n * size + size = omega arith in
    let later = same_behind size image image' some long fuel (n + 1) (omega (arith, low, some, next)) (λ s h. same s (omega (arith, h))) in
    cut image' ∙ ap₂ (λ (xs ys : List ℕ). xs ++ ys) (sector n) (subst (λ (k : ℕ). drop k image' ≡ drop k image) next later) ∙ sym (cut image)
  where
    cut : (bytes : List ℕ) → drop (n * size) bytes ≡ take size (drop (n * size) bytes) ++ drop (n * size + size) bytes
    cut bytes = sym (take-append-drop size (drop (n * size) bytes)) ∙ ap (λ (xs : List ℕ). take size (drop (n * size) bytes) ++ xs) (drop-drop size (n * size) bytes)

    sector : (k : ℕ) → take size (drop (n * size) image') ≡ take size (drop (n * size) image)
    sector k = same n (omega arith)
