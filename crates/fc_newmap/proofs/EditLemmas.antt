-- A write to one zone's sector in the buffer of a map.
use Rattle.std.proofs.Common.{◌≡◌, ◌<◌, ◌≤◌, ℕ, ◌+◌, ◌-◌, ◌*◌, List, [], ◌∷◌, ◌++◌, length, take, drop, refl, sym, ap, ap₂, subst, ◌∙◌, arith, inl, inr}
use Rattle.std.specs.Prelude.{Vec}
use Rattle.std.specs.Vec.{with_items}
use Rattle.std.proofs.lemmas.List.{with_items_is}
use borrow.Rule.Slice.PartMut.{put_mid}
use Rattle.fc_record.specs.declared.Geometry.{Geometry}
use Rattle.fc_zone.specs.declared.ZoneShape.{ZoneShape}
use Rattle.fc_zone.specs.declared.Run.{Run}
use Rattle.fc_zone.specs.declared.RunKind.{RunKind}
use Rattle.fc_zone.specs.Zone.{IsShapeOf, IsZone, Zone}
use Rattle.fc_zone.specs.Reading.{runs_of as runs_read}
use Rattle.fc_zone.specs.Edits.{HasHoleAt, HasRunAt, HasRunToSplit, HasRunsToMerge, KeepsBytes, KeepsOutside, Merges, Relabels, Splits, WritesLinks}
use Rattle.fc_zone.proofs.ReadingLemmas.{runs_of_zone}
use Rattle.fc_zone.proofs.WrittenLemmas.{edit_keeps}
use Rattle.fc_bytes.specs.Bits.{bits}
use Rattle.fc_newmap.specs.Edits.{IsEdit, KeepsRuns, MergesIn, RelabelsIn, SplitsIn, WritesLinksOf}
use Rattle.std.proofs.lemmas.Bool.{cases_eq}
use Rattle.std.proofs.lemmas.List.{get_or-set_other}
use Rattle.fc_newmap.specs.Map.{Map, shape, sector_of, runs_of, with_zone}
use Rattle.fc_newmap.specs.NewMap.{IsHeld, IsNewMap, map_in}
use Rattle.fc_record.specs.Record.{first_bit}
use Rattle.fc_newmap.proofs.GeometryLemmas.{header_high}
use Rattle.fc_newmap.proofs.HeldLemmas as held

-- the sector of the buffer that is lent
abbrev pub lent : Geometry → ℕ → List ℕ → List ℕ
lent g from was = take (from + g.sector - from) (drop from was)

-- what a write to a zone's sector makes of a map
pub record IsWrittenIn (g : Geometry) (m : Map) (z : ℕ) (old part items : List ℕ) : Type 0 where
  pub was : IsNewMap m
  pub geometry : m.geometry ≡ g
  pub low : z < g.zones
  pub old_is : old ≡ sector_of m z
  pub fits : IsShapeOf old (shape g z)
  pub low_first : 8 ≤ first_bit z
  pub zone : Zone (shape g z) old (runs_of m z)
  pub map : map_in g items ≡ with_zone m z part
  pub new_is : part ≡ sector_of (map_in g items) z
  pub others : map_in g items ≡ with_zone m z (sector_of (map_in g items) z)
  pub held : IsZone (shape g z) part → IsHeld g items

-- the buffer after the write
abbrev pub new_items : {Z : Type 0} (g : Geometry) (v : Vec ℕ Z) (was part : List ℕ) (from : ℕ) → List ℕ
new_items g v was part from = (with_items v (put_mid from (from + g.sector - from) was part)).items

abbrev pub Writes : {Z : Type 0} (g : Geometry) (v : Vec ℕ Z) (m : Map) (was part : List ℕ) (from z : ℕ) → Type 0
Writes g v m was part from z = IsWrittenIn g m z (lent g from was) part (new_items g v was part from)

pub written_in : {Z : Type 0} (g : Geometry) (v : Vec ℕ Z) (m : Map) (was part : List ℕ) (from z : ℕ) → IsHeld g v.items → map_in g v.items ≡ m → z < m.geometry.zones → from ≡ z * g.sector
    → was ≡ v.items → length part ≡ length (lent g from was) → Writes g v m was part from z
written_in g v m was part from z is view low at same long =
    let k : m.geometry ≡ g = ap (λ (n : Map). n.geometry) (sym view) in
    let below : z < g.zones = subst (λ (h : Geometry). z < h.zones) k low in
    let there : lent g from was ≡ sector_of (map_in g v.items) z =
    ap (λ (x : ℕ). lent g x was) at ∙ ap (lent g (z * g.sector)) same ∙ held.slice_is g v.items z is.whole below in
    let size : length (lent g from was) ≡ g.sector = ap length there ∙ held.length-sector g v.items z is.whole below in
    let whole : length part ≡ g.sector = long ∙ size in
    let after = held.after g v.items z part is below whole in
    let put : put_mid from (from + g.sector - from) was part ≡ after =
    ap (λ (x : ℕ). put_mid x (x + g.sector - x) was part) at ∙ ap (λ (xs : List ℕ). put_mid (z * g.sector) (z * g.sector + g.sector - z * g.sector) xs part) same in
    let stays : length (put_mid from (from + g.sector - from) was part) ≡ v.len = ap length put ∙ held.length-after g v.items z part is below whole ∙ sym v.ok.0 in
    let items : new_items g v was part from ≡ after = with_items_is v (put_mid from (from + g.sector - from) was part) stays ∙ put in
    let new : map_in g (new_items g v was part from) ≡ map_in g after = ap (map_in g) items in
    let sector : sector_of (map_in g (new_items g v was part from)) z ≡ part = ap (λ (n : Map). sector_of n z) new ∙ held.sector_after g v.items z part is below whole in
    let map : map_in g (new_items g v was part from) ≡ with_zone m z part =
    new ∙ held.map_after g v.items z part is below whole ∙ ap (λ (n : Map). with_zone n z part) view in
    record {
      was = subst IsNewMap view is.map;
      geometry = k;
      low = below;
      old_is = there ∙ ap (λ (n : Map). sector_of n z) view;
      fits = held.shape_fits g z (lent g from was) is.map.of_record below size;
      low_first = (let h = header_high z in omega arith);
      zone = subst (λ (n : Map). Zone (shape g z) (lent g from was) (runs_of n z)) view (subst (λ (s : List ℕ). Zone (shape g z) s (runs_of (map_in g v.items) z)) (sym there) (is.map.right z below));
      map = map;
      new_is = sym sector;
      others = map ∙ ap (with_zone m z) (sym sector);
      held = λ zone. subst (IsHeld g) (sym items) (held.held_after g v.items z part is below whole zone);
    }

-- a sector has so many bytes
pub sector_long : (sector : List ℕ) (shape : ZoneShape) (n : ℕ) → IsShapeOf sector shape → n < 256 → n < length sector
sector_long sector shape n fits low = elim fits.size [
  | inl one ↦ omega arith
  | inr rest ↦ elim rest [ inl two ↦ omega arith | inr three ↦ omega arith ]
]

-- ---- what the edits of a zone say of the map

module _ (g : Geometry) (m : Map) (z : ℕ) (old part items : List ℕ) (s : ZoneShape) (w : IsWrittenIn g m z old part items) (is : s ≡ shape g z) where
  shape_same : shape g z ≡ shape m.geometry z
  shape_same = ap (λ (h : Geometry). shape h z) (sym w.geometry)

  -- what holds of the sector that is lent, and of what it holds then
  pub lifted : (P : ZoneShape → List ℕ → List ℕ → Type 0) → P s old part → P (shape m.geometry z) (sector_of m z) (sector_of (map_in g items) z)
  lifted P h =
      subst (λ (t : List ℕ). P (shape m.geometry z) (sector_of m z) t) w.new_is
      (subst (λ (t : List ℕ). P (shape m.geometry z) t part) w.old_is (subst (λ (k : ZoneShape). P k old part) (is ∙ shape_same) h))

  pub lowered : (Q : ZoneShape → List ℕ → Type 0) → Q (shape m.geometry z) (sector_of m z) → Q s old
  lowered Q h = subst (λ (k : ZoneShape). Q k old) (sym (is ∙ shape_same)) (subst (λ (t : List ℕ). Q (shape m.geometry z) t) (sym w.old_is) h)

  pub held_by : IsZone s part → IsHeld g items
  held_by zone = w.held (subst (λ (k : ZoneShape). IsZone k part) is zone)

  -- the sector's runs before the write and after it
  pub zone_cut : (runs : List Run) → runs_of m z ≡ runs → Zone s old runs
  zone_cut runs e = subst (λ (k : ZoneShape). Zone k old runs) (sym is) (subst (λ (rs : List Run). Zone (shape g z) old rs) e w.zone)

  pub runs_after : (runs : List Run) → Zone s part runs → runs_of (map_in g items) z ≡ runs
  runs_after runs zone = ap (runs_read (shape g z)) (sym w.new_is) ∙ runs_of_zone (shape g z) part runs (subst (λ (k : ZoneShape). Zone k part runs) is zone)

  pub links_of : WritesLinks s (bits old) (bits part) (runs_read s old) (runs_read s part) → WritesLinksOf m (map_in g items) z
  links_of links =
      subst (λ (k : ZoneShape). WritesLinks (shape m.geometry z) (bits (sector_of m z)) (bits (sector_of (map_in g items) z)) (runs_of m z) (runs_read k (sector_of (map_in g items) z))) (sym shape_same)
      (lifted (λ k a b. WritesLinks k (bits a) (bits b) (runs_read k a) (runs_read k b)) links)

  pub edit_of : IsZone s part → WritesLinks s (bits old) (bits part) (runs_read s old) (runs_read s part) → KeepsOutside s old part → KeepsBytes s old part → IsEdit m (map_in g items) z
  edit_of zone links outside bytes =
      let held = held_by zone in
      record {
        was = w.was;
        map = held.map;
        geometry = sym w.geometry;
        others = λ y ne. ap (λ (n : Map). sector_of n y) w.map ∙ get_or-set_other m.zones z y part [] ne;
        outside = lifted KeepsOutside outside;
        bytes = lifted KeepsBytes bytes;
        links = edit_keeps (shape m.geometry z) (bits (sector_of m z)) (bits (sector_of (map_in g items) z)) (runs_of m z) (runs_of (map_in g items) z) (links_of links);
      }

  -- the edits of a zone as edits of the map
  pub relabels : (start : ℕ) (kind : RunKind) → Relabels s old part start kind → RelabelsIn m (map_in g items) z start kind
  relabels start kind edit = λ front rest run e at. runs_after (front ++ record run { kind = kind } ∷ rest) (edit front rest run (zone_cut (front ++ run ∷ rest) e) at)

  pub splits : (start len : ℕ) → Splits s old part start len → SplitsIn m (map_in g items) z start len
  splits start len edit = λ front rest run e at.
      subst (λ (n : ℕ). runs_of (map_in g items) z ≡ front ++ record run { len = len } ∷ (record run { start = n + len; len = run.len - len } ∷ rest)) (sym at)
      (runs_after (front ++ record run { len = len } ∷ (record run { start = start + len; len = run.len - len } ∷ rest)) (edit front rest run (zone_cut (front ++ run ∷ rest) e) at))

  pub merges : (start : ℕ) → Merges s old part start → MergesIn m (map_in g items) z start
  merges start edit = λ front rest one two e at. runs_after (front ++ record one { len = one.len + two.len } ∷ rest) (edit front rest one two (zone_cut (front ++ one ∷ (two ∷ rest)) e) at)

-- the zone has runs after an edit, and which
module _ (s : ZoneShape) (old new : List ℕ) (start : ℕ) where
  pub relabelled : (kind : RunKind) → HasRunAt s old start → Relabels s old new start kind → IsZone s new
  relabelled kind run edit = let r = run.1.1 in (r.0 ++ record run.0 { kind = kind } ∷ r.1.0, edit r.0 r.1.0 run.0 r.1.1 run.1.0)

  pub was_run : HasHoleAt s old start → HasRunAt s old start
  was_run hole = (hole.0, (hole.1.0, hole.1.2))

  pub split_zone : (len : ℕ) → HasRunToSplit s old start len → Splits s old new start len → IsZone s new
  split_zone len run edit = let r = run.1.2 in
      (r.0 ++ record run.0 { len = len } ∷ (record run.0 { start = start + len; len = run.0.len - len } ∷ r.1.0), edit r.0 r.1.0 run.0 r.1.1 run.1.0)

  pub merged_zone : HasRunsToMerge s old start → Merges s old new start → IsZone s new
  merged_zone runs edit = let r = runs.4 in (r.0 ++ record runs.0 { len = runs.0.len + runs.1.len } ∷ r.1.0, edit r.0 r.1.0 runs.0 runs.1 r.1.1 runs.2)

-- a write that leaves the zone its runs
module _ (g : Geometry) (m : Map) (z : ℕ) (old part items : List ℕ) (w : IsWrittenIn g m z old part items) (zone : Zone (shape g z) part (runs_of m z)) where
  pub same_runs : KeepsRuns m (map_in g items)
  same_runs =
      let held = w.held (runs_of m z, zone) in
      record { was = w.was; map = held.map; geometry = sym w.geometry; runs = each }
    where
      each : (y : ℕ) → runs_of (map_in g items) y ≡ runs_of m y
      each y = elim (cases_eq y z) [
        | inl same ↦ subst (λ (k : ℕ). runs_of (map_in g items) k ≡ runs_of m k) (sym same) (runs_after g m z old part items (shape g z) w refl (runs_of m z) zone)
        | inr other ↦ ap₂ (λ (h : Geometry) (t : List ℕ). runs_read (shape h y) t) (sym w.geometry) (ap (λ (n : Map). sector_of n y) w.map ∙ get_or-set_other m.zones z y part [] other)
      ]
