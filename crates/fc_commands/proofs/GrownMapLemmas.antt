-- The map after a directory has grown: both copies are the new map, and the record has the root's new place if it is the root that grew.
use Rattle.std.proofs.Common.{◌≡◌, ◌<◌, ◌≤◌, ◌⊎◌, inl, inr, ℕ, ◌+◌, ◌-◌, ◌^◌, ◌==◌, Bool, true, false, cond, List, [], ◌∷◌, length, take, drop, refl, sym, ap, subst, ◌∙◌, arith, eq-eqb, get_or-set_other, get_or-set_same, Option}
use Rattle.std.specs.Prelude.{Contains, Some, None, slice_index, slice_range}
use Rattle.std.specs.List.{AllByRecursion}
use Rattle.std.proofs.lemmas.Bool.{eqb-true}
use Rattle.fc_bytes.specs.Bits.{bits, num}
use Rattle.fc_bytes.specs.BitLaws.{bits-drop, bits-take}
use Rattle.fc_record.specs.declared.DiscRecord.{DiscRecord}
use Rattle.fc_record.specs.declared.Geometry.{Geometry}
use Rattle.fc_record.specs.declared.Kind.{Kind}
use Rattle.fc_record.specs.Record.{first_bit}
use Rattle.fc_record.specs.Kinds.{map_record}
use Rattle.fc_zone.specs.declared.Run.{Run}
use Rattle.fc_zone.specs.declared.RunKind.{RunKind}
use Rattle.fc_zone.specs.declared.RunKind.TheVariants as kinds
use Rattle.fc_zone.specs.declared.ZoneShape.{ZoneShape}
use Rattle.fc_zone.specs.Edits.{KeepsLinks}
use Rattle.fc_zone.specs.Reading.{runs_of as runs_read}
use Rattle.fc_zone.specs.Zone.{Spells, field_at, hole_starts, start_if_hole}
use Rattle.fc_zone.proofs.ReadingLemmas.{runs_of_zone}
use Rattle.fc_newmap.specs.Map.{Map, runs_of, sector_of, shape, with_root, with_zone}
use Rattle.fc_newmap.specs.NewMap.{IsNewMap}
use Rattle.fc_newmap.proofs.HeldLemmas.{geometry_facts}
use Rattle.fc_newmap.proofs.RootLemmas.{root_back, root_front, root_kept, root_long}
use Rattle.fc_newmap.specs.Copies.{HoldsCopies}
use Rattle.fc_image.specs.Opening.{Opened}
use Rattle.fc_image.specs.Walk.{Object}
use Rattle.fc_image.specs.effects.Steady.{KeepsOrWritesLinks, ZoneSteady}
use Rattle.fc_changes.specs.Owed.{IsBefore}
use Rattle.fc_changes.proofs.BasicLemmas.{clash}
use Rattle.fc_changes.proofs.CommittedLemmas.{index_part, same_part, part_behind}
use Rattle.fc_changes.specs.Space.{IsMapEdited}
use Rattle.fc_changes.proofs.StepsLemmas.{after}
use Rattle.fc_edits.specs.Growing.{Growing}
use Rattle.fc_outcomes.specs.Growth.{GrowsRoot, MapGrows}
use Rattle.fc_outcomes.specs.NewImage.{IsMapRooted, rooted_zone}
use Rattle.fc_changes.specs.growth.Grown.{HasRoot, NewPlace}
use Rattle.fc_changes.proofs.lemmas.growth.RootLemmas.{grown_maps_law}
use Rattle.fc_writing.specs.declared.ready.RootPlace.{RootPlace}
use Rattle.fc_writing.specs.Steps.{CanRoot, rooted_map}

-- ---- a sector with another root

-- holes begin in the zone's bits
starts_high : (s : ZoneShape) (bs : List ℕ) (at : ℕ) (runs : List Run) (end : ℕ) → Spells s bs at runs end → AllByRecursion (λ p. at ≤ p) (hole_starts runs)
starts_high s bs at [] end spelled = tt
starts_high s bs at (run ∷ runs) end spelled = by run.kind (higher (hole_starts runs) (starts_high s bs (at + run.len) runs end spelled.3))
  where
    higher : (ps : List ℕ) → AllByRecursion (λ p. at + run.len ≤ p) ps → AllByRecursion (λ p. at ≤ p) ps
    higher [] a = tt
    higher (p ∷ ps) a = (let from = a.0 in omega (arith, from), higher ps a.1)

    by : (k : RunKind) → AllByRecursion (λ p. at ≤ p) (hole_starts runs) → AllByRecursion (λ p. at ≤ p) (start_if_hole k run.start (hole_starts runs))
    by kinds.Hole a = (let is = spelled.0 in omega (arith, is), a)
    by (kinds.Id id) a = a

module _ (s t : List ℕ) (front : take 16 t ≡ take 16 s) (back : drop 56 t ≡ drop 56 s) (long : length t ≡ length s) where
  early : (k : ℕ) → k < 16 → slice_index t k ≡ slice_index s k
  early k low =
      let zero' : 0 + k ≡ k = omega arith in
      ap (slice_index t) (sym zero') ∙ sym (index_part 0 16 k t low) ∙ ap (λ (xs : List ℕ). slice_index xs k) front ∙ index_part 0 16 k s low ∙ ap (slice_index s) zero'

  link_same : slice_range (bits t) 8 24 ≡ slice_range (bits s) 8 24
  link_same =
      ap (take 16) (sym (bits-drop 1 t)) ∙ sym (bits-take 2 (drop 1 t)) ∙ ap bits (same_part 1 2 s t long (λ k h g. early k (omega (arith, g))))
      ∙ bits-take 2 (drop 1 s) ∙ ap (take 16) (bits-drop 1 s)

  field_same : (shape' : ZoneShape) (at : ℕ) → 512 ≤ at → field_at shape' (bits t) at ≡ field_at shape' (bits s) at
  field_same shape' at high =
      ap num (part_behind 448 at (at + shape'.idlen - at) (bits s) (bits t) (omega (arith, high)) (sym (bits-drop 56 t) ∙ ap bits back ∙ bits-drop 56 s))

-- ---- the map with another root

module _ (m : Map) (is : IsNewMap m) (p : RootPlace) where
  abbrev now : List ℕ
  now = with_root (sector_of m 0) p.address p.len

  abbrev first : Map
  first = with_zone m 0 (with_root (sector_of m 0) p.address p.len)

  some_zone : 0 < m.geometry.zones
  some_zone = (geometry_facts m.geometry is.of_record).zones

  sector_long : 256 ≤ m.geometry.sector
  sector_long = elim (geometry_facts m.geometry is.of_record).size [
    | inl small ↦ omega (arith, small)
    | inr more ↦ (elim more [ inl middle ↦ omega (arith, middle) | inr large ↦ omega (arith, large) ])
  ]

  pub fits : 56 ≤ length (sector_of m 0)
  fits = let whole = is.whole 0 some_zone in let low = sector_long in omega (arith, whole, low)

  pub there : sector_of (with_zone m 0 (with_root (sector_of m 0) p.address p.len)) 0 ≡ with_root (sector_of m 0) p.address p.len
  there = let all = is.all in let some = some_zone in get_or-set_same m.zones 0 (with_root (sector_of m 0) p.address p.len) [] (omega (arith, all, some))

  elsewhere : (z : ℕ) → (z == 0) ≡ false → sector_of (with_zone m 0 (with_root (sector_of m 0) p.address p.len)) z ≡ sector_of m z
  elsewhere z other = get_or-set_other m.zones 0 z (with_root (sector_of m 0) p.address p.len) [] (λ same. clash (z == 0) (eq-eqb z 0 same) other)

  zone_is : (z : ℕ) → sector_of (with_zone m 0 (with_root (sector_of m 0) p.address p.len)) z ≡ rooted_zone m p.address p.len z
  zone_is z = by (z == 0) refl
    where
      by : (c : Bool) → (z == 0) ≡ c → sector_of first z ≡ cond c now (sector_of m z)
      by true zero' = ap (sector_of first) (eqb-true z 0 zero') ∙ there
      by false other = elsewhere z other

  -- zone 0 keeps its runs
  runs_stay : runs_of (with_zone m 0 (with_root (sector_of m 0) p.address p.len)) 0 ≡ runs_of m 0
  runs_stay =
      ap (runs_read (shape m.geometry 0)) there
      ∙ runs_of_zone (shape m.geometry 0) now (runs_of m 0) (root_kept (shape m.geometry 0) (sector_of m 0) now p.address p.len (runs_of m 0) fits refl (omega arith) (is.right 0 some_zone))

  module _ (m' : Map) (now_is : IsNewMap m') (same : m'.geometry ≡ m.geometry) where
    links_first : KeepsOrWritesLinks (with_zone m 0 (with_root (sector_of m 0) p.address p.len)) m' 0 → KeepsOrWritesLinks m m' 0
    links_first links = record {
      free_link = elim links.free_link [
        | inl stays ↦ inl (stays ∙ ap (λ (xs : List ℕ). slice_range (bits xs) 8 24) there
            ∙ link_same (sector_of m 0) now (root_front (sector_of m 0) p.address p.len fits) (root_back (sector_of m 0) p.address p.len fits) (root_long (sector_of m 0) p.address p.len fits))
        | inr top ↦ inr top
      ];
      fields = each (hole_starts (runs_of m' 0)) links.fields
          (starts_high (shape m'.geometry 0) (bits (sector_of m' 0)) (first_bit 0) (runs_of m' 0) _ (now_is.right 0 (subst (λ (g : Geometry). 0 < g.zones) (sym same) some_zone)).spelled);
    }
      where
        field_is : (at : ℕ) → 512 ≤ at → field_at (shape m.geometry 0) (bits (sector_of first 0)) at ≡ field_at (shape m.geometry 0) (bits (sector_of m 0)) at
        field_is at high =
            ap (λ (xs : List ℕ). field_at (shape m.geometry 0) (bits xs) at) there
            ∙ field_same (sector_of m 0) now (root_front (sector_of m 0) p.address p.len fits) (root_back (sector_of m 0) p.address p.len fits) (root_long (sector_of m 0) p.address p.len fits) (shape m.geometry 0) at high

        each : (ats : List ℕ) → AllByRecursion (λ at. (Contains (hole_starts (runs_of first 0)) at × (field_at (shape m.geometry 0) (bits (sector_of m' 0)) at ≡ field_at (shape m.geometry 0) (bits (sector_of first 0)) at)) ⊎ (field_at (shape m.geometry 0) (bits (sector_of m' 0)) at < 2 ^ 15)) ats
            → AllByRecursion (λ at. first_bit 0 ≤ at) ats
            → AllByRecursion (λ at. (Contains (hole_starts (runs_of m 0)) at × (field_at (shape m.geometry 0) (bits (sector_of m' 0)) at ≡ field_at (shape m.geometry 0) (bits (sector_of m 0)) at)) ⊎ (field_at (shape m.geometry 0) (bits (sector_of m' 0)) at < 2 ^ 15)) ats
        each [] a h = tt
        each (at ∷ ats) a h = (
          elim a.0 [
            | inl was ↦ inl (subst (λ (runs : List Run). Contains (hole_starts runs) at) runs_stay was.0, was.1 ∙ field_is at h.0)
            | inr small ↦ inr small
          ],
          each ats a.1 h.1,
        )

    links_stay : (z : ℕ) → KeepsOrWritesLinks (with_zone m 0 (with_root (sector_of m 0) p.address p.len)) m' z → KeepsOrWritesLinks (with_zone m 0 (with_root (sector_of m 0) p.address p.len)) m' 0 → KeepsOrWritesLinks m m' z
    links_stay z links at_0 = by (z == 0) refl
      where
        by : (c : Bool) → (z == 0) ≡ c → KeepsOrWritesLinks m m' z
        by true zero' = subst (λ (k : ℕ). KeepsOrWritesLinks m m' k) (sym (eqb-true z 0 zero')) (links_first at_0)
        by false other = subst (λ (s : List ℕ). KeepsLinks (shape m.geometry z) (bits s) (bits (sector_of m' z)) (runs_read (shape m.geometry z) s) (runs_of m' z)) (elsewhere z other) links

  -- ---- after the edit of it

  module _ (m' : Map) (image' : List ℕ) (edited : IsMapEdited (rooted_map (Some p) m) m') (copies : HoldsCopies m.geometry m'.zones image') where
    links_now : (z : ℕ) → z < m.geometry.zones → KeepsOrWritesLinks m m' z
    links_now z low = links_stay m' edited.is_map edited.geometry z (edited.links z low) (edited.links 0 some_zone)

    zones_now : (z : ℕ) → z < m.geometry.zones → ZoneSteady m.geometry z (rooted_zone m p.address p.len z) (sector_of m' z)
    zones_now z low = subst (λ (s : List ℕ). ZoneSteady m.geometry z s (sector_of m' z)) (zone_is z) (edited.zones z low)

    pub rooted_after : IsMapRooted m m' image' p.address p.len
    rooted_after = record { is_map = edited.is_map; geometry = edited.geometry; copies = copies; zones = zones_now; links = links_now }

    abbrev place : NewPlace
    place = record { address = p.address; len = p.len; sectors = []; id = 0; parts = [] }

    has_root : (kind : Kind) (r : DiscRecord) (image : List ℕ) (v : Opened) (top : Object) → IsBefore kind r image v m → p.address < 2 ^ 32 → p.len < 2 ^ 32 → CanRoot m p
        → HasRoot r m' (record { address = p.address; len = p.len; sectors = []; id = 0; parts = [] })
    has_root kind r image v top before low short can =
        let o : Object = record top { path = [] } in
        grown_maps_law.root kind r image image' v m m' o place before
        (record {
          is_map = edited.is_map;
          geometry = edited.geometry;
          copies = copies;
          record_is = edited.record_stays ∙ ap map_record there;
          zones = zones_now;
          links = links_now;
        }) refl low short can.right can.size_right

    pub grows_root : (kind : Kind) (r : DiscRecord) (image : List ℕ) (v : Opened) (g : Growing) → IsBefore kind r image v m → g.o.path ≡ [] → g.address ≡ p.address → g.len ≡ p.len → p.address < 2 ^ 32 → p.len < 2 ^ 32
        → CanRoot m p → GrowsRoot m m' g r image'
    grows_root kind r image v g before top address len low short can =
        let root = has_root kind r image v g.o before low short can in
        record {
          at_top = top;
          after = subst (λ (a : ℕ). IsMapRooted m m' image' a g.len) (sym address) (subst (λ (n : ℕ). IsMapRooted m m' image' p.address n) (sym len) rooted_after);
          own = root.own;
          agreed = root.agreed;
          address = root.address ∙ sym address;
          len = root.len ∙ sym len;
        }

-- ---- which of the two

-- If it is the root that grows, the step has its place in the record, which can have it.
pub record IsRootStep (m : Map) (g : Growing) (p : RootPlace) : Type 0 where
  pub top : g.o.path ≡ []
  pub address : g.address ≡ p.address
  pub len : g.len ≡ p.len
  pub low : p.address < 2 ^ 32
  pub short : p.len < 2 ^ 32
  pub can : CanRoot m p

abbrev pub IsStepOf : Map → Growing → Option RootPlace → Type 0
IsStepOf m g None = 0 < length g.o.path
IsStepOf m g (Some p) = IsRootStep m g p

pub map_grows : (m m' : Map) (g : Growing) (root : Option RootPlace) (kind : Kind) (r : DiscRecord) (image image' : List ℕ) (v : Opened) → IsBefore kind r image v m → IsMapEdited (rooted_map root m) m' → IsStepOf m g root
    → HoldsCopies m.geometry m'.zones image' → MapGrows m m' g r image'
map_grows m m' g None kind r image image' v before edited step copies = inl (record { below = step; after = after m m' image' edited copies })
map_grows m m' g (Some p) kind r image image' v before edited step copies =
    inr (grows_root m before.is_map p m' image' edited copies kind r image v g before step.top step.address step.len step.low step.short step.can)
