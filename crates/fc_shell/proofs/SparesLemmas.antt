-- What a command spares, by the sectors that it may write.
use Rattle.std.proofs.Common.{◌≡◌, ◌<◌, ◌≤◌, ◌||◌, ◌&&◌, not, ℕ, Bool, true, false, List, [], ◌∷◌, ◌++◌, Ok, Err, refl, sym, subst, arith}
use Rattle.std.specs.Prelude.{◌==◌, Contains, cond, filter}
use Rattle.std.specs.List.{flat_map, range_with_len}
use Rattle.std.proofs.lemmas.Bool.{eqb-true, false_from_ne_true as unless, not-true as flip}
use Rattle.std.proofs.lemmas.List.Elements.{All-nil}
use Rattle.fc_device.specs.Sectors.{sector_at}
use Rattle.fc_record.specs.declared.Kind.{Kind}
use Rattle.fc_record.specs.declared.Kind.TheVariants.{Boot, OneZone, DiscD, DiscL}
use Rattle.fc_newmap.specs.Map.{Map, all_runs, map_sectors, sectors_of}
use Rattle.fc_newmap.proofs.PlaceLemmas.{in_either, in_front}
use Rattle.fc_model.specs.Command.{Command}
use Rattle.fc_image.specs.Layout.{Layout, disc_sectors, hole_sectors, is_among, is_apart, map_place, sector_bytes}
use Rattle.fc_image.specs.Objects.{objects_of}
use Rattle.fc_image.specs.Opening.{Opened, boot_place, reserved_in}
use Rattle.fc_image.specs.Report.{is_lost_sector}
use Rattle.fc_image.specs.Stays.{OpensAs}
use Rattle.fc_image.specs.Walk.{Object, is_directory_object, reader_of}
use Rattle.fc_image.specs.effects.Steady.{SameSectors, is_idle, may_be_rewritten}
use Rattle.fc_image.proofs.HolesLemmas.{Each-contains, Each-objects, Lies, apart_at, none_loose, open_map, walk_lies}
use Rattle.fc_image.proofs.PathsLemmas.{opened_walk}
use Rattle.fc_tree.specs.Parts.{ArePartsOf, Parts}
use Rattle.fc_commands.specs.Promises.{MayWrite, WritesPlaces, WritesPlacesOf}
use Rattle.fc_runs.specs.Space.{SparesSpace}
use Rattle.fc_runs.specs.Spares.{Spares, idle_in}
use Rattle.fc_volume.proofs.CompactedLemmas.{all_among}
use Rattle.fc_tree.proofs.IndexLemmas.{both_ways as clash}

-- ---- lists of sectors

neither : (xs ys : List ℕ) (s : ℕ) → is_among xs s ≡ false → is_among ys s ≡ false → is_among (xs ++ ys) s ≡ false
neither xs ys s p q = unless (is_among (xs ++ ys) s) (λ h. elim (in_either xs ys s h) [
  | Ok first ↦ clash (is_among xs s) first p
  | Err second ↦ clash (is_among ys s) second q
])

-- A sector of a filtered list passes the test.
passes : (t : ℕ → Bool) (xs : List ℕ) (s : ℕ) → is_among (filter t xs) s ≡ true → t s ≡ true
passes t [] s h = absurd (cc)
passes t (x ∷ xs) s h = by (t x) refl h (passes t xs s)
  where
    here : (c : Bool) → (x == s) ≡ c → t x ≡ true → (c || is_among (filter t xs) s) ≡ true → (is_among (filter t xs) s ≡ true → t s ≡ true) → t s ≡ true
    here true e is i more = subst (λ (n : ℕ). t n ≡ true) (eqb-true x s e) is
    here false e is i more = more i

    by : (b : Bool) → t x ≡ b → is_among (cond b (x ∷ filter t xs) (filter t xs)) s ≡ true → (is_among (filter t xs) s ≡ true → t s ≡ true) → t s ≡ true
    by true is i more = here (x == s) refl is i more
    by false is i more = more i

-- ---- the map

reserved_map : (kind : Kind) (l : Layout) (s : ℕ) → is_among (map_place l) s ≡ true → is_among (reserved_in kind l) s ≡ true
reserved_map kind (Layout.New m) s h = in_front (map_place (Layout.New m)) (boot_place kind m.geometry.sector) s h
reserved_map kind (Layout.Old space) s h = in_front (map_place (Layout.Old space)) (hole_sectors (Layout.Old space)) s h

-- No sector of the map is lost, or of identifier 1.
idle_off_map : (l : Layout) (v : Opened) (s : ℕ) → is_among (idle_in l v) s ≡ true → is_among (map_place l) s ≡ false
idle_off_map (Layout.New m) v s h =
    flip (is_among (map_place (Layout.New m)) s)
    (passes (λ s. not (is_among (map_place (Layout.New m)) s)) (sectors_of m.geometry (filter (λ p. is_idle (objects_of v.listings) p.1.kind) (all_runs m))) s h)
idle_off_map (Layout.Old space) v s h =
    off (is_among (hole_sectors (Layout.Old space)) s) (is_among (map_place (Layout.Old space)) s) (is_among (flat_map (λ (o : Object). o.sectors) (objects_of v.listings)) s)
    (passes (is_lost_sector (Layout.Old space) (objects_of v.listings)) (range_with_len 0 (disc_sectors (Layout.Old space))) s h)
  where
    off : (hole map object : Bool) → (not hole && not map && not object) ≡ true → map ≡ false
    off false false object e = refl
    off false true object e = absurd (cc)
    off true map object e = absurd (cc)

-- ---- what may be written

-- what new maps and old ones say alike of it
record AreSpared (l : Layout) (v : Opened) (c : Command) (sectors : List ℕ) : Type 0 where
  pub files : (o : Object) → Contains (objects_of v.listings) o → is_directory_object o ≡ false → is_apart o.sectors sectors ≡ true
  pub dirs : (o : Object) → Contains (objects_of v.listings) o → may_be_rewritten v c o.path ≡ false → is_apart o.sectors sectors ≡ true
  pub idle : is_apart (idle_in l v) sectors ≡ true
  pub inside : (s : ℕ) → is_among sectors s ≡ true → s < disc_sectors l

are_spared : (l : Layout) (kind : Kind) (v : Opened) (c : Command) (sectors : List ℕ) → MayWrite l kind v c sectors → AreSpared l v c sectors
are_spared (Layout.New m) kind v c sectors may = record { files = may.files; dirs = may.dirs; idle = may.idle; inside = may.inside }
are_spared (Layout.Old space) kind v c sectors may = record { files = may.1.files; dirs = may.1.dirs; idle = may.1.lost; inside = may.1.inside }

module _ (v : Opened) (c : Command) (was image : List ℕ) where
  -- the boot block, which only a new map has
  boot_stays : (kind : Kind) → OpensAs was kind v → WritesPlaces v.layout kind v c was image → SameSectors (sector_bytes v.layout) (boot_place kind (sector_bytes v.layout)) was image
  boot_stays (OneZone r) opens w = All-nil _
  boot_stays DiscD opens w = All-nil _
  boot_stays (DiscL units) opens w = All-nil _
  boot_stays (Boot r) opens w =
      let o = open_map was (Boot r) r v refl opens in
      by o.0 (none_loose (map_sectors o.0.geometry) (boot_place (Boot r) o.0.geometry.sector) o.1.apart) (subst (λ (l : Layout). WritesPlaces l (Boot r) v c was image) o.1.layout w) (sym o.1.layout)
    where
      by : (m : Map) → ((s : ℕ) → is_among (boot_place (Boot r) m.geometry.sector) s ≡ true → is_among (map_sectors m.geometry) s ≡ false) → WritesPlaces (Layout.New m) (Boot r) v c was image
          → Layout.New m ≡ v.layout → SameSectors (sector_bytes v.layout) (boot_place (Boot r) (sector_bytes v.layout)) was image
      by m off w at =
          subst (λ (l : Layout). SameSectors (sector_bytes l) (boot_place (Boot r) (sector_bytes l)) was image) at
          (all_among (λ s. sector_at m.geometry.sector image s ≡ sector_at m.geometry.sector was s) (boot_place (Boot r) m.geometry.sector)
          (λ s i. w.only.outside s (neither w.sectors (map_place (Layout.New m)) s (apart_at (boot_place (Boot r) m.geometry.sector) w.sectors s w.may.boot i) (off s i))))

  pub spares : (kind : Kind) → OpensAs was kind v → WritesPlaces v.layout kind v c was image → SparesSpace v.layout v c was image → Spares kind v c was image
  spares kind opens w space =
      let are = are_spared v.layout kind v c w.sectors w.may in
      record {
        length_stays = w.only.length_stays;
        files = λ o at file. object_stays o at (are.files o at file);
        directories = λ o at stays. object_stays o at (are.dirs o at stays);
        boot = boot_stays kind opens w;
        lost = all_among same (idle_in v.layout v) (λ s i. stays s (apart_at (idle_in v.layout v) w.sectors s are.idle i) (idle_off_map v.layout v s i));
        behind = λ s past out. stays s (unless (is_among w.sectors s) (λ i. never (disc_sectors v.layout) s past (are.inside s i))) out;
        space = space;
      }
    where
      same : ℕ → Type 0
      same s = sector_at (sector_bytes v.layout) image s ≡ sector_at (sector_bytes v.layout) was s

      stays : (s : ℕ) → is_among w.sectors s ≡ false → is_among (map_place v.layout) s ≡ false → same s
      stays s a b = w.only.outside s (neither w.sectors (map_place v.layout) s a b)

      never : (end s : ℕ) → end ≤ s → s < end → ⊥
      never end s past low = omega (arith, past, low)

      off_map : (o : Object) → Contains (objects_of v.listings) o → (s : ℕ) → is_among o.sectors s ≡ true → is_among (map_place v.layout) s ≡ false
      off_map o at s i =
          let walk_of = opened_walk was kind v opens in
          let reserved = reserved_in kind v.layout in
          let lies = Each-contains (Lies v.layout reserved) (objects_of v.listings) o
          (Each-objects (Lies v.layout reserved) v.listings (walk_lies (reader_of was v.layout) v.layout reserved walk_of.address walk_of.size v.listings walk_of.walked)) at in
          unless (is_among (map_place v.layout) s) (λ h. clash (is_among reserved s) (reserved_map kind v.layout s h) (apart_at o.sectors reserved s lies.apart i))

      object_stays : (o : Object) → Contains (objects_of v.listings) o → is_apart o.sectors w.sectors ≡ true → SameSectors (sector_bytes v.layout) o.sectors was image
      object_stays o at apart = all_among same o.sectors (λ s i. stays s (apart_at o.sectors w.sectors s apart i) (off_map o at s i))

-- What a call leaves that writes only such places.
pub spares_of : (h : Parts) (kind : Kind) (v : Opened) (c : Command) (was image : List ℕ) → OpensAs was kind v → ArePartsOf h v → WritesPlacesOf c h was image
    → SparesSpace v.layout v c was image → Spares kind v c was image
spares_of h kind v c was image opens parts writes space =
    spares v c was image kind opens (subst (λ (l : Layout). WritesPlaces l kind v c was image) parts.layout (writes kind v opens parts)) space
