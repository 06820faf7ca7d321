-- Maps as they are read: the bytes in which two records differ, the zones of the copy that counts, and old maps.
use Rattle.std.proofs.Common.{◌≡◌, ◌<◌, ◌≤◌, ◌∷◌, ◌+◌, ◌*◌, ◌/◌, ◌⊎◌, inl, inr, ℕ, Bool, true, false, List, [], length, take, drop, drop_of_length-le, get_or, refl, sym, ap, subst, ◌∙◌, arith}
use Rattle.std.specs.Prelude.{Option, Some, None, Result, Ok, Err, IfOk, is_none, slice_index_or}
use Rattle.std.specs.Option.{ForSome}
use Rattle.std.specs.List.{find, zip}
use Rattle.std.proofs.lemmas.List.{drop_more}
use Rattle.fc_device.specs.declared.disk.Disk.{Ghosts}
use Rattle.fc_device.specs.Sectors.{sector_at}
use Rattle.fc_record.specs.declared.DiscRecord.{DiscRecord}
use Rattle.fc_record.specs.declared.Geometry.{Geometry}
use Rattle.fc_record.specs.Record.{geometry, IsRecord}
use Rattle.fc_record.specs.Kinds.{map_record}
use Rattle.fc_record.proofs.MeasureLemmas.{share_valid}
use Rattle.fc_zone.specs.declared.ZoneFault.{ZoneFault}
use Rattle.fc_newmap.specs.declared.MapError.{MapError}
use Rattle.fc_newmap.specs.declared.MapError.TheVariants.{Zone}
use Rattle.fc_newmap.specs.Map.{Map, first_fault, sector_of, zone_numbers, zones_in}
use Rattle.fc_newmap.specs.NewMap.{IsOfRecord, map_in as held_map}
use Rattle.fc_newmap.specs.Loaded.{loaded, unless_fault}
use Rattle.std.proofs.Math.Nat.{le-div_iff_mul-le, div-mul-le_self}
use Rattle.fc_newmap.proofs.GeometryLemmas.{facts_of_valid, geometry_of_valid}
use Rattle.fc_newmap.proofs.HeldLemmas.{geometry_facts, place_fits, sector_is}
use Rattle.fc_image.specs.declared.ImageFault.{ImageFault}
use Rattle.fc_image.specs.Layout.{Layout, disc_sectors, sector_bytes}
use Rattle.fc_image.specs.Walk.{◌>>=◌}
use Rattle.fc_image.specs.Opening.{MapAndRoot, agreement, copy_or, difference, new_layout, zones_or}
use Rattle.fc_newmap.specs.declared.copies.Which.{Which}
use Rattle.fc_newmap.specs.Copies.{chosen, copy_of}
use Rattle.fc_space.specs.Space.{layout_of}
use Rattle.fc_volume.specs.declared.lines.MountError.{MountError}
use Rattle.fc_volume.specs.declared.maps.MapFound.{MapFound}
use Rattle.fc_writing.specs.declared.copies.Copies.{Copies}
use Rattle.fc_writing.specs.declared.copies.Copies.TheVariants.{Chosen}
use Rattle.fc_volume.specs.Answers.{IsFaultOf}
use Rattle.fc_volume.specs.Maps.{FitsDisk, zone_fault, zones_layout}
use Rattle.fc_writing.specs.Copies.{CountsAs}
use Rattle.fc_holdings.specs.Holdings.{CopiesAre, HoldsMap, TellsVersion}
use Rattle.fc_image.proofs.RecordLemmas.{agreed_valid}

-- a search stands at a place
pub found_at : (p : ℕ → Bool) (xs : List ℕ) (i x : ℕ) → i < length xs → find p xs ≡ find p (drop i xs) → x ≡ get_or xs i 0 → p x ≡ true → find p xs ≡ Some x
found_at p xs i x low so_far here passes =
    let more : drop i xs ≡ get_or xs i 0 ∷ drop (i + 1) xs = drop_more xs i 0 low in
    so_far ∙ rw (more, ← here, passes) refl

pub not_at : (p : ℕ → Bool) (xs : List ℕ) (i x : ℕ) → i < length xs → find p xs ≡ find p (drop i xs) → x ≡ get_or xs i 0 → p x ≡ false → find p xs ≡ find p (drop (i + 1) xs)
not_at p xs i x low so_far here fails =
    let more : drop i xs ≡ get_or xs i 0 ∷ drop (i + 1) xs = drop_more xs i 0 low in
    so_far ∙ rw (more, ← here, fails) refl

pub nowhere : (p : ℕ → Bool) (xs : List ℕ) (i : ℕ) → length xs ≤ i → find p xs ≡ find p (drop i xs) → find p xs ≡ None
nowhere p xs i high so_far = so_far ∙ ap (find p) (drop_of_length-le xs {i = i} high)

-- ---- the zones of a copy

pub of_record : (r : DiscRecord) → IsRecord r → IsOfRecord (geometry r)
of_record r is = (r, (ap is_none is.valid, refl, share_valid r is))

-- the first zone's sector stands at the front
pub first_zone : (g : Geometry) (bytes : List ℕ) → IsOfRecord g → length bytes ≡ g.zones * g.sector → take g.sector bytes ≡ slice_index_or (zones_in g bytes) 0 []
unfolding sector_at
first_zone g bytes of_g whole =
    let f = geometry_facts g of_g in
    let e : 0 * g.sector ≡ 0 = omega arith in
    sym (sector_is g bytes 0 whole (let z = f.zones in omega arith) ∙ ap (λ (n : ℕ). take g.sector (drop n bytes)) e)

pub first_zone_fits : (g : Geometry) (bytes : List ℕ) → IsOfRecord g → length bytes ≡ g.zones * g.sector → (g.sector ≤ length bytes) × (256 ≤ g.sector)
first_zone_fits g bytes of_g whole =
    let f = geometry_facts g of_g in
    let z = f.zones in
    let low = place_fits 0 g.zones g.sector (omega arith) in
    (omega arith, least f.size)
  where
    least : (g.sector ≡ 256) ⊎ ((g.sector ≡ 512) ⊎ (g.sector ≡ 1024)) → 256 ≤ g.sector
    least (inl a) = omega arith
    least (inr (inl b)) = omega arith
    least (inr (inr d)) = omega arith

-- the map that is loaded is that of the zones
pub held_same : (g : Geometry) (bytes : List ℕ) (m : Map) → loaded g bytes ≡ Ok m → m ≡ held_map g bytes
held_same g bytes m e = by (first_fault g (zip (zone_numbers g) (zones_in g bytes))) e
  where
    by : (fault : Option ZoneFault) → unless_fault (held_map g bytes) fault ≡ Ok m → m ≡ held_map g bytes
    by None h = sym (cc)
    by (Some f) h = absurd (cc)

-- the copy that was chosen counts, and has the map's zones
pub counted : (copies : Copies) (layout : Layout) (which : Which) (m : Map) (image : List ℕ) → copies ≡ Chosen which → layout ≡ Layout.New m → CountsAs m which image → CopiesAre copies layout image
counted copies layout which m image c l is = subst (λ (k : Copies). CopiesAre k layout image) (sym c) (subst (λ (n : Layout). CopiesAre (Chosen which) n image) (sym l) is)

module _ (r : DiscRecord) (zones : List (List ℕ)) (sector : List ℕ) (first : sector ≡ slice_index_or zones 0 []) where
  pub own_fault : (fault : ImageFault) → agreement r (map_record sector) (difference r (map_record sector)) ≡ Err fault → zones_layout r zones ≡ Err fault
  own_fault fault e =
      let here : agreement r (map_record (slice_index_or zones 0 [])) (difference r (map_record (slice_index_or zones 0 []))) ≡ Err fault =
      subst (λ (s : List ℕ). agreement r (map_record s) (difference r (map_record s)) ≡ Err fault) first e in
      rw here refl

  abbrev then_zones : DiscRecord → Result Map ImageFault → Result MapAndRoot ImageFault
  then_zones own there = there >>= (λ m. let x : MapAndRoot = (Layout.New m, own.root, own.root_size) in Ok x)

  own_right : (own : DiscRecord) → agreement r (map_record sector) (difference r (map_record sector)) ≡ Ok own
      → zones_layout r zones ≡ then_zones own (zones_or (geometry r) zones (first_fault (geometry r) (zip (zone_numbers (geometry r)) zones)))
  own_right own e =
      let here : agreement r (map_record (slice_index_or zones 0 [])) (difference r (map_record (slice_index_or zones 0 []))) ≡ Ok own =
      subst (λ (s : List ℕ). agreement r (map_record s) (difference r (map_record s)) ≡ Ok own) first e in
      rw here refl

  loaded_as : (m : Map) (fault : Option ZoneFault) (held : Map) → unless_fault held fault ≡ Ok m → (fault ≡ None) × (held ≡ m)
  loaded_as m None held e = (refl, cc)
  loaded_as m (Some f) held e = absurd (cc)

  loaded_not : (own : DiscRecord) (wrong : MapError) (fault : Option ZoneFault) (held : Map) → unless_fault held fault ≡ Err wrong
      → then_zones own (zones_or held.geometry held.zones fault) ≡ Err (zone_fault wrong)
  loaded_not own wrong None held e = absurd (cc)
  loaded_not own wrong (Some f) held e =
      let same : Zone f ≡ wrong = cc in
      ap (λ (w : MapError). let x : Result MapAndRoot ImageFault = Err (zone_fault w) in x) same

  pub map_right : (own : DiscRecord) (m : Map) → agreement r (map_record sector) (difference r (map_record sector)) ≡ Ok own
      → unless_fault (record { geometry = geometry r; zones = zones }) (first_fault (geometry r) (zip (zone_numbers (geometry r)) zones)) ≡ Ok m
      → (zones_layout r zones ≡ Ok (Layout.New m, own.root, own.root_size)) × (m.geometry ≡ geometry r)
  map_right own m e l =
      let is = loaded_as m (first_fault (geometry r) (zip (zone_numbers (geometry r)) zones)) (record { geometry = geometry r; zones = zones }) l in (
        own_right own e ∙ ap (λ (f : Option ZoneFault). then_zones own (zones_or (geometry r) zones f)) is.0
            ∙ ap (λ (n : Map). let x : Result MapAndRoot ImageFault = Ok (Layout.New n, own.root, own.root_size) in x) is.1,
        sym (ap (λ (n : Map). n.geometry) is.1),
      )

  -- A map whose own record agrees with the disc's tells its version.
  pub tells : (own : DiscRecord) (m : Map) → IsRecord r → m.geometry ≡ geometry r → sector_of m 0 ≡ slice_index_or zones 0 [] → agreement r (map_record sector) (difference r (map_record sector)) ≡ Ok own
      → TellsVersion (Layout.New m)
  tells own m is same at e =
      let s = map_record (sector_of m 0) in
      let here : agreement r s (difference r s) ≡ Ok own = subst (λ (t : List ℕ). agreement r (map_record t) (difference r (map_record t)) ≡ Ok own) (first ∙ sym at) e in
      ap (λ (x : DiscRecord). x.version) (agreed_valid r s own is.from_raw refl is.valid here).same ∙ sym (ap (λ (g : Geometry). g.version) same)

  pub zone_wrong : (own : DiscRecord) (wrong : MapError) → agreement r (map_record sector) (difference r (map_record sector)) ≡ Ok own
      → unless_fault (record { geometry = geometry r; zones = zones }) (first_fault (geometry r) (zip (zone_numbers (geometry r)) zones)) ≡ Err wrong
      → zones_layout r zones ≡ Err (zone_fault wrong)
  zone_wrong own wrong e l =
      own_right own e ∙ loaded_not own wrong (first_fault (geometry r) (zip (zone_numbers (geometry r)) zones)) (record { geometry = geometry r; zones = zones }) l

-- ---- on the disk

pub fits_disk : {D : Type 0} (d : Ghosts D) (disk : D) (result : Result MapFound MountError) → IfOk result (λ found. sector_bytes (layout_of found.space) ≡ d.sector_size disk)
    → IfOk result (λ found. disc_sectors (layout_of found.space) ≤ d.sectors disk) → IfOk result (λ found. HoldsMap (layout_of found.space) (d.sectors disk))
    → IfOk result (λ found. TellsVersion (layout_of found.space)) → IfOk result (λ found. ForSome (d.bytes disk) (CopiesAre found.copies (layout_of found.space))) → IfOk result (λ found. FitsDisk d found disk)
fits_disk d disk (Ok found) size room map_room version copies = record { size = size; room = room; map_room = map_room; version = version; copies = copies }
fits_disk d disk (Err error) size room map_room version copies = tt

pub new_room : (r : DiscRecord) (long size sectors : ℕ) → IsRecord r → size ≡ (geometry r).sector → sectors ≡ long / size → r.size ≤ long
    → ((geometry r).map_sector + 2 * (geometry r).zones ≤ sectors) × ((geometry r).disc_bits * (geometry r).bit_bytes / (geometry r).sector ≤ sectors)
new_room r long size sectors is wide whole fits =
    let g = geometry r in
    let facts = facts_of_valid r (ap is_none is.valid) in
    let of : sectors ≡ long / g.sector = whole ∙ ap (λ (n : ℕ). long / n) wide in
    let some = (geometry_of_valid r (ap is_none is.valid)).some in
    let ends = facts.fits in
    let copies : g.map_sector + 2 * g.zones ≤ long / g.sector = (le-div_iff_mul-le some).1 (omega (arith, ends, fits)) in
    let bits = div-mul-le_self r.size g.bit_bytes in
    let bytes = div-mul-le_self (g.disc_bits * g.bit_bytes) g.sector in
    let disc : g.disc_bits * g.bit_bytes / g.sector ≤ long / g.sector = (le-div_iff_mul-le some).1 (omega (arith, bits, bytes, fits)) in
    (omega (arith, copies, of), omega (arith, disc, of))

-- ---- new maps

pub new_is : (image : List ℕ) (r : DiscRecord) (which : Which) (zones : List (List ℕ)) → chosen (geometry r) image ≡ Ok which → zones ≡ copy_of (geometry r) which image
    → new_layout image r ≡ zones_layout r zones
new_is image r which zones choice same = rw (choice, same) refl

pub no_copy : (image : List ℕ) (r : DiscRecord) (e : MountError) → IsFaultOf (copy_or (chosen (geometry r) image)) e → IsFaultOf (new_layout image r) e
no_copy image r (MountError.Image fault) is = rw is refl
no_copy image r MountError.DiskFault is = tt
no_copy image r MountError.NoMemory is = tt
