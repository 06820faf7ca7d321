-- Maps of images, as they are read.
use Rattle.std.specs.Prelude.{◌≡◌, ◌≤◌, ◌&&◌, ◌==◌, ℕ, IsTrue, List, [], slice_index_or, Result, Ok, Err}
use Rattle.std.specs.List.{zip}
use Rattle.std.specs.Option.{ForSome}
use Rattle.fc_device.specs.declared.disk.Disk.{Ghosts}
use Rattle.fc_bytes.specs.Words.{bytes_at}
use Rattle.fc_record.specs.declared.DiscRecord.{DiscRecord}
use Rattle.fc_record.specs.Record.{geometry}
use Rattle.fc_record.specs.Kinds.{is_old_map, map_record, old_units}
use Rattle.fc_newmap.specs.declared.MapError.{MapError}
use Rattle.fc_newmap.specs.declared.MapError.TheVariants.{Zone}
use Rattle.fc_newmap.specs.Map.{first_fault, zone_numbers}
use Rattle.fc_image.specs.declared.ImageFault.{ImageFault}
use Rattle.fc_image.specs.declared.ImageFault.TheVariants as faults
use Rattle.fc_image.specs.Layout.{Layout, disc_sectors, sector_bytes}
use Rattle.fc_image.specs.Walk.{◌>>=◌}
use Rattle.fc_image.specs.Opening.{MapAndRoot, agreement, difference, zones_or}
use Rattle.fc_space.specs.Space.{layout_of}
use Rattle.fc_holdings.specs.Holdings.{CopiesAre, HoldsMap, TellsVersion}
use Rattle.fc_volume.specs.declared.maps.MapFound.{MapFound}

-- what was found
abbrev pub found_of : MapFound → MapAndRoot
found_of f = (layout_of f.space, f.root, f.root_size)

-- What was found fits the disk: it has the disc's sectors, as many as the disc and its map take at least; the map's record tells the
-- disc's version; and if the disk tells its bytes, the copies are as they are known to be.
pub record FitsDisk {D : Type 0} (d : Ghosts D) (found : MapFound) (disk : D) : Type 0 where
  pub size : sector_bytes (layout_of found.space) ≡ d.sector_size disk
  pub room : disc_sectors (layout_of found.space) ≤ d.sectors disk
  pub map_room : HoldsMap (layout_of found.space) (d.sectors disk)
  pub version : TellsVersion (layout_of found.space)
  pub copies : ForSome (d.bytes disk) (CopiesAre found.copies (layout_of found.space))

-- The image has an old map and so many units, and these bytes begin as it does.
abbrev pub HasOldMap : List ℕ → ℕ → List ℕ → Type 0
HasOldMap image units bytes = IsTrue (is_old_map image && (old_units image == units)) × (bytes_at bytes 0 512 ≡ bytes_at image 0 512)

-- what the zones of the copy that counts give
abbrev pub zones_layout : DiscRecord → List (List ℕ) → Result MapAndRoot ImageFault
zones_layout r zones = do
  own ← agreement r (map_record (slice_index_or zones 0 [])) (difference r (map_record (slice_index_or zones 0 [])))
  m ← zones_or (geometry r) zones (first_fault (geometry r) (zip (zone_numbers (geometry r)) zones))
  Ok (Layout.New m, own.root, own.root_size)

-- a zone's fault as the image's
abbrev pub zone_fault : MapError → ImageFault
zone_fault (Zone fault) = faults.Zone fault.zone fault.bit

-- the map that was found, or the first fault
abbrev pub Finds : Result MapAndRoot ImageFault → Result MapFound ImageFault → Type 0
Finds there (Ok found) = there ≡ Ok (found_of found)
Finds there (Err fault) = there ≡ Err fault
