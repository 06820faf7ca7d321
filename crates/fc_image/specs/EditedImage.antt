-- An image opens after an edit of its directories and its map.
use Rattle.std.specs.Prelude.{◌≡◌, ℕ, true, false, List, length, Ok, IsPermutation}
use Rattle.fc_record.specs.declared.DiscRecord.{DiscRecord}
use Rattle.fc_record.specs.declared.Kind.{Kind}
use Rattle.fc_record.specs.Kinds.{map_record}
use Rattle.fc_newmap.specs.Map.{Map, IsMap, sector_of, id_runs, is_used}
use Rattle.fc_newmap.specs.Copies.{Chooses}
use Rattle.fc_image.specs.Layout.{Layout}
use Rattle.fc_image.specs.Walk.{Object, Listing, reader_of, walk}
use Rattle.fc_image.specs.Objects.{objects_of, is_movable}
use Rattle.fc_image.specs.Opening.{Opened, map_and_root, agreement, difference, reserved_in, boot_place}
use Rattle.fc_image.specs.Stays.{IsNewKind, OpensAs, HasSectorsOf}

-- an opened image's map, the root in its record, and the walk from that root
pub record HasMap (image : List ℕ) (kind : Kind) (r : DiscRecord) (v : Opened) (m : Map) : Type 0 where
  pub own : DiscRecord
  pub agreed : agreement r (map_record (sector_of m 0)) (difference r (map_record (sector_of m 0))) ≡ Ok own
  pub found : map_and_root image kind ≡ Ok (Layout.New m, own.root, own.root_size)
  pub walked : walk (reader_of image (Layout.New m)) (Layout.New m) (reserved_in kind (Layout.New m)) own.root own.root_size ≡ Ok v.listings

-- The other image has the map m' and the same boot block, and the record in m' agrees with the kind's. Each used identifier that
-- isn't movable keeps its runs, and none of the new objects makes it movable.
pub record IsNextMap (kind : Kind) (r : DiscRecord) (v : Opened) (m m' : Map) (objects' : List Object) (image image' : List ℕ) (own : DiscRecord) : Type 0 where
  pub geometry_stays : m'.geometry ≡ m.geometry
  pub is_map : IsMap m'
  pub chosen_map : Chooses m.geometry m'.zones image'
  pub agreed : agreement r (map_record (sector_of m' 0)) (difference r (map_record (sector_of m' 0))) ≡ Ok own
  pub length_stays : length image' ≡ length image
  pub boot_stays : HasSectorsOf m.geometry.sector (boot_place kind m.geometry.sector) image image'
  pub fixed : (k : ℕ) → is_movable (objects_of v.listings) k ≡ false → is_used m k ≡ true → (id_runs m' k ≡ id_runs m k) × (is_movable objects' k ≡ false)

pub record EditedImageLaw : Type 0 where
  -- of an opened image
  pub map : (image : List ℕ) (kind : Kind) (r : DiscRecord) (v : Opened) (m : Map) → IsNewKind kind r → OpensAs image kind v → v.layout ≡ Layout.New m → HasMap image kind r v m
  -- The other image opens, and its listings are those of the walk from the root in the new map's record.
  pub opens : (image image' : List ℕ) (kind : Kind) (r own : DiscRecord) (v : Opened) (m m' : Map) (found : List Listing) (objects' : List Object) → IsNewKind kind r
      → OpensAs image kind v → v.layout ≡ Layout.New m → IsPermutation (objects_of found) objects' → IsNextMap kind r v m m' objects' image image' own
      → walk (reader_of image' (Layout.New m')) (Layout.New m') (reserved_in kind (Layout.New m')) own.root own.root_size ≡ Ok found
      → OpensAs image' kind (record { kind = kind; layout = Layout.New m'; listings = found })
