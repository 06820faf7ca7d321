-- What an image opens as, with the first fault. An image is accepted exactly if this is Ok.
use Rattle.std.specs.Prelude.{◌≡◌, ℕ, ◌/◌, ◌%◌, Bool, true, not, ◌==◌, nat_lt, List, [], ◌∷◌, ◌++◌, length, filter, slice_index, slice_index_or, if◌then◌else◌, Option, Some, None, Result, Ok, Err, min}
use Rattle.std.specs.List.{range_with_len, find}
use Rattle.std.specs.Int.{div_ceil}
use Rattle.fc_record.specs.declared.DiscRecord.{DiscRecord}
use Rattle.fc_record.specs.declared.Geometry.{Geometry}
use Rattle.fc_record.specs.declared.Kind.{Kind}
use Rattle.fc_record.specs.declared.Kind.TheVariants.{Boot, OneZone, DiscD, DiscL}
use Rattle.fc_record.specs.Record.{geometry, is_root_right, is_root_size_right}
use Rattle.fc_record.specs.Kinds.{kind_of, disc_size, map_record, fits_kind}
use Rattle.fc_zone.specs.declared.ZoneFault.{ZoneFault}
use Rattle.fc_zone.specs.declared.RunKind.{RunKind}
use Rattle.fc_zone.specs.declared.RunKind.TheVariants as kinds
use Rattle.fc_oldmap.specs.OldMap.{free_space, hole_fault}
use Rattle.fc_newmap.specs.Map.{Map, first_fault, zone_numbers, all_runs, sectors_of, map_sectors}
use Rattle.fc_newmap.specs.declared.copies.Which.{Which}
use Rattle.fc_newmap.specs.Copies.{chosen, copy_of}
use Rattle.std.specs.List.{zip}
use Rattle.fc_image.specs.declared.ImageFault.{ImageFault}
use Rattle.fc_image.specs.declared.ImageFault.TheVariants as faults
use Rattle.fc_image.specs.Layout.{Layout, hole_sectors, map_place, is_among}
use Rattle.fc_image.specs.Walk.{Listing, Object, ◌>>=◌, reader_of, walk}
use Rattle.fc_image.specs.Objects.{objects_of, is_movable}

-- an image that opens: its kind, its layout, and what its directories say
pub record Opened : Type 0 where
  pub kind : Kind
  pub layout : Layout
  pub listings : List Listing

-- ---- the map

-- the bytes of the two records that have to agree
abbrev pub compared_offsets : List ℕ
compared_offsets = 0 ∷ 4 ∷ 5 ∷ 9 ∷ 10 ∷ 11 ∷ 16 ∷ 17 ∷ 18 ∷ 19 ∷ 36 ∷ 37 ∷ 38 ∷ 39 ∷ 40 ∷ 42 ∷ 44 ∷ 45 ∷ 46 ∷ 47 ∷ []

-- a byte of a record as it is compared: of byte 40 only the low four bits
abbrev pub byte_compared : DiscRecord → ℕ → ℕ
byte_compared r at = if at == 40 then slice_index r.raw at % 16 else slice_index r.raw at

-- the first byte in which the records differ
abbrev pub difference : DiscRecord → DiscRecord → Option ℕ
difference r s = find (λ at. not (byte_compared r at == byte_compared s at)) compared_offsets

-- the map's own record, if it agrees with the kind's and has a right root
abbrev pub agreement : DiscRecord → DiscRecord → Option ℕ → Result DiscRecord ImageFault
agreement r s (Some at) = Err (faults.Differs at)
agreement r s None =
    if not (is_root_right s) then Err (faults.Bad 12)
    else if not (is_root_size_right s) then Err (faults.Bad 48)
    else Ok s

-- the map of these zones, unless one is faulty
abbrev pub zones_or : Geometry → List (List ℕ) → Option ZoneFault → Result Map ImageFault
zones_or g zones (Some fault) = Err (faults.Zone fault.zone fault.bit)
zones_or g zones None = Ok (record { geometry = g; zones = zones })

-- the copy that counts, or the fault of both
abbrev pub copy_or : Result Which (ℕ × ℕ) → Result Which ImageFault
copy_or (Ok which) = Ok which
copy_or (Err wrong) = Err (faults.Copies wrong.0 wrong.1)

-- a layout, the root's address, and the size of a big root; the last means nothing in other forms
abbrev pub MapAndRoot : Type 0
MapAndRoot = Layout × ℕ × ℕ

-- The kind's record says where the map is; root and root size are those of the map's own record.
abbrev pub new_layout : List ℕ → DiscRecord → Result MapAndRoot ImageFault
new_layout image r = do
  which ← copy_or (chosen (geometry r) image)
  let zones : List (List ℕ) = copy_of (geometry r) which image
  own ← agreement r (map_record (slice_index_or zones 0 [])) (difference r (map_record (slice_index_or zones 0 [])))
  m ← zones_or (geometry r) zones (first_fault (geometry r) (zip (zone_numbers (geometry r)) zones))
  Ok (Layout.New m, own.root, own.root_size)

-- what was found, unless a hole is wrong
abbrev pub holes_or : MapAndRoot → Option ℕ → Result MapAndRoot ImageFault
holes_or found None = Ok found
holes_or found (Some index) = Err (faults.Hole index)

-- the layout of an old map, with the root at its fixed place
abbrev pub old_layout : List ℕ → ℕ → ℕ → Result MapAndRoot ImageFault
old_layout image sector_units root =
    holes_or (Layout.Old (free_space image sector_units), root, 0) (hole_fault image sector_units)

-- the map and the root of an image, as a disc of the kind
abbrev pub map_and_root : List ℕ → Kind → Result MapAndRoot ImageFault
map_and_root image (Boot r) = new_layout image r
map_and_root image (OneZone r) = new_layout image r
map_and_root image DiscD = old_layout image 4 4
map_and_root image (DiscL units) = old_layout image 1 2

-- ---- what no object may take

-- the sectors of the bytes from &C00 to &DFF, if there is a boot block
abbrev pub boot_place : Kind → ℕ → List ℕ
boot_place (Boot r) sector = range_with_len (0xC00 / sector) (div_ceil 512 sector)
boot_place (OneZone r) sector = []
boot_place DiscD sector = []
boot_place (DiscL units) sector = []

-- what no object may take: the map, and a boot block or an old map's holes
abbrev pub reserved_in : Kind → Layout → List ℕ
reserved_in kind (Layout.Old space) = map_place (Layout.Old space) ++ hole_sectors (Layout.Old space)
reserved_in kind (Layout.New m) = map_place (Layout.New m) ++ boot_place kind m.geometry.sector

-- a hole, or a run of an identifier that may move
abbrev pub is_hole_or_movable : List Object → RunKind → Bool
is_hole_or_movable objects kinds.Hole = true
is_hole_or_movable objects (kinds.Id id) = is_movable objects id

-- the lesser number
abbrev pub least_or : ℕ → Option ℕ → ℕ
least_or n None = n
least_or n (Some m) = min n m

-- the least number of a list
abbrev pub least_of : List ℕ → Option ℕ
least_of [] = None
least_of (n ∷ ns) = Some (least_or n (least_of ns))

-- the first sector of the map or of a boot block that compaction or an object might come to take, or that is of both
abbrev pub misplaced_sector : Kind → Layout → List Object → Option ℕ
misplaced_sector kind (Layout.Old space) objects = None
misplaced_sector kind (Layout.New m) objects =
    let misplaced = sectors_of m.geometry (filter (λ p. is_hole_or_movable objects p.1.kind) (all_runs m)) in
    least_of (filter (is_among misplaced) (reserved_in kind (Layout.New m)) ++ filter (is_among (map_sectors m.geometry)) (boot_place kind m.geometry.sector))

-- what was opened, unless a sector of the map is misplaced
abbrev pub unless_misplaced : Opened → Option ℕ → Result Opened ImageFault
unless_misplaced v None = Ok v
unless_misplaced v (Some sector) = Err (faults.MapPlace sector)

-- ---- opening

-- what an image opens as, if it passes the test of the kind and is long enough
abbrev pub open_parts : List ℕ → Kind → Result Opened ImageFault
open_parts image kind = do
  found ← map_and_root image kind
  listings ← walk (reader_of image found.0) found.0 (reserved_in kind found.0) found.1 found.2
  unless_misplaced (record { kind = kind; layout = found.0; listings = listings }) (misplaced_sector kind found.0 (objects_of listings))

-- the image as a disc of this kind, of which it has to pass the test
unfoldable pub open_as : List ℕ → Kind → Result Opened ImageFault
open_as image kind =
    if not (fits_kind image kind) then Err faults.NoKind
    else if nat_lt (length image) (disc_size kind) then Err (faults.Short (disc_size kind) (length image)) else open_parts image kind

-- the image as a disc of the kind, if it has one
abbrev pub open_as_some : List ℕ → Option Kind → Result Opened ImageFault
open_as_some image None = Err faults.NoKind
open_as_some image (Some kind) = open_as image kind

-- the image as a disc of its kind
unfoldable pub open_image : List ℕ → Result Opened ImageFault
open_image image = open_as_some image (kind_of image)

-- The image opens as a disc of its kind.
abbrev pub IsAccepted : List ℕ → Type 0
IsAccepted image = (v : Opened) × (open_image image ≡ Ok v)
