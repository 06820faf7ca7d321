-- What of a change that is ready is written beside the map.
use Rattle.std.specs.Prelude.{◌≡◌, ◌<◌, ◌≤◌, ℕ, true, List, [], ◌++◌, length, All}
use Rattle.std.specs.List.{flat_map}
use Rattle.fc_objects.specs.Extents.{sectors_in}
use Rattle.fc_objects.specs.Written.{AreApart}
use Rattle.fc_image.specs.Layout.{is_apart}
use Rattle.fc_writing.specs.declared.ready.Piece.{Piece}
use Rattle.fc_writing.specs.declared.ready.Ready.{Ready}
use Rattle.fc_writing.specs.declared.ready.Source.{Source}
use Rattle.fc_writing.specs.declared.ready.Source.TheVariants as from
use Rattle.fc_writing.specs.declared.ready.Transfer.{Transfer}
use Rattle.fc_writing.specs.Content.{Content, copied, stored}

-- ---- one after another

-- the sectors of a piece, and what it writes into them
abbrev pub place_of : Piece → List ℕ
place_of p = sectors_in p.place.items

abbrev pub content_of : ℕ → Piece → Content
content_of size p = stored size (place_of p) p.bytes.items

-- the sectors that are copied, those that they are copied to, and what these get, by the image before
abbrev pub from_of : Transfer → List ℕ
from_of t = sectors_in t.from.items

abbrev pub to_of : Transfer → List ℕ
to_of t = sectors_in t.to.items

abbrev pub carried_by : ℕ → List ℕ → Transfer → Content
carried_by size was t = copied size was (from_of t) (to_of t)

-- There is a sector to copy for each that is written.
abbrev pub IsEnough : Transfer → Type 0
IsEnough t = length (to_of t) ≤ length (from_of t)

-- ---- the new object

abbrev pub source_place : Source → List ℕ
source_place from.Nothing = []
source_place (from.Bytes place) = sectors_in place.items
source_place (from.Sectors t) = to_of t

abbrev pub source_from : Source → List ℕ
source_from from.Nothing = []
source_from (from.Bytes place) = []
source_from (from.Sectors t) = from_of t

-- what it gets, by the image before and the bytes that are given
abbrev pub source_content : ℕ → List ℕ → List ℕ → Source → Content
source_content size was bytes from.Nothing = []
source_content size was bytes (from.Bytes place) = stored size (sectors_in place.items) bytes
source_content size was bytes (from.Sectors t) = carried_by size was t

abbrev pub IsSourceEnough : Source → Type 0
IsSourceEnough from.Nothing = Unit {0}
IsSourceEnough (from.Bytes place) = Unit {0}
IsSourceEnough (from.Sectors t) = IsEnough t

-- ---- all that is written before the map's first step, and all that is written after it

abbrev pub early_place : Ready → List ℕ
early_place r = source_place r.source ++ (flat_map to_of r.carried.items ++ flat_map place_of r.early.items)

abbrev pub early_content : ℕ → List ℕ → List ℕ → Ready → Content
early_content size was bytes r = source_content size was bytes r.source ++ (flat_map (carried_by size was) r.carried.items ++ flat_map (content_of size) r.early.items)

abbrev pub late_place : Ready → List ℕ
late_place r = flat_map place_of r.late.items

abbrev pub late_content : ℕ → Ready → Content
late_content size r = flat_map (content_of size) r.late.items

abbrev pub all_content : ℕ → List ℕ → List ℕ → Ready → Content
all_content size was bytes r = early_content size was bytes r ++ late_content size r

-- the sectors that are written, and those that are copied
abbrev pub written_place : Ready → List ℕ
written_place r = early_place r ++ late_place r

abbrev pub copied_place : Ready → List ℕ
copied_place r = source_from r.source ++ flat_map from_of r.carried.items

-- ---- what can be written

-- On a disk of n sectors, of which these hold the map: each sector is written once, and nothing is copied from a sector that is written.
pub record CanPut (n : ℕ) (mapped : List ℕ) (r : Ready) : Type 0 where
  pub on_disk : All (λ s. s < n) (written_place r)
  pub from_disk : All (λ s. s < n) (copied_place r)
  pub once : AreApart (written_place r)
  pub beside : is_apart (written_place r) mapped ≡ true
  pub others : is_apart (copied_place r) (written_place r) ≡ true
  pub unmapped : is_apart (copied_place r) mapped ≡ true
  pub source_enough : IsSourceEnough r.source
  pub enough : All IsEnough r.carried.items
