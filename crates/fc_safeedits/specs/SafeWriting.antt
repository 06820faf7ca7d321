-- What a change in the safe mode has put on the disk once all of it is there.
use Rattle.std.specs.Prelude.{◌≡◌, ◌≤◌, ◌*◌, ℕ, List, length, Contains}
use Rattle.fc_newmap.specs.Map.{Map}
use Rattle.fc_image.specs.Layout.{bytes_in}
use Rattle.fc_writing.specs.declared.ready.Piece.{Piece}
use Rattle.fc_writing.specs.declared.ready.Ready.{Ready}
use Rattle.fc_writing.specs.declared.ready.Transfer.{Transfer}
use Rattle.fc_writing.specs.Ready.{from_of, place_of, to_of, written_place}
use Rattle.fc_safelaws.specs.Free.{ChangesFree, MappedImage}
use Rattle.fc_safelaws.specs.Relaid.{AreCopied}
use Rattle.fc_safecrash.specs.Crash.{IsThere}

pub record SafeWritingLaw : Type 0 where
  -- a piece, if its sectors are enough
  pub pieces : (x : MappedImage) (r : Ready) (bytes : List ℕ) (n : Map) (image : List ℕ) (p : Piece) → IsThere x r bytes n image → Contains r.early.items p
      → length p.bytes.items ≤ length (place_of p) * x.m.geometry.sector → bytes_in x.m.geometry.sector image (place_of p) (length p.bytes.items) ≡ p.bytes.items
  -- what is carried along
  pub carried : (x : MappedImage) (r : Ready) (bytes : List ℕ) (n : Map) (image : List ℕ) (t : Transfer) → IsThere x r bytes n image → Contains r.carried.items t
      → AreCopied x.m.geometry.sector x.image image (from_of t) (to_of t)
  -- and nothing else beside the map
  pub changes : (x : MappedImage) (r : Ready) (bytes : List ℕ) (n : Map) (image : List ℕ) → IsThere x r bytes n image → ChangesFree x.m.geometry (written_place r) x.image image
