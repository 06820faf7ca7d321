-- What compaction writes on a disc with an old map, one step after another: the objects, the directories, the map.
use Rattle.std.specs.Prelude.{◌≡◌, ℕ, false, List, [], length, Contains}
use Rattle.fc_device.specs.Sectors.{sector_at}
use Rattle.fc_record.specs.declared.Kind.{Kind}
use Rattle.fc_image.specs.Layout.{Layout, is_among, sector_bytes}
use Rattle.fc_image.specs.Walk.{Listing, object_bytes}
use Rattle.fc_image.specs.Objects.{objects_of}
use Rattle.fc_image.specs.Opening.{Opened}
use Rattle.fc_image.specs.Report.{holder_address}
use Rattle.fc_image.specs.effects.Moves.{SquashedBytes}
use Rattle.fc_image.specs.effects.Steady.{AreWritten}
use Rattle.fc_changes.specs.old.Owed.{IsBefore, IsMapAfter, IsWritten}
use Rattle.fc_oldlaws.specs.moves.After.{IsSlide, Slide, form_of, is_steady, listing_after, listings_after, move_of, object_after, space_after}

-- Something changes in the directory.
abbrev pub IsChanged : Slide → List Listing → Listing → Type 0
IsChanged s listings l = is_steady (form_of s) (move_of s) (holder_address listings l.object.path) l.content ≡ false

-- Each directory in which something changes is written where it lies then, and nothing else is.
pub record AreRewritten (s : Slide) (listings : List Listing) (image image' : List ℕ) : Type 0 where
  pub length_stays : length image' ≡ length image
  pub written : (l : Listing) → Contains listings l → IsChanged s listings l
      → AreWritten (object_bytes image' (Layout.Old (space_after s)) (object_after s l.object)) (listing_after s listings l).content
  pub others : (t : ℕ) → ((l : Listing) → Contains listings l → IsChanged s listings l → is_among (object_after s l.object).sectors t ≡ false)
      → sector_at (sector_bytes (Layout.Old s.space)) image' t ≡ sector_at (sector_bytes (Layout.Old s.space)) image t

-- The image opens with the map. First all objects slid down, then the directories were written, and then the map.
pub record IsCompactedInSteps (kind : Kind) (image slid rewritten image' : List ℕ) (v : Opened) (s : Slide) : Type 0 where
  pub before : IsBefore kind image v s.space
  pub slide : IsSlide s (objects_of v.listings)
  pub bytes : SquashedBytes image slid s.space s.was s.now
  pub directories : AreRewritten s v.listings slid rewritten
  pub map_only : IsWritten s.space [] rewritten image'
  pub map : IsMapAfter s.space s.holes rewritten image'

-- what the image opens as afterwards
abbrev pub opened_after : Slide → Opened → Opened
opened_after s v = record { kind = v.kind; layout = Layout.Old (space_after s); listings = listings_after s v.listings }
