-- Which sectors of a disc are taken, as marks.
use Rattle.std.specs.Prelude.{◌≡◌, ◌<◌, ℕ, ◌/◌, ◌%◌, Bool, not, ◌&&◌, ◌==◌, nat_lt, List, get_or}
use Rattle.std.specs.List.{list_any}
use Rattle.std.specs.Int.{bit_at}
use Rattle.fc_image.specs.Layout.{is_among}

-- a bit for each sector, and how many sectors there are
pub record Marks : Type 0 where
  pub words : List ℕ
  pub sectors : ℕ

-- The sector has a mark.
abbrev pub has_mark : Marks → ℕ → Bool
has_mark m s = nat_lt s m.sectors && (bit_at (get_or m.words (s / 64) 0) (s % 64) == 1)

-- The sectors that have a mark are those of the disc among these.
abbrev pub AreTaken : Marks → List ℕ → Type 0
AreTaken m taken = (s : ℕ) → s < m.sectors → has_mark m s ≡ is_among taken s

-- None of the sectors has a mark.
abbrev pub is_free : Marks → List ℕ → Bool
is_free m sectors = not (list_any (has_mark m) sectors)
