-- Where the copies of a map lie.
use Rattle.std.specs.Prelude.{◌≡◌, ◌≤◌, ℕ, ◌+◌, ◌*◌, ◌/◌, true}
use Rattle.fc_record.specs.declared.DiscRecord.{DiscRecord}
use Rattle.fc_record.specs.Record.{geometry, is_valid}

-- A valid record's map has a zone, and an image that its disc fits into has the sectors of both copies.
abbrev pub CopiesLaw : Type 0
CopiesLaw = (r : DiscRecord) (bytes : ℕ) → is_valid r ≡ true → r.size ≤ bytes
    → (1 ≤ (geometry r).zones) × ((geometry r).map_sector + 2 * (geometry r).zones ≤ bytes / (geometry r).sector)
