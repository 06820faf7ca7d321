-- What holds of checks.
use Rattle.std.specs.Prelude.{◌≡◌, ℕ, List, slice_set}
use Rattle.fc_bytes.specs.Checks.{zone_check}

-- a zone's check doesn't read the byte in which it stands
abbrev pub IgnoresOwnCheck : Type 0
IgnoresOwnCheck = (sector : List ℕ) (check : ℕ) → zone_check (slice_set sector 0 check) ≡ zone_check sector
