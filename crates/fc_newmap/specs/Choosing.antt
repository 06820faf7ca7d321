-- What is answered of the two copies.
use Rattle.std.specs.Prelude.{◌≡◌, ℕ, List, slice_index, if◌then◌else◌, Option, Some, None, Result, Ok, Err}
use Rattle.fc_record.specs.declared.Geometry.{Geometry}
use Rattle.fc_newmap.specs.declared.copies.CopyError.{CopyError}
use Rattle.fc_newmap.specs.declared.copies.CopyError.TheVariants.{BothBad, DiskFault}
use Rattle.fc_newmap.specs.declared.copies.Which.{Which}
use Rattle.fc_newmap.specs.Copies.{chosen, is_check_right, is_sound, unsound_zone}

-- The copy that was chosen, or where each of the two is wrong. A disk's fault says nothing.
abbrev pub Answers : Geometry → List ℕ → Result Which CopyError → Type 0
Answers g image (Ok w) = chosen g image ≡ Ok w
Answers g image (Err (BothBad c1 c2)) = chosen g image ≡ Err (c1, c2)
Answers g image (Err DiskFault) = Unit {0}

-- where a copy is wrong, if it is
abbrev pub copy_fault : List (List ℕ) → Option ℕ
copy_fault zones = if is_sound zones then None else Some (unsound_zone zones)

-- the CrossCheck of a zone with a right ZoneCheck
abbrev pub cross_if_right : List ℕ → Option ℕ
cross_if_right sector = if is_check_right sector then Some (slice_index sector 3) else None
