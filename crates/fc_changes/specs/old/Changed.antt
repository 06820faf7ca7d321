-- What each command's calls leave on a disc with an old map, and that the command then does what it promises.
use Rattle.std.specs.Prelude.{◌≡◌, ◌⊎◌, ◌<◌, ℕ, if◌then◌else◌, Some}
use Rattle.fc_oldmap.specs.Holes.{first_fit_place}
use Rattle.fc_oldmap.specs.OldMap.{OldMapContent}
use Rattle.fc_image.specs.Walk.{Object}
use Rattle.fc_image.specs.effects.Short.{old_need}

-- ---- where a new object lies

-- An object of n bytes, some, lies at the front of the first hole that is long enough.
abbrev pub IsFirstFitted : OldMapContent → ℕ → Object → Type 0
IsFirstFitted space n o = (0 < n) × (first_fit_place (old_need space n) space.holes ≡ Some o.entry.address)

-- A file of n bytes lies so, and one of no bytes has address 0.
abbrev pub IsFileAt : OldMapContent → ℕ → Object → Type 0
IsFileAt space n o = IsFirstFitted space n o ⊎ ((n ≡ 0) × (o.entry.address ≡ 0))
