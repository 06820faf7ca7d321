-- The names of what is open.
use Rattle.std.specs.Prelude.{◌≡◌, ℕ, List, Option, Some, Contains}
use Rattle.fc_device.specs.Asked.{Asked}

-- What is open has this name, if something is.
abbrev pub IsNamed : Option (List ℕ) → List ℕ → Type 0
IsNamed named name = (other : List ℕ) → named ≡ Some other → other ≡ name

-- It has a name that was asked for, as it is there or as a fresh image.
abbrev pub WasAsked : Option (List ℕ) → List Asked → Type 0
WasAsked named asks = (name : List ℕ) → named ≡ Some name → (blank : Option ℕ) × Contains asks (name, blank)
