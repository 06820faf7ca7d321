-- Where the bytes of a name stand: in the value or in memory.
use Rattle.std.specs.Prelude.{ℕ, ◌≤◌, List, take}
use Rattle.fc_names.specs.Names.{IsName}
use Rattle.fc_names.specs.declared.name.Place.{Place}
use Rattle.fc_names.specs.declared.name.Place.TheVariants.{Inline, Memory}

-- the bytes of the name
abbrev pub name_at : Place → List ℕ
name_at (Inline len bytes) = take len bytes
name_at (Memory bytes) = bytes.items

-- a place that has all bytes of a name
abbrev pub IsPlace : Place → Type 0
IsPlace (Inline len bytes) = (len ≤ 30) × IsName (take len bytes)
IsPlace (Memory bytes) = IsName bytes.items
