-- How a path is kept: the bytes of its names, each with a byte 0 after it.
use Rattle.std.specs.Prelude.{◌≡◌, ℕ, ◌==◌, Bool, List, [], ◌∷◌, ◌++◌, if◌then◌else◌}
use Rattle.std.specs.List.{All, flat_map}
use Rattle.fc_names.specs.Names.{Path, IsName}

-- the byte after a name
abbrev pub is_end : ℕ → Bool
is_end c = c == 0

-- the names in bytes, of which the first begins with other bytes
abbrev pub names_after : List ℕ → List ℕ → Path
names_after before [] = []
names_after before (c ∷ bytes) = if c == 0 then before ∷ names_after [] bytes else names_after (before ++ c ∷ []) bytes

abbrev pub names_in : List ℕ → Path
names_in bytes = names_after [] bytes

abbrev pub packed : Path → List ℕ
packed path = flat_map (λ name. name ++ 0 ∷ []) path

-- The bytes are those of names, with nothing else.
pub record IsPacked (bytes : List ℕ) : Type 0 where
  pub names : All IsName (names_in bytes)
  pub whole : packed (names_in bytes) ≡ bytes
