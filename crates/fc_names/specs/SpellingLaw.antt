-- A name or a path that is spelled is read back.
use Rattle.std.specs.Prelude.{◌≡◌, ℕ, List, Some}
use Rattle.std.specs.List.{All}
use Rattle.fc_names.specs.Names.{Path, IsName}
use Rattle.fc_names.specs.Paths.{name_of, path_of, spelled_name, spelled_path}

pub record SpellingLaw : Type 0 where
  pub name : (name : List ℕ) → IsName name → name_of (spelled_name name) ≡ Some name
  pub path : (path : Path) → All IsName path → path_of (spelled_path path) ≡ Some path
