use Rattle.std.proofs.Common.{◌≡◌, ◌++◌, take, length}
use Rattle.std.specs.List.{All, flat_map}
use Rattle.fc_names.specs.Names.{IsName}
use Rattle.fc_names.specs.Paths.{spelled_path}
use Rattle.fc_names.proofs.SpellingLemmas.{spelled_part}
use Rattle.fc_names.proofs.spelling.push_path.Given as goal

-- with the names that are left it is the whole path
abbrev pub invariant-loop-name : goal.invariant-loop-name
invariant-loop-name l =
    (l.into.items ++ flat_map spelled_part l.name-iterator ≡ l.fn.into.items ++ spelled_path l.fn.path)
    × All IsName l.name-iterator
    × (take (length l.fn.into.items) l.into.items ≡ l.fn.into.items)
