use Rattle.std.proofs.Common.{◌≡◌, [], ◌∷◌}
use Rattle.std.specs.Prelude.{All}
use Rattle.fc_names.specs.Names.{IsName}
use Rattle.fc_commands.proofs.NameLemmas.{last_from}
use Rattle.fc_commands.proofs.name.last_name.Given as goal

-- the last of the names that are left is the path's
abbrev pub invariant-loop-name : goal.invariant-loop-name
invariant-loop-name l = (last_from l.last l.name-iterator ≡ last_from (36 ∷ []) l.path) × IsName (last_from l.last l.name-iterator)
