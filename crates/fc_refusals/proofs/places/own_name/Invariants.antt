use Rattle.std.proofs.Common.{◌≡◌, option_map}
use Rattle.fc_refusals.specs.Places.{own_name}
use Rattle.fc_refusals.proofs.WalkLemmas.{last_from}
use Rattle.fc_refusals.proofs.places.own_name.Given as goal

-- the last of the names that are left is the path's
abbrev pub invariant-loop-name : goal.invariant-loop-name
invariant-loop-name l = last_from (option_map (λ name. name.now) l.last) l.name-iterator ≡ own_name l.path
