use Rattle.std.proofs.Common.{◌≡◌}
use Rattle.fc_model.specs.Answer.{is_above}
use Rattle.fc_refusals.proofs.AboveLemmas.{stands_above}
use Rattle.fc_refusals.proofs.places.is_above.Given as goal

-- the names that are left decide
abbrev pub invariant-loop-name : goal.invariant-loop-name
invariant-loop-name l = stands_above l.name-iterator l.rest ≡ is_above l.above l.path
