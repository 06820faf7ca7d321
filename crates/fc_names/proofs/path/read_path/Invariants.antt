use Rattle.std.proofs.Common.{◌+◌, length}
use Rattle.std.specs.Option.{option_map, option_map_or}
use Rattle.fc_names.proofs.PathLemmas.{AreRead}
use Rattle.fc_names.proofs.path.read_path.Given as goal

abbrev pub invariant-loop-rest : goal.invariant-loop-rest
invariant-loop-rest l = AreRead l.fn.text (option_map (λ after. after.now) l.rest) l.full l.path

abbrev pub decreases-loop-rest : goal.decreases-loop-rest
decreases-loop-rest l = option_map_or (λ after. length after.now + 1) l.rest 0
