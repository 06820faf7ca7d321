use Rattle.std.proofs.Common.{length}
use Rattle.fc_names.proofs.SpellingLemmas.{IsRead}
use Rattle.fc_names.proofs.spelling.spelled_bytes.Given as goal

abbrev pub invariant-loop-rest : goal.invariant-loop-rest
invariant-loop-rest l = IsRead l.fn.text l.bytes.items l.rest

abbrev pub decreases-loop-rest : goal.decreases-loop-rest
decreases-loop-rest l = length l.rest
