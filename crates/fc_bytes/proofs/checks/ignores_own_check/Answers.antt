use Rattle.std.proofs.Common.{◌%◌, ◌^◌, ap}
use Rattle.fc_bytes.specs.Words.{words}
use Rattle.fc_bytes.specs.Checks.{byte_xor, carry_sum}
use Rattle.fc_bytes.proofs.WordLemmas.{slice_set-again}
use Rattle.fc_bytes.proofs.checks.ignores_own_check.Goals as goal

pub returns : goal.returns
returns c sector check = ap (λ bytes. byte_xor (carry_sum (2 ^ 32) 0 (words bytes) % 2 ^ 32)) (slice_set-again sector check 0)
