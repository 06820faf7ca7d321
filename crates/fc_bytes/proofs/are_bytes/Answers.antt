use Rattle.std.proofs.Common.{arith}
use Rattle.fc_bytes.proofs.are_bytes.Goals as goal

pub returns : goal.returns
returns c = λ i. omega (arith, c.type_inv.b i)
