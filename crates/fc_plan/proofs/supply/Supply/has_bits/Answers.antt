use Rattle.std.proofs.Common.{ap, nat_le, ◌∙◌}
use Rattle.fc_newmap.specs.Map.{bits_in}
use Rattle.fc_plan.specs.Supply.{Stock}
use Rattle.fc_plan.proofs.supply.Supply.has_bits.Goals as goal

pub returns : goal.returns
returns c = c.have_bits.ensures ∙ ap (λ (s : Stock). nat_le c.args.bits (bits_in s.holes)) c.self.view_is
