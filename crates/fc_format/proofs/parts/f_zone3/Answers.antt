use Rattle.std.proofs.Common.{refl, arith}
use Rattle.fc_format.specs.Fresh.{zeros}
use Rattle.fc_format.proofs.ZoneLemmas.{are_bytes}
use Rattle.fc_format.proofs.LaidLemmas.{sealed_same, shape_3, bytes_f3, laid_f3, target_f3}
use Rattle.fc_format.proofs.parts.f_zone3.Goals as goal

pub returns : goal.returns
returns c =
    sealed_same shape_3 (zeros 1024) _ c.lay_out.new.b target_f3 _ _ (omega arith) (refl) c.lay_out.ensures.laid laid_f3 c.lay_out.ensures.bytes (are_bytes target_f3 bytes_f3) c.seal.ensures.sector
