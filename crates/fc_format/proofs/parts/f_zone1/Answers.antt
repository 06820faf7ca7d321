use Rattle.std.proofs.Common.{refl, arith}
use Rattle.fc_format.specs.Fresh.{zeros}
use Rattle.fc_format.proofs.ZoneLemmas.{are_bytes}
use Rattle.fc_format.proofs.LaidLemmas.{sealed_same, shape_1, bytes_f1, laid_f1, target_f1}
use Rattle.fc_format.proofs.parts.f_zone1.Goals as goal

pub returns : goal.returns
returns c =
    sealed_same shape_1 (zeros 1024) _ c.lay_out.new.b target_f1 _ _ (omega arith) (refl) c.lay_out.ensures.laid laid_f1 c.lay_out.ensures.bytes (are_bytes target_f1 bytes_f1) c.seal.ensures.sector
