use Rattle.std.proofs.Common.{refl, arith}
use Rattle.fc_format.specs.Fresh.{zeros}
use Rattle.fc_format.proofs.ZoneLemmas.{are_bytes}
use Rattle.fc_format.proofs.LaidLemmas.{sealed_same, shape_2, bytes_f2+, laid_f2+, target_f2+}
use Rattle.fc_format.proofs.parts.f_plus_zone2.Goals as goal

pub returns : goal.returns
returns c =
    sealed_same shape_2 (zeros 1024) _ c.lay_out.new.b target_f2+ _ _ (omega arith) (refl) c.lay_out.ensures.laid laid_f2+ c.lay_out.ensures.bytes (are_bytes target_f2+ bytes_f2+) c.seal.ensures.sector
