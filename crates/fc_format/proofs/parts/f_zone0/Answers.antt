use Rattle.std.proofs.Common.{⊎_elim, ap, sym, ◌∙◌, arith}
use Rattle.fc_format.specs.Fresh.{f_record, f_zone0, plus_record}
use Rattle.fc_format.proofs.ZoneLemmas.{are_bytes}
use Rattle.fc_format.proofs.LaidLemmas.{sealed_same, shape_0, bytes_f0, bytes_f0+, laid_f0, laid_f0+, target_f0, target_f0+, start0}
use Rattle.fc_format.proofs.parts.f_zone0.Goals as goal

pub returns : goal.returns
returns c =
    ⊎_elim
    (λ e. sealed_same shape_0 (start0 f_record) _ c.lay_out.new.b target_f0 _ _ (omega arith) (c.with_record-zone.ensures ∙ ap start0 e) c.lay_out.ensures.laid laid_f0 c.lay_out.ensures.bytes (are_bytes target_f0 bytes_f0) c.seal.ensures.sector ∙ sym (ap f_zone0 e))
    (λ e. sealed_same shape_0 (start0 (plus_record f_record)) _ c.lay_out.new.b target_f0+ _ _ (omega arith) (c.with_record-zone.ensures ∙ ap start0 e) c.lay_out.ensures.laid laid_f0+ c.lay_out.ensures.bytes (are_bytes target_f0+ bytes_f0+) c.seal.ensures.sector ∙ sym (ap f_zone0 e)) c.requires
