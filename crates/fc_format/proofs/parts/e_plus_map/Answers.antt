use Rattle.std.proofs.Common.{ap, ◌∙◌, arith}
use Rattle.fc_format.specs.Fresh.{e_record, plus_record}
use Rattle.fc_format.proofs.ZoneLemmas.{are_bytes}
use Rattle.fc_format.proofs.LaidLemmas.{sealed_same, one_zone, bytes_e+, laid_e+, target_e+, start0}
use Rattle.fc_format.proofs.parts.e_plus_map.Goals as goal

pub returns : goal.returns
returns c =
    sealed_same one_zone (start0 (plus_record e_record)) _ c.lay_out.new.b target_e+ _ _ (omega arith) (c.with_record-zone.ensures ∙ ap start0 (c.with_big_root.ensures ∙ ap plus_record c.e_record.ensures)) c.lay_out.ensures.laid laid_e+ c.lay_out.ensures.bytes (are_bytes target_e+ bytes_e+) c.seal.ensures.sector
