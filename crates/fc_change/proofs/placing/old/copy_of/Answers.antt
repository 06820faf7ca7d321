use Rattle.std.proofs.Common.{replicate, sym, ◌∙◌, arith}
use Rattle.fc_change.proofs.OldCopyLemmas.{copied, never_err, same_ok}
use Rattle.fc_change.proofs.placing.old.copy_of.Goals as goal

pub unreachable-requires : goal.unreachable-requires
unreachable-requires c =
    let is = copied c.reads_back.ensures c.args.map.now (replicate 512 0) c.put_le24.new.b c.write.new.b c.disc_units.result c.sector_units.result (omega arith) c.holes.ensures.map c.requires c.disc_units.ensures
    c.put_le24.ensures.bytes c.put_le24.auto.b c.write.ensures c.sector_units.ensures.value in
    never_err c.args.map.now c.in-Err.field-0 (sym is ∙ sym c.read.ensures ∙ c.in-Err.is)

pub returns : goal.returns
returns c =
    let is = copied c.reads_back.ensures c.args.map.now (replicate 512 0) c.put_le24.new.b c.write.new.b c.disc_units.result c.sector_units.result (omega arith) c.holes.ensures.map c.requires c.disc_units.ensures
    c.put_le24.ensures.bytes c.put_le24.auto.b c.write.ensures c.sector_units.ensures.value in
    same_ok c.in-Ok.copy c.args.map.now (sym c.in-Ok.is ∙ c.read.ensures ∙ is)
