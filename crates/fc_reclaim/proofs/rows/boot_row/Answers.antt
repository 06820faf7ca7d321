use Rattle.std.proofs.Common.{◌/◌, ap, ap₂, ◌∙◌}
use Rattle.std.specs.List.{range_with_len}
use Rattle.std.specs.Int.{div_ceil}
use Rattle.fc_reclaim.proofs.RowLemmas.{no_boot, some_boot}
use Rattle.fc_reclaim.proofs.rows.boot_row.Goals as goal

pub returns-then-not-boot-clause-sectors : goal.returns-then-not-boot-clause-sectors
returns-then-not-boot-clause-sectors c = no_boot c.args.g.now.sector c.args.boot c.if-not-boot.true

pub returns-clause-sectors : goal.returns-clause-sectors
returns-clause-sectors c =
    ap₂ range_with_len (ap (λ k. 0xC00 / k) c.from-sector.ensures) (c.div_ceil.ensures ∙ ap (div_ceil 512) c.from-sector.ensures)
    ∙ some_boot c.args.g.now.sector c.args.boot c.if-not-boot.false
