use Rattle.std.proofs.Common.{◌%◌, get_or, arith}
use Rattle.std.proofs.lemmas.List.{get_or_default}
use Rattle.std.proofs.lemmas.List.Edits.{map_over_more}
use Rattle.fc_smalldir.proofs.entry.without_tops.Goals as goal

pub loop-c-preserved : goal.loop-c-preserved
loop-c-preserved c =
    let i = c.loop-c.c-index in
    let items = c.loop-c.c-items in
    map_over_more (λ b. b % 128) c.args.field.now items i (get_or items i 0) (omega arith) c.loop-c.invariant (get_or_default items i 0 (get_or items i 0) (omega arith))
