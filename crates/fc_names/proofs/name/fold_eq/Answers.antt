use Rattle.fc_names.proofs.FoldSame.{is_same-lower}
use Rattle.fc_names.proofs.name.fold_eq.Goals as goal

pub returns : goal.returns
returns c =
    rw (← c.bytes.ensures.same, ← c.bytes-2.ensures.same) (is_same-lower c.bytes.result.now c.bytes-2.result.now c.eq_ignore_ascii_case.result c.eq_ignore_ascii_case.ensures.test)
