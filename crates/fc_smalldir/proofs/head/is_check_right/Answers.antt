use Rattle.std.proofs.Common.{◌==◌, slice_index, ap, ◌∙◌}
use Rattle.fc_smalldir.proofs.HeadLemmas.{check_compared}
use Rattle.fc_smalldir.proofs.head.is_check_right.Goals as goal

pub returns-in-Bytes2048 : goal.returns-in-Bytes2048
returns-in-Bytes2048 c =
    ap (λ n. slice_index c.args.b.now 2047 == n) c.small_dir_check.ensures
    ∙ check_compared c.args.form c.args.b.now c.args.count c.in-Bytes2048.is c.requires.count
