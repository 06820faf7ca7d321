use Rattle.std.proofs.lemmas.Result.{err_from_is_err_and}
use Rattle.fc_bigdir.proofs.FaultLemmas.{frame_first}
use Rattle.fc_bigdir.proofs.big.BigDir.read.Goals as goal

pub returns-in_err-read_frame-clause-err : goal.returns-in_err-read_frame-clause-err
returns-in_err-read_frame-clause-err c =
    let p = err_from_is_err_and c.from_residual.result c.from_residual.ensures.1 in
    rw (p.1, p.2) (frame_first c.args.b.now c.in_err-read_frame.field-0.0 c.in_err-read_frame.ensures.fault)
