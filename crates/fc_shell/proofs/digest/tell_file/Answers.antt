use Rattle.std.proofs.lemmas.Result.{err_from_is_err_and}
use Rattle.fc_script.specs.Texts.{digest_reply}
use Rattle.fc_volume.specs.Answers.{ref_bytes}
use Rattle.fc_shell.proofs.WritingLemmas.{part_none}
use Rattle.fc_shell.proofs.digest.tell_file.Goals as goal

pub returns-in_err-place-clause-answered : goal.returns-in_err-place-clause-answered
returns-in_err-place-clause-answered g c = λ image told.
    let p = err_from_is_err_and c.from_residual.result c.from_residual.ensures.1 in
    rw p.1 (part_none (g.K.Sink.taken c.args.out.now) (digest_reply (ref_bytes image c.args.volume.now c.args.file.now)))
