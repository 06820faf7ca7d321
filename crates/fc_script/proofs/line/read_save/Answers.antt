use Rattle.std.proofs.Common.{sym}
use Rattle.std.proofs.lemmas.Result.{err_from_is_err_and}
use Rattle.fc_script.proofs.LineLemmas.{save_fails, save_reads}
use Rattle.fc_script.proofs.line.read_save.Goals as goal

pub returns-in_err-path : goal.returns-in_err-path
returns-in_err-path c =
    let words = c.in-Some-Some-Some in
    let p = err_from_is_err_and c.from_residual.result c.from_residual.ensures.1 in
    rw (p.1, p.2) (save_fails c.args.path.now words.load words.exec _ _ _ _ _ (sym words.ensures) (sym words.ensures') words.ensures''.0 words.ensures''.1 c.in_err-path.ensures)

pub returns-in_err-bytes : goal.returns-in_err-bytes
returns-in_err-bytes c =
    let words = c.in-Some-Some-Some in
    let p = err_from_is_err_and c.from_residual-in_err-bytes.result c.from_residual-in_err-bytes.ensures.1 in
    rw (p.1, p.2) (save_reads c.args.path.now words.load words.exec _ _ _ _ c.in_ok-path.path (sym words.ensures) (sym words.ensures') words.ensures''.0 words.ensures''.1 c.in_ok-path.ensures)
