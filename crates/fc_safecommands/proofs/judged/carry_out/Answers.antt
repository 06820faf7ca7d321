use Rattle.std.proofs.Common.{sym, subst}
use Rattle.std.specs.Prelude.{Err}
use Rattle.fc_device.proofs.DiskLaws.{laws}
use Rattle.fc_holdings.specs.Holdings.{parts_of}
use Rattle.fc_commands.specs.Judgments.{IsJudgment}
use Rattle.fc_safe.specs.declared.error.SafeError.{SafeError}
use Rattle.fc_safecommands.specs.Promises.{SafeKeeps}
use Rattle.fc_safecommands.proofs.CourseLemmas.{free_kept, tree_kept}
use Rattle.fc_safecommands.proofs.HeldLemmas.{map_in}
use Rattle.fc_safecommands.specs.Answers.{AnswersSafelyOver}
use Rattle.fc_safecommands.proofs.JudgmentLemmas.{judged_kept, judged_refused, judged_short}
use Rattle.fc_safecommands.proofs.judged.carry_out.Goals as goal

-- ---- refused by the tree

pub returns-in-Err-clause-refused : goal.returns-in-Err-clause-refused
returns-in-Err-clause-refused g c = λ cmd read_only j.
    subst (λ (error : SafeError). AnswersSafelyOver {T = Unit {0}} read_only cmd (parts_of c.args.holdings.now) (Err error)) (sym c.safe_error.ensures)
    (judged_refused read_only cmd (parts_of c.args.holdings.now) c.in-Err.error (subst (IsJudgment read_only cmd (parts_of c.args.holdings.now) c.args.bytes.now) c.in-Err.is j))

pub returns-in-Err-clause-tree : goal.returns-in-Err-clause-tree
returns-in-Err-clause-tree g c = λ cmd read_only j. tree_kept g.D.Disk (laws g.met.D.Disk) (parts_of c.args.holdings.now) cmd c.args.disk.now c.requires.settled

pub returns-in-Err-clause-free : goal.returns-in-Err-clause-free
returns-in-Err-clause-free g c =
    let h = parts_of c.args.holdings.now in
    let map = map_in h.layout h.nodes c.requires.suits in free_kept g.D.Disk (laws g.met.D.Disk) h map.0 c.args.disk.now map.1 c.requires.settled

pub returns-in-Err-clause-keeps : goal.returns-in-Err-clause-keeps
returns-in-Err-clause-keeps g c =
    subst (λ (error : SafeError). SafeKeeps g.D.Disk c.args.disk.now c.args.disk.now c.args.holdings.now c.args.holdings.now (Err error)) (sym c.safe_error.ensures)
    (judged_kept g.D.Disk c.args.disk.now c.args.holdings.now c.requires.judged.1 c.requires.judged.0 c.in-Err.error c.requires.stands c.requires.settled c.requires.suits
    (subst (IsJudgment c.requires.judged.1 c.requires.judged.0 (parts_of c.args.holdings.now) c.args.bytes.now) c.in-Err.is c.requires.judged.2))

-- ---- accepted by the tree

pub returns-in-Ok-clause-refused : goal.returns-in-Ok-clause-refused
returns-in-Ok-clause-refused g c = λ cmd read_only j.
    let h = parts_of c.args.holdings.now in
    let is = subst (IsJudgment read_only cmd h c.args.bytes.now) c.in-Ok.is j in judged_short read_only cmd h c.transact.result is.1 (c.transact.ensures.refused cmd is.0)
