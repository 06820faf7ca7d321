use Rattle.std.proofs.Common.{Bool, List, ℕ, sym, subst}
use Rattle.std.specs.Prelude.{Err, Ok, Result}
use Rattle.fc_device.proofs.DiskLaws.{laws}
use Rattle.fc_model.specs.Command.{Command}
use Rattle.fc_holdings.specs.declared.error.CommandError.{CommandError}
use Rattle.fc_holdings.specs.Holdings.{parts_of}
use Rattle.fc_commands.proofs.ChangeLemmas.{nothing_written}
use Rattle.fc_commands.specs.declared.judged.Judged.{Judged}
use Rattle.fc_commands.specs.Judgments.{IsJudgment}
use Rattle.fc_commands.proofs.JudgmentLemmas.{judged_kept, judged_refused, judged_short, leaves_command, leaves_none}
use Rattle.fc_commands.proofs.judged.carry_out.Goals as goal

-- ---- refused by the tree

pub returns-in-Err-clause-refused : goal.returns-in-Err-clause-refused
returns-in-Err-clause-refused g c = λ cmd read_only j.
    judged_refused read_only cmd (parts_of c.args.holdings.now) c.in-Err.error (subst (IsJudgment read_only cmd (parts_of c.args.holdings.now) c.args.bytes.now) c.in-Err.is j)

pub returns-in-Err-clause-places : goal.returns-in-Err-clause-places
returns-in-Err-clause-places g c = λ cmd read_only j. nothing_written g.D.Disk (laws g.met.D.Disk) (parts_of c.args.holdings.now) cmd c.args.disk.now c.is_map.ensures c.requires.settled

pub returns-in-Err-clause-leaves : goal.returns-in-Err-clause-leaves
returns-in-Err-clause-leaves g c = λ cmd read_only j. leaves_none g.D.Disk (laws g.met.D.Disk) cmd c.args.disk.now c.args.holdings.now c.requires.stands c.requires.settled

pub returns-in-Err-clause-keeps : goal.returns-in-Err-clause-keeps
returns-in-Err-clause-keeps g c =
    judged_kept g.D.Disk c.args.disk.now c.args.holdings.now c.requires.judged.1 c.requires.judged.0 c.in-Err.error c.requires.stands c.requires.settled
    (subst (IsJudgment c.requires.judged.1 c.requires.judged.0 (parts_of c.args.holdings.now) c.args.bytes.now) c.in-Err.is c.requires.judged.2)

-- ---- accepted by the tree

pub returns-in-Ok-clause-refused : goal.returns-in-Ok-clause-refused
returns-in-Ok-clause-refused g c = λ cmd read_only j.
    let h = parts_of c.args.holdings.now in
    let is = subst (IsJudgment read_only cmd h c.args.bytes.now) c.in-Ok.is j in judged_short read_only cmd h c.change.result is.1 (c.change.ensures.refused cmd is.0)

pub returns-in-Ok-clause-leaves : goal.returns-in-Ok-clause-leaves
returns-in-Ok-clause-leaves g c = λ cmd read_only j.
    let h = parts_of c.args.holdings.now in
    let is = subst (IsJudgment read_only cmd h c.args.bytes.now) c.in-Ok.is j in
    leaves_command g.D.Disk (laws g.met.D.Disk) cmd c.args.disk.now c.change.new.disk h _ _ c.args.bytes.now is.0 c.change.ensures.leaves
