use Rattle.std.proofs.Common.{◌≡◌, List, ℕ, length, replicate, sym, subst, ◌∙◌, arith}
use Rattle.std.proofs.lemmas.List.{length-replicate}
use Rattle.fc_device.proofs.DiskLaws.{laws}
use Rattle.fc_device.proofs.StopLemmas.{keeps_weaker}
use Rattle.fc_device.specs.Calls.{StopsAndExitsLeave}
use Rattle.fc_model.specs.Command.{Command}
use Rattle.fc_holdings.specs.Holdings.{parts_of}
use Rattle.fc_commands.specs.Given.{as_held, filled}
use Rattle.fc_commands.specs.Promises.{WritesPlacesOf}
use Rattle.fc_commands.proofs.ChangeLemmas.{nothing_written}
use Rattle.fc_commands.proofs.FilledLemmas.{filled_long}
use Rattle.fc_commands.proofs.GivenJobLemmas.{given_same}
use Rattle.fc_commands.proofs.JudgmentLemmas.{judged_refused, judged_short, leaves_command, leaves_none, no_fault, ok_both, ok_then}
use Rattle.fc_commands.proofs.commands.save_from.save_from.Given.{Over}
use Rattle.fc_commands.proofs.commands.save_from.save_from.Goals as goal
use Rattle.fc_commands.proofs.commands.save_from.save_from.Goals.{After-change_from}

-- ---- refused by the tree

pub returns-in-Err-clause-refused : goal.returns-in-Err-clause-refused
returns-in-Err-clause-refused g c = λ bytes long.
    judged_refused c.args.read_only (Command.Save c.args.path.now c.args.words.load c.args.words.exec bytes) (parts_of c.args.holdings.now) c.in-Err.error (c.in-Err.ensures.saved bytes long)

pub returns-in-Err-clause-places : goal.returns-in-Err-clause-places
returns-in-Err-clause-places g c = nothing_written g.D.Disk (laws g.met.D.Disk) (parts_of c.args.holdings.now) _ c.args.disk.now c.is_map.ensures c.requires.settled

pub returns-in-Err-clause-leaves : goal.returns-in-Err-clause-leaves
returns-in-Err-clause-leaves g c = leaves_none g.D.Disk (laws g.met.D.Disk) _ c.args.disk.now c.args.holdings.now c.requires.stands c.requires.settled

pub returns-in-Err-clause-stopped : goal.returns-in-Err-clause-stopped
returns-in-Err-clause-stopped g c = λ e. absurd (cc)

pub returns-in-Err-clause-alike : goal.returns-in-Err-clause-alike
returns-in-Err-clause-alike g c = λ e. absurd (cc)

pub returns-in-Err-clause-keeps : goal.returns-in-Err-clause-keeps
returns-in-Err-clause-keeps g c =
    let zeros = replicate c.args.words.len 0 in
    given_same g.D.Disk g.B.Supply c.args.disk.now c.args.from.now c.args.holdings.now c.in-Err.error c.requires.stands c.requires.settled
    (no_fault c.args.read_only (Command.Save c.args.path.now c.args.words.load c.args.words.exec zeros) (parts_of c.args.holdings.now) c.in-Err.error (c.in-Err.ensures.saved zeros (length-replicate c.args.words.len 0)))

-- ---- accepted by the tree

pub change_from-requires-clause-judged : goal.change_from-requires-clause-judged
change_from-requires-clause-judged g c = λ bytes long.
    (Command.Save c.args.path.now c.args.words.load c.args.words.exec bytes, (c.in-Ok.ensures.saved bytes (long ∙ c.requires.length)).0)

pub returns-in-Ok-clause-refused : goal.returns-in-Ok-clause-refused
returns-in-Ok-clause-refused g c = λ bytes long.
    let cmd = Command.Save c.args.path.now c.args.words.load c.args.words.exec bytes in
    let is = c.in-Ok.ensures.saved bytes long in
    judged_short c.args.read_only cmd (parts_of c.args.holdings.now) (as_held c.change_from.result) is.1 (c.change_from.ensures.refused cmd bytes (long ∙ sym c.requires.length) is.0)

pub returns-in-Ok-clause-given : goal.returns-in-Ok-clause-given
returns-in-Ok-clause-given g c = ok_then c.change_from.result (λ all. all ∙ c.requires.length) c.change_from.ensures.given

pub returns-in-Ok-clause-changed : goal.returns-in-Ok-clause-changed
returns-in-Ok-clause-changed g c =
    let given = g.B.Supply.given c.change_from.new.from in
    ok_both c.change_from.result (λ all each. each (Command.Save c.args.path.now c.args.words.load c.args.words.exec given) (c.in-Ok.ensures.saved given (all ∙ c.requires.length)).0) c.change_from.ensures.given c.change_from.ensures.changed

-- the bytes that were given, and zeros, are as many
whole_long : (g : Over) (c : After-change_from g) → length (filled c.args.words.len (g.B.Supply.given c.change_from.new.from)) ≡ c.args.words.len
whole_long g c =
    let most = g.met.B.Supply.within c.change_from.new.from in
    filled_long c.args.words.len (g.B.Supply.given c.change_from.new.from) (omega (arith, most, c.change_from.ensures.keeps.supply.total, c.requires.length))

pub returns-in-Ok-clause-places : goal.returns-in-Ok-clause-places
returns-in-Ok-clause-places g c =
    let given = g.B.Supply.given c.change_from.new.from in
    let total = g.B.Supply.total c.args.from.now in
    let long : length (filled total given) ≡ c.args.words.len =
    subst (λ (n : ℕ). length (filled n given) ≡ c.args.words.len) (sym c.requires.length) (whole_long g (goal.at.returns-in-Ok-clause-places g c).After-change_from) in
    let save = λ (bytes : List ℕ). Command.Save c.args.path.now c.args.words.load c.args.words.exec bytes in
    subst (λ (n : ℕ). StopsAndExitsLeave g.D.Disk c.args.disk.now c.change_from.new.disk (WritesPlacesOf (save (filled n given)) (parts_of c.args.holdings.now))) c.requires.length
    (c.change_from.ensures.places (save (filled total given)) (c.in-Ok.ensures.saved (filled total given) long).0)

pub returns-in-Ok-clause-leaves : goal.returns-in-Ok-clause-leaves
returns-in-Ok-clause-leaves g c =
    let all = filled c.args.words.len (g.B.Supply.given c.change_from.new.from) in
    leaves_command g.D.Disk (laws g.met.D.Disk) (Command.Save c.args.path.now c.args.words.load c.args.words.exec all) c.args.disk.now c.change_from.new.disk (parts_of c.args.holdings.now) _ _ all
    (c.in-Ok.ensures.saved all (whole_long g (goal.at.returns-in-Ok-clause-leaves g c).After-change_from)).0 c.change_from.ensures.leaves

pub returns-in-Ok-clause-stopped : goal.returns-in-Ok-clause-stopped
returns-in-Ok-clause-stopped g c = λ e.
    let all = filled c.args.words.len (g.B.Supply.given c.change_from.new.from) in
    let is = (c.in-Ok.ensures.saved all (whole_long g (goal.at.returns-in-Ok-clause-stopped g c).After-change_from)).0 in
    keeps_weaker (laws g.met.D.Disk) (c.change_from.ensures.stopped e) (λ first image some. record { job = _; name = _; bytes = all; of_command = is; filling = some })
