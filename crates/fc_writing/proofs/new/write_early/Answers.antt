use Rattle.std.proofs.Common.{inl, ℕ, List, sym, subst, ◌∙◌}
use Rattle.std.proofs.lemmas.Result.{on_ok_weaker}
use Rattle.fc_device.proofs.DiskLaws.{laws}
use Rattle.fc_device.proofs.StopLemmas.{keeps_weaker, led, one_told}
use Rattle.fc_newmap.proofs.PassLemmas.{keeps_on}
use Rattle.fc_newmap.specs.Copies.{ChangesCopies}
use Rattle.fc_writing.proofs.NewLemmas.{taken, taking}
use Rattle.fc_writing.proofs.StageLemmas.{keeps_both}
use Rattle.fc_writing.proofs.new.write_early.Goals as goal

pub returns-in_err-lay-clause-keeps : goal.returns-in_err-lay-clause-keeps
returns-in_err-lay-clause-keeps g c = keeps_weaker (laws g.met.D.Disk) c.lay.ensures.keeps (λ was image stage. inl stage)

pub make_step-requires-clause-copies : goal.make_step-requires-clause-copies
make_step-requires-clause-copies g c = λ image is.
    let was = led (laws g.met.D.Disk) c.lay.ensures.keeps image is in
    (c.in_ok-lay.ensures.laid was.0 was.1 image is).copies

pub returns-clause-keeps : goal.returns-clause-keeps
returns-clause-keeps g c =
    keeps_on (laws g.met.D.Disk) c.lay.ensures.keeps (keeps_both g.D.Disk c.make_step.ensures.frame c.make_step.ensures.counts) (λ was image told stage. inl stage)
    (λ was there image told told_mid stage now.
    taking c.args.map.now c.make_step.new.map (g.D.Disk.sectors c.args.disk.now) c.args.ready.now c.args.bytes.now c.requires.can.put was there image (c.in_ok-lay.ensures.laid was told there told_mid) now.0 c.make_step.ensures.map now.1)

pub returns-clause-taken : goal.returns-clause-taken
returns-clause-taken g c =
    on_ok_weaker c.make_step.result
    (λ equal was told image is.
    let law = laws g.met.D.Disk in
    let first = c.lay.ensures.keeps.exit was told in
    let second = led law c.make_step.ensures.frame image is in
    let there : List ℕ = first.0 in
    taken c.args.map.now c.make_step.new.map (g.D.Disk.sectors c.args.disk.now) c.args.ready.now c.args.bytes.now c.requires.can.put was there image (c.in_ok-lay.ensures.laid was told there first.1)
    (subst (λ (b : List ℕ). ChangesCopies c.args.map.now.geometry b image) (one_told (sym second.1 ∙ first.1)) second.2) (equal image is))
    c.make_step.ensures.equal
