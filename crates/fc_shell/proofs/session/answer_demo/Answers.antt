use Rattle.std.proofs.Common.{List, ℕ, [], Some, Ok, Err, inl, inr, refl, sym, ap, subst}
use Rattle.fc_image.specs.effects.Effect.{State}
use Rattle.fc_shell.specs.declared.answer.LineFault.{LineFault}
use Rattle.fc_shell.specs.Modes.{mode_of}
use Rattle.fc_shell.specs.Serving.{ServesAs}
use Rattle.fc_shell.proofs.DemoLemmas.{demo_ends, demo_fault, demo_memory}
use Rattle.fc_shell.proofs.session.answer_demo.Goals as goal

pub returns-in-Ok-clause-promise : goal.returns-in-Ok-clause-promise
returns-in-Ok-clause-promise g c image told kind view opens parts =
    let s : State = record { image = image; view = view } in
    let v = c.args.volume.now in
    let told' = c.tell_tally.ensures in
    let first = subst (λ (b : List ℕ). ServesAs g.D.Disk c.args.disk.now c.serve.new.disk (mode_of kind v.read_only c.args.safe) s c.args.script.now (Some b) (Some c.serve.new.out.bytes.items) (Ok c.in-Ok.tally))
    c.new-replies.ensures (c.in-Ok.ensures.served image told kind view opens parts) in
    let served = subst (λ (b : List ℕ). ServesAs g.D.Disk c.args.disk.now c.serve.new.disk (mode_of kind v.read_only c.args.safe) s c.args.script.now (Some []) (Some b) (Ok c.in-Ok.tally)) (sym c.text.ensures) first in
    demo_ends g.D.Disk c.args.disk.now c.serve.new.disk (mode_of kind v.read_only c.args.safe) s c.args.n c.args.script.now c.requires.own c.text.result.now c.in-Ok.tally c.tell_tally.result
    (g.K.Sink.taken c.args.out.now) (g.K.Sink.taken c.tell_tally.new.out) served told'.ended told'.told told'.part (λ is. ap g.K.Sink.taken (told'.no_memory is))

pub returns-in-Err-Disk-clause-promise : goal.returns-in-Err-Disk-clause-promise
returns-in-Err-Disk-clause-promise g c image told kind view opens parts =
    let s : State = record { image = image; view = view } in
    let v = c.args.volume.now in
    let served = subst (λ (f : LineFault). ServesAs g.D.Disk c.args.disk.now c.serve.new.disk (mode_of kind v.read_only c.args.safe) s c.args.script.now (Some c.new-replies.result.bytes.items) (Some c.serve.new.out.bytes.items) (Err f))
    c.in-Err-Disk.field-0-is (c.in-Err-Disk.ensures.served image told kind view opens parts) in
    demo_fault g.D.Disk c.args.disk.now c.serve.new.disk (mode_of kind v.read_only c.args.safe) s c.args.n c.args.script.now c.requires.own (Some c.new-replies.result.bytes.items) (Some c.serve.new.out.bytes.items)
    (g.K.Sink.taken c.args.out.now) served

pub returns-in-Err-Out-clause-promise : goal.returns-in-Err-Out-clause-promise
returns-in-Err-Out-clause-promise g c image told kind view opens parts =
    let s : State = record { image = image; view = view } in
    let v = c.args.volume.now in
    let served = subst (λ (f : LineFault). ServesAs g.D.Disk c.args.disk.now c.serve.new.disk (mode_of kind v.read_only c.args.safe) s c.args.script.now (Some c.new-replies.result.bytes.items) (Some c.serve.new.out.bytes.items) (Err f))
    c.in-Err-Out.field-0-is (c.in-Err-Out.ensures.served image told kind view opens parts) in
    demo_memory g.D.Disk c.args.disk.now c.serve.new.disk (mode_of kind v.read_only c.args.safe) s c.args.n c.args.script.now c.requires.own LineFault.Out (Some c.new-replies.result.bytes.items) (Some c.serve.new.out.bytes.items)
    (g.K.Sink.taken c.args.out.now) (inl refl) served

-- memory was short in a line
pub returns-clause-promise : goal.returns-clause-promise
returns-clause-promise g c image told kind view opens parts =
    let s : State = record { image = image; view = view } in
    let v = c.args.volume.now in
    let served = subst (λ (f : LineFault). ServesAs g.D.Disk c.args.disk.now c.serve.new.disk (mode_of kind v.read_only c.args.safe) s c.args.script.now (Some c.new-replies.result.bytes.items) (Some c.serve.new.out.bytes.items) (Err f))
    c.in-Err-NoMemory.field-0-is (c.in-Err-NoMemory.ensures.served image told kind view opens parts) in
    demo_memory g.D.Disk c.args.disk.now c.serve.new.disk (mode_of kind v.read_only c.args.safe) s c.args.n c.args.script.now c.requires.own LineFault.NoMemory (Some c.new-replies.result.bytes.items) (Some c.serve.new.out.bytes.items)
    (g.K.Sink.taken c.args.out.now) (inr refl) served
