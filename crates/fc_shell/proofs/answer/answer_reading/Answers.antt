use Rattle.std.proofs.Common.{sym, subst}
use Rattle.fc_device.specs.Calls.{OnlyReads}
use Rattle.fc_device.proofs.DiskLaws.{laws}
use Rattle.fc_device.proofs.StopLemmas.{reads_start}
use Rattle.fc_image.specs.effects.Effect.{State}
use Rattle.fc_script.specs.Reading.{command}
use Rattle.fc_shell.specs.Answered.{Answered, volume_reply}
use Rattle.fc_shell.proofs.AnsweredLemmas.{caused_alone}
use Rattle.fc_shell.proofs.ReplyLemmas.{no_other}
use Rattle.fc_shell.proofs.answer.answer_reading.Goals as goal

pub unreachable-requires : goal.unreachable-requires
unreachable-requires g c = no_other c.args.asked.now c.requires.reading c.in_default.not-Cat c.in_default.not-Load c.in_default.not-Digest c.in_default.not-Free c.in_default.not-Check

pub unreachable-unreachable : goal.unreachable-unreachable
unreachable-unreachable g c = no_other c.args.asked.now c.requires.reading c.in_default.not-Cat c.in_default.not-Load c.in_default.not-Digest c.in_default.not-Free c.in_default.not-Check

pub returns-in-Cat-clause-answered : goal.returns-in-Cat-clause-answered
returns-in-Cat-clause-answered g c = λ image told kind view opens parts.
    let s : State = record { image = image; view = view } in
    subst (λ asked. Answered (volume_reply kind c.args.volume.now s (command asked)) (g.K.Sink.taken c.args.out.now) (g.K.Sink.taken c.tell.new.out) c.tell.result) (sym c.in-Cat.is)
    (c.tell.ensures.answered _ (c.cat.ensures.reply image told kind view opens parts))

pub returns-in-Cat-clause-reads : goal.returns-in-Cat-clause-reads
returns-in-Cat-clause-reads g c = subst (λ d. OnlyReads g.D.Disk c.args.disk.now d) (sym c.cat.ensures.disk) (reads_start (laws g.met.D.Disk) c.args.disk.now)

pub returns-in-Cat-clause-caused : goal.returns-in-Cat-clause-caused
returns-in-Cat-clause-caused g c = caused_alone g.D.Disk g.K.Sink c.args.disk.now c.cat.new.disk c.args.out.now c.tell.new.out c.tell.result c.tell.ensures.only

pub returns-in-Load-clause-answered : goal.returns-in-Load-clause-answered
returns-in-Load-clause-answered g c = λ image told kind view opens parts.
    let s : State = record { image = image; view = view } in
    subst (λ asked. Answered (volume_reply kind c.args.volume.now s (command asked)) (g.K.Sink.taken c.args.out.now) (g.K.Sink.taken c.load.new.out) c.load.result) (sym c.in-Load.is)
    (c.load.ensures.answered image told kind view opens parts)

pub returns-in-Load-clause-reads : goal.returns-in-Load-clause-reads
returns-in-Load-clause-reads g c = c.load.ensures.reads

pub returns-in-Load-clause-caused : goal.returns-in-Load-clause-caused
returns-in-Load-clause-caused g c = c.load.ensures.caused

pub returns-in-Digest-clause-answered : goal.returns-in-Digest-clause-answered
returns-in-Digest-clause-answered g c = λ image told kind view opens parts.
    let s : State = record { image = image; view = view } in
    subst (λ asked. Answered (volume_reply kind c.args.volume.now s (command asked)) (g.K.Sink.taken c.args.out.now) (g.K.Sink.taken c.digest.new.out) c.digest.result) (sym c.in-Digest.is)
    (c.digest.ensures.answered image told kind view opens parts)

pub returns-in-Digest-clause-reads : goal.returns-in-Digest-clause-reads
returns-in-Digest-clause-reads g c = c.digest.ensures.reads

pub returns-in-Digest-clause-caused : goal.returns-in-Digest-clause-caused
returns-in-Digest-clause-caused g c = c.digest.ensures.caused

pub returns-in-Free-clause-answered : goal.returns-in-Free-clause-answered
returns-in-Free-clause-answered g c = λ image told kind view opens parts.
    let s : State = record { image = image; view = view } in
    subst (λ asked. Answered (volume_reply kind c.args.volume.now s (command asked)) (g.K.Sink.taken c.args.out.now) (g.K.Sink.taken c.tell-in-Free.new.out) c.tell-in-Free.result) (sym c.in-Free.is)
    (c.tell-in-Free.ensures.answered _ (c.free.ensures image kind view opens parts))

pub returns-in-Free-clause-reads : goal.returns-in-Free-clause-reads
returns-in-Free-clause-reads g c = reads_start (laws g.met.D.Disk) c.args.disk.now

pub returns-in-Free-clause-caused : goal.returns-in-Free-clause-caused
returns-in-Free-clause-caused g c = caused_alone g.D.Disk g.K.Sink c.args.disk.now c.args.disk.now c.args.out.now c.tell-in-Free.new.out c.tell-in-Free.result c.tell-in-Free.ensures.only

pub returns-in-Check-clause-answered : goal.returns-in-Check-clause-answered
returns-in-Check-clause-answered g c = λ image told kind view opens parts.
    let s : State = record { image = image; view = view } in
    subst (λ asked. Answered (volume_reply kind c.args.volume.now s (command asked)) (g.K.Sink.taken c.args.out.now) (g.K.Sink.taken c.tell-in-Check.new.out) c.tell-in-Check.result) (sym c.in-Check.is)
    (c.tell-in-Check.ensures.answered _ (c.check.ensures image kind view opens parts))

pub returns-in-Check-clause-reads : goal.returns-in-Check-clause-reads
returns-in-Check-clause-reads g c = reads_start (laws g.met.D.Disk) c.args.disk.now

pub returns-in-Check-clause-caused : goal.returns-in-Check-clause-caused
returns-in-Check-clause-caused g c = caused_alone g.D.Disk g.K.Sink c.args.disk.now c.args.disk.now c.args.out.now c.tell-in-Check.new.out c.tell-in-Check.result c.tell-in-Check.ensures.only
