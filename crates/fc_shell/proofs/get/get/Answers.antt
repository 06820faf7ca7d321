use Rattle.std.proofs.Common.{◌≡◌, ◌∙◌, List, ℕ, [], Bool, Result, Ok, Err, inl, refl, sym, ap, subst}
use Rattle.std.proofs.lemmas.List.{append-nil}
use Rattle.fc_device.specs.Calls.{OnlyReads}
use Rattle.fc_device.proofs.DiskLaws.{laws}
use Rattle.fc_device.proofs.StopLemmas.{reads_start}
use Rattle.fc_image.specs.effects.Effect.{State, tree_in}
use Rattle.fc_image.specs.Layout.{dir_form}
use Rattle.fc_model.specs.Answer.{answer}
use Rattle.fc_model.specs.Command.{Command}
use Rattle.fc_model.specs.Tree.{Tree}
use Rattle.fc_names.specs.declared.refusal.Refusal.{Refusal}
use Rattle.fc_script.specs.HostLines.{HostLine}
use Rattle.fc_script.specs.Texts.{refusal_line}
use Rattle.fc_runs.specs.AskedRun.{GetsAsked, UnlessRefused}
use Rattle.fc_runs.specs.HostRun.{file_in}
use Rattle.fc_volume.specs.Answers.{IsRefusalOf}
use Rattle.fc_volume.specs.Volume.{StandsFor}
use Rattle.fc_shell.specs.declared.moving.MoveFault.{MoveFault}
use Rattle.fc_shell.specs.Getting.{FileMoves}
use Rattle.fc_shell.specs.Modes.{mode_of}
use Rattle.fc_shell.specs.Moving.{AreCaused, LineMoves}
use Rattle.fc_shell.proofs.AnsweredLemmas.{caused_alone}
use Rattle.fc_shell.proofs.GettingLemmas.{got_moves}
use Rattle.fc_shell.proofs.MovingLemmas.{caused_moved, told_moves, unbegun_moves}
use Rattle.fc_shell.proofs.get.get.Goals as goal

pub get_file-requires-clause-attached : goal.get_file-requires-clause-attached
get_file-requires-clause-attached g c = ap g.D.Disk.attached c.in-Ok.ensures.disk ∙ c.requires.attached

pub get_file-requires-clause-stands : goal.get_file-requires-clause-stands
get_file-requires-clause-stands g c = subst (λ d. StandsFor g.D.Disk c.args.volume.now d) (sym c.in-Ok.ensures.disk) c.requires.stands

pub returns-in-Ok-clause-reads : goal.returns-in-Ok-clause-reads
returns-in-Ok-clause-reads g c = subst (λ d. OnlyReads g.D.Disk d c.get_file.new.disk) c.in-Ok.ensures.disk c.get_file.ensures.reads

pub returns-in-Ok-clause-step : goal.returns-in-Ok-clause-step
returns-in-Ok-clause-step g c safe image told kind view opens parts =
    let v = c.args.volume.now in
    let path = c.args.path.now in
    let name = c.args.name.now in
    let taken = g.K.Sink.taken in
    let files = g.H.Host.files in
    let s : State = record { image = image; view = view } in
    let h = c.in-Ok.ensures.answer image kind view opens parts in
    let reads = returns-in-Ok-clause-reads g c in
    let m = c.get_file.ensures.moved image (ap g.D.Disk.bytes c.in-Ok.ensures.disk ∙ told) in
    let own = subst (λ (bytes : List ℕ). FileMoves name bytes m.0 (files c.args.host.now) (files c.get_file.new.host) (taken c.args.out.now) (taken c.get_file.new.out) c.get_file.result) (sym h.1) m.2 in (
      m.0,
      m.1,
      got_moves (laws g.met.D.Disk) kind safe v s path name c.args.disk.now c.get_file.new.disk (taken c.args.out.now) (taken c.get_file.new.out) c.requires.settled told opens reads (tree_in s) h.0 m.0
          (files c.args.host.now) (files c.get_file.new.host) c.get_file.result parts own,
    )

pub returns-in-Ok-clause-caused : goal.returns-in-Ok-clause-caused
returns-in-Ok-clause-caused g c =
    subst (λ d. AreCaused g.D.Disk g.K.Sink g.H.Host d c.get_file.new.disk c.args.out.now c.get_file.new.out c.args.host.now c.get_file.new.host c.get_file.result) c.in-Ok.ensures.disk c.get_file.ensures.caused

pub returns-in-Err-Refused-clause-reads : goal.returns-in-Err-Refused-clause-reads
returns-in-Err-Refused-clause-reads g c = subst (λ d. OnlyReads g.D.Disk c.args.disk.now d) (sym c.in-Err-Refused.ensures.disk) (reads_start (laws g.met.D.Disk) c.args.disk.now)

pub returns-in-Err-Refused-clause-step : goal.returns-in-Err-Refused-clause-step
returns-in-Err-Refused-clause-step g c safe image told kind view opens parts =
    let v = c.args.volume.now in
    let path = c.args.path.now in
    let name = c.args.name.now in
    let taken = g.K.Sink.taken in
    let files = g.H.Host.files c.args.host.now in
    let s : State = record { image = image; view = view } in
    let reason = c.in-Err-Refused.reason in
    let h : answer (tree_in s) (dir_form view.layout) v.read_only (Command.Load path) ≡ Err reason =
    subst (IsRefusalOf (answer (tree_in s) (dir_form view.layout) v.read_only (Command.Load path))) c.in-Err-Refused.field-0-is (c.in-Err-Refused.ensures.answer image kind view opens parts) in
    let step = subst (λ (a : Result Tree Refusal). UnlessRefused s a [] (refusal_line reason) s (GetsAsked s name (file_in s path) [] (refusal_line reason) s)) (sym h) ((refl, refl), refl) in
    let moves = told_moves (laws g.met.D.Disk) kind safe v s (Ok (HostLine.Get path name)) c.args.disk.now c.load.new.disk (taken c.args.out.now) (taken c.tell.new.out) c.requires.settled told opens
    (returns-in-Err-Refused-clause-reads g c) (refusal_line reason) [] files files step refl parts c.tell.result c.tell.ensures.only.no_disk (c.tell.ensures.answered (refusal_line reason) c.refusal.ensures) in (
      [],
      sym (append-nil (g.H.Host.asked c.args.host.now)),
      subst (λ (r : Result Bool MoveFault). LineMoves g.D.Disk c.args.disk.now c.load.new.disk (mode_of kind v.read_only safe) s v (Ok (HostLine.Get path name)) (taken c.args.out.now) (taken c.tell.new.out) [] files files r) (sym c.moved.ensures) moves,
    )

pub returns-in-Err-Refused-clause-asks : goal.returns-in-Err-Refused-clause-asks
returns-in-Err-Refused-clause-asks g c = ([], sym (append-nil (g.H.Host.asked c.args.host.now)), inl refl)

pub returns-in-Err-Refused-clause-caused : goal.returns-in-Err-Refused-clause-caused
returns-in-Err-Refused-clause-caused g c =
    subst (λ (r : Result Bool MoveFault). AreCaused g.D.Disk g.K.Sink g.H.Host c.args.disk.now c.load.new.disk c.args.out.now c.tell.new.out c.args.host.now c.args.host.now r) (sym c.moved.ensures)
    (caused_moved g.D.Disk g.K.Sink g.H.Host c.args.disk.now c.load.new.disk c.args.out.now c.tell.new.out c.args.host.now c.tell.result
    (caused_alone g.D.Disk g.K.Sink c.args.disk.now c.load.new.disk c.args.out.now c.tell.new.out c.tell.result c.tell.ensures.only))

pub returns-in-Err-NoMemory-clause-reads : goal.returns-in-Err-NoMemory-clause-reads
returns-in-Err-NoMemory-clause-reads g c = subst (λ d. OnlyReads g.D.Disk c.args.disk.now d) (sym c.in-Err-NoMemory.ensures.disk) (reads_start (laws g.met.D.Disk) c.args.disk.now)

pub returns-in-Err-NoMemory-clause-step : goal.returns-in-Err-NoMemory-clause-step
returns-in-Err-NoMemory-clause-step g c safe image told kind view opens parts =
    let taken = g.K.Sink.taken c.args.out.now in
    let s : State = record { image = image; view = view } in (
      [],
      sym (append-nil (g.H.Host.asked c.args.host.now)),
      unbegun_moves (laws g.met.D.Disk) kind safe c.args.volume.now s (Ok (HostLine.Get c.args.path.now c.args.name.now)) c.args.disk.now c.load.new.disk taken taken c.requires.settled told opens
          (returns-in-Err-NoMemory-clause-reads g c) MoveFault.NoMemory (g.H.Host.files c.args.host.now) refl,
    )

pub returns-in-Err-NoMemory-clause-asks : goal.returns-in-Err-NoMemory-clause-asks
returns-in-Err-NoMemory-clause-asks g c = ([], sym (append-nil (g.H.Host.asked c.args.host.now)), inl refl)
