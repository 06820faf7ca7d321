use Rattle.std.proofs.Common.{◌≡◌, ◌∙◌, ◌++◌, [], ◌∷◌, ℕ, Bool, true, List, Option, Some, None, Result, Ok, Err, refl, sym, ap, subst}
use Rattle.std.proofs.lemmas.List.{append-nil}
use Rattle.std.proofs.lemmas.Result.{err_from_is_err_and}
use Rattle.fc_device.proofs.DiskLaws.{laws}
use Rattle.fc_device.proofs.StopLemmas.{reads_start}
use Rattle.fc_host.specs.declared.asks.HostCall.TheVariants as calls
use Rattle.fc_host.specs.Answers.{taken_from}
use Rattle.fc_host.specs.Asked.{Asked}
use Rattle.fc_host.specs.Files.{Files}
use Rattle.fc_names.specs.declared.refusal.Refusal.{Refusal}
use Rattle.fc_image.specs.effects.Effect.{State}
use Rattle.fc_model.specs.Command.{Command as Model}
use Rattle.fc_script.specs.HostLines.{HostLine}
use Rattle.fc_script.specs.Texts.{refusal_line}
use Rattle.fc_tree.proofs.WalkedLemmas.{sound_law}
use Rattle.fc_volume.specs.Volume.{Volume}
use Rattle.fc_shell.specs.declared.moving.MoveFault.{MoveFault}
use Rattle.fc_shell.specs.MoveFaults.{moved_result}
use Rattle.fc_shell.specs.Modes.{mode_of}
use Rattle.fc_shell.specs.Changing.{IsAskedSafely}
use Rattle.fc_shell.specs.Moving.{KeepsServing, LineMoves}
use Rattle.fc_shell.specs.Putting.{IsMeasured}
use Rattle.fc_shell.proofs.MovingLemmas.{told_moves}
use Rattle.fc_shell.proofs.PuttingLemmas.{broke_same, judged_by, unasked, unmeasured, writable_by}
use Rattle.fc_shell.proofs.WholePutLemmas.{asked_all, broke_taking, whole_moves, whole_serves}
use Rattle.fc_shell.proofs.whole_put.put_safely.Goals as goal

-- ---- the path is refused

pub returns-in-Err-clause-step : goal.returns-in-Err-clause-step
returns-in-Err-clause-step g c image told kind view opens parts =
    let s : State = record { image = image; view = view } in
    let v = c.args.volume.now in
    let to = c.args.target.now in
    let taken = g.K.Sink.taken in
    let files = g.H.Host.files c.args.host.now in
    let disk = c.args.disk.now in
    let refused =
    judged_by image view v c.dir_form.result c.volume.inside.read_only c.space.result.now c.tree.result.now (Some c.in-Err.reason) (Model.Save to.path.now to.load to.exec []) c.dir_form.ensures c.space.ensures c.tree.ensures
    (ap (λ (w : Volume). w.read_only) c.volume.view_is) parts (λ held. (c.in-Err.ensures.refusal image view.layout view.listings to.load to.exec 0 [] (sound_law image kind view opens) held).0) in (
      [],
      sym (append-nil (g.H.Host.asked c.args.host.now)),
      subst (λ (r : Result Bool MoveFault). LineMoves g.D.Disk disk disk (mode_of kind v.read_only true) s v (Ok (HostLine.Put c.args.name.now to.path.now to.load to.exec)) (taken c.args.out.now) (taken c.tell.new.out) [] files files r) (sym c.moved.ensures)
          (told_moves (laws g.met.D.Disk) kind true v s (Ok (HostLine.Put c.args.name.now to.path.now to.load to.exec)) disk disk (taken c.args.out.now) (taken c.tell.new.out) c.requires.settled told opens (reads_start (laws g.met.D.Disk) disk)
          (refusal_line c.in-Err.reason) [] files files (unasked (laws g.met.D.Disk) kind true v s c.args.name.now to.path.now to.load to.exec disk c.requires.settled told opens c.in-Err.reason refused) refl parts
          c.tell.result c.tell.ensures.only.no_disk (c.tell.ensures.answered (refusal_line c.in-Err.reason) c.refusal.ensures)),
    )

-- ---- the host doesn't say how long the file is

pub returns-in_err-len-clause-step : goal.returns-in_err-len-clause-step
returns-in_err-len-clause-step g c image told kind view opens parts =
    let s : State = record { image = image; view = view } in
    let v = c.args.volume.now in
    let to = c.args.target.now in
    let taken = g.K.Sink.taken c.args.out.now in
    let files = g.H.Host.files c.args.host.now in
    let disk = c.args.disk.now in
    let looks = c.measure.ensures.looks in
    let p = err_from_is_err_and c.from_residual.result c.from_residual.ensures.1 in
    let accepted =
    judged_by image view v c.dir_form.result c.volume.inside.read_only c.space.result.now c.tree.result.now None (Model.Save to.path.now to.load to.exec []) c.dir_form.ensures c.space.ensures c.tree.ensures
    (ap (λ (w : Volume). w.read_only) c.volume.view_is) parts (λ held. (c.in_default.ensures.refusal image view.layout view.listings to.load to.exec 0 [] (sound_law image kind view opens) held).0) in (
      looks.0,
      looks.1,
      subst (λ (r : Result Bool MoveFault). LineMoves g.D.Disk disk disk (mode_of kind v.read_only true) s v (Ok (HostLine.Put c.args.name.now to.path.now to.load to.exec)) taken taken looks.0 files (g.H.Host.files c.measure.new.host) r) (sym p.1)
          (subst (λ (o : Option Files). LineMoves g.D.Disk disk disk (mode_of kind v.read_only true) s v (Ok (HostLine.Put c.args.name.now to.path.now to.load to.exec)) taken taken looks.0 files o (Err p.0)) (sym c.measure.ensures.files)
          (broke_same (laws g.met.D.Disk) kind true v s c.args.name.now to.path.now to.load to.exec disk c.requires.settled told opens accepted disk taken taken v p.0 looks.0 files (reads_start (laws g.met.D.Disk) disk) refl looks.2)),
    )

-- ---- it isn't there, or is too long

pub returns-in-Err-2-clause-step : goal.returns-in-Err-2-clause-step
returns-in-Err-2-clause-step g c image told kind view opens parts =
    let s : State = record { image = image; view = view } in
    let v = c.args.volume.now in
    let to = c.args.target.now in
    let name = c.args.name.now in
    let taken = g.K.Sink.taken in
    let files = g.H.Host.files c.args.host.now in
    let asked = g.H.Host.asked in
    let disk = c.args.disk.now in
    let accepted =
    judged_by image view v c.dir_form.result c.volume.inside.read_only c.space.result.now c.tree.result.now None (Model.Save to.path.now to.load to.exec []) c.dir_form.ensures c.space.ensures c.tree.ensures
    (ap (λ (w : Volume). w.read_only) c.volume.view_is) parts (λ held. (c.in_default.ensures.refusal image view.layout view.listings to.load to.exec 0 [] (sound_law image kind view opens) held).0) in
    let m =
    unmeasured (laws g.met.D.Disk) kind true v s name to.path.now to.load to.exec disk c.requires.settled told opens accepted (asked c.args.host.now) (asked c.measure.new.host) files c.in-Err-2.reason
    (subst (λ (r : Result ℕ Refusal). IsMeasured name (asked c.args.host.now) (asked c.measure.new.host) files r) c.in-Err-2.is c.in_ok-len.ensures.measured) in (
      m.0,
      m.1,
      subst (λ (r : Result Bool MoveFault). LineMoves g.D.Disk disk disk (mode_of kind v.read_only true) s v (Ok (HostLine.Put name to.path.now to.load to.exec)) (taken c.args.out.now) (taken c.tell-in-Err-2.new.out) m.0 files (g.H.Host.files c.measure.new.host) r) (sym c.moved-in-Err-2.ensures)
          (subst (λ (o : Option Files). LineMoves g.D.Disk disk disk (mode_of kind v.read_only true) s v (Ok (HostLine.Put name to.path.now to.load to.exec)) (taken c.args.out.now) (taken c.tell-in-Err-2.new.out) m.0 files o (moved_result c.tell-in-Err-2.result)) (sym c.measure.ensures.files)
          (told_moves (laws g.met.D.Disk) kind true v s (Ok (HostLine.Put name to.path.now to.load to.exec)) disk disk (taken c.args.out.now) (taken c.tell-in-Err-2.new.out) c.requires.settled told opens (reads_start (laws g.met.D.Disk) disk)
          (refusal_line c.in-Err-2.reason) m.0 files files m.2 m.3 parts
          c.tell-in-Err-2.result c.tell-in-Err-2.ensures.only.no_disk (c.tell-in-Err-2.ensures.answered (refusal_line c.in-Err-2.reason) c.refusal-in-Err-2.ensures))),
    )

-- ---- its bytes can't be taken

pub returns-in_err-bytes-clause-step : goal.returns-in_err-bytes-clause-step
returns-in_err-bytes-clause-step g c image told kind view opens parts =
    let s : State = record { image = image; view = view } in
    let v = c.args.volume.now in
    let to = c.args.target.now in
    let name = c.args.name.now in
    let taken = g.K.Sink.taken c.args.out.now in
    let files = g.H.Host.files in
    let asked = g.H.Host.asked in
    let disk = c.args.disk.now in
    let looks = c.take_file.ensures.looks in
    let p = err_from_is_err_and c.from_residual-in_err-bytes.result c.from_residual-in_err-bytes.ensures.1 in
    let accepted =
    judged_by image view v c.dir_form.result c.volume.inside.read_only c.space.result.now c.tree.result.now None (Model.Save to.path.now to.load to.exec []) c.dir_form.ensures c.space.ensures c.tree.ensures
    (ap (λ (w : Volume). w.read_only) c.volume.view_is) parts (λ held. (c.in_default.ensures.refusal image view.layout view.listings to.load to.exec 0 [] (sound_law image kind view opens) held).0) in
    let m = subst (λ (r : Result ℕ Refusal). IsMeasured name (asked c.args.host.now) (asked c.measure.new.host) (files c.args.host.now) r) c.in-Ok.is c.in_ok-len.ensures.measured in
    let ask : Asked = (name, calls.Size (Some c.in-Ok.len), []) in (
      ask ∷ looks.0,
      asked_all (laws g.met.D.Disk) g.H.Host g.K.Sink kind v s name to.path.now to.load to.exec disk c.requires.settled told opens c.requires.fit accepted parts c.in-Ok.len m.0 c.args.host.now c.measure.new.host c.take_file.new.host m.1 m.2 c.measure.ensures.files looks.0 looks.1,
      subst (λ (r : Result Bool MoveFault). LineMoves g.D.Disk disk disk (mode_of kind v.read_only true) s v (Ok (HostLine.Put name to.path.now to.load to.exec)) taken taken (ask ∷ looks.0) (files c.args.host.now) (files c.take_file.new.host) r) (sym p.1)
          (broke_taking (laws g.met.D.Disk) g.H.Host g.K.Sink kind v s name to.path.now to.load to.exec disk c.requires.settled told opens c.requires.fit accepted parts c.in-Ok.len m.0 c.args.host.now c.measure.new.host c.take_file.new.host m.1 m.2 c.measure.ensures.files
          taken taken p.0 looks.0 refl looks.2 c.take_file.ensures.files),
    )

-- ---- it is saved

pub returns-clause-step : goal.returns-clause-step
returns-clause-step g c image told kind view opens parts =
    let s : State = record { image = image; view = view } in
    let v = c.args.volume.now in
    let to = c.args.target.now in
    let name = c.args.name.now in
    let files = g.H.Host.files in
    let asked = g.H.Host.asked in
    let disk = c.args.disk.now in
    let accepted =
    judged_by image view v c.dir_form.result c.volume.inside.read_only c.space.result.now c.tree.result.now None (Model.Save to.path.now to.load to.exec []) c.dir_form.ensures c.space.ensures c.tree.ensures
    (ap (λ (w : Volume). w.read_only) c.volume.view_is) parts (λ held. (c.in_default.ensures.refusal image view.layout view.listings to.load to.exec 0 [] (sound_law image kind view opens) held).0) in
    let m = subst (λ (r : Result ℕ Refusal). IsMeasured name (asked c.args.host.now) (asked c.measure.new.host) (files c.args.host.now) r) c.in-Ok.is c.in_ok-len.ensures.measured in
    let t = c.in_ok-bytes.ensures.taken in
    let ask : Asked = (name, calls.Size (Some c.in-Ok.len), []) in (
      ask ∷ taken_from name 0 t.0,
      asked_all (laws g.met.D.Disk) g.H.Host g.K.Sink kind v s name to.path.now to.load to.exec disk c.requires.settled told opens c.requires.fit accepted parts c.in-Ok.len m.0 c.args.host.now c.measure.new.host c.take_file.new.host m.1 m.2 c.measure.ensures.files (taken_from name 0 t.0) t.1,
      subst (λ (r : Result Bool MoveFault). LineMoves g.D.Disk disk c.save_safely-saved.new.disk (mode_of kind v.read_only true) s c.save_safely-saved.new.volume (Ok (HostLine.Put name to.path.now to.load to.exec)) (g.K.Sink.taken c.args.out.now) (g.K.Sink.taken c.tell_safely.new.out) (ask ∷ taken_from name 0 t.0) (files c.args.host.now) (files c.take_file.new.host) r) (sym c.moved-2.ensures)
          (whole_moves (laws g.met.D.Disk) g.H.Host g.K.Sink kind v s name to.path.now to.load to.exec disk c.requires.settled told opens c.requires.fit accepted parts c.in-Ok.len m.0 c.args.host.now c.measure.new.host c.take_file.new.host m.1 m.2 c.measure.ensures.files
          t.0 c.in_ok-bytes.bytes.items t.2 c.in_ok-bytes.ensures.whole c.in_ok-bytes.ensures.told c.take_file.ensures.files c.save_safely-saved.new.volume c.save_safely-saved.new.disk c.args.out.now c.tell_safely.new.out
          c.save_safely-saved.result c.tell_safely.result
          (subst (λ (bytes : List ℕ). IsAskedSafely g.D.Disk (Model.Save to.path.now to.load to.exec bytes) v c.save_safely-saved.new.volume disk c.save_safely-saved.new.disk c.save_safely-saved.result) c.deref.ensures.value c.save_safely-saved.ensures) c.tell_safely.ensures),
    )

pub returns-clause-keeps : goal.returns-clause-keeps
returns-clause-keeps g c =
    let v = c.args.volume.now in
    let to = c.args.target.now in
    subst (λ (r : Result Bool MoveFault). KeepsServing g.D.Disk c.args.disk.now c.save_safely-saved.new.disk v c.save_safely-saved.new.volume (Ok (HostLine.Put c.args.name.now to.path.now to.load to.exec)) r) (sym c.moved-2.ensures)
    (whole_serves (laws g.met.D.Disk) g.K.Sink g.H.Host c.args.name.now to.path.now to.load to.exec c.deref.result.now v c.save_safely-saved.new.volume c.args.disk.now c.save_safely-saved.new.disk c.args.out.now c.tell_safely.new.out c.requires.fit
    (writable_by v to.path.now to.load to.exec c.requires.stands.agree (λ view sound parts.
    judged_by [] view v c.dir_form.result c.volume.inside.read_only c.space.result.now c.tree.result.now None (Model.Save to.path.now to.load to.exec []) c.dir_form.ensures c.space.ensures c.tree.ensures
    (ap (λ (w : Volume). w.read_only) c.volume.view_is) parts (λ held. (c.in_default.ensures.refusal [] view.layout view.listings to.load to.exec 0 [] sound held).0)))
    c.save_safely-saved.result c.tell_safely.result c.save_safely-saved.ensures c.tell_safely.ensures)
