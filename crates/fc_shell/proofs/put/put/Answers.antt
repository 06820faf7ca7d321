use Rattle.std.proofs.Common.{◌≡◌, ◌∙◌, ◌++◌, [], ℕ, Bool, false, List, Option, Some, None, Result, Ok, Err, refl, sym, ap, subst}
use Rattle.std.proofs.lemmas.List.{append-nil}
use Rattle.std.proofs.lemmas.Result.{err_from_is_err_and}
use Rattle.fc_device.proofs.DiskLaws.{laws}
use Rattle.fc_device.proofs.StopLemmas.{reads_start}
use Rattle.fc_host.specs.Asked.{Asked}
use Rattle.fc_host.specs.Files.{Files}
use Rattle.fc_host.specs.HostSupplies.{looks_on}
use Rattle.fc_names.specs.declared.refusal.Refusal.{Refusal}
use Rattle.fc_image.specs.effects.Effect.{State}
use Rattle.fc_model.specs.Command.{Command as Model}
use Rattle.fc_script.specs.HostLines.{HostLine}
use Rattle.fc_script.specs.Texts.{refusal_line}
use Rattle.fc_tree.proofs.WalkedLemmas.{sound_law}
use Rattle.fc_volume.specs.Volume.{Volume}
use Rattle.fc_shell.specs.declared.moving.MoveFault.{MoveFault}
use Rattle.fc_shell.specs.MoveFaults.{moved_result}
use Rattle.fc_shell.specs.Modes.{mode_of}
use Rattle.fc_shell.specs.Moving.{LineMoves}
use Rattle.fc_shell.specs.Putting.{IsMeasured}
use Rattle.fc_shell.proofs.MovingLemmas.{told_moves}
use Rattle.fc_shell.proofs.PuttingLemmas.{broke_same, judged_by, saved_moves, saved_serves, unasked, unmeasured, writable_by}
use Rattle.fc_shell.proofs.put.put.Goals as goal

-- ---- the path is refused

pub returns-in-Err-clause-step : goal.returns-in-Err-clause-step
returns-in-Err-clause-step g c image told kind view opens parts =
    let s : State = record { image = image; view = view } in
    let v = c.args.volume.now in
    let to = c.args.target.now in
    let taken = g.K.Sink.taken in
    let files = g.H.Host.files c.args.host.now in
    let disk = c.args.disk.now in
    let refused =
    judged_by image view v c.dir_form.result c.volume.inside.read_only c.space.result.now c.tree.result.now (Some c.in-Err.reason) (Model.Save to.path.now to.load to.exec []) c.dir_form.ensures c.space.ensures c.tree.ensures
    (ap (λ (w : Volume). w.read_only) c.volume.view_is) parts (λ held. (c.in-Err.ensures.refusal image view.layout view.listings to.load to.exec 0 [] (sound_law image kind view opens) held).0) in (
      [],
      sym (append-nil (g.H.Host.asked c.args.host.now)),
      subst (λ (r : Result Bool MoveFault). LineMoves g.D.Disk disk disk (mode_of kind v.read_only false) s v (Ok (HostLine.Put c.args.name.now to.path.now to.load to.exec)) (taken c.args.out.now) (taken c.tell.new.out) [] files files r) (sym c.moved.ensures)
          (told_moves (laws g.met.D.Disk) kind false v s (Ok (HostLine.Put c.args.name.now to.path.now to.load to.exec)) disk disk (taken c.args.out.now) (taken c.tell.new.out) c.requires.settled told opens (reads_start (laws g.met.D.Disk) disk)
          (refusal_line c.in-Err.reason) [] files files (unasked (laws g.met.D.Disk) kind false v s c.args.name.now to.path.now to.load to.exec disk c.requires.settled told opens c.in-Err.reason refused) refl parts
          c.tell.result c.tell.ensures.only.no_disk (c.tell.ensures.answered (refusal_line c.in-Err.reason) c.refusal.ensures)),
    )

-- ---- the host doesn't say how long the file is

pub returns-in_err-len-clause-step : goal.returns-in_err-len-clause-step
returns-in_err-len-clause-step g c image told kind view opens parts =
    let s : State = record { image = image; view = view } in
    let v = c.args.volume.now in
    let to = c.args.target.now in
    let taken = g.K.Sink.taken c.args.out.now in
    let files = g.H.Host.files c.args.host.now in
    let disk = c.args.disk.now in
    let looks = c.measure.ensures.looks in
    let p = err_from_is_err_and c.from_residual.result c.from_residual.ensures.1 in
    let accepted =
    judged_by image view v c.dir_form.result c.volume.inside.read_only c.space.result.now c.tree.result.now None (Model.Save to.path.now to.load to.exec []) c.dir_form.ensures c.space.ensures c.tree.ensures
    (ap (λ (w : Volume). w.read_only) c.volume.view_is) parts (λ held. (c.in_default.ensures.refusal image view.layout view.listings to.load to.exec 0 [] (sound_law image kind view opens) held).0) in (
      looks.0,
      looks.1,
      subst (λ (r : Result Bool MoveFault). LineMoves g.D.Disk disk disk (mode_of kind v.read_only false) s v (Ok (HostLine.Put c.args.name.now to.path.now to.load to.exec)) taken taken looks.0 files (g.H.Host.files c.measure.new.host) r) (sym p.1)
          (subst (λ (o : Option Files). LineMoves g.D.Disk disk disk (mode_of kind v.read_only false) s v (Ok (HostLine.Put c.args.name.now to.path.now to.load to.exec)) taken taken looks.0 files o (Err p.0)) (sym c.measure.ensures.files)
          (broke_same (laws g.met.D.Disk) kind false v s c.args.name.now to.path.now to.load to.exec disk c.requires.settled told opens accepted disk taken taken v p.0 looks.0 files (reads_start (laws g.met.D.Disk) disk) refl looks.2)),
    )

-- ---- it isn't there, or is too long

pub returns-in-Err-2-clause-step : goal.returns-in-Err-2-clause-step
returns-in-Err-2-clause-step g c image told kind view opens parts =
    let s : State = record { image = image; view = view } in
    let v = c.args.volume.now in
    let to = c.args.target.now in
    let name = c.args.name.now in
    let taken = g.K.Sink.taken in
    let files = g.H.Host.files c.args.host.now in
    let asked = g.H.Host.asked in
    let disk = c.args.disk.now in
    let accepted =
    judged_by image view v c.dir_form.result c.volume.inside.read_only c.space.result.now c.tree.result.now None (Model.Save to.path.now to.load to.exec []) c.dir_form.ensures c.space.ensures c.tree.ensures
    (ap (λ (w : Volume). w.read_only) c.volume.view_is) parts (λ held. (c.in_default.ensures.refusal image view.layout view.listings to.load to.exec 0 [] (sound_law image kind view opens) held).0) in
    let m =
    unmeasured (laws g.met.D.Disk) kind false v s name to.path.now to.load to.exec disk c.requires.settled told opens accepted (asked c.args.host.now) (asked c.measure.new.host) files c.in-Err-2.reason
    (subst (λ (r : Result ℕ Refusal). IsMeasured name (asked c.args.host.now) (asked c.measure.new.host) files r) c.in-Err-2.is c.in_ok-len.ensures.measured) in (
      m.0,
      m.1,
      subst (λ (r : Result Bool MoveFault). LineMoves g.D.Disk disk disk (mode_of kind v.read_only false) s v (Ok (HostLine.Put name to.path.now to.load to.exec)) (taken c.args.out.now) (taken c.tell-in-Err-2.new.out) m.0 files (g.H.Host.files c.measure.new.host) r) (sym c.moved-in-Err-2.ensures)
          (subst (λ (o : Option Files). LineMoves g.D.Disk disk disk (mode_of kind v.read_only false) s v (Ok (HostLine.Put name to.path.now to.load to.exec)) (taken c.args.out.now) (taken c.tell-in-Err-2.new.out) m.0 files o (moved_result c.tell-in-Err-2.result)) (sym c.measure.ensures.files)
          (told_moves (laws g.met.D.Disk) kind false v s (Ok (HostLine.Put name to.path.now to.load to.exec)) disk disk (taken c.args.out.now) (taken c.tell-in-Err-2.new.out) c.requires.settled told opens (reads_start (laws g.met.D.Disk) disk)
          (refusal_line c.in-Err-2.reason) m.0 files files m.2 m.3 parts
          c.tell-in-Err-2.result c.tell-in-Err-2.ensures.only.no_disk (c.tell-in-Err-2.ensures.answered (refusal_line c.in-Err-2.reason) c.refusal-in-Err-2.ensures))),
    )

-- ---- it is saved

pub returns-clause-step : goal.returns-clause-step
returns-clause-step g c image told kind view opens parts =
    let s : State = record { image = image; view = view } in
    let v = c.args.volume.now in
    let to = c.args.target.now in
    let name = c.args.name.now in
    let files = g.H.Host.files c.args.host.now in
    let asked = g.H.Host.asked in
    let disk = c.args.disk.now in
    let accepted =
    judged_by image view v c.dir_form.result c.volume.inside.read_only c.space.result.now c.tree.result.now None (Model.Save to.path.now to.load to.exec []) c.dir_form.ensures c.space.ensures c.tree.ensures
    (ap (λ (w : Volume). w.read_only) c.volume.view_is) parts (λ held. (c.in_default.ensures.refusal image view.layout view.listings to.load to.exec 0 [] (sound_law image kind view opens) held).0) in
    let m = subst (λ (r : Result ℕ Refusal). IsMeasured name (asked c.args.host.now) (asked c.measure.new.host) files r) c.in-Ok.is c.in_ok-len.ensures.measured in
    saved_moves (laws g.met.D.Disk) kind false v s name to.path.now to.load to.exec disk c.requires.settled told opens accepted refl g.H.Host g.K.Sink parts c.requires.stands.agree c.has_map.ensures c.in-Ok.len m.0 c.args.host.now c.measure.new.host c.save_file-saved.new.host m.1 m.2 c.measure.ensures.files
    c.save_file-saved.new.volume c.save_file-saved.new.disk c.args.out.now c.tell_saved.new.out c.save_file-saved.result c.tell_saved.result c.save_file-saved.ensures c.tell_saved.ensures

pub returns-clause-asks : goal.returns-clause-asks
returns-clause-asks g c =
    looks_on c.args.name.now (g.H.Host.asked c.args.host.now) (g.H.Host.asked c.measure.new.host) (g.H.Host.asked c.save_file-saved.new.host) c.measure.ensures.looks c.save_file-saved.ensures.looks

pub returns-clause-keeps : goal.returns-clause-keeps
returns-clause-keeps g c =
    let v = c.args.volume.now in
    let to = c.args.target.now in
    saved_serves g.D.Disk g.K.Sink g.H.Host c.args.name.now to.path.now to.load to.exec c.in-Ok.len v c.save_file-saved.new.volume c.args.disk.now c.save_file-saved.new.disk c.args.out.now c.tell_saved.new.out
    c.args.host.now c.measure.new.host c.save_file-saved.new.host
    (writable_by v to.path.now to.load to.exec c.requires.stands.agree (λ view sound parts.
    judged_by [] view v c.dir_form.result c.volume.inside.read_only c.space.result.now c.tree.result.now None (Model.Save to.path.now to.load to.exec []) c.dir_form.ensures c.space.ensures c.tree.ensures
    (ap (λ (w : Volume). w.read_only) c.volume.view_is) parts (λ held. (c.in_default.ensures.refusal [] view.layout view.listings to.load to.exec 0 [] sound held).0)))
    c.save_file-saved.result c.tell_saved.result c.save_file-saved.ensures c.tell_saved.ensures
