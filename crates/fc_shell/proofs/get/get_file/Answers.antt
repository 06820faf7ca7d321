use Rattle.std.proofs.Common.{◌≡◌, ◌∙◌, [], Bool, true, false, Some, Result, Ok, Err, inl, inr, refl, sym, ap, subst}
use Rattle.std.proofs.lemmas.List.{append-nil}
use Rattle.std.proofs.lemmas.Result.{err_from_is_err_and}
use Rattle.fc_export.specs.declared.file.ExportFault.{ExportFault}
use Rattle.fc_export.specs.Exports.{Exported}
use Rattle.fc_export.specs.Readable.{told_bytes}
use Rattle.fc_names.specs.declared.refusal.Refusal.TheVariants.{HostExists}
use Rattle.fc_objects.specs.Extents.{sectors_in}
use Rattle.fc_script.specs.Texts.{ok_line, refusal_line}
use Rattle.fc_volume.specs.Answers.{ref_bytes}
use Rattle.fc_shell.specs.declared.moving.MoveFault.{MoveFault}
use Rattle.fc_shell.specs.Getting.{FileMoves}
use Rattle.fc_shell.proofs.GettingLemmas.{exported_asks, exported_made, exported_not, exported_there, told_file, told_place}
use Rattle.fc_shell.proofs.get.get_file.Goals as goal

pub returns-in_err-place-clause-moved : goal.returns-in_err-place-clause-moved
returns-in_err-place-clause-moved g c image told =
    let p = err_from_is_err_and c.from_residual.result c.from_residual.ensures.1 in
    let bytes = ref_bytes image c.args.volume.now c.args.file.now in
    let files = g.H.Host.files c.args.host.now in
    let taken = g.K.Sink.taken c.args.out.now in (
      [],
      sym (append-nil (g.H.Host.asked c.args.host.now)),
      subst (λ (r : Result Bool MoveFault). FileMoves c.args.name.now bytes [] files files taken taken r) (sym p.1)
          (inr (refl, record { begun = inl refl; files_left = λ held known. (held, known, inl refl); back = λ first host is. refl })),
    )

pub returns-in_err-place-clause-asks : goal.returns-in_err-place-clause-asks
returns-in_err-place-clause-asks g c = ([], sym (append-nil (g.H.Host.asked c.args.host.now)), inl refl)

pub returns-in_err-export-clause-asks : goal.returns-in_err-export-clause-asks
returns-in_err-export-clause-asks g c =
    let x = c.export.ensures.exported in
    (x.0, x.1, exported_asks c.args.name.now _ x.0 (g.H.Host.files c.args.host.now) (g.H.Host.files c.export.new.host) c.export.result x.2)

pub returns-in_err-export-clause-moved : goal.returns-in_err-export-clause-moved
returns-in_err-export-clause-moved g c image told =
    let p = err_from_is_err_and c.from_residual-in_err-export.result c.from_residual-in_err-export.ensures.1 in
    let x = c.export.ensures.exported in
    let v = c.args.volume.now in
    let file = c.args.file.now in
    let name = c.args.name.now in
    let files = g.H.Host.files c.args.host.now in
    let left = g.H.Host.files c.export.new.host in
    let taken = g.K.Sink.taken c.args.out.now in
    let fault : ExportFault = c.in_err-export.field-0.0 in
    let bytes = ref_bytes image v file in
    let known = told_bytes g.D.Disk c.args.disk.now c.sector_bytes-size.result (sectors_in c.deref.result.now) file.len in
    let is : known ≡ Some bytes =
    told_place g.D.Disk c.args.disk.now image v file c.deref.result.now c.in_ok-place.place.items c.sector_bytes-size.result c.space.result.now c.in_ok-place.ensures
    c.requires.named c.deref.ensures.value c.space.ensures c.sector_bytes-size.ensures told in
    let failed : Exported name known x.0 files left (Err fault) = subst (λ (r : Result Bool ExportFault). Exported name known x.0 files left r) c.in_err-export.was x.2 in (
      x.0,
      x.1,
      subst (λ (r : Result Bool MoveFault). FileMoves name bytes x.0 files left taken taken r) (sym p.1) (inr (refl, exported_not name known x.0 files left bytes fault is failed)),
    )

made_or_not : (r : Result Bool ExportFault) (b made : Bool) → r ≡ Ok b → b ≡ made → r ≡ Ok made
made_or_not r b made is same = is ∙ ap Ok same

pub returns-then-not-branch-clause-moved : goal.returns-then-not-branch-clause-moved
returns-then-not-branch-clause-moved g c image told =
    let x = c.export.ensures.exported in
    let v = c.args.volume.now in
    let file = c.args.file.now in
    let name = c.args.name.now in
    let files = g.H.Host.files c.args.host.now in
    let left = g.H.Host.files c.export.new.host in
    let taken = g.K.Sink.taken in
    let bytes = ref_bytes image v file in
    let known = told_bytes g.D.Disk c.args.disk.now c.sector_bytes-size.result (sectors_in c.deref.result.now) file.len in
    let there : c.export.result ≡ Ok false = made_or_not c.export.result c.in_ok-export.field-0 false c.in_ok-export.was c.if-not-branch.true in
    let made : Exported name known x.0 files left (Ok false) = subst (λ (r : Result Bool ExportFault). Exported name known x.0 files left r) there x.2 in (
      x.0,
      x.1,
      subst (λ (r : Result Bool MoveFault). FileMoves name bytes x.0 files left (taken c.args.out.now) (taken c.tell.new.out) r) (sym c.moved.ensures)
          (told_file name bytes x.0 files left (taken c.args.out.now) (taken c.tell.new.out) (refusal_line HostExists) (exported_there name known x.0 files left bytes made) c.tell.result c.tell.ensures.only.no_disk
          (c.tell.ensures.answered (refusal_line HostExists) c.refusal.ensures)),
    )

pub returns-clause-moved : goal.returns-clause-moved
returns-clause-moved g c image told =
    let x = c.export.ensures.exported in
    let v = c.args.volume.now in
    let file = c.args.file.now in
    let name = c.args.name.now in
    let files = g.H.Host.files c.args.host.now in
    let left = g.H.Host.files c.export.new.host in
    let taken = g.K.Sink.taken in
    let bytes = ref_bytes image v file in
    let known = told_bytes g.D.Disk c.args.disk.now c.sector_bytes-size.result (sectors_in c.deref.result.now) file.len in
    let is : known ≡ Some bytes =
    told_place g.D.Disk c.args.disk.now image v file c.deref.result.now c.in_ok-place.place.items c.sector_bytes-size.result c.space.result.now c.in_ok-place.ensures
    c.requires.named c.deref.ensures.value c.space.ensures c.sector_bytes-size.ensures told in
    let whole : c.export.result ≡ Ok true = made_or_not c.export.result c.in_ok-export.field-0 true c.in_ok-export.was c.if-not-branch.false in
    let made : Exported name known x.0 files left (Ok true) = subst (λ (r : Result Bool ExportFault). Exported name known x.0 files left r) whole x.2 in (
      x.0,
      x.1,
      subst (λ (r : Result Bool MoveFault). FileMoves name bytes x.0 files left (taken c.args.out.now) (taken c.tell_done.new.out) r) (sym c.moved-2.ensures)
          (told_file name bytes x.0 files left (taken c.args.out.now) (taken c.tell_done.new.out) ok_line (exported_made name known x.0 files left bytes is made) c.tell_done.result c.tell_done.ensures.only.no_disk
          c.tell_done.ensures.answered),
    )

pub returns-clause-asks : goal.returns-clause-asks
returns-clause-asks g c =
    let x = c.export.ensures.exported in
    (x.0, x.1, exported_asks c.args.name.now _ x.0 (g.H.Host.files c.args.host.now) (g.H.Host.files c.export.new.host) c.export.result x.2)
