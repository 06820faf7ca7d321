use Rattle.std.proofs.Common.{List, ℕ, length, Ok, ap, subst, sym, ◌∙◌, arith}
use Rattle.fc_change.specs.declared.job.FileWords.{FileWords}
use Rattle.fc_change.specs.declared.job.ObjectWords.{ObjectWords}
use Rattle.fc_model.specs.Command.{Command as Model}
use Rattle.fc_script.specs.Reading.{command}
use Rattle.fc_volume.specs.Changing.{IsAsked}
use Rattle.fc_shell.proofs.AccessLemmas.{access_fits, bytes_fit}
use Rattle.fc_shell.proofs.change.change.Goals as goal

pub returns-in-Cdir : goal.returns-in-Cdir
returns-in-Cdir g c = subst (λ a. IsAsked g.D.Disk (command a) c.args.volume.now c.cdir.new.self c.args.disk.now c.cdir.new.disk c.cdir.result) (sym c.in-Cdir.is) c.cdir.ensures

pub returns-in-Delete : goal.returns-in-Delete
returns-in-Delete g c = subst (λ a. IsAsked g.D.Disk (command a) c.args.volume.now c.delete.new.self c.args.disk.now c.delete.new.disk c.delete.result) (sym c.in-Delete.is) c.delete.ensures

pub returns-in-Rename : goal.returns-in-Rename
returns-in-Rename g c = subst (λ a. IsAsked g.D.Disk (command a) c.args.volume.now c.rename.new.self c.args.disk.now c.rename.new.disk c.rename.result) (sym c.in-Rename.is) c.rename.ensures

-- ---- `set`

pub set-requires-clause-access : goal.set-requires-clause-access
set-requires-clause-access g c =
    let line = c.requires.spelled in
    let fits = access_fits line.0 _ _ _ _ (line.1 ∙ ap (λ a. Ok (command a)) c.in-Set.is) in
    let same = ap (λ (w : ObjectWords). w.access) c.object_words.ensures in
    omega (arith, fits, same)

pub returns-in-Set : goal.returns-in-Set
returns-in-Set g c =
    let done = subst (λ (w : ObjectWords). IsAsked g.D.Disk (Model.Set c.in-Set.path w.load w.exec w.access) c.args.volume.now c.set.new.self c.args.disk.now c.set.new.disk c.set.result) c.object_words.ensures c.set.ensures.asked in
    subst (λ a. IsAsked g.D.Disk (command a) c.args.volume.now c.set.new.self c.args.disk.now c.set.new.disk c.set.result) (sym c.in-Set.is) done

-- ---- `save` and `create`

pub overflow_cast-bytes : goal.overflow_cast-bytes
overflow_cast-bytes g c =
    let line = c.requires.spelled in
    let fits = bytes_fit line.0 _ _ _ _ (line.1 ∙ ap (λ a. Ok (command a)) c.in-Save.is) in
    let same = ap length c.list-bytes.ensures in
    omega (arith, fits, line.2, same)

pub save-requires-clause-length : goal.save-requires-clause-length
save-requires-clause-length g c =
    let line = c.requires.spelled in
    let fits = bytes_fit line.0 _ _ _ _ (line.1 ∙ ap (λ a. Ok (command a)) c.in-Save.is) in
    let same = ap length c.list-bytes.ensures in
    let words = ap (λ (w : FileWords). w.len) c.file_words-words.ensures in
    omega (arith, fits, line.2, same, words)

pub returns-in-Save : goal.returns-in-Save
returns-in-Save g c =
    let v = c.args.volume.now in
    let worded = subst (λ (w : FileWords). IsAsked g.D.Disk (Model.Save c.in-Save.path w.load w.exec c.list-bytes.result.now) v c.save.new.self c.args.disk.now c.save.new.disk c.save.result) c.file_words-words.ensures c.save.ensures in
    let done = subst (λ (bytes : List ℕ). IsAsked g.D.Disk (Model.Save c.in-Save.path c.in-Save.load c.in-Save.exec bytes) v c.save.new.self c.args.disk.now c.save.new.disk c.save.result) c.list-bytes.ensures worded in
    subst (λ a. IsAsked g.D.Disk (command a) v c.save.new.self c.args.disk.now c.save.new.disk c.save.result) (sym c.in-Save.is) done

pub returns-in-Create : goal.returns-in-Create
returns-in-Create g c =
    let done = subst (λ (w : FileWords). IsAsked g.D.Disk (Model.Create c.in-Create.path w.load w.exec w.len) c.args.volume.now c.create.new.self c.args.disk.now c.create.new.disk c.create.result) c.file_words.ensures c.create.ensures in
    subst (λ a. IsAsked g.D.Disk (command a) c.args.volume.now c.create.new.self c.args.disk.now c.create.new.disk c.create.result) (sym c.in-Create.is) done
