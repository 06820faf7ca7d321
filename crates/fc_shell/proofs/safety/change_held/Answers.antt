use Rattle.std.proofs.Common.{List, ℕ, Bool, length, Ok, Result, ap, subst, sym, ◌∙◌, arith}
use Rattle.std.specs.Prelude.{OnOk}
use Rattle.fc_device.specs.declared.disk.Disk.{Ghosts}
use Rattle.fc_device.specs.Calls.{StopsAndExitsLeave}
use Rattle.fc_change.specs.declared.job.FileWords.{FileWords}
use Rattle.fc_change.specs.declared.job.ObjectWords.{ObjectWords}
use Rattle.fc_holdings.specs.declared.holdings.Holdings.{Holdings}
use Rattle.fc_holdings.specs.Holdings.{parts_of}
use Rattle.fc_model.specs.Command.{Command as Model}
use Rattle.fc_safe.specs.declared.error.SafeError.{SafeError}
use Rattle.fc_safecommands.specs.Answers.{AnswersSafelyOver}
use Rattle.fc_safecommands.specs.Promises.{HasChangedSafely, LeavesTree, SafeKeeps, WritesFreeOf}
use Rattle.fc_script.specs.Reading.{command}
use Rattle.fc_shell.specs.Changing.{ChangesSafely}
use Rattle.fc_shell.proofs.AccessLemmas.{access_fits, bytes_fit}
use Rattle.fc_shell.proofs.safety.change_held.Goals as goal

-- five clauses as one
same : {D : Type 0} (d : Ghosts D) (c : Model) (read_only : Bool) (was h : Holdings) (old new : D) (answer : Result (Unit {0}) SafeError) → AnswersSafelyOver read_only c (parts_of was) answer
    → OnOk answer (HasChangedSafely d c (parts_of was) (parts_of h) old new) → StopsAndExitsLeave d old new (LeavesTree c (parts_of was)) → StopsAndExitsLeave d old new (WritesFreeOf (parts_of was))
    → SafeKeeps d old new was h answer → ChangesSafely d c read_only was h old new answer
same d c read_only was h old new answer refused changed tree free keeps = record { refused = refused; changed = changed; tree = tree; free = free; keeps = keeps }

pub returns-in-Cdir : goal.returns-in-Cdir
returns-in-Cdir g c = subst (λ a. ChangesSafely g.D.Disk (command a) c.args.read_only c.args.holdings.now c.cdir.new.holdings c.args.disk.now c.cdir.new.disk c.cdir.result) (sym c.in-Cdir.is) (same g.D.Disk _ c.args.read_only c.args.holdings.now c.cdir.new.holdings c.args.disk.now c.cdir.new.disk c.cdir.result c.cdir.ensures.refused c.cdir.ensures.changed c.cdir.ensures.tree c.cdir.ensures.free c.cdir.ensures.keeps)

pub returns-in-Delete : goal.returns-in-Delete
returns-in-Delete g c = subst (λ a. ChangesSafely g.D.Disk (command a) c.args.read_only c.args.holdings.now c.delete.new.holdings c.args.disk.now c.delete.new.disk c.delete.result) (sym c.in-Delete.is) (same g.D.Disk _ c.args.read_only c.args.holdings.now c.delete.new.holdings c.args.disk.now c.delete.new.disk c.delete.result c.delete.ensures.refused c.delete.ensures.changed c.delete.ensures.tree c.delete.ensures.free c.delete.ensures.keeps)

pub returns-in-Rename : goal.returns-in-Rename
returns-in-Rename g c = subst (λ a. ChangesSafely g.D.Disk (command a) c.args.read_only c.args.holdings.now c.rename.new.holdings c.args.disk.now c.rename.new.disk c.rename.result) (sym c.in-Rename.is) (same g.D.Disk _ c.args.read_only c.args.holdings.now c.rename.new.holdings c.args.disk.now c.rename.new.disk c.rename.result c.rename.ensures.refused c.rename.ensures.changed c.rename.ensures.tree c.rename.ensures.free c.rename.ensures.keeps)

-- ---- `set`

pub set-requires-clause-access : goal.set-requires-clause-access
set-requires-clause-access g c =
    let line = c.requires.spelled in
    let fits = access_fits line.0 _ _ _ _ (line.1 ∙ ap (λ a. Ok (command a)) c.in-Set.is) in
    let same = ap (λ (w : ObjectWords). w.access) c.object_words.ensures in
    omega (arith, fits, same)

pub returns-in-Set : goal.returns-in-Set
returns-in-Set g c =
    let w = c.object_words.result in
    let done = subst (λ (w : ObjectWords). ChangesSafely g.D.Disk (Model.Set c.in-Set.path w.load w.exec w.access) c.args.read_only c.args.holdings.now c.set.new.holdings c.args.disk.now c.set.new.disk c.set.result) c.object_words.ensures
    (same g.D.Disk (Model.Set c.in-Set.path w.load w.exec w.access) c.args.read_only c.args.holdings.now c.set.new.holdings c.args.disk.now c.set.new.disk c.set.result c.set.ensures.refused c.set.ensures.changed c.set.ensures.tree c.set.ensures.free c.set.ensures.keeps) in
    subst (λ a. ChangesSafely g.D.Disk (command a) c.args.read_only c.args.holdings.now c.set.new.holdings c.args.disk.now c.set.new.disk c.set.result) (sym c.in-Set.is) done

-- ---- `save` and `create`

pub overflow_cast-bytes : goal.overflow_cast-bytes
overflow_cast-bytes g c =
    let line = c.requires.spelled in
    let fits = bytes_fit line.0 _ _ _ _ (line.1 ∙ ap (λ a. Ok (command a)) c.in-Save.is) in
    let same = ap length c.list-bytes.ensures in
    omega (arith, fits, line.2, same)

pub save-requires-clause-length : goal.save-requires-clause-length
save-requires-clause-length g c =
    let line = c.requires.spelled in
    let fits = bytes_fit line.0 _ _ _ _ (line.1 ∙ ap (λ a. Ok (command a)) c.in-Save.is) in
    let same = ap length c.list-bytes.ensures in
    let words = ap (λ (w : FileWords). w.len) c.file_words-words.ensures in
    omega (arith, fits, line.2, same, words)

pub returns-in-Save : goal.returns-in-Save
returns-in-Save g c =
    let w = c.file_words-words.result in
    let worded = subst (λ (w : FileWords). ChangesSafely g.D.Disk (Model.Save c.in-Save.path w.load w.exec c.list-bytes.result.now) c.args.read_only c.args.holdings.now c.save.new.holdings c.args.disk.now c.save.new.disk c.save.result) c.file_words-words.ensures
    (same g.D.Disk (Model.Save c.in-Save.path w.load w.exec c.list-bytes.result.now) c.args.read_only c.args.holdings.now c.save.new.holdings c.args.disk.now c.save.new.disk c.save.result c.save.ensures.refused c.save.ensures.changed c.save.ensures.tree c.save.ensures.free c.save.ensures.keeps) in
    let done = subst (λ (bytes : List ℕ). ChangesSafely g.D.Disk (Model.Save c.in-Save.path c.in-Save.load c.in-Save.exec bytes) c.args.read_only c.args.holdings.now c.save.new.holdings c.args.disk.now c.save.new.disk c.save.result) c.list-bytes.ensures worded in
    subst (λ a. ChangesSafely g.D.Disk (command a) c.args.read_only c.args.holdings.now c.save.new.holdings c.args.disk.now c.save.new.disk c.save.result) (sym c.in-Save.is) done

pub returns-in-Create : goal.returns-in-Create
returns-in-Create g c =
    let w = c.file_words.result in
    let done = subst (λ (w : FileWords). ChangesSafely g.D.Disk (Model.Create c.in-Create.path w.load w.exec w.len) c.args.read_only c.args.holdings.now c.create.new.holdings c.args.disk.now c.create.new.disk c.create.result) c.file_words.ensures
    (same g.D.Disk (Model.Create c.in-Create.path w.load w.exec w.len) c.args.read_only c.args.holdings.now c.create.new.holdings c.args.disk.now c.create.new.disk c.create.result c.create.ensures.refused c.create.ensures.changed c.create.ensures.tree c.create.ensures.free c.create.ensures.keeps) in
    subst (λ a. ChangesSafely g.D.Disk (command a) c.args.read_only c.args.holdings.now c.create.new.holdings c.args.disk.now c.create.new.disk c.create.result) (sym c.in-Create.is) done
