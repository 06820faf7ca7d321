use Rattle.std.proofs.Common.{[], ◌∷◌, ◌≡◌, ◌≤◌, ◌*◌, ◌∙◌, ℕ, length, sym, subst}
use Rattle.fc_device.proofs.DiskLaws.{laws}
use Rattle.fc_device.proofs.StopLemmas.{weaker}
use Rattle.fc_dirs.specs.Small.{tail_of}
use Rattle.std.proofs.lemmas.Result.{on_ok_weaker}
use Rattle.fc_objects.specs.Extents.{sectors_in}
use Rattle.fc_volume.specs.OldCompacting.{IsDirWritten}
use Rattle.fc_volume.proofs.OldRoomLemmas.{row_part}
use Rattle.fc_volume.proofs.RowsLemmas.{dir_written, one_row_apart, one_row_low, one_row_room}
use Rattle.fc_volume.proofs.OldWritingLemmas.{part_stored, stored_back}
use Rattle.fc_volume.proofs.old.compacting.writing.write_directory.Goals as goal

pub store_in-requires-clause-on_disk : goal.store_in-requires-clause-on_disk
store_in-requires-clause-on_disk g c = one_row_low (g.D.Disk.sectors c.args.disk.now) c.args.row c.requires.on_disk

pub returns-clause-written : goal.returns-clause-written
returns-clause-written g c =
    on_ok_weaker c.store_in.result
    (λ written was told.
    let d = g.D.Disk in
    let after = c.store_in.ensures.keeps.exit was told in
    let long : length c.write.new.b ≡ (tail_of c.args.dir.now.form).size = c.write.auto.b ∙ c.requires.whole in
    let size = c.requires.size in
    let back = stored_back c.args.size (sectors_in (c.args.row ∷ [])) c.write.new.b after.0 (one_row_room c.args.size (length c.write.new.b) c.args.row (subst (λ (n : ℕ). n ≤ c.args.row.sectors * c.args.size) (sym long) c.requires.room))
    (written (one_row_apart c.args.row) after.0 after.1) in (
      after.0,
      after.1,
      subst (λ (n : ℕ). IsDirWritten n c.args.row.first c.args.row.sectors c.args.dir.now was after.0) (sym size)
          (dir_written c.args.size c.args.row c.args.dir.now c.write.new.b was after.0 long c.write.ensures.written back (part_stored c.args.size (sectors_in (c.args.row ∷ [])) c.write.new.b was after.0 after.2)),
    )) c.store_in.ensures.written

pub returns-clause-stops : goal.returns-clause-stops
returns-clause-stops g c = weaker (laws g.met.D.Disk) (λ image. Unit {0}) c.store_in.ensures.keeps.stops (λ image left. tt)

pub returns-clause-told : goal.returns-clause-told
returns-clause-told g c = c.store_in.ensures.keeps.told

pub returns-clause-places : goal.returns-clause-places
returns-clause-places g c = λ was told. let w = c.store_in.ensures.keeps.exit was told in (w.0, w.1, row_part c.args.size c.args.row c.write.new.b was w.0 (part_stored c.args.size (sectors_in (c.args.row ∷ [])) c.write.new.b was w.0 w.2))
