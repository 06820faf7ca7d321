use Rattle.std.proofs.Common.{◌∙◌, sym, ap, subst, arith, true, false}
use Rattle.fc_device.proofs.DiskLaws.{laws, form_same, form_then}
use Rattle.fc_device.proofs.StopLemmas.{goes_on, started}
use Rattle.fc_device.specs.Calls.{SameForm}
use Rattle.fc_changes.specs.old.Owed.{IsWritten}
use Rattle.fc_squash.specs.Places.{Leaves}
use Rattle.fc_squash.proofs.RoomLemmas.{leaves_same, leaves_then}
use Rattle.fc_squash.specs.Sliding.{TimeGoesOn}
use Rattle.fc_tree.specs.Nodes.{nodes_of}
use Rattle.fc_volume.specs.OldCompacting.{marks}
use Rattle.fc_volume.specs.declared.old.compacting.directories.Spare.{Spare}
use Rattle.fc_volume.proofs.NumbersLemmas.{mark_is}
use Rattle.fc_volume.proofs.OldChangeLemmas.{written_then}
use Rattle.fc_volume.proofs.OldRoomLemmas.{written_same}
use Rattle.fc_volume.proofs.RowsLemmas.{next_skipped, next_written, none_yet}
use Rattle.fc_volume.proofs.old.compacting.writing.write_directories.Goals as goal
use Rattle.fc_volume.proofs.old.compacting.writing.write_directories.Goals.{then-spares-n+in_ok-write_number, else-spares-n}

pub loop-n-init : goal.loop-n-init
loop-n-init g c = record {
  form = form_same g.D.Disk c.args.disk.now;
  written = λ was told. (was, told, none_yet c.args.map.now (nodes_of c.args.tree.now) c.requires.placed (marks c.args.spares.now) was);
  places = λ sectors have. leaves_same g.D.Disk (IsWritten c.args.map.now sectors) (written_same c.args.map.now sectors) c.args.disk.now;
  stops = started (laws g.met.D.Disk) c.args.disk.now (λ image. Unit {0}) (λ image left. tt);
  told = λ image told. (image, told);
  settled = c.requires.settled;
  faults = omega arith;
}

pub loop-n-preserved : goal.loop-n-preserved
loop-n-preserved g c =
    let d = g.D.Disk in
    let law = laws g.met.D.Disk in
    let was = c.loop-n.invariant in
    elim c.if-spares-n.branch [
      | then-spares-n+in_ok-write_number w ↦ record {
        form = subst (SameForm d c.args.disk.now) (sym w.disk-is) (form_then d was.form w.write_number.ensures.form);
        written = λ before told.
            (let mid = was.written before told in
            let e = w.in_ok-write_number.ensures.written mid.0 mid.1 in (
              e.0,
              ap d.bytes w.disk-is ∙ e.1,
              next_written c.args.map.now (nodes_of c.args.tree.now) c.requires.placed (marks c.args.spares.now) c.loop-n.n before mid.0 e.0
                  (mark_is c.args.spares.now c.loop-n.n c.index-spares-n.result true c.loop-n-test.true c.index-spares-n.is (ap (λ (x : Spare). x.changed) c.index-spares-n.is ∙ w.if-spares-n.true)) mid.2 e.2,
            ));
        places = λ sectors have.
            subst (λ (now : _). Leaves d c.args.disk.now now (IsWritten c.args.map.now sectors)) (sym w.disk-is)
            (leaves_then d (IsWritten c.args.map.now sectors) (IsWritten c.args.map.now sectors) (written_then c.args.map.now sectors) (was.places sectors have) (w.write_number.ensures.places sectors have));
        stops = subst (TimeGoesOn d c.args.disk.now) (sym w.disk-is) (goes_on law was.stops w.write_number.ensures.stops (λ image left. tt));
        told = λ image told. (let m = w.write_number.ensures.told image (ap d.bytes (sym w.disk-is) ∙ told) in was.told m.0 m.1);
        settled = ap d.pending w.disk-is ∙ w.in_ok-write_number.ensures.durable;
        faults = let e = ap d.faults w.disk-is in let l = was.faults in let m = w.write_number.ensures.cause.later in omega (arith, e, l, m);
      }
      | else-spares-n w ↦ record {
        form = subst (SameForm d c.args.disk.now) (sym w.disk-is) was.form;
        written = λ before told.
            (let mid = was.written before told in (
              mid.0,
              ap d.bytes w.disk-is ∙ mid.1,
              next_skipped c.args.map.now (nodes_of c.args.tree.now) c.requires.placed (marks c.args.spares.now) c.loop-n.n before mid.0
                  (mark_is c.args.spares.now c.loop-n.n c.index-spares-n.result false c.loop-n-test.true c.index-spares-n.is (ap (λ (x : Spare). x.changed) c.index-spares-n.is ∙ w.if-spares-n.false)) mid.2,
            ));
        places = λ sectors have. subst (λ (now : _). Leaves d c.args.disk.now now (IsWritten c.args.map.now sectors)) (sym w.disk-is) (was.places sectors have);
        stops = subst (TimeGoesOn d c.args.disk.now) (sym w.disk-is) was.stops;
        told = λ image told. was.told image (ap d.bytes (sym w.disk-is) ∙ told);
        settled = ap d.pending w.disk-is ∙ was.settled;
        faults = let e = ap d.faults w.disk-is in let l = was.faults in omega (arith, e, l);
      }
    ]

pub returns-in_err-write_number-clause-places : goal.returns-in_err-write_number-clause-places
returns-in_err-write_number-clause-places g c = λ sectors have.
    leaves_then g.D.Disk (IsWritten c.args.map.now sectors) (IsWritten c.args.map.now sectors) (written_then c.args.map.now sectors) (c.loop-n.invariant.places sectors have) (c.write_number.ensures.places sectors have)
