use Rattle.std.proofs.Common.{ℕ, [], sym, subst, ◌∙◌}
use Rattle.fc_device.proofs.DiskLaws.{laws}
use Rattle.fc_device.proofs.StopLemmas.{keeps_same, keeps_weaker}
use Rattle.fc_device.specs.Calls.{StopsAndExitsLeave}
use Rattle.fc_objects.specs.Extents.{sectors_in}
use Rattle.fc_objects.specs.Written.{HasParts, IsPartWritten}
use Rattle.fc_writing.specs.Content.{IsPart, stored}
use Rattle.fc_writing.proofs.ContentLemmas.{has_written, part_written}
use Rattle.fc_writing.proofs.pieces.store_in.Given.{Over}
use Rattle.fc_writing.proofs.pieces.store_in.Goals as goal
use Rattle.fc_writing.proofs.pieces.store_in.Goals.{After-write_object}

-- what the writer of the object leaves
left : (g : Over) (c : After-write_object g) → StopsAndExitsLeave g.D.Disk c.args.disk.now c.write_object.new.disk (IsPart c.args.size [] (stored c.args.size (sectors_in c.args.place.now) c.args.bytes.now))
left g c =
    keeps_weaker (laws g.met.D.Disk)
    (subst (λ (k : ℕ). StopsAndExitsLeave g.D.Disk c.args.disk.now c.write_object.new.disk (IsPartWritten k (sectors_in c.args.place.now) c.args.bytes.now)) c.requires.size (c.write_object.ensures.keeps c.requires.settled))
    (part_written c.args.size (sectors_in c.args.place.now) c.args.bytes.now)

pub returns-in_err-write_object-clause-keeps : goal.returns-in_err-write_object-clause-keeps
returns-in_err-write_object-clause-keeps g c = left g (goal.at.returns-in_err-write_object-clause-keeps g c).After-write_object

pub returns-in_err-sync-clause-keeps : goal.returns-in_err-sync-clause-keeps
returns-in_err-sync-clause-keeps g c = keeps_same (laws g.met.D.Disk) (left g (goal.at.returns-in_err-sync-clause-keeps g c).After-write_object) c.sync.ensures.stops c.sync.ensures.bytes

pub returns-clause-keeps : goal.returns-clause-keeps
returns-clause-keeps g c = keeps_same (laws g.met.D.Disk) (left g (goal.at.returns-clause-keeps g c).After-write_object) c.sync.ensures.stops c.sync.ensures.bytes

pub returns-clause-written : goal.returns-clause-written
returns-clause-written g c = λ once image is.
    has_written c.args.size (sectors_in c.args.place.now) c.args.bytes.now image
    (subst (λ (k : ℕ). HasParts k (sectors_in c.args.place.now) c.args.bytes.now image) c.requires.size (c.in_ok-write_object.ensures.written once image (sym c.sync.ensures.bytes ∙ is)))
