use Rattle.std.proofs.Common.{[], ◌∷◌, ◌≡◌, ◌≤◌, ◌*◌, ℕ, length, refl, sym, ap, subst, ◌∙◌, arith}
use Rattle.fc_device.specs.Sectors.{row_at}
use Rattle.fc_objects.specs.Extents.{sectors_in}
use Rattle.fc_objects.specs.Written.{AreApart}
use Rattle.std.proofs.lemmas.Result.{on_ok_weaker}
use Rattle.fc_device.proofs.DiskLaws.{laws}
use Rattle.fc_device.proofs.StopLemmas.{keeps_same, keeps_start, keeps_then, keeps_weaker}
use Rattle.fc_volume.proofs.OldWritingLemmas.{front_part, front_same, front_then, front_written, part_stored, row_long, row_low, stored_back}
use Rattle.fc_writing.proofs.FrontLemmas.{row_apart, row_is}
use Rattle.fc_volume.proofs.old.writing.write_front.Goals as goal

pub returns-clause-keeps : goal.returns-clause-keeps
returns-clause-keeps g c =
    keeps_then (laws g.met.D.Disk) (front_then c.args.size c.args.row.sectors)
    (keeps_same (laws g.met.D.Disk) (keeps_start (laws g.met.D.Disk) (front_same c.args.size c.args.row.sectors) c.args.disk.now c.requires.settled) c.read_row.ensures.stops c.read_row.ensures.bytes)
    (keeps_weaker (laws g.met.D.Disk) c.store_in.ensures.keeps (λ was image part.
    front_part c.args.size c.args.row.sectors c.args.row c.patch.new.front was image c.requires.first refl
    (part_stored c.args.size (sectors_in (c.args.row ∷ [])) c.patch.new.front was image part)))

pub store_in-requires-clause-on_disk : goal.store_in-requires-clause-on_disk
store_in-requires-clause-on_disk g c =
    row_low (g.D.Disk.sectors c.read_row.new.self) c.args.row c.requires.first (subst (λ (n : ℕ). c.args.row.sectors ≤ n) (sym c.read_row.ensures.form.sectors_stay) c.requires.on_disk)

pub returns-clause-written : goal.returns-clause-written
returns-clause-written g c =
    let long : length c.patch.new.front ≡ c.args.row.sectors * c.args.size = (let a = c.patch.auto.front in let b = c.read_row.auto.into in let w = c.requires.whole in omega (arith, a, b, w)) in
    let count = row_long c.args.row c.requires.first in
    on_ok_weaker c.store_in.result
    (λ written was told image now.
    front_written c.args.map.now c.args.size c.args.row was image c.read_row.new.into c.patch.new.front c.requires.first
    (c.in_ok-read_row.ensures.filled was told ∙ ap (λ (s : ℕ). row_at s was c.args.row.first c.args.row.sectors) c.requires.size) c.patch.ensures.bytes c.patch.ensures.long long
    (stored_back c.args.size (sectors_in (c.args.row ∷ [])) c.patch.new.front image (subst (λ (n : ℕ). length c.patch.new.front ≤ n * c.args.size) (sym count) (omega (arith, long)))
    (written (subst AreApart (sym (row_is c.args.row c.requires.first)) (row_apart c.args.row.sectors)) image now)))
    c.store_in.ensures.written
