use Rattle.std.proofs.Common.{All, ◌≡◌, ◌<◌, ◌≤◌, ◌*◌, ℕ, List, length, take, refl, sym, subst, arith}
use Rattle.std.proofs.lemmas.Result.{on_ok_weaker}
use Rattle.fc_device.proofs.DiskLaws.{laws}
use Rattle.fc_device.proofs.StopLemmas.{keeps_same, keeps_start}
use Rattle.fc_newmap.proofs.PassLemmas.{keeps_on}
use Rattle.fc_objects.specs.Written.{AreApart}
use Rattle.fc_writing.specs.Old.{FrontLeaves, with_map}
use Rattle.fc_writing.proofs.FrontLemmas.{front_has, front_now, front_part, front_same, row_apart, row_is, row_low}
use Rattle.fc_writing.proofs.old_front.write_front.Goals as goal

pub returns-in_err-read_row-clause-keeps : goal.returns-in_err-read_row-clause-keeps
returns-in_err-read_row-clause-keeps g c =
    keeps_same (laws g.met.D.Disk)
    (keeps_start (laws g.met.D.Disk) (λ image. front_same c.args.size c.args.row.sectors (with_map c.args.map.now (take (c.args.row.sectors * c.args.size) image)) image) c.args.disk.now c.requires.settled)
    c.read_row.ensures.stops c.read_row.ensures.bytes

pub store_in-requires-clause-on_disk : goal.store_in-requires-clause-on_disk
store_in-requires-clause-on_disk g c =
    subst (λ (ss : List ℕ). All (λ s. s < g.D.Disk.sectors c.read_row.new.self) ss) (sym (row_is c.args.row c.requires.first))
    (row_low c.args.row.sectors (g.D.Disk.sectors c.read_row.new.self) (subst (λ (n : ℕ). c.args.row.sectors ≤ n) (sym c.read_row.ensures.form.sectors_stay) c.requires.on_disk))

pub returns-clause-keeps : goal.returns-clause-keeps
returns-clause-keeps g c =
    let law = laws g.met.D.Disk in
    let long : length c.patch.new.front ≡ c.args.row.sectors * c.args.size = (let a = c.patch.auto.front in let b = c.read_row.auto.into in let w = c.requires.whole in omega (arith, a, b, w)) in
    keeps_on law {P = λ was image. image ≡ was} (keeps_same law (keeps_start law {R = λ was image. image ≡ was} (λ image. refl) c.args.disk.now c.requires.settled) c.read_row.ensures.stops c.read_row.ensures.bytes) c.store_in.ensures.keeps
    (λ was image told same. subst (λ (b : List ℕ). FrontLeaves c.args.size c.args.row.sectors (with_map c.args.map.now (take (c.args.row.sectors * c.args.size) was)) was b) (sym same)
    (front_same c.args.size c.args.row.sectors (with_map c.args.map.now (take (c.args.row.sectors * c.args.size) was)) was))
    (λ was there image told told_mid same part.
    front_part c.args.size c.args.row c.patch.new.front (with_map c.args.map.now (take (c.args.row.sectors * c.args.size) was)) was there image c.requires.first long
    (front_now c.args.map.now c.args.size (g.D.Disk.sector_size c.args.disk.now) c.args.row.first c.args.row.sectors was c.read_row.new.into c.patch.new.front c.requires.size c.requires.first (c.in_ok-read_row.ensures.filled was told) c.patch.ensures)
    same part)

pub returns-clause-written : goal.returns-clause-written
returns-clause-written g c =
    let long : length c.patch.new.front ≡ c.args.row.sectors * c.args.size = (let a = c.patch.auto.front in let b = c.read_row.auto.into in let w = c.requires.whole in omega (arith, a, b, w)) in
    on_ok_weaker c.store_in.result
    (λ written was told image is.
    front_has c.args.size c.args.row c.patch.new.front (with_map c.args.map.now (take (c.args.row.sectors * c.args.size) was)) image c.requires.first long
    (front_now c.args.map.now c.args.size (g.D.Disk.sector_size c.args.disk.now) c.args.row.first c.args.row.sectors was c.read_row.new.into c.patch.new.front c.requires.size c.requires.first (c.in_ok-read_row.ensures.filled was told) c.patch.ensures)
    (written (subst (λ (ss : List ℕ). AreApart ss) (sym (row_is c.args.row c.requires.first)) (row_apart c.args.row.sectors)) image is))
    c.store_in.ensures.written
