use Rattle.std.proofs.Common.{◌≤◌, ◌+◌, ◌*◌, ℕ, sym, ap, subst, ◌∙◌}
use Rattle.std.proofs.lemmas.Result.{on_ok_weaker}
use Rattle.fc_device.proofs.DiskLaws.{laws}
use Rattle.fc_device.proofs.StopLemmas.{keeps_weaker, led}
use Rattle.fc_record.specs.declared.Geometry.{Geometry}
use Rattle.fc_newmap.specs.Map.{map_sectors}
use Rattle.fc_newmap.proofs.PassLemmas.{keeps_on}
use Rattle.fc_newmap.specs.Copies.{HoldsCopies}
use Rattle.fc_writing.specs.Ready.{CanPut}
use Rattle.fc_writing.proofs.NewLemmas.{all_done, early_leaves, late_leaves, reached_early, reached_late, step_geometry}
use Rattle.fc_writing.proofs.new.write_new.Goals as goal

pub returns-in_err-write_early-clause-keeps : goal.returns-in_err-write_early-clause-keeps
returns-in_err-write_early-clause-keeps g c = keeps_weaker (laws g.met.D.Disk) c.write_early.ensures.keeps (λ was image leaves. early_leaves c.args.map.now c.args.ready.now c.args.bytes.now was image leaves)

pub returns-in_err-write_early-clause-map : goal.returns-in_err-write_early-clause-map
returns-in_err-write_early-clause-map g c = reached_early c.args.map.now c.write_early.new.map c.args.ready.now c.write_early.ensures.map

pub write_late-requires-clause-size : goal.write_late-requires-clause-size
write_late-requires-clause-size g c =
    c.write_early.ensures.form.size_stays ∙ c.requires.size ∙ ap (λ (h : Geometry). h.sector) (sym (step_geometry c.args.map.now c.write_early.new.map c.args.ready.now.take c.in_ok-write_early.ensures.stepped))

pub write_late-requires-clause-on_disk : goal.write_late-requires-clause-on_disk
write_late-requires-clause-on_disk g c =
    subst (λ (h : Geometry). h.map_sector + 2 * h.zones ≤ g.D.Disk.sectors c.write_early.new.disk) (sym (step_geometry c.args.map.now c.write_early.new.map c.args.ready.now.take c.in_ok-write_early.ensures.stepped))
    (subst (λ (n : ℕ). c.args.map.now.geometry.map_sector + 2 * c.args.map.now.geometry.zones ≤ n) (sym c.write_early.ensures.form.sectors_stay) c.requires.on_disk)

pub write_late-requires-clause-put : goal.write_late-requires-clause-put
write_late-requires-clause-put g c =
    subst (λ (h : Geometry). CanPut (g.D.Disk.sectors c.write_early.new.disk) (map_sectors h) c.args.ready.now) (sym (step_geometry c.args.map.now c.write_early.new.map c.args.ready.now.take c.in_ok-write_early.ensures.stepped))
    (subst (λ (n : ℕ). CanPut n (map_sectors c.args.map.now.geometry) c.args.ready.now) (sym c.write_early.ensures.form.sectors_stay) c.requires.can.put)

pub write_late-requires-clause-give : goal.write_late-requires-clause-give
write_late-requires-clause-give g c = c.requires.can.give c.write_early.new.map c.in_ok-write_early.ensures.stepped

pub write_late-requires-clause-copies : goal.write_late-requires-clause-copies
write_late-requires-clause-copies g c = λ image is.
    let was = led (laws g.met.D.Disk) c.write_early.ensures.keeps image is in
    subst (λ (h : Geometry). HoldsCopies h c.write_early.new.map.zones image) (sym (step_geometry c.args.map.now c.write_early.new.map c.args.ready.now.take c.in_ok-write_early.ensures.stepped))
    (c.in_ok-write_early.ensures.taken was.0 was.1 image is).copies

pub returns-clause-keeps : goal.returns-clause-keeps
returns-clause-keeps g c =
    keeps_on (laws g.met.D.Disk) c.write_early.ensures.keeps c.write_late.ensures.keeps
    (λ was image told leaves. early_leaves c.args.map.now c.args.ready.now c.args.bytes.now was image leaves)
    (λ was there image told told_mid first leaves.
    late_leaves c.args.map.now c.write_early.new.map (g.D.Disk.sectors c.args.disk.now) c.args.ready.now c.args.bytes.now c.requires.can.put was there c.in_ok-write_early.ensures.stepped
    (c.in_ok-write_early.ensures.taken was told there told_mid) image leaves)

pub returns-clause-done : goal.returns-clause-done
returns-clause-done g c =
    on_ok_weaker c.write_late.result
    (λ given was told image is.
    let first = c.write_early.ensures.keeps.exit was told in
    all_done c.args.map.now c.write_early.new.map (g.D.Disk.sectors c.args.disk.now) c.args.ready.now c.args.bytes.now c.requires.can.put was first.0 c.in_ok-write_early.ensures.stepped
    (c.in_ok-write_early.ensures.taken was told first.0 first.1) c.write_late.new.map.zones image (given first.0 first.1 image is))
    c.write_late.ensures.given

pub returns-clause-map : goal.returns-clause-map
returns-clause-map g c = reached_late c.args.map.now c.write_early.new.map c.write_late.new.map c.args.ready.now c.in_ok-write_early.ensures.stepped c.write_late.ensures.map

pub returns-clause-given : goal.returns-clause-given
returns-clause-given g c =
    on_ok_weaker c.write_late.result (λ stepped. (c.write_early.new.map, c.in_ok-write_early.ensures.stepped, stepped)) c.write_late.ensures.stepped
