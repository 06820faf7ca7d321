use Rattle.std.proofs.Common.{All, ◌<◌, ℕ, List, [], sym, ap, subst, ◌∙◌}
use Rattle.std.proofs.lemmas.Result.{on_ok_weaker}
use Rattle.std.specs.List.{flat_map}
use Rattle.fc_device.proofs.DiskLaws.{laws}
use Rattle.fc_device.proofs.StopLemmas.{led, one_told}
use Rattle.fc_device.specs.Calls.{StopsAndExitsLeave}
use Rattle.fc_record.specs.declared.Geometry.{Geometry}
use Rattle.fc_newmap.specs.Map.{map_sectors}
use Rattle.fc_newmap.proofs.PassLemmas.{keeps_on, keeps_told}
use Rattle.fc_newmap.specs.Copies.{ChangesCopies}
use Rattle.fc_objects.specs.Written.{AreApart}
use Rattle.fc_writing.specs.declared.ready.Piece.{Piece}
use Rattle.fc_writing.specs.Content.{IsPart}
use Rattle.fc_writing.specs.Ready.{content_of, late_content, place_of}
use Rattle.fc_writing.proofs.EarlyLemmas.{late_low, once_late}
use Rattle.fc_writing.proofs.NewLemmas.{equal_still, given, giving, late_put, putting}
use Rattle.fc_writing.proofs.StageLemmas.{keeps_both}
use Rattle.fc_writing.proofs.new.write_late.Given.{Over}
use Rattle.fc_writing.proofs.new.write_late.Goals as goal
use Rattle.fc_writing.proofs.new.write_late.Goals.{After-put}

pub put-requires-clause-on_disk : goal.put-requires-clause-on_disk
put-requires-clause-on_disk g c =
    subst (λ (ps : List Piece). All (λ s. s < g.D.Disk.sectors c.args.disk.now) (flat_map place_of ps)) (sym c.deref.ensures.value)
    (late_low (g.D.Disk.sectors c.args.disk.now) (map_sectors c.args.map.now.geometry) c.args.ready.now c.requires.put)

pub put-requires-clause-size : goal.put-requires-clause-size
put-requires-clause-size g c = c.requires.size ∙ ap (λ (h : Geometry). h.sector) (sym c.geometry.ensures.value)

pub put-requires-clause-once : goal.put-requires-clause-once
put-requires-clause-once g c =
    subst (λ (ps : List Piece). AreApart (flat_map place_of ps)) (sym c.deref.ensures.value) (once_late (g.D.Disk.sectors c.args.disk.now) (map_sectors c.args.map.now.geometry) c.args.ready.now c.requires.put)

-- what the pieces leave
left : (g : Over) (c : After-put g) → StopsAndExitsLeave g.D.Disk c.args.disk.now c.put.new.disk (IsPart c.args.map.now.geometry.sector [] (late_content c.args.map.now.geometry.sector c.args.ready.now))
left g c =
    subst (λ (ps : List Piece). StopsAndExitsLeave g.D.Disk c.args.disk.now c.put.new.disk (IsPart c.args.map.now.geometry.sector [] (flat_map (content_of c.args.map.now.geometry.sector) ps))) c.deref.ensures.value
    (subst (λ (h : Geometry). StopsAndExitsLeave g.D.Disk c.args.disk.now c.put.new.disk (IsPart h.sector [] (flat_map (content_of h.sector) c.deref.result.now))) c.geometry.ensures.value c.put.ensures.keeps)

pub returns-in_err-put-clause-keeps : goal.returns-in_err-put-clause-keeps
returns-in_err-put-clause-keeps g c =
    keeps_told (laws g.met.D.Disk) (left g (goal.at.returns-in_err-put-clause-keeps g c).After-put)
    (λ was image told part. putting c.args.map.now (g.D.Disk.sectors c.args.disk.now) c.args.ready.now c.requires.put was (c.requires.copies was told) image part)

pub make_step-requires-clause-copies : goal.make_step-requires-clause-copies
make_step-requires-clause-copies g c = λ image is.
    let was = led (laws g.met.D.Disk) (left g (goal.at.make_step-requires-clause-copies g c).After-put) image is in
    equal_still c.args.map.now (g.D.Disk.sectors c.args.disk.now) c.args.ready.now c.requires.put was.0 (c.requires.copies was.0 was.1) image was.2

pub returns-clause-keeps : goal.returns-clause-keeps
returns-clause-keeps g c =
    keeps_on (laws g.met.D.Disk) (left g (goal.at.returns-clause-keeps g c).After-put) (keeps_both g.D.Disk c.make_step.ensures.frame c.make_step.ensures.counts)
    (λ was image told part. putting c.args.map.now (g.D.Disk.sectors c.args.disk.now) c.args.ready.now c.requires.put was (c.requires.copies was told) image part)
    (λ was there image told told_mid part now.
    giving c.args.map.now (g.D.Disk.sectors c.args.disk.now) c.args.ready.now c.requires.put was (c.requires.copies was told) there part c.make_step.new.map image
    (late_put c.args.map.now.geometry c.geometry.result.now c.args.ready.now c.deref.result.now there c.geometry.ensures.value c.deref.ensures.value (c.in_ok-put.ensures.written there told_mid)) now.0 c.make_step.ensures.map now.1)

pub returns-clause-given : goal.returns-clause-given
returns-clause-given g c =
    on_ok_weaker c.make_step.result
    (λ equal was told image is.
    let law = laws g.met.D.Disk in
    let first = (left g (goal.at.returns-clause-given g c).After-put).exit was told in
    let second = led law c.make_step.ensures.frame image is in
    let there : List ℕ = first.0 in
    given c.args.map.now (g.D.Disk.sectors c.args.disk.now) c.args.ready.now c.requires.put was (c.requires.copies was told) there first.2 c.make_step.new.map image
    (late_put c.args.map.now.geometry c.geometry.result.now c.args.ready.now c.deref.result.now there c.geometry.ensures.value c.deref.ensures.value (c.in_ok-put.ensures.written there first.1))
    (subst (λ (b : List ℕ). ChangesCopies c.args.map.now.geometry b image) (one_told (sym second.1 ∙ first.1)) second.2) (equal image is))
    c.make_step.ensures.equal
