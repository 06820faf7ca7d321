use Rattle.std.proofs.Common.{All, ◌≡◌, ◌<◌, ℕ, true, List, [], ◌++◌, sym, subst, ◌∙◌}
use Rattle.std.specs.List.{flat_map}
use Rattle.std.proofs.lemmas.Result.{on_ok_weaker}
use Rattle.fc_device.proofs.DiskLaws.{laws}
use Rattle.fc_device.proofs.StopLemmas.{keeps_weaker, led, one_told}
use Rattle.fc_device.specs.Calls.{StopsAndExitsLeave}
use Rattle.fc_newmap.proofs.PassLemmas.{keeps_on}
use Rattle.fc_image.specs.Layout.{is_apart}
use Rattle.fc_objects.specs.Written.{AreApart}
use Rattle.fc_writing.specs.declared.ready.Piece.{Piece}
use Rattle.fc_writing.specs.declared.ready.Transfer.{Transfer}
use Rattle.fc_writing.specs.Content.{HasContent, IsPart}
use Rattle.fc_writing.specs.Ready.{IsEnough, carried_by, content_of, from_of, place_of, source_content, to_of}
use Rattle.fc_writing.proofs.EarlyLemmas.{carried_from_low, carried_low, carried_others, has_three, has_two, once_carried, once_pieces, once_source, part_few, part_one, part_start, part_three, part_two, pieces_low, source_from_low, source_low, source_others}
use Rattle.fc_writing.proofs.pieces.put_early.Given.{Over}
use Rattle.fc_writing.proofs.pieces.put_early.Goals as goal
use Rattle.fc_writing.proofs.pieces.put_early.Goals.{After-carry}

pub write_source-requires-clause-from_disk : goal.write_source-requires-clause-from_disk
write_source-requires-clause-from_disk g c = source_from_low (g.D.Disk.sectors c.args.disk.now) [] c.args.ready.now c.requires.can

pub write_source-requires-clause-on_disk : goal.write_source-requires-clause-on_disk
write_source-requires-clause-on_disk g c = source_low (g.D.Disk.sectors c.args.disk.now) [] c.args.ready.now c.requires.can

pub write_source-requires-clause-once : goal.write_source-requires-clause-once
write_source-requires-clause-once g c = once_source (g.D.Disk.sectors c.args.disk.now) [] c.args.ready.now c.requires.can

pub write_source-requires-clause-others : goal.write_source-requires-clause-others
write_source-requires-clause-others g c = source_others (g.D.Disk.sectors c.args.disk.now) [] c.args.ready.now c.requires.can

pub carry-requires-clause-from_disk : goal.carry-requires-clause-from_disk
carry-requires-clause-from_disk g c =
    subst (λ (n : ℕ). All (λ s. s < n) (flat_map from_of c.deref.result.now)) (sym c.write_source.ensures.form.sectors_stay)
    (subst (λ (ts : List Transfer). All (λ s. s < g.D.Disk.sectors c.args.disk.now) (flat_map from_of ts)) (sym c.deref.ensures.value)
    (carried_from_low (g.D.Disk.sectors c.args.disk.now) [] c.args.ready.now c.requires.can))

pub carry-requires-clause-on_disk : goal.carry-requires-clause-on_disk
carry-requires-clause-on_disk g c =
    subst (λ (n : ℕ). All (λ s. s < n) (flat_map to_of c.deref.result.now)) (sym c.write_source.ensures.form.sectors_stay)
    (subst (λ (ts : List Transfer). All (λ s. s < g.D.Disk.sectors c.args.disk.now) (flat_map to_of ts)) (sym c.deref.ensures.value)
    (carried_low (g.D.Disk.sectors c.args.disk.now) [] c.args.ready.now c.requires.can))

pub carry-requires-clause-once : goal.carry-requires-clause-once
carry-requires-clause-once g c =
    subst (λ (ts : List Transfer). AreApart (flat_map to_of ts)) (sym c.deref.ensures.value) (once_carried (g.D.Disk.sectors c.args.disk.now) [] c.args.ready.now c.requires.can)

pub carry-requires-clause-others : goal.carry-requires-clause-others
carry-requires-clause-others g c =
    subst (λ (ts : List Transfer). is_apart (flat_map from_of ts) (flat_map to_of ts) ≡ true) (sym c.deref.ensures.value)
    (carried_others (g.D.Disk.sectors c.args.disk.now) [] c.args.ready.now c.requires.can)

pub carry-requires-clause-enough : goal.carry-requires-clause-enough
carry-requires-clause-enough g c = subst (λ (ts : List Transfer). All IsEnough ts) (sym c.deref.ensures.value) c.requires.can.enough

pub put-requires-clause-on_disk : goal.put-requires-clause-on_disk
put-requires-clause-on_disk g c =
    subst (λ (n : ℕ). All (λ s. s < n) (flat_map place_of c.deref-2.result.now)) (sym (c.carry.ensures.form.sectors_stay ∙ c.write_source.ensures.form.sectors_stay))
    (subst (λ (ps : List Piece). All (λ s. s < g.D.Disk.sectors c.args.disk.now) (flat_map place_of ps)) (sym c.deref-2.ensures.value)
    (pieces_low (g.D.Disk.sectors c.args.disk.now) [] c.args.ready.now c.requires.can))

pub put-requires-clause-once : goal.put-requires-clause-once
put-requires-clause-once g c =
    subst (λ (ps : List Piece). AreApart (flat_map place_of ps)) (sym c.deref-2.ensures.value) (once_pieces (g.D.Disk.sectors c.args.disk.now) [] c.args.ready.now c.requires.can)

pub returns-in_err-write_source-clause-keeps : goal.returns-in_err-write_source-clause-keeps
returns-in_err-write_source-clause-keeps g c =
    keeps_weaker (laws g.met.D.Disk) c.write_source.ensures.keeps
    (λ was image part. part_one (g.D.Disk.sectors c.args.disk.now) [] c.args.ready.now c.requires.can c.args.size c.args.bytes.now was image part)

-- after the new object and what is carried along
both : (g : Over) (c : After-carry g) → StopsAndExitsLeave g.D.Disk c.args.disk.now c.carry.new.disk
    (λ was image. IsPart c.args.size [] (source_content c.args.size was c.args.bytes.now c.args.ready.now.source ++ flat_map (carried_by c.args.size was) c.args.ready.now.carried.items) was image)
both g c =
    keeps_on (laws g.met.D.Disk) c.write_source.ensures.keeps c.carry.ensures.keeps
    (λ was image told part. part_start (g.D.Disk.sectors c.args.disk.now) [] c.args.ready.now c.requires.can c.args.size c.args.bytes.now was image part)
    (λ was there image told told_mid first second. part_two (g.D.Disk.sectors c.args.disk.now) [] c.args.ready.now c.requires.can c.args.size c.args.bytes.now was there first image
    (subst (λ (ts : List Transfer). IsPart c.args.size [] (flat_map (carried_by c.args.size there) ts) there image) c.deref.ensures.value second))

pub returns-in_err-carry-clause-keeps : goal.returns-in_err-carry-clause-keeps
returns-in_err-carry-clause-keeps g c =
    keeps_weaker (laws g.met.D.Disk) (both g (goal.at.returns-in_err-carry-clause-keeps g c).After-carry)
    (λ was image part. part_few (g.D.Disk.sectors c.args.disk.now) [] c.args.ready.now c.requires.can c.args.size c.args.bytes.now was image part)

pub returns-clause-keeps : goal.returns-clause-keeps
returns-clause-keeps g c =
    keeps_on (laws g.met.D.Disk) (both g (goal.at.returns-clause-keeps g c).After-carry) c.put.ensures.keeps
    (λ was image told part. part_few (g.D.Disk.sectors c.args.disk.now) [] c.args.ready.now c.requires.can c.args.size c.args.bytes.now was image part)
    (λ was there image told told_mid first third. part_three (g.D.Disk.sectors c.args.disk.now) [] c.args.ready.now c.requires.can c.args.size c.args.bytes.now was there image first
    (subst (λ (ps : List Piece). IsPart c.args.size [] (flat_map (content_of c.args.size) ps) there image) c.deref-2.ensures.value third))

pub returns-clause-written : goal.returns-clause-written
returns-clause-written g c =
    on_ok_weaker c.put.result
    (λ has was told image is.
    let law = laws g.met.D.Disk in
    let n = g.D.Disk.sectors c.args.disk.now in
    let r = c.args.ready.now in
    let size = c.args.size in
    let bytes = c.args.bytes.now in
    let first = c.write_source.ensures.keeps.exit was told in
    let second = c.carry.ensures.keeps.exit first.0 first.1 in
    let third = led law c.put.ensures.keeps image is in
    let mid : List ℕ = second.0 in
    has_three n [] r c.requires.can size bytes was mid image
    (has_two n [] r c.requires.can size bytes was first.0 first.2 mid (c.in_ok-write_source.ensures.written was told first.0 first.1)
    (subst (λ (ts : List Transfer). IsPart size [] (flat_map (carried_by size first.0) ts) first.0 mid) c.deref.ensures.value second.2)
    (subst (λ (ts : List Transfer). HasContent size (flat_map (carried_by size first.0) ts) mid) c.deref.ensures.value (c.in_ok-carry.ensures.written first.0 first.1 mid second.1)))
    (subst (λ (ps : List Piece). IsPart size [] (flat_map (content_of size) ps) mid image) c.deref-2.ensures.value
    (subst (λ (b : List ℕ). IsPart size [] (flat_map (content_of size) c.deref-2.result.now) b image) (one_told (sym third.1 ∙ second.1)) third.2))
    (subst (λ (ps : List Piece). HasContent size (flat_map (content_of size) ps) image) c.deref-2.ensures.value (has image is)))
    c.put.ensures.written
