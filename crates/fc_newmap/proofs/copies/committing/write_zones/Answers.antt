use Rattle.std.proofs.Common.{◌≡◌, ◌<◌, ◌+◌, ◌∙◌, ap, sym, refl, ℕ, List, length, get_or, Some, arith}
use Rattle.std.proofs.lemmas.List.Elements.{All-get_or}
use Rattle.fc_device.proofs.DiskLaws.{laws, form_same, form_then}
use Rattle.fc_newmap.specs.Map.{sector_of}
use Rattle.fc_newmap.proofs.PassLemmas.{each_none, each_one, pass_same, pass_start, pass_write}
use Rattle.fc_newmap.proofs.copies.committing.write_zones.Goals as goal

pub loop-z-init : goal.loop-z-init
loop-z-init g c =
    let start = c.args.disk.now in
    record {
      form = form_same g.D.Disk start;
      passed = pass_start (laws g.met.D.Disk) start c.args.start 0 c.args.map.now.geometry.zones (λ was. sector_of c.args.map.now) c.requires.settled;
      written = each_none (laws g.met.D.Disk) start c.args.start 0 c.args.map.now.geometry.zones (λ was. sector_of c.args.map.now) c.args.changed.now start;
      calls = refl;
      faults = omega arith;
    }

pub returns-in_err-write-clause-keeps : goal.returns-in_err-write-clause-keeps
returns-in_err-write-clause-keeps g c =
    let law = laws g.met.D.Disk in
    let d = g.D.Disk in
    let start = c.args.disk.now in
    let m = c.args.map.now in
    let zones = m.geometry.zones in
    let new_of : List ℕ → ℕ → List ℕ = λ was. sector_of m in
    let was = c.loop-z.invariant in
    let z = get_or c.args.changed.now c.loop-z.z-index 0 in
    let at = c.args.start + c.from.result in
    let place : at ≡ c.args.start + z = ap (λ n. c.args.start + n) c.from.ensures in
    let below : z < zones = All-get_or (λ (y : ℕ). y < zones) c.args.changed.now c.loop-z.z-index 0 c.loop-z-test.true c.requires.zones in
    let inside : at < d.sectors start = omega (arith, place, below, c.requires.on_disk) in
    let piece = c.bytes.result.now in
    let whole : length piece ≡ d.sector_size start = c.bytes.ensures.long ∙ sym c.requires.size in
    let piece_is : (image : List ℕ) → d.bytes start ≡ Some image → piece ≡ new_of image z = λ image told. c.bytes.ensures.value in
    let passed = pass_write law start c.args.start 0 zones new_of c.loop-z.disk c.write.new.self was.passed was.form.size_stays z at place (omega arith) below inside piece whole piece_is c.write.ensures.stops c.write.ensures.old_or_new in
    passed

pub loop-z-preserved : goal.loop-z-preserved
loop-z-preserved g c =
    let law = laws g.met.D.Disk in
    let d = g.D.Disk in
    let start = c.args.disk.now in
    let m = c.args.map.now in
    let zones = m.geometry.zones in
    let new_of : List ℕ → ℕ → List ℕ = λ was. sector_of m in
    let was = c.loop-z.invariant in
    let z = get_or c.args.changed.now c.loop-z.z-index 0 in
    let at = c.args.start + c.from.result in
    let place : at ≡ c.args.start + z = ap (λ n. c.args.start + n) c.from.ensures in
    let below : z < zones = All-get_or (λ (y : ℕ). y < zones) c.args.changed.now c.loop-z.z-index 0 c.loop-z-test.true c.requires.zones in
    let inside : at < d.sectors start = omega (arith, place, below, c.requires.on_disk) in
    let piece = c.bytes.result.now in
    let whole : length piece ≡ d.sector_size start = c.bytes.ensures.long ∙ sym c.requires.size in
    let piece_is : (image : List ℕ) → d.bytes start ≡ Some image → piece ≡ new_of image z = λ image told. c.bytes.ensures.value in
    let passed = pass_write law start c.args.start 0 zones new_of c.loop-z.disk c.write.new.self was.passed was.form.size_stays z at place (omega arith) below inside piece whole piece_is c.write.ensures.stops c.write.ensures.old_or_new in
    record {
      form = form_then d was.form c.write.ensures.form;
      passed = passed;
      written = each_one law start c.args.start 0 zones new_of c.loop-z.disk c.write.new.self was.passed was.form.size_stays z at place (omega arith) below inside piece whole piece_is c.args.changed.now c.loop-z.z-index refl was.written c.in_ok-write.ensures.written;
      calls = c.write.ensures.read_calls ∙ was.calls;
      faults = omega (arith, was.faults, c.write.ensures.cause.later);
    }

pub returns-in_err-sync-clause-keeps : goal.returns-in_err-sync-clause-keeps
returns-in_err-sync-clause-keeps g c =
    pass_same (laws g.met.D.Disk) c.args.disk.now c.args.start 0 c.args.map.now.geometry.zones (λ was. sector_of c.args.map.now) c.loop-z.invariant.passed c.sync.ensures.stops c.sync.ensures.bytes

pub returns-clause-keeps : goal.returns-clause-keeps
returns-clause-keeps g c =
    pass_same (laws g.met.D.Disk) c.args.disk.now c.args.start 0 c.args.map.now.geometry.zones (λ was. sector_of c.args.map.now) c.loop-z.invariant.passed c.sync.ensures.stops c.sync.ensures.bytes

pub returns-clause-written : goal.returns-clause-written
returns-clause-written g c = λ was told image is k lt. c.loop-z.invariant.written was told image (sym c.sync.ensures.bytes ∙ is) k (omega (arith, lt, c.loop-z-test.false))
