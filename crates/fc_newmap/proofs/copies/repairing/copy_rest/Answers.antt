use Rattle.std.proofs.Common.{◌≡◌, ◌<◌, ◌+◌, ◌∙◌, ap, inr, ℕ, List, length, Some, arith}
use Rattle.fc_device.specs.Sectors.{sector_at}
use Rattle.fc_device.proofs.DiskLaws.{laws, form_same, form_then}
use Rattle.fc_newmap.specs.Passes.{zone_from}
use Rattle.fc_newmap.proofs.PassLemmas.{pass_same, pass_source, pass_start, pass_write, written_none, written_one, written_same}
use Rattle.fc_newmap.proofs.copies.repairing.copy_rest.Goals as goal

pub loop-z-init : goal.loop-z-init
loop-z-init g c =
    let law = laws g.met.D.Disk in
    let start = c.args.disk.now in
    let new_of : List ℕ → ℕ → List ℕ = λ was. zone_from (g.D.Disk.sector_size start) was c.args.from in
    record {
      form = form_same g.D.Disk start;
      passed = pass_start law start c.args.to 1 c.args.zones new_of c.requires.settled;
      written = written_none law start c.args.to 1 c.args.zones new_of start;
      calls = omega arith;
      faults = omega arith;
    }

pub returns-in_err-read-clause-keeps : goal.returns-in_err-read-clause-keeps
returns-in_err-read-clause-keeps g c =
    let start = c.args.disk.now in
    pass_same (laws g.met.D.Disk) start c.args.to 1 c.args.zones (λ was. zone_from (g.D.Disk.sector_size start) was c.args.from) c.loop-z.invariant.passed c.read.ensures.stops c.read.ensures.bytes

pub returns-in_err-write-clause-keeps : goal.returns-in_err-write-clause-keeps
returns-in_err-write-clause-keeps g c =
    let law = laws g.met.D.Disk in
    let d = g.D.Disk in
    let start = c.args.disk.now in
    let to = c.args.to in
    let new_of : List ℕ → ℕ → List ℕ = λ was. zone_from (d.sector_size start) was c.args.from in
    let was = c.loop-z.invariant in
    let read = pass_same law start to 1 c.args.zones new_of was.passed c.read.ensures.stops c.read.ensures.bytes in
    let form = form_then d was.form c.read.ensures.form in
    let place : to + c.from-in-loop-z.result ≡ to + c.loop-z.z = omega (arith, c.from-in-loop-z.ensures) in
    let inside : to + c.from-in-loop-z.result < d.sectors start = omega (arith, place, c.loop-z-test.true, c.requires.before, c.requires.on_disk) in
    let whole : length c.read.new.into ≡ d.sector_size start = omega (arith, c.read.auto.into, c.loop-z.auto.sector, c.requires.whole) in
    let source = pass_source law start to 1 c.args.zones new_of was.passed was.form.size_stays (c.args.from + c.from.result) (inr (omega (arith, c.requires.before))) c.read.new.into c.in_ok-read.ensures.filled in
    let piece_is : (image : List ℕ) → d.bytes start ≡ Some image → c.read.new.into ≡ new_of image c.loop-z.z =
    λ image told. source image told ∙ (let e : c.args.from + c.from.result ≡ c.args.from + c.loop-z.z = omega (arith, c.from.ensures) in ap (sector_at (d.sector_size start) image) e) in
    pass_write law start to 1 c.args.zones new_of c.read.new.self c.write.new.self read form.size_stays c.loop-z.z (to + c.from-in-loop-z.result) place c.loop-z.auto.z c.loop-z-test.true inside c.read.new.into whole piece_is c.write.ensures.stops c.write.ensures.old_or_new

pub loop-z-preserved : goal.loop-z-preserved
loop-z-preserved g c =
    let law = laws g.met.D.Disk in
    let d = g.D.Disk in
    let start = c.args.disk.now in
    let to = c.args.to in
    let new_of : List ℕ → ℕ → List ℕ = λ was. zone_from (d.sector_size start) was c.args.from in
    let was = c.loop-z.invariant in
    let read = pass_same law start to 1 c.args.zones new_of was.passed c.read.ensures.stops c.read.ensures.bytes in
    let form = form_then d was.form c.read.ensures.form in
    let place : to + c.from-in-loop-z.result ≡ to + c.loop-z.z = omega (arith, c.from-in-loop-z.ensures) in
    let inside : to + c.from-in-loop-z.result < d.sectors start = omega (arith, place, c.loop-z-test.true, c.requires.before, c.requires.on_disk) in
    let whole : length c.read.new.into ≡ d.sector_size start = omega (arith, c.read.auto.into, c.loop-z.auto.sector, c.requires.whole) in
    let source = pass_source law start to 1 c.args.zones new_of was.passed was.form.size_stays (c.args.from + c.from.result) (inr (omega (arith, c.requires.before))) c.read.new.into c.in_ok-read.ensures.filled in
    let piece_is : (image : List ℕ) → d.bytes start ≡ Some image → c.read.new.into ≡ new_of image c.loop-z.z =
    λ image told. source image told ∙ (let e : c.args.from + c.from.result ≡ c.args.from + c.loop-z.z = omega (arith, c.from.ensures) in ap (sector_at (d.sector_size start) image) e) in
    record {
      form = form_then d form c.write.ensures.form;
      passed = pass_write law start to 1 c.args.zones new_of c.read.new.self c.write.new.self read form.size_stays c.loop-z.z (to + c.from-in-loop-z.result) place c.loop-z.auto.z c.loop-z-test.true inside c.read.new.into whole piece_is c.write.ensures.stops c.write.ensures.old_or_new;
      written = written_one law start to 1 c.args.zones new_of c.read.new.self c.write.new.self read form.size_stays c.loop-z.z (to + c.from-in-loop-z.result) place c.loop-z.auto.z c.loop-z-test.true inside c.read.new.into whole piece_is (written_same law start to 1 c.args.zones new_of c.loop-z.z was.written c.read.ensures.bytes) c.in_ok-write.ensures.written;
      calls = omega (arith, was.calls, c.read.ensures.read_calls, c.write.ensures.read_calls);
      faults = omega (arith, was.faults, c.read.ensures.cause.later, c.write.ensures.cause.later);
    }

pub returns-in_err-sync-clause-keeps : goal.returns-in_err-sync-clause-keeps
returns-in_err-sync-clause-keeps g c =
    let start = c.args.disk.now in
    pass_same (laws g.met.D.Disk) start c.args.to 1 c.args.zones (λ was. zone_from (g.D.Disk.sector_size start) was c.args.from) c.loop-z.invariant.passed c.sync.ensures.stops c.sync.ensures.bytes

pub returns-clause-keeps : goal.returns-clause-keeps
returns-clause-keeps g c =
    let start = c.args.disk.now in
    pass_same (laws g.met.D.Disk) start c.args.to 1 c.args.zones (λ was. zone_from (g.D.Disk.sector_size start) was c.args.from) c.loop-z.invariant.passed c.sync.ensures.stops c.sync.ensures.bytes
