use Rattle.std.proofs.Common.{◌≡◌, ◌<◌, ◌+◌, ◌∙◌, ap, inl, ℕ, List, length, Some, true, false, Bool, arith, Ok, refl, sym}
use Rattle.fc_device.specs.Sectors.{sector_at}
use Rattle.fc_device.proofs.DiskLaws.{laws, form_same, form_then}
use Rattle.fc_newmap.specs.Passes.{zone_from}
use Rattle.fc_newmap.proofs.PassLemmas.{found_one, pass_same, pass_source, pass_start, pass_write, written_none, written_one, written_same}
use Rattle.fc_newmap.proofs.copies.repairing.match_copy.Goals as goal
use Rattle.std.proofs.lemmas.Bool.{or_parts as none_of}

either : {A : Type 0} (b : Bool) → (b ≡ true → A) → (b ≡ false → A) → A
either true left right = left refl
either false left right = right refl

pub loop-z-init : goal.loop-z-init
loop-z-init g c =
    let law = laws g.met.D.Disk in
    let start = c.args.disk.now in
    let new_of : List ℕ → ℕ → List ℕ = λ was. zone_from (g.D.Disk.sector_size start) was c.args.from in
    record {
      form = form_same g.D.Disk start;
      passed = pass_start law start c.args.to 0 c.args.zones new_of c.requires.settled;
      written = written_none law start c.args.to 0 c.args.zones new_of start;
      quiet = λ none. c.requires.settled;
      calls = omega arith;
      faults = omega arith;
    }

pub returns-in_err-read-clause-keeps : goal.returns-in_err-read-clause-keeps
returns-in_err-read-clause-keeps g c =
    let start = c.args.disk.now in
    pass_same (laws g.met.D.Disk) start c.args.to 0 c.args.zones (λ was. zone_from (g.D.Disk.sector_size start) was c.args.from) c.loop-z.invariant.passed c.read.ensures.stops c.read.ensures.bytes

pub returns-in_err-read-2-clause-keeps : goal.returns-in_err-read-2-clause-keeps
returns-in_err-read-2-clause-keeps g c =
    let start = c.args.disk.now in
    let law = laws g.met.D.Disk in
    let new_of : List ℕ → ℕ → List ℕ = λ was. zone_from (g.D.Disk.sector_size start) was c.args.from in
    let one = pass_same law start c.args.to 0 c.args.zones new_of c.loop-z.invariant.passed c.read.ensures.stops c.read.ensures.bytes in
    pass_same law start c.args.to 0 c.args.zones new_of one c.read-in-loop-z.ensures.stops c.read-in-loop-z.ensures.bytes

pub returns-in_err-written-clause-keeps : goal.returns-in_err-written-clause-keeps
returns-in_err-written-clause-keeps g c =
    let law = laws g.met.D.Disk in
    let d = g.D.Disk in
    let start = c.args.disk.now in
    let to = c.args.to in
    let new_of : List ℕ → ℕ → List ℕ = λ was. zone_from (d.sector_size start) was c.args.from in
    let was = c.loop-z.invariant in
    let one = pass_same law start to 0 c.args.zones new_of was.passed c.read.ensures.stops c.read.ensures.bytes in
    let two = pass_same law start to 0 c.args.zones new_of one c.read-in-loop-z.ensures.stops c.read-in-loop-z.ensures.bytes in
    let form = form_then d (form_then d was.form c.read.ensures.form) c.read-in-loop-z.ensures.form in
    let at = to + c.from-in-loop-z-2.result in
    let place : at ≡ to + c.loop-z.z = omega (arith, c.from-in-loop-z-2.ensures) in
    let inside : at < d.sectors start = omega (arith, place, c.loop-z-test.true, c.requires.on_disk) in
    let piece = c.read.new.into in
    let whole : length piece ≡ d.sector_size start = omega (arith, c.read.auto.into, c.loop-z.auto.bytes, c.requires.whole) in
    let before : c.args.from + c.from.result < to + 0 = omega (arith, c.requires.behind, c.from.ensures, c.loop-z-test.true) in
    let source = pass_source law start to 0 c.args.zones new_of was.passed was.form.size_stays (c.args.from + c.from.result) (inl before) piece c.in_ok-read.ensures.filled in
    let piece_is : (image : List ℕ) → d.bytes start ≡ Some image → piece ≡ new_of image c.loop-z.z =
    λ image told. source image told ∙ (let e : c.args.from + c.from.result ≡ c.args.from + c.loop-z.z = omega (arith, c.from.ensures) in ap (sector_at (d.sector_size start) image) e) in
    pass_write law start to 0 c.args.zones new_of c.read-in-loop-z.new.self c.write_other.new.disk two form.size_stays c.loop-z.z at place (omega arith) c.loop-z-test.true inside piece whole piece_is c.write_other.ensures.stops c.write_other.ensures.old_or_new

pub loop-z-preserved : goal.loop-z-preserved
loop-z-preserved g c =
    let law = laws g.met.D.Disk in
    let d = g.D.Disk in
    let start = c.args.disk.now in
    let to = c.args.to in
    let new_of : List ℕ → ℕ → List ℕ = λ was. zone_from (d.sector_size start) was c.args.from in
    let was = c.loop-z.invariant in
    let one = pass_same law start to 0 c.args.zones new_of was.passed c.read.ensures.stops c.read.ensures.bytes in
    let two = pass_same law start to 0 c.args.zones new_of one c.read-in-loop-z.ensures.stops c.read-in-loop-z.ensures.bytes in
    let form = form_then d (form_then d was.form c.read.ensures.form) c.read-in-loop-z.ensures.form in
    let at = to + c.from-in-loop-z-2.result in
    let place : at ≡ to + c.loop-z.z = omega (arith, c.from-in-loop-z-2.ensures) in
    let inside : at < d.sectors start = omega (arith, place, c.loop-z-test.true, c.requires.on_disk) in
    let piece = c.read.new.into in
    let whole : length piece ≡ d.sector_size start = omega (arith, c.read.auto.into, c.loop-z.auto.bytes, c.requires.whole) in
    let before : c.args.from + c.from.result < to + 0 = omega (arith, c.requires.behind, c.from.ensures, c.loop-z-test.true) in
    let source = pass_source law start to 0 c.args.zones new_of was.passed was.form.size_stays (c.args.from + c.from.result) (inl before) piece c.in_ok-read.ensures.filled in
    let piece_is : (image : List ℕ) → d.bytes start ≡ Some image → piece ≡ new_of image c.loop-z.z =
    λ image told. source image told ∙ (let e : c.args.from + c.from.result ≡ c.args.from + c.loop-z.z = omega (arith, c.from.ensures) in ap (sector_at (d.sector_size start) image) e) in
    let mid = c.read-in-loop-z.new.self in
    let new = c.write_other.new.disk in
    let wrote = c.in_ok-written.written in
    let answer : c.write_other.result ≡ Ok wrote = c.in_ok-written.was in
    let kept = written_same law start to 0 c.args.zones new_of c.loop-z.z (written_same law start to 0 c.args.zones new_of c.loop-z.z was.written c.read.ensures.bytes) c.read-in-loop-z.ensures.bytes in
    record {
      form = form_then d form c.write_other.ensures.form;
      passed = pass_write law start to 0 c.args.zones new_of c.read-in-loop-z.new.self c.write_other.new.disk two form.size_stays c.loop-z.z at place (omega arith) c.loop-z-test.true inside piece whole piece_is c.write_other.ensures.stops c.write_other.ensures.old_or_new;
      written = either wrote
          (λ yes. written_one law start to 0 c.args.zones new_of mid new two form.size_stays c.loop-z.z at place (omega arith) c.loop-z-test.true inside piece whole piece_is kept (c.write_other.ensures.written (answer ∙ ap Ok yes)))
          (λ no.
          let same = c.write_other.ensures.same (answer ∙ ap Ok no) in
          found_one law start to 0 c.args.zones new_of mid new two form.size_stays c.loop-z.z at place (omega arith) c.loop-z-test.true inside piece whole piece_is kept same.1
          (λ image told.
          let e : to + c.from-in-loop-z.result ≡ at = omega (arith, c.from-in-loop-z.ensures, place) in
          sym same.0 ∙ c.in_ok-read-2.ensures.filled image (sym c.read-in-loop-z.ensures.bytes ∙ told)
          ∙ ap (λ n. sector_at n image (to + c.from-in-loop-z.result)) (sym c.read-in-loop-z.ensures.form.size_stays) ∙ ap (sector_at (d.sector_size mid) image) e));
      quiet = λ none.
          let neither = none_of c.loop-z.wrote wrote none in
          let same = c.write_other.ensures.same (answer ∙ ap Ok neither.1) in
          same.2 ∙ c.read-in-loop-z.ensures.pending ∙ c.read.ensures.pending ∙ was.quiet neither.0;
      calls = omega (arith, was.calls, c.read.ensures.read_calls, c.read-in-loop-z.ensures.read_calls, c.write_other.ensures.read_calls);
      faults = omega (arith, was.faults, c.read.ensures.cause.later, c.read-in-loop-z.ensures.cause.later, c.write_other.ensures.cause.later);
    }

pub returns-in_err-sync-clause-keeps : goal.returns-in_err-sync-clause-keeps
returns-in_err-sync-clause-keeps g c =
    let start = c.args.disk.now in
    pass_same (laws g.met.D.Disk) start c.args.to 0 c.args.zones (λ was. zone_from (g.D.Disk.sector_size start) was c.args.from) c.loop-z.invariant.passed c.sync.ensures.stops c.sync.ensures.bytes

pub returns-in_ok-sync-clause-keeps : goal.returns-in_ok-sync-clause-keeps
returns-in_ok-sync-clause-keeps g c =
    let start = c.args.disk.now in
    pass_same (laws g.met.D.Disk) start c.args.to 0 c.args.zones (λ was. zone_from (g.D.Disk.sector_size start) was c.args.from) c.loop-z.invariant.passed c.sync.ensures.stops c.sync.ensures.bytes
