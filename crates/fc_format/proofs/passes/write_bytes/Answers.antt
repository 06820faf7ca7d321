use Rattle.std.proofs.Common.{◌+◌, ◌-◌, ◌*◌, ◌≤◌, ◌++◌, List, length, take, drop, ℕ, refl, subst, arith}
use Rattle.std.proofs.lemmas.List.{length-take-le}
use Rattle.fc_device.proofs.DiskLaws.{form_same, form_then}
use Rattle.fc_format.specs.Passes.{LengthensFront}
use Rattle.fc_format.proofs.PassLemmas.{behind_none, behind_then, lengthens_none, lengthens_then, sector_more}
use Rattle.fc_format.proofs.passes.write_bytes.Goals as goal

pub loop-i-init : goal.loop-i-init
loop-i-init g c = record {
  form = form_same g.D.Disk c.args.disk.now;
  front = lengthens_none g.D.Disk c.args.disk.now (256 * c.args.first);
  keeps = behind_none g.D.Disk c.args.disk.now _;
  faults = omega arith;
}

pub loop-i-preserved : goal.loop-i-preserved
loop-i-preserved g c =
    let d = g.D.Disk in
    let was = c.loop-i.invariant in
    let i = c.loop-i.i in
    let bytes = c.args.bytes.now in
    let first = c.args.first in
    let start = c.args.disk.now in
    let mid = c.loop-i.disk in
    let new = c.write_sector.new.disk in
    let piece = take (i * 256 + 256 - i * 256) (drop (i * 256) bytes) in
    let inside : 256 * i ≤ length bytes = omega (arith, c.loop-i-test.true, c.loop-i.auto.i-end) in
    let front : LengthensFront d start new (256 * first) (take (256 * i) bytes ++ piece) =
    lengthens_then d start mid new (256 * first) (256 * (first + i)) (take (256 * i) bytes) piece (omega (arith, length-take-le (256 * i) bytes inside)) was.front c.in_ok-write_sector.ensures.front in
    record {
      form = form_then d was.form c.write_sector.ensures.form;
      front = subst (λ (l : List ℕ). LengthensFront d start new (256 * first) l) (sector_more bytes i (i * 256) refl) front;
      keeps = behind_then d start mid new (256 * (first + i)) (256 * (first + i + 1)) _ (omega arith) (omega arith) was.keeps c.write_sector.ensures.keeps;
      faults = omega (arith, was.faults, c.write_sector.ensures.cause.later);
    }

pub returns-in_err-write_sector-clause-keeps : goal.returns-in_err-write_sector-clause-keeps
returns-in_err-write_sector-clause-keeps g c =
    behind_then g.D.Disk c.args.disk.now c.loop-i.disk c.write_sector.new.disk (256 * (c.args.first + c.loop-i.i)) (256 * (c.args.first + c.loop-i.i + 1)) _
    (omega (arith, c.loop-i-test.true)) (omega (arith, c.loop-i-test.true)) c.loop-i.invariant.keeps c.write_sector.ensures.keeps

pub returns-clause-keeps : goal.returns-clause-keeps
returns-clause-keeps g c = λ start n le was. c.loop-i.invariant.keeps start n (omega (arith, le, c.loop-i.auto.i-end)) was
