use Rattle.std.proofs.Common.{◌≡◌, ◌+◌, ◌-◌, ◌*◌, ◌++◌, List, length, replicate, ℕ, subst, sym, arith}
use Rattle.std.proofs.lemmas.List.{length-replicate}
use Rattle.fc_device.proofs.DiskLaws.{form_same, form_then}
use Rattle.fc_format.specs.Passes.{LengthensFront}
use Rattle.fc_format.proofs.PassLemmas.{behind_none, behind_then, lengthens_none, lengthens_then, zeros_more}
use Rattle.fc_format.proofs.passes.write_zeros.Goals as goal

pub loop-n-init : goal.loop-n-init
loop-n-init g c =
    let d = g.D.Disk in
    let first = c.args.first in
    let none : 256 * (first - first) ≡ 0 = omega arith in
    record {
      form = form_same d c.args.disk.now;
      front = subst (λ (n : ℕ). LengthensFront d c.args.disk.now c.args.disk.now (256 * first) (replicate n 0)) (sym none) (lengthens_none d c.args.disk.now (256 * first));
      keeps = behind_none d c.args.disk.now _;
      faults = omega arith;
    }

pub loop-n-preserved : goal.loop-n-preserved
loop-n-preserved g c =
    let d = g.D.Disk in
    let was = c.loop-n.invariant in
    let n = c.loop-n.n in
    let first = c.args.first in
    let start = c.args.disk.now in
    let mid = c.loop-n.disk in
    let new = c.write_sector.new.disk in
    let done = 256 * (n - first) in
    let long : 256 * first + length (replicate {A = ℕ} done 0) ≡ 256 * n = omega (arith, length-replicate {A = ℕ} done 0, c.loop-n.auto.n) in
    let front : LengthensFront d start new (256 * first) (replicate done 0 ++ replicate 256 0) =
    lengthens_then d start mid new (256 * first) (256 * n) (replicate done 0) (replicate 256 0) long was.front c.in_ok-write_sector.ensures.front in
    record {
      form = form_then d was.form c.write_sector.ensures.form;
      front = subst (λ (l : List ℕ). LengthensFront d start new (256 * first) l) (zeros_more done (256 * (n + 1 - first)) (omega (arith, c.loop-n.auto.n))) front;
      keeps = behind_then d start mid new (256 * n) (256 * (n + 1)) _ (omega arith) (omega arith) was.keeps c.write_sector.ensures.keeps;
      faults = omega (arith, was.faults, c.write_sector.ensures.cause.later);
    }

pub returns-in_err-write_sector-clause-keeps : goal.returns-in_err-write_sector-clause-keeps
returns-in_err-write_sector-clause-keeps g c =
    behind_then g.D.Disk c.args.disk.now c.loop-n.disk c.write_sector.new.disk (256 * c.loop-n.n) (256 * (c.loop-n.n + 1)) _
    (omega (arith, c.loop-n-test.true)) (omega (arith, c.loop-n-test.true)) c.loop-n.invariant.keeps c.write_sector.ensures.keeps

pub returns-clause-keeps : goal.returns-clause-keeps
returns-clause-keeps g c = λ start n le was. c.loop-n.invariant.keeps start n (omega (arith, le, c.loop-n.auto.n-end)) was
