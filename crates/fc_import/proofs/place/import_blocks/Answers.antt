use Rattle.std.proofs.Common.{◌≡◌, ◌∙◌, ℕ, Result, Ok, Err, sym, ap, subst, length, arith}
use Rattle.std.specs.Prelude.{OnOk}
use Rattle.std.proofs.lemmas.Result.{err_from_is_err_and}
use Rattle.fc_device.specs.declared.disk.Failed.{Failed}
use Rattle.fc_device.proofs.DiskLaws.{laws}
use Rattle.fc_objects.specs.Extents.{sectors_in}
use Rattle.fc_import.specs.declared.place.ImportFault.{ImportFault}
use Rattle.fc_import.specs.Imports.{Fills, HasCauses}
use Rattle.fc_import.proofs.ImportLemmas.{causes_ok, causes_then, fills_failed, fills_then}
use Rattle.fc_import.proofs.place.import_blocks.Goals as goal

pub returns-in_err-left-clause-fills : goal.returns-in_err-left-clause-fills
returns-in_err-left-clause-fills g c =
    let p = err_from_is_err_and c.from_residual.result c.from_residual.ensures.1 in
    let is = p.1 ∙ ap (λ (x : ImportFault). let r : Result (Unit {0}) ImportFault = Err x in r) p.2 in
    fills_failed (laws g.met.D.Disk) g.B.Supply (sectors_in c.args.place.now) c.args.disk.now c.import_place.new.disk c.args.from.now c.import_place.new.from c.import_place.new.from c.requires.fresh
    c.in_err-left.field-0.0 c.from_residual.result is c.in_err-left.ensures.imports

pub returns-in_err-left-clause-causes : goal.returns-in_err-left-clause-causes
returns-in_err-left-clause-causes g c =
    let p = err_from_is_err_and c.from_residual.result c.from_residual.ensures.1 in
    let failed : Result ℕ ImportFault = Err c.in_err-left.field-0.0 in
    let is = p.1 ∙ ap (λ (x : ImportFault). let r : Result (Unit {0}) ImportFault = Err x in r) p.2 in
    causes_then (laws g.met.D.Disk) g.B.Supply c.args.disk.now c.args.disk.now c.import_place.new.disk c.args.from.now c.args.from.now c.import_place.new.from failed c.from_residual.result (omega arith) (omega arith)
    c.in_err-left.ensures.causes (λ fault e. same c.in_err-left.field-0.0 fault (sym is ∙ e))
  where
    same : (x y : ImportFault) → (let r : Result (Unit {0}) ImportFault = Err x in r) ≡ Err y → (let r : Result ℕ ImportFault = Err x in r) ≡ Err y
    same x y e = cc

pub returns-in_err-drain-clause-fills : goal.returns-in_err-drain-clause-fills
returns-in_err-drain-clause-fills g c =
    let b = g.B.Supply in
    let p = err_from_is_err_and c.from_residual-in_err-drain.result c.from_residual-in_err-drain.ensures.1 in
    let failed : Result (Unit {0}) Failed = Err c.in_err-drain.field-0.0 in
    fills_then (laws g.met.D.Disk) b (sectors_in c.args.place.now) c.args.disk.now c.import_place.new.disk c.args.from.now c.import_place.new.from c.drain.new.from c.requires.fresh
    c.in_ok-left.left c.in_ok-left.left failed c.from_residual-in_err-drain.result c.in_ok-left.ensures.left c.in_ok-left.ensures.imports c.in_err-drain.ensures.drained
    (λ x. subst (λ (r : Result (Unit {0}) ImportFault). OnOk r (length (b.given c.drain.new.from) ≡ b.total c.args.from.now)) (sym p.1) tt)

pub returns-in_err-drain-clause-causes : goal.returns-in_err-drain-clause-causes
returns-in_err-drain-clause-causes g c =
    let p = err_from_is_err_and c.from_residual-in_err-drain.result c.from_residual-in_err-drain.ensures.1 in
    let is = p.1 ∙ ap (λ (x : ImportFault). let r : Result (Unit {0}) ImportFault = Err x in r) p.2 in
    let causes = c.in_ok-left.ensures.causes in
    let rose = c.in_err-drain.ensures.cause.failed in
    subst (HasCauses g.D.Disk g.B.Supply c.args.disk.now c.import_place.new.disk c.args.from.now c.drain.new.from) (sym is)
    (record {
      disk_later = causes.disk_later;
      supply_later = omega (arith, causes.supply_later, c.in_err-drain.ensures.cause.later);
      disk = λ e. absurd (cc);
      supply_fails = λ e. omega (arith, causes.supply_later, rose);
    })

pub returns-clause-fills : goal.returns-clause-fills
returns-clause-fills g c =
    let done : Result (Unit {0}) Failed = Ok tt in
    fills_then (laws g.met.D.Disk) g.B.Supply (sectors_in c.args.place.now) c.args.disk.now c.import_place.new.disk c.args.from.now c.import_place.new.from c.drain.new.from c.requires.fresh
    c.in_ok-left.left c.in_ok-left.left done (Ok tt) c.in_ok-left.ensures.left c.in_ok-left.ensures.imports c.in_ok-drain.ensures.drained (λ x. x)

pub returns-clause-causes : goal.returns-clause-causes
returns-clause-causes g c =
    causes_ok (laws g.met.D.Disk) g.B.Supply c.args.disk.now c.import_place.new.disk c.args.from.now c.drain.new.from tt c.in_ok-left.ensures.causes.disk_later
    (omega (arith, c.in_ok-left.ensures.causes.supply_later, c.in_ok-drain.ensures.cause.later))
