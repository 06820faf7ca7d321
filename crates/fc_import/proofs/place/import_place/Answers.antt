use Rattle.std.proofs.Common.{◌≡◌, ◌<◌, ◌+◌, ◌∙◌, ◌++◌, [], All, List, ℕ, Result, Ok, Err, length, take, drop, get_or, sym, ap, subst, arith, rules}
use Rattle.std.proofs.lemmas.List.{take_all}
use Rattle.std.proofs.lemmas.Result.{err_from_is_err_and}
use Rattle.fc_device.specs.declared.disk.Extent.{Extent}
use Rattle.fc_device.proofs.DiskLaws.{laws}
use Rattle.fc_objects.specs.Extents.{extent_sectors, sectors_in}
use Rattle.fc_import.specs.declared.place.ImportFault.{ImportFault}
use Rattle.fc_import.specs.Imports.{HasLeft, Imports}
use Rattle.fc_objects.proofs.ExtentLemmas.{blank}
use Rattle.fc_import.proofs.PieceLemmas.{all_one, sectors_cut, sectors_more}
use Rattle.fc_import.proofs.ImportLemmas.{causes_ok, causes_then, imports_none, imports_ok, imports_then, imports_wider, left_then}
use Rattle.fc_import.proofs.place.import_place.Goals as goal

pub loop-extent-init : goal.loop-extent-init
loop-extent-init g c = record {
  done = imports_none (laws g.met.D.Disk) g.B.Supply (g.B.Supply.total c.args.from.now) c.args.disk.now c.args.from.now;
  left = omega (arith, ap length c.requires.fresh, c.total-left.ensures);
  room = c.requires.room;
  disk_later = omega arith;
  supply_later = omega arith;
}

pub import_extent-requires-clause-on_disk : goal.import_extent-requires-clause-on_disk
import_extent-requires-clause-on_disk g c =
    subst (λ (n : ℕ). All (λ s. s < n) (extent_sectors (get_or c.args.place.now c.loop-extent.extent-index blank))) (sym c.loop-extent.invariant.done.form.sectors_stay)
    (all_one c.args.place.now c.loop-extent.extent-index c.loop-extent-test.true (λ s. s < g.D.Disk.sectors c.args.disk.now) c.requires.on_disk)

pub returns-in_err-left-clause-imports : goal.returns-in_err-left-clause-imports
returns-in_err-left-clause-imports g c =
    let law = laws g.met.D.Disk in
    let b = g.B.Supply in
    let inv = c.loop-extent.invariant in
    let place = c.args.place.now in
    let i = c.loop-extent.extent-index in
    let e = get_or place i blank in
    let front = sectors_in (take i place) in
    let total = b.total c.args.from.now in
    let left = left_then law b total c.loop-extent.left c.args.from.now c.loop-extent.from inv.done.piece (omega (arith, ap length c.requires.fresh)) inv.left inv.done.given inv.done.supply.total in
    let p = err_from_is_err_and c.from_residual.result c.from_residual.ensures.1 in
    let fault = c.in_err-left.field-0.0 in
    let is = p.1 ∙ ap (λ (x : ImportFault). let r : Result ℕ ImportFault = Err x in r) p.2 in
    let failed : Result ℕ ImportFault = Err fault in
    let more = sectors_more place i c.loop-extent-test.true in
    subst (λ (ss : List ℕ). Imports g.D.Disk b ss total c.args.disk.now c.import_extent.new.disk c.args.from.now c.import_extent.new.from c.from_residual.result)
    (sym (sectors_cut place i c.loop-extent-test.true ∙ ap (λ (ss : List ℕ). ss ++ sectors_in (drop (i + 1) place)) more))
    (imports_wider law b (front ++ extent_sectors e) (sectors_in (drop (i + 1) place)) total c.args.disk.now c.import_extent.new.disk c.args.from.now c.import_extent.new.from fault c.from_residual.result is
    (imports_then law b front (extent_sectors e) total c.loop-extent.left c.args.disk.now c.loop-extent.disk c.import_extent.new.disk c.args.from.now c.loop-extent.from c.import_extent.new.from tt failed inv.done
    c.in_err-left.ensures.imports left))

pub returns-in_err-left-clause-causes : goal.returns-in_err-left-clause-causes
returns-in_err-left-clause-causes g c =
    let inv = c.loop-extent.invariant in
    let p = err_from_is_err_and c.from_residual.result c.from_residual.ensures.1 in
    let failed : Result ℕ ImportFault = Err c.in_err-left.field-0.0 in
    let is : c.from_residual.result ≡ failed = p.1 ∙ ap (λ (x : ImportFault). let r : Result ℕ ImportFault = Err x in r) p.2 in
    causes_then (laws g.met.D.Disk) g.B.Supply c.args.disk.now c.loop-extent.disk c.import_extent.new.disk c.args.from.now c.loop-extent.from c.import_extent.new.from failed c.from_residual.result inv.disk_later inv.supply_later
    c.in_err-left.ensures.causes (λ fault e. sym is ∙ e)

pub loop-extent-preserved : goal.loop-extent-preserved
loop-extent-preserved g c =
    let law = laws g.met.D.Disk in
    let b = g.B.Supply in
    let inv = c.loop-extent.invariant in
    let place = c.args.place.now in
    let i = c.loop-extent.extent-index in
    let e = get_or place i blank in
    let front = sectors_in (take i place) in
    let total = b.total c.args.from.now in
    let left = left_then law b total c.loop-extent.left c.args.from.now c.loop-extent.from inv.done.piece (omega (arith, ap length c.requires.fresh)) inv.left inv.done.given inv.done.supply.total in
    record {
      done = subst (λ (ss : List ℕ). Imports {T = Unit {0}} g.D.Disk b ss total c.args.disk.now c.import_extent.new.disk c.args.from.now c.import_extent.new.from (Ok tt))
          (sym (sectors_more place i c.loop-extent-test.true))
          (imports_then law b front (extent_sectors e) total c.loop-extent.left c.args.disk.now c.loop-extent.disk c.import_extent.new.disk c.args.from.now c.loop-extent.from c.import_extent.new.from tt (Ok tt) inv.done
          (imports_ok law b (extent_sectors e) c.loop-extent.left c.loop-extent.disk c.import_extent.new.disk c.loop-extent.from c.import_extent.new.from c.in_ok-left.left tt c.in_ok-left.ensures.imports) left);
      left = c.in_ok-left.ensures.left;
      room = search rules;
      disk_later = omega (arith, inv.disk_later, c.in_ok-left.ensures.causes.disk_later);
      supply_later = omega (arith, inv.supply_later, c.in_ok-left.ensures.causes.supply_later);
    }

pub returns-clause-imports : goal.returns-clause-imports
returns-clause-imports g c =
    let inv = c.loop-extent.invariant in
    let all = take_all c.loop-extent.extent-index c.args.place.now (omega (arith, c.loop-extent-test.false)) in
    let result : Result ℕ ImportFault = Ok c.loop-extent.left in
    subst (λ (es : List Extent). Imports g.D.Disk g.B.Supply (sectors_in es) (g.B.Supply.total c.args.from.now) c.args.disk.now c.loop-extent.disk c.args.from.now c.loop-extent.from result) all
    (imports_ok (laws g.met.D.Disk) g.B.Supply (sectors_in (take c.loop-extent.extent-index c.args.place.now)) (g.B.Supply.total c.args.from.now) c.args.disk.now c.loop-extent.disk c.args.from.now c.loop-extent.from tt c.loop-extent.left inv.done)

pub returns-clause-causes : goal.returns-clause-causes
returns-clause-causes g c = causes_ok (laws g.met.D.Disk) g.B.Supply c.args.disk.now c.loop-extent.disk c.args.from.now c.loop-extent.from c.loop-extent.left c.loop-extent.invariant.disk_later c.loop-extent.invariant.supply_later
