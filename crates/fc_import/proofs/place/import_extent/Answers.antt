use Rattle.std.proofs.Common.{◌≡◌, ◌≤◌, ◌<◌, ◌+◌, ◌-◌, ◌∙◌, ◌++◌, [], All, List, ℕ, Result, Ok, Err, append_assoc, refl, sym, ap, subst, arith, rules}
use Rattle.std.specs.List.{range_with_len}
use Rattle.std.proofs.lemmas.List.{append-nil}
use Rattle.std.proofs.lemmas.Result.{err_from_is_err_and}
use Rattle.fc_device.specs.declared.disk.Extent.{Extent}
use Rattle.fc_device.proofs.DiskLaws.{laws}
use Rattle.fc_objects.specs.Extents.{extent_sectors}
use Rattle.fc_import.specs.declared.place.ImportFault.{ImportFault}
use Rattle.fc_import.specs.Imports.{Imports}
use Rattle.fc_import.proofs.PieceLemmas.{all_back, all_front}
use Rattle.fc_import.proofs.ImportLemmas.{causes_ok, causes_then, imports_none, imports_ok, imports_then, imports_wider, left_then, row_cut, row_on_disk, sectors_few}
use Rattle.fc_import.proofs.place.import_extent.Goals as goal

pub loop-ahead-init : goal.loop-ahead-init
loop-ahead-init g c = record {
  done = ([], refl, imports_none (laws g.met.D.Disk) g.B.Supply c.args.left c.args.disk.now c.args.from.now);
  more = c.requires.left;
  some = c.sectors_at_once-most.ensures.some;
  room = c.sectors_at_once-most.ensures.fit;
  disk_later = omega arith;
  supply_later = omega arith;
}

pub import_row-requires-clause-on_disk : goal.import_row-requires-clause-on_disk
import_row-requires-clause-on_disk g c =
    let inv = c.loop-ahead.invariant in
    let first = c.loop-ahead.ahead.first in
    let n = c.loop-ahead.ahead.sectors in
    let k = c.min-sectors.result in
    let few : k ≤ n = search rules in
    subst (λ (m : ℕ). All (λ s. s < m) (range_with_len first k)) (sym inv.done.2.form.sectors_stay)
    (all_front (λ s. s < g.D.Disk.sectors c.args.disk.now) (range_with_len first k) (range_with_len (first + k) (n - k))
    (subst (All (λ s. s < g.D.Disk.sectors c.args.disk.now)) (row_cut first n k few)
    (all_back (λ s. s < g.D.Disk.sectors c.args.disk.now) inv.done.0 (extent_sectors c.loop-ahead.ahead) (subst (All (λ s. s < g.D.Disk.sectors c.args.disk.now)) inv.done.1 c.requires.on_disk))))

pub overflow_add-ahead : goal.overflow_add-ahead
overflow_add-ahead g c =
    let law = laws g.met.D.Disk in
    let inv = c.loop-ahead.invariant in
    let first = c.loop-ahead.ahead.first in
    let n = c.loop-ahead.ahead.sectors in
    let k = c.min-sectors.result in
    let few : k ≤ n = search rules in
    let some : 0 < k = search rules in
    let row : Extent = record { first = first; sectors = k } in
    let all = all_front (λ s. s < g.D.Disk.sectors c.args.disk.now) (range_with_len first k) (range_with_len (first + k) (n - k))
    (subst (All (λ s. s < g.D.Disk.sectors c.args.disk.now)) (row_cut first n k few)
    (all_back (λ s. s < g.D.Disk.sectors c.args.disk.now) inv.done.0 (extent_sectors c.loop-ahead.ahead) (subst (All (λ s. s < g.D.Disk.sectors c.args.disk.now)) inv.done.1 c.requires.on_disk))) in
    omega (arith, row_on_disk row (g.D.Disk.sectors c.args.disk.now) some all, sectors_few law g.B.Supply c.args.disk.now)

pub returns-in_err-more-clause-imports : goal.returns-in_err-more-clause-imports
returns-in_err-more-clause-imports g c =
    let law = laws g.met.D.Disk in
    let inv = c.loop-ahead.invariant in
    let first = c.loop-ahead.ahead.first in
    let n = c.loop-ahead.ahead.sectors in
    let k = c.min-sectors.result in
    let few : k ≤ n = search rules in
    let row = range_with_len first k in
    let rest = range_with_len (first + k) (n - k) in
    let cut : extent_sectors c.args.extent ≡ (inv.done.0 ++ row) ++ rest = inv.done.1 ∙ ap (λ (xs : List ℕ). inv.done.0 ++ xs) (row_cut first n k few) ∙ sym (append_assoc inv.done.0 row rest) in
    let left = left_then law g.B.Supply c.args.left c.loop-ahead.more c.args.from.now c.loop-ahead.from inv.done.2.piece c.requires.left inv.more inv.done.2.given inv.done.2.supply.total in
    let p = err_from_is_err_and c.from_residual.result c.from_residual.ensures.1 in
    let fault = c.in_err-more.field-0.0 in
    let is = p.1 ∙ ap (λ (x : ImportFault). let r : Result ℕ ImportFault = Err x in r) p.2 in
    let failed : Result ℕ ImportFault = Err fault in
    subst (λ (ss : List ℕ). Imports g.D.Disk g.B.Supply ss c.args.left c.args.disk.now c.import_row.new.disk c.args.from.now c.import_row.new.from c.from_residual.result) (sym cut)
    (imports_wider law g.B.Supply (inv.done.0 ++ row) rest c.args.left c.args.disk.now c.import_row.new.disk c.args.from.now c.import_row.new.from fault c.from_residual.result is
    (imports_then law g.B.Supply inv.done.0 row c.args.left c.loop-ahead.more c.args.disk.now c.loop-ahead.disk c.import_row.new.disk c.args.from.now c.loop-ahead.from c.import_row.new.from tt failed inv.done.2
    c.in_err-more.ensures.imports left))

pub returns-in_err-more-clause-causes : goal.returns-in_err-more-clause-causes
returns-in_err-more-clause-causes g c =
    let inv = c.loop-ahead.invariant in
    let p = err_from_is_err_and c.from_residual.result c.from_residual.ensures.1 in
    let failed : Result ℕ ImportFault = Err c.in_err-more.field-0.0 in
    let is : c.from_residual.result ≡ failed = p.1 ∙ ap (λ (x : ImportFault). let r : Result ℕ ImportFault = Err x in r) p.2 in
    causes_then (laws g.met.D.Disk) g.B.Supply c.args.disk.now c.loop-ahead.disk c.import_row.new.disk c.args.from.now c.loop-ahead.from c.import_row.new.from failed c.from_residual.result inv.disk_later inv.supply_later
    c.in_err-more.ensures.causes (λ fault e. sym is ∙ e)

pub loop-ahead-preserved : goal.loop-ahead-preserved
loop-ahead-preserved g c =
    let law = laws g.met.D.Disk in
    let inv = c.loop-ahead.invariant in
    let first = c.loop-ahead.ahead.first in
    let n = c.loop-ahead.ahead.sectors in
    let k = c.min-sectors.result in
    let few : k ≤ n = search rules in
    let row = range_with_len first k in
    let rest = range_with_len (first + k) (n - k) in
    let cut : extent_sectors c.args.extent ≡ (inv.done.0 ++ row) ++ rest = inv.done.1 ∙ ap (λ (xs : List ℕ). inv.done.0 ++ xs) (row_cut first n k few) ∙ sym (append_assoc inv.done.0 row rest) in
    let left = left_then law g.B.Supply c.args.left c.loop-ahead.more c.args.from.now c.loop-ahead.from inv.done.2.piece c.requires.left inv.more inv.done.2.given inv.done.2.supply.total in
    record {
      done = (
        inv.done.0 ++ row,
        cut,
        imports_then law g.B.Supply inv.done.0 row c.args.left c.loop-ahead.more c.args.disk.now c.loop-ahead.disk c.import_row.new.disk c.args.from.now c.loop-ahead.from c.import_row.new.from tt (Ok tt) inv.done.2
            (imports_ok law g.B.Supply row c.loop-ahead.more c.loop-ahead.disk c.import_row.new.disk c.loop-ahead.from c.import_row.new.from c.in_ok-more.more tt c.in_ok-more.ensures.imports) left,
      );
      more = c.in_ok-more.ensures.left;
      some = inv.some;
      room = search rules;
      disk_later = omega (arith, inv.disk_later, c.in_ok-more.ensures.causes.disk_later);
      supply_later = omega (arith, inv.supply_later, c.in_ok-more.ensures.causes.supply_later);
    }

pub returns-clause-imports : goal.returns-clause-imports
returns-clause-imports g c =
    let inv = c.loop-ahead.invariant in
    let none : c.loop-ahead.ahead.sectors ≡ 0 = omega (arith, c.loop-ahead-test.false) in
    let all : extent_sectors c.args.extent ≡ inv.done.0 = inv.done.1 ∙ ap (λ (m : ℕ). inv.done.0 ++ range_with_len c.loop-ahead.ahead.first m) none ∙ append-nil inv.done.0 in
    let result : Result ℕ ImportFault = Ok c.loop-ahead.more in
    subst (λ (ss : List ℕ). Imports g.D.Disk g.B.Supply ss c.args.left c.args.disk.now c.loop-ahead.disk c.args.from.now c.loop-ahead.from result) (sym all)
    (imports_ok (laws g.met.D.Disk) g.B.Supply inv.done.0 c.args.left c.args.disk.now c.loop-ahead.disk c.args.from.now c.loop-ahead.from tt c.loop-ahead.more inv.done.2)

pub returns-clause-causes : goal.returns-clause-causes
returns-clause-causes g c = causes_ok (laws g.met.D.Disk) g.B.Supply c.args.disk.now c.loop-ahead.disk c.args.from.now c.loop-ahead.from c.loop-ahead.more c.loop-ahead.invariant.disk_later c.loop-ahead.invariant.supply_later
