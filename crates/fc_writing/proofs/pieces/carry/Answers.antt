use Rattle.std.proofs.Common.{All, ◌≡◌, ◌<◌, ℕ, List, [], sym, subst, ◌∙◌, arith}
use Rattle.std.specs.List.{flat_map}
use Rattle.std.proofs.lemmas.List.{take_all}
use Rattle.fc_device.proofs.DiskLaws.{form_then, laws}
use Rattle.fc_device.proofs.StopLemmas.{led, one_told}
use Rattle.fc_newmap.proofs.PassLemmas.{keeps_on}
use Rattle.fc_writing.specs.declared.ready.Transfer.{Transfer}
use Rattle.fc_writing.specs.Content.{Content, HasContent, IsPart}
use Rattle.fc_writing.specs.Ready.{carried_by, from_of, to_of}
use Rattle.fc_writing.proofs.ListLemmas.{all_one, carried_now, enough_one, has_more, once_one, one_carried, carried_sectors, others_one}
use Rattle.fc_writing.proofs.pieces.carry.Goals as goal

pub copy_in-requires-clause-from_disk : goal.copy_in-requires-clause-from_disk
copy_in-requires-clause-from_disk g c =
    subst (λ (n : ℕ). All (λ s. s < n) (from_of c.transfer-item.result)) (sym c.loop-transfer.invariant.form.sectors_stay)
    (all_one from_of c.args.carried.now c.loop-transfer.transfer-index c.transfer-item.result c.loop-transfer-test.true c.transfer-item.is (λ s. s < g.D.Disk.sectors c.args.disk.now) c.requires.from_disk)

pub copy_in-requires-clause-on_disk : goal.copy_in-requires-clause-on_disk
copy_in-requires-clause-on_disk g c =
    subst (λ (n : ℕ). All (λ s. s < n) (to_of c.transfer-item.result)) (sym c.loop-transfer.invariant.form.sectors_stay)
    (all_one to_of c.args.carried.now c.loop-transfer.transfer-index c.transfer-item.result c.loop-transfer-test.true c.transfer-item.is (λ s. s < g.D.Disk.sectors c.args.disk.now) c.requires.on_disk)

pub copy_in-requires-clause-others : goal.copy_in-requires-clause-others
copy_in-requires-clause-others g c = others_one c.args.carried.now c.loop-transfer.transfer-index c.transfer-item.result c.loop-transfer-test.true c.transfer-item.is c.requires.others

pub copy_in-requires-clause-enough : goal.copy_in-requires-clause-enough
copy_in-requires-clause-enough g c = enough_one c.args.size c.args.carried.now c.loop-transfer.transfer-index c.transfer-item.result c.loop-transfer-test.true c.transfer-item.is c.requires.enough

pub returns-in_err-copy_in-clause-keeps : goal.returns-in_err-copy_in-clause-keeps
returns-in_err-copy_in-clause-keeps g c =
    let ts = c.args.carried.now in
    let size = c.args.size in
    keeps_on (laws g.met.D.Disk) c.loop-transfer.invariant.keeps c.copy_in.ensures.keeps (λ was image told part. part)
    (λ was there image told told_mid first then. one_carried size ts c.loop-transfer.transfer-index c.transfer-item.result c.loop-transfer-test.true c.transfer-item.is c.requires.others c.requires.enough was there first image then)

pub loop-transfer-preserved : goal.loop-transfer-preserved
loop-transfer-preserved g c =
    let law = laws g.met.D.Disk in
    let inv = c.loop-transfer.invariant in
    let ts = c.args.carried.now in
    let t = c.transfer-item.result in
    let i = c.loop-transfer.transfer-index in
    let low = c.loop-transfer-test.true in
    let size = c.args.size in
    record {
      form = form_then g.D.Disk inv.form c.copy_in.ensures.form;
      settled = c.in_ok-copy_in.ensures.durable;
      keeps = keeps_on law inv.keeps c.copy_in.ensures.keeps (λ was image told part. part)
          (λ was there image told told_mid first then. one_carried size ts i t low c.transfer-item.is c.requires.others c.requires.enough was there first image then);
      written = λ was told image is.
          (let mid = led law c.copy_in.ensures.keeps image is in
          let start = led law inv.keeps mid.0 mid.1 in
          let first : IsPart size [] (flat_map (carried_by size was) ts) was mid.0 = subst (λ (s : List ℕ). IsPart size [] (flat_map (carried_by size s) ts) s mid.0) (one_told (sym start.1 ∙ told)) start.2 in
          let same : carried_by size mid.0 t ≡ carried_by size was t = carried_now size ts i t low c.transfer-item.is c.requires.others c.requires.enough was mid.0 first in
          has_more to_of ts i t low c.transfer-item.is (carried_by size was) (carried_sectors size was) size mid.0 image c.requires.once (inv.written was told mid.0 mid.1)
          (subst (λ (x : Content). IsPart size [] x mid.0 image) same mid.2)
          (subst (λ (x : Content). HasContent size x image) same (c.in_ok-copy_in.ensures.written (once_one to_of ts i t low c.transfer-item.is c.requires.once) mid.0 mid.1 image is)));
      faults = omega (arith, inv.faults, c.copy_in.ensures.cause.later);
    }

pub returns-clause-written : goal.returns-clause-written
returns-clause-written g c = λ was told image is.
    subst (λ (ts : List Transfer). HasContent c.args.size (flat_map (carried_by c.args.size was) ts) image) (take_all c.loop-transfer.transfer-index c.args.carried.now (omega (arith, c.loop-transfer-test.false)))
    (c.loop-transfer.invariant.written was told image is)
