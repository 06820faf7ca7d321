use Rattle.std.proofs.Common.{◌≡◌, refl, sym, ◌∙◌, arith}
use Rattle.fc_device.proofs.DiskLaws.{laws}
use Rattle.fc_device.proofs.StopLemmas.{keeps_same, keeps_start}
use Rattle.fc_newmap.proofs.PassLemmas.{keeps_on}
use Rattle.fc_record.specs.Kinds.{is_boot}
use Rattle.fc_newmap.proofs.ExtentLemmas.{bytes_fit}
use Rattle.fc_reclaim.proofs.CopiesLemmas.{found_keeps, read_keeps}
use Rattle.fc_reclaim.proofs.KeptLemmas.{kept_same}
use Rattle.fc_reclaim.proofs.copies.reclaim_runs.Goals as goal

pub returns-in_err-boot-clause-keeps : goal.returns-in_err-boot-clause-keeps
returns-in_err-boot-clause-keeps g c =
    let a = c.args in
    keeps_same (laws g.met.D.Disk) (keeps_start (laws g.met.D.Disk) (λ image. kept_same (is_boot image) a.owners.now a.map.now.geometry image) a.disk.now c.requires.settled)
    c.find_boot.ensures.reads.stops c.find_boot.ensures.reads.bytes

pub reclaim_copies-requires-clause-boot : goal.reclaim_copies-requires-clause-boot
reclaim_copies-requires-clause-boot g c = λ image told. c.in_ok-boot.ensures.found image (sym c.find_boot.ensures.reads.bytes ∙ told)

pub returns-in_err-bits-clause-keeps : goal.returns-in_err-bits-clause-keeps
returns-in_err-bits-clause-keeps g c =
    let a = c.args in
    let law = laws g.met.D.Disk in
    keeps_on law {P = λ was image. image ≡ was} (keeps_same law (keeps_start law (λ image. refl) a.disk.now c.requires.settled) c.find_boot.ensures.reads.stops c.find_boot.ensures.reads.bytes) c.reclaim_copies.ensures.keeps
    (λ was image told e. read_keeps a.owners.now a.map.now.geometry was image e)
    (λ was there image told there_told e keeps. found_keeps _ a.owners.now a.map.now.geometry was there image (c.in_ok-boot.ensures.found was told) e keeps)

pub overflow_mul-result : goal.overflow_mul-result
overflow_mul-result g c =
    let fits = bytes_fit c.args.map.now.geometry c.in_ok-bits.bits c.geometry-g.ensures.map.of_record c.in_ok-bits.ensures.bits.1 in
    rw c.geometry-g.ensures.value (omega (arith, fits))

pub returns-clause-keeps : goal.returns-clause-keeps
returns-clause-keeps g c =
    let a = c.args in
    let law = laws g.met.D.Disk in
    keeps_on law {P = λ was image. image ≡ was} (keeps_same law (keeps_start law (λ image. refl) a.disk.now c.requires.settled) c.find_boot.ensures.reads.stops c.find_boot.ensures.reads.bytes) c.reclaim_copies.ensures.keeps
    (λ was image told e. read_keeps a.owners.now a.map.now.geometry was image e)
    (λ was there image told there_told e keeps. found_keeps _ a.owners.now a.map.now.geometry was there image (c.in_ok-boot.ensures.found was told) e keeps)
