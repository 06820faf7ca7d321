use Rattle.std.proofs.Common.{◌+◌, ℕ, List, ap, subst, ◌∙◌, arith}
use Rattle.fc_device.proofs.DiskLaws.{laws}
use Rattle.fc_device.proofs.SectorLemmas.{sector_at-row_at}
use Rattle.fc_device.specs.Sectors.{IsSectorSize, row_at, sector_at}
use Rattle.fc_newmap.specs.Choosing.{copy_fault}
use Rattle.fc_newmap.proofs.ReadingLemmas.{filled_all, sectors_fit}
use Rattle.fc_newmap.proofs.copies.reading.read_copy.Goals as goal

pub start_of-requires : goal.start_of-requires
start_of-requires g c = sectors_fit (laws g.met.D.Disk) c.args.disk.now _ c.requires.on_disk

pub returns-clause-filled : goal.returns-clause-filled
returns-clause-filled g c = λ image told.
    let size = c.args.g.now.sector in
    let start = c.start_of.result in
    let row = c.in_ok-read_row.ensures.filled image told ∙ ap (λ (s : ℕ). row_at s image start c.from.result) c.requires.size in
    filled_all c.args.g.now c.args.w image c.read_row.new.into
    (λ k lt.
    ap (λ (l : List ℕ). sector_at size l k) row
    ∙ sector_at-row_at size image start c.from.result k (omega (arith, lt, c.from.ensures))
    ∙ ap (λ (n : ℕ). sector_at size image (n + k)) c.start_of.ensures.value)

pub returns-clause-found : goal.returns-clause-found
returns-clause-found g c = λ image told. c.fault_in.ensures ∙ ap copy_fault (returns-clause-filled g c image told)

pub fault_in-requires-clause-size : goal.fault_in-requires-clause-size
fault_in-requires-clause-size g c = let law = laws g.met.D.Disk in subst IsSectorSize c.requires.size (law.sector_sizes c.args.disk.now)
