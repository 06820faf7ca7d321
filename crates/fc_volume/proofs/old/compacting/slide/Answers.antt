use Rattle.std.proofs.Common.{◌∙◌, sym}
use Rattle.fc_device.proofs.DiskLaws.{laws}
use Rattle.fc_device.proofs.StopLemmas.{goes_on}
use Rattle.fc_volume.proofs.old.compacting.slide.Goals as goal

pub returns-clause-bytes : goal.returns-clause-bytes
returns-clause-bytes g c = λ was told.
    let s = c.in_ok-squash.ensures.bytes was told in
    (s.0, c.sync.ensures.bytes ∙ s.1, s.2)

pub returns-clause-stops : goal.returns-clause-stops
returns-clause-stops g c = goes_on (laws g.met.D.Disk) c.squash.ensures.stops c.sync.ensures.stops (λ image left. tt)

pub returns-in_err-sync-clause-stops : goal.returns-in_err-sync-clause-stops
returns-in_err-sync-clause-stops g c = goes_on (laws g.met.D.Disk) c.squash.ensures.stops c.sync.ensures.stops (λ image left. tt)

pub returns-clause-told : goal.returns-clause-told
returns-clause-told g c = λ image told. c.squash.ensures.told image (sym c.sync.ensures.bytes ∙ told)

pub returns-in_err-sync-clause-told : goal.returns-in_err-sync-clause-told
returns-in_err-sync-clause-told g c = λ image told. c.squash.ensures.told image (sym c.sync.ensures.bytes ∙ told)

pub returns-clause-places : goal.returns-clause-places
returns-clause-places g c = λ was told.
    let s = c.squash.ensures.places was told in
    (s.0, c.sync.ensures.bytes ∙ s.1, s.2)

pub returns-in_err-sync-clause-places : goal.returns-in_err-sync-clause-places
returns-in_err-sync-clause-places g c = λ was told.
    let s = c.squash.ensures.places was told in
    (s.0, c.sync.ensures.bytes ∙ s.1, s.2)
