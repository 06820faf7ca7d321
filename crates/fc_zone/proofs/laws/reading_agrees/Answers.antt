use Rattle.fc_zone.proofs.FaultLemmas.{fault_read}
use Rattle.fc_zone.proofs.ReadingLemmas.{Zone-zone_of, zone_of-Zone}
use Rattle.fc_zone.proofs.laws.reading_agrees.Goals as goal

pub returns-clause-runs : goal.returns-clause-runs
returns-clause-runs c = λ shape sector runs is. (zone_of-Zone shape sector runs is, Zone-zone_of shape sector runs)

pub returns-clause-fault : goal.returns-clause-fault
returns-clause-fault c = fault_read
