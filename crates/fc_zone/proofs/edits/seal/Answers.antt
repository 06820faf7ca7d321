use Rattle.fc_zone.proofs.SealLemmas.{set_first_zone}
use Rattle.fc_zone.proofs.edits.seal.Goals as goal

pub returns-clause-zone : goal.returns-clause-zone
returns-clause-zone c = λ shape runs header zone. set_first_zone shape c.args.b.now c.zone_check.result runs header zone
