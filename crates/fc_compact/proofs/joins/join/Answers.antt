use Rattle.fc_compact.proofs.joins.join.Goals as goal

pub zones_of-zones-requires : goal.zones_of-zones-requires
zones_of-zones-requires g c = c.requires.runs.few
