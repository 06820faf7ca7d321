use Rattle.fc_space.proofs.PartLemmas.{part_sectors}
use Rattle.fc_space.proofs.new.part_of.Goals as goal

pub returns-clause-sectors : goal.returns-clause-sectors
returns-clause-sectors c =
    part_sectors c.args.extent.first c.args.extent.sectors c.args.skip c.args.need c.min-passed.result c.min.result c.min-passed.ensures c.min.ensures
