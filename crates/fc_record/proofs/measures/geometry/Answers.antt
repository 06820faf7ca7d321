use Rattle.fc_record.proofs.MeasureLemmas.{sector_valid, bit_valid, share_valid}
use Rattle.fc_record.proofs.measures.geometry.Goals as goal

pub measured-requires-clause-sector : goal.measured-requires-clause-sector
measured-requires-clause-sector c = sector_valid c.args.r.now c.requires

pub measured-requires-clause-bit : goal.measured-requires-clause-bit
measured-requires-clause-bit c = bit_valid c.args.r.now c.requires

pub measured-requires-clause-share : goal.measured-requires-clause-share
measured-requires-clause-share c = share_valid c.args.r.now c.requires
