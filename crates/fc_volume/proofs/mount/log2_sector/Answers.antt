use Rattle.fc_volume.proofs.MountLemmas.{sizes_of}
use Rattle.fc_volume.proofs.mount.log2_sector.Goals as goal

pub returns-in-Boot-clause-least : goal.returns-in-Boot-clause-least
returns-in-Boot-clause-least c = (sizes_of c.in-Boot.r (rw c.in-Boot.is at c.requires)).0

pub returns-in-Boot-clause-most : goal.returns-in-Boot-clause-most
returns-in-Boot-clause-most c = (sizes_of c.in-Boot.r (rw c.in-Boot.is at c.requires)).1
