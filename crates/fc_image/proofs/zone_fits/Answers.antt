use Rattle.fc_image.proofs.OneZoneLemmas.{zone_fits}
use Rattle.fc_image.proofs.zone_fits.Goals as goal

pub returns : goal.returns
returns c = zone_fits
