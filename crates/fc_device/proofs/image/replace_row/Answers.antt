use Rattle.std.proofs.Common.{refl}
use Rattle.fc_device.proofs.SectorLemmas.{put_mid-with_row}
use Rattle.fc_device.proofs.image.replace_row.Goals as goal

pub returns : goal.returns
returns c = put_mid-with_row c.args.size c.args.bytes.now c.args.row.first c.args.from.now _ _ refl c.copy_from_slice.ensures.after
