use Rattle.std.proofs.Common.{◌-◌, length, ◌∙◌, ap}
use borrow.Rule.Slice.PartMut.{put_mid}
use Rattle.byteorder.specs.Endian.{little_bytes}
use Rattle.byteorder.specs.Numbers.{length-bytes_low_first}
use Rattle.fc_bytes.proofs.WriteLemmas.{put_mid_bytes}
use Rattle.fc_newmap.proofs.map.put_u32.Goals as goal

pub returns : goal.returns
returns c =
    let b = c.args.b.now in
    let at = c.args.at in
    ap (λ l. put_mid at (length b - at) b l) c.write_u32.ensures ∙ put_mid_bytes b (little_bytes 4 c.args.v) at 4 (length-bytes_low_first 0 4 c.args.v)
