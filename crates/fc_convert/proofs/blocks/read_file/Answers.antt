use Rattle.std.proofs.Common.{◌++◌, ℕ, List, ap, ◌∙◌}
use Rattle.fc_device.specs.declared.disk.Extent.{Extent}
use Rattle.fc_image.specs.Layout.{sector_bytes}
use Rattle.fc_objects.specs.Bytes.{first_bytes}
use Rattle.fc_objects.specs.Extents.{sectors_in}
use Rattle.fc_space.specs.Space.{layout_of}
use Rattle.fc_space.specs.declared.space.Space.{Space}
use Rattle.fc_convert.proofs.BlockLemmas.{bytes_of_place}
use Rattle.fc_convert.proofs.blocks.read_file.Goals as goal

pub returns-clause-bytes : goal.returns-clause-bytes
returns-clause-bytes g c image told =
    let place = c.in_ok-place.place.items in
    let size = c.sector_bytes-size.result in
    c.in_ok-append_place.ensures.bytes image told
    ∙ ap (λ (was : List ℕ). was ++ first_bytes size image (sectors_in c.deref.result.now) c.args.file.now.len) c.in-Ok.ensures.items
    ∙ ap (λ (p : List Extent). first_bytes size image (sectors_in p) c.args.file.now.len) c.deref.ensures.value
    ∙ bytes_of_place image c.args.volume.now c.args.file.now place size c.requires.named c.in_ok-place.ensures
    (c.sector_bytes-size.ensures ∙ ap (λ (s : Space). sector_bytes (layout_of s)) c.space-space.ensures)
