use Rattle.std.proofs.Common.{◌≡◌, ◌≤◌, ◌<◌, get_or, ◌*◌, ◌++◌, ◌∙◌, List, ℕ, length, ap, subst, sym, arith}
use Rattle.std.specs.Option.{ForSome}
use Rattle.fc_device.specs.declared.disk.Extent.{Extent}
use Rattle.fc_image.specs.Layout.{dir_form, sector_bytes}
use Rattle.fc_image.specs.Walk.{object_size}
use Rattle.fc_objects.specs.Bytes.{first_bytes}
use Rattle.fc_objects.specs.Extents.{sectors_in}
use Rattle.fc_space.specs.Space.{layout_of}
use Rattle.fc_tree.proofs.ReadingLemmas.{all_on_disk, object_long, object_read}
use Rattle.fc_tree.proofs.reading.read_object.Goals as goal

pub append_bytes-requires-clause-on_disk : goal.append_bytes-requires-clause-on_disk
append_bytes-requires-clause-on_disk g c =
    let n = g.D.Disk.sectors c.args.disk.now in
    subst (λ (es : List Extent). (k d : ℕ) → k < length (sectors_in es) → get_or (sectors_in es) k d < n) (sym c.deref.ensures.value)
    (all_on_disk n (sectors_in c.in-Ok.place.items) (λ s e. let low = c.in-Ok.ensures.suffice.on_disc s e in omega (arith, low, c.requires.room)))

pub returns-clause-bytes : goal.returns-clause-bytes
returns-clause-bytes g c =
    let layout = layout_of c.args.places.now in
    let e = c.args.entry.now in
    let len = c.from-len.result in
    let size : len ≡ object_size (dir_form layout) e = c.from-len.ensures ∙ c.object_size.ensures ∙ ap (λ f. object_size f e) c.dir_form.ensures in
    object_read (g.D.Disk.bytes c.args.disk.now) layout c.sector_bytes-size.result len e c.clear.new.self.items c.append_bytes.new.into.items (sectors_in c.in-Ok.place.items)
    (subst (λ (es : List Extent). ForSome (g.D.Disk.bytes c.args.disk.now) (λ image. c.append_bytes.new.into.items ≡ c.clear.new.self.items ++ first_bytes c.sector_bytes-size.result image (sectors_in es) len))
    c.deref.ensures.value c.in_ok-append_bytes.ensures.bytes)
    c.clear.ensures.items c.sector_bytes-size.ensures size c.in-Ok.ensures.place

pub returns-clause-long : goal.returns-clause-long
returns-clause-long g c =
    let layout = layout_of c.args.places.now in
    let e = c.args.entry.now in
    let size = c.from-len.ensures ∙ c.object_size.ensures ∙ ap (λ f. object_size f e) c.dir_form.ensures in
    object_long c.sector_bytes-size.result c.from-len.result (sector_bytes layout) (length c.append_bytes.new.into.items) (length c.clear.new.self.items) (sectors_in c.deref.result.now)
    c.in_ok-append_bytes.ensures.long (ap length c.clear.ensures.items)
    (subst (λ (es : List Extent). c.from-len.result ≤ length (sectors_in es) * sector_bytes layout) (sym c.deref.ensures.value) c.in-Ok.ensures.suffice.room) c.sector_bytes-size.ensures
    ∙ size
