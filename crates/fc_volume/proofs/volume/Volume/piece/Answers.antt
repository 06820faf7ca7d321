use Rattle.std.proofs.Common.{◌≡◌, ◌≤◌, ◌*◌, ◌/◌, ◌%◌, length, drop, ap, subst, sym, ◌∙◌, arith, length-take}
use Rattle.std.specs.Option.{option_map}
use Rattle.std.specs.FinMap.{get}
use Rattle.fc_device.specs.Sectors.{sector_at}
use Rattle.fc_device.proofs.DiskLaws.{laws}
use Rattle.fc_image.specs.Layout.{Layout, disc_sectors, sector_bytes, sectors_at}
use Rattle.fc_space.specs.Space.{PlacesSuffice, layout_of, nth_sector}
use Rattle.fc_space.proofs.NthLemmas.{sector_there}
use Rattle.fc_tree.specs.Nodes.{nodes_of}
use Rattle.fc_volume.specs.Volume.{parts_of}
use Rattle.fc_volume.proofs.PieceLemmas.{disk_long, file_placed, filled_is, named_node, piece_bytes, small_size}
use Rattle.fc_volume.proofs.volume.Volume.piece.Goals as goal

pub sector_of-sector-requires : goal.sector_of-sector-requires
sector_of-sector-requires g c =
    let v = c.args.self.now in
    let f = c.args.f.now in
    let node = c.unwrap-node.result.now in
    let there = ap (λ w. get (nodes_of w.tree) f.node) (sym c.self.view_is) ∙ sym c.node.ensures ∙ ap (option_map (λ n. n.now)) c.unwrap-node.ensures in
    let layout = ap (λ w. layout_of w.space) c.self.view_is in
    let placed = file_placed v f node c.requires.stands.agree c.requires.named there in
    rw c.space.ensures (sector_there (layout_of c.self.inside.holdings.places) node.entry.address f.len c.sector_bytes-size.result c.args.at placed.0
    (ap (λ (l : Layout). sectors_at l node.entry.address f.len) layout ∙ placed.1) c.places_suffice.ensures c.sector_bytes-size.ensures
    (omega (arith, c.piece_length-count.ensures, c.if-count-eq0.false)))

pub returns-clause-filled : goal.returns-clause-filled
returns-clause-filled g c = λ image told.
    let v = c.args.self.now in
    let f = c.args.f.now in
    let node = c.unwrap-node.result.now in
    let n = c.piece_length-count.result in
    let size = c.sector_bytes-size.result in
    let there = ap (λ w. get (nodes_of w.tree) f.node) (sym c.self.view_is) ∙ sym c.node.ensures ∙ ap (option_map (λ m. m.now)) c.unwrap-node.ensures in
    let layout = ap (λ w. layout_of w.space) c.self.view_is in
    let law = laws g.met.D.Disk in
    let bytes : size ≡ sector_bytes (parts_of v).layout = c.sector_bytes-size.ensures ∙ ap sector_bytes layout in
    let own : g.D.Disk.sector_size c.args.disk.now ≡ size = c.requires.stands.size ∙ sym bytes in
    let small = small_size (g.D.Disk.sector_size c.args.disk.now) (law.sector_sizes c.args.disk.now) in
    let long : disc_sectors (parts_of v).layout * size ≤ length image =
    disk_long (disc_sectors (parts_of v).layout) (g.D.Disk.sectors c.args.disk.now) (g.D.Disk.sector_size c.args.disk.now) size (g.D.Disk.image_length c.args.disk.now) image
    c.requires.stands.room (law.whole_sectors c.args.disk.now) (law.told_length c.args.disk.now image told) own in
    let wanted = piece_bytes image v f node size c.args.at n c.sector_of-sector.result there (named_node v f node c.requires.named there).1 (subst (λ (l : Layout). PlacesSuffice l) layout c.places_suffice.ensures)
    bytes long (ap (λ (l : Layout). nth_sector l node.entry.address f.len (c.args.at / size)) (sym layout) ∙ rw c.space.ensures at c.sector_of-sector.ensures.sector)
    (omega (arith, small.0, own)) (omega (arith, c.piece_length-count.ensures, c.if-count-eq0.false)) (omega (arith, c.piece_length-count.ensures, c.if-count-eq0.false)) in
    filled_is n (c.args.at % size) c.read_part.new.into _ (drop n c.args.into.now) (sector_at size image c.sector_of-sector.result) _ (c.in_ok-read_part.ensures.filled image told) c.read_part.auto.into
    (omega (arith, c.read_part.auto.into, length-take n c.args.into.now, c.piece_length-count.ensures)) wanted
