use Rattle.std.proofs.Common.{[]}
use Rattle.fc_space.specs.Space.{layout_of}
use Rattle.fc_tree.specs.Nodes.{bound_of, nodes_of}
use Rattle.fc_changes.specs.old.Owed.{IsWritten}
use Rattle.fc_squash.proofs.RoomLemmas.{leaves_then}
use Rattle.fc_volume.proofs.OldChangeLemmas.{old_layout, written_more, written_then}
use Rattle.fc_volume.proofs.NumbersLemmas.{readdressed_all}
use Rattle.fc_volume.proofs.old.compacting.rewrite.Goals as goal

pub write_directories-requires-clause-placed : goal.write_directories-requires-clause-placed
write_directories-requires-clause-placed g c =
    let o = old_layout (layout_of c.args.space.now) c.requires.old_map in
    let r =
    readdressed_all (layout_of c.args.space.now) c.args.map.now c.args.ready.now.moves (nodes_of c.args.tree.now) (nodes_of c.readdress_all.new.tree) (nodes_of c.move_nodes.new.tree) c.readdress_all.new.spares.items
    (bound_of c.args.tree.now) c.bound.ensures.above c.readdress_all.ensures.nodes c.readdress_all.ensures.long (bound_of c.readdress_all.new.tree) c.readdress_all.ensures.bound c.move_nodes.ensures.nodes in
    c.requires.placed o.0 (nodes_of c.move_nodes.new.tree) o.1 (r.moved o.0 o.1)

pub returns-in_err-write_directories-clause-readdressed : goal.returns-in_err-write_directories-clause-readdressed
returns-in_err-write_directories-clause-readdressed g c =
    readdressed_all (layout_of c.args.space.now) c.args.map.now c.args.ready.now.moves (nodes_of c.args.tree.now) (nodes_of c.readdress_all.new.tree) (nodes_of c.move_nodes.new.tree) c.readdress_all.new.spares.items
    (bound_of c.args.tree.now) c.bound.ensures.above c.readdress_all.ensures.nodes c.readdress_all.ensures.long (bound_of c.readdress_all.new.tree) c.readdress_all.ensures.bound c.move_nodes.ensures.nodes

pub returns-in_err-write_map-clause-readdressed : goal.returns-in_err-write_map-clause-readdressed
returns-in_err-write_map-clause-readdressed g c =
    readdressed_all (layout_of c.args.space.now) c.args.map.now c.args.ready.now.moves (nodes_of c.args.tree.now) (nodes_of c.readdress_all.new.tree) (nodes_of c.move_nodes.new.tree) c.readdress_all.new.spares.items
    (bound_of c.args.tree.now) c.bound.ensures.above c.readdress_all.ensures.nodes c.readdress_all.ensures.long (bound_of c.readdress_all.new.tree) c.readdress_all.ensures.bound c.move_nodes.ensures.nodes

pub returns-clause-readdressed : goal.returns-clause-readdressed
returns-clause-readdressed g c =
    readdressed_all (layout_of c.args.space.now) c.args.map.now c.args.ready.now.moves (nodes_of c.args.tree.now) (nodes_of c.readdress_all.new.tree) (nodes_of c.move_nodes.new.tree) c.readdress_all.new.spares.items
    (bound_of c.args.tree.now) c.bound.ensures.above c.readdress_all.ensures.nodes c.readdress_all.ensures.long (bound_of c.readdress_all.new.tree) c.readdress_all.ensures.bound c.move_nodes.ensures.nodes

pub returns-in_err-write_map-clause-places : goal.returns-in_err-write_map-clause-places
returns-in_err-write_map-clause-places g c = λ sectors have.
    leaves_then g.D.Disk (IsWritten c.args.map.now sectors) (IsWritten c.args.map.now [])
    (λ a b e first map. written_then c.args.map.now sectors a b e first (written_more c.args.map.now sectors b e map)) (c.write_directories.ensures.places sectors have) c.write_map.ensures.keeps.exit

pub returns-clause-places : goal.returns-clause-places
returns-clause-places g c = λ sectors have.
    leaves_then g.D.Disk (IsWritten c.args.map.now sectors) (IsWritten c.args.map.now [])
    (λ a b e first map. written_then c.args.map.now sectors a b e first (written_more c.args.map.now sectors b e map)) (c.write_directories.ensures.places sectors have) c.write_map.ensures.keeps.exit
