use Rattle.std.proofs.Common.{ap, arith}
use Rattle.fc_objects.specs.Extents.{sectors_in}
use Rattle.fc_space.specs.Space.{layout_of}
use Rattle.fc_tree.specs.Nodes.{Numbers}
use Rattle.fc_tree.proofs.CallLemmas.{of_tree}
use Rattle.fc_tree.proofs.LoadedLemmas.{loaded}
use Rattle.fc_tree.proofs.loading.load.Goals as goal

pub returns-clause-tree : goal.returns-clause-tree
returns-clause-tree g c =
    loaded (layout_of c.args.places.now) (sectors_in c.args.reserved.now) c.args.root c.args.root_size (g.D.Disk.bytes c.args.disk.now) c.in_ok-nodes.nodes.items c.in_ok-from_nodes.field-0 c.in_ok-nodes.ensures.ok
    (ap (λ (tree : Numbers). tree.slots) c.in_ok-from_nodes.ensures)

pub returns-clause-numbers : goal.returns-clause-numbers
returns-clause-numbers g c = (c.in_ok-nodes.nodes.items, c.in_ok-from_nodes.ensures)

pub returns-clause-few : goal.returns-clause-few
returns-clause-few g c =
    omega (arith, c.in_ok-nodes.ensures.few, of_tree (layout_of c.args.places.now) c.in_ok-nodes.nodes.items c.in_ok-from_nodes.field-0 (ap (λ (tree : Numbers). tree.slots) c.in_ok-from_nodes.ensures))
