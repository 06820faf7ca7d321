-- What stands at a path among nodes.
use Rattle.std.specs.Prelude.{List, [], Option, None, All, IsSome}
use Rattle.std.specs.Ordering.{nat_cmp}
use Rattle.std.specs.FinMap.{FinMap, get}
use Rattle.fc_names.specs.Names.{Path}
use Rattle.fc_dirs.specs.declared.Entry.{Entry}
use Rattle.fc_tree.specs.declared.node.Body.{Body}
use Rattle.fc_tree.specs.declared.node.Body.TheVariants as bodies
use Rattle.fc_tree.specs.declared.node.Node.{Node}
use Rattle.fc_tree.specs.declared.node.Found.{Found}
use Rattle.fc_tree.specs.declared.node.Found.TheVariants as founds
use Rattle.fc_tree.specs.Nodes.{found_in}

-- the node of a number that was found
abbrev pub node_found : FinMap nat_cmp Node → Found → Option Node
node_found nodes (founds.Node n) = get nodes n
node_found nodes founds.Absent = None
node_found nodes founds.NotDirectory = None

-- the node at a path
abbrev pub node_in : FinMap nat_cmp Node → Path → Option Node
node_in nodes path = node_found nodes (found_in nodes path)

-- Each path leads to a node.
abbrev pub AllLead : FinMap nat_cmp Node → List Path → Type 0
AllLead nodes paths = All (λ path. IsSome (node_in nodes path)) paths

-- the entries of a directory; a file has none
abbrev pub entries_in : Body → List Entry
entries_in bodies.File = []
entries_in (bodies.Small dir) = dir.entries
entries_in (bodies.Big dir) = dir.entries
