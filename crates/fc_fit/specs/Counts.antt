-- How many files and directories there are.
use Rattle.std.specs.Prelude.{ℕ, Bool, false, not, List}
use Rattle.std.specs.List.{count_by}
use Rattle.std.specs.Option.{option_map_or}
use Rattle.std.specs.Ordering.{nat_cmp}
use Rattle.std.specs.FinMap.{FinMap, entries}
use Rattle.fc_names.specs.Names.{Path, is_directory}
use Rattle.fc_model.specs.Tree.{Tree, is_directory_body}
use Rattle.fc_tree.specs.declared.node.Node.{Node}
use Rattle.fc_fit.specs.declared.counts.Counts.{Counts}
use Rattle.fc_fit.specs.Found.{node_in}

-- A directory is at the path.
abbrev pub is_directory_in : FinMap nat_cmp Node → Path → Bool
is_directory_in nodes path = option_map_or (λ node. is_directory node.entry.attrs) (node_in nodes path) false

-- the counts of the nodes at these paths
abbrev pub counts_of : FinMap nat_cmp Node → List Path → Counts
counts_of nodes paths = record { files = count_by (λ p. not (is_directory_in nodes p)) paths; dirs = count_by (is_directory_in nodes) paths }

-- the counts of a tree
abbrev pub tree_counts : Tree → Counts
tree_counts t = record { files = count_by (λ e. not (is_directory_body e.1.body)) (entries t); dirs = count_by (λ e. is_directory_body e.1.body) (entries t) }
