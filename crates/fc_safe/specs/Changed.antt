-- The directories that a job rewrites, by their nodes.
use Rattle.std.specs.Prelude.{ℕ, ◌==◌, List, [], ◌∷◌, ◌++◌, Option, Some, None, if◌then◌else◌}
use Rattle.std.specs.Option.{option_map_or}
use Rattle.std.specs.FinMap.{get}
use Rattle.fc_laws.specs.nodes.Edits.{Nodes}
use Rattle.fc_refusals.specs.declared.target.Slot.TheVariants as slots
use Rattle.fc_tree.specs.Nodes.{is_directory_node}
use Rattle.fc_tree.specs.declared.node.Node.{Node}
use Rattle.fc_change.specs.declared.job.Growth.{Growth}
use Rattle.fc_change.specs.declared.job.Job.{Job}
use Rattle.fc_change.specs.declared.job.Job.TheVariants as jobs
use Rattle.fc_change.specs.Directories.{directories_in}

-- those in which a path that the job names has its last name
abbrev pub named_in : Job → List ℕ
named_in (jobs.File (slots.New dir) words) = dir ∷ []
named_in (jobs.File (slots.Over t) words) = t.holder ∷ []
named_in (jobs.Directory dir) = dir ∷ []
named_in (jobs.Removal t) = t.holder ∷ []
named_in (jobs.Move r) = r.holder ∷ r.target.holder ∷ []
named_in (jobs.Words t words) = t.holder ∷ []
named_in (jobs.Marks t attrs) = t.holder ∷ []

-- what is renamed, if it is a directory
abbrev pub renamed_in : Nodes → Job → List ℕ
renamed_in nodes (jobs.Move r) = if is_directory_node nodes r.target.node then r.target.node ∷ [] else []
renamed_in nodes _ = []

-- the one that holds a directory; the root is held by none
abbrev pub holder_of : Nodes → ℕ → List ℕ
holder_of nodes n = if n == 0 then [] else option_map_or (λ (node : Node). node.holder ∷ []) (get nodes n) []

-- around a directory that grows: the one that holds it,
abbrev pub above_grown : Nodes → Option Growth → List ℕ
above_grown nodes None = []
above_grown nodes (Some g) = holder_of nodes g.node

-- and, if it gets a new identifier, those directly in it
abbrev pub within_moved : Nodes → Option Growth → List ℕ
within_moved nodes None = []
within_moved nodes (Some g) = directories_in nodes g.node

-- `grows` is the directory that grows, and `out` the same if it gets a new identifier.
abbrev pub changed_in : Nodes → Job → (grows out : Option Growth) → List ℕ
changed_in nodes job grows out = named_in job ++ (renamed_in nodes job ++ (above_grown nodes grows ++ within_moved nodes out))
