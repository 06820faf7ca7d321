-- Which nodes paths lead to, and at which places entries stand in their directories.
use Rattle.std.specs.Prelude.{ℕ, Bool, false, not, ◌==◌, nat_lt, length, List, [], ◌∷◌, if◌then◌else◌, Option, Some, None, Result, Ok, Err, option_map}
use Rattle.std.specs.List.{position}
use Rattle.std.specs.Option.{option_and_then, option_map_or}
use Rattle.std.specs.Ordering.{nat_cmp}
use Rattle.std.specs.FinMap.{FinMap, get}
use Rattle.fc_names.specs.declared.refusal.Refusal.{Refusal}
use Rattle.fc_names.specs.declared.refusal.Refusal.TheVariants as refusals
use Rattle.fc_names.specs.Names.{Path, is_locked, is_same_name}
use Rattle.fc_model.specs.Tree.{last_name}
use Rattle.fc_model.specs.Answer.{is_root}
use Rattle.fc_dirs.specs.declared.Entry.{Entry}
use Rattle.fc_tree.specs.declared.node.Body.{Body}
use Rattle.fc_tree.specs.declared.node.Body.TheVariants as bodies
use Rattle.fc_tree.specs.declared.node.Node.{Node}
use Rattle.fc_tree.specs.declared.node.Found.{Found}
use Rattle.fc_tree.specs.declared.node.Found.TheVariants as founds
use Rattle.fc_tree.specs.Nodes.{is_directory_node}
use Rattle.fc_refusals.specs.declared.target.Target.{Target}

-- the number of the node to which a path leads, or why it leads to none
abbrev pub number_found : Found → Result ℕ Refusal
number_found (founds.Node n) = Ok n
number_found founds.Absent = Err refusals.NotFound
number_found founds.NotDirectory = Err refusals.NotDirectory

-- why nothing at a path is renamed to the root's path
abbrev pub refusal_to_root : Found → Path → Refusal
refusal_to_root (founds.Node n) from = if is_root from then refusals.RootRefused else refusals.Exists
refusal_to_root founds.Absent from = refusals.NotFound
refusal_to_root founds.NotDirectory from = refusals.NotDirectory

-- There is a node of another number.
abbrev pub is_other : Option ℕ → ℕ → Bool
is_other None n = false
is_other (Some m) n = not (m == n)

-- the same if a directory is needed
abbrev pub directory_found : FinMap nat_cmp Node → Found → Result ℕ Refusal
directory_found nodes (founds.Node n) = if is_directory_node nodes n then Ok n else Err refusals.NotDirectory
directory_found nodes founds.Absent = Err refusals.NotFound
directory_found nodes founds.NotDirectory = Err refusals.NotDirectory

-- the last name of a path, if it isn't the root's
abbrev pub own_name : Path → Option (List ℕ)
own_name [] = None
own_name (name ∷ names) = Some (last_name (name ∷ names))

-- the entries of a body, none of a file's
abbrev pub entries_in : Body → List Entry
entries_in bodies.File = []
entries_in (bodies.Small dir) = dir.entries
entries_in (bodies.Big dir) = dir.entries

-- the entries of the directory of a node
abbrev pub entries_at : FinMap nat_cmp Node → ℕ → List Entry
entries_at nodes n = option_map_or (λ node. entries_in node.body) (get nodes n) []

-- The directory of a node has entries.
abbrev pub has_entries_at : FinMap nat_cmp Node → ℕ → Bool
has_entries_at nodes n = nat_lt 0 (length (entries_at nodes n))

-- The object of a node has the Locked bit.
abbrev pub is_locked_node : FinMap nat_cmp Node → ℕ → Bool
is_locked_node nodes n = option_map_or (λ node. is_locked node.entry.attrs) (get nodes n) false

-- the place of the first entry of a name
abbrev pub place_of : List Entry → List ℕ → Option ℕ
place_of entries name = position (λ e. is_same_name name e.name) entries

-- a node, the directory that holds it, and the place there of its name
abbrev pub target_of : FinMap nat_cmp Node → ℕ → Node → Option Target
target_of nodes n node = option_map (λ at. record { holder = node.holder; at = at; node = n }) (place_of (entries_at nodes node.holder) node.entry.name)

-- the same of a number
abbrev pub target_in : FinMap nat_cmp Node → ℕ → Option Target
target_in nodes n = option_and_then (target_of nodes n) (get nodes n)
