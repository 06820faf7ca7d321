-- The first object that doesn't fit, among nodes.
use Rattle.std.specs.Prelude.{ℕ, ◌+◌, Bool, not, ◌||◌, List, [], ◌∷◌, map, drop, Option, Some, None, if◌then◌else◌}
use Rattle.std.specs.Option.{option_and_then}
use Rattle.std.specs.Ordering.{nat_cmp}
use Rattle.std.specs.FinMap.{FinMap}
use Rattle.fc_names.specs.declared.name.NameForm.{NameForm}
use Rattle.fc_names.specs.Names.{Path, is_directory}
use Rattle.fc_dirs.specs.declared.Entry.{Entry}
use Rattle.fc_format.specs.declared.Format.{Format}
use Rattle.fc_tree.specs.declared.node.Node.{Node}
use Rattle.fc_fit.specs.declared.fit.Misfit.{Misfit}
use Rattle.fc_fit.specs.declared.fit.What.{What}
use Rattle.fc_fit.specs.declared.fit.What.TheVariants as whats
use Rattle.fc_fit.specs.Fit.{are_names_right, form_of, name_fault}
use Rattle.fc_fit.specs.Found.{entries_in, node_in}

-- the names of entries
abbrev pub names_of : List Entry → List (List ℕ)
names_of entries = map (λ e. e.name) entries

-- what of a node's entry doesn't fit
abbrev pub entry_fault : NameForm → Node → Option What
entry_fault form node = name_fault form node.entry.name node.entry.attrs

-- whether a directory has too many entries
abbrev pub entries_fault : NameForm → Node → Option What
entries_fault form node =
    if not (is_directory node.entry.attrs) || are_names_right form node.entry.name (names_of (entries_in node.body)) then None else Some whats.Entries

-- the fault of a number, or a later one
abbrev pub at_number : ℕ → Option What → Option Misfit → Option Misfit
at_number n None later = later
at_number n (Some what) later = Some (record { at = n; what = what })

-- the first path, the first of which has this number, whose node has a fault
abbrev pub first_from : FinMap nat_cmp Node → (Node → Option What) → ℕ → List Path → Option Misfit
first_from nodes fault n [] = None
first_from nodes fault n (path ∷ paths) = at_number n (option_and_then fault (node_in nodes path)) (first_from nodes fault (n + 1) paths)

-- the first of two
abbrev pub or_later : Option Misfit → Option Misfit → Option Misfit
or_later None later = later
or_later (Some misfit) later = Some misfit

-- by names and attributes of all but the root, whose path is the first, and then by the entries of directories
abbrev pub first_misfit : Format → FinMap nat_cmp Node → List Path → Option Misfit
first_misfit format nodes paths =
    or_later (first_from nodes (entry_fault (form_of format)) 1 (drop 1 paths)) (first_from nodes (entries_fault (form_of format)) 0 paths)
