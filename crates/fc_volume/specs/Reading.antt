-- What the nodes of a volume answer to commands that read.
use Rattle.std.specs.Prelude.{ℕ, List, map, if◌then◌else◌, Option, Some, None, Result, Ok, Err, IsPermutation, IsSortedByKey}
use Rattle.std.specs.Ordering.{nat_cmp}
use Rattle.std.specs.FinMap.{FinMap, get}
use Rattle.fc_names.specs.declared.refusal.Refusal.TheVariants as refusals
use Rattle.fc_names.specs.Names.{Path, is_directory, name_cmp}
use Rattle.fc_dirs.specs.declared.Entry.{Entry}
use Rattle.fc_tree.specs.declared.node.Body.{Body}
use Rattle.fc_tree.specs.declared.node.Body.TheVariants as bodies
use Rattle.fc_tree.specs.declared.node.Node.{Node}
use Rattle.fc_tree.specs.declared.node.Found.{Found}
use Rattle.fc_tree.specs.declared.node.Found.TheVariants as founds
use Rattle.fc_tree.specs.Nodes.{found_in}
use Rattle.fc_holdings.specs.declared.error.CommandError.{CommandError}
use Rattle.fc_holdings.specs.declared.error.CommandError.TheVariants.{Refused}
use Rattle.fc_volume.specs.declared.lines.FileRef.{FileRef}
use Rattle.fc_volume.specs.declared.lines.Line.{Line}
use Rattle.fc_volume.specs.declared.lines.Listed.{Listed}
use Rattle.fc_volume.specs.declared.lines.Listed.TheVariants as lists

-- the number of the node to which a path leads, or why there is none
abbrev pub number_found : Found → Result ℕ CommandError
number_found (founds.Node n) = Ok n
number_found founds.Absent = Err (Refused refusals.NotFound)
number_found founds.NotDirectory = Err (Refused refusals.NotDirectory)

-- the file that has this number
abbrev pub file_of : ℕ → Option Node → Result FileRef CommandError
file_of n None = Err (Refused refusals.NotFound)
file_of n (Some node) = if is_directory node.entry.attrs then Err (Refused refusals.IsDirectory) else Ok (record { len = node.entry.len; node = n })

-- the file of a number that was found
abbrev pub file_from : FinMap nat_cmp Node → Result ℕ CommandError → Result FileRef CommandError
file_from nodes (Ok n) = file_of n (get nodes n)
file_from nodes (Err error) = Err error

-- the file at a path
abbrev pub file_at : FinMap nat_cmp Node → Path → Result FileRef CommandError
file_at nodes path = file_from nodes (number_found (found_in nodes path))

-- the entries of a directory
abbrev pub entries_in_body : Body → Result (List Entry) CommandError
entries_in_body bodies.File = Err (Refused refusals.NotDirectory)
entries_in_body (bodies.Small dir) = Ok dir.entries
entries_in_body (bodies.Big dir) = Ok dir.entries

-- the entries of a directory's node
abbrev pub entries_in : Option Node → Result (List Entry) CommandError
entries_in None = Err (Refused refusals.NotFound)
entries_in (Some node) = entries_in_body node.body

-- those of a number that was found
abbrev pub entries_from : FinMap nat_cmp Node → Result ℕ CommandError → Result (List Entry) CommandError
entries_from nodes (Ok n) = entries_in (get nodes n)
entries_from nodes (Err error) = Err error

-- the entries of the directory at a path, in stored order
abbrev pub entries_at : FinMap nat_cmp Node → Path → Result (List Entry) CommandError
entries_at nodes path = entries_from nodes (number_found (found_in nodes path))

-- a directory, or a file with its length
abbrev pub listed_of : Entry → Listed
listed_of e = if is_directory e.attrs then lists.Dir else lists.File e.len

-- an entry as a line
abbrev pub line_of : Entry → Line
line_of e = record { name = e.name; attrs = e.attrs; load = e.load; exec = e.exec; listed = listed_of e }

-- the lines of these entries, by name
pub record AreLines (entries : List Entry) (lines : List Line) : Type 0 where
  pub all : IsPermutation (map line_of entries) lines
  pub sorted : IsSortedByKey (λ (l : Line). l.name) name_cmp lines
