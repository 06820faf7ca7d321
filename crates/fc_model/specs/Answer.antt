-- The model of commands: each is refused for one reason, the first that applies, or changes the map.
use Rattle.std.specs.Prelude.{ℕ, ◌+◌, ◌*◌, ◌/◌, ◌%◌, Bool, false, not, ◌&&◌, ◌||◌, ◌==◌, nat_lt, List, [], ◌∷◌, ◌++◌, length, map, drop, replicate, Option, Some, None, is_some, Result, Ok, Err, if◌then◌else◌}
use Rattle.std.specs.Option.{option_map_or}
use Rattle.std.specs.FinMap.{entries, insert, remove, from_entries}
use Rattle.fc_names.specs.declared.name.NameForm.{NameForm}
use Rattle.fc_names.specs.declared.refusal.Refusal.{Refusal}
use Rattle.fc_names.specs.declared.refusal.Refusal.TheVariants as refusals
use Rattle.fc_names.specs.Names.{Path, folded_path, is_same_path, is_writable, is_locked}
use Rattle.fc_model.specs.Tree.{Body, Node, Tree, node_at, is_directory_body, holder, last_name, is_prefix, children}
use Rattle.fc_model.specs.Command.{Command}

-- ---- where a path leads

-- the node there, or that nothing is
abbrev pub node_or_absent : Option Node → Result Node Refusal
node_or_absent None = Err refusals.NotFound
node_or_absent (Some node) = Ok node

-- The shortest prefix that is no directory decides: it isn't there, or it is a file with names after it.
abbrev pub found_below : Tree → Path → Path → Result Node Refusal
found_below t seen [] = node_or_absent (node_at t seen)
found_below t seen (name ∷ names) = below (node_at t seen) (found_below t (seen ++ name ∷ []) names)
  where
    below : Option Node → Result Node Refusal → Result Node Refusal
    below None further = Err refusals.NotFound
    below (Some node) further = if is_directory_body node.body then further else Err refusals.NotDirectory

-- the node at a path, or why there is none
abbrev pub found : Tree → Path → Result Node Refusal
found t path = found_below t [] path

-- why nothing was found
abbrev pub refusal_of : Result Node Refusal → Option Refusal
refusal_of (Ok node) = None
refusal_of (Err refusal) = Some refusal

-- why the path leads to no object, if it does not
abbrev pub path_refusal : Tree → Path → Option Refusal
path_refusal t path = refusal_of (found t path)

-- why a path can hold nothing: it leads nowhere, or to a file
abbrev pub refusal_of_holder : Result Node Refusal → Option Refusal
refusal_of_holder (Ok node) = if is_directory_body node.body then None else Some refusals.NotDirectory
refusal_of_holder (Err refusal) = Some refusal

-- the directories above the path aren't all there
abbrev pub holder_refusal : Tree → Path → Option Refusal
holder_refusal t [] = None
holder_refusal t (name ∷ names) = refusal_of_holder (found t (holder (name ∷ names)))

-- ---- tests

-- There is a node that passes the test.
abbrev pub node_passes : (Node → Bool) → Tree → Path → Bool
node_passes test t path = option_map_or test (node_at t path) false

-- An object is there.
abbrev pub is_present : Tree → Path → Bool
is_present t path = is_some (node_at t path)

-- A directory is there.
abbrev pub is_directory_at : Tree → Path → Bool
is_directory_at t path = node_passes (λ n. is_directory_body n.body) t path

-- A file is there.
abbrev pub is_file_at : Tree → Path → Bool
is_file_at t path = node_passes (λ n. not (is_directory_body n.body)) t path

-- An object is there that has the Locked bit.
abbrev pub is_locked_at : Tree → Path → Bool
is_locked_at t path = node_passes (λ n. is_locked n.attrs) t path

-- The path is the root.
abbrev pub is_root : Path → Bool
is_root path = length path == 0

-- The directory there holds something.
abbrev pub has_entries : Tree → Path → Bool
has_entries t path = nat_lt 0 (length (children t path))

-- the first is a directory above the second
abbrev pub is_above : Path → Path → Bool
is_above p q = is_prefix (folded_path p) (folded_path q) && not (length p == length q)

-- the path has a last name, and it can't be written
abbrev pub is_name_bad : NameForm → Path → Bool
is_name_bad form path = not (is_root path || is_writable form (last_name path))

-- ---- refusals

-- the refusal, if the test holds
abbrev pub when : Bool → Refusal → Option Refusal
when test refusal = if test then Some refusal else None

-- the first refusal of all
abbrev pub first_of : List (Option Refusal) → Option Refusal
first_of [] = None
first_of (None ∷ rest) = first_of rest
first_of (Some refusal ∷ rest) = Some refusal

-- the reasons for which each command is refused, in their order
abbrev pub reasons : Tree → NameForm → Bool → Command → List (Option Refusal)
reasons t form read_only (Command.Cat path) =
    path_refusal t path ∷ when (is_file_at t path) refusals.NotDirectory ∷ []
reasons t form read_only (Command.Load path) =
    path_refusal t path ∷ when (is_directory_at t path) refusals.IsDirectory ∷ []
reasons t form read_only (Command.Digest path) =
    path_refusal t path ∷ when (is_directory_at t path) refusals.IsDirectory ∷ []
reasons t form read_only (Command.Save path load exec bytes) =
    when (is_name_bad form path) refusals.BadName ∷ holder_refusal t path ∷ when (is_directory_at t path) refusals.IsDirectory
    ∷ when (is_locked_at t path) refusals.Locked ∷ when read_only refusals.ReadOnly ∷ []
reasons t form read_only (Command.Create path load exec len) =
    when (is_name_bad form path) refusals.BadName ∷ holder_refusal t path ∷ when (is_directory_at t path) refusals.IsDirectory
    ∷ when (is_locked_at t path) refusals.Locked ∷ when read_only refusals.ReadOnly ∷ []
reasons t form read_only (Command.Cdir path) =
    when (is_name_bad form path) refusals.BadName ∷ holder_refusal t path ∷ when (is_present t path) refusals.Exists
    ∷ when read_only refusals.ReadOnly ∷ []
reasons t form read_only (Command.Delete path) =
    path_refusal t path ∷ when (is_root path) refusals.RootRefused ∷ when (is_locked_at t path) refusals.Locked
    ∷ when (has_entries t path) refusals.NotEmpty ∷ when read_only refusals.ReadOnly ∷ []
reasons t form read_only (Command.Rename from to) =
    when (is_name_bad form to) refusals.BadName ∷ path_refusal t from ∷ holder_refusal t to
    ∷ when (is_present t to && not (is_same_path from to)) refusals.Exists ∷ when (is_root from) refusals.RootRefused
    ∷ when (is_above from to) refusals.IntoItself ∷ when (is_locked_at t from) refusals.Locked ∷ when read_only refusals.ReadOnly ∷ []
reasons t form read_only (Command.Set path load exec access) =
    path_refusal t path ∷ when (is_root path) refusals.RootRefused ∷ when read_only refusals.ReadOnly ∷ []
reasons t form read_only (Command.Mark path attrs) =
    path_refusal t path ∷ when (is_root path) refusals.RootRefused ∷ when read_only refusals.ReadOnly ∷ []
reasons t form read_only Command.Free = []
reasons t form read_only Command.Check = []
reasons t form read_only Command.Compact = when read_only refusals.ReadOnly ∷ []
reasons t form read_only Command.Reclaim = when read_only refusals.ReadOnly ∷ []

-- ---- the new map

-- A file that is there keeps its name and attributes. A new one may be read and written.
abbrev pub with_file : Tree → Path → ℕ → ℕ → List ℕ → Tree
with_file t path load exec bytes =
    insert t (folded_path path) (record {
      name = option_map_or (λ n. n.name) (node_at t path) (last_name path);
      attrs = option_map_or (λ n. n.attrs) (node_at t path) 3;
      load = load;
      exec = exec;
      body = Body.File bytes;
    })

-- a new directory has attributes 8 and words 0
abbrev pub with_directory : Tree → Path → Tree
with_directory t path = insert t (folded_path path) (record { name = last_name path; attrs = 8; load = 0; exec = 0; body = Body.Directory })

-- What stands at a folded path or below it stands at the other path or below that, and has its last name.
abbrev pub moved_entry : Path → Path → Path × Node → Path × Node
moved_entry from to e =
    if is_prefix (folded_path from) e.0 then (folded_path to ++ drop (length from) e.0, renamed)
    else e
  where
    renamed : Node
    renamed = if length e.0 == length from then record e.1 { name = last_name to } else e.1

-- the map in which what is at or below a path is at or below another
abbrev pub with_moved : Tree → Path → Path → Tree
with_moved t from to = from_entries (map (moved_entry from to) (entries t))

-- other words, and bits 0 to 2 of the attributes
abbrev pub with_words : ℕ → ℕ → ℕ → Node → Node
with_words load exec access node = record node { attrs = node.attrs / 8 * 8 + access; load = load; exec = exec }

-- other attributes, but for bit 3
abbrev pub with_attrs : ℕ → Node → Node
with_attrs attrs node = record node { attrs = attrs / 16 * 16 + 8 * (node.attrs / 8 % 2) + attrs % 8 }

-- the map after a command that is accepted
abbrev pub changed : Tree → Command → Tree
changed t (Command.Cat path) = t
changed t (Command.Load path) = t
changed t (Command.Digest path) = t
changed t (Command.Save path load exec bytes) = with_file t path load exec bytes
changed t (Command.Create path load exec len) = with_file t path load exec (replicate len 0)
changed t (Command.Cdir path) = with_directory t path
changed t (Command.Delete path) = remove t (folded_path path)
changed t (Command.Rename from to) = with_moved t from to
changed t (Command.Set path load exec access) = option_map_or (λ node. insert t (folded_path path) (with_words load exec access node)) (node_at t path) t
changed t (Command.Mark path attrs) = option_map_or (λ node. insert t (folded_path path) (with_attrs attrs node)) (node_at t path) t
changed t Command.Free = t
changed t Command.Check = t
changed t Command.Compact = t
changed t Command.Reclaim = t

-- the refusal, or else the map
abbrev pub answer_or : Tree → Option Refusal → Result Tree Refusal
answer_or t None = Ok t
answer_or t (Some refusal) = Err refusal

-- the first refusal, or the new map
unfoldable pub answer : Tree → NameForm → Bool → Command → Result Tree Refusal
answer t form read_only command = answer_or (changed t command) (first_of (reasons t form read_only command))
