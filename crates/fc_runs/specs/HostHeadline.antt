-- The headline of a run whose lines may move files of a host that tells them: the disc is one map, and the host's files are another;
-- each line is answered by both.
use Rattle.std.specs.Prelude.{◌≡◌, ℕ, Bool, true, false, nat_lt, List, [], ◌∷◌, length, Option, Some, None, is_some, Result, Ok, Err}
use Rattle.std.specs.FinMap.{get, insert}
use Rattle.fc_host.specs.Files.{Files}
use Rattle.fc_names.specs.declared.refusal.Refusal.{Refusal}
use Rattle.fc_names.specs.declared.refusal.Refusal.TheVariants as refusals
use Rattle.fc_model.specs.Tree.{Tree, bytes_of_node, node_at}
use Rattle.fc_model.specs.Command.{Command}
use Rattle.fc_model.specs.Answer.{answer}
use Rattle.fc_image.specs.Layout.{dir_form}
use Rattle.fc_image.specs.Opening.{Opened}
use Rattle.fc_image.specs.Stays.{OpensAs}
use Rattle.fc_image.specs.effects.Effect.{State, tree_in}
use Rattle.fc_script.specs.HostLines.{HostLine}
use Rattle.fc_script.specs.Texts.{ok_line, refusal_line}
use Rattle.fc_runs.specs.Headline.{HoldsMap, IsReply, map_line}
use Rattle.fc_runs.specs.HostRun.{HostStep, HostSteps, Reading, longest_file}
use Rattle.fc_runs.specs.Run.{Mode}

-- the disc's map and the host's files after a line, and its reply if the maps settle that
abbrev pub Maps : Type 0
Maps = Tree × Files × Option (List ℕ)

abbrev pub refused_maps : Tree → Files → Refusal → Maps
refused_maps t files refusal = (t, files, Some (refusal_line refusal))

-- a command keeps the files
abbrev pub command_maps : Mode → Tree → Files → Opened → Command → Maps
command_maps mode t files v c = ((map_line mode t v (Ok c)).0, files, (map_line mode t v (Ok c)).1)

-- `get` by what the map answers to `load`, and by whether the file is there
abbrev pub get_maps : Tree → Files → List ℕ → List ℕ → Bool → Result Tree Refusal → Maps
get_maps t files host bytes there (Err refusal) = refused_maps t files refusal
get_maps t files host bytes true (Ok t') = refused_maps t files refusals.HostExists
get_maps t files host bytes false (Ok t') = (t, insert files host bytes, Some ok_line)

-- `put` of bytes that may be too many
abbrev pub put_bytes_maps : Mode → Tree → Files → Opened → Command → Bool → Maps
put_bytes_maps mode t files v save true = refused_maps t files refusals.HostTooLong
put_bytes_maps mode t files v save false = command_maps mode t files v save

-- `put` by the file, and by what the map answers to `save`
abbrev pub put_maps : Mode → Tree → Files → Opened → (List ℕ → Command) → Option (List ℕ) → Result Tree Refusal → Maps
put_maps mode t files v save file (Err refusal) = refused_maps t files refusal
put_maps mode t files v save None (Ok t') = refused_maps t files refusals.NoHostFile
put_maps mode t files v save (Some bytes) (Ok t') = put_bytes_maps mode t files v (save bytes) (nat_lt longest_file (length bytes))

-- What a line makes of both; v is how the disc lies then.
abbrev pub maps_after : Mode → Tree → Files → Opened → Result HostLine Refusal → Maps
maps_after mode t files v (Err refusal) = refused_maps t files refusal
maps_after mode t files v (Ok (HostLine.Get path host)) =
    get_maps t files host (bytes_of_node (node_at t path)) (is_some (get files host)) (answer t (dir_form v.layout) mode.read_only (Command.Load path))
maps_after mode t files v (Ok (HostLine.Put host path load exec)) =
    put_maps mode t files v (Command.Save path load exec) (get files host) (answer t (dir_form v.layout) mode.read_only (Command.Save path load exec []))
maps_after mode t files v (Ok (HostLine.Other c)) = command_maps mode t files v c

-- From the map t on, which the image of s holds, and from these files on, the lines are answered in turn, each by a step. At the end
-- the image of s' holds the map t', and the host has the files' of the end.
abbrev pub MapsAnswer : Reading → Mode → Tree → Files → State → List (List ℕ) → List (List ℕ) → Tree → Files → State → Type 0
MapsAnswer read mode t files s [] [] t' files' s' = HoldsMap mode t s × (t' ≡ t) × (files' ≡ files) × (s' ≡ s)
MapsAnswer read mode t files s (line ∷ lines) (reply ∷ replies) t' files' s' =
    HoldsMap mode t s × IsReply (maps_after mode t files s.view (read line)).2 reply
    × ((mid : State) × HostStep read mode s files line reply mid (maps_after mode t files s.view (read line)).1
    × MapsAnswer read mode (maps_after mode t files s.view (read line)).0 (maps_after mode t files s.view (read line)).1 mid lines replies t' files' s')
MapsAnswer read mode t files s [] (reply ∷ replies) t' files' s' = ⊥
MapsAnswer read mode t files s (line ∷ lines) [] t' files' s' = ⊥

-- Every run of steps is so, in either mode.
abbrev pub HostHeadlineLaw : Type 0
HostHeadlineLaw = (read : Reading) (mode : Mode) (s s' : State) (files files' : Files) (lines replies : List (List ℕ)) → OpensAs s.image mode.kind s.view
    → HostSteps read (λ between. Unit {0}) mode s files lines replies s' files' → MapsAnswer read mode (tree_in s) files s lines replies (tree_in s') files' s'
