-- The headline of a run: a disc is a map from paths to attributes and bytes, and each line is answered by that map. What the layout of
-- the disc decides is only which lines are refused for want of space, by conditions that are written down (`short`, and `safe_refusal` in
-- the safe mode), and what `free`, `check` and `reclaim` tell of it.
use Rattle.std.specs.Prelude.{◌≡◌, ℕ, List, [], ◌∷◌, map, Option, Some, None, Result, Ok, Err}
use Rattle.fc_names.specs.declared.refusal.Refusal.{Refusal}
use Rattle.fc_model.specs.Tree.{Tree, bytes_of_node, children, node_at}
use Rattle.fc_model.specs.Command.{Command}
use Rattle.fc_model.specs.Answer.{answer}
use Rattle.fc_image.specs.Layout.{dir_form}
use Rattle.fc_image.specs.Opening.{Opened}
use Rattle.fc_image.specs.Stays.{OpensAs}
use Rattle.fc_image.specs.effects.Effect.{State, tree_in}
use Rattle.fc_script.specs.Lines.{command_of}
use Rattle.fc_script.specs.Texts.{cat_reply, digest_reply, load_reply, ok_line, refusal_line}
use Rattle.fc_runs.specs.Run.{Mode, Step, Steps, shortage}

-- ---- one line

-- the reply to an accepted command: the map's, but of three commands that tell of the layout
abbrev pub map_reply : Tree → Command → Option (List ℕ)
map_reply t (Command.Cat path) = Some (cat_reply (map (λ e. e.1) (children t path)))
map_reply t (Command.Load path) = Some (load_reply (bytes_of_node (node_at t path)))
map_reply t (Command.Digest path) = Some (digest_reply (bytes_of_node (node_at t path)))
map_reply t Command.Free = None
map_reply t Command.Check = None
map_reply t Command.Reclaim = None
map_reply t c = Some ok_line

-- What a command leaves that the layout refuses, with this line, or doesn't refuse: the map, and the reply if the map settles it.
abbrev pub unless_short : Tree → Command → Tree → Option (List ℕ) → Tree × Option (List ℕ)
unless_short t c t' (Some line) = (t, Some line)
unless_short t c t' None = (t', map_reply t c)

-- by what the map answers
abbrev pub unless_refused : Mode → Tree → Opened → Command → Result Tree Refusal → Tree × Option (List ℕ)
unless_refused mode t v c (Err refusal) = (t, Some (refusal_line refusal))
unless_refused mode t v c (Ok t') = unless_short t c t' (shortage mode.safe v c)

-- What a line makes of the map, and its reply if the map settles that; v is how the disc lies then.
abbrev pub map_line : Mode → Tree → Opened → Result Command Refusal → Tree × Option (List ℕ)
map_line mode t v (Err refusal) = (t, Some (refusal_line refusal))
map_line mode t v (Ok c) = unless_refused mode t v c (answer t (dir_form v.layout) mode.read_only c)

-- ---- all lines

-- the reply is the map's, if that settles it
abbrev pub IsReply : Option (List ℕ) → List ℕ → Type 0
IsReply None reply = Unit {0}
IsReply (Some line) reply = reply ≡ line

-- The image opens, as the kind that it was opened as, and the tree in it is this map.
pub record HoldsMap (mode : Mode) (t : Tree) (s : State) : Type 0 where
  pub opens : OpensAs s.image mode.kind s.view
  pub tree : tree_in s ≡ t

-- From the map t on, which the image of s holds, the lines are answered in turn, each by a step to the next image. At the end the
-- image of s' holds the map t'.
abbrev pub MapAnswers : Mode → Tree → State → List (List ℕ) → List (List ℕ) → Tree → State → Type 0
MapAnswers mode t s [] [] t' s' = HoldsMap mode t s × (t' ≡ t) × (s' ≡ s)
MapAnswers mode t s (line ∷ lines) (reply ∷ replies) t' s' =
    HoldsMap mode t s × IsReply (map_line mode t s.view (command_of line)).1 reply
    × ((mid : State) × Step mode s line reply mid × MapAnswers mode (map_line mode t s.view (command_of line)).0 mid lines replies t' s')
MapAnswers mode t s [] (reply ∷ replies) t' s' = ⊥
MapAnswers mode t s (line ∷ lines) [] t' s' = ⊥

-- Every run of steps is so, in either mode.
abbrev pub HeadlineLaw : Type 0
HeadlineLaw = (mode : Mode) (s s' : State) (lines replies : List (List ℕ)) → OpensAs s.image mode.kind s.view
    → Steps (λ between. Unit {0}) mode s lines replies s' → MapAnswers mode (tree_in s) s lines replies (tree_in s') s'
