-- Runs of scripts: each line is a step from one image to the next, with its reply.
use Rattle.std.specs.Prelude.{◌≡◌, ◌≤◌, ℕ, suc, ◌-◌, Bool, true, false, not, ◌||◌, ◌&&◌, ◌==◌, nat_le, List, [], ◌∷◌, ◌++◌, length, filter, take, if◌then◌else◌, Option, Some, None, Result, Ok, Err, codes, slice_get}
use Rattle.std.specs.List.{flat_map, count_by, ends_with}
use Rattle.std.specs.Option.{option_map}
use Rattle.std.specs.Fmt.{decimal}
use Rattle.hex.specs.Hex.{encode_lower}
use Rattle.sha2.specs.Sha256.{sha256}
use Rattle.fc_record.specs.declared.Kind.{Kind}
use Rattle.fc_names.specs.declared.refusal.Refusal.{Refusal}
use Rattle.fc_names.specs.declared.refusal.Refusal.TheVariants as refusals
use Rattle.fc_model.specs.Tree.{Tree}
use Rattle.fc_model.specs.Command.{Command}
use Rattle.fc_model.specs.Answer.{answer, first_of}
use Rattle.fc_image.specs.Layout.{Layout, dir_form}
use Rattle.fc_image.specs.Opening.{Opened}
use Rattle.fc_image.specs.effects.Short.{short}
use Rattle.fc_image.specs.effects.Effect.{State, tree_in, Changes, Compacts}
use Rattle.fc_image.specs.safe.SafeShort.{SafeRefusal, safe_refusal}
use Rattle.fc_image.specs.safe.SafeEffect.{SafeChanges, HasTree, HasTreeBeforeOrAfter}
use Rattle.fc_image.specs.safe.Reclaim.{Reclaims, reclaimed_bytes}
use Rattle.fc_script.specs.Lines.{lines_of, is_command_line, command_of}
use Rattle.fc_script.specs.Texts.{refusal_line, error_line, reclaimed_line, line_of, ok_line}
use Rattle.fc_runs.specs.Replies.{reply_to}
use Rattle.fc_runs.specs.Demo.{demo_script}

-- how the image was opened: as which kind, read-only or not, and in the safe mode or not
pub record Mode : Type 0 where
  pub kind : Kind
  pub read_only : Bool
  pub safe : Bool

-- ---- effects

-- what a changing command does, in either mode
abbrev pub ChangesBy : Bool → Kind → State → State → Command → Tree → Type 0
ChangesBy true kind s s' c t = SafeChanges kind s s' c t
ChangesBy false kind s s' c t = Changes kind s s' c t

-- an accepted command: reading ones leave the image
abbrev pub Effect : Mode → State → Command → Tree → State → Type 0
Effect mode s (Command.Cat path) t s' = s' ≡ s
Effect mode s (Command.Load path) t s' = s' ≡ s
Effect mode s (Command.Digest path) t s' = s' ≡ s
Effect mode s Command.Free t s' = s' ≡ s
Effect mode s Command.Check t s' = s' ≡ s
Effect mode s Command.Compact t s' = Compacts mode.kind s s'
Effect mode s Command.Reclaim t s' = Reclaims mode.kind s s'
Effect mode s c t s' = ChangesBy mode.safe mode.kind s s' c t

-- `reclaim` tells what it gave back
abbrev pub reply_of : State → Command → State → List ℕ
reply_of s Command.Reclaim s' = reclaimed_line (reclaimed_bytes s.view s'.view) ++ ok_line
reply_of s c s' = reply_to (tree_in s) s.view c

-- ---- refusals by the layout

-- a refusal by the map
abbrev pub layout_reason : Layout → Command → Option Refusal
layout_reason (Layout.Old space) Command.Reclaim = Some refusals.NotNewMap
layout_reason layout c = None

-- the line of a refusal of the safe mode
abbrev pub safe_line : SafeRefusal → List ℕ
safe_line (SafeRefusal.Refused refusal) = refusal_line refusal
safe_line (SafeRefusal.Spread zones) = error_line 17 (codes "Spread")

-- the line of the refusal that the layout gives an accepted command
abbrev pub shortage : Bool → Opened → Command → Option (List ℕ)
shortage true v c = option_map safe_line (safe_refusal v c)
shortage false v c = option_map refusal_line (first_of (layout_reason v.layout c ∷ short v c ∷ []))

-- ---- steps

-- a refusal: its line is the reply, and the image stays
abbrev pub Refuses : State → List ℕ → List ℕ → State → Type 0
Refuses s line reply s' = (reply ≡ line) × (s' ≡ s)

-- an accepted command, or one for which space is short
abbrev pub Serves : Mode → State → Command → Tree → Option (List ℕ) → List ℕ → State → Type 0
Serves mode s c t (Some line) reply s' = Refuses s line reply s'
Serves mode s c t None reply s' = (reply ≡ reply_of s c s') × Effect mode s c t s'

-- a command: refused by the model, or served
abbrev pub Answers : Mode → State → Command → Result Tree Refusal → List ℕ → State → Type 0
Answers mode s c (Err refusal) reply s' = Refuses s (refusal_line refusal) reply s'
Answers mode s c (Ok t) reply s' = Serves mode s c t (shortage mode.safe s.view c) reply s'

-- a line: no command, or one
abbrev pub Takes : Mode → State → Result Command Refusal → List ℕ → State → Type 0
Takes mode s (Err refusal) reply s' = Refuses s (refusal_line refusal) reply s'
Takes mode s (Ok c) reply s' = Answers mode s c (answer (tree_in s) (dir_form s.view.layout) mode.read_only c) reply s'

-- a line as a step from one image to the next
abbrev pub Step : Mode → State → List ℕ → List ℕ → State → Type 0
Step mode s line reply s' = Takes mode s (command_of line) reply s'

-- Lines in turn, with their replies. Each image between passes `May`, as that a crash might have left it.
abbrev pub Steps : (List ℕ → Type 0) → Mode → State → List (List ℕ) → List (List ℕ) → State → Type 0
Steps May mode s [] [] s' = s' ≡ s
Steps May mode s (line ∷ lines) (reply ∷ replies) s' =
    (mid : State) × May mid.image × Step mode s line reply mid × Steps May mode mid lines replies s'
Steps May mode s [] (reply ∷ replies) s' = ⊥
Steps May mode s (line ∷ lines) [] s' = ⊥

-- ---- texts

-- the lines that have a reply
abbrev pub commands_in : List ℕ → List (List ℕ)
commands_in script = filter is_command_line (lines_of script)

-- the replies in order
abbrev pub text_of : List (List ℕ) → List ℕ
text_of replies = flat_map (λ reply. reply) replies

-- Every reply but a refusal ends with the line `ok`, and no refusal's word does.
abbrev pub is_error : List ℕ → Bool
is_error reply = not (ends_with ◌==◌ reply ok_line)

-- the one line of a demo
abbrev pub demo_line : ℕ → List (List ℕ) → List ℕ
demo_line n replies = line_of (
    codes "demo" ∷ decimal n ∷ codes "commands" ∷ decimal (length replies) ∷ codes "refused" ∷ decimal (count_by is_error replies)
    ∷ codes "sha256" ∷ encode_lower (sha256 (text_of replies)) ∷ [])

-- with a demo the script is its own, and its line is written in place of the replies
abbrev pub script_for : Option ℕ → List ℕ → List ℕ
script_for None script = script
script_for (Some n) script = demo_script n

-- the text that is written
abbrev pub text_for : Option ℕ → List (List ℕ) → List ℕ
text_for None replies = text_of replies
text_for (Some n) replies = demo_line n replies

-- a whole script
pub record Run (May : List ℕ → Type 0) (mode : Mode) (demo : Option ℕ) (s : State) (script text : List ℕ) (s' : State) : Type 0 where
  pub start : May s.image
  pub replies : List (List ℕ)
  pub steps : Steps May mode s (commands_in (script_for demo script)) replies s'
  pub told : text ≡ text_for demo replies

-- ---- crashes

-- the commands that leave the tree as it is
abbrev pub keeps_tree : Command → Bool
keeps_tree (Command.Cat path) = true
keeps_tree (Command.Load path) = true
keeps_tree (Command.Digest path) = true
keeps_tree Command.Free = true
keeps_tree Command.Check = true
keeps_tree Command.Compact = true
keeps_tree Command.Reclaim = true
keeps_tree _ = false

-- a line that leaves the tree as it is
abbrev pub keeps_tree_or : Bool → Result Command Refusal → Bool
keeps_tree_or refused (Err refusal) = true
keeps_tree_or refused (Ok c) = refused || keeps_tree c

-- Each line with a reply passes a test, which gets whether it was refused, and so does the line that broke off without a reply,
-- which wasn't refused. Those after it were not begun.
abbrev pub each_line : (Bool → List ℕ → Bool) → List (List ℕ) → List (List ℕ) → Bool
each_line test (line ∷ lines) (reply ∷ replies) = test (is_error reply) line && each_line test lines replies
each_line test (line ∷ lines) [] = test false line
each_line test [] replies = true

-- Every line that isn't refused leaves the tree: then every crash of the run has the tree from before, by `KeepsTree`.
abbrev pub all_keep_tree : List (List ℕ) → List (List ℕ) → Bool
all_keep_tree lines replies = each_line (λ refused line. keeps_tree_or refused (command_of line)) lines replies

-- the replies of which the sink took all, if it took so many bytes
abbrev pub whole_replies : ℕ → List (List ℕ) → ℕ
whole_replies n [] = 0
whole_replies n (reply ∷ replies) = if nat_le (length reply) n then suc (whole_replies (n - length reply) replies) else 0

-- the tree after a command, by what the model answers and space allows
abbrev pub tree_by : State → Result Tree Refusal → Option (List ℕ) → Tree
tree_by s (Ok t) None = t
tree_by s answered short = tree_in s

-- the tree after a line, which is the same for each step
abbrev pub tree_after : Mode → State → Result Command Refusal → Tree
tree_after mode s (Err refusal) = tree_in s
tree_after mode s (Ok c) = tree_by s (answer (tree_in s) (dir_form s.view.layout) mode.read_only c) (shortage mode.safe s.view c)

-- The image has the tree of the state, or the one after the line that broke off, if one did.
abbrev pub HasTreeAround : Mode → State → Option (List ℕ) → List ℕ → Type 0
HasTreeAround mode s None image = HasTree mode.kind (tree_in s) image
HasTreeAround mode s (Some line) image = HasTreeBeforeOrAfter mode.kind s (tree_after mode s (command_of line)) image

-- the line that broke off after so many lines: the one after all that were done
abbrev pub line_begun : List (List ℕ) → List (List ℕ) → ℕ → Option (List ℕ)
line_begun lines replies count = if count == length replies then slice_get lines count else None

-- The image has the tree that stands after some of the lines done with these replies, at least so many, or that after the
-- line that broke off. In the safe mode every crash leaves such an image, and every exit one with at least the lines whose
-- whole replies the sink took.
pub record HasTreeAfter (May : List ℕ → Type 0) (mode : Mode) (s : State) (lines replies : List (List ℕ)) (least : ℕ) (image : List ℕ) : Type 0 where
  pub count : ℕ
  pub enough : least ≤ count
  pub within : count ≤ length replies
  pub mid : State
  pub steps : Steps May mode s (take count lines) (take count replies) mid
  pub tree : HasTreeAround mode mid (line_begun lines replies count) image
