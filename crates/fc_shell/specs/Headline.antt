-- The headline of a run whose lines were all done.
use Rattle.std.specs.Prelude.{◌≡◌, ℕ, List, Some, Ok}
use Rattle.fc_device.specs.declared.disk.Disk.{Ghosts}
use Rattle.fc_image.specs.effects.Effect.{State, tree_in}
use Rattle.fc_image.specs.Opening.{Opened, open_image}
use Rattle.fc_runs.specs.Headline.{MapAnswers}
use Rattle.fc_runs.specs.Run.{commands_in, script_for, text_for}
use Rattle.fc_words.specs.CommandLine.{Request}
use Rattle.fc_shell.specs.Modes.{mode_of}
use Rattle.fc_shell.specs.Replies.{image_for}

-- the image that the run begins with, the fresh one if one was asked for, and what it opens as
abbrev pub start_of : Request → List ℕ → Opened → State
start_of r image v = record { image = image_for r.new image; view = v }

-- The image opens. The tree in it is a map from paths to attributes and bytes, which answers the lines in turn: their replies were
-- written, or a demo's line over them, and the image that the disk then has holds the map after them.
pub record IsAnsweredByMap {D : Type 0} (d : Ghosts D) (new : D) (r : Request) (image script text : List ℕ) : Type 0 where
  pub view : Opened
  pub opens : open_image (image_for r.new image) ≡ Ok view
  pub replies : List (List ℕ)
  pub end : State
  pub answered : MapAnswers (mode_of view.kind r.read_only r.safe) (tree_in (start_of r image view)) (start_of r image view) (commands_in (script_for r.demo script)) replies (tree_in end) end
  pub told : text ≡ text_for r.demo replies
  pub holds : d.bytes new ≡ Some end.image
