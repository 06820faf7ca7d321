-- The headline of a run whose lines may move files, over a host that tells its files.
use Rattle.std.specs.Prelude.{◌≡◌, ◌⊎◌, ℕ, List, Option, Some, is_some, Ok}
use Rattle.fc_device.specs.declared.disk.Disk.{Ghosts}
use Rattle.fc_host.specs.Files.{Files}
use Rattle.fc_image.specs.Opening.{Opened, open_image}
use Rattle.fc_image.specs.effects.Effect.{State, tree_in}
use Rattle.fc_runs.specs.HostHeadline.{MapsAnswer}
use Rattle.fc_script.specs.HostLines.{host_line_of}
use Rattle.fc_runs.specs.Run.{commands_in, text_of}
use Rattle.fc_words.specs.CommandLine.{Request}
use Rattle.fc_shell.specs.declared.ending.End.{End}
use Rattle.fc_shell.specs.declared.ending.End.TheVariants.{Done, Refused, HostFault}
use Rattle.fc_shell.specs.Headline.{start_of}
use Rattle.fc_shell.specs.HostPromise.{ToldOver}
use Rattle.fc_shell.specs.Modes.{mode_of}
use Rattle.fc_shell.specs.Replies.{image_for}

-- The run ended in its lines or after them.
abbrev pub IsInLines : End → Type 0
IsInLines end = (end ≡ Done) ⊎ ((end ≡ Refused) ⊎ (end ≡ HostFault))

-- The image opens, and the lines are steps from it on, with the files of the host.
pub record IsServedWithHost {D : Type 0} (d : Ghosts D) (old new : D) (r : Request) (image script text : List ℕ) (files left : Option Files) (end : End) : Type 0 where
  pub view : Opened
  pub opens : open_image (image_for r.new image) ≡ Ok view
  pub over : ToldOver d old new (mode_of view.kind r.read_only r.safe) (is_some r.new) (start_of r image view) files left script text end

-- The image opens, and the tree in it is a map. This map and the host's files answer the lines in turn: their replies were written, the
-- image that the disk then has holds the map after them, and the host has the files after them.
pub record IsAnsweredByMaps {D : Type 0} (d : Ghosts D) (new : D) (r : Request) (image script text : List ℕ) (files : Files) (left : Option Files) : Type 0 where
  pub view : Opened
  pub opens : open_image (image_for r.new image) ≡ Ok view
  pub replies : List (List ℕ)
  pub end : State
  pub now : Files
  pub left_is : left ≡ Some now
  pub answered : MapsAnswer host_line_of (mode_of view.kind r.read_only r.safe) (tree_in (start_of r image view)) files (start_of r image view) (commands_in script) replies (tree_in end) now end
  pub told : text ≡ text_of replies
  pub holds : d.bytes new ≡ Some end.image
