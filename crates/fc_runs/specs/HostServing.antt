-- Serving lines in turn that may move files of a host: what becomes of one line, and what is done before the next.
use Rattle.std.specs.Prelude.{◌≡◌, ◌⊎◌, ℕ, true, false, List, ◌++◌, length, Option, Some, Result}
use Rattle.std.specs.Option.{ForSome}
use Rattle.fc_device.specs.declared.disk.Disk.{Ghosts}
use Rattle.fc_host.specs.Answers.{AnswersCalls, all_asked}
use Rattle.fc_host.specs.Asked.{Asked}
use Rattle.fc_host.specs.Files.{Files}
use Rattle.fc_names.specs.declared.refusal.Refusal.{Refusal}
use Rattle.fc_image.specs.Stays.{OpensAs}
use Rattle.fc_image.specs.effects.Effect.{State, tree_in}
use Rattle.fc_script.specs.HostLines.{HostLine}
use Rattle.fc_runs.specs.AskedRun.{AskedSteps, AskedTakes}
use Rattle.fc_runs.specs.HostPromises.{AskedBegun, AskedLeaves, AskedStepsTo, IsBack}
use Rattle.fc_runs.specs.HostRun.{HasPartOf, Reading, all_host_keep_tree, host_keeps_tree}
use Rattle.fc_runs.specs.Meanwhile.{LeavesImage, LeavesTree}
use Rattle.fc_runs.specs.Promises.{Cause, StaysBy, spares_disk}
use Rattle.fc_runs.specs.Run.{Mode, is_error}
use Rattle.fc_runs.specs.Stops.{HasTreeBetween, HostLeftBy, HostLeftByLine, IsLeftBefore, LeftAs, LeftByMode, MayHaveLeft, all_host_leave_image, host_leaves_image}

-- ---- one line

-- The line was done: a step with this reply leads from s to the state that the disk has now. This was asked of the host, which
-- answered by its files. A crash meanwhile leaves what the line may leave: the tree, if it keeps it, and the image, if it is refused or reads.
pub record IsMoved {D : Type 0} (d : Ghosts D) (old new : D) (mode : Mode) (s : State) (line : Result HostLine Refusal) (reply : List ℕ) (asked : List Asked) (files left : Option Files) (next : State) : Type 0 where
  pub step : AskedTakes mode s asked line reply next
  pub answered : AnswersCalls files asked left
  pub holds : d.bytes new ≡ Some next.image
  pub opens : OpensAs next.image mode.kind next.view
  pub kept : host_keeps_tree (is_error reply) line ≡ true → LeavesTree d old new mode.kind s
  pub still : host_leaves_image (is_error reply) line ≡ true → LeavesImage d old new s
  pub spared : (image : List ℕ) → d.left_since new (d.moment old) image → LeftByMode mode s (tree_in next) (HostLeftBy mode.kind s (is_error reply) line) image

-- It broke off. The disk has the image from before, or one like it if the host failed, unless one of its own calls failed; it has what the
-- line may leave.
pub record IsBrokenOff {D : Type 0} (d : Ghosts D) (old new : D) (mode : Mode) (s : State) (line : Result HostLine Refusal) (asked : List Asked) (files left : Option Files) (cause : Cause) : Type 0 where
  pub begun : AskedBegun mode s line asked
  pub files_left : ForSome files (λ held. (now : Files) × (left ≡ Some now) × ((now ≡ held) ⊎ HasPartOf mode s held line now))
  pub back : IsBack asked files left
  pub holds : spares_disk cause ≡ true → (image : List ℕ) × (d.bytes new ≡ Some image) × StaysBy cause mode.kind s image
  pub kept : host_keeps_tree false line ≡ true → LeavesTree d old new mode.kind s
  pub still : host_leaves_image false line ≡ true → LeavesImage d old new s
  pub spared : (image : List ℕ) → d.left_since new (d.moment old) image → LeftAs mode.safe (AskedLeaves mode s line asked files) (HostLeftBy mode.kind s false line) image
  pub exit : ForSome (d.bytes new) (LeftAs mode.safe (AskedLeaves mode s line asked files) (HostLeftBy mode.kind s false line))

-- ---- lines in turn

-- The lines before those that are left were done, by steps from s to a state that the disk has now.
pub record AreMoved {D : Type 0} (d : Ghosts D) (read : Reading) (old now : D) (mode : Mode) (s : State) (files held : Option Files) (asked : List Asked) (all left : List (List ℕ)) : Type 0 where
  pub done : List (List ℕ)
  pub replies : List (List ℕ)
  pub asks : List (List Asked)
  pub state : State
  pub cut : all ≡ done ++ left
  pub steps : AskedSteps read (MayHaveLeft d old now) mode s done replies asks state
  pub asked_is : asked ≡ all_asked asks
  pub answered : AnswersCalls files (all_asked asks) held
  pub holds : d.bytes now ≡ Some state.image
  pub opens : OpensAs state.image mode.kind state.view
  pub kept : all_host_keep_tree read done replies ≡ true → LeavesTree d old now mode.kind s
  pub still : all_host_leave_image read done replies ≡ true → LeavesImage d old now s
  pub during : mode.safe ≡ true → (image : List ℕ) → d.left_since now (d.moment old) image → HasTreeBetween (AskedStepsTo read mode s done replies asks) (length replies) mode.kind image
  pub along : mode.safe ≡ false → (image : List ℕ) → d.left_since now (d.moment old) image → IsLeftBefore (AskedStepsTo read mode s done replies asks) (HostLeftByLine read mode.kind) done replies state image
