-- Serving the lines of a script over a volume.
use Rattle.std.specs.Prelude.{◌≡◌, ℕ, Bool, true, false, List, ◌++◌, length, Option, Some, None, Result, Ok, Err}
use Rattle.fc_device.specs.declared.disk.Disk.{Ghosts}
use Rattle.fc_image.specs.Stays.{OpensAs}
use Rattle.fc_image.specs.effects.Effect.{State}
use Rattle.fc_runs.specs.Promises.{Cause, HasRun, HasStopped}
use Rattle.fc_runs.specs.Run.{Mode, Steps, all_keep_tree, commands_in, text_of}
use Rattle.fc_runs.specs.Stops.{HasTreeBetween, IsLeftBefore, LeftByLine, MayHaveLeft, StepsTo, all_leave_image}
use Rattle.fc_tree.specs.Parts.{ArePartsOf}
use Rattle.fc_volume.specs.Volume.{Volume, parts_of}
use Rattle.fc_shell.specs.declared.answer.LineFault.{LineFault}
use Rattle.fc_shell.specs.declared.answer.LineFault.TheVariants as lines
use Rattle.fc_shell.specs.declared.tally.Tally.{Tally}
use Rattle.fc_shell.specs.Counted.{AreCounted, has_refused}
use Rattle.fc_runs.specs.Meanwhile.{LeavesImage, LeavesTree}
use Rattle.fc_shell.specs.Writing.{Wrote}

-- The lines before those that are left were done, by steps from s to a state that the disk has now.
pub record AreDone {D : Type 0} (d : Ghosts D) (old now : D) (mode : Mode) (s : State) (script : List ℕ) (left : List (List ℕ)) : Type 0 where
  pub done : List (List ℕ)
  pub replies : List (List ℕ)
  pub state : State
  pub cut : commands_in script ≡ done ++ left
  pub steps : Steps (MayHaveLeft d old now) mode s done replies state
  pub holds : d.bytes now ≡ Some state.image
  pub opens : OpensAs state.image mode.kind state.view
  pub kept : all_keep_tree done replies ≡ true → LeavesTree d old now mode.kind s
  pub still : all_leave_image done replies ≡ true → LeavesImage d old now s
  pub during : mode.safe ≡ true → (image : List ℕ) → d.left_since now (d.moment old) image → HasTreeBetween (StepsTo mode s done replies) (length replies) mode.kind image
  pub along : mode.safe ≡ false → (image : List ℕ) → d.left_since now (d.moment old) image → IsLeftBefore (StepsTo mode s done replies) (LeftByLine mode.kind) done replies state image

-- Their replies were written, and the volume's parts are those of this state.
pub record HasServed {D : Type 0} (d : Ghosts D) (old now : D) (mode : Mode) (s : State) (script : List ℕ) (left : List (List ℕ)) (v : Volume) (tally : Tally) (before after : Option (List ℕ)) : Type 0 where
  pub lines : AreDone d old now mode s script left
  pub counted : AreCounted lines.replies tally
  pub wrote : Wrote before after (text_of lines.replies)
  pub parts : ArePartsOf (parts_of v) lines.state.view

-- the cause for which a run ends early in a line
abbrev pub cause_of : LineFault → Cause
cause_of lines.Disk = Cause.Disk
cause_of lines.Out = Cause.Out
cause_of lines.NoMemory = Cause.Memory

-- All lines were done; or some were, and then a call failed or memory was short.
abbrev pub ServesAs : {D : Type 0} → Ghosts D → D → D → Mode → State → List ℕ → Option (List ℕ) → Option (List ℕ) → Result Tally LineFault → Type 0
ServesAs d old new mode s script before after (Ok tally) =
    (text : List ℕ) × Wrote before after text × (has : HasRun d old new mode false None s script text (has_refused tally)) × AreCounted has.run.replies tally
ServesAs d old new mode s script before after (Err fault) =
    (text : List ℕ) × Wrote before after text × HasStopped d old new mode false None s script text (cause_of fault)
