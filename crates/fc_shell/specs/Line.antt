-- What a line of a script does, as a step from one image to the next, and what it keeps of disk and volume.
use Rattle.std.specs.Prelude.{◌≡◌, ◌⊎◌, ℕ, Bool, true, false, List, Option, Some, Result, Ok, Err, IfOk}
use Rattle.std.specs.Option.{ForSome}
use Rattle.fc_device.specs.declared.disk.Disk.{Ghosts}
use Rattle.fc_device.specs.declared.streams.Sink.{Ghosts as Sinks}
use Rattle.fc_device.specs.Calls.{OnlyReads}
use Rattle.fc_image.specs.Stays.{OpensAs}
use Rattle.fc_image.specs.effects.Effect.{State, tree_in}
use Rattle.fc_script.specs.Lines.{command_of}
use Rattle.fc_runs.specs.Early.{reply_begun}
use Rattle.fc_runs.specs.Meanwhile.{GoesOn, LeavesImage, LeavesTree}
use Rattle.fc_runs.specs.Run.{Mode, Step, is_error, keeps_tree_or, tree_after}
use Rattle.fc_runs.specs.Stops.{LeftBy, LeftByMode, leaves_image_or}
use Rattle.fc_tree.specs.Parts.{ArePartsOf}
use Rattle.fc_volume.specs.Volume.{StandsFor, Volume, parts_of}
use Rattle.fc_shell.specs.declared.answer.LineFault.{LineFault}
use Rattle.fc_shell.specs.Answered.{IsCaused}
use Rattle.fc_shell.specs.Reads.{is_reading_line}
use Rattle.fc_shell.specs.Writing.{Wrote, WrotePart}

-- ---- what a line does

-- The line was done: a step with this reply leads from s to the state that the disk has now. A crash meanwhile leaves what the line may
-- leave: the tree, if it keeps it, and the image, if it is refused or reads; in the safe mode the tree before the line or after it.
pub record IsDone {D : Type 0} (d : Ghosts D) (old new : D) (mode : Mode) (s : State) (line reply : List ℕ) (next : State) : Type 0 where
  pub step : Step mode s line reply next
  pub holds : d.bytes new ≡ Some next.image
  pub opens : OpensAs next.image mode.kind next.view
  pub kept : keeps_tree_or (is_error reply) (command_of line) ≡ true → LeavesTree d old new mode.kind s
  pub still : leaves_image_or (is_error reply) (command_of line) ≡ true → LeavesImage d old new s
  pub spared : (image : List ℕ) → d.left_since new (d.moment old) image → LeftByMode mode s (tree_in next) (LeftBy mode.kind s (is_error reply) (command_of line)) image

-- It was done, and its whole reply written; the volume's parts are those of the new state.
pub record IsAnswered {D : Type 0} (d : Ghosts D) (old new : D) (mode : Mode) (s : State) (v : Volume) (line : List ℕ) (before after : Option (List ℕ)) (refused : Bool) : Type 0 where
  pub reply : List ℕ
  pub next : State
  pub done : IsDone d old new mode s line reply next
  pub parts : ArePartsOf (parts_of v) next.view
  pub wrote : Wrote before after reply
  pub refused_is : refused ≡ is_error reply

-- It was done, and a part of its reply was written; no call of the disk failed.
pub record IsCutOff {D : Type 0} (d : Ghosts D) (old new : D) (mode : Mode) (s : State) (line : List ℕ) (before after : Option (List ℕ)) (fault : LineFault) : Type 0 where
  pub reply : List ℕ
  pub next : State
  pub done : IsDone d old new mode s line reply next
  pub part : WrotePart before after reply
  pub no_disk : fault ≡ LineFault.Disk → ⊥

-- It broke off, and may have written a part of a reply if it reads. The disk has the image from before, unless one of its calls failed; then
-- it has what the line may leave.
pub record BreaksOff {D : Type 0} (d : Ghosts D) (old new : D) (mode : Mode) (s : State) (line : List ℕ) (before after : Option (List ℕ)) (fault : LineFault) : Type 0 where
  pub part : WrotePart before after (reply_begun mode s (command_of line))
  pub holds : (fault ≡ LineFault.Disk → ⊥) → d.bytes new ≡ Some s.image
  pub kept : keeps_tree_or false (command_of line) ≡ true → LeavesTree d old new mode.kind s
  pub still : leaves_image_or false (command_of line) ≡ true → LeavesImage d old new s
  pub spared : (image : List ℕ) → d.left_since new (d.moment old) image → LeftByMode mode s (tree_after mode s (command_of line)) (LeftBy mode.kind s false (command_of line)) image
  pub exit : ForSome (d.bytes new) (LeftByMode mode s (tree_after mode s (command_of line)) (LeftBy mode.kind s false (command_of line)))

-- what becomes of a line
abbrev pub LineEnds : {D : Type 0} → Ghosts D → D → D → Mode → State → Volume → List ℕ → Option (List ℕ) → Option (List ℕ) → Result Bool LineFault → Type 0
LineEnds d old new mode s v line before after (Ok refused) = IsAnswered d old new mode s v line before after refused
LineEnds d old new mode s v line before after (Err fault) =
    IsCutOff d old new mode s line before after fault ⊎ BreaksOff d old new mode s line before after fault

-- ---- what it keeps, whatever is known of the disk's bytes

-- The volume takes the next line: it stands for the disk, and nothing is pending.
pub record IsReady {D : Type 0} (d : Ghosts D) (new : D) (was v : Volume) : Type 0 where
  pub fit : v.fit ≡ true
  pub stands : StandsFor d v new
  pub settled : d.pending new ≡ false
  pub read_only : v.read_only ≡ was.read_only

-- what stays over a line
pub record KeepsGoing {D K : Type 0} (d : Ghosts D) (k : Sinks K) (old new : D) (before after : K) (was v : Volume) (line : List ℕ) (result : Result Bool LineFault) : Type 0 where
  pub goes : GoesOn d old new
  pub ready : IfOk result (λ refused. IsReady d new was v)
  pub settled : (result ≡ Err LineFault.Disk → ⊥) → d.pending new ≡ false
  pub reads : (was.read_only ≡ true) ⊎ (is_reading_line (command_of line) ≡ true) → OnlyReads d old new × (v ≡ was)
  pub caused : IsCaused d k old new before after result
