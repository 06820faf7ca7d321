-- What a whole run promises over any disk, for each way to end. s is the image as it opened, or the fresh one.
use Rattle.std.specs.Prelude.{◌≡◌, ◌⊎◌, ℕ, Bool, true, false, List, [], length, slice_get, Option, Some, None}
use Rattle.std.specs.Option.{ForSome}
use Rattle.std.specs.List.{list_any}
use Rattle.fc_device.specs.declared.disk.Disk.{Ghosts}
use Rattle.fc_device.specs.Calls.{StopsAsBefore}
use Rattle.fc_host.specs.Files.{Files}
use Rattle.fc_record.specs.declared.Kind.{Kind}
use Rattle.fc_image.specs.Stays.{OpensAs, stored_objects}
use Rattle.fc_image.specs.effects.Effect.{State}
use Rattle.fc_image.specs.safe.SafeEffect.{HasTreeBeforeOrAfter}
use Rattle.fc_script.specs.Lines.{command_of}
use Rattle.fc_runs.specs.Run.{Mode, Run, commands_in, script_for, is_error, tree_after, whole_replies}
use Rattle.fc_runs.specs.Early.{EndsEarly, HostEndsEarly}
use Rattle.fc_runs.specs.HostRun.{HostRun, Reading, host_tree_after}
use Rattle.fc_runs.specs.Stops.{HostLeftByLine, LeftByLine, LeftIn, MayHaveLeft, Stops, HostStops}

-- ---- ends without a run

-- After bad words, an I/O error in the script, a script that is too long or a name without an image nothing is written, and after a
-- bad image its line. The image keeps its bytes, also after a crash at any moment.
pub record HasNoRun {D : Type 0} (d : Ghosts D) (old new : D) (line text : List ℕ) : Type 0 where
  pub told : text ≡ line
  pub bytes : d.bytes new ≡ d.bytes old
  pub stops : StopsAsBefore d old new

-- The volume doesn't suit the safe mode. It was opened or made, and no line was begun.
pub record HasNotSuited {D : Type 0} (d : Ghosts D) (old new : D) (fresh : Bool) (s : State) (text : List ℕ) : Type 0 where
  pub told : text ≡ []
  pub holds : d.bytes new ≡ Some s.image
  pub settled : d.pending new ≡ false
  pub stops : fresh ≡ false → StopsAsBefore d old new

-- ---- the script's end

-- All lines were done. The answer is Refused if a reply is an error line, else Done.
pub record HasRun {D : Type 0} (d : Ghosts D) (old new : D) (mode : Mode) (fresh : Bool) (demo : Option ℕ) (s : State) (script text : List ℕ) (refused : Bool) : Type 0 where
  pub end : State
  pub run : Run (MayHaveLeft d old new) mode demo s script text end
  pub refused_is : refused ≡ list_any is_error run.replies
  pub holds : d.bytes new ≡ Some end.image
  pub settled : d.pending new ≡ false
  pub stops : d.pending old ≡ false → Stops d old new mode fresh demo s end (commands_in (script_for demo script)) run.replies text

-- the same with files of the host
pub record HostHasRun {D : Type 0} (d : Ghosts D) (read : Reading) (old new : D) (mode : Mode) (fresh : Bool) (demo : Option ℕ) (s : State) (files left : Files) (script text : List ℕ) (refused : Bool) : Type 0 where
  pub end : State
  pub run : HostRun read (MayHaveLeft d old new) mode demo s files script text end left
  pub refused_is : refused ≡ list_any is_error run.replies
  pub holds : d.bytes new ≡ Some end.image
  pub settled : d.pending new ≡ false
  pub stops : d.pending old ≡ false → HostStops d read old new mode fresh demo s end files (commands_in (script_for demo script)) run.replies text

-- ---- ends before it

-- the only causes for which a run ends early: an I/O error of the disk, the sink or the host, or out of memory
pub data Cause : Type 0 where
  Disk : Cause
  Out : Cause
  Host : Cause
  Memory : Cause

-- Only an I/O error of the disk can leave an image that doesn't follow from the lines done.
abbrev pub spares_disk : Cause → Bool
spares_disk Cause.Disk = false
spares_disk cause = true

-- The image opens as the very same, and each object is stored as it was: other bytes are at most where nothing lies.
pub record IsAlike (kind : Kind) (s : State) (image : List ℕ) : Type 0 where
  pub opens : OpensAs image kind s.view
  pub objects : stored_objects image s.view ≡ stored_objects s.image s.view

-- what the disk has after the lines that were done, by the cause; a `put` may have begun to write where nothing lies, when the host failed
abbrev pub StaysBy : Cause → Kind → State → List ℕ → Type 0
StaysBy Cause.Host kind s image = IsAlike kind s image
StaysBy cause kind s image = image ≡ s.image

-- Only where the sink had an I/O error or memory is short may a reply be missing of a line that may move files and was done.
abbrev pub cuts_replies : Cause → Bool
cuts_replies Cause.Out = true
cuts_replies Cause.Memory = true
cuts_replies cause = false

-- A fresh image was asked for and isn't there: the disk had an I/O error while it was made, or the run was out of memory before it
-- asked anything of the disk. Nothing was written.
abbrev pub IsUnmade : {D : Type 0} → Bool → Cause → D → D → List ℕ → Type 0
IsUnmade fresh Cause.Disk old new text = (fresh ≡ true) × (text ≡ [])
IsUnmade fresh Cause.Memory old new text = (fresh ≡ true) × (text ≡ []) × (new ≡ old)
IsUnmade fresh cause old new text = ⊥

-- Some lines were done, and a part of their text was written. The disk has the image after these lines, and nothing is pending if
-- anything was asked of it, except after an I/O error of the disk itself. Then it has what the line that broke off may leave, and the
-- text has the replies to all lines that were done, so it tells which line that is; a demo's text tells nothing before its end. In the
-- safe mode it has the tree before that line or the one after it.
pub record HasStopped {D : Type 0} (d : Ghosts D) (old new : D) (mode : Mode) (fresh : Bool) (demo : Option ℕ) (s : State) (script text : List ℕ) (cause : Cause) : Type 0 where
  pub end : State
  pub ended : EndsEarly (MayHaveLeft d old new) mode demo s script text end
  pub whole : demo ≡ None → spares_disk cause ≡ false → whole_replies (length text) ended.replies ≡ length ended.replies
  pub holds : spares_disk cause ≡ true → d.bytes new ≡ Some end.image
  pub settled : spares_disk cause ≡ true → (d.pending new ≡ false) ⊎ (new ≡ old)
  pub spared : mode.safe ≡ false → ForSome (d.bytes new) (LeftIn (LeftByLine mode.kind end) end (slice_get (commands_in (script_for demo script)) (length ended.replies)) None)
  pub saved : mode.safe ≡ true → ForSome (d.bytes new) (LeftIn (λ refused line. HasTreeBeforeOrAfter mode.kind end (tree_after mode end (command_of line))) end (slice_get (commands_in (script_for demo script)) (length ended.replies)) None)
  pub stops : d.pending old ≡ false → Stops d old new mode fresh demo s end (commands_in (script_for demo script)) ended.replies text

-- what holds after a run that ended early
abbrev pub HasBrokenOff : {D : Type 0} → Ghosts D → D → D → Mode → Bool → Option ℕ → State → List ℕ → List ℕ → Cause → Type 0
HasBrokenOff d old new mode fresh demo s script text cause =
    HasStopped d old new mode fresh demo s script text cause ⊎ IsUnmade fresh cause old new text

-- The same with files of the host. If the host failed, the image is as `StaysBy` says, and if that was in a `get`, it is the very one
-- (`spared`).
pub record HostHasStopped {D : Type 0} (d : Ghosts D) (read : Reading) (old new : D) (mode : Mode) (fresh : Bool) (demo : Option ℕ) (s : State) (files left : Files) (script text : List ℕ) (cause : Cause) : Type 0 where
  pub end : State
  pub ended : HostEndsEarly read (MayHaveLeft d old new) mode demo s files script text end left
  pub whole : demo ≡ None → cuts_replies cause ≡ false → whole_replies (length text) ended.replies ≡ length ended.replies
  pub holds : spares_disk cause ≡ true → (image : List ℕ) × (d.bytes new ≡ Some image) × StaysBy cause mode.kind end image
  pub settled : spares_disk cause ≡ true → (d.pending new ≡ false) ⊎ (new ≡ old)
  pub spared : mode.safe ≡ false → ForSome (d.bytes new) (LeftIn (HostLeftByLine read mode.kind end) end (slice_get (commands_in (script_for demo script)) (length ended.replies)) None)
  pub saved : mode.safe ≡ true → ForSome (d.bytes new) (LeftIn (λ refused line. HasTreeBeforeOrAfter mode.kind end (host_tree_after mode end ended.between (read line))) end (slice_get (commands_in (script_for demo script)) (length ended.replies)) None)
  pub stops : d.pending old ≡ false → HostStops d read old new mode fresh demo s end files (commands_in (script_for demo script)) ended.replies text

-- The files of the host stay, if the fresh image isn't there.
abbrev pub HostHasBrokenOff : {D : Type 0} → Ghosts D → Reading → D → D → Mode → Bool → Option ℕ → State → Files → Files → List ℕ → List ℕ → Cause → Type 0
HostHasBrokenOff d read old new mode fresh demo s files left script text cause =
    HostHasStopped d read old new mode fresh demo s files left script text cause ⊎ (IsUnmade fresh cause old new text × (left ≡ files))
