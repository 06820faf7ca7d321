-- What a crash during a whole run, or at its end, leaves of the image. Two members of fc_device's `Disk` tell of crashes: `moment`
-- numbers the moments of a disk's life, and `left_since new n image` says that a crash from moment n of it to now could have left
-- this image.
use Rattle.std.specs.Prelude.{◌≡◌, ◌<◌, ◌≤◌, ◌⊎◌, ℕ, Bool, true, false, ◌||◌, List, length, slice_get, take, Option, Some, None, Result, Ok, Err}
use Rattle.fc_device.specs.declared.disk.Disk.{Ghosts}
use Rattle.fc_host.specs.Files.{Files}
use Rattle.fc_names.specs.declared.refusal.Refusal.{Refusal}
use Rattle.fc_record.specs.declared.Kind.{Kind}
use Rattle.fc_model.specs.Tree.{Tree}
use Rattle.fc_model.specs.Command.{Command}
use Rattle.fc_image.specs.Stays.{KeepsTree, IsNewLayout}
use Rattle.fc_image.specs.effects.Effect.{State, tree_in}
use Rattle.fc_image.specs.safe.SafeEffect.{HasTree, HasTreeBeforeOrAfter}
use Rattle.fc_script.specs.Lines.{command_of}
use Rattle.fc_script.specs.HostLines.{HostLine}
use Rattle.fc_runs.specs.ReadLaw.{is_reading}
use Rattle.fc_runs.specs.Run.{Mode, Steps, whole_replies, each_line, all_keep_tree, is_error, keeps_tree_or, HasTreeAfter}
use Rattle.fc_runs.specs.HostRun.{HostSteps, Reading, all_host_keep_tree, host_keeps_tree, HostHasTreeAfter}
use Rattle.fc_runs.specs.Spares.{Spares}

-- A crash during the call could have left the image. If the disk tells nothing of crashes, any image passes.
abbrev pub MayHaveLeft : {D : Type 0} → Ghosts D → D → D → List ℕ → Type 0
MayHaveLeft d old new image = d.tells_stops old ≡ true → d.left_since new (d.moment old) image

-- ---- lines that leave the image

-- A line leaves the image as it is: it is refused, or its command reads.
abbrev pub leaves_image_or : Bool → Result Command Refusal → Bool
leaves_image_or refused (Err refusal) = true
leaves_image_or refused (Ok c) = refused || is_reading c

-- Each line does.
abbrev pub all_leave_image : List (List ℕ) → List (List ℕ) → Bool
all_leave_image lines replies = each_line (λ refused line. leaves_image_or refused (command_of line)) lines replies

-- A line that may move a file of the host leaves the image: it is refused, or copies a file to the host, or its command reads.
abbrev pub host_leaves_image : Bool → Result HostLine Refusal → Bool
host_leaves_image refused (Ok (HostLine.Get path host)) = true
host_leaves_image refused (Ok (HostLine.Put host path load exec)) = refused
host_leaves_image refused (Ok (HostLine.Other command)) = refused || is_reading command
host_leaves_image refused (Err refusal) = true

-- Each line does.
abbrev pub all_host_leave_image : Reading → List (List ℕ) → List (List ℕ) → Bool
all_host_leave_image read lines replies = each_line (λ refused line. host_leaves_image refused (read line)) lines replies

-- ---- the line in which a run broke off

-- The next line keeps the tree, if there is one.
abbrev pub is_kept_by_next : (List ℕ → Bool) → Option (List ℕ) → Bool
is_kept_by_next keeps None = true
is_kept_by_next keeps (Some line) = keeps line

-- The line after those with a reply keeps the tree. If the run broke off early, it broke off in that line or before it.
abbrev pub next_keeps_tree : List (List ℕ) → List (List ℕ) → Bool
next_keeps_tree lines replies = is_kept_by_next (λ line. keeps_tree_or false (command_of line)) (slice_get lines (length replies))

-- the same of a line that may move a file of the host
abbrev pub next_host_keeps_tree : Reading → List (List ℕ) → List (List ℕ) → Bool
next_host_keeps_tree read lines replies = is_kept_by_next (λ line. host_keeps_tree false (read line)) (slice_get lines (length replies))

-- The line after those with a reply leaves the image as it is,
abbrev pub next_leaves_image : List (List ℕ) → List (List ℕ) → Bool
next_leaves_image lines replies = is_kept_by_next (λ line. leaves_image_or false (command_of line)) (slice_get lines (length replies))

-- also if it may move a file of the host.
abbrev pub next_host_leaves_image : Reading → List (List ℕ) → List (List ℕ) → Bool
next_host_leaves_image read lines replies = is_kept_by_next (λ line. host_leaves_image false (read line)) (slice_get lines (length replies))

-- ---- what a line may leave that was begun

-- A line that is no command leaves the image.
abbrev pub SparesBy : Kind → State → Result Command Refusal → List ℕ → Type 0
SparesBy kind s (Err refusal) image = image ≡ s.image
SparesBy kind s (Ok c) image = Spares kind s.view c s.image image

-- the same of a line that may move a file of the host; `put` saves a file of some bytes
abbrev pub HostSparesBy : Kind → State → Result HostLine Refusal → List ℕ → Type 0
HostSparesBy kind s (Err refusal) image = image ≡ s.image
HostSparesBy kind s (Ok (HostLine.Get path host)) image = image ≡ s.image
HostSparesBy kind s (Ok (HostLine.Put host path load exec)) image = (bytes : List ℕ) × Spares kind s.view (Command.Save path load exec bytes) s.image image
HostSparesBy kind s (Ok (HostLine.Other c)) image = Spares kind s.view c s.image image

-- A line that leaves the image does so at every crash, and one that keeps the tree keeps it, on a new map; any other spares what it needn't write.
abbrev pub LeftIf : Bool → Bool → Kind → State → (List ℕ → Type 0) → List ℕ → Type 0
LeftIf true keeps kind s spares image = image ≡ s.image
LeftIf false true kind s spares image = IsNewLayout s.view.layout → HasTree kind (tree_in s) image
LeftIf false false kind s spares image = spares image

-- the image at a crash or an I/O error in a line, or at its end; a refused one leaves the image
abbrev pub LeftBy : Kind → State → Bool → Result Command Refusal → List ℕ → Type 0
LeftBy kind s refused command image = LeftIf (leaves_image_or refused command) (keeps_tree_or refused command) kind s (SparesBy kind s command) image

abbrev pub HostLeftBy : Kind → State → Bool → Result HostLine Refusal → List ℕ → Type 0
HostLeftBy kind s refused line image = LeftIf (host_leaves_image refused line) (host_keeps_tree refused line) kind s (HostSparesBy kind s line) image

abbrev pub LeftByLine : Kind → State → Bool → List ℕ → List ℕ → Type 0
LeftByLine kind s refused line image = LeftBy kind s refused (command_of line) image

abbrev pub HostLeftByLine : Reading → Kind → State → Bool → List ℕ → List ℕ → Type 0
HostLeftByLine read kind s refused line image = HostLeftBy kind s refused (read line) image

-- In the safe mode the first of two relations holds of the image, and outside of it the second.
abbrev pub LeftAs : Bool → (List ℕ → Type 0) → (List ℕ → Type 0) → List ℕ → Type 0
LeftAs true Safe Plain image = Safe image
LeftAs false Safe Plain image = Plain image

-- A line leaves the tree before it or t, the tree after it, in the safe mode; and outside of it what `LeftBy` or `HostLeftBy` says.
abbrev pub LeftByMode : Mode → State → Tree → (List ℕ → Type 0) → List ℕ → Type 0
LeftByMode mode s t Plain image = LeftAs mode.safe (HasTreeBeforeOrAfter mode.kind s t) Plain image

-- by the line that was begun, if one was, and by its reply, if it was done
abbrev pub LeftIn : (Bool → List ℕ → List ℕ → Type 0) → State → Option (List ℕ) → Option (List ℕ) → List ℕ → Type 0
LeftIn by s None reply image = image ≡ s.image
LeftIn by s (Some line) None image = by false line image
LeftIn by s (Some line) (Some reply) image = by (is_error reply) line image

-- Some of the lines were done with these replies, and the image is what the one after them may leave. `To n mid` says that the first n
-- lead to the state mid.
pub record IsLeftInLine (To : ℕ → State → Type 0) (by : State → Bool → List ℕ → List ℕ → Type 0) (lines replies : List (List ℕ)) (image : List ℕ) : Type 0 where
  pub count : ℕ
  pub within : count ≤ length replies
  pub mid : State
  pub steps : To count mid
  pub left : LeftIn (by mid) mid (slice_get lines count) (slice_get replies count) image

abbrev pub StepsTo : Mode → State → List (List ℕ) → List (List ℕ) → ℕ → State → Type 0
StepsTo mode s lines replies n mid = Steps (λ between. Unit {0}) mode s (take n lines) (take n replies) mid

abbrev pub HostStepsTo : Reading → Mode → State → Files → List (List ℕ) → List (List ℕ) → ℕ → State → Type 0
HostStepsTo read mode s files lines replies n mid = (between : Files) × HostSteps read (λ between. Unit {0}) mode s files (take n lines) (take n replies) mid between

-- These lines led to the image, or it is one that one of them may leave.
abbrev pub IsLeftBefore : (ℕ → State → Type 0) → (State → Bool → List ℕ → List ℕ → Type 0) → List (List ℕ) → List (List ℕ) → State → List ℕ → Type 0
IsLeftBefore To by lines replies state image = (image ≡ state.image) ⊎ ((left : IsLeftInLine To by lines replies image) × (left.count < length replies))

-- The image has the tree that stands after some of the lines, so many at most. `To n mid` says that the first n lead to the state mid.
pub record HasTreeBetween (To : ℕ → State → Type 0) (most : ℕ) (kind : Kind) (image : List ℕ) : Type 0 where
  pub count : ℕ
  pub within : count ≤ most
  pub mid : State
  pub steps : To count mid
  pub tree : HasTree kind (tree_in mid) image

-- ---- what crashes leave

-- the number of replies that were written whole; a demo writes none
abbrev pub replies_written : Option ℕ → List ℕ → List (List ℕ) → ℕ
replies_written None text replies = whole_replies (length text) replies
replies_written (Some n) text replies = 0

-- What crashes leave, if nothing was pending on the disk at first. The lines that have a reply were done, which led from s to `end`,
-- and `text` was written.
pub record Stops {D : Type 0} (d : Ghosts D) (old new : D) (mode : Mode) (fresh : Bool) (demo : Option ℕ) (s end : State) (lines replies : List (List ℕ)) (text : List ℕ) : Type 0 where
  -- If no line changes the tree of a new map, a crash at any moment of the run leaves that tree.
  pub idle : IsNewLayout s.view.layout → fresh ≡ false → demo ≡ None → all_keep_tree lines replies ≡ true
      → (image : List ℕ) → d.left_since new (d.moment old) image → KeepsTree mode.kind s.image s.view image
  -- If only the line in which the run broke off keeps the tree, as `compact` does, a crash now leaves the tree after the lines that
  -- were done, whatever these changed. The text tells which line that is (`whole` of Promises); of a demo nothing tells it, so there
  -- this speaks of the lines that are given here.
  pub last : IsNewLayout s.view.layout → next_keeps_tree lines replies ≡ true
      → (image : List ℕ) → d.left_since new (d.moment new) image → HasTree mode.kind (tree_in end) image
  -- If each line reads or is refused, over any map, a crash at any moment of the run leaves the image as it was.
  pub still : fresh ≡ false → demo ≡ None → all_leave_image lines replies ≡ true
      → (image : List ℕ) → d.left_since new (d.moment old) image → image ≡ s.image
  -- If the line in which the run broke off reads, a crash now leaves the image after the lines that were done.
  pub rest : next_leaves_image lines replies ≡ true → (image : List ℕ) → d.left_since new (d.moment new) image → image ≡ end.image
  -- Outside the safe mode a crash at any moment leaves what a line may leave in which it falls, after the lines before it were done, and
  -- a crash now what the line may leave in which the run broke off.
  pub along : mode.safe ≡ false → fresh ≡ false → (image : List ℕ) → d.left_since new (d.moment old) image → IsLeftInLine (StepsTo mode s lines replies) (LeftByLine mode.kind) lines replies image
  pub ending : mode.safe ≡ false → (image : List ℕ) → d.left_since new (d.moment new) image → LeftIn (LeftByLine mode.kind end) end (slice_get lines (length replies)) None image
  -- In the safe mode a crash at any moment leaves the tree after some of the lines, and a crash now the tree after at least those
  -- whose replies were written whole.
  pub during : mode.safe ≡ true → fresh ≡ false → (image : List ℕ) → d.left_since new (d.moment old) image
      → HasTreeAfter (λ between. Unit {0}) mode s lines replies 0 image
  pub exit : mode.safe ≡ true → (image : List ℕ) → d.left_since new (d.moment new) image
      → HasTreeAfter (λ between. Unit {0}) mode s lines replies (replies_written demo text replies) image

-- `Stops` for lines that may move files of the host
pub record HostStops {D : Type 0} (d : Ghosts D) (read : Reading) (old new : D) (mode : Mode) (fresh : Bool) (demo : Option ℕ) (s end : State) (files : Files) (lines replies : List (List ℕ)) (text : List ℕ) : Type 0 where
  pub idle : IsNewLayout s.view.layout → fresh ≡ false → demo ≡ None → all_host_keep_tree read lines replies ≡ true
      → (image : List ℕ) → d.left_since new (d.moment old) image → KeepsTree mode.kind s.image s.view image
  pub last : IsNewLayout s.view.layout → next_host_keeps_tree read lines replies ≡ true
      → (image : List ℕ) → d.left_since new (d.moment new) image → HasTree mode.kind (tree_in end) image
  pub still : fresh ≡ false → demo ≡ None → all_host_leave_image read lines replies ≡ true
      → (image : List ℕ) → d.left_since new (d.moment old) image → image ≡ s.image
  pub rest : next_host_leaves_image read lines replies ≡ true → (image : List ℕ) → d.left_since new (d.moment new) image → image ≡ end.image
  pub along : mode.safe ≡ false → fresh ≡ false → (image : List ℕ) → d.left_since new (d.moment old) image → IsLeftInLine (HostStepsTo read mode s files lines replies) (HostLeftByLine read mode.kind) lines replies image
  pub ending : mode.safe ≡ false → (image : List ℕ) → d.left_since new (d.moment new) image → LeftIn (HostLeftByLine read mode.kind end) end (slice_get lines (length replies)) None image
  pub during : mode.safe ≡ true → fresh ≡ false → (image : List ℕ) → d.left_since new (d.moment old) image
      → HostHasTreeAfter read (λ between. Unit {0}) mode s files lines replies 0 image
  pub exit : mode.safe ≡ true → (image : List ℕ) → d.left_since new (d.moment new) image
      → HostHasTreeAfter read (λ between. Unit {0}) mode s files lines replies (replies_written demo text replies) image
