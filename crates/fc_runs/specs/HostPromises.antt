-- What a run whose lines may move files of a host promises over an accepted image, whatever host it is.
use Rattle.std.specs.Prelude.{◌≡◌, ◌≤◌, ◌⊎◌, ℕ, Bool, true, false, List, [], ◌∷◌, ◌++◌, length, slice_get, take, Option, Some, None, Result, Ok, IsOk}
use Rattle.std.specs.List.{list_any}
use Rattle.std.specs.Option.{ForSome}
use Rattle.std.specs.FinMap.{get}
use Rattle.fc_device.specs.declared.disk.Disk.{Ghosts}
use Rattle.fc_host.specs.Answers.{AnswersCalls, all_asked, joined, made_of}
use Rattle.fc_host.specs.Asked.{Asked, taken_by}
use Rattle.fc_host.specs.Files.{Files}
use Rattle.fc_host.specs.declared.asks.HostCall.TheVariants as calls
use Rattle.fc_names.specs.declared.refusal.Refusal.{Refusal}
use Rattle.fc_model.specs.Tree.{Tree}
use Rattle.fc_model.specs.Command.{Command}
use Rattle.fc_image.specs.Stays.{IsNewLayout, KeepsTree}
use Rattle.fc_image.specs.effects.Effect.{State, tree_in}
use Rattle.fc_image.specs.safe.SafeEffect.{HasTree, HasTreeBeforeOrAfter}
use Rattle.fc_script.specs.HostLines.{HostLine}
use Rattle.fc_runs.specs.AskedRun.{AskedSteps}
use Rattle.fc_runs.specs.Early.{FilesLeftBy, host_reply_begun, text_begun}
use Rattle.fc_runs.specs.HostAsks.{PutAsks}
use Rattle.fc_runs.specs.HostRun.{Reading, all_host_keep_tree, answer_in, file_in, longest_file}
use Rattle.fc_runs.specs.Promises.{Cause, HostHasRun, HostHasStopped, StaysBy, cuts_replies, spares_disk}
use Rattle.fc_runs.specs.Run.{Mode, commands_in, is_error, line_begun, text_of, tree_after, whole_replies}
use Rattle.fc_runs.specs.Stops.{HostLeftByLine, IsLeftInLine, LeftIn, MayHaveLeft, all_host_leave_image, next_host_keeps_tree, next_host_leaves_image}

-- ---- crashes

-- The first lines, so many, lead to this state; with each of them this was asked of the host.
abbrev pub AskedStepsTo : Reading → Mode → State → List (List ℕ) → List (List ℕ) → List (List Asked) → ℕ → State → Type 0
AskedStepsTo read mode s lines replies asks n mid = AskedSteps read (λ between. Unit {0}) mode s (take n lines) (take n replies) (take n asks) mid

-- t is the tree after a line that broke off. `asked` is what was asked of the host in it, and `files` are its files, if it tells them. If
-- a `put` was whole, t is the tree with the bytes that were taken, and these are those of the file.
abbrev pub IsTreeAfter : Mode → State → Result HostLine Refusal → List Asked → Option Files → Tree → Type 0
IsTreeAfter mode s (Ok (HostLine.Put host path load exec)) asked files t = (t ≡ tree_in s)
    ⊎ ((length (taken_by asked) ≤ longest_file) × ForSome files (λ held. get held host ≡ Some (taken_by asked)) × (t ≡ tree_after mode s (Ok (Command.Save path load exec (taken_by asked)))))
IsTreeAfter mode s (Ok (HostLine.Other command)) asked files t = t ≡ tree_after mode s (Ok command)
IsTreeAfter mode s line asked files t = t ≡ tree_in s

-- The image has the tree before that line, or the one after it.
abbrev pub AskedLeaves : Mode → State → Result HostLine Refusal → List Asked → Option Files → List ℕ → Type 0
AskedLeaves mode s line asked files image = (t : Tree) × IsTreeAfter mode s line asked files t × HasTreeBeforeOrAfter mode.kind s t image

-- The image has the tree of the state, or the one after the line that broke off, if one did.
abbrev pub AskedTreeAround : Reading → Mode → State → Option (List ℕ) → List Asked → Option Files → List ℕ → Type 0
AskedTreeAround read mode s None asked files image = HasTree mode.kind (tree_in s) image
AskedTreeAround read mode s (Some line) asked files image = AskedLeaves mode s (read line) asked files image

-- `HostHasTreeAfter` of HostRun, whatever host it is. `begun` is what was asked in the line that broke off, and `between` are the files
-- of the host before it, if it tells them.
pub record AskedHasTreeAfter (read : Reading) (mode : Mode) (s : State) (lines replies : List (List ℕ)) (asks : List (List Asked)) (begun : List Asked) (between : Option Files) (least : ℕ) (image : List ℕ) : Type 0 where
  pub count : ℕ
  pub enough : least ≤ count
  pub within : count ≤ length replies
  pub mid : State
  pub steps : AskedStepsTo read mode s lines replies asks count mid
  pub tree : AskedTreeAround read mode mid (line_begun lines replies count) begun between image

-- `HostStops` of Stops, whatever host it is. `text` was written.
pub record AskedStops {D : Type 0} (d : Ghosts D) (read : Reading) (old new : D) (mode : Mode) (fresh : Bool) (s end : State) (lines replies : List (List ℕ)) (asks : List (List Asked)) (begun : List Asked) (between : Option Files) (text : List ℕ) : Type 0 where
  pub idle : IsNewLayout s.view.layout → fresh ≡ false → all_host_keep_tree read lines replies ≡ true
      → (image : List ℕ) → d.left_since new (d.moment old) image → KeepsTree mode.kind s.image s.view image
  pub last : IsNewLayout s.view.layout → next_host_keeps_tree read lines replies ≡ true
      → (image : List ℕ) → d.left_since new (d.moment new) image → HasTree mode.kind (tree_in end) image
  pub still : fresh ≡ false → all_host_leave_image read lines replies ≡ true
      → (image : List ℕ) → d.left_since new (d.moment old) image → image ≡ s.image
  pub rest : next_host_leaves_image read lines replies ≡ true → (image : List ℕ) → d.left_since new (d.moment new) image → image ≡ end.image
  pub along : mode.safe ≡ false → fresh ≡ false → (image : List ℕ) → d.left_since new (d.moment old) image → IsLeftInLine (AskedStepsTo read mode s lines replies asks) (HostLeftByLine read mode.kind) lines replies image
  pub ending : mode.safe ≡ false → (image : List ℕ) → d.left_since new (d.moment new) image → LeftIn (HostLeftByLine read mode.kind end) end (slice_get lines (length replies)) None image
  pub during : mode.safe ≡ true → fresh ≡ false → (image : List ℕ) → d.left_since new (d.moment old) image → AskedHasTreeAfter read mode s lines replies asks begun between 0 image
  pub exit : mode.safe ≡ true → (image : List ℕ) → d.left_since new (d.moment new) image → AskedHasTreeAfter read mode s lines replies asks begun between (whole_replies (length text) replies) image

-- ---- the script's end

-- All lines were done. `files` and `left` are the host's before and after, if it tells them, and `asked` is what it was asked
-- meanwhile.
pub record AskedHasRun {D : Type 0} (d : Ghosts D) (read : Reading) (old new : D) (mode : Mode) (fresh : Bool) (s : State) (files left : Option Files) (asked : List Asked) (script text : List ℕ) (refused : Bool) : Type 0 where
  pub end : State
  pub replies : List (List ℕ)
  pub asks : List (List Asked)
  pub start : MayHaveLeft d old new s.image
  pub steps : AskedSteps read (MayHaveLeft d old new) mode s (commands_in script) replies asks end
  pub asked_is : asked ≡ all_asked asks
  pub answered : AnswersCalls files (all_asked asks) left
  pub told : text ≡ text_of replies
  pub refused_is : refused ≡ list_any is_error replies
  pub holds : d.bytes new ≡ Some end.image
  pub settled : d.pending new ≡ false
  pub stops : d.pending old ≡ false → AskedStops d read old new mode fresh s end (commands_in script) replies asks [] left text

-- ---- ends before it

-- A call failed after a file was made and got these bytes, the first of all: nothing of it is left, unless it couldn't be removed.
pub record GetsPart (host bytes : List ℕ) (asked : List Asked) : Type 0 where
  pub pieces : List (List ℕ)
  pub piece : List ℕ
  pub failed : List Asked
  pub rest : List ℕ
  pub asks : (asked ≡ made_of host pieces ++ (failed ++ (host, calls.Remove, []) ∷ [])) ⊎ (asked ≡ made_of host pieces ++ (failed ++ (host, calls.Failed, []) ∷ []))
  pub failed_is : (failed ≡ []) ⊎ (failed ≡ (host, calls.Failed, piece) ∷ [])
  pub first : bytes ≡ (joined pieces ++ piece) ++ rest

-- What was asked in a line that broke off: nothing; or in a `get` that the model accepts, a file was to be made, or was made and
-- taken back; or in a `put` that it accepts, its file was looked at.
abbrev pub AskedBegun : Mode → State → Result HostLine Refusal → List Asked → Type 0
AskedBegun mode s (Ok (HostLine.Get path host)) asked = (asked ≡ [])
    ⊎ (IsOk (answer_in mode s (Command.Load path)) × ((asked ≡ (host, calls.Failed, []) ∷ []) ⊎ GetsPart host (file_in s path) asked))
AskedBegun mode s (Ok (HostLine.Put host path load exec)) asked = (asked ≡ []) ⊎ (IsOk (answer_in mode s (Command.Save path load exec [])) × PutAsks host asked)
AskedBegun mode s line asked = asked ≡ []

-- If a file was taken back at the end, the files are as they were.
abbrev pub IsBack : List Asked → Option Files → Option Files → Type 0
IsBack asked files left = (front : List Asked) (host : List ℕ) → asked ≡ front ++ (host, calls.Remove, []) ∷ [] → left ≡ files

abbrev pub AskedBegunBy : Reading → Mode → State → Option (List ℕ) → List Asked → Type 0
AskedBegunBy read mode s None asked = asked ≡ []
AskedBegunBy read mode s (Some line) asked = AskedBegun mode s (read line) asked

-- Some lines were done, and a part of their text was written, as `HostHasStopped` of Promises says. What was asked in the line that
-- broke off is `begun`.
pub record AskedHasStopped {D : Type 0} (d : Ghosts D) (read : Reading) (old new : D) (mode : Mode) (fresh : Bool) (s : State) (files left : Option Files) (asked : List Asked) (script text : List ℕ) (cause : Cause) : Type 0 where
  pub end : State
  pub replies : List (List ℕ)
  pub asks : List (List Asked)
  pub begun : List Asked
  pub between : Option Files
  pub start : MayHaveLeft d old new s.image
  pub steps : AskedSteps read (MayHaveLeft d old new) mode s (take (length replies) (commands_in script)) replies asks end
  pub asked_is : asked ≡ all_asked asks ++ begun
  pub answered : AnswersCalls files (all_asked asks) between
  pub begun_is : AskedBegunBy read mode end (slice_get (commands_in script) (length replies)) begun
  pub files_left : ForSome between (λ held. (now : Files) × (left ≡ Some now) × FilesLeftBy read mode end held (slice_get (commands_in script) (length replies)) now)
  pub back : IsBack begun between left
  pub told : (n : ℕ) × (text ≡ take n (text_begun None replies (slice_get (commands_in script) (length replies)) (λ line. host_reply_begun mode end (read line))))
  pub whole : cuts_replies cause ≡ false → whole_replies (length text) replies ≡ length replies
  pub holds : spares_disk cause ≡ true → (image : List ℕ) × (d.bytes new ≡ Some image) × StaysBy cause mode.kind end image
  pub settled : spares_disk cause ≡ true → (d.pending new ≡ false) ⊎ (new ≡ old)
  pub spared : mode.safe ≡ false → ForSome (d.bytes new) (LeftIn (HostLeftByLine read mode.kind end) end (slice_get (commands_in script) (length replies)) None)
  pub saved : mode.safe ≡ true → ForSome (d.bytes new) (LeftIn (λ refused line. AskedLeaves mode end (read line) begun between) end (slice_get (commands_in script) (length replies)) None)
  pub stops : d.pending old ≡ false → AskedStops d read old new mode fresh s end (commands_in script) replies asks begun between text

-- ---- a host that tells its files

-- the promise with the files of the host
abbrev pub ToldRun : {D : Type 0} → Ghosts D → Reading → D → D → Mode → Bool → State → Option Files → Option Files → List ℕ → List ℕ → Bool → Type 0
ToldRun d read old new mode fresh s files left script text refused =
    ForSome files (λ held. (now : Files) × (left ≡ Some now) × HostHasRun d read old new mode fresh None s held now script text refused)

abbrev pub ToldStop : {D : Type 0} → Ghosts D → Reading → D → D → Mode → Bool → State → Option Files → Option Files → List ℕ → List ℕ → Cause → Type 0
ToldStop d read old new mode fresh s files left script text cause =
    ForSome files (λ held. (now : Files) × (left ≡ Some now) × HostHasStopped d read old new mode fresh None s held now script text cause)
