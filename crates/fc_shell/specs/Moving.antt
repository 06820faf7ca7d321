-- What becomes of a line that may move files of a host, and of lines in turn.
use Rattle.std.specs.Prelude.{◌≡◌, ◌≤◌, ◌⊎◌, ℕ, Bool, true, false, List, ◌++◌, Option, Result, Ok, Err, IfOk}
use Rattle.std.specs.List.{list_all}
use Rattle.fc_device.specs.declared.disk.Disk.{Ghosts}
use Rattle.fc_device.specs.declared.streams.Sink.{Ghosts as Sinks}
use Rattle.fc_device.specs.Calls.{OnlyReads}
use Rattle.fc_device.specs.Faults.{Rose}
use Rattle.fc_host.specs.declared.host.Host.{Ghosts as Hosts}
use Rattle.fc_host.specs.Answers.{all_asked}
use Rattle.fc_host.specs.Asked.{Asked}
use Rattle.fc_host.specs.Files.{Files}
use Rattle.fc_names.specs.declared.refusal.Refusal.{Refusal}
use Rattle.fc_image.specs.effects.Effect.{State}
use Rattle.fc_script.specs.HostLines.{HostLine, host_line_of}
use Rattle.fc_runs.specs.Early.{host_reply_begun}
use Rattle.fc_runs.specs.HostAsks.{LinesAsk}
use Rattle.fc_runs.specs.HostPromises.{AskedHasRun, AskedHasStopped}
use Rattle.fc_runs.specs.HostServing.{AreMoved, IsBrokenOff, IsMoved}
use Rattle.fc_runs.specs.Meanwhile.{GoesOn}
use Rattle.fc_runs.specs.Promises.{Cause, cuts_replies}
use Rattle.fc_runs.specs.Run.{Mode, commands_in, is_error, text_of}
use Rattle.fc_runs.specs.Stops.{host_leaves_image}
use Rattle.fc_tree.specs.Parts.{ArePartsOf}
use Rattle.fc_volume.specs.Volume.{Volume, parts_of}
use Rattle.fc_shell.specs.declared.moving.MoveFault.{MoveFault}
use Rattle.fc_shell.specs.declared.moving.MoveFault.TheVariants as moves
use Rattle.fc_shell.specs.declared.tally.Tally.{Tally}
use Rattle.fc_shell.specs.Counted.{AreCounted, has_refused}
use Rattle.fc_shell.specs.Line.{IsReady}
use Rattle.fc_shell.specs.Writing.{Wrote, WrotePart}

-- the cause for which a line isn't answered
abbrev pub move_cause : MoveFault → Cause
move_cause moves.Disk = Cause.Disk
move_cause moves.Out = Cause.Out
move_cause moves.Host = Cause.Host
move_cause moves.NoMemory = Cause.Memory

-- ---- one line

-- The line was done, and its whole reply written; the volume's parts are those of the new state.
pub record IsServed {D : Type 0} (d : Ghosts D) (old new : D) (mode : Mode) (s : State) (v : Volume) (line : Result HostLine Refusal) (before after : Option (List ℕ)) (asked : List Asked) (files left : Option Files) (refused : Bool) : Type 0 where
  pub reply : List ℕ
  pub next : State
  pub moved : IsMoved d old new mode s line reply asked files left next
  pub parts : ArePartsOf (parts_of v) next.view
  pub wrote : Wrote before after reply
  pub refused_is : refused ≡ is_error reply

-- It was done, and a part of its reply was written; no call of the disk or of the host failed.
pub record IsServedPart {D : Type 0} (d : Ghosts D) (old new : D) (mode : Mode) (s : State) (line : Result HostLine Refusal) (before after : Option (List ℕ)) (asked : List Asked) (files left : Option Files) (fault : MoveFault) : Type 0 where
  pub reply : List ℕ
  pub next : State
  pub moved : IsMoved d old new mode s line reply asked files left next
  pub part : WrotePart before after reply
  pub cuts : cuts_replies (move_cause fault) ≡ true

-- It broke off, and may have written a part of a reply if it reads.
pub record IsStopped {D : Type 0} (d : Ghosts D) (old new : D) (mode : Mode) (s : State) (line : Result HostLine Refusal) (before after : Option (List ℕ)) (asked : List Asked) (files left : Option Files) (fault : MoveFault) : Type 0 where
  pub part : WrotePart before after (host_reply_begun mode s line)
  pub broke : IsBrokenOff d old new mode s line asked files left (move_cause fault)

-- what becomes of a line of which this was asked
abbrev pub LineMoves : {D : Type 0} → Ghosts D → D → D → Mode → State → Volume → Result HostLine Refusal → Option (List ℕ) → Option (List ℕ) → List Asked → Option Files → Option Files → Result Bool MoveFault → Type 0
LineMoves d old new mode s v line before after asked files left (Ok refused) = IsServed d old new mode s v line before after asked files left refused
LineMoves d old new mode s v line before after asked files left (Err fault) =
    IsServedPart d old new mode s line before after asked files left fault ⊎ IsStopped d old new mode s line before after asked files left fault

-- so much was asked of the host meanwhile
abbrev pub AsksMore : {H : Type 0} → Hosts H → H → H → (List Asked → Type 0) → Type 0
AsksMore h old new P = (asked : List Asked) × (h.asked new ≡ h.asked old ++ asked) × P asked

-- ---- what a line keeps, whatever is known of the disk's bytes

-- A line isn't answered only if a call failed, whose count of faults rose, or if memory is short.
pub record AreCaused {D K H T : Type 0} (d : Ghosts D) (k : Sinks K) (h : Hosts H) (old new : D) (before after : K) (was now : H) (result : Result T MoveFault) : Type 0 where
  pub later : k.faults before ≤ k.faults after
  pub host_later : h.faults was ≤ h.faults now
  pub disk : result ≡ Err MoveFault.Disk → Rose (d.faults old) (d.faults new)
  pub out : result ≡ Err MoveFault.Out → Rose (k.faults before) (k.faults after)
  pub host : result ≡ Err MoveFault.Host → Rose (h.faults was) (h.faults now)

-- what stays over a line
pub record KeepsServing {D : Type 0} (d : Ghosts D) (old new : D) (was v : Volume) (line : Result HostLine Refusal) (result : Result Bool MoveFault) : Type 0 where
  pub goes : GoesOn d old new
  pub ready : IfOk result (λ refused. IsReady d new was v)
  pub settled : (result ≡ Err MoveFault.Disk → ⊥) → d.pending new ≡ false
  pub reads : (was.read_only ≡ true) ⊎ (host_leaves_image false line ≡ true) → OnlyReads d old new × (v ≡ was)

-- ---- lines in turn

-- All lines were done; or some were, and then a call failed or memory was short.
abbrev pub LinesMove : {D : Type 0} → Ghosts D → D → D → Mode → State → List ℕ → Option (List ℕ) → Option (List ℕ) → List Asked → Option Files → Option Files → Result Tally MoveFault → Type 0
LinesMove d old new mode s script before after asked files left (Ok tally) =
    (text : List ℕ) × Wrote before after text × AskedHasRun d host_line_of old new mode false s files left asked script text (has_refused tally)
LinesMove d old new mode s script before after asked files left (Err fault) =
    (text : List ℕ) × Wrote before after text × AskedHasStopped d host_line_of old new mode false s files left asked script text (move_cause fault)

-- Each line in turn asked of the host what it may.
abbrev pub ScriptAsks : List ℕ → List Asked → Type 0
ScriptAsks script asked = (asks : List (List Asked)) × (asked ≡ all_asked asks) × LinesAsk host_line_of (commands_in script) asks

-- These lines write nothing to the disk: each reads or copies a file to the host, or the volume may not be changed.
abbrev pub HostSpares : Bool → List (List ℕ) → Type 0
HostSpares read_only lines = (read_only ≡ true) ⊎ (list_all (λ line. host_leaves_image false (host_line_of line)) lines ≡ true)

-- The lines before those that are left were done, and their replies written; the volume's parts are those of the state after them.
pub record HasMoved {D : Type 0} (d : Ghosts D) (old now : D) (mode : Mode) (s : State) (script : List ℕ) (left : List (List ℕ)) (v : Volume) (tally : Tally) (before after : Option (List ℕ)) (asked : List Asked) (files held : Option Files) : Type 0 where
  pub lines : AreMoved d host_line_of old now mode s files held asked (commands_in script) left
  pub counted : AreCounted lines.replies tally
  pub wrote : Wrote before after (text_of lines.replies)
  pub parts : ArePartsOf (parts_of v) lines.state.view
