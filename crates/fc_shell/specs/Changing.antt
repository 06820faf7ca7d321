-- Commands that change the disc, and what is answered to them.
use Rattle.std.specs.Prelude.{◌≡◌, ◌⊎◌, ◌↔◌, ◌++◌, ℕ, Bool, true, false, List, Some, Result, Ok, Err, IfErr, IfOk, OnOk}
use Rattle.fc_device.specs.declared.disk.Disk.{Ghosts}
use Rattle.fc_device.specs.declared.streams.Sink.{Ghosts as Sinks}
use Rattle.fc_device.specs.Calls.{StopsAndExitsLeave}
use Rattle.fc_names.specs.declared.refusal.Refusal.{Refusal}
use Rattle.fc_newmap.specs.Map.{Map}
use Rattle.fc_model.specs.Command.{Command}
use Rattle.fc_image.specs.Layout.{Layout}
use Rattle.fc_image.specs.Moves.{KeepsObjects}
use Rattle.fc_image.specs.Stays.{IsNewLayout}
use Rattle.fc_image.specs.safe.SafeShort.{SafeRefusal}
use Rattle.fc_safe.specs.declared.error.SafeError.{SafeError}
use Rattle.fc_safe.specs.declared.error.SafeError.TheVariants as errors
use Rattle.fc_safecommands.specs.Answers.{AnswersSafelyOver}
use Rattle.fc_safecommands.specs.Promises.{HasChangedSafely, LeavesTree, SafeKeeps, WritesFreeOf}
use Rattle.fc_runs.specs.Run.{safe_line}
use Rattle.fc_script.specs.Texts.{ok_line, reclaimed_line, refusal_line}
use Rattle.fc_holdings.specs.declared.holdings.Holdings.{Holdings}
use Rattle.fc_holdings.specs.Holdings.{parts_of as held_parts}
use Rattle.fc_holdings.specs.declared.error.CommandError.{CommandError}
use Rattle.fc_holdings.specs.declared.error.CommandError.TheVariants.{DiskFault, NoMemory, Refused}
use Rattle.fc_volume.specs.Changing.{KeepsVolume}
use Rattle.fc_volume.specs.Compacting.{HasCompacted}
use Rattle.fc_volume.specs.Volume.{Volume, holdings_of, parts_of}
use Rattle.fc_volume.specs.OldChanging.{IsOldLayout}
use Rattle.fc_volume.specs.Reclaiming.{HasReclaimed, LeavesOwnedOf, reclaim_refusal}
use Rattle.fc_shell.specs.declared.answer.LineFault.{LineFault}
use Rattle.fc_shell.specs.Answered.{Answered, OnlyTells}

-- A volume was asked to compact its disc. On a new map no memory is needed, and every crash and every exit keeps the objects.
pub record IsCompacting {D : Type 0} (d : Ghosts D) (was v : Volume) (old new : D) (answer : Result (Unit {0}) CommandError) : Type 0 where
  pub refused : (answer ≡ Err (Refused Refusal.ReadOnly)) ↔ (was.read_only ≡ true)
  pub errors : IfErr answer (λ error. (error ≡ Refused Refusal.ReadOnly) ⊎ ((error ≡ DiskFault) ⊎ ((error ≡ NoMemory) × IsOldLayout (parts_of was).layout)))
  pub compacted : OnOk answer (HasCompacted d (parts_of was) (parts_of v) old new)
  pub keeps : KeepsVolume d old new was v answer
  pub tree : IsNewLayout (parts_of was).layout → v.tree ≡ was.tree
  pub objects : (m : Map) → (parts_of was).layout ≡ Layout.New m → StopsAndExitsLeave d old new (KeepsObjects m.geometry)

-- A volume was asked to give its lost space back. On a new map every crash and every exit keeps what is owned.
pub record IsReclaiming {D : Type 0} (d : Ghosts D) (was v : Volume) (old new : D) (answer : Result ℕ CommandError) : Type 0 where
  pub refused : (reason : Refusal) → (answer ≡ Err (Refused reason)) ↔ (reclaim_refusal was.read_only (parts_of was).layout ≡ Some reason)
  pub errors : IfErr answer (λ error. ((reason : Refusal) × (error ≡ Refused reason)) ⊎ (error ≡ DiskFault))
  pub reclaimed : IfOk answer (λ bytes. HasReclaimed d (parts_of was) (parts_of v) bytes old new)
  pub tree : v.tree ≡ was.tree
  pub owned : IsNewLayout (parts_of was).layout → StopsAndExitsLeave d old new (LeavesOwnedOf (parts_of was))
  pub keeps : KeepsVolume d old new was v answer

-- What a volume holds, which the safe mode serves, was asked to do a command in it: what was answered and changed, what a crash at any
-- moment and every exit leave, and what stays.
pub record ChangesSafely {D : Type 0} (d : Ghosts D) (c : Command) (read_only : Bool) (was h : Holdings) (old new : D) (answer : Result (Unit {0}) SafeError) : Type 0 where
  pub refused : AnswersSafelyOver read_only c (held_parts was) answer
  pub changed : OnOk answer (HasChangedSafely d c (held_parts was) (held_parts h) old new)
  pub tree : StopsAndExitsLeave d old new (LeavesTree c (held_parts was))
  pub free : StopsAndExitsLeave d old new (WritesFreeOf (held_parts was))
  pub keeps : SafeKeeps d old new was h answer

-- The volume can be used afterwards: always, unless the disk failed.
abbrev pub is_usable_after : Result (Unit {0}) SafeError → Bool
is_usable_after (Err errors.DiskFault) = false
is_usable_after answer = true

-- A volume was asked so.
pub record IsAskedSafely {D : Type 0} (d : Ghosts D) (c : Command) (was v : Volume) (old new : D) (answer : Result (Unit {0}) SafeError) : Type 0 where
  pub held : ChangesSafely d c was.read_only (holdings_of was) (holdings_of v) old new answer
  pub rights : v.read_only ≡ was.read_only
  pub fit : v.fit ≡ is_usable_after answer

-- ---- the answer as a line

-- The line of a refusal. After any other error nothing is written.
abbrev pub TellsError : {K : Type 0} → Sinks K → K → K → CommandError → Result Bool LineFault → Type 0
TellsError k before after (Refused refusal) result = Answered (refusal_line refusal) (k.taken before) (k.taken after) result × OnlyTells k before after result
TellsError k before after NoMemory result = (result ≡ Err LineFault.NoMemory) × (after ≡ before)
TellsError k before after DiskFault result = (result ≡ Err LineFault.Disk) × (after ≡ before)

-- The reply to what was done, or the error.
abbrev pub TellsBy : {K T : Type 0} → (T → List ℕ) → Sinks K → K → K → Result T CommandError → Result Bool LineFault → Type 0
TellsBy reply k before after (Ok value) result = Answered (reply value) (k.taken before) (k.taken after) result × OnlyTells k before after result
TellsBy reply k before after (Err error) result = TellsError k before after error result

-- what is replied to a change, and to giving so many bytes of lost space back
abbrev pub done_reply : Unit {0} → List ℕ
done_reply done = ok_line

abbrev pub reclaimed_reply : ℕ → List ℕ
reclaimed_reply bytes = reclaimed_line bytes ++ ok_line

-- `ok` for a change
abbrev pub Tells : {K : Type 0} → Sinks K → K → K → Result (Unit {0}) CommandError → Result Bool LineFault → Type 0
Tells k before after answer result = TellsBy done_reply k before after answer result

-- the same in the safe mode, with a refusal of its own
abbrev pub TellsSafely : {K : Type 0} → Sinks K → K → K → Result (Unit {0}) SafeError → Result Bool LineFault → Type 0
TellsSafely k before after (Ok done) result = Answered ok_line (k.taken before) (k.taken after) result × OnlyTells k before after result
TellsSafely k before after (Err (errors.Refused refusal)) result = Answered (refusal_line refusal) (k.taken before) (k.taken after) result × OnlyTells k before after result
TellsSafely k before after (Err (errors.Spread zones)) result = Answered (safe_line (SafeRefusal.Spread zones)) (k.taken before) (k.taken after) result × OnlyTells k before after result
TellsSafely k before after (Err errors.NoMemory) result = (result ≡ Err LineFault.NoMemory) × (after ≡ before)
TellsSafely k before after (Err errors.DiskFault) result = (result ≡ Err LineFault.Disk) × (after ≡ before)
