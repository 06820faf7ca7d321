-- What a job's call answers in the safe mode.
use Rattle.std.specs.Prelude.{◌≡◌, Option, Some, None, Result, Ok, Err}
use Rattle.fc_model.specs.Command.{Command}
use Rattle.fc_image.specs.Opening.{Opened}
use Rattle.fc_image.specs.Sound.{AreSound}
use Rattle.fc_image.specs.safe.SafeShort.{SafeRefusal, safe_refusal}
use Rattle.fc_tree.specs.Parts.{ArePartsOf, Parts}
use Rattle.fc_safe.specs.declared.error.SafeError.{SafeError}
use Rattle.fc_safe.specs.declared.error.SafeError.TheVariants as errors

-- The error is this refusal.
abbrev pub IsRefusal : SafeError → SafeRefusal → Type 0
IsRefusal (errors.Refused r) refusal = refusal ≡ SafeRefusal.Refused r
IsRefusal (errors.Spread zones) refusal = refusal ≡ SafeRefusal.Spread zones
IsRefusal errors.NoMemory refusal = Unit {0}
IsRefusal errors.DiskFault refusal = ⊥

-- The call answers this refusal, or none if there is none. It may be out of memory in either case; the disk fails only after a command
-- that is accepted.
abbrev pub AnswersSafely : {T : Type 0} → Option SafeRefusal → Result T SafeError → Type 0
AnswersSafely None (Ok value) = Unit {0}
AnswersSafely None (Err (errors.Refused r)) = ⊥
AnswersSafely None (Err (errors.Spread zones)) = ⊥
AnswersSafely None (Err errors.NoMemory) = Unit {0}
AnswersSafely None (Err errors.DiskFault) = Unit {0}
AnswersSafely (Some refusal) (Ok value) = ⊥
AnswersSafely (Some refusal) (Err error) = IsRefusal error refusal

-- It refuses for want of space as the command does in the safe mode, over each sound view whose parts these are.
abbrev pub AnswersSafeOver : {T : Type 0} → Command → Parts → Result T SafeError → Type 0
AnswersSafeOver c h result = (v : Opened) → AreSound v.layout v.listings → ArePartsOf h v → AnswersSafely (safe_refusal v c) result

-- P, unless the disk failed
abbrev pub UnlessDiskFault : {T : Type 0} → Result T SafeError → Type 0 → Type 0
UnlessDiskFault (Ok value) P = P
UnlessDiskFault (Err (errors.Refused refusal)) P = P
UnlessDiskFault (Err (errors.Spread zones)) P = P
UnlessDiskFault (Err errors.NoMemory) P = P
UnlessDiskFault (Err errors.DiskFault) P = Unit {0}
