-- What a host was asked, and what its files are, once an object was to become one of them.
use Rattle.std.specs.Prelude.{◌≡◌, ◌⊎◌, ◌≤◌, ℕ, Bool, true, false, List, [], ◌∷◌, ◌++◌, map, take, Option, Some, Result, Ok, Err}
use Rattle.std.specs.List.{Contains}
use Rattle.std.specs.Option.{ForSome}
use Rattle.std.specs.FinMap.{insert}
use Rattle.fc_device.specs.Faults.{Rose}
use Rattle.fc_device.specs.declared.disk.Disk.{Ghosts}
use Rattle.fc_host.specs.declared.host.Host.{Ghosts as Hosts}
use Rattle.fc_host.specs.declared.asks.HostCall.TheVariants as calls
use Rattle.fc_host.specs.Answers.{AnswersCalls, joined, made_of}
use Rattle.fc_host.specs.Asked.{Asked, made_by}
use Rattle.fc_host.specs.Files.{Files, MayBeAdded, MayBeMade, is_there}
use Rattle.fc_export.specs.declared.file.ExportFault.{ExportFault}

-- ---- bytes that are added

-- pieces that were added to a file
abbrev pub added_of : List ℕ → List (List ℕ) → List Asked
added_of host pieces = map (λ piece. (host, calls.Append, piece)) pieces

-- These bytes stand first, if all are known.
abbrev pub AreFirst : Option (List ℕ) → List ℕ → Type 0
AreFirst known bytes = ForSome known (λ all. (rest : List ℕ) × (all ≡ bytes ++ rest))

-- All bytes were added, in pieces.
pub record AreAdded {H : Type 0} (h : Hosts H) (host : List ℕ) (known : Option (List ℕ)) (before after : H) : Type 0 where
  pub pieces : List (List ℕ)
  pub asks : h.asked after ≡ h.asked before ++ added_of host pieces
  pub answered : AnswersCalls (h.files before) (added_of host pieces) (h.files after)
  pub all : ForSome known (λ bytes. joined pieces ≡ bytes)

-- No further piece was added; or one was to be, and a part of it may have been.
abbrev pub EndsAdding : List ℕ → List ℕ → List Asked → Option Files → Option Files → Type 0
EndsAdding host piece failed old new =
    ((failed ≡ []) × (piece ≡ []) × (new ≡ old)) ⊎ ((failed ≡ (host, calls.Failed, piece) ∷ []) × MayBeAdded host piece old new)

-- Some were added, from the first on.
pub record AreBegun {H : Type 0} (h : Hosts H) (host : List ℕ) (known : Option (List ℕ)) (before after : H) : Type 0 where
  pub pieces : List (List ℕ)
  pub piece : List ℕ
  pub failed : List Asked
  pub between : Option Files
  pub asks : h.asked after ≡ h.asked before ++ (added_of host pieces ++ failed)
  pub answered : AnswersCalls (h.files before) (added_of host pieces) between
  pub ended : EndsAdding host piece failed between (h.files after)
  pub first : AreFirst known (joined pieces ++ piece)
  pub own : Contains (made_by (h.asked after)) host

-- what becomes of the file
abbrev pub Adds : {H : Type 0} → Hosts H → List ℕ → Option (List ℕ) → H → H → Result (Unit {0}) ExportFault → Type 0
Adds h host known before after (Ok done) = AreAdded h host known before after
Adds h host known before after (Err fault) = AreBegun h host known before after

-- ---- files that are made

-- If the host tells its files: they are as they were, or the file is there, with bytes from the first on.
abbrev pub LeavesPart : List ℕ → Option (List ℕ) → Option Files → Option Files → Type 0
LeavesPart host known old new = ForSome old (λ files. (left : Files) × (new ≡ Some left) × ((left ≡ files)
    ⊎ ((is_there files host ≡ false) × ((some : List ℕ) × (left ≡ insert files host some) × ForSome known (λ bytes. (n : ℕ) × (some ≡ take n bytes))))))

-- The file was taken back, so that the files are as they were; or that failed too.
abbrev pub IsTakenBack : List ℕ → List Asked → Option Files → Option Files → Type 0
IsTakenBack host back old new = ((back ≡ (host, calls.Remove, []) ∷ []) × (new ≡ old)) ⊎ (back ≡ (host, calls.Failed, []) ∷ [])

-- A file was made and got some bytes, from the first on. Then a call failed, and it was to be taken back.
pub record IsBroken (host : List ℕ) (known : Option (List ℕ)) (asked : List Asked) (old new : Option Files) : Type 0 where
  pub pieces : List (List ℕ)
  pub piece : List ℕ
  pub failed : List Asked
  pub back : List Asked
  pub asks : asked ≡ made_of host pieces ++ (failed ++ back)
  pub failed_is : (failed ≡ []) ⊎ (failed ≡ (host, calls.Failed, piece) ∷ [])
  pub first : AreFirst known (joined pieces ++ piece)
  pub taken_back : IsTakenBack host back old new

-- No file was made, since that failed.
abbrev pub IsUnmade : List ℕ → List Asked → Option Files → Option Files → Type 0
IsUnmade host asked old new = (asked ≡ (host, calls.Failed, []) ∷ []) × MayBeMade host old new

-- what was asked by the answer, and what became of the files: the file was made and has all bytes; it was there; or a call failed
abbrev pub Exported : List ℕ → Option (List ℕ) → List Asked → Option Files → Option Files → Result Bool ExportFault → Type 0
Exported host known asked old new (Ok true) = (pieces : List (List ℕ)) × (asked ≡ made_of host pieces) × AnswersCalls old asked new × ForSome known (λ bytes. joined pieces ≡ bytes)
Exported host known asked old new (Ok false) = (asked ≡ (host, calls.Make false, []) ∷ []) × AnswersCalls old asked new
Exported host known asked old new (Err fault) = (IsUnmade host asked old new ⊎ IsBroken host known asked old new) × LeavesPart host known old new

abbrev pub Exports : {H : Type 0} → Hosts H → List ℕ → Option (List ℕ) → H → H → Result Bool ExportFault → Type 0
Exports h host known before after result = (asked : List Asked) × (h.asked after ≡ h.asked before ++ asked) × Exported host known asked (h.files before) (h.files after) result

-- ---- causes

-- It fails only if a call of the disk or of the host failed, whose count of faults rose.
pub record HasCauses {D H T : Type 0} (d : Ghosts D) (h : Hosts H) (old new : D) (before after : H) (result : Result T ExportFault) : Type 0 where
  pub later : h.faults before ≤ h.faults after
  pub disk : result ≡ Err ExportFault.Disk → Rose (d.faults old) (d.faults new)
  pub host : result ≡ Err ExportFault.Host → Rose (h.faults before) (h.faults after)
