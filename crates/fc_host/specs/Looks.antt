-- What is asked of a host of which a file is read: nothing that changes one.
use Rattle.std.specs.Prelude.{◌≡◌, ℕ, Bool, true, false, All, List, ◌++◌}
use Rattle.fc_host.specs.Answers.{joined, taken_from}
use Rattle.fc_host.specs.Asked.{Asked}
use Rattle.fc_host.specs.declared.asks.HostCall.{HostCall}
use Rattle.fc_host.specs.declared.asks.HostCall.TheVariants as calls

-- a call that changes no file
abbrev pub only_looks : HostCall → Bool
only_looks (calls.Size size) = true
only_looks (calls.Take at) = true
only_looks calls.Failed = true
only_looks call = false

-- a call that looks at this file
abbrev pub IsLook : List ℕ → Asked → Type 0
IsLook name a = (a.0 ≡ name) × (only_looks a.1 ≡ true)

-- This file was looked at meanwhile, and no other.
abbrev pub LooksAt : List ℕ → List Asked → List Asked → Type 0
LooksAt name old new = (more : List Asked) × (new ≡ old ++ more) × All (IsLook name) more

-- These bytes were taken from it meanwhile, piece by piece from that place on.
abbrev pub Takes : List ℕ → ℕ → List ℕ → List Asked → List Asked → Type 0
Takes name at bytes old new = (pieces : List (List ℕ)) × (new ≡ old ++ taken_from name at pieces) × (joined pieces ≡ bytes)
