-- Answers of calls that read a directory.
use Rattle.std.specs.Prelude.{◌≡◌, Option, Some}
use Rattle.fc_dirs.specs.declared.DirFault.{DirFault}
use Rattle.fc_dirs.specs.declared.DirError.{DirError}
use Rattle.fc_dirs.specs.declared.DirError.TheVariants.{Fault, NoMemory}

-- The error is out of memory, or it tells this fault.
abbrev pub IsFaultOf : Option DirFault → DirError → Type 0
IsFaultOf fault (Fault told) = fault ≡ Some told
IsFaultOf fault NoMemory = Unit {0}
