-- The laws from what calls leave to what commands promise, on discs with new maps.
use Rattle.std.specs.Prelude.{ℕ, List}
use Rattle.fc_newmap.specs.Map.{Map}
use Rattle.fc_newmap.specs.Edits.{AreEdits, KeepsRuns}
use Rattle.fc_newmap.specs.Copies.{CommitEnds}
use Rattle.fc_newmap.specs.Committing.{KeepsContents}
use Rattle.fc_changes.specs.Owed.{IsMapAfter}

-- ---- maps

-- After edits of a map and their commit it is as it has to be.
abbrev pub CommittedLaw : Type 0
CommittedLaw = (m mid m' : Map) (start image' : List ℕ) → AreEdits m mid → KeepsRuns mid m' → KeepsContents mid m' → CommitEnds m.geometry start m'.zones image' → IsMapAfter m m' image'
