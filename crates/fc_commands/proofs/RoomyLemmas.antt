-- Jobs by which no directory has to grow.
use Rattle.std.proofs.Common.{◌≡◌, ℕ, List, None}
use Rattle.fc_tree.specs.Parts.{Parts}
use Rattle.fc_change.specs.Needs.{AreWants}
use Rattle.fc_change.specs.declared.job.Job.{Job}
use Rattle.fc_change.specs.declared.job.Wants.{Wants}

-- None grows by what it wants.
abbrev pub NoneGrows : Parts → Job → List ℕ → Type 0
NoneGrows h job name = (w : Wants) → AreWants h job name w → w.grows ≡ None
