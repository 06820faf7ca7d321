-- How answers come about.
use Rattle.std.proofs.Common.{◌≡◌, ℕ, Bool, List, Option, Result, sym, subst}
use Rattle.fc_device.specs.declared.disk.Disk.{Ghosts}
use Rattle.fc_device.specs.declared.streams.Sink.{Ghosts as Sinks}
use Rattle.fc_shell.specs.declared.answer.LineFault.{LineFault}
use Rattle.fc_shell.specs.Answered.{Answered, IsCaused, OnlyTells}

-- the same reply
pub answered_same : (reply other : List ℕ) (before after : Option (List ℕ)) (result : Result Bool LineFault) → other ≡ reply → Answered reply before after result → Answered other before after result
answered_same reply other before after result same is = subst (λ (text : List ℕ). Answered text before after result) (sym same) is

-- a text that is written asks nothing of the disk
pub caused_alone : {D K T : Type 0} (d : Ghosts D) (k : Sinks K) (old new : D) (before after : K) (result : Result T LineFault) → OnlyTells k before after result
    → IsCaused d k old new before after result
caused_alone d k old new before after result only = record { later = only.later; disk = λ is. absurd (only.no_disk is); out = only.out }
