-- `set` and `mark` leave the map as it is, at any moment.
use Rattle.std.proofs.Common.{⊎_elim, ℕ, List}
use Rattle.fc_names.specs.Names.{Path}
use Rattle.fc_device.specs.declared.disk.Disk.{Ghosts}
use Rattle.fc_device.specs.Calls.{StopsAndExitsLeave}
use Rattle.fc_device.proofs.DiskLaws.{Laws}
use Rattle.fc_device.proofs.StopLemmas.{keeps_weaker}
use Rattle.fc_record.specs.declared.Kind.{Kind}
use Rattle.fc_model.specs.Command.{Command}
use Rattle.fc_tree.specs.Agree.{Agree}
use Rattle.fc_tree.specs.Parts.{Parts}
use Rattle.fc_commands.specs.Promises.{SameMap}
use Rattle.fc_commands.proofs.StillLemmas.{mark_still, set_still}
use Rattle.fc_commands.specs.Judgments.{CommandLeaves}

module _ {D : Type 0} (d : Ghosts D) (law : Laws d) (old new : D) (h : Parts) (kind : Kind) (a : Agree kind h) (path : Path) where
  pub set_keeps : (load exec access : ℕ) → StopsAndExitsLeave d old new (CommandLeaves (Command.Set path load exec access) h) → StopsAndExitsLeave d old new (SameMap h.layout)
  set_keeps load exec access keeps =
      keeps_weaker law keeps
      (λ first image left. ⊎_elim (λ before. before.map) (λ way. set_still h kind a way.job way.name way.bytes first image way.moment path load exec access way.of_command) left)

  pub mark_keeps : (attrs : ℕ) → StopsAndExitsLeave d old new (CommandLeaves (Command.Mark path attrs) h) → StopsAndExitsLeave d old new (SameMap h.layout)
  mark_keeps attrs keeps =
      keeps_weaker law keeps (λ first image left. ⊎_elim (λ before. before.map) (λ way. mark_still h kind a way.job way.name way.bytes first image way.moment path attrs way.of_command) left)
