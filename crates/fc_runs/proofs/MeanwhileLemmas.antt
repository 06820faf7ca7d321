-- A disk while lines are served.
use Rattle.std.proofs.Common.{arith}
use Rattle.fc_device.specs.declared.disk.Disk.{Ghosts}
use Rattle.fc_device.proofs.DiskLaws.{Laws, form_same, form_then}
use Rattle.fc_device.proofs.StopLemmas.{goes_on, started}
use Rattle.fc_runs.specs.Meanwhile.{GoesOn}

module _ {D : Type 0} {d : Ghosts D} (law : Laws d) where
  pub goes_same : (s : D) → GoesOn d s s
  goes_same s = record { form = form_same d s; stops = started law s (λ image. Unit {0}) (λ image left. tt); faults = omega arith }

  pub goes_then : {old mid new : D} → GoesOn d old mid → GoesOn d mid new → GoesOn d old new
  goes_then first second = record {
    form = form_then d first.form second.form;
    stops = goes_on law first.stops second.stops (λ image left. tt);
    faults = omega (arith, first.faults, second.faults);
  }
