-- What every answer leaves.
use Rattle.std.proofs.Common.{◌≡◌, ◌≤◌, ℕ, List, refl, sym, subst, arith}
use Rattle.std.specs.Prelude.{Err, IsFalse, Ok, Result}
use Rattle.fc_device.specs.declared.disk.Disk.{Ghosts}
use Rattle.fc_device.specs.Calls.{SameForm}
use Rattle.fc_device.specs.Faults.{Rose}
use Rattle.fc_device.proofs.DiskLaws.{form_same}
use Rattle.fc_image.specs.Layout.{Layout, dir_form}
use Rattle.fc_space.specs.Space.{layout_of}
use Rattle.fc_tree.specs.Parts.{Parts}
use Rattle.fc_change.specs.declared.job.Job.{Job}
use Rattle.fc_holdings.specs.declared.error.CommandError.{CommandError}
use Rattle.fc_holdings.specs.declared.error.CommandError.TheVariants.{Refused, NoMemory, DiskFault}
use Rattle.fc_holdings.specs.declared.holdings.Holdings.{Holdings}
use Rattle.fc_holdings.specs.Answers.{UnlessFault}
use Rattle.fc_holdings.specs.Holdings.{IsSameKind, Stands, parts_of}
use Rattle.fc_commands.specs.Promises.{ChangeKeeps}
use Rattle.fc_commands.specs.Stages.{RefusesJob}

-- ---- a refusal, or no memory

unless_fault : (error : CommandError) (P : Type 0) → (error ≡ DiskFault → ⊥) → P → UnlessFault {T = Unit {0}} (Err error) P
unless_fault (Refused r) P not_fault p = p
unless_fault NoMemory P not_fault p = p
unless_fault DiskFault P not_fault p = absurd (not_fault refl)

same_error : (e f : CommandError) → (let r : Result (Unit {0}) CommandError = Err e in r) ≡ Err f → e ≡ f
same_error e f is = cc

pub same_kind : (layout : Layout) → IsSameKind layout layout
same_kind (Layout.New m) = tt
same_kind (Layout.Old space) = tt

pub kept_same : {D : Type 0} (d : Ghosts D) (disk : D) (was : Holdings) (error : CommandError) → Stands d was disk → IsFalse (d.pending disk) → (error ≡ DiskFault → ⊥) → ChangeKeeps d disk disk was was (Err error)
kept_same d disk was error stands quiet not_fault = record {
  unchanged = λ other. (refl, refl);
  stands = unless_fault error _ not_fault stands;
  settled = unless_fault error _ not_fault quiet;
  map = same_kind (layout_of was.places);
  dirs = unless_fault error _ not_fault refl;
  form = form_same d disk;
  faults = omega arith;
  cause = λ e. absurd (not_fault (same_error error DiskFault e));
}

-- ---- done, or a fault of the disk

pub kept_done : {D : Type 0} (d : Ghosts D) (old new : D) (was now : Holdings) → Stands d now new → IsFalse (d.pending new) → IsSameKind (layout_of was.places) (layout_of now.places)
    → dir_form (layout_of now.places) ≡ dir_form (layout_of was.places) → SameForm d old new → d.faults old ≤ d.faults new → ChangeKeeps d old new was now (Ok tt)
kept_done d old new was now stands quiet map dirs form later =
    record { unchanged = tt; stands = stands; settled = quiet; map = map; dirs = dirs; form = form; faults = later; cause = λ e. absurd (cc) }
