-- Volumes that were asked to compact their discs, by new maps and by old ones.
use Rattle.std.proofs.Common.{◌≡◌, ◌⊎◌, ◌↔◌, inl, inr, true, Result, Ok, Err, subst}
use Rattle.std.specs.Prelude.{IfErr, OnOk}
use Rattle.fc_device.specs.declared.disk.Disk.{Ghosts}
use Rattle.fc_device.specs.Calls.{StopsAndExitsLeave}
use Rattle.fc_names.specs.declared.refusal.Refusal.{Refusal}
use Rattle.fc_newmap.specs.Map.{Map}
use Rattle.fc_image.specs.Layout.{Layout}
use Rattle.fc_image.specs.Moves.{KeepsObjects}
use Rattle.fc_image.specs.Stays.{IsNewLayout}
use Rattle.fc_holdings.specs.declared.error.CommandError.{CommandError}
use Rattle.fc_volume.specs.Changing.{KeepsVolume}
use Rattle.fc_volume.specs.Compacting.{HasCompacted}
use Rattle.fc_volume.specs.Volume.{Volume, parts_of}
use Rattle.fc_volume.specs.OldChanging.{IsOldLayout}
use Rattle.fc_shell.specs.Changing.{IsCompacting}

-- A volume with a new map was,
pub compacting_new : {D : Type 0} (d : Ghosts D) (was v : Volume) (old new : D) (answer : Result (Unit {0}) CommandError)
    → (answer ≡ Err (CommandError.Refused Refusal.ReadOnly)) ↔ (was.read_only ≡ true)
    → IfErr answer (λ error. (error ≡ CommandError.Refused Refusal.ReadOnly) ⊎ (error ≡ CommandError.DiskFault))
    → OnOk answer (HasCompacted d (parts_of was) (parts_of v) old new)
    → ((m : Map) → (parts_of was).layout ≡ Layout.New m → StopsAndExitsLeave d old new (KeepsObjects m.geometry))
    → KeepsVolume d old new was v answer → v.tree ≡ was.tree → IsCompacting d was v old new answer
compacting_new d was v old new answer refused errors compacted objects keeps tree =
    record { refused = refused; errors = by_error answer errors; compacted = compacted; keeps = keeps; tree = λ new_map. tree; objects = objects }
  where
    by_error : (x : Result (Unit {0}) CommandError) → IfErr x (λ error. (error ≡ CommandError.Refused Refusal.ReadOnly) ⊎ (error ≡ CommandError.DiskFault))
        → IfErr x (λ error. (error ≡ CommandError.Refused Refusal.ReadOnly) ⊎ ((error ≡ CommandError.DiskFault) ⊎ ((error ≡ CommandError.NoMemory) × IsOldLayout (parts_of was).layout)))
    by_error (Ok value) e = tt
    by_error (Err error) (inl locked) = inl locked
    by_error (Err error) (inr fault) = inr (inl fault)

-- or one with an old map.
pub compacting_old : {D : Type 0} (d : Ghosts D) (was v : Volume) (old new : D) (answer : Result (Unit {0}) CommandError) → IsOldLayout (parts_of was).layout
    → (answer ≡ Err (CommandError.Refused Refusal.ReadOnly)) ↔ (was.read_only ≡ true)
    → IfErr answer (λ error. (error ≡ CommandError.Refused Refusal.ReadOnly) ⊎ ((error ≡ CommandError.NoMemory) ⊎ (error ≡ CommandError.DiskFault)))
    → OnOk answer (HasCompacted d (parts_of was) (parts_of v) old new)
    → KeepsVolume d old new was v answer → IsCompacting d was v old new answer
compacting_old d was v old new answer map refused errors compacted keeps = record {
  refused = refused;
  errors = by_error answer errors;
  compacted = compacted;
  keeps = keeps;
  tree = λ new_map. absurd (both (parts_of was).layout map new_map);
  objects = λ m new_map. absurd (subst IsOldLayout new_map map);
}
  where
    both : (l : Layout) → IsOldLayout l → IsNewLayout l → ⊥
    both (Layout.New m) old new = old
    both (Layout.Old space) old new = new

    by_error : (x : Result (Unit {0}) CommandError) → IfErr x (λ error. (error ≡ CommandError.Refused Refusal.ReadOnly) ⊎ ((error ≡ CommandError.NoMemory) ⊎ (error ≡ CommandError.DiskFault)))
        → IfErr x (λ error. (error ≡ CommandError.Refused Refusal.ReadOnly) ⊎ ((error ≡ CommandError.DiskFault) ⊎ ((error ≡ CommandError.NoMemory) × IsOldLayout (parts_of was).layout)))
    by_error (Ok value) e = tt
    by_error (Err error) (inl locked) = inl locked
    by_error (Err error) (inr (inr fault)) = inr (inl fault)
    by_error (Err error) (inr (inl memory)) = inr (inr (memory, map))
