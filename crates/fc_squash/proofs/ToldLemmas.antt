-- Disks that tell their bytes only if they told them before.
use Rattle.std.proofs.Common.{◌≡◌, ◌⊎◌, ⊎_elim, ℕ, List, sym, ◌∙◌, Some, None, Option, option_map, refl}
use Rattle.fc_device.specs.declared.disk.Disk.{Ghosts}
use Rattle.fc_squash.specs.Sliding.{TellsAsBefore}

module _ {D : Type 0} (d : Ghosts D) where
  pub told_start : (disk : D) → TellsAsBefore d disk disk
  told_start disk image told = (image, told)

  pub told_then : {old mid new : D} → TellsAsBefore d old mid → TellsAsBefore d mid new → TellsAsBefore d old new
  told_then first second image told = let m = second image told in first m.0 m.1

  pub told_read : {old mid new : D} → TellsAsBefore d old mid → d.bytes new ≡ d.bytes mid → TellsAsBefore d old new
  told_read first same image told = first image (sym same ∙ told)

  pub told_write : {old mid new : D} (f : List ℕ → List ℕ) → TellsAsBefore d old mid → (d.bytes new ≡ d.bytes mid) ⊎ (d.bytes new ≡ option_map f (d.bytes mid)) → TellsAsBefore d old new
  told_write {mid = mid} f first either image told = ⊎_elim
      (λ same. first image (sym same ∙ told))
      (λ changed. let m = was (d.bytes mid) (sym changed ∙ told) in first m.0 m.1)
      either
    where
      was : (o : Option (List ℕ)) → option_map f o ≡ Some image → (x : List ℕ) × (o ≡ Some x)
      was None e = absurd (none e)
        where
          none : None ≡ Some image → ⊥
          none e = cc
      was (Some x) e = (x, refl)
