-- What it says that a count of faults rose.
use Rattle.std.specs.Prelude.{◌≡◌, ◌⊎◌, ◌↔◌, ℕ, ◌-◌, ◌^◌, ◌<◌, ◌≤◌}
use Rattle.std.proofs.Common.{inl, inr, ⊎_elim, arith}
use Rattle.std.proofs.lemmas.Bool.{cases_lt}
use Rattle.fc_device.specs.Faults.{Rose}

-- it is greater now, or it stood at its last value
pub rose_is : (before now : ℕ) → before < 2 ^ 64 → before ≤ now → Rose before now ↔ ((before < now) ⊎ (before ≡ 2 ^ 64 - 1))
rose_is before now fits later = (to, from)
  where
    to : Rose before now → (before < now) ⊎ (before ≡ 2 ^ 64 - 1)
    to rose = elim (cases_lt before now) [
      | inl more ↦ inl more
      | inr same ↦ inr (omega (arith, fits, later, rose, same))
    ]

    from : (before < now) ⊎ (before ≡ 2 ^ 64 - 1) → Rose before now
    from is = ⊎_elim (λ more. omega (arith, more)) (λ last. omega (arith, last, later)) is

-- nor does a count of none ever
pub none_fits : 0 < 2 ^ 64
none_fits = omega arith
