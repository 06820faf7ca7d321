-- A new object on a disc with an old map: what it is called, and how much it takes.
use Rattle.std.proofs.Common.{◌≡◌, ◌<◌, ◌≤◌, ◌⊎◌, inl, inr, ℕ, zero, suc, ◌*◌, false, arith}
use Rattle.std.specs.Prelude.{◌==◌}
use Rattle.std.specs.Int.{div_ceil}
use Rattle.std.proofs.lemmas.Bool.{eqb-true, false_from_ne_true as unless}
use Rattle.std.proofs.lemmas.Grind.{div_ceil_times}
use Rattle.fc_oldmap.specs.OldMap.{OldMapContent}
use Rattle.fc_image.specs.effects.Short.{old_need}
use Rattle.fc_changes.proofs.lemmas.old.SpaceLemmas.{some_units}
use Rattle.fc_changes.proofs.ChangeLemmas.{ceil_some}

-- some bytes need some units
pub need_some : (space : OldMapContent) (n : ℕ) → (space.sector_units ≡ 1) ⊎ (space.sector_units ≡ 4) → 0 < n → (old_need space n == 0) ≡ false
need_some space n units some = unless (old_need space n == 0) (λ e.
    let none = eqb-true (old_need space n) 0 e in
    let many = some_units space.sector_units units (div_ceil n (256 * space.sector_units)) (ceil_some n (256 * space.sector_units) some (size_some units)) in
    omega (arith, none, many))
  where
    size_some : (space.sector_units ≡ 1) ⊎ (space.sector_units ≡ 4) → 0 < 256 * space.sector_units
    size_some (inl one) = omega (arith, one)
    size_some (inr four) = omega (arith, four)
