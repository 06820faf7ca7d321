-- Stretches of rows of sectors.
use Rattle.std.specs.Prelude.{ℕ, ◌-◌}
use Rattle.fc_safe.specs.declared.extents.Stretch.{Stretch}

-- what is missing of a stretch after so many sectors
abbrev pub stretch_left : Stretch → ℕ → Stretch
stretch_left wanted n = record { skip = wanted.skip - n; need = wanted.need - (n - wanted.skip) }
