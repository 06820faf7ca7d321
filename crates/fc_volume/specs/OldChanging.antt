-- Volumes whose disc has an old map.
use Rattle.fc_image.specs.Layout.{Layout}

-- The layout is an old map.
abbrev pub IsOldLayout : Layout → Type 0
IsOldLayout (Layout.New m) = ⊥
IsOldLayout (Layout.Old space) = Unit {0}
