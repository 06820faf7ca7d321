-- How commands are answered.
use Rattle.std.specs.Prelude.{◌≡◌, Bool, true, not, ◌&&◌}
use Rattle.fc_record.specs.declared.Kind.{Kind}
use Rattle.fc_image.specs.Opening.{Opened}
use Rattle.fc_image.specs.safe.SafeShort.{is_suitable}
use Rattle.fc_runs.specs.Run.{Mode}
use Rattle.fc_safe.specs.Suits.{Suits}
use Rattle.fc_volume.specs.Volume.{Volume, parts_of}

-- over an image that opened as this kind, by whether it may be changed, and whether in the safe mode
abbrev pub mode_of : Kind → Bool → Bool → Mode
mode_of kind read_only safe = record { kind = kind; read_only = read_only; safe = safe }

-- In the safe mode the volume is one that it serves.
abbrev pub SuitsMode : Bool → Volume → Type 0
SuitsMode safe v = safe ≡ true → Suits (parts_of v).layout (parts_of v).nodes

-- The safe mode was asked for, and doesn't serve what the image opens as.
abbrev pub is_unsuited : Bool → Opened → Bool
is_unsuited safe v = safe && not (is_suitable v)
