-- Which directories are read at all.
use Rattle.std.specs.Prelude.{ℕ, Bool, true}
use Rattle.fc_bytes.specs.Checks.{is_big_size}
use Rattle.fc_names.specs.declared.name.NameForm.{NameForm}
use Rattle.fc_names.specs.declared.name.NameForm.TheVariants as forms

-- A directory may have the size that its entry gives, which counts for a big one alone.
abbrev pub may_have_size : NameForm → ℕ → Bool
may_have_size forms.Seven len = true
may_have_size forms.Ten len = true
may_have_size forms.Long len = is_big_size len
