-- The entries that commands make.
use Rattle.std.proofs.Common.{◌≡◌, ◌<◌, inl, ℕ, ◌+◌, ◌*◌, ◌/◌, Bool, true, false, List, refl, sym, ap, ◌∙◌, arith, Some, None}
use Rattle.fc_names.specs.Names.{is_directory}
use Rattle.fc_names.specs.declared.name.NameForm.{NameForm}
use Rattle.fc_names.specs.declared.name.NameForm.TheVariants.{Seven, Ten, Long}
use Rattle.fc_dirs.specs.declared.Entry.{Entry}
use Rattle.fc_dirs.specs.declared.SmallForm.{SmallForm}
use Rattle.fc_dirs.specs.declared.SmallForm.TheVariants.{Bytes1280, Bytes2048}
use Rattle.fc_dirs.specs.Small.{attrs_limit, last_limit}
use Rattle.fc_dirs.specs.Directory.{Directory}
use Rattle.fc_image.specs.Walk.{Object, is_directory_object}
use Rattle.fc_image.specs.effects.Steady.{EntrySteady, IsDirLength}
use Rattle.fc_drafts.specs.Draft.{CanAddress, CanHold}
use Rattle.fc_drafts.specs.Entries.{directory_entry, file_entry, regrown, renamed_entry, saved_entry, set_entry}
use Rattle.fc_drafts.specs.Laws.{EntryLaw}

same_length : (form : NameForm) (old new : ℕ) → new ≡ old → IsDirLength form old new
same_length Seven old new is = inl is
same_length Ten old new is = inl is
same_length Long old new is = is

-- an object that was not there
fresh : (form : NameForm) (o : Object) → o.entry.last ≡ 0 → EntrySteady form false None o
fresh form o last = record { last = inl last; len = λ directory. tt }

-- one that was there, and keeps last byte and length
kept : (form : NameForm) (moved : Bool) (old o : Object) → o.entry.last ≡ old.entry.last → o.entry.len ≡ old.entry.len → EntrySteady form moved (Some old) o
kept form moved old o last len = record { last = inl last; len = λ directory. same_length form old.entry.len o.entry.len len }

file : (form : NameForm) (old o : Object) → o.entry.last ≡ old.entry.last → is_directory_object o ≡ false → EntrySteady form false (Some old) o
file form old o last none = record { last = inl last; len = λ directory. absurd (let bad : true ≡ false = sym directory ∙ none in cc) }

low_attrs : (form : SmallForm) (n : ℕ) → n < 9 → n < attrs_limit form
low_attrs Bytes1280 n low = omega (arith, low)
low_attrs Bytes2048 n low = omega (arith, low)

last_none : (form : SmallForm) → 0 < last_limit form
last_none Bytes1280 = omega arith
last_none Bytes2048 = omega arith

set_attrs : (form : SmallForm) (attrs access : ℕ) → attrs < attrs_limit form → access < 8 → attrs / 8 * 8 + access < attrs_limit form
set_attrs Bytes1280 attrs access low few = omega (arith, low, few)
set_attrs Bytes2048 attrs access low few = omega (arith, low, few)

file_held : (dir : Directory) (name : List ℕ) (load exec len address : ℕ) → CanAddress dir address → CanHold dir (file_entry name load exec len address)
file_held (Directory.Small dir) name load exec len address fits = record { address = fits; attrs = low_attrs dir.form 3 (omega arith); last = last_none dir.form }
file_held (Directory.Big dir) name load exec len address fits = refl

directory_held : (dir : Directory) (form : NameForm) (name : List ℕ) (address : ℕ) → CanAddress dir address → CanHold dir (directory_entry form name address)
directory_held (Directory.Small dir) form name address fits = record { address = fits; attrs = low_attrs dir.form 8 (omega arith); last = last_none dir.form }
directory_held (Directory.Big dir) form name address fits = refl

saved_held : (dir : Directory) (e : Entry) (load exec len address : ℕ) → CanHold dir e → CanAddress dir address → CanHold dir (saved_entry e load exec len address)
saved_held (Directory.Small dir) e load exec len address held fits = record { address = fits; attrs = held.attrs; last = held.last }
saved_held (Directory.Big dir) e load exec len address held fits = held

set_held : (dir : Directory) (e : Entry) (load exec access : ℕ) → CanHold dir e → access < 8 → CanHold dir (set_entry e load exec access)
set_held (Directory.Small dir) e load exec access held few = record { address = held.address; attrs = set_attrs dir.form e.attrs access held.attrs few; last = held.last }
set_held (Directory.Big dir) e load exec access held few = held

renamed_held : (dir : Directory) (e : Entry) (name : List ℕ) (address : ℕ) → CanHold dir e → CanAddress dir address → CanHold dir (renamed_entry e name address)
renamed_held (Directory.Small dir) e name address held fits = record { address = fits; attrs = held.attrs; last = held.last }
renamed_held (Directory.Big dir) e name address held fits = held

regrown_held : (dir : Directory) (e : Entry) (address len : ℕ) → CanHold dir e → CanAddress dir address → CanHold dir (regrown e address len)
regrown_held (Directory.Small dir) e address len held fits = record { address = fits; attrs = held.attrs; last = held.last }
regrown_held (Directory.Big dir) e address len held fits = held

pub entry_law : EntryLaw
entry_law = record {
  new_file = λ form o name load exec len address is. fresh form o (ap (λ (e : Entry). e.last) is);
  new_directory = λ form o name address is. fresh form o (ap (λ (e : Entry). e.last) is);
  saved = λ form old o load exec len address none is. file form old o (ap (λ (e : Entry). e.last) is) (ap (λ (e : Entry). is_directory e.attrs) is ∙ none);
  set = λ form old o load exec access is. kept form false old o (ap (λ (e : Entry). e.last) is) (ap (λ (e : Entry). e.len) is);
  marked = λ form old o attrs is. kept form false old o (ap (λ (e : Entry). e.last) is) (ap (λ (e : Entry). e.len) is);
  renamed = λ form moved old o name address is. kept form moved old o (ap (λ (e : Entry). e.last) is) (ap (λ (e : Entry). e.len) is);
  file_held = file_held;
  directory_held = directory_held;
  saved_held = saved_held;
  set_held = set_held;
  renamed_held = renamed_held;
  regrown_held = regrown_held;
}
