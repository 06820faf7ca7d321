-- The entries that commands make.
use Rattle.std.specs.Prelude.{ℕ, ◌+◌, ◌*◌, ◌/◌, ◌%◌, List}
use Rattle.fc_names.specs.declared.name.NameForm.{NameForm}
use Rattle.fc_dirs.specs.declared.Entry.{Entry}
use Rattle.fc_image.specs.effects.Short.{new_dir_size}

-- a new file, which may be read and written
abbrev pub file_entry : List ℕ → (load exec len address : ℕ) → Entry
file_entry name load exec len address = record { name = name; load = load; exec = exec; len = len; address = address; attrs = 3; last = 0 }

-- a new directory
abbrev pub directory_entry : NameForm → List ℕ → ℕ → Entry
directory_entry form name address = record { name = name; load = 0; exec = 0; len = new_dir_size form; address = address; attrs = 8; last = 0 }

-- a file that is saved over: it keeps its name, its attributes and its last byte
abbrev pub saved_entry : Entry → (load exec len address : ℕ) → Entry
saved_entry e load exec len address = record e { load = load; exec = exec; len = len; address = address }

-- other words, and bits 0 to 2 of the attributes
abbrev pub set_entry : Entry → (load exec access : ℕ) → Entry
set_entry e load exec access = record e { attrs = e.attrs / 8 * 8 + access; load = load; exec = exec }

-- other attributes, but for bit 3
abbrev pub marked_entry : Entry → ℕ → Entry
marked_entry e attrs = record e { attrs = attrs / 16 * 16 + 8 * (e.attrs / 8 % 2) + attrs % 8 }

-- another name, and the address of a copy if the object is copied
abbrev pub renamed_entry : Entry → List ℕ → ℕ → Entry
renamed_entry e name address = record e { name = name; address = address }

-- a grown directory, at its address and of its length
abbrev pub regrown : Entry → (address len : ℕ) → Entry
regrown e address len = record e { address = address; len = len }
