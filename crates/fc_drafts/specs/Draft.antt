-- Drafts, seen as what they say, and what each edit makes of a directory.
use Rattle.std.specs.Prelude.{◌≡◌, ◌<◌, ◌≤◌, ◌^◌, ℕ, List, length, map, slice_set, IsTrue, false}
use Rattle.fc_names.specs.Names.{is_writable}
use Rattle.fc_dirs.specs.declared.Entry.{Entry}
use Rattle.fc_dirs.specs.declared.SmallForm.{SmallForm}
use Rattle.fc_dirs.specs.Entries.{without_entry}
use Rattle.fc_dirs.specs.Small.{IsSmall, attrs_limit, is_full_small, last_limit, next_sequence, tail_of, with_small_entry, with_small_name, with_small_renamed}
use Rattle.fc_dirs.specs.Big.{IsBig, is_spelled, size_limit, size_with, with_big_changed, with_big_entry, with_big_renamed, with_head_name, without_big_entry}
use Rattle.fc_dirs.specs.Directory.{Directory, entries_of}
use Rattle.fc_smalldir.specs.Fields.{names_of_form}
use Rattle.fc_drafts.specs.declared.draft.Draft.{Draft}
use Rattle.fc_drafts.specs.declared.draft.Draft.TheVariants as drafts

-- what a draft says
abbrev pub directory_in : Draft → Directory
directory_in (drafts.Small dir) = Directory.Small dir
directory_in (drafts.Big dir) = Directory.Big dir

-- Bytes can say the directory.
abbrev pub IsSayable : Directory → Type 0
IsSayable (Directory.Small dir) = IsSmall dir
IsSayable (Directory.Big dir) = IsBig dir

-- the bytes of a directory
abbrev pub size_of : Directory → ℕ
size_of (Directory.Small dir) = (tail_of dir.form).size
size_of (Directory.Big dir) = dir.size

-- its names
abbrev pub names_of : Directory → List (List ℕ)
names_of dir = map (λ e. e.name) (entries_of dir)

-- ---- what a directory can hold

-- the numbers of an entry that a place of a small form can hold
pub record NumbersFit (form : SmallForm) (e : Entry) : Type 0 where
  pub address : e.address < 2 ^ 24
  pub attrs : e.attrs < attrs_limit form
  pub last : e.last < last_limit form

-- The directory can hold an entry with these numbers.
abbrev pub CanHold : Directory → Entry → Type 0
CanHold (Directory.Small dir) e = NumbersFit dir.form e
CanHold (Directory.Big dir) e = e.last ≡ 0

-- The directory can hold a name that is written. A big one can hold any.
abbrev pub CanName : Directory → List ℕ → Type 0
CanName (Directory.Small dir) name = IsTrue (is_writable (names_of_form dir.form) name)
CanName (Directory.Big dir) name = Unit {0}

-- The fields of addresses, of the parent and of entries, can hold the number.
abbrev pub CanAddress : Directory → ℕ → Type 0
CanAddress (Directory.Small dir) address = address < 2 ^ 24
CanAddress (Directory.Big dir) address = Unit {0}

-- The field of the head's name can hold the name. A big head takes any, or keeps its own.
abbrev pub CanBeCalled : Directory → List ℕ → Type 0
CanBeCalled (Directory.Small dir) name = length name ≤ 10
CanBeCalled (Directory.Big dir) name = Unit {0}

-- ---- edits

-- the directory with its holder's address as parent, and the next sequence byte, as each rewriting has them
abbrev pub with_head : ℕ → Directory → Directory
with_head parent (Directory.Small dir) = Directory.Small (record dir { parent = parent; sequence = next_sequence dir.sequence })
with_head parent (Directory.Big dir) = Directory.Big (record dir { parent = parent; sequence = next_sequence dir.sequence })

-- with a new entry
abbrev pub with_new : Entry → Directory → Directory
with_new e (Directory.Small dir) = Directory.Small (with_small_entry e dir)
with_new e (Directory.Big dir) = Directory.Big (with_big_entry e dir)

-- without the entry of a number
abbrev pub with_less : ℕ → Directory → Directory
with_less at (Directory.Small dir) = Directory.Small (record dir { entries = without_entry at dir.entries })
with_less at (Directory.Big dir) = Directory.Big (without_big_entry at dir)

-- with another entry of the same name in the place of that of a number
abbrev pub with_changed : ℕ → Entry → Directory → Directory
with_changed at e (Directory.Small dir) = Directory.Small (record dir { entries = slice_set dir.entries at e })
with_changed at e (Directory.Big dir) = Directory.Big (with_big_changed at e dir)

-- with the entry of a number taken out, and another where a new one stands
abbrev pub with_renamed : ℕ → Entry → Directory → Directory
with_renamed at e (Directory.Small dir) = Directory.Small (with_small_renamed at e dir)
with_renamed at e (Directory.Big dir) = Directory.Big (with_big_renamed at e dir)

-- with another name in its head
abbrev pub with_name : List ℕ → Directory → Directory
with_name name (Directory.Small dir) = Directory.Small (with_small_name name dir)
with_name name (Directory.Big dir) = Directory.Big (with_head_name name dir)

-- A new entry finds no place.
abbrev pub IsFullFor : Entry → Directory → Type 0
IsFullFor e (Directory.Small dir) = IsTrue (is_full_small dir)
IsFullFor e (Directory.Big dir) = size_limit < size_with e dir

-- An entry in place of another finds none: only a big directory may be too small for its name, if that is spelled anew.
abbrev pub IsFullForRenamed : ℕ → Entry → Directory → Type 0
IsFullForRenamed at e (Directory.Small dir) = ⊥
IsFullForRenamed at e (Directory.Big dir) = (is_spelled at e dir ≡ false) × (size_limit < size_with e (without_big_entry at dir))
