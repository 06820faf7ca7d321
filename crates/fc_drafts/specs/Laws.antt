-- Which edit of a directory's entries each command is, and what holds of the entries that commands make.
use Rattle.std.specs.Prelude.{◌≡◌, ◌<◌, ℕ, Bool, true, false, List, Option, Some, None, IsFalse, IsTrue}
use Rattle.fc_names.specs.declared.name.NameForm.{NameForm}
use Rattle.fc_names.specs.Names.{Path, is_same_name, is_same_path}
use Rattle.fc_dirs.specs.declared.Entry.{Entry}
use Rattle.fc_model.specs.Tree.{holder, last_name}
use Rattle.fc_model.specs.Command.{Command}
use Rattle.fc_dirs.specs.Entries.{has_name, without_entry}
use Rattle.fc_dirs.specs.Directory.{Directory, entries_of}
use Rattle.fc_image.specs.Walk.{Object, is_directory_object}
use Rattle.fc_image.specs.effects.Steady.{EntrySteady, edited, with_made, without_name}
use Rattle.fc_drafts.specs.Draft.{CanAddress, CanHold, IsSayable}
use Rattle.fc_drafts.specs.Entries.{directory_entry, file_entry, marked_entry, regrown, renamed_entry, saved_entry, set_entry}
use Rattle.fc_drafts.specs.Rewriting.{IsAt}

-- the path at which a command makes or changes an object, without taking one from elsewhere
abbrev pub MakesAt : Command → Path → Type 0
MakesAt (Command.Save path load exec bytes) p = path ≡ p
MakesAt (Command.Create path load exec len) p = path ≡ p
MakesAt (Command.Cdir path) p = path ≡ p
MakesAt (Command.Set path load exec access) p = path ≡ p
MakesAt (Command.Mark path attrs) p = path ≡ p
MakesAt _ p = ⊥

-- The entries of a directory after a command: with the object's entry, without it, with both, or as they were.
pub record EditedLaw : Type 0 where
  pub made : (c : Command) (path dir : Path) (made : Option Entry) (entries : List Entry) → MakesAt c path → is_same_path (holder path) dir ≡ true
      → edited c dir made entries ≡ with_made made entries
  pub beside : (c : Command) (path dir : Path) (made : Option Entry) (entries : List Entry) → MakesAt c path → is_same_path (holder path) dir ≡ false
      → edited c dir made entries ≡ entries
  pub gone : (path dir : Path) (made : Option Entry) (entries : List Entry) → is_same_path (holder path) dir ≡ true
      → edited (Command.Delete path) dir made entries ≡ without_name (last_name path) entries
  pub stayed : (path dir : Path) (made : Option Entry) (entries : List Entry) → is_same_path (holder path) dir ≡ false
      → edited (Command.Delete path) dir made entries ≡ entries
  pub renamed : (from to dir : Path) (made : Option Entry) (entries : List Entry) → is_same_path (holder from) dir ≡ true → is_same_path (holder to) dir ≡ true
      → edited (Command.Rename from to) dir made entries ≡ with_made made (without_name (last_name from) entries)
  pub moved_out : (from to dir : Path) (made : Option Entry) (entries : List Entry) → is_same_path (holder from) dir ≡ true → is_same_path (holder to) dir ≡ false
      → edited (Command.Rename from to) dir made entries ≡ without_name (last_name from) entries
  pub moved_in : (from to dir : Path) (made : Option Entry) (entries : List Entry) → is_same_path (holder from) dir ≡ false → is_same_path (holder to) dir ≡ true
      → edited (Command.Rename from to) dir made entries ≡ with_made made entries
  pub elsewhere : (from to dir : Path) (made : Option Entry) (entries : List Entry) → is_same_path (holder from) dir ≡ false → is_same_path (holder to) dir ≡ false
      → edited (Command.Rename from to) dir made entries ≡ entries

-- The entries of new and changed objects: what the tree doesn't show of them is as a command has to leave it (the last byte, and a
-- directory's length), and a directory that can hold an entry and an address can hold what is made of both.
pub record EntryLaw : Type 0 where
  pub new_file : (form : NameForm) (o : Object) (name : List ℕ) (load exec len address : ℕ) → o.entry ≡ file_entry name load exec len address
      → EntrySteady form false None o
  pub new_directory : (form : NameForm) (o : Object) (name : List ℕ) (address : ℕ) → o.entry ≡ directory_entry form name address
      → EntrySteady form false None o
  pub saved : (form : NameForm) (old o : Object) (load exec len address : ℕ) → is_directory_object old ≡ false → o.entry ≡ saved_entry old.entry load exec len address
      → EntrySteady form false (Some old) o
  pub set : (form : NameForm) (old o : Object) (load exec access : ℕ) → o.entry ≡ set_entry old.entry load exec access → EntrySteady form false (Some old) o
  pub marked : (form : NameForm) (old o : Object) (attrs : ℕ) → o.entry ≡ marked_entry old.entry attrs → EntrySteady form false (Some old) o
  pub renamed : (form : NameForm) (moved : Bool) (old o : Object) (name : List ℕ) (address : ℕ) → o.entry ≡ renamed_entry old.entry name address
      → EntrySteady form moved (Some old) o
  pub file_held : (dir : Directory) (name : List ℕ) (load exec len address : ℕ) → CanAddress dir address → CanHold dir (file_entry name load exec len address)
  pub directory_held : (dir : Directory) (form : NameForm) (name : List ℕ) (address : ℕ) → CanAddress dir address → CanHold dir (directory_entry form name address)
  pub saved_held : (dir : Directory) (e : Entry) (load exec len address : ℕ) → CanHold dir e → CanAddress dir address → CanHold dir (saved_entry e load exec len address)
  pub set_held : (dir : Directory) (e : Entry) (load exec access : ℕ) → CanHold dir e → access < 8 → CanHold dir (set_entry e load exec access)
  -- an entry that is moved to another directory of the disc's form comes with its numbers
  pub renamed_held : (dir : Directory) (e : Entry) (name : List ℕ) (address : ℕ) → CanHold dir e → CanAddress dir address → CanHold dir (renamed_entry e name address)
  pub regrown_held : (dir : Directory) (e : Entry) (address len : ℕ) → CanHold dir e → CanAddress dir address → CanHold dir (regrown e address len)

-- The entry of a number may get a name if no other entry has it: so it is if none at all has it, or this entry.
pub record FreeNameLaw : Type 0 where
  pub new : (dir : Directory) (at : ℕ) (name : List ℕ) → IsFalse (has_name (entries_of dir) name) → IsFalse (has_name (without_entry at (entries_of dir)) name)
  pub own : (dir : Directory) (at : ℕ) (was : Entry) (name : List ℕ) → IsSayable dir → IsAt (entries_of dir) at was → IsTrue (is_same_name was.name name)
      → IsFalse (has_name (without_entry at (entries_of dir)) name)
