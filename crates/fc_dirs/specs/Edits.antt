-- Entries edited by name, and by number.
use Rattle.std.specs.Prelude.{◌≡◌, ℕ, not, List, map, slice_get, slice_set, if◌then◌else◌, Some, None, IsTrue}
use Rattle.std.specs.List.{filter}
use Rattle.fc_names.specs.Names.{is_same_name}
use Rattle.fc_dirs.specs.declared.Entry.{Entry}
use Rattle.fc_dirs.specs.Entries.{first_twin, has_name, without_entry}

-- the new entry in the place of the one of its name, and any other as it is
abbrev pub replaced_entry : Entry → Entry → Entry
replaced_entry new e = if is_same_name e.name new.name then new else e

-- the entries without that of this name
abbrev pub without_name : List ℕ → List Entry → List Entry
without_name name entries = filter (λ e. not (is_same_name e.name name)) entries

-- If no two names fold to one, the entry of a number is the only one of its name: an edit by its number is one by its name.
pub record EditLaw : Type 0 where
  pub there : (entries : List Entry) (at : ℕ) (e : Entry) (name : List ℕ) → slice_get entries at ≡ Some e → IsTrue (is_same_name e.name name)
      → IsTrue (has_name entries name)
  pub changed : (entries : List Entry) (at : ℕ) (e new : Entry) → first_twin entries ≡ None → slice_get entries at ≡ Some e
      → IsTrue (is_same_name e.name new.name) → slice_set entries at new ≡ map (replaced_entry new) entries
  pub removed : (entries : List Entry) (at : ℕ) (e : Entry) (name : List ℕ) → first_twin entries ≡ None → slice_get entries at ≡ Some e
      → IsTrue (is_same_name e.name name) → without_entry at entries ≡ without_name name entries
