-- What a rewriting of a directory is, whichever command makes it.
use Rattle.std.specs.Prelude.{◌≡◌, ℕ, ◌++◌, ◌∷◌, [], true, false, List, Some, slice_get, map, IsTrue}
use Rattle.fc_names.specs.Names.{Path, is_same_name, is_same_path}
use Rattle.fc_dirs.specs.declared.Entry.{Entry}
use Rattle.fc_dirs.specs.Directory.{Directory, entries_of}
use Rattle.fc_model.specs.Tree.{last_name}
use Rattle.fc_model.specs.Command.{Command}
use Rattle.fc_image.specs.Walk.{Object}
use Rattle.fc_image.specs.effects.Short.{Gain, is_full_with, growth_with}
use Rattle.fc_image.specs.effects.Steady.{IsRewritten, is_renamed_by, regrown_entry, with_made, without_name}
use Rattle.fc_drafts.specs.Draft.{CanHold, names_of, size_of, with_changed, with_head, with_less, with_name, with_new, with_renamed}
use Rattle.fc_drafts.specs.Gains.{GetsName, GetsNameFor, HasSizeAfter}

-- It is a rewriting by each command that doesn't rename the directory itself.
abbrev pub IsRewrittenFor : ℕ → Directory → Directory → Type 0
IsRewrittenFor parent old new = (c : Command) (path : Path) → is_renamed_by c path ≡ false → IsRewritten c path parent old new

-- It is a rewriting by each command that gives the directory this name.
abbrev pub IsRewrittenAs : List ℕ → ℕ → Directory → Directory → Type 0
IsRewrittenAs name parent old new = (from to path : Path) → is_renamed_by (Command.Rename from to) path ≡ true → last_name to ≡ name
    → IsRewritten (Command.Rename from to) path parent old new

-- The entry of that number is this.
abbrev pub IsAt : List Entry → ℕ → Entry → Type 0
IsAt entries at e = slice_get entries at ≡ Some e

-- ---- rewritings

-- A new entry has come.
pub record HasEntered (parent : ℕ) (e : Entry) (old new : Directory) : Type 0 where
  pub is : new ≡ with_head parent (with_new e old)
  pub rewritten : IsRewrittenFor parent old new
  pub entries : entries_of new ≡ with_made (Some e) (entries_of old)
  pub size : (gain : Gain) → GetsName old e.name gain → HasSizeAfter old gain new

-- An entry of the same name stands in the place of one that was there.
pub record HasReplaced (parent at : ℕ) (e : Entry) (old new : Directory) : Type 0 where
  pub is : new ≡ with_head parent (with_changed at e old)
  pub rewritten : IsRewrittenFor parent old new
  pub entries : entries_of new ≡ with_made (Some e) (entries_of old)
  pub size : size_of new ≡ size_of old

-- The entry of a number has gone: that is the one of its name.
pub record HasLeft (parent at : ℕ) (old new : Directory) : Type 0 where
  pub is : new ≡ with_head parent (with_less at old)
  pub rewritten : IsRewrittenFor parent old new
  pub entries : (was : Entry) (name : List ℕ) → IsAt (entries_of old) at was → IsTrue (is_same_name was.name name)
      → entries_of new ≡ without_name name (entries_of old)
  pub size : size_of new ≡ size_of old

-- The entry of a number has another name: it has gone, and the new one stands where a new one stands. With a name that is spelled
-- as before the directory keeps its size.
pub record HasRenamed (parent at : ℕ) (e : Entry) (old new : Directory) : Type 0 where
  pub is : new ≡ with_head parent (with_renamed at e old)
  pub rewritten : IsRewrittenFor parent old new
  pub entries : (was : Entry) (name : List ℕ) → IsAt (entries_of old) at was → IsTrue (is_same_name was.name name)
      → entries_of new ≡ with_made (Some e) (without_name name (entries_of old))
  pub kept : (was : Entry) → IsAt (entries_of old) at was → was.name ≡ e.name → size_of new ≡ size_of old
  pub size : (was : Entry) (gain : Gain) → IsAt (entries_of old) at was → (was.name ≡ e.name → ⊥) → GetsNameFor old was.name e.name gain
      → HasSizeAfter old gain new

-- The directory itself has been renamed, or moved: its entries stay. A big head keeps its name if it has no space for the new one.
pub record HasMoved (parent : ℕ) (name : List ℕ) (old new : Directory) : Type 0 where
  pub is : new ≡ with_head parent (with_name name old)
  pub rewritten : IsRewrittenAs name parent old new
  pub entries : entries_of new ≡ entries_of old
  pub size : size_of new ≡ size_of old

-- The directory that holds it has got another address.
pub record HasNewHolder (parent : ℕ) (old new : Directory) : Type 0 where
  pub is : new ≡ with_head parent old
  pub rewritten : IsRewrittenFor parent old new
  pub entries : entries_of new ≡ entries_of old
  pub size : size_of new ≡ size_of old

-- An entry has been changed before a rewriting: what is a rewriting of the new directory is one of the old, and there is the same
-- room as before. If the entry is that of a grown directory, and gets its address and length, all entries are as after growth.
pub record HasAmended (at : ℕ) (e : Entry) (old new : Directory) : Type 0 where
  pub is : new ≡ with_changed at e old
  pub carries : (c : Command) (path : Path) (parent : ℕ) (later : Directory) → IsRewritten c path parent new later → IsRewritten c path parent old later
  pub names : names_of new ≡ names_of old
  pub size : size_of new ≡ size_of old
  pub held : (d : Entry) → CanHold old d → CanHold new d
  pub full : (gain : Gain) → is_full_with new gain ≡ is_full_with old gain
  pub growth : (o : Object) (gain : Gain) → growth_with o new gain ≡ growth_with o old gain
  pub regrown : (dir : Path) (was : Entry) (o : Object) → IsAt (entries_of old) at was → IsTrue (is_same_path (dir ++ was.name ∷ []) o.path)
      → e ≡ record was { address = o.entry.address; len = o.entry.len } → entries_of new ≡ map (regrown_entry dir (Some o)) (entries_of old)
