-- Where the objects of a disc with an old map lie after they have slid down, and what its directories say then.
use Rattle.std.specs.Prelude.{◌≡◌, ℕ, ◌/◌, ◌*◌, ◌==◌, true, Bool, List, [], ◌∷◌, length, map, if◌then◌else◌, Contains}
use Rattle.std.specs.List.{range_with_len}
use Rattle.fc_names.specs.declared.name.NameForm.{NameForm}
use Rattle.fc_oldmap.specs.declared.Hole.{Hole}
use Rattle.fc_oldmap.specs.Holes.{AreHoles}
use Rattle.fc_oldmap.specs.OldMap.{OldMapContent, IsOldMap, map_units}
use Rattle.fc_dirs.specs.declared.Entry.{Entry}
use Rattle.fc_dirs.specs.Directory.{Directory}
use Rattle.fc_dirs.specs.Small.{SmallDir, next_sequence}
use Rattle.fc_image.specs.Layout.{Layout, dir_form}
use Rattle.fc_image.specs.Walk.{Listing, Object, object_size}
use Rattle.fc_image.specs.Objects.{has_sectors}
use Rattle.fc_image.specs.Report.{holder_address}
use Rattle.fc_image.specs.declared.effects.Owned.{Owned}
use Rattle.fc_image.specs.effects.Moves.{Squashed}
use Rattle.fc_image.specs.effects.Settled.{has_same_places}
use Rattle.fc_squash.specs.Squashing.{AreBodies, KeepsBodies}
use Rattle.fc_changes.specs.old.Owed.{holding}

-- ---- addresses

-- where an object that began at an address begins afterwards, by all objects that slide, before and after
unfoldable pub start_after : List Owned → List Owned → ℕ → ℕ
start_after [] now address = address
start_after (o ∷ was) [] address = address
start_after (o ∷ was) (p ∷ now) address = if o.start == address then p.start else start_after was now address

-- the address in an entry afterwards; a file of no bytes keeps its own, whatever it is
abbrev pub address_after : NameForm → (ℕ → ℕ) → Entry → ℕ
address_after form move e = if object_size form e == 0 then e.address else move e.address

abbrev pub entry_after : NameForm → (ℕ → ℕ) → Entry → Entry
entry_after form move e = record e { address = address_after form move e }

-- ---- directories

-- the parent field afterwards, if the holder had this address: its new address if the holder moved
abbrev pub parent_after : (ℕ → ℕ) → ℕ → ℕ → ℕ
parent_after move holder parent = if holder == move holder then parent else move holder

-- the entries and the parent field afterwards
abbrev pub readdressed : NameForm → (ℕ → ℕ) → ℕ → SmallDir → SmallDir
readdressed form move holder dir = record dir { parent = parent_after move holder dir.parent; entries = map (entry_after form move) dir.entries }

-- the sequence byte afterwards: it grows if the directory is rewritten
abbrev pub sequence_after : SmallDir → SmallDir → ℕ
sequence_after old new = if has_same_places old new then old.sequence else next_sequence old.sequence

-- what a small directory says afterwards
abbrev pub dir_after : NameForm → (ℕ → ℕ) → ℕ → SmallDir → SmallDir
dir_after form move holder dir = record (readdressed form move holder dir) { sequence = sequence_after dir (readdressed form move holder dir) }

-- what a directory says afterwards; on old maps there are no big ones
abbrev pub content_after : NameForm → (ℕ → ℕ) → ℕ → Directory → Directory
content_after form move holder (Directory.Small dir) = Directory.Small (dir_after form move holder dir)
content_after form move holder (Directory.Big dir) = Directory.Big (record dir { entries = map (entry_after form move) dir.entries })

-- Nothing changes in the directory, so that it isn't rewritten.
abbrev pub is_steady : NameForm → (ℕ → ℕ) → ℕ → Directory → Bool
is_steady form move holder (Directory.Small dir) = has_same_places dir (readdressed form move holder dir)
is_steady form move holder (Directory.Big dir) = true

-- ---- objects

-- The objects of a disc slide down: its map before and its holes afterwards, and the objects with their places before and after.
pub record Slide : Type 0 where
  pub space : OldMapContent
  pub holes : List Hole
  pub was : List Owned
  pub now : List Owned

-- its map afterwards
abbrev pub space_after : Slide → OldMapContent
space_after s = holding s.space s.holes

abbrev pub move_of : Slide → ℕ → ℕ
move_of s = start_after s.was s.now

abbrev pub form_of : Slide → NameForm
form_of s = dir_form (Layout.Old s.space)

-- an object afterwards: its entry has its new address, and its sectors follow from there
abbrev pub object_after : Slide → Object → Object
object_after s o = record {
  path = o.path;
  entry = entry_after (form_of s) (move_of s) o.entry;
  sectors = range_with_len (address_after (form_of s) (move_of s) o.entry / s.space.sector_units) (length o.sectors);
}

-- a directory afterwards, with what it holds
abbrev pub listing_after : Slide → List Listing → Listing → Listing
listing_after s listings l = record {
  object = object_after s l.object;
  content = content_after (form_of s) (move_of s) (holder_address listings l.object.path) l.content;
  children = map (object_after s) l.children;
}

abbrev pub listings_after : Slide → List Listing → List Listing
listings_after s listings = map (listing_after s listings) listings

-- ---- which objects slide

-- The object has these units.
pub record IsOwnedAs (space : OldMapContent) (o : Object) (p : Owned) : Type 0 where
  pub begins : p.start ≡ o.entry.address
  pub long : p.len ≡ length o.sectors * space.sector_units

-- All objects with sectors but the root, and nothing else.
pub record AreOwned (space : OldMapContent) (objects : List Object) (owned : List Owned) : Type 0 where
  pub each : (o : Object) → Contains objects o → has_sectors o ≡ true → (length o.path ≡ 0 → ⊥) → (p : Owned) × Contains owned p × IsOwnedAs space o p
  pub only : (p : Owned) → Contains owned p → (o : Object) × Contains objects o × (has_sectors o ≡ true) × (length o.path ≡ 0 → ⊥) × IsOwnedAs space o p

-- The objects have slid down (fc_squash `squash`). The map is one, and its holes lie after it.
pub record IsSlide (s : Slide) (objects : List Object) : Type 0 where
  pub is_map : IsOldMap s.space
  pub holes : AreHoles s.space.disc_units s.space.sector_units (map_units s.space.sector_units) s.space.holes
  pub owned : AreOwned s.space objects s.was
  pub bodies : AreBodies s.space s.was
  pub squashed : Squashed s.space (space_after s) s.was s.now
  pub kept : KeepsBodies s.space (space_after s) s.was s.now
