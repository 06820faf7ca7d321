-- A directory that gets a name: whether there is room, and how large it becomes.
use Rattle.std.specs.Prelude.{◌≡◌, ℕ, not, true, false, List, [], ◌∷◌, ◌++◌, filter, Some, None, if◌then◌else◌, nat_lt}
use Rattle.std.specs.Option.{option_map_or}
use Rattle.fc_names.specs.Names.{is_same_name}
use Rattle.fc_dirs.specs.Small.{SmallDir, is_full_small}
use Rattle.fc_dirs.specs.Big.{size_limit}
use Rattle.fc_dirs.specs.Directory.{Directory}
use Rattle.fc_image.specs.Walk.{Object}
use Rattle.fc_image.specs.effects.Short.{Gain, growth_with, is_full_with}
use Rattle.fc_drafts.specs.declared.room.Room.{Room}
use Rattle.fc_drafts.specs.declared.room.Room.TheVariants as rooms
use Rattle.fc_drafts.specs.Draft.{names_of, size_of}

-- The gain is that of a directory of this content which gets this name more.
pub record GetsName (dir : Directory) (name : List ℕ) (gain : Gain) : Type 0 where
  pub name_is : gain.name ≡ name
  pub names_are : gain.names ≡ names_of dir ++ name ∷ []

-- It gets this name in place of the one that folds to another.
pub record GetsNameFor (dir : Directory) (old name : List ℕ) (gain : Gain) : Type 0 where
  pub name_is : gain.name ≡ name
  pub names_are : gain.names ≡ filter (λ n. not (is_same_name n old)) (names_of dir) ++ name ∷ []

-- the room of a directory of so many bytes that needs so many
abbrev pub room_of_size : ℕ → ℕ → Room
room_of_size size needed = if nat_lt size_limit needed then rooms.Full else if nat_lt size needed then rooms.Grows needed else rooms.Fits

-- the room of a small directory for one entry more
abbrev pub small_room : SmallDir → Room
small_room dir = if is_full_small dir then rooms.Full else rooms.Fits

-- The directory has this room for the gain.
abbrev pub HasRoom : Directory → Gain → Room → Type 0
HasRoom dir gain rooms.Full = is_full_with dir gain ≡ true
HasRoom dir gain (rooms.Grows size) = (is_full_with dir gain ≡ false) × ((o : Object) → growth_with o dir gain ≡ Some (o, size))
HasRoom dir gain rooms.Fits = (is_full_with dir gain ≡ false) × ((o : Object) → growth_with o dir gain ≡ None)

-- The directory has the size that the gain makes it grow to, or else its own.
abbrev pub HasSizeAfter : Directory → Gain → Directory → Type 0
HasSizeAfter old gain new = (o : Object) → size_of new ≡ option_map_or (λ growth. growth.1) (growth_with o old gain) (size_of old)
