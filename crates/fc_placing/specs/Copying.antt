-- Whether a rename copies a file, by the owners alone, and what it wants of space.
use Rattle.std.specs.Prelude.{◌≡◌, ◌<◌, ℕ, Bool, true, false, not, ◌==◌, ◌&&◌, ◌||◌, List, None, Contains}
use Rattle.std.specs.List.{find}
use Rattle.std.specs.Option.{option_map_or}
use Rattle.fc_names.specs.Names.{Path, is_same_path}
use Rattle.fc_alloc.specs.declared.owner.Owner.{Owner}
use Rattle.fc_alloc.specs.Owners.{is_node}
use Rattle.fc_newmap.specs.Map.{Map}
use Rattle.fc_model.specs.Command.{Command}
use Rattle.fc_image.specs.Layout.{Layout}
use Rattle.fc_image.specs.Walk.{Object}
use Rattle.fc_image.specs.Objects.{objects_of}
use Rattle.fc_image.specs.Opening.{Opened}
use Rattle.fc_image.specs.Edits.{IsAt}
use Rattle.fc_image.specs.Sound.{AreSound}
use Rattle.fc_image.specs.effects.Short.{is_copied, new_length, short}
use Rattle.fc_placing.specs.Leaving.{has_other}
use Rattle.fc_placing.specs.Places.{FitsDirectory, WantsOwnSpace}

-- the owner is a file of another directory, and shares its identifier
abbrev pub copied_of : List Owner → ℕ → ℕ → Owner → Bool
copied_of owners node dir own = own.file && not (own.dir == dir) && ((own.id == 2) || has_other owners node own.id)

-- so it is with the node's owner
abbrev pub copied_among : List Owner → ℕ → ℕ → Bool
copied_among owners node dir = option_map_or (copied_of owners node dir) (find (is_node node) owners) false

-- What a rename wants of space, if no directory grows.
pub record CopiesLaw : Type 0 where
  -- A file that is copied has some bytes, and wants as many of its own,
  pub some : (v : Opened) (m : Map) (from to : Path) (o : Object) → IsAt (Layout.New m) o → is_copied v from to o ≡ true → 0 < o.entry.len
  pub wants : (v : Opened) (m : Map) (from to : Path) (o : Object) → AreSound (Layout.New m) v.listings → Contains (objects_of v.listings) o → is_same_path from o.path ≡ true
      → is_copied v from to o ≡ true → WantsOwnSpace v (Command.Rename from to) o.entry.len
  -- and what isn't copied wants none.
  pub wants_none : (v : Opened) (m : Map) (from to : Path) (o : Object) → AreSound (Layout.New m) v.listings → Contains (objects_of v.listings) o → is_same_path from o.path ≡ true
      → is_copied v from to o ≡ false → new_length v (Command.Rename from to) ≡ 0
  -- No command that wants none is refused for want of it.
  pub unrefused : (v : Opened) (m : Map) (c : Command) → v.layout ≡ Layout.New m → new_length v c ≡ 0 → FitsDirectory v c → short v c ≡ None
