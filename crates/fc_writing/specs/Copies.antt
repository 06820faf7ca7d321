-- What is known of the copies of a map, and what making them equal leaves.
use Rattle.std.specs.Prelude.{◌≡◌, ℕ, List, Ok}
use Rattle.fc_newmap.specs.Map.{Map}
use Rattle.fc_newmap.specs.declared.copies.Which.{Which}
use Rattle.fc_newmap.specs.Copies.{ChangesCopies, Chooses, HoldsCopies, chosen, copy_of}
use Rattle.fc_writing.specs.declared.copies.Copies.{Copies}
use Rattle.fc_writing.specs.declared.copies.Copies.TheVariants.{Equal, Chosen}

-- The copy that counts is this one, and has the map's zones.
pub record CountsAs (m : Map) (which : Which) (image : List ℕ) : Type 0 where
  pub counts : chosen m.geometry image ≡ Ok which
  pub content : copy_of m.geometry which image ≡ m.zones

-- What is known of the copies is so in this image.
abbrev pub HasCopies : Copies → Map → List ℕ → Type 0
HasCopies Equal m image = HoldsCopies m.geometry m.zones image
HasCopies (Chosen which) m image = CountsAs m which image

-- Of an image before, only the copies of the map have changed, and the one that counts still has the map's zones.
pub record KeepsMap (m : Map) (was image : List ℕ) : Type 0 where
  pub frame : ChangesCopies m.geometry was image
  pub content : Chooses m.geometry m.zones image
