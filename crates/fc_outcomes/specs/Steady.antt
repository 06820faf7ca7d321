-- The law `steady`: directories after an edit, as a command leaves them.
use Rattle.std.specs.Prelude.{◌≡◌, ℕ, true, List, ◌++◌, map, Contains, IsPermutation}
use Rattle.fc_names.specs.Names.{is_same_path}
use Rattle.fc_model.specs.Command.{Command}
use Rattle.fc_dirs.specs.Directory.{entries_of, parent_of}
use Rattle.fc_image.specs.Layout.{Layout}
use Rattle.fc_image.specs.Report.{holder_address}
use Rattle.fc_image.specs.Walk.{Listing}
use Rattle.fc_image.specs.Opening.{Opened}
use Rattle.fc_image.specs.Stays.{OpensAs}
use Rattle.fc_image.specs.Sound.{AreSound}
use Rattle.fc_image.specs.effects.Steady.{DirectoriesSteady, DirectorySteady, HasName, entries_after, gets_parent, is_gone, path_after}
use Rattle.fc_edits.specs.Edit.{Amended, Edit, listings_after, now}
use Rattle.fc_edits.specs.PartsEdit.{PartsEdit}
use Rattle.fc_outcomes.specs.Done.{view_before}
use Rattle.fc_outcomes.specs.Written.{IsEditWritten}

-- What the command asks of a directory that says what it said: no other entries, parent or name.
pub record AsksNothing (v w : Opened) (c : Command) (e : Edit) (k : Listing) : Type 0 where
  pub entries : entries_of k.content ≡ entries_after v w c k
  pub parent : gets_parent v c k.object.path ≡ true → parent_of k.content ≡ holder_address w.listings (e.turn k.object).path
  pub name : HasName c k.object.path k.content

-- What goes is deleted, and each other directory is where the command puts it, and says what it asks.
pub record AreAsked (image image' : List ℕ) (v w : Opened) (c : Command) (e : Edit) : Type 0 where
  pub out : (k : Listing) → Contains e.out k → is_gone c k.object.path ≡ true
  pub paths : (k : Listing) → Contains (map (λ (a : Amended). a.was) e.amended ++ e.same) k → is_same_path (path_after c k.object.path) (e.turn k.object).path ≡ true
  pub amended : (a : Amended) → Contains e.amended a → DirectorySteady image image' v w c a.was (now e a)
  pub same : (k : Listing) → Contains e.same k → AsksNothing v w c e k

pub record SteadyLaw : Type 0 where
  -- each directory is steady, for any edit and any layout
  pub directories : (x : PartsEdit) (found : List Listing) (image image' : List ℕ) (c : Command) → OpensAs image x.kind (view_before x)
      → IsEditWritten image image' x.layout x.layout' x.nodes x.listings x.edit → AreSound x.layout' found → IsPermutation (listings_after x.edit) found
      → AreAsked image image' (view_before x) (record { kind = x.kind; layout = x.layout'; listings = found }) c x.edit
      → DirectoriesSteady image image' (view_before x) (record { kind = x.kind; layout = x.layout'; listings = found }) c
  -- and the address of the directory that holds one, from the listings after the edit
  pub holder : (layout' : Layout) (found : List Listing) (e : Edit) (dir k : Listing) → AreSound layout' found → IsPermutation (listings_after e) found
      → Contains (listings_after e) dir → Contains dir.children k.object → holder_address found k.object.path ≡ dir.object.entry.address
