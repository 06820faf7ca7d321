-- The tree after an edit, key by key.
use Rattle.std.specs.Prelude.{◌≡◌, ℕ, List, [], ◌∷◌, ◌++◌, map, Ok, IsPermutation}
use Rattle.std.specs.Option.{option_map}
use Rattle.std.specs.FinMap.{insert, remove, from_entries}
use Rattle.fc_names.specs.Names.{Path, folded_path}
use Rattle.fc_model.specs.Tree.{Node, Tree, node_at}
use Rattle.fc_model.specs.Answer.{moved_entry, with_moved}
use Rattle.fc_record.specs.declared.Kind.{Kind}
use Rattle.fc_image.specs.Layout.{Layout}
use Rattle.fc_image.specs.Walk.{Object, Listing, reader_of, walk}
use Rattle.fc_image.specs.Objects.{objects_of, object_at, node_of, tree_entry, tree_of}
use Rattle.fc_image.specs.Opening.{Opened}
use Rattle.fc_image.specs.Stays.{OpensAs}
use Rattle.fc_image.specs.Sound.{AreSound}

-- the entries that objects make in the tree
abbrev pub tree_entries : List ℕ → Layout → List Object → List (Path × Node)
tree_entries image layout objects = map (tree_entry image layout) objects

-- the tree after keys are taken out
abbrev pub without_all : Tree → List Path → Tree
without_all t [] = t
without_all t (key ∷ keys) = without_all (remove t key) keys

-- the tree after nodes are put in at their keys
abbrev pub with_all : Tree → List (Path × Node) → Tree
with_all t [] = t
with_all t (e ∷ es) = insert (with_all t es) e.0 e.1

-- From one image to the other some objects are gone and some are new. Every other object has the same key and node in both.
pub record IsObjectEdit (image image' : List ℕ) (layout layout' : Layout) (listings listings' : List Listing) (gone come : List Object) : Type 0 where
  pub before : AreSound layout listings
  pub after : AreSound layout' listings'
  pub kept : List Object
  pub kept' : List Object
  pub had : IsPermutation (objects_of listings) (gone ++ kept)
  pub has : IsPermutation (objects_of listings') (come ++ kept')
  pub same : tree_entries image' layout' kept' ≡ tree_entries image layout kept

-- From one image to the other everything at or below one path stands at or below another path, and nothing else changes.
pub record IsMove (image image' : List ℕ) (layout layout' : Layout) (listings listings' : List Listing) (from to : Path) : Type 0 where
  pub before : AreSound layout listings
  pub after : AreSound layout' listings'
  pub moved : IsPermutation (map (moved_entry from to) (tree_entries image layout (objects_of listings))) (tree_entries image' layout' (objects_of listings'))

-- how the tree follows from the objects of a walk
pub record TreeEditLaw : Type 0 where
  -- An opened image has sound listings, and so has each walk over an image.
  pub opened : (image : List ℕ) (kind : Kind) (v : Opened) → OpensAs image kind v → AreSound v.layout v.listings
  pub walked : (image : List ℕ) (layout : Layout) (reserved : List ℕ) (address size : ℕ) (listings : List Listing)
      → walk (reader_of image layout) layout reserved address size ≡ Ok listings → AreSound layout listings
  -- the objects may be taken in any order
  pub any_order : (image : List ℕ) (layout : Layout) (listings : List Listing) (objects : List Object) → AreSound layout listings
      → IsPermutation (objects_of listings) objects → tree_of image layout listings ≡ from_entries (tree_entries image layout objects)
  -- at a path the tree has the node of the object there
  pub node : (image : List ℕ) (layout : Layout) (listings : List Listing) (path : Path)
      → node_at (tree_of image layout listings) path ≡ option_map (node_of image layout) (object_at listings path)
  -- the tree after objects go and come
  pub edit : (image image' : List ℕ) (layout layout' : Layout) (listings listings' : List Listing) (gone come : List Object)
      → IsObjectEdit image image' layout layout' listings listings' gone come
      → tree_of image' layout' listings' ≡ with_all (without_all (tree_of image layout listings) (map (λ o. folded_path o.path) gone)) (tree_entries image' layout' come)
  -- the tree after objects move
  pub move : (image image' : List ℕ) (layout layout' : Layout) (listings listings' : List Listing) (from to : Path)
      → IsMove image image' layout layout' listings listings' from to
      → tree_of image' layout' listings' ≡ with_moved (tree_of image layout listings) from to
