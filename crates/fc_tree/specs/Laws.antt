-- Laws of the nodes that stand for a walk's objects.
use Rattle.std.specs.Prelude.{◌≡◌, ℕ, true, List, ◌∷◌, [], map, option_map, Some, Result, Ok, Err, Contains, IsPermutation}
use Rattle.std.specs.Ordering.{nat_cmp, is_le}
use Rattle.std.specs.FinMap.{FinMap, get}
use Rattle.fc_names.specs.declared.refusal.Refusal.{Refusal}
use Rattle.fc_names.specs.declared.refusal.Refusal.TheVariants as refusals
use Rattle.fc_names.specs.Names.{Path, is_same_path, name_cmp}
use Rattle.fc_model.specs.Tree.{Node as ModelNode, node_at, children}
use Rattle.fc_model.specs.Answer.{found}
use Rattle.fc_record.specs.declared.Kind.{Kind}
use Rattle.fc_dirs.specs.Directory.{entries_of}
use Rattle.fc_image.specs.Layout.{Layout}
use Rattle.fc_image.specs.Walk.{Object, Listing}
use Rattle.fc_image.specs.Objects.{objects_of, node_of, tree_of}
use Rattle.fc_image.specs.Opening.{Opened}
use Rattle.fc_image.specs.Stays.{OpensAs}
use Rattle.fc_image.specs.Sound.{AreSound}
use Rattle.fc_tree.specs.declared.node.Node.{Node}
use Rattle.fc_tree.specs.declared.node.Found.{Found}
use Rattle.fc_tree.specs.declared.node.Found.TheVariants as founds
use Rattle.fc_tree.specs.Nodes.{nodes_of, found_in, number_of, HoldObjects}
use Rattle.fc_tree.specs.Agree.{InOrder}
use Rattle.fc_tree.specs.Numbered.{AreNumbered}

-- The listings of an opened image are sound.
abbrev pub SoundLaw : Type 0
SoundLaw = (image : List ℕ) (kind : Kind) (v : Opened) → OpensAs image kind v → AreSound v.layout v.listings

-- Nodes that are numbered in the order of the objects hold them: each is found at its object's path, under its number.
abbrev pub NumbersLaw : Type 0
NumbersLaw = (layout : Layout) (listings : List Listing) (nodes : List Node) (room : ℕ) → AreSound layout listings → AreNumbered nodes listings
    → HoldObjects (nodes_of (record { slots = map Some nodes; room = room })) listings
    × InOrder (nodes_of (record { slots = map Some nodes; room = room })) listings

-- Where a path leads among the nodes and in the map from paths to attributes and bytes: to one object, or nowhere for one reason.
abbrev pub AreAlike : FinMap nat_cmp Node → List ℕ → Layout → List Listing → Path → Found → Result ModelNode Refusal → Type 0
AreAlike nodes image layout listings path (founds.Node n) (Ok node) =
    (o : Object) × Contains (objects_of listings) o × (is_same_path path o.path ≡ true) × (number_of nodes o.path ≡ Some n)
    × (option_map (λ m. m.entry) (get nodes n) ≡ Some o.entry) × (node ≡ node_of image layout o)
AreAlike nodes image layout listings path founds.Absent (Err refusals.NotFound) = Unit {0}
AreAlike nodes image layout listings path founds.NotDirectory (Err refusals.NotDirectory) = Unit {0}
AreAlike nodes image layout listings path _ _ = ⊥

-- Paths lead among nodes as in the tree of the image that they stand for.
abbrev pub FindLaw : Type 0
FindLaw = (image : List ℕ) (layout : Layout) (listings : List Listing) (nodes : FinMap nat_cmp Node) (path : Path)
    → AreSound layout listings → HoldObjects nodes listings
    → AreAlike nodes image layout listings path (found_in nodes path) (found (tree_of image layout listings) path)

-- names rise, or are the same by folding
abbrev pub Rise : List ModelNode → Type 0
Rise [] = Unit {0}
Rise (n ∷ []) = Unit {0}
Rise (n ∷ m ∷ nodes) = (is_le (name_cmp n.name m.name) ≡ true) × Rise (m ∷ nodes)

-- What a directory holds, in the order of folded names, is what the tree lists there.
abbrev pub ChildrenLaw : Type 0
ChildrenLaw = (image : List ℕ) (layout : Layout) (listings : List Listing) (l : Listing) (path : Path) (nodes : List ModelNode)
    → AreSound layout listings → Contains listings l → is_same_path path l.object.path ≡ true
    → IsPermutation (map (node_of image layout) l.children) nodes → Rise nodes
    → map (λ e. e.1) (children (tree_of image layout listings) path) ≡ nodes

-- In the tree of the image an object's node stands at each spelling of its path.
abbrev pub NodeLaw : Type 0
NodeLaw = (image : List ℕ) (layout : Layout) (listings : List Listing) (o : Object) (path : Path)
    → AreSound layout listings → Contains (objects_of listings) o → is_same_path path o.path ≡ true
    → node_at (tree_of image layout listings) path ≡ Some (node_of image layout o)

-- The objects of a directory have its entries, in stored order.
abbrev pub EntriesLaw : Type 0
EntriesLaw = (layout : Layout) (listings : List Listing) (l : Listing)
    → AreSound layout listings → Contains listings l → map (λ o. o.entry) l.children ≡ entries_of l.content
