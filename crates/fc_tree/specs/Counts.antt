-- What nodes say, against what the objects say for which they stand: enough to count over either.
use Rattle.std.specs.Prelude.{◌≡◌, ℕ, Bool, true, false, not, ◌==◌, List, length, map, filter, Some, None, Contains, IsPermutation}
use Rattle.std.specs.List.{count_by, range_with_len}
use Rattle.std.specs.Option.{option_map_or}
use Rattle.std.specs.Ordering.{nat_cmp}
use Rattle.std.specs.FinMap.{FinMap, entries, get}
use Rattle.fc_dirs.specs.declared.Entry.{Entry}
use Rattle.fc_dirs.specs.Entries.{is_sorted_by_name}
use Rattle.fc_dirs.specs.Directory.{entries_of}
use Rattle.fc_image.specs.Layout.{Layout}
use Rattle.fc_image.specs.Walk.{Object, Listing, is_directory_object}
use Rattle.fc_image.specs.Objects.{objects_of, listing_at}
use Rattle.fc_image.specs.Report.{holder_address, has_right_parent}
use Rattle.fc_tree.specs.declared.node.Body.{Body}
use Rattle.fc_tree.specs.declared.node.Body.TheVariants as bodies
use Rattle.fc_tree.specs.declared.node.Node.{Node}
use Rattle.fc_tree.specs.Nodes.{Numbers, nodes_of, bound_of, number_of, body_in, body_of, HoldObjects}
use Rattle.fc_image.specs.Sound.{AreSound}

-- the address of the node of a number
abbrev pub address_in : FinMap nat_cmp Node → ℕ → ℕ
address_in nodes n = option_map_or (λ m. m.entry.address) (get nodes n) 0

-- an entry, a body, and the address of what holds them
abbrev pub Said : Type 0
Said = Entry × Body × ℕ

-- what a node says: its entry, its body, and the address of the node that holds it
abbrev pub node_says : FinMap nat_cmp Node → ℕ × Node → Said
node_says nodes e = (e.1.entry, e.1.body, address_in nodes e.1.holder)

-- what an object says: its entry, its body as a node, and its holder's address
abbrev pub object_says : List Listing → Object → Said
object_says listings o = (o.entry, body_of (listing_at listings o.path), holder_address listings o.path)

-- The nodes of these listings' objects, and their directories, can be counted.
pub record HaveCounts (nodes : FinMap nat_cmp Node) (listings : List Listing) : Type 0 where
  -- the nodes say what the objects say, in some order
  pub same : IsPermutation (map (node_says nodes) (entries nodes)) (map (object_says listings) (objects_of listings))
  -- the objects that are directories are those of the listings, in their order
  pub dirs : filter is_directory_object (objects_of listings) ≡ map (λ l. l.object) listings
  -- at a directory's path stands its own listing,
  pub own : (l : Listing) → Contains listings l → listing_at listings l.object.path ≡ Some l
  -- and at a file's none
  pub files : (o : Object) → Contains (objects_of listings) o → is_directory_object o ≡ false → listing_at listings o.path ≡ None

-- Nodes that hold the objects of a sound walk can be counted in place of them.
abbrev pub CountsLaw : Type 0
CountsLaw = (layout : Layout) (listings : List Listing) (nodes : FinMap nat_cmp Node) → AreSound layout listings → HoldObjects nodes listings → HaveCounts nodes listings

-- The node of a directory says what the directory says, and the node that holds it has the address of its holder.
abbrev pub HolderLaw : Type 0
HolderLaw = (layout : Layout) (listings : List Listing) (nodes : FinMap nat_cmp Node) (l : Listing) (n : ℕ) (node above : Node)
    → AreSound layout listings → HoldObjects nodes listings → Contains listings l → number_of nodes l.object.path ≡ Some n → get nodes n ≡ Some node
    → get nodes node.holder ≡ Some above
    → (node.body ≡ body_in l.content) × (holder_address listings l.object.path ≡ above.entry.address)

-- ---- counts over numbers

-- A file says so.
abbrev pub is_file_said : Said → Bool
is_file_said (entry, bodies.File, address) = true
is_file_said (entry, bodies.Small dir, address) = false
is_file_said (entry, bodies.Big dir, address) = false

-- A directory says so.
abbrev pub is_directory_said : Said → Bool
is_directory_said s = not (is_file_said s)

-- A directory says so, and its folded names don't rise.
abbrev pub is_unsorted_said : Said → Bool
is_unsorted_said (entry, bodies.File, address) = false
is_unsorted_said (entry, bodies.Small dir, address) = not (is_sorted_by_name dir.entries)
is_unsorted_said (entry, bodies.Big dir, address) = not (is_sorted_by_name dir.entries)

-- A directory says so, and its parent field isn't the address of its holder.
abbrev pub is_wrong_parent_said : Said → Bool
is_wrong_parent_said (entry, bodies.File, address) = false
is_wrong_parent_said (entry, bodies.Small dir, address) = not (dir.parent == address)
is_wrong_parent_said (entry, bodies.Big dir, address) = not (dir.parent == address)

-- The node of a number says what passes a test.
abbrev pub passes_at : FinMap nat_cmp Node → (Said → Bool) → ℕ → Bool
passes_at nodes test n = option_map_or (λ node. test (node_says nodes (n, node))) (get nodes n) false

-- how many of the nodes with numbers below n do
abbrev pub tally : FinMap nat_cmp Node → (Said → Bool) → ℕ → ℕ
tally nodes test n = count_by (passes_at nodes test) (range_with_len 0 n)

-- The counts of objects and directories are those of the nodes below the bound.
pub record HaveTallies (tree : Numbers) (listings : List Listing) : Type 0 where
  pub files : tally (nodes_of tree) is_file_said (bound_of tree) ≡ count_by (λ o. not (is_directory_object o)) (objects_of listings)
  pub dirs : tally (nodes_of tree) is_directory_said (bound_of tree) ≡ length listings
  pub unsorted : tally (nodes_of tree) is_unsorted_said (bound_of tree) ≡ count_by (λ l. not (is_sorted_by_name (entries_of l.content))) listings
  pub parents : tally (nodes_of tree) is_wrong_parent_said (bound_of tree) ≡ count_by (λ l. not (has_right_parent listings l)) listings

-- Numbered nodes that hold the objects of a sound walk have its counts.
abbrev pub TallyLaw : Type 0
TallyLaw = (layout : Layout) (listings : List Listing) (tree : Numbers) → AreSound layout listings → HoldObjects (nodes_of tree) listings → HaveTallies tree listings
