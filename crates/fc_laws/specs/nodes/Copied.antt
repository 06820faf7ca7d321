-- The edit of a volume's objects by a `rename` that copies a file, and its law.
use Rattle.std.specs.Prelude.{◌≡◌, ℕ, false, List, [], ◌∷◌, ◌++◌, insert, remove, Some, IsPermutation}
use Rattle.fc_dirs.specs.Entries.{has_name}
use Rattle.fc_dirs.specs.Directory.{Directory, entries_of}
use Rattle.fc_image.specs.Walk.{Listing, Object, is_directory_object}
use Rattle.fc_image.specs.InPlace.{says_now}
use Rattle.fc_tree.specs.Nodes.{body_in, number_of}
use Rattle.fc_laws.specs.nodes.Edits.{IsChild, Nodes, with_body, with_entry, with_holder}

-- The file o goes from directory k to another directory l, where its copy has another name and address. All other directories are
-- listed as they were.
pub record IsCopied (nodes nodes' : Nodes) (listings listings' rest : List Listing) (k l : Listing) (k_content l_content : Directory) (i j : ℕ) (o copy : Object) (from_dir dir number : ℕ) (name : List ℕ) : Type 0 where
  pub found : IsPermutation listings (k ∷ l ∷ rest)
  pub child : IsChild nodes listings k i o from_dir number
  pub dir_is : number_of nodes l.object.path ≡ Some dir
  pub file : is_directory_object o ≡ false
  pub path : copy.path ≡ l.object.path ++ name ∷ []
  pub entry : copy.entry ≡ record o.entry { name = name; address = copy.entry.address }
  pub absent : has_name (entries_of l.content) name ≡ false
  pub k_entries : entries_of k_content ≡ remove (entries_of k.content) i
  pub l_entries : entries_of l_content ≡ insert (entries_of l.content) j copy.entry
  pub listings_are : listings' ≡ says_now k k_content (remove k.children i) ∷ says_now l l_content (insert l.children j copy) ∷ rest
  pub nodes_are : nodes' ≡ with_holder number dir (with_entry number copy.entry (with_body dir (body_in l_content) (with_body from_dir (body_in k_content) nodes)))
