-- An object gets another path, with all that is below it: no node gets another number.
use Rattle.std.proofs.Common.{◌≡◌, ◌<◌, ◌≤◌, ℕ, true, false, List, [], ◌∷◌, ◌++◌, length, refl, ◌∙◌, arith, Some}
use Rattle.std.specs.Prelude.{Contains}
use Rattle.fc_names.specs.Names.{Path, folded, folded_path}
use Rattle.fc_model.specs.Tree.{is_prefix}
use Rattle.fc_dirs.specs.declared.Entry.{Entry}
use Rattle.fc_dirs.specs.Directory.{Directory}
use Rattle.fc_image.specs.Layout.{Layout}
use Rattle.fc_image.specs.Walk.{Object, Listing, is_directory_object}
use Rattle.fc_image.specs.Objects.{objects_of}
use Rattle.fc_tree.specs.declared.node.Body.TheVariants as bodies
use Rattle.fc_tree.specs.Nodes.{number_of, body_in}
use Rattle.fc_laws.specs.nodes.Edits.{Nodes}
use Rattle.fc_laws.specs.nodes.Laws.{IsHeld}
use Rattle.fc_laws.proofs.lemmas.nodes.ShapeLemmas.{held_as, says_at}
pub use Rattle.fc_image.proofs.RelistLemmas.{path_step as moved_step}

-- ---- moved paths

pub some_long : (path : Path) → (path ≡ [] → ⊥) → 0 < length path
some_long [] never = absurd (never refl)
some_long (x ∷ path) never = omega arith

-- ---- a move

-- Object o, of directory k, gets the name in directory l. Of the other nodes none is held otherwise. What the directories k and l say
-- is left open.
pub record IsMoving (nodes after : Nodes) (layout : Layout) (listings : List Listing) (k l : Listing) (home dir : ℕ) (o : Object) (number : ℕ) (name : List ℕ) (now : Directory) : Type 0 where
  pub held : IsHeld nodes layout listings
  pub k_in : Contains listings k
  pub l_in : Contains listings l
  pub home_is : number_of nodes k.object.path ≡ Some home
  pub dir_is : number_of nodes l.object.path ≡ Some dir
  pub among : Contains (objects_of listings) o
  pub number_is : number_of nodes o.path ≡ Some number
  pub lower : number ≡ 0 → ⊥
  pub not_into : is_prefix (folded_path o.path) (folded_path l.object.path) ≡ false
  pub fresh : (m : ℕ) (d : Entry) → held_as nodes m ≡ Some (dir, d) → (m ≡ 0 → ⊥) → (m ≡ number → ⊥) → folded d.name ≡ folded name → ⊥
  pub held_off : (m : ℕ) → (m ≡ number → ⊥) → held_as after m ≡ held_as nodes m
  pub held_own : held_as after number ≡ Some (dir, record o.entry { name = name })
  pub said_off : (m : ℕ) → (m ≡ number → ⊥) → (m ≡ home → ⊥) → (m ≡ dir → ⊥) → says_at after m ≡ says_at nodes m
  pub said_own : is_directory_object o ≡ true → says_at after number ≡ Some (body_in now)
  pub file_own : is_directory_object o ≡ false → says_at after number ≡ Some bodies.File

module _ (nodes after : Nodes) (layout : Layout) (listings : List Listing) (k l : Listing) (home dir : ℕ) (o : Object) (number : ℕ) (name : List ℕ) (now : Directory)
    (m : IsMoving nodes after layout listings k l home dir o number name now) where
  abbrev pub from : Path
  from = o.path

  abbrev pub to : Path
  to = l.object.path ++ name ∷ []
