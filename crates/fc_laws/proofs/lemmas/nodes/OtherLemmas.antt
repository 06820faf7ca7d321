-- What stands beside one directory of a sound walk, and beside one object in it, has other numbers.
use Rattle.std.proofs.Common.{◌≡◌, ◌≤◌, ℕ, Bool, true, false, cond, List, [], ◌∷◌, length, refl, sym, ap, subst, ◌∙◌, arith, Option, Some, None, find, is_some}
use Rattle.std.specs.Prelude.{Contains, IsPermutation}
use Rattle.std.proofs.lemmas.List.Sorted.{IsPermutation-cons}
use Rattle.fc_names.specs.Names.{Path, folded, is_same_name, is_same_path}
use Rattle.fc_dirs.specs.declared.Entry.{Entry}
use Rattle.fc_dirs.specs.Entries.{has_name}
use Rattle.fc_dirs.specs.Directory.{Directory}
use Rattle.fc_image.specs.Layout.{Layout}
use Rattle.fc_image.specs.Walk.{Object, Listing}
use Rattle.fc_image.specs.Objects.{objects_of}
use Rattle.fc_image.specs.Order.{held}
use Rattle.fc_image.specs.Sound.{AreSound}
use Rattle.fc_image.proofs.PathsLemmas.{many, is_at, itself, listed_few}
use Rattle.fc_image.proofs.ShuffleLemmas.{IsPermutation-flat_map}
use Rattle.fc_tree.specs.declared.node.Body.TheVariants as bodies
use Rattle.fc_tree.specs.Nodes.{number_of, body_in, HoldObjects}
use Rattle.fc_tree.proofs.MemberLemmas.{some_many, many_permuted}
use Rattle.fc_tree.proofs.WalkedLemmas.{same_some, root, root_path, root_and_held, given, few_objects}
use Rattle.fc_tree.proofs.SoundLemmas.{root_object, folds_alike}
use Rattle.fc_tree.proofs.PlaceLemmas.{one_path, same_number}
use Rattle.fc_laws.specs.nodes.Edits.{Nodes}
use Rattle.fc_laws.proofs.lemmas.nodes.WaysLemmas.{not_missed, folds_same}
use Rattle.fc_laws.proofs.lemmas.nodes.FitsLemmas.{one_number}
use Rattle.std.proofs.lemmas.Bool.{false_from_ne_true as unless}
use Rattle.fc_image.proofs.CommandLemmas.{same_by_folds}

-- paths of other numbers fold to others
pub unlike : (nodes : Nodes) (p q : Path) (m n : ℕ) → number_of nodes p ≡ Some m → number_of nodes q ≡ Some n → (m ≡ n → ⊥) → is_same_path p q ≡ false
unlike nodes p q m n e f other =
    unless (is_same_path p q) (λ same. other (same_some m n (sym e ∙ same_number nodes p q (folds_alike p q same) ∙ f)))

-- a directory's body is no file's
pub no_file : (dir : Directory) → body_in dir ≡ bodies.File → ⊥
no_file (Directory.Small dir) e = cc
no_file (Directory.Big dir) e = cc

-- where an entry has the name, one is found
pub name_there : (entries : List Entry) (name : List ℕ) (e : Entry) → Contains entries e → folded e.name ≡ folded name → has_name entries name ≡ false → ⊥
name_there entries name e at same none = by (find (λ (d : Entry). is_same_name name d.name) entries) refl none
  where
    by : (o : Option Entry) → find (λ (d : Entry). is_same_name name d.name) entries ≡ o → is_some o ≡ false → ⊥
    by None f g = not_missed (λ (d : Entry). is_same_name name d.name) entries e at (folds_same name e.name (sym same)) f
    by (Some d) f g = cc

-- one that passes, and another among the others
two_pass : {X : Type 0} (t : X → Bool) (x y : X) (others : List X) → many t (x ∷ others) ≤ 1 → t x ≡ true → Contains others y → t y ≡ true → ⊥
unfolding many
two_pass t x y others low h at g =
    let one : ◌≡◌ {A = ℕ} (cond (t x) 1 0) 1 = ap (λ (b : Bool). let n : ℕ = cond b 1 0 in n) h in
    let more = some_many t others y at g in
    absurd (omega (arith, one, more, low))

module _ (layout : Layout) (listings : List Listing) (nodes : Nodes) (sound : AreSound layout listings) (held_all : HoldObjects nodes listings) where
  few_listings : (path : Path) → many (λ (k : Listing). is_at path k.object) listings ≤ 1
  unfolding many
  few_listings path =
      let w = given layout listings sound in
      let few = listed_few sound.read layout (is_at path) (root layout listings sound ∷ []) listings w.2 in
      let most = subst (λ (os : List Object). many (is_at path) os ≤ 1) (root_and_held layout listings sound) (few_objects layout listings sound path) in
      omega (arith, few, most)

  same_number_path : (p q : Path) (n : ℕ) → number_of nodes p ≡ Some n → number_of nodes q ≡ Some n → is_same_path p q ≡ true
  same_number_path p q n e f = same_by_folds p q (one_path nodes n (length p) p q refl e f)

  -- all objects, by their directories in any order
  pub all_objects : (others : List Listing) → IsPermutation listings others → IsPermutation (objects_of listings) (root layout listings sound ∷ held others)
  all_objects others found =
      subst (λ (os : List Object). IsPermutation os (root layout listings sound ∷ held others)) (sym (root_and_held layout listings sound))
      (IsPermutation-cons (root layout listings sound) (held listings) (held others) (IsPermutation-flat_map (λ (k : Listing). k.children) listings others found))

  -- an object at the root's path is the root
  pub top_object : (o : Object) → Contains (objects_of listings) o → o.path ≡ [] → o ≡ root layout listings sound
  top_object o at top =
      one_number layout listings nodes sound held_all o (root layout listings sound) 0 at (root_object layout listings sound) (ap (number_of nodes) top)
      (ap (number_of nodes) (root_path layout listings sound))

  module _ (l : Listing) (others : List Listing) (found : IsPermutation listings (l ∷ others)) where
    -- the other directories have other numbers
    pub other_directory : (k : Listing) (n : ℕ) → Contains others k → number_of nodes l.object.path ≡ Some n → number_of nodes k.object.path ≡ Some n → ⊥
    other_directory k n at e f =
        let few = subst (λ j. j ≤ 1) (sym (many_permuted (λ (d : Listing). is_at l.object.path d.object) listings (l ∷ others) found)) (few_listings l.object.path) in
        two_pass (λ (d : Listing). is_at l.object.path d.object) l k others few (itself l.object.path) at (same_number_path l.object.path k.object.path n e f)
