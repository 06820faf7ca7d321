-- Nodes that fit directories and what they hold: so do nodes that hold the objects of a sound walk.
use Rattle.std.proofs.Common.{◌≡◌, ⊎_elim, ℕ, false, List, [], ◌∷◌, ◌++◌, length, refl, sym, ap, ap₂, subst, ◌∙◌, Some}
use Rattle.std.specs.Prelude.{Contains}
use Rattle.std.specs.Option.{option_map}
use Rattle.std.specs.FinMap.{get}
use Rattle.fc_names.specs.Names.{Path, folded, folded_path}
use Rattle.fc_model.specs.Tree.{holder}
use Rattle.fc_dirs.specs.declared.Entry.{Entry}
use Rattle.fc_image.specs.Layout.{Layout}
use Rattle.fc_image.specs.Walk.{Object, Listing, is_directory_object}
use Rattle.fc_image.specs.Objects.{objects_of}
use Rattle.fc_image.specs.Sound.{AreSound}
use Rattle.fc_image.proofs.PathsLemmas.{itself}
use Rattle.fc_tree.specs.declared.node.Body.TheVariants as bodies
use Rattle.fc_tree.specs.Nodes.{number_of, body_in, body_of, HoldObjects}
use Rattle.fc_tree.proofs.WalkedLemmas.{same_some, root_path, child_path, child_is_object, listed_directory, listing_found, no_listing, holder-push}
use Rattle.fc_tree.proofs.SoundLemmas.{fold_pushed, root_or_child, same_object, same_listing}
use Rattle.fc_tree.proofs.PlaceLemmas.{one_path, same_number}
use Rattle.fc_tree.proofs.FindLemmas.{object_of_number}
use Rattle.fc_laws.specs.nodes.Edits.{Nodes}
use Rattle.fc_laws.proofs.lemmas.nodes.ShapeLemmas.{held_by, held_as, said, says_at, some_mapped}
use Rattle.fc_laws.proofs.lemmas.nodes.WaysLemmas.{AreApart}
use Rattle.fc_image.proofs.CommandLemmas.{same_by_folds}

-- an object of the directory of number `dir`, which has this path, has the node `number`
pub record ChildFits (nodes : Nodes) (dir : ℕ) (path : Path) (number : ℕ) (o : Object) : Type 0 where
  pub path_is : o.path ≡ path ++ o.entry.name ∷ []
  pub at : number_of nodes o.path ≡ Some number
  pub held : held_as nodes number ≡ Some (dir, o.entry)
  pub file : is_directory_object o ≡ false → says_at nodes number ≡ Some bodies.File

-- a directory has the node `number`, and so has each object that it holds
pub record DirectoryFits (nodes : Nodes) (number : ℕ) (l : Listing) : Type 0 where
  pub at : number_of nodes l.object.path ≡ Some number
  pub says : says_at nodes number ≡ Some (body_in l.content)
  pub root : l.object.path ≡ [] → held_as nodes 0 ≡ Some (0, l.object.entry)
  pub kids : (o : Object) → Contains l.children o → (n : ℕ) × ChildFits nodes number l.object.path n o

-- a path with a name more isn't the root's
pub not_pushed : (p : Path) (x : List ℕ) → [] ≡ p ++ x ∷ [] → ⊥
not_pushed [] x e = cc
not_pushed (y ∷ p) x e = cc

module _ (layout : Layout) (listings : List Listing) (nodes : Nodes) (sound : AreSound layout listings) (held : HoldObjects nodes listings) where
  abbrev Among : Object → Type 0
  Among o = Contains (objects_of listings) o

  -- objects of one number are one, and so are directories
  pub one_number : (o p : Object) (n : ℕ) → Among o → Among p → number_of nodes o.path ≡ Some n → number_of nodes p.path ≡ Some n → o ≡ p
  one_number o p n at bt e f =
      same_object layout listings sound o.path o p at bt (itself o.path) (same_by_folds o.path p.path (one_path nodes n (length o.path) o.path p.path refl e f))

  pub one_directory : (l k : Listing) (n : ℕ) → Contains listings l → Contains listings k → number_of nodes l.object.path ≡ Some n → number_of nodes k.object.path ≡ Some n → l ≡ k
  one_directory l k n at bt e f =
      same_listing layout listings sound l.object.path l k at bt (itself l.object.path)
      (same_by_folds l.object.path k.object.path (one_path nodes n (length l.object.path) l.object.path k.object.path refl e f))

  child_fits : (l : Listing) (o : Object) (dir : ℕ) → Contains listings l → Contains l.children o → number_of nodes l.object.path ≡ Some dir
      → (n : ℕ) × ChildFits nodes dir l.object.path n o
  child_fits l o dir at kid above =
      let among = child_is_object layout listings sound l o at kid in
      let h = held.each o among in
      let path = child_path layout listings sound l o at kid in
      let up : h.holder_number ≡ dir =
      same_some h.holder_number dir (sym h.at_holder ∙ ap (number_of nodes) (ap holder path ∙ holder-push l.object.path o.entry.name) ∙ above) in (
        h.number,
        record {
          path_is = path;
          at = h.at_path;
          held = ap (option_map held_by) h.is ∙ ap (λ k. Some (k, o.entry)) up;
          file = λ is. ap (option_map said) h.is ∙ ap (λ k. Some (body_of k)) (no_listing layout listings sound o among is);
        },
      )

  root_entry_held : (l : Listing) → Contains listings l → l.object.path ≡ [] → held_as nodes 0 ≡ Some (0, l.object.entry)
  root_entry_held l at top =
      let h = held.each l.object (listed_directory layout listings sound l at).0 in
      let number : h.number ≡ 0 = same_some h.number 0 (sym h.at_path ∙ ap (number_of nodes) top) in
      let up : h.holder_number ≡ 0 = same_some h.holder_number 0 (sym h.at_holder ∙ ap (λ (p : Path). number_of nodes (holder p)) top) in
      ap (λ k. option_map held_by (get nodes k)) (sym number) ∙ ap (option_map held_by) h.is ∙ ap (λ k. Some (k, l.object.entry)) up

  -- each directory fits
  pub fits : (l : Listing) → Contains listings l → (n : ℕ) × DirectoryFits nodes n l
  fits l at =
      let h = held.each l.object (listed_directory layout listings sound l at).0 in (
        h.number,
        record {
          at = h.at_path;
          says = ap (option_map said) h.is ∙ ap (λ k. Some (body_of k)) (listing_found layout listings sound l at);
          root = root_entry_held l at;
          kids = λ o kid. child_fits l o h.number at kid h.at_path;
        },
      )

  -- under its number
  pub fits_at : (l : Listing) (n : ℕ) → Contains listings l → number_of nodes l.object.path ≡ Some n → DirectoryFits nodes n l
  fits_at l n at e =
      let f = fits l at in
      subst (λ k. DirectoryFits nodes k l) (same_some f.0 n (sym f.1.at ∙ e)) f.1

  pub kid_at : (l : Listing) (o : Object) (dir n : ℕ) → Contains listings l → Contains l.children o → number_of nodes l.object.path ≡ Some dir → number_of nodes o.path ≡ Some n
      → ChildFits nodes dir l.object.path n o
  kid_at l o dir n at kid above e =
      let f = child_fits l o dir at kid above in
      subst (λ k. ChildFits nodes dir l.object.path k o) (same_some f.0 n (sym f.1.at ∙ e)) f.1

  -- what holds a node is a directory, in which it is an object's
  pub record Holds (n h : ℕ) (e : Entry) : Type 0 where
    pub dir : Listing
    pub o : Object
    pub listed : Contains listings dir
    pub kid : Contains dir.children o
    pub above : number_of nodes dir.object.path ≡ Some h
    pub at : number_of nodes o.path ≡ Some n
    pub entry : o.entry ≡ e

  pub holds : (n h : ℕ) (e : Entry) → held_as nodes n ≡ Some (h, e) → (n ≡ 0 → ⊥) → Holds n h e
  holds n h e is lower =
      let node = some_mapped held_by (get nodes n) (h, e) is in
      let o = object_of_number layout listings nodes sound held n node.0 node.1 in
      ⊎_elim (λ top. absurd (lower (same_some n 0 (sym o.2 ∙ ap (λ (p : Object). number_of nodes p.path) (sym top) ∙ ap (number_of nodes) (root_path layout listings sound)))))
      (λ kid.
      let f = fits kid.0 kid.1 in
      let k = kid_at kid.0 o.0 f.0 n kid.1 kid.2 f.1.at o.2 in
      let pair : (f.0, o.0.entry) ≡ (h, e) = same_some (f.0, o.0.entry) (h, e) (sym k.held ∙ is) in
      record {
        dir = kid.0;
        o = o.0;
        listed = kid.1;
        kid = kid.2;
        above = f.1.at ∙ ap (λ (p : ℕ × Entry). Some p.0) pair;
        at = o.2;
        entry = ap (λ (p : ℕ × Entry). p.1) pair;
      })
      (root_or_child layout listings sound o.0 o.1)

  -- the names of each directory are apart
  pub apart : AreApart nodes
  apart m n h d e is_m is_n lower_m lower_n same =
      let a = holds m h d is_m lower_m in
      let b = holds n h e is_n lower_n in
      let up = one_path nodes h (length a.dir.object.path) a.dir.object.path b.dir.object.path refl a.above b.above in
      let path_a = child_path layout listings sound a.dir a.o a.listed a.kid in
      let path_b = child_path layout listings sound b.dir b.o b.listed b.kid in
      let names : folded a.o.entry.name ≡ folded b.o.entry.name =
      ap (λ (x : Entry). folded x.name) a.entry ∙ same ∙ ap (λ (x : Entry). folded x.name) (sym b.entry) in
      let folds : folded_path a.o.path ≡ folded_path b.o.path =
      ap folded_path path_a ∙ fold_pushed a.dir.object.path a.o.entry.name ∙ ap₂ (λ (p : Path) (x : List ℕ). p ++ x ∷ []) up names
      ∙ sym (fold_pushed b.dir.object.path b.o.entry.name) ∙ sym (ap folded_path path_b) in
      same_some m n (sym a.at ∙ same_number nodes a.o.path b.o.path folds ∙ b.at)

  -- the number of a directory's object isn't the root's
  pub kid_lower : (l : Listing) (o : Object) (n : ℕ) → Contains listings l → Contains l.children o → number_of nodes o.path ≡ Some n → n ≡ 0 → ⊥
  kid_lower l o n at kid e zero =
      let path = child_path layout listings sound l o at kid in
      let folds = one_path nodes n (length o.path) o.path [] refl e (ap (λ k. Some k) (sym zero)) in
      let long : folded_path [] ≡ folded_path l.object.path ++ folded o.entry.name ∷ [] = sym folds ∙ ap folded_path path ∙ fold_pushed l.object.path o.entry.name in
      not_pushed (folded_path l.object.path) (folded o.entry.name) long
