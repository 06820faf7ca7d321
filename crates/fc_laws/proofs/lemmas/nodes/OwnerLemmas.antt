-- Owners, where objects go and come and the others keep their numbers.
use Rattle.std.proofs.Common.{◌≡◌, ℕ, Bool, true, false, cond, not, List, [], ◌∷◌, ◌++◌, length, map, filter, refl, sym, ap, subst, ◌∙◌, Option, Some, unwrap_or}
use Rattle.std.specs.Prelude.{Contains, IsPermutation, nat_lt}
use Rattle.std.proofs.lemmas.List.Sorted.{IsPermutation-trans, IsPermutation-sym, IsPermutation-cons, IsPermutation-map, IsPermutation-append_right, Contains-permutation}
use Rattle.fc_model.specs.Tree.{holder}
use Rattle.fc_alloc.specs.declared.owner.Owner.{Owner}
use Rattle.fc_image.specs.Layout.{Layout, id_of, low_of}
use Rattle.fc_image.specs.Walk.{Object, Listing, is_directory_object}
use Rattle.fc_image.specs.Objects.{objects_of, has_sectors}
use Rattle.fc_image.specs.Order.{held}
use Rattle.fc_image.specs.Sound.{AreSound}
use Rattle.fc_image.proofs.ShuffleLemmas.{IsPermutation-filter, IsPermutation-flat_map, filter-append, IsPermutation-unappend}
use Rattle.fc_tree.specs.Nodes.{number_of}
use Rattle.fc_tree.specs.Parts.{AreOwners, first_in, owner_of}
use Rattle.fc_tree.proofs.MemberLemmas.{contains_here, from_map, in_filter}
use Rattle.fc_tree.proofs.WalkedLemmas.{root, root_path, root_and_held, root_is_directory, contained, child_path, holder-push, directories_listed}
use Rattle.fc_tree.proofs.SoundLemmas.{root_object}
use Rattle.fc_laws.specs.nodes.Edits.{Nodes, OwnersEdited, owner_with, owners_with}
use Rattle.fc_laws.specs.nodes.Laws.{OwnerLaw}
use Rattle.fc_image.proofs.TreeLemmas.{map_both as map_append}
use Rattle.fc_image.proofs.EntriesLemmas.{later as contains_later}

-- the owners among objects
abbrev pub owners_among : Nodes → Layout → List Object → List Owner
owners_among nodes layout objects = map (owner_of nodes layout) (filter has_sectors objects)

pub among-append : (nodes : Nodes) (layout : Layout) (os ps : List Object) → owners_among nodes layout (os ++ ps) ≡ owners_among nodes layout os ++ owners_among nodes layout ps
among-append nodes layout os ps =
    ap (map (owner_of nodes layout)) (filter-append has_sectors os ps) ∙ map_append (owner_of nodes layout) (filter has_sectors os) (filter has_sectors ps)

pub among_permuted : (nodes : Nodes) (layout : Layout) (os ps : List Object) → IsPermutation os ps → IsPermutation (owners_among nodes layout os) (owners_among nodes layout ps)
among_permuted nodes layout os ps same =
    IsPermutation-map (owner_of nodes layout) (filter has_sectors os) (filter has_sectors ps) (IsPermutation-filter has_sectors os ps same)

-- each object keeps its owner
pub record KeepsOwner (nodes nodes' : Nodes) (layout layout' : Layout) (o o' : Object) : Type 0 where
  pub sectors : o'.sectors ≡ o.sectors
  pub owner : owner_of nodes' layout' o' ≡ owner_of nodes layout o

among_kept : (nodes nodes' : Nodes) (layout layout' : Layout) (g : Object → Object) (os : List Object) → ((o : Object) → Contains os o → KeepsOwner nodes nodes' layout layout' o (g o))
    → owners_among nodes' layout' (map g os) ≡ owners_among nodes layout os
among_kept nodes nodes' layout layout' g [] keeps = refl
among_kept nodes nodes' layout layout' g (o ∷ os) keeps =
    let k = keeps o (contains_here o os) in
    let some : has_sectors (g o) ≡ has_sectors o = ap (λ (ss : List ℕ). nat_lt 0 (length ss)) k.sectors in
    by (has_sectors o) some k.owner (among_kept nodes nodes' layout layout' g os (λ p at. keeps p (contains_later o p os at)))
  where
    by : (b : Bool) → has_sectors (g o) ≡ b → owner_of nodes' layout' (g o) ≡ owner_of nodes layout o → owners_among nodes' layout' (map g os) ≡ owners_among nodes layout os
        → map (owner_of nodes' layout') (cond (has_sectors (g o)) (g o ∷ filter has_sectors (map g os)) (filter has_sectors (map g os)))
        ≡ map (owner_of nodes layout) (cond b (o ∷ filter has_sectors os) (filter has_sectors os))
    by true e own rest =
        ap (λ (b : Bool). map (owner_of nodes' layout') (cond b (g o ∷ filter has_sectors (map g os)) (filter has_sectors (map g os)))) e
        ∙ (λ i. own i ∷ rest i)
    by false e own rest = ap (λ (b : Bool). map (owner_of nodes' layout') (cond b (g o ∷ filter has_sectors (map g os)) (filter has_sectors (map g os)))) e ∙ rest

-- Objects go and come; the owners of those that go go, and those of the others come.
module _ (nodes nodes' : Nodes) (layout layout' : Layout) (g : Object → Object) (objects objects' gone come kept : List Object) where
  pub owners_edited : (owners owners' : List Owner) → IsPermutation objects (gone ++ kept) → IsPermutation objects' (come ++ map g kept)
      → ((o : Object) → Contains kept o → KeepsOwner nodes nodes' layout layout' o (g o))
      → OwnersEdited owners owners' (owners_among nodes layout gone) (owners_among nodes' layout' come)
      → AreOwners owners nodes layout objects → AreOwners owners' nodes' layout' objects'
  owners_edited owners owners' had has keeps edit owned =
      let old : IsPermutation owners (owners_among nodes layout gone ++ owners_among nodes layout kept) =
      subst (IsPermutation owners) (among-append nodes layout gone kept)
      (IsPermutation-trans owners (owners_among nodes layout objects) (owners_among nodes layout (gone ++ kept)) owned (among_permuted nodes layout objects (gone ++ kept) had)) in
      let left : IsPermutation edit.rest (owners_among nodes layout kept) =
      IsPermutation-unappend (owners_among nodes layout gone) edit.rest (owners_among nodes layout kept)
      (IsPermutation-trans (owners_among nodes layout gone ++ edit.rest) owners (owners_among nodes layout gone ++ owners_among nodes layout kept)
      (IsPermutation-sym owners (owners_among nodes layout gone ++ edit.rest) edit.before) old) in
      let same = among_kept nodes nodes' layout layout' g kept keeps in
      let new : IsPermutation owners' (owners_among nodes' layout' (come ++ map g kept)) =
      subst (IsPermutation owners') (sym (among-append nodes' layout' come (map g kept) ∙ ap (λ (os : List Owner). owners_among nodes' layout' come ++ os) same))
      (IsPermutation-trans owners' (owners_among nodes' layout' come ++ edit.rest) (owners_among nodes' layout' come ++ owners_among nodes layout kept) edit.after
      (IsPermutation-append_right (owners_among nodes' layout' come) edit.rest (owners_among nodes layout kept) left)) in
      IsPermutation-trans owners' (owners_among nodes' layout' (come ++ map g kept)) (owners_among nodes' layout' objects') new
      (IsPermutation-sym (owners_among nodes' layout' objects') (owners_among nodes' layout' (come ++ map g kept)) (among_permuted nodes' layout' objects' (come ++ map g kept) has))

-- The objects of a walk that finds the new listings: the new root, and what they hold.
pub found_objects : (layout : Layout) (listings found : List Listing) (top : Object) → (sound : AreSound layout found) → IsPermutation listings found
    → ((l : Listing) → Contains listings l → l.object.path ≡ [] → l.object ≡ top) → IsPermutation (objects_of found) (top ∷ held listings)
found_objects layout listings found top sound same tops =
    let o = root layout found sound in
    let back = IsPermutation-sym listings found same in
    let l = from_map (λ (l : Listing). l.object) found o
    (subst (λ (os : List Object). Contains os o) (directories_listed layout found sound)
    (in_filter is_directory_object (objects_of found) o (root_object layout found sound) (root_is_directory layout found sound))) in
    let is : o ≡ top = sym l.2 ∙ tops l.0 (Contains-permutation found listings l.0 back l.1) (ap (λ (p : Object). p.path) l.2 ∙ root_path layout found sound) in
    subst (λ (p : Object). IsPermutation (objects_of found) (p ∷ held listings)) is
    (subst (λ (os : List Object). IsPermutation os (o ∷ held listings)) (sym (root_and_held layout found sound))
    (IsPermutation-cons o (held found) (held listings) (IsPermutation-flat_map (λ (k : Listing). k.children) found listings back)))

-- owners by their numbers
pub owner_known : (nodes : Nodes) (layout layout' : Layout) (o : Object) (dir number : ℕ) → number_of nodes (holder o.path) ≡ Some dir → number_of nodes o.path ≡ Some number
    → ((low : ℕ) → first_in layout' low ≡ first_in layout low) → owner_of nodes layout' o ≡ owner_with layout dir number o
owner_known nodes layout layout' o dir number above at first =
    let up = ap (λ (k : Option ℕ). unwrap_or k 0) above in
    let own = ap (λ (k : Option ℕ). unwrap_or k 0) at in
    let from = first (low_of o.entry.address) in
    λ i. record {
      id = id_of o.entry.address;
      dir = up i;
      node = own i;
      file = not (is_directory_object o);
      low = low_of o.entry.address;
      first = from i;
      sectors = length o.sectors;
    }

-- an object that keeps its numbers, its address and its sectors keeps its owner
pub keeps_owner : (nodes nodes' : Nodes) (layout layout' : Layout) (o o' : Object) (dir number : ℕ) → number_of nodes (holder o.path) ≡ Some dir → number_of nodes o.path ≡ Some number
    → number_of nodes' (holder o'.path) ≡ Some dir → number_of nodes' o'.path ≡ Some number → o'.sectors ≡ o.sectors → o'.entry.address ≡ o.entry.address
    → is_directory_object o' ≡ is_directory_object o → ((low : ℕ) → first_in layout' low ≡ first_in layout low) → KeepsOwner nodes nodes' layout layout' o o'
keeps_owner nodes nodes' layout layout' o o' dir number above at above' at' sectors address kind first =
    let old = owner_known nodes layout layout o dir number above at (λ low. refl) in
    let new = owner_known nodes' layout layout' o' dir number above' at' first in
    record {
      sectors = sectors;
      owner = new ∙ (λ i. record {
        id = id_of (address i);
        dir = dir;
        node = number;
        file = not (kind i);
        low = low_of (address i);
        first = first_in layout (low_of (address i));
        sectors = length (sectors i);
      }) ∙ sym old;
    }

-- the owner of one object, if it has sectors
pub among_one : (nodes : Nodes) (layout layout' : Layout) (o : Object) (dir number : ℕ) → owner_of nodes layout o ≡ owner_with layout' dir number o
    → owners_among nodes layout (o ∷ []) ≡ owners_with layout' dir number o
among_one nodes layout layout' o dir number is = by (has_sectors o)
  where
    by : (b : Bool) → map (owner_of nodes layout) (cond b (o ∷ []) []) ≡ cond b (owner_with layout' dir number o ∷ []) []
    by true = ap (λ (w : Owner). w ∷ []) is
    by false = refl

pub owner_law : OwnerLaw
owner_law nodes layout listings l i o dir number h child =
    let path = child_path layout listings h.sound l o child.listed (contained l.children i o child.at) in
    owner_known nodes layout layout o dir number (ap (number_of nodes) (ap holder path ∙ holder-push l.object.path o.entry.name) ∙ child.dir_is) child.number_is (λ low. refl)
