-- `save` and `create`: a file comes.
use Rattle.std.proofs.Common.{◌≡◌, inl, inr, ℕ, Bool, true, false, cond, List, [], ◌∷◌, ap, ◌∙◌}
use Rattle.std.specs.Prelude.{Contains}
use Rattle.fc_names.specs.Names.{Path}
use Rattle.fc_record.specs.declared.Kind.{Kind}
use Rattle.fc_newmap.specs.Map.{Map, ZoneRun, is_used}
use Rattle.fc_dirs.specs.Directory.{Directory, directory_size}
use Rattle.fc_alloc.specs.declared.owner.Owner.{Owner}
use Rattle.fc_image.specs.Layout.{Layout, dir_form}
use Rattle.fc_image.specs.Walk.{Listing, Object, is_directory_object, object_size}
use Rattle.fc_image.specs.Objects.{is_owned, is_owner_of, objects_of}
use Rattle.fc_image.specs.Opening.{reserved_in}
use Rattle.fc_image.specs.Edits.{IsApartFrom, IsAt}
use Rattle.fc_image.specs.Order.{directories}
use Rattle.fc_image.proofs.RelistLemmas.{edited_apart_law}
use Rattle.fc_tree.specs.declared.node.Node.{Node}
use Rattle.fc_changes.specs.Changed.{IsFileAt}
use Rattle.fc_changes.proofs.BasicLemmas.{cases_cons, nothing_in}
use Rattle.fc_laws.specs.nodes.Edits.{IsAdded, Nodes}
use Rattle.fc_laws.specs.agree.Agreed.{AgreeOn, CanSay, IsMapChange, PartsFollow}
use Rattle.fc_laws.proofs.lemmas.agree.NewPlaceLemmas.{IsFreePlace, file_place}
use Rattle.fc_image.proofs.EditLemmas.{apart_turned as turned}

-- its size is its length
pub file_size : (layout : Layout) (o : Object) (n : ℕ) → is_directory_object o ≡ false → o.entry.len ≡ n → object_size (dir_form layout) o.entry ≡ n
file_size layout o n file len = ap (λ (b : Bool). cond b (directory_size (dir_form layout) o.entry.len) o.entry.len) file ∙ len

-- what comes is apart from all that stays
pub apart_from_all : (kind : Kind) (m : Map) (objects stay : List Object) (id : ℕ) (parts : List ZoneRun) (o : Object) → IsFreePlace kind m objects id parts o
    → ((p : Object) → Contains stay p → Contains objects p) → IsApartFrom (reserved_in kind (Layout.New m)) stay o
apart_from_all kind m objects stay id parts o free among =
    edited_apart_law.from (reserved_in kind (Layout.New m)) stay o free.free (λ p at. turned p.sectors o.sectors (free.apart p (among p at)))

-- an identifier that it owns is new or had an owner
pub one_new : (kind : Kind) (m : Map) (objects : List Object) (id : ℕ) (parts : List ZoneRun) (o : Object) → IsFreePlace kind m objects id parts o
    → (p : Object) → Contains (o ∷ []) p → (k : ℕ) → is_owner_of k p ≡ true → is_used m k ≡ true → is_owned objects k ≡ true
one_new kind m objects id parts o free p at k own used = elim (cases_cons o [] p at) [
  | inl same ↦ free.come_new k (ap (is_owner_of k) same ∙ own) used
  | inr later ↦ absurd (nothing_in p later)
]

module _ (kind : Kind) (m m' : Map) (nodes nodes' : Nodes) (owners owners' : List Owner) (root : Node) (listings listings' rest : List Listing) (l : Listing) (content : Directory)
    (j : ℕ) (o : Object) (dir number : ℕ) (path : Path) (n id : ℕ) (parts : List ZoneRun) (gone : List ℕ) (a : AgreeOn kind m nodes owners root listings)
    (e : IsAdded nodes nodes' listings listings' rest l content j o dir number) (can : CanSay (Layout.New m) l.object content) (f : PartsFollow nodes' owners' (Layout.New m') listings')
    (len : o.entry.len ≡ n) (at : IsAt (Layout.New m') o) (place : IsFileAt m (objects_of listings) path n id parts o)
    (map : IsMapChange m m' id parts gone (objects_of listings) (o ∷ objects_of listings)) where
  free : IsFreePlace kind m (objects_of listings) id parts o
  free = file_place kind m m' nodes owners root listings a n id parts gone o (objects_of listings) map at (file_size (Layout.New m') o n e.file len) path place
