-- What parts have whose nodes are walked, whatever the map is.
use Rattle.std.proofs.Common.{◌≡◌, ℕ, List, [], ◌∷◌, refl, sym, ap, subst, ◌∙◌, Some, Option}
use Rattle.std.specs.Prelude.{Contains}
use Rattle.std.specs.FinMap.{get}
use Rattle.fc_record.specs.declared.Kind.{Kind}
use Rattle.fc_dirs.specs.Directory.{directory_size}
use Rattle.fc_dirs.specs.declared.Entry.{Entry}
use Rattle.fc_image.specs.Layout.{Layout, dir_form}
use Rattle.fc_image.specs.Walk.{Listing, Object, Reader}
use Rattle.fc_image.specs.Objects.{objects_of}
use Rattle.fc_image.specs.Opening.{reserved_in}
use Rattle.fc_image.specs.Sound.{AreSound}
use Rattle.fc_image.specs.Edits.{Apart, IsListing, IsRoot}
use Rattle.fc_image.specs.Order.{AreListings, held}
use Rattle.fc_image.proofs.HolesLemmas.{Each-contains, Each-objects, Lies, walk_lies}
use Rattle.fc_image.proofs.OrderLemmas.{order_law}
use Rattle.fc_tree.specs.declared.node.Node.{Node}
use Rattle.fc_tree.specs.Agree.{AreWalked, reader_of_nodes}
use Rattle.fc_tree.specs.Nodes.{HasNode, number_of}
use Rattle.fc_tree.proofs.WalkedLemmas.{follows_each, given, place_of, root as root_of}
use Rattle.fc_changes.proofs.BasicLemmas.{first_in}
use Rattle.fc_laws.specs.nodes.Edits.{Nodes}
use Rattle.fc_tree.proofs.PathLemmas.{some_same as same_node}
use Rattle.fc_tree.proofs.EndLemmas.{no_twin as apart_names}

-- ---- the node of a root's object

pub same_number : (n k : ℕ) → (let q : Option ℕ = Some n in q) ≡ Some k → n ≡ k
same_number n k e = cc

pub root_node : (nodes : Nodes) (listings : List Listing) (o : Object) → o.path ≡ [] → HasNode nodes listings o → (node : Node) × (get nodes 0 ≡ Some node) × (node.entry ≡ o.entry)
root_node nodes listings o path h =
    let zero' : 0 ≡ h.number = same_number 0 h.number (ap (number_of nodes) (sym path) ∙ h.at_path) in
    (_, ap (get nodes) zero' ∙ h.is, refl)

-- ---- nodes that are walked

module _ (kind : Kind) (layout : Layout) (nodes : Nodes) (root : Node) (listings : List Listing)
    (a : AreWalked nodes layout (reserved_in kind layout) root.entry.address root.entry.len listings) where
  abbrev read : Reader
  read = reader_of_nodes nodes

  abbrev reserved : List ℕ
  reserved = reserved_in kind layout

  pub sound : AreSound layout listings
  sound = record {
    read = read;
    reserved = reserved;
    address = root.entry.address;
    size = root.entry.len;
    walked = a.walked;
    apart = λ l at. apart_names l.content (a.bodies l at);
  }

  -- the root's object, and what the directories say
  pub record Had : Type 0 where
    pub top : Object
    pub is_root : IsRoot layout root.entry.address root.entry.len top
    pub all : AreListings read layout top listings
    pub apart : Apart reserved (top ∷ held listings)
    pub objects : objects_of listings ≡ top ∷ held listings

  pub had : Had
  had =
      let h = order_law.gives read layout reserved root.entry.address root.entry.len listings a.walked in
      record { top = h.0; is_root = h.1; all = h.2; apart = h.3; objects = h.4 }

  -- the place of an object
  pub object_lies : (o : Object) → Contains (objects_of listings) o → Lies layout reserved o
  object_lies o at =
      Each-contains (Lies layout reserved) (objects_of listings) o
      (Each-objects (Lies layout reserved) listings (walk_lies read layout reserved root.entry.address root.entry.len listings a.walked)) at

  -- what a directory says and holds
  pub says : (l : Listing) → Contains listings l → IsListing read layout l
  unfolding sound
  says l at =
      let place = place_of listings l at in
      follows_each read layout (root_of layout listings sound ∷ []) listings (given layout listings sound).2 place.0 l place.1

  -- the root's length is that of its object
  pub root_size : get nodes 0 ≡ Some root → directory_size (dir_form layout) root.entry.len ≡ root.entry.len
  root_size root_is =
      let before = had in
      let was = root_node nodes listings before.top before.is_root.path (a.held.each before.top (subst (λ (os : List Object). Contains os before.top) (sym before.objects) (first_in before.top (held listings)))) in
      let same : root ≡ was.0 = same_node root was.0 (sym root_is ∙ was.1) in
      sym (ap (λ (n : Node). n.entry.len) same ∙ ap (λ (x : Entry). x.len) was.2 ∙ ap (λ (x : Entry). x.len) before.is_root.entry)
