-- Any edit of the objects of parts whose nodes are walked, whatever the maps are before and after it.
use Rattle.std.proofs.Common.{◌≡◌, ◌≤◌, ℕ, ◌+◌, List, ◌∷◌, ◌++◌, length, map, sym, ap, subst, ◌∙◌, Some}
use Rattle.std.specs.Prelude.{Ok, Contains, IsPermutation}
use Rattle.std.specs.FinMap.{get}
use Rattle.std.proofs.lemmas.List.Sorted.{Contains-permutation, IsPermutation-sym}
use Rattle.fc_record.specs.declared.Kind.{Kind}
use Rattle.fc_dirs.specs.Directory.{directory_size}
use Rattle.fc_dirs.specs.declared.Entry.{Entry}
use Rattle.fc_alloc.specs.declared.owner.Owner.{Owner}
use Rattle.fc_image.specs.Layout.{Layout, dir_form, disc_sectors}
use Rattle.fc_image.specs.Walk.{Listing, Object, Reader, walk}
use Rattle.fc_image.specs.Objects.{objects_of}
use Rattle.fc_image.specs.Opening.{reserved_in}
use Rattle.fc_image.specs.Sound.{AreSound}
use Rattle.fc_image.specs.Edits.{Apart, IsRoot, StayListed}
use Rattle.fc_image.specs.Order.{held}
use Rattle.fc_image.specs.EditedWalk.{IsRelisting, IsWalkEdit, IsWalkedAgain}
use Rattle.fc_image.proofs.OrderLemmas.{order_law}
use Rattle.fc_image.proofs.RelistLemmas.{edited_walk_law, root_once}
use Rattle.fc_tree.specs.declared.node.Node.{Node}
use Rattle.fc_tree.specs.Agree.{AreWalked, HasForm, IsDirectory, reader_of_nodes}
use Rattle.fc_tree.specs.Nodes.{HoldObjects}
use Rattle.fc_tree.specs.Parts.{AreOwners}
use Rattle.fc_changes.proofs.BasicLemmas.{first_in}
use Rattle.fc_laws.specs.nodes.Edits.{Nodes}
use Rattle.fc_laws.specs.agree.Agreed.{PartsFollow}
use Rattle.fc_laws.proofs.lemmas.agree.WalkedLemmas.{Had, had, root_node}
use Rattle.fc_tree.proofs.EndLemmas.{no_twin as apart_names}

module _ (kind : Kind) (layout layout' : Layout) (nodes nodes' : Nodes) (owners' : List Owner) (root : Node) (listings listings' : List Listing)
    (a : AreWalked nodes layout (reserved_in kind layout) root.entry.address root.entry.len listings) (g : Object → Object) (gone come kept : List Object) (address size : ℕ) where
  abbrev before : Had kind layout nodes root listings a
  before = had kind layout nodes root listings a

  abbrev reserved : List ℕ
  reserved = reserved_in kind layout'

  -- Objects go, come and change, and the nodes say so. The root lies where these numbers say.
  pub record IsWalkedEdit : Type 0 where
    pub relisted : IsRelisting g listings listings' gone come kept
    pub room : length listings' ≤ disc_sectors layout' + 1
    pub say : StayListed (reader_of_nodes nodes') layout' listings'
    pub root_now : IsRoot layout' address size (g before.top)
    pub whole : directory_size (dir_form layout') size ≡ size
    pub apart : Apart reserved (come ++ map g (before.top ∷ kept))
    pub forms : (l : Listing) → Contains listings' l → HasForm (dir_form layout') l.object.entry.len l.content
    pub bodies : (l : Listing) → Contains listings' l → IsDirectory l.content
    pub follow : PartsFollow nodes' owners' layout' listings'

  -- These listings are found, in some order, with these objects.
  pub record AreWalkedNow : Type 0 where
    pub node : Node
    pub root_is : get nodes' 0 ≡ Some node
    pub found : List Listing
    pub walked : AreWalked nodes' layout' reserved node.entry.address node.entry.len found
    pub owned : AreOwners owners' nodes' layout' (objects_of found)
    pub order : IsPermutation listings' found
    pub objects : IsPermutation (objects_of found) (come ++ map g (before.top ∷ kept))

  module _ (e : IsWalkedEdit) where
    abbrev read' : Reader
    read' = reader_of_nodes nodes'

    is : IsWalkEdit (reader_of_nodes nodes) read' layout layout' (reserved_in kind layout) reserved root.entry.address address root.entry.len size g listings listings' gone come kept
    is = record {
      walked = a.walked;
      relisted = e.relisted;
      say = e.say;
      root = λ p r. subst (λ (o : Object). IsRoot layout' address size (g o)) (root_once layout root.entry.address root.entry.len before.top p before.is_root r) e.root_now;
      apart = λ p r. subst (λ (o : Object). Apart reserved (come ++ map g (o ∷ kept))) (root_once layout root.entry.address root.entry.len before.top p before.is_root r) e.apart;
      room = e.room;
    }

    again : IsWalkedAgain read' layout layout' reserved root.entry.address address root.entry.len size g listings listings' gone come kept
    again = edited_walk_law.again (reader_of_nodes nodes) read' layout layout' (reserved_in kind layout) reserved root.entry.address address root.entry.len size g listings listings' gone come kept is

    abbrev found : List Listing
    found = again.found

    objects_now : IsPermutation (objects_of found) (come ++ map g (before.top ∷ kept))
    objects_now =
        subst (λ (o : Object). IsPermutation (objects_of found) (come ++ map g (o ∷ kept))) (root_once layout root.entry.address root.entry.len again.root before.top again.is_root before.is_root) again.after

    listed_back : (l : Listing) → Contains found l → Contains listings' l
    listed_back l at = Contains-permutation found listings' l (IsPermutation-sym listings' found again.order) at

    sound_now : AreSound layout' found
    sound_now = record {
      read = read';
      reserved = reserved;
      address = address;
      size = size;
      walked = again.walked;
      apart = λ l at. apart_names l.content (e.bodies l (listed_back l at));
    }

    held_now : HoldObjects nodes' found
    held_now = e.follow.nodes_follow.hold layout' found sound_now again.order

    root_after : (node : Node) × (get nodes' 0 ≡ Some node) × (node.entry.address ≡ address) × (node.entry.len ≡ size)
    root_after =
        let h = order_law.gives read' layout' reserved address size found again.walked in
        let n = root_node nodes' found h.0 h.1.path (held_now.each h.0 (subst (λ (os : List Object). Contains os h.0) (sym h.4) (first_in h.0 (held found)))) in (
          n.0,
          n.1,
          ap (λ (x : Entry). x.address) (n.2 ∙ h.1.entry),
          ap (λ (x : Entry). x.len) (n.2 ∙ h.1.entry) ∙ e.whole,
        )

    pub walked_after : AreWalkedNow
    walked_after =
        let r = root_after in
        record {
          node = r.0;
          root_is = r.1;
          found = found;
          walked = record {
            walked = subst (λ (n : ℕ). walk read' layout' reserved r.0.entry.address n ≡ Ok found) (sym r.3)
                (subst (λ (n : ℕ). walk read' layout' reserved n size ≡ Ok found) (sym r.2) again.walked);
            held = held_now;
            forms = λ l at. e.forms l (listed_back l at);
            bodies = λ l at. e.bodies l (listed_back l at);
          };
          owned = e.follow.owners_follow found sound_now again.order;
          order = again.order;
          objects = objects_now;
        }
