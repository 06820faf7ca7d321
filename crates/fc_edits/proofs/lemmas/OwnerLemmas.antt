-- The owners follow the listings after an edit.
use Rattle.std.proofs.Common.{◌≡◌, ◌⊎◌, inl, inr, ⊎_elim, ℕ, List, [], ◌∷◌, ◌++◌, map, flat_map, refl, sym, ap, ap₂, subst, ◌∙◌, Some}
use Rattle.std.specs.Prelude.{Contains, IsPermutation, remove}
use Rattle.std.proofs.lemmas.List.Elements.{Contains-append_cases, Contains-append_left, Contains-append_right}
use Rattle.std.proofs.lemmas.List.Sorted.{IsPermutation-cons, IsPermutation-middle, IsPermutation-sym, IsPermutation-trans}
use Rattle.fc_names.specs.Names.{Path}
use Rattle.fc_model.specs.Tree.{holder}
use Rattle.fc_dirs.specs.declared.Entry.{Entry}
use Rattle.fc_alloc.specs.declared.owner.Owner.{Owner}
use Rattle.fc_image.specs.Layout.{Layout}
use Rattle.fc_image.specs.Walk.{Object, Listing}
use Rattle.fc_image.specs.Objects.{objects_of}
use Rattle.fc_image.specs.Order.{held}
use Rattle.fc_image.specs.Sound.{AreSound}
use Rattle.fc_tree.specs.Nodes.{number_of}
use Rattle.fc_tree.specs.Parts.{AreOwners, first_in, owner_of}
use Rattle.fc_tree.proofs.MemberLemmas.{contains_here, from_flat, from_map, in_map, no_element}
use Rattle.fc_tree.proofs.WalkedLemmas.{child_is_object, child_path, holder-push, place_of, root_path}
use Rattle.fc_laws.specs.nodes.Edits.{Nodes, OwnersEdited, OwnersFollow, owner_with, owners_with}
use Rattle.fc_laws.specs.nodes.Laws.{IsHeld, IsOwned}
use Rattle.fc_laws.proofs.lemmas.nodes.FitsLemmas.{fits, kid_lower, not_pushed}
use Rattle.fc_laws.proofs.lemmas.nodes.ListLemmas.{cut_at, in_first}
use Rattle.fc_laws.proofs.lemmas.nodes.OwnerLemmas.{KeepsOwner, among-append, among_one, among_permuted, found_objects, keeps_owner, owner_known, owners_among, owners_edited}
use Rattle.fc_edits.specs.NodesEdit.{NodesEdit, NodesLaw}
use Rattle.fc_edits.specs.Edit.{Amended, Edit, IsEdit, TopStays, TopTurns, joined_in, joining, leaving, left_in, listings_after, now, objects, owners_in, owners_joined, owners_left, still, turned}
use Rattle.fc_edits.proofs.lemmas.NumberLemmas as n_
use Rattle.fc_edits.proofs.lemmas.PathNumberLemmas as paths
use Rattle.fc_edits.proofs.lemmas.FollowLemmas.{held_now, nodes_follow}
use Rattle.fc_image.proofs.TreeLemmas.{map_both as map_append}
use Rattle.fc_image.proofs.EntriesLemmas.{later as contains_later, cases as contains_cases}

-- the owners among objects that are numbered
pub among_list : (nodes : Nodes) (layout : Layout) (dir : ℕ) (ps : List (ℕ × Object)) → ((p : ℕ × Object) → Contains ps p → owner_of nodes layout p.1 ≡ owner_with layout dir p.0 p.1)
    → owners_among nodes layout (objects ps) ≡ owners_in layout dir ps
among_list nodes layout dir [] each = refl
among_list nodes layout dir (p ∷ ps) each =
    among-append nodes layout (p.1 ∷ []) (objects ps)
    ∙ ap₂ (λ (a b : List Owner). a ++ b) (among_one nodes layout layout p.1 dir p.0 (each p (contains_here p ps))) (among_list nodes layout dir ps (λ q at. each q (contains_later p q ps at)))

pub among_all : (nodes : Nodes) (layout : Layout) (f : Amended → List (ℕ × Object)) (bs : List Amended)
    → ((a : Amended) (p : ℕ × Object) → Contains bs a → Contains (f a) p → owner_of nodes layout p.1 ≡ owner_with layout a.number p.0 p.1)
    → owners_among nodes layout (objects (flat_map f bs)) ≡ flat_map (λ (a : Amended). owners_in layout a.number (f a)) bs
among_all nodes layout f [] each = refl
among_all nodes layout f (a ∷ bs) each =
    ap (owners_among nodes layout) (map_append (λ (p : ℕ × Object). p.1) (f a) (flat_map f bs)) ∙ among-append nodes layout (objects (f a)) (objects (flat_map f bs))
    ∙ ap₂ (λ (x y : List Owner). x ++ y) (among_list nodes layout a.number (f a) (λ p at. each a p (contains_here a bs) at))
    (among_all nodes layout f bs (λ b p at own. each b p (contains_later a b bs at) own))

module _ (ne : NodesEdit) (layout' : Layout) where
  abbrev pub nodes : Nodes
  nodes = ne.nodes

  abbrev pub nodes' : Nodes
  nodes' = ne.nodes'

  abbrev pub layout : Layout
  layout = ne.layout

  abbrev pub listings : List Listing
  listings = ne.listings

  abbrev pub e : Edit
  e = ne.edit

  abbrev pub h : IsHeld nodes layout listings
  h = ne.held

  abbrev pub is : IsEdit nodes listings e
  is = ne.is_edit

  abbrev stay : List Listing
  stay = n_.stay ne

  abbrev kids : List Object
  kids = n_.kids ne

  abbrev top : Object
  top = n_.top ne

  stay_in : (k : Listing) → Contains stay k → Contains listings k
  stay_in = n_.stay_in ne

  top_path : top.path ≡ []
  top_path = root_path layout listings h.sound

  turned_path : (e.turn top).path ≡ []
  turned_path = is.top_path top (n_.top_in ne) top_path

  -- ---- owners by their numbers

  left_owner : (a : Amended) (p : ℕ × Object) → Contains e.amended a → Contains a.leave p → owner_of nodes layout p.1 ≡ owner_with layout a.number p.0 p.1
  left_owner a p at leaves =
      let i = is.amends a at in
      let kid = in_first a.was.children (objects a.leave ++ a.kids) i.held p.1 (Contains-append_left (objects a.leave) a.kids p.1 (in_map (λ (x : ℕ × Object). x.1) a.leave p leaves)) in
      let path = child_path layout listings h.sound a.was p.1 (stay_in a.was (n_.was_in ne a at)) kid in
      owner_known nodes layout layout p.1 a.number p.0 (ap (number_of nodes) (ap holder path ∙ holder-push a.was.object.path p.1.entry.name) ∙ i.number_is) (i.left p leaves) (λ low. refl)

  joined_owner : (a : Amended) (p : ℕ × Object) → Contains e.amended a → Contains a.join p → owner_of nodes' layout' p.1 ≡ owner_with layout' a.number p.0 p.1
  joined_owner a p at joins =
      let i = is.amends a at in
      let u : n_.Up ne p.0 p.1 = (a.number, a.was, n_.join_in ne a p at joins) in
      let dir = paths.number_dir ne a.was a.number (n_.was_in ne a at) i.number_is in
      owner_known nodes' layout' layout' p.1 a.number p.0 (ap (number_of nodes') (ap holder (i.paths p joins) ∙ holder-push (e.turn a.was.object).path p.1.entry.name) ∙ dir)
      (paths.number_up ne p.0 p.1 u) (λ low. refl)

  left_owners : owners_among nodes layout (objects (leaving e)) ≡ owners_left layout e
  left_owners =
      ap (owners_among nodes layout) (map_append (λ (p : ℕ × Object). p.1) e.top_leave (left_in e)) ∙ among-append nodes layout (objects e.top_leave) (objects (left_in e))
      ∙ ap₂ (λ (x y : List Owner). x ++ y) (among_list nodes layout 0 e.top_leave own) (among_all nodes layout (λ (a : Amended). a.leave) e.amended left_owner)
    where
      own : (p : ℕ × Object) → Contains e.top_leave p → owner_of nodes layout p.1 ≡ owner_with layout 0 p.0 p.1
      own p at = by (is.top top (n_.top_in ne) top_path)
        where
          by : TopStays e top ⊎ TopTurns e top → owner_of nodes layout p.1 ≡ owner_with layout 0 p.0 p.1
          by (inl t) = absurd (no_element p (subst (λ (ps : List (ℕ × Object)). Contains ps p) t.leaves at))
          by (inr t) =
              ⊎_elim
              (λ same. subst (λ (q : ℕ × Object). owner_of nodes layout q.1 ≡ owner_with layout 0 q.0 q.1) same
              (owner_known nodes layout layout top 0 0 (ap (λ (q : Path). number_of nodes (holder q)) top_path) (ap (number_of nodes) top_path) (λ low. refl)))
              (λ later. absurd (no_element p later)) (contains_cases (0, top) p [] (subst (λ (ps : List (ℕ × Object)). Contains ps p) t.leaves at))

  joined_owners : owners_among nodes' layout' (objects (joining e)) ≡ owners_joined layout' e
  joined_owners =
      ap (owners_among nodes' layout') (map_append (λ (p : ℕ × Object). p.1) e.top_join (joined_in e)) ∙ among-append nodes' layout' (objects e.top_join) (objects (joined_in e))
      ∙ ap₂ (λ (x y : List Owner). x ++ y) (among_list nodes' layout' 0 e.top_join own) (among_all nodes' layout' (λ (a : Amended). a.join) e.amended joined_owner)
    where
      own : (p : ℕ × Object) → Contains e.top_join p → owner_of nodes' layout' p.1 ≡ owner_with layout' 0 p.0 p.1
      own p at = by (is.top top (n_.top_in ne) top_path)
        where
          by : TopStays e top ⊎ TopTurns e top → owner_of nodes' layout' p.1 ≡ owner_with layout' 0 p.0 p.1
          by (inl t) = absurd (no_element p (subst (λ (ps : List (ℕ × Object)). Contains ps p) t.joins at))
          by (inr t) =
              ⊎_elim
              (λ same. subst (λ (q : ℕ × Object). owner_of nodes' layout' q.1 ≡ owner_with layout' 0 q.0 q.1) same
              (owner_known nodes' layout' layout' (e.turn top) 0 0 (ap (λ (q : Path). number_of nodes' (holder q)) turned_path) (ap (number_of nodes') turned_path) (λ low. refl)))
              (λ later. absurd (no_element p later)) (contains_cases (0, e.turn top) p [] (subst (λ (ps : List (ℕ × Object)). Contains ps p) t.joins at))

  -- ---- owners that stay

  module _ (first : (low : ℕ) → first_in layout' low ≡ first_in layout low) where
    keeps_in : (k : Listing) (p : Object) → Contains stay k → Contains k.children p → Contains kids p → KeepsOwner nodes nodes' layout layout' p (e.turn p)
    keeps_in k p at kid left =
        let listed = stay_in k at in
        let d = fits layout listings nodes h.sound h.held k listed in
        let c = d.1.kids p kid in
        let lower = kid_lower layout listings nodes h.sound h.held k p c.0 listed kid c.1.at in
        let stays = n_.kid_stays ne p c.0 left lower c.1.at in
        let among = child_is_object layout listings h.sound k p listed kid in
        let keeps = is.keeps p c.0 among c.1.at stays in
        let u = n_.kid_in ne k p d.0 c.0 at kid d.1.at c.1.at stays in
        let dir = paths.number_dir ne k d.0 at d.1.at in
        keeps_owner nodes nodes' layout layout' p (e.turn p) d.0 c.0 (ap (number_of nodes) (ap holder c.1.path_is ∙ holder-push k.object.path p.entry.name) ∙ d.1.at) c.1.at
        (ap (number_of nodes') (ap holder u.path ∙ holder-push (e.turn k.object).path (e.turn p).entry.name) ∙ dir) (paths.number_up ne c.0 (e.turn p) (d.0, k, u)) keeps.sectors
        (ap (λ (x : Entry). x.address) keeps.entry) (is.kinds p) first

    kid_keeps : (p : Object) → Contains kids p → KeepsOwner nodes nodes' layout layout' p (e.turn p)
    kid_keeps p at =
        ⊎_elim
        (λ amended.
        let a = from_flat (λ (b : Amended). b.kids) e.amended p amended in
        let kid = in_first a.0.was.children (objects a.0.leave ++ a.0.kids) (is.amends a.0 a.1).held p (Contains-append_right (objects a.0.leave) a.0.kids p a.2) in
        keeps_in a.0.was p (n_.was_in ne a.0 a.1) kid at)
        (λ same. let k = from_flat (λ (l : Listing). l.children) e.same p same in keeps_in k.0 p (n_.same_in ne k.0 k.1) k.2 at)
        (Contains-append_cases (flat_map (λ (b : Amended). b.kids) e.amended) (held e.same) p at)

    top_keeps : TopStays e top → KeepsOwner nodes nodes' layout layout' top (e.turn top)
    top_keeps t =
        keeps_owner nodes nodes' layout layout' top (e.turn top) 0 0 (ap (λ (q : Path). number_of nodes (holder q)) top_path) (ap (number_of nodes) top_path)
        (ap (λ (q : Path). number_of nodes' (holder q)) turned_path) (ap (number_of nodes') turned_path) t.keeps.sectors (ap (λ (x : Entry). x.address) t.keeps.entry) (is.kinds top) first

  -- ---- all objects afterwards

  tops : (l : Listing) → Contains (listings_after e) l → l.object.path ≡ [] → l.object ≡ e.turn top
  tops l at path =
      ⊎_elim (λ new. absurd (came (from_map (λ (x : ℕ × Listing). x.1) e.into l new)))
      (λ old. ⊎_elim
      (λ other.
      let a = from_map (now e) e.amended l other in
      stayed a.0.was (n_.was_in ne a.0 a.1) (ap (λ (k : Listing). k.object) a.2))
      (λ same.
      let k = from_map (still e) e.same l same in
      stayed k.0 (n_.same_in ne k.0 k.1) (ap (λ (k : Listing). k.object) k.2))
      (Contains-append_cases (map (now e) e.amended) (map (still e) e.same) l old))
      (Contains-append_cases (map (λ (x : ℕ × Listing). x.1) e.into) (map (now e) e.amended ++ map (still e) e.same) l at)
    where
      came : (d : ℕ × Listing) × Contains e.into d × (d.1 ≡ l) → ⊥
      came d =
          let joins = in_first (joined_in e) (e.come ++ map (turned e) e.moving) is.joined (d.0.0, d.0.1.object)
          (Contains-append_left e.come (map (turned e) e.moving) (d.0.0, d.0.1.object) (is.into_joins d.0 d.1)) in
          let u = n_.joined_up ne (d.0.0, d.0.1.object) joins in
          not_pushed (e.turn u.1.object).path d.0.1.object.entry.name (sym (ap (λ (k : Listing). k.object.path) d.2 ∙ path) ∙ u.2.path)

      stayed : (k : Listing) → Contains stay k → e.turn k.object ≡ l.object → l.object ≡ e.turn top
      stayed k stays same =
          let d = fits layout listings nodes h.sound h.held k (stay_in k stays) in
          ⊎_elim (λ is_top. sym same ∙ ap e.turn (sym is_top))
          (λ u. absurd (not_pushed (e.turn u.1.object).path (e.turn k.object).entry.name (sym (ap (λ (o : Object). o.path) same ∙ path) ∙ u.2.path)))
          (n_.dir_up ne k d.0 stays d.1.at)

  pub objects_now : (found : List Listing) → AreSound layout' found → IsPermutation (listings_after e) found
      → IsPermutation (objects_of found) (e.turn top ∷ (objects (joined_in e) ++ map e.turn kids))
  objects_now found sound same =
      IsPermutation-trans (objects_of found) (e.turn top ∷ held (listings_after e)) (e.turn top ∷ (objects (joined_in e) ++ map e.turn kids))
      (found_objects layout' (listings_after e) found (e.turn top) sound same tops)
      (IsPermutation-cons (e.turn top) (held (listings_after e)) (objects (joined_in e) ++ map e.turn kids) (held_now ne))

  pub owners_follow : (owners owners' : List Owner) → IsOwned owners nodes layout layout' listings → OwnersEdited owners owners' (owners_left layout e) (owners_joined layout' e)
      → OwnersFollow owners' nodes' layout' (listings_after e)
  owners_follow owners owners' owned edited found sound same = by (is.top top (n_.top_in ne) top_path)
    where
      all : IsPermutation (objects_of listings) (top ∷ (objects (left_in e) ++ kids))
      all = n_.all_parted ne

      after : IsPermutation (objects_of found) (e.turn top ∷ (objects (joined_in e) ++ map e.turn kids))
      after = objects_now found sound same

      edited' : OwnersEdited owners owners' (owners_among nodes layout (objects (leaving e))) (owners_among nodes' layout' (objects (joining e)))
      edited' =
          subst (λ (ws : List Owner). OwnersEdited owners owners' ws (owners_among nodes' layout' (objects (joining e)))) (sym left_owners)
          (subst (λ (ws : List Owner). OwnersEdited owners owners' (owners_left layout e) ws) (sym joined_owners) edited)

      by : TopStays e top ⊎ TopTurns e top → AreOwners owners' nodes' layout' (objects_of found)
      by (inl t) =
          owners_edited nodes nodes' layout layout' e.turn (objects_of listings) (objects_of found) (objects (leaving e)) (objects (joining e)) (top ∷ kids) owners owners'
          (subst (λ (ps : List (ℕ × Object)). IsPermutation (objects_of listings) (objects (ps ++ left_in e) ++ top ∷ kids)) (sym t.leaves)
          (IsPermutation-trans (objects_of listings) (top ∷ (objects (left_in e) ++ kids)) (objects (left_in e) ++ top ∷ kids) all
          (IsPermutation-sym (objects (left_in e) ++ top ∷ kids) (top ∷ (objects (left_in e) ++ kids)) (IsPermutation-middle (objects (left_in e)) top kids))))
          (subst (λ (ps : List (ℕ × Object)). IsPermutation (objects_of found) (objects (ps ++ joined_in e) ++ e.turn top ∷ map e.turn kids)) (sym t.joins)
          (IsPermutation-trans (objects_of found) (e.turn top ∷ (objects (joined_in e) ++ map e.turn kids)) (objects (joined_in e) ++ e.turn top ∷ map e.turn kids) after
          (IsPermutation-sym (objects (joined_in e) ++ e.turn top ∷ map e.turn kids) (e.turn top ∷ (objects (joined_in e) ++ map e.turn kids)) (IsPermutation-middle (objects (joined_in e)) (e.turn top) (map e.turn kids)))))
          (λ p at. ⊎_elim (λ same'. subst (λ (x : Object). KeepsOwner nodes nodes' layout layout' x (e.turn x)) same' (top_keeps owned.first t)) (λ later. kid_keeps owned.first p later) (contains_cases top p kids at))
          edited' owned.owned
      by (inr t) =
          owners_edited nodes nodes' layout layout' e.turn (objects_of listings) (objects_of found) (objects (leaving e)) (objects (joining e)) kids owners owners'
          (subst (λ (ps : List (ℕ × Object)). IsPermutation (objects_of listings) (objects (ps ++ left_in e) ++ kids)) (sym t.leaves) all)
          (subst (λ (ps : List (ℕ × Object)). IsPermutation (objects_of found) (objects (ps ++ joined_in e) ++ map e.turn kids)) (sym t.joins) after)
          (λ p at. kid_keeps owned.first p at) edited' owned.owned

-- ---- owners that stay as they are

-- An object that keeps its owner leaves it among the owners.
pub owners_stay : (nodes : Nodes) (layout : Layout) (listings : List Listing) → IsHeld nodes layout listings → (l : Listing) (o : Object) (dir number : ℕ) → Contains listings l → Contains l.children o
    → number_of nodes l.object.path ≡ Some dir → number_of nodes o.path ≡ Some number → (owners : List Owner) → AreOwners owners nodes layout (objects_of listings)
    → OwnersEdited owners owners (owners_with layout dir number o) (owners_with layout dir number o)
owners_stay nodes layout listings h l o dir number listed kid dir_is number_is owners owned =
    let i = place_of (objects_of listings) o (child_is_object layout listings h.sound l o listed kid) in
    let others : List Object = remove (objects_of listings) i.0 in
    let path = child_path layout listings h.sound l o listed kid in
    let own = owner_known nodes layout layout o dir number (ap (number_of nodes) (ap holder path ∙ holder-push l.object.path o.entry.name) ∙ dir_is) number_is (λ low. refl) in
    let all : IsPermutation owners (owners_with layout dir number o ++ owners_among nodes layout others) =
    subst (IsPermutation owners)
    (among-append nodes layout (o ∷ []) others ∙ ap (λ (ws : List Owner). ws ++ owners_among nodes layout others) (among_one nodes layout layout o dir number own))
    (IsPermutation-trans owners (owners_among nodes layout (objects_of listings)) (owners_among nodes layout (o ∷ others)) owned
    (among_permuted nodes layout (objects_of listings) (o ∷ others) (cut_at (objects_of listings) i.0 o i.1))) in
    record { rest = owners_among nodes layout others; before = all; after = all }

pub nodes_law : NodesLaw
nodes_law = record { nodes = λ x. nodes_follow x; owners = λ x layout' owners owners' owned edited. owners_follow x layout' owners owners' owned edited }
