-- `rename` that copies its file, by the laws of edits.
use Rattle.std.proofs.Common.{◌≡◌, ℕ, List, [], ◌++◌, refl, sym, subst, ◌∙◌, Some}
use Rattle.std.specs.Prelude.{Contains}
use Rattle.std.proofs.lemmas.List.{append-nil}
use Rattle.fc_alloc.specs.declared.owner.Owner.{Owner}
use Rattle.fc_image.specs.Layout.{Layout}
use Rattle.fc_image.specs.Walk.{Listing, Object}
use Rattle.fc_image.specs.Objects.{objects_of}
use Rattle.fc_tree.specs.Nodes.{number_of}
use Rattle.fc_laws.specs.nodes.Edits.{Nodes, OwnersEdited, owners_with}
use Rattle.fc_laws.specs.nodes.Laws.{IsHeld}
use Rattle.fc_laws.specs.agree.Agreed.{CanSay}
use Rattle.fc_laws.proofs.lemmas.agree.BeforeLemmas.{sound}
use Rattle.fc_edits.specs.Edit.{Amended, AreEdited, IsEdit, owners_joined, owners_left}
use Rattle.fc_edits.specs.Copying.{Copies, Copying, CopyingLaw, IsCopying, NewCopying, copied, edit, new_path}
use Rattle.fc_edits.specs.NewNodes.{nodes_after}
use Rattle.fc_edits.specs.NewPlaces.{NewPlaces}
use Rattle.fc_edits.specs.PartsEdit.{NewPartsEdit}
use Rattle.fc_edits.specs.Places.{CanSayAll}
use Rattle.fc_edits.specs.Placing.{Placing, takings_of}
use Rattle.fc_edits.proofs.lemmas.AddedPlaceLemmas.{placed_so}
use Rattle.fc_edits.proofs.lemmas.NewAgreeLemmas.{agree_now}
use Rattle.fc_edits.proofs.lemmas.NewPlaceLemmas.{places_fit}
use Rattle.fc_edits.proofs.lemmas.CopiesLemmas as c_
use Rattle.fc_tree.proofs.EndLemmas.{no_twin as apart_names}

pub is_copy : (c : Copying) → copied c c.o ≡ record { path = new_path c; entry = record c.o.entry { name = c.name; address = c.address }; sectors = c.sectors }
is_copy = c_.is_copy

pub copies : (nodes : Nodes) (layout : Layout) (listings : List Listing) (c : Copying) → IsCopying nodes layout listings c → Copies nodes listings c
copies nodes layout listings c g = record {
  found = g.found;
  home_is = g.home_is;
  dir_is = g.dir_is;
  number_is = g.number_is;
  file = g.file;
  k_holds = g.k_holds;
  k_children = g.k_children;
  k_entries = g.k_entries;
  k_apart = apart_names c.k_content g.k_can.body;
  l_children = g.l_children;
  l_entries = g.l_entries;
  l_apart = apart_names c.l_content g.l_can.body;
}

module _ (nodes : Nodes) (layout : Layout) (listings : List Listing) (c : Copying) (h : IsHeld nodes layout listings) (g : IsCopying nodes layout listings c) where
  abbrev cs : Copies nodes listings c
  cs = copies nodes layout listings c g

  pub k_in : Contains listings c.k
  k_in = c_.k_in nodes layout listings c h cs

  pub l_in : Contains listings c.l
  l_in = c_.l_in nodes layout listings c h cs

  pub kid_in : Contains c.k.children c.o
  kid_in = c_.kid_in nodes layout listings c h cs

  pub among : Contains (objects_of listings) c.o
  among = c_.among nodes layout listings c h cs

  pub stays : (p : Object) (n : ℕ) → number_of nodes p.path ≡ Some n → (n ≡ c.number → ⊥) → copied c p ≡ p
  stays = c_.stays nodes layout listings c h cs

  pub dir_stays : (k : Listing) → Contains listings k → copied c k.object ≡ k.object
  dir_stays = c_.dir_stays nodes layout listings c h cs

  pub is_edit : IsEdit nodes listings (edit c)
  is_edit = c_.is_edit nodes layout listings c h cs

  pub are_edited : AreEdited nodes (nodes_after (edit c) nodes) (edit c)
  are_edited = c_.are_edited nodes layout listings c h cs

  pub can_say : CanSayAll layout listings (edit c)
  can_say =
      let new = c_.can_new nodes layout listings c h cs in
      record {
        few = new.few;
        amended = c_.of_both c (λ (a : Amended). CanSay layout (copied c a.was.object) a.content) (subst (λ (p : Object). CanSay layout p c.k_content) (sym (dir_stays c.k k_in)) g.k_can)
            (subst (λ (p : Object). CanSay layout p c.l_content) (sym (dir_stays c.l l_in)) g.l_can);
        into = new.into;
        into_none = new.into_none;
        same = new.same;
        root = λ p at path t. absurd (let none = t.leaves in cc);
      }

-- ---- the owners

pub owners_as : (layout layout' : Layout) (owners owners' : List Owner) (c : Copying) → OwnersEdited owners owners' (owners_with layout c.home c.number c.o) (owners_with layout' c.dir c.number (copied c c.o))
    → OwnersEdited owners owners' (owners_left layout (edit c)) (owners_joined layout' (edit c))
owners_as layout layout' owners owners' c edited =
    let none : (ws : List Owner) → (ws ++ []) ++ [] ≡ ws = λ ws. append-nil (ws ++ []) ∙ append-nil ws in
    subst (λ (ws : List Owner). OwnersEdited owners owners' ws (owners_joined layout' (edit c))) (sym (none (owners_with layout c.home c.number c.o)))
    (subst (λ (ws : List Owner). OwnersEdited owners owners' (owners_with layout c.home c.number c.o) ws) (sym (none (owners_with layout' c.dir c.number (copied c c.o)))) edited)

-- ---- on a new map

pub new_places : (x : NewCopying) → NewPlaces x.kind x.m x.m' x.nodes x.listings (edit x.c) (takings_of x.id x.parts) x.gone
new_places x =
    let p : Placing = record {
      kind = x.kind;
      m = x.m;
      m' = x.m';
      nodes = x.nodes;
      owners = x.owners;
      root = x.root;
      listings = x.listings;
      edit = edit x.c;
      number = x.c.number;
      o = copied x.c x.c.o;
      id = x.id;
      parts = x.parts;
      gone = x.gone;
      stay = x.stay;
      near = x.near;
      agreed = x.agreed;
      joins = refl;
      is_map = x.is_map;
      geometry = x.geometry;
      space = x.space;
      others = x.others;
      gives = x.gives;
      at = x.at;
      place = x.place;
    } in
    placed_so p

abbrev pub new_held : (x : NewCopying) → IsHeld x.nodes (Layout.New x.m) x.listings
new_held x = record { sound = sound x.kind x.m x.nodes x.owners x.root x.listings x.agreed; held = x.agreed.walked.held }

abbrev pub new_parts : NewCopying → NewPartsEdit
new_parts x =
    let is = is_edit x.nodes (Layout.New x.m) x.listings x.c (new_held x) x.copying in
    record {
      kind = x.kind;
      m = x.m;
      m' = x.m';
      nodes = x.nodes;
      nodes' = x.nodes';
      owners = x.owners;
      owners' = x.owners';
      root = x.root;
      listings = x.listings;
      edit = edit x.c;
      agreed = x.agreed;
      is_edit = is;
      nodes_edited = x.nodes_edited;
      fit = places_fit x.kind x.m x.m' x.nodes x.owners x.root x.listings (edit x.c) (takings_of x.id x.parts) x.gone x.agreed is (new_places x);
      can = can_say x.nodes (Layout.New x.m) x.listings x.c (new_held x) x.copying;
      owners_edited = owners_as (Layout.New x.m) (Layout.New x.m') x.owners x.owners' x.c x.owners_edited;
    }

pub copying_law : CopyingLaw
copying_law = record {
  is_edit = is_edit;
  nodes = are_edited;
  owners = owners_as;
  can = can_say;
  new_places = new_places;
  new = λ x. agree_now (new_parts x);
}
