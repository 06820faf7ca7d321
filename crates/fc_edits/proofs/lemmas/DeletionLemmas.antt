-- `delete`, by the laws of edits.
use Rattle.std.proofs.Common.{◌≡◌, inl, inr, ⊎_elim, ℕ, true, List, [], ◌∷◌, ◌++◌, refl, sym, ap, subst, ◌∙◌, arith, Some, Option, remove}
use Rattle.std.proofs.lemmas.List.{append-nil}
use Rattle.std.specs.Prelude.{Contains}
use Rattle.std.proofs.lemmas.List.Elements.{Contains-append_right}
use Rattle.std.proofs.lemmas.List.Sorted.{IsPermutation-refl}
use Rattle.fc_names.specs.Names.{Path}
use Rattle.fc_dirs.specs.declared.Entry.{Entry}
use Rattle.fc_dirs.specs.Directory.{Directory}
use Rattle.fc_record.specs.declared.Kind.{Kind}
use Rattle.fc_oldmap.specs.OldMap.{OldMapContent, map_units}
use Rattle.fc_oldmap.proofs.SpaceLemmas.{AreHoles-lower}
use Rattle.fc_newmap.specs.Map.{Map}
use Rattle.fc_newmap.specs.NewMap.{IsNewMap}
use Rattle.fc_alloc.specs.declared.owner.Owner.{Owner}
use Rattle.fc_image.specs.Layout.{Layout, is_among}
use Rattle.fc_image.specs.Walk.{Listing, Object}
use Rattle.fc_image.specs.Objects.{objects_of}
use Rattle.fc_tree.specs.declared.node.Node.{Node}
use Rattle.fc_tree.specs.Nodes.{number_of}
use Rattle.fc_tree.proofs.MemberLemmas.{contains_here, no_element}
use Rattle.fc_tree.proofs.SoundLemmas.{children_stored}
use Rattle.fc_tree.proofs.WalkedLemmas.{child_is_object, child_path}
use Rattle.fc_refusals.specs.declared.target.Target.{Target}
use Rattle.fc_laws.specs.nodes.Edits.{Nodes, OwnersEdited, owners_with}
use Rattle.fc_laws.specs.nodes.Laws.{IsHeld}
use Rattle.fc_laws.specs.agree.Agreed.{CanSay}
use Rattle.fc_laws.proofs.lemmas.nodes.ListLemmas.{cut_at, in_first, map_remove}
use Rattle.fc_laws.proofs.lemmas.agree.BeforeLemmas.{sound as new_sound}
use Rattle.fc_laws.proofs.lemmas.agree.CutLemmas.{cut_law}
use Rattle.fc_laws.proofs.lemmas.agree.RemovedLemmas.{gone_listed}
use Rattle.fc_changes.proofs.lemmas.old.SpaceLemmas.{AreGiven, AreSpaced, given, right_before}
use Rattle.fc_laws.specs.old.agree.Laws.{AgreeOn}
use Rattle.fc_laws.proofs.lemmas.old.agree.BeforeLemmas.{sound}
use Rattle.fc_laws.proofs.lemmas.old.agree.DirectoryLemmas.{spaced_parts}
use Rattle.fc_edits.specs.Edit.{Amended, AreEdited, IsAmended, IsEdit, owners_joined, owners_left}
use Rattle.fc_edits.specs.NewNodes.{HasNumbers}
use Rattle.fc_edits.specs.NewPlaces.{GivesBack, IsSpaceChange, NewPlaces}
use Rattle.fc_edits.specs.OldPlaces.{OldPlaces, with_holes}
use Rattle.fc_edits.specs.PartsEdit.{NewPartsEdit, OldPartsEdit}
use Rattle.fc_edits.specs.Places.{CanSayAll}
use Rattle.fc_edits.specs.Deletion.{DeletesTarget, Deletion, DeletionLaw, IsDeletion, NewDeletion, OldDeletion, amended, edit, holes_with_it, nodes_without}
use Rattle.fc_edits.proofs.lemmas.AfterLemmas.{after_law}
use Rattle.fc_edits.proofs.lemmas.NewAgreeLemmas.{agree_law, agree_now}
use Rattle.fc_edits.proofs.lemmas.NewPlaceLemmas.{places_fit}
use Rattle.fc_edits.proofs.lemmas.OldPlaceLemmas.{old_fit}
use Rattle.fc_edits.proofs.lemmas.ShapeLemmas.{as_it_is, not_own, of_one, only}
use Rattle.fc_changes.proofs.DeletedLemmas.{none_held as gone_held}
use Rattle.fc_tree.proofs.EndLemmas.{no_twin as apart_names}

module _ (nodes : Nodes) (layout : Layout) (listings : List Listing) (c : Deletion) (h : IsHeld nodes layout listings) (d : IsDeletion nodes layout listings c) where
  pub l_in : Contains listings c.l
  l_in = in_first listings (c.out ++ c.l ∷ c.rest) d.found c.l (Contains-append_right c.out (c.l ∷ c.rest) c.l (contains_here c.l c.rest))

  pub kid_in : Contains c.l.children c.o
  kid_in = in_first c.l.children (c.o ∷ c.kids) d.holds c.o (contains_here c.o c.kids)

  other : c.dir ≡ c.number → ⊥
  other = not_own nodes layout listings c.l c.o c.dir c.number h l_in kid_in d.dir_is d.number_is

  is_amended : IsAmended nodes (edit c) (amended c)
  is_amended = record {
    number_is = d.dir_is;
    held = d.holds;
    holds = as_it_is (λ (p : Object). p) c.kids (λ p at. refl);
    stored = d.stored;
    apart = apart_names c.content d.can.body;
    left = of_one (λ (p : ℕ × Object). number_of nodes p.1.path ≡ Some p.0) (c.number, c.o) d.number_is;
    paths = λ p at. absurd (no_element p at);
  }

  pub is_edit : IsEdit nodes listings (edit c)
  is_edit = record {
    found = d.found;
    amends = of_one (IsAmended nodes (edit c)) (amended c) is_amended;
    out_gone = gone_listed c.out c.o d.alone;
    out_empty = gone_held c.out c.o d.alone;
    into_come = refl;
    into_empty = λ x at. absurd (no_element x at);
    into_joins = λ x at. absurd (no_element x at);
    left = IsPermutation-refl ((c.number, c.o) ∷ []);
    joined = IsPermutation-refl {X = ℕ × Object} [];
    kinds = λ o. refl;
    top_path = λ o at path. path;
    top = λ o at path. inl (record { leaves = refl; joins = refl; keeps = record { entry = refl; sectors = refl } });
    keeps = λ o n at is stays. record { entry = refl; sectors = refl };
    paths = λ k o n at kid is stays. child_path layout listings h.sound k o at kid;
  }

  has_numbers : HasNumbers nodes (edit c)
  has_numbers = record {
    once = tt;
    gone_once = ((λ at. no_element c.number at), tt);
    into_once = tt;
    lasting = λ n gone at. no_element n at;
    new = λ p at. absurd (no_element p at);
    gone_others = λ a at gone. other (ap (λ (x : Amended). x.number) (only (amended c) a at) ∙ sym (only c.number a.number gone));
    into_others = λ p at. absurd (no_element p at);
  }

  pub are_edited : AreEdited nodes (nodes_without c nodes) (edit c)
  are_edited = after_law nodes layout listings (edit c) h is_edit has_numbers

-- ---- the law

pub can_say : (nodes : Nodes) (layout : Layout) (listings : List Listing) (c : Deletion) → IsDeletion nodes layout listings c → CanSayAll layout listings (edit c)
can_say nodes layout listings c d = record {
  few = omega arith;
  amended = of_one (λ (b : Amended). CanSay layout b.was.object b.content) (amended c) d.can;
  into = λ x at. absurd (no_element x at);
  into_none = λ x at. absurd (no_element x at);
  same = λ k at. refl;
  root = λ o at path t. absurd (let none = t.leaves in cc);
}

pub owners_as : (layout layout' : Layout) (owners owners' : List Owner) (c : Deletion) → OwnersEdited owners owners' (owners_with layout c.dir c.number c.o) []
    → OwnersEdited owners owners' (owners_left layout (edit c)) (owners_joined layout' (edit c))
owners_as layout layout' owners owners' c edited =
    subst (λ (ws : List Owner). OwnersEdited owners owners' ws [])
    (sym (append-nil (owners_with layout c.dir c.number c.o ++ []) ∙ append-nil (owners_with layout c.dir c.number c.o))) edited

of_target : (nodes : Nodes) (layout : Layout) (listings : List Listing) (path : Path) (t : Target) (content : Directory) → IsHeld nodes layout listings
    → (d : DeletesTarget nodes layout listings path t content)
    → (c : Deletion) × IsDeletion nodes layout listings c × (c.l ≡ d.removable.target.listing) × (c.o ≡ d.removable.target.object) × (c.content ≡ content) × (c.dir ≡ t.holder) × (c.number ≡ t.node)
of_target nodes layout listings path t content h d =
    let x = d.removable.target in
    let cut = cut_law.alone layout listings x.listing t.at x.object h.sound x.listed x.at d.removable.empty in
    let stored = map_remove (λ (p : Object). p.entry) x.listing.children t.at ∙ ap (λ (es : List Entry). remove es t.at) (children_stored layout listings h.sound x.listing x.listed) in (
      record { out = cut.0; rest = cut.1; l = x.listing; content = content; kids = remove x.listing.children t.at; o = x.object; dir = t.holder; number = t.node },
      record {
        found = cut.3;
        holds = cut_at x.listing.children t.at x.object x.at;
        dir_is = x.holder_is;
        number_is = x.node_is;
        alone = cut.2;
        stored = stored ∙ sym d.entries;
        can = d.can;
      },
      refl,
      refl,
      refl,
      refl,
      refl,
    )

pub new_places : (kind : Kind) (m m' : Map) (nodes : Nodes) (listings : List Listing) (c : Deletion) (gone : List ℕ) → IsNewMap m' → m'.geometry ≡ m.geometry → IsSpaceChange m m' [] gone
    → GivesBack m [] gone listings (edit c) → NewPlaces kind m m' nodes listings (edit c) [] gone
new_places kind m m' nodes listings c gone is same space gives = record {
  is_map = is;
  geometry = same;
  space = space;
  gives = gives;
  again = λ k taken used. absurd (cc);
  placed = λ p at. absurd (no_element p at);
  lies = λ p at. absurd (no_element p at);
  pairs = tt;
}

module _ (kind : Kind) (space : OldMapContent) (nodes : Nodes) (owners : List Owner) (root : Node) (listings : List Listing) (c : Deletion) (a : AgreeOn kind space nodes owners root listings)
    (d : IsDeletion nodes (Layout.Old space) listings c) where
  pub old_held : IsHeld nodes (Layout.Old space) listings
  old_held = record { sound = sound kind space nodes owners root listings a; held = a.walked.held }

  o_in : Contains (objects_of listings) c.o
  o_in = child_is_object (Layout.Old space) listings old_held.sound c.l c.o (l_in nodes (Layout.Old space) listings c old_held d) (kid_in nodes (Layout.Old space) listings c old_held d)

  pub spaced : AreSpaced kind space (objects_of listings)
  spaced = spaced_parts kind space nodes owners root listings a

  pub freed : AreGiven kind space (objects_of listings) spaced (Some c.o) space.holes (holes_with_it space c)
  freed =
      given kind space (objects_of listings) spaced (Some c.o) (λ p is. subst (λ (x : Object). Contains (objects_of listings) x) (some_same c.o p is) o_in) space.holes
      (right_before kind space (objects_of listings) spaced)
    where
      some_same : (x y : Object) → (let q : Option Object = Some x in q) ≡ Some y → x ≡ y
      some_same x y e = cc

  pub old_places : OldPlaces space (holes_with_it space c) (edit c)
  old_places = record {
    left = λ s i. ⊎_elim (λ was. inl was) (λ q. inr ((c.number, c.o), contains_here (c.number, c.o) [], subst (λ (p : Object). is_among p.sectors s ≡ true) (sym (only c.o q.0 q.1)) q.2)) (freed.left s i);
    placed = λ p at. absurd (no_element p at);
    lies = λ p at. absurd (no_element p at);
    free = λ p at. absurd (no_element p at);
    pairs = tt;
  }

-- ---- the parts

abbrev pub new_parts : NewDeletion → NewPartsEdit
new_parts x =
    let h : IsHeld x.nodes (Layout.New x.m) x.listings = record { sound = new_sound x.kind x.m x.nodes x.owners x.root x.listings x.agreed; held = x.agreed.walked.held } in
    let is = is_edit x.nodes (Layout.New x.m) x.listings x.c h x.deletion in
    record {
      kind = x.kind;
      m = x.m;
      m' = x.m';
      nodes = x.nodes;
      nodes' = x.nodes';
      owners = x.owners;
      owners' = x.owners';
      root = x.root;
      listings = x.listings;
      edit = edit x.c;
      agreed = x.agreed;
      is_edit = is;
      nodes_edited = x.nodes_edited;
      fit = places_fit x.kind x.m x.m' x.nodes x.owners x.root x.listings (edit x.c) [] x.gone x.agreed is
          (new_places x.kind x.m x.m' x.nodes x.listings x.c x.gone x.is_map x.geometry x.space x.gives);
      can = can_say x.nodes (Layout.New x.m) x.listings x.c x.deletion;
      owners_edited = owners_as (Layout.New x.m) (Layout.New x.m') x.owners x.owners' x.c x.owners_edited;
    }

abbrev pub old_parts_of : OldDeletion → OldPartsEdit
old_parts_of x =
    let is = is_edit x.nodes (Layout.Old x.space) x.listings x.c (old_held x.kind x.space x.nodes x.owners x.root x.listings x.c x.agreed x.deletion) x.deletion in
    let free = freed x.kind x.space x.nodes x.owners x.root x.listings x.c x.agreed x.deletion in
    record {
      kind = x.kind;
      space = x.space;
      holes = holes_with_it x.space x.c;
      nodes = x.nodes;
      nodes' = x.nodes';
      owners = x.owners;
      owners' = x.owners';
      root = x.root;
      listings = x.listings;
      edit = edit x.c;
      agreed = x.agreed;
      is_edit = is;
      nodes_edited = x.nodes_edited;
      is_map = record {
        few = x.few;
        disc = x.agreed.is_map.disc;
        units = x.agreed.is_map.units;
        holes = AreHoles-lower x.space.disc_units x.space.sector_units (map_units x.space.sector_units) 0 (holes_with_it x.space x.c) (omega arith) free.are;
      };
      in_order = free.are;
      fit = old_fit x.kind x.space (holes_with_it x.space x.c) x.nodes x.owners x.root x.listings (edit x.c) x.agreed is
          (old_places x.kind x.space x.nodes x.owners x.root x.listings x.c x.agreed x.deletion);
      can = can_say x.nodes (Layout.Old x.space) x.listings x.c x.deletion;
      owners_edited = owners_as (Layout.Old x.space) (with_holes x.space (holes_with_it x.space x.c)) x.owners x.owners' x.c x.owners_edited;
    }

pub deletion_law : DeletionLaw
deletion_law = record {
  target = of_target;
  is_edit = is_edit;
  nodes = are_edited;
  owners = owners_as;
  can = can_say;
  new_places = new_places;
  old_places = λ kind space nodes owners root listings c a d. old_places kind space nodes owners root listings c a d;
  new = λ x. agree_now (new_parts x);
  old = λ x. agree_law.old (old_parts_of x);
}
