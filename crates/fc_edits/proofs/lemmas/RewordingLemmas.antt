-- `set` and `mark`, by the laws of edits.
use Rattle.std.proofs.Common.{◌≡◌, inl, ℕ, cond, List, [], ◌∷◌, ◌++◌, length, refl, sym, ap, subst, ◌∙◌, arith, Some}
use Rattle.std.proofs.lemmas.List.{append-nil}
use Rattle.std.specs.Prelude.{Contains, IsPermutation, nat_lt, not}
use Rattle.std.proofs.lemmas.List.Sorted.{IsPermutation-refl}
use Rattle.fc_names.specs.Names.{Path}
use Rattle.fc_alloc.specs.declared.owner.Owner.{Owner}
use Rattle.fc_image.specs.Layout.{Layout, dir_form, id_of, low_of}
use Rattle.fc_image.specs.Walk.{Listing, Object}
use Rattle.fc_image.specs.Objects.{objects_of}
use Rattle.fc_tree.specs.Agree.{HasForm}
use Rattle.fc_tree.specs.Nodes.{number_of}
use Rattle.fc_tree.specs.Parts.{AreOwners, first_in}
use Rattle.fc_tree.proofs.MemberLemmas.{contains_here, no_element}
use Rattle.fc_tree.proofs.WalkedLemmas.{child_is_object, child_path}
use Rattle.fc_laws.specs.nodes.Edits.{Nodes, OwnersEdited, owners_with}
use Rattle.fc_laws.specs.nodes.Laws.{IsHeld}
use Rattle.fc_laws.specs.agree.Agreed.{CanSay}
use Rattle.fc_laws.proofs.lemmas.nodes.FitsLemmas.{kid_lower}
use Rattle.fc_laws.proofs.lemmas.nodes.ListLemmas.{in_first, map_fixed}
use Rattle.fc_laws.proofs.lemmas.nodes.OtherLemmas.{unlike}
use Rattle.fc_laws.proofs.lemmas.agree.BeforeLemmas.{sound as new_sound}
use Rattle.fc_laws.proofs.lemmas.old.agree.BeforeLemmas.{sound}
use Rattle.fc_edits.specs.Edit.{Amended, IsAmended, IsEdit, KeepsEntry, owners_joined, owners_left}
use Rattle.fc_edits.specs.PartsEdit.{NewPartsEdit, OldPartsEdit}
use Rattle.fc_edits.specs.Places.{CanSayAll}
use Rattle.fc_edits.specs.Rewording.{IsReworded, NewRewording, OldRewording, Rewording, RewordingLaw, amended, edit}
use Rattle.fc_edits.proofs.lemmas.NewAgreeLemmas.{agree_law, agree_now}
use Rattle.fc_edits.proofs.lemmas.NewPlaceLemmas.{places_fit}
use Rattle.fc_edits.proofs.lemmas.OldPlaceLemmas.{old_fit}
use Rattle.fc_edits.proofs.lemmas.OwnerLemmas.{owners_stay}
use Rattle.fc_edits.proofs.lemmas.ShapeLemmas.{kids_unlike, of_one}
use Rattle.fc_edits.proofs.lemmas.StillLemmas.{IsStill, still_new, still_old}
use Rattle.fc_tree.proofs.EndLemmas.{no_twin as apart_names}

module _ (nodes : Nodes) (layout : Layout) (listings : List Listing) (c : Rewording) (h : IsHeld nodes layout listings) (d : IsReworded nodes layout listings c) where
  pub l_in : Contains listings c.l
  l_in = in_first listings (c.l ∷ c.rest) d.found c.l (contains_here c.l c.rest)

  pub kid_in : Contains c.l.children c.o
  kid_in = in_first c.l.children (c.o ∷ c.kids) d.holds c.o (contains_here c.o c.kids)

  pub o_in : Contains (objects_of listings) c.o
  o_in = child_is_object layout listings h.sound c.l c.o l_in kid_in

  pub lower : c.number ≡ 0 → ⊥
  lower = kid_lower layout listings nodes h.sound h.held c.l c.o c.number l_in kid_in d.number_is

  -- an object of another number stays as it is
  pub stays : (p : Object) (n : ℕ) → number_of nodes p.path ≡ Some n → (n ≡ c.number → ⊥) → c.turn p ≡ p
  stays p n is other = d.rewording.others p (unlike nodes c.o.path p.path c.number n d.number_is is (λ e. other (sym e)))

  keeps : (p : Object) → c.turn p ≡ p → KeepsEntry (edit c) p
  keeps p same = record { entry = ap (λ (x : Object). x.entry) same; sectors = ap (λ (x : Object). x.sectors) same }

  kids_stay : (p : Object) → Contains c.kids p → c.turn p ≡ p
  kids_stay p at = d.rewording.others p (kids_unlike layout listings h.sound c.l c.o c.kids l_in d.holds p at)

  is_amended : IsAmended nodes (edit c) (amended c)
  is_amended = record {
    number_is = d.dir_is;
    held = d.holds;
    holds = subst (λ (os : List Object). IsPermutation c.children (c.turn c.o ∷ os)) (sym (map_fixed c.turn c.kids kids_stay)) d.holds_now;
    stored = d.stored;
    apart = apart_names c.content d.can.body;
    left = of_one (λ (p : ℕ × Object). number_of nodes p.1.path ≡ Some p.0) (c.number, c.o) d.number_is;
    paths = of_one (λ (p : ℕ × Object). p.1.path ≡ (c.turn c.l.object).path ++ p.1.entry.name ∷ []) (c.number, c.turn c.o)
        (d.rewording.same_path c.o ∙ child_path layout listings h.sound c.l c.o l_in kid_in
        ∙ (λ i. sym (d.rewording.same_path c.l.object) i ++ sym (d.rewording.name c.o) i ∷ []));
  }

  pub is_edit : IsEdit nodes listings (edit c)
  is_edit = record {
    found = d.found;
    amends = of_one (IsAmended nodes (edit c)) (amended c) is_amended;
    out_gone = refl;
    out_empty = refl;
    into_come = refl;
    into_empty = λ x at. absurd (no_element x at);
    into_joins = λ x at. absurd (no_element x at);
    left = IsPermutation-refl ((c.number, c.o) ∷ []);
    joined = IsPermutation-refl ((c.number, c.turn c.o) ∷ []);
    kinds = d.rewording.kind;
    top_path = λ p at path. d.rewording.same_path p ∙ path;
    top = λ p at path. inl (record { leaves = refl; joins = refl; keeps = keeps p (stays p 0 (ap (number_of nodes) path) (λ e. lower (sym e))) });
    keeps = λ p n at is none. keeps p (stays p n is (λ e. none (subst (Contains (c.number ∷ [])) (sym e) (contains_here c.number []))));
    paths = λ k p n at kid is none.
        d.rewording.same_path p ∙ child_path layout listings h.sound k p at kid ∙ ap (λ (q : Path). q ++ p.entry.name ∷ []) (sym (d.rewording.same_path k.object));
  }

  pub is_still : IsStill listings (edit c) c.number c.o (c.turn c.o)
  is_still = record {
    among = o_in;
    leaves = refl;
    joins = refl;
    sectors = d.rewording.sectors c.o;
    address = d.rewording.address c.o;
    len = d.rewording.len c.o;
    attrs = d.rewording.kind c.o;
  }

  owner_turned : owners_with layout c.dir c.number (c.turn c.o) ≡ owners_with layout c.dir c.number c.o
  owner_turned i =
      let address : ℕ = d.rewording.address c.o i in
      let sectors : List ℕ = d.rewording.sectors c.o i in
      cond (nat_lt 0 (length sectors))
      (record {
        id = id_of address;
        dir = c.dir;
        node = c.number;
        file = not (d.rewording.kind c.o i);
        low = low_of address;
        first = first_in layout (low_of address);
        sectors = length sectors;
      } ∷ []) []

  -- The owners stay as they are.
  pub owners_as : (owners : List Owner) → AreOwners owners nodes layout (objects_of listings) → OwnersEdited owners owners (owners_left layout (edit c)) (owners_joined layout (edit c))
  owners_as owners owned =
      let none : (ws : List Owner) → (ws ++ []) ++ [] ≡ ws = λ ws. append-nil (ws ++ []) ∙ append-nil ws in
      subst (λ (ws : List Owner). OwnersEdited owners owners ws ((owners_with layout c.dir c.number (c.turn c.o) ++ []) ++ [])) (sym (none (owners_with layout c.dir c.number c.o)))
      (subst (λ (ws : List Owner). OwnersEdited owners owners (owners_with layout c.dir c.number c.o) ws) (sym (none (owners_with layout c.dir c.number (c.turn c.o)) ∙ owner_turned))
      (owners_stay nodes layout listings h c.l c.o c.dir c.number l_in kid_in d.dir_is d.number_is owners owned))

pub can_say : (nodes : Nodes) (layout : Layout) (listings : List Listing) (c : Rewording) → IsReworded nodes layout listings c → CanSayAll layout listings (edit c)
can_say nodes layout listings c d = record {
  few = omega arith;
  amended = of_one (λ (b : Amended). CanSay layout (c.turn b.was.object) b.content) (amended c)
      (record { form = subst (λ (n : ℕ). HasForm (dir_form layout) n c.content) (sym (d.rewording.len c.l.object)) d.can.form; body = d.can.body });
  into = λ x at. absurd (no_element x at);
  into_none = λ x at. absurd (no_element x at);
  same = λ k at. d.rewording.len k.object;
  root = λ o at path t. absurd (let none = t.leaves in cc);
}

abbrev pub new_parts : NewRewording → NewPartsEdit
new_parts x =
    let h : IsHeld x.nodes (Layout.New x.m) x.listings = record { sound = new_sound x.kind x.m x.nodes x.owners x.root x.listings x.agreed; held = x.agreed.walked.held } in
    let is = is_edit x.nodes (Layout.New x.m) x.listings x.c h x.reworded in
    record {
      kind = x.kind;
      m = x.m;
      m' = x.m;
      nodes = x.nodes;
      nodes' = x.nodes';
      owners = x.owners;
      owners' = x.owners;
      root = x.root;
      listings = x.listings;
      edit = edit x.c;
      agreed = x.agreed;
      is_edit = is;
      nodes_edited = x.nodes_edited;
      fit = places_fit x.kind x.m x.m x.nodes x.owners x.root x.listings (edit x.c) [] [] x.agreed is
          (still_new x.listings (edit x.c) x.c.number x.c.o (x.c.turn x.c.o) (is_still x.nodes (Layout.New x.m) x.listings x.c h x.reworded) x.kind x.m x.nodes x.owners x.root x.agreed);
      can = can_say x.nodes (Layout.New x.m) x.listings x.c x.reworded;
      owners_edited = owners_as x.nodes (Layout.New x.m) x.listings x.c h x.reworded x.owners x.agreed.owned;
    }

abbrev pub old_held : (x : OldRewording) → IsHeld x.nodes (Layout.Old x.space) x.listings
old_held x = record { sound = sound x.kind x.space x.nodes x.owners x.root x.listings x.agreed; held = x.agreed.walked.held }

abbrev pub old_parts_of : OldRewording → OldPartsEdit
old_parts_of x =
    let is = is_edit x.nodes (Layout.Old x.space) x.listings x.c (old_held x) x.reworded in
    record {
      kind = x.kind;
      space = x.space;
      holes = x.space.holes;
      nodes = x.nodes;
      nodes' = x.nodes';
      owners = x.owners;
      owners' = x.owners;
      root = x.root;
      listings = x.listings;
      edit = edit x.c;
      agreed = x.agreed;
      is_edit = is;
      nodes_edited = x.nodes_edited;
      is_map = x.agreed.is_map;
      in_order = x.agreed.holes;
      fit = old_fit x.kind x.space x.space.holes x.nodes x.owners x.root x.listings (edit x.c) x.agreed is
          (still_old x.listings (edit x.c) x.c.number x.c.o (x.c.turn x.c.o) (is_still x.nodes (Layout.Old x.space) x.listings x.c (old_held x) x.reworded) x.kind x.space x.nodes x.owners x.root x.agreed);
      can = can_say x.nodes (Layout.Old x.space) x.listings x.c x.reworded;
      owners_edited = owners_as x.nodes (Layout.Old x.space) x.listings x.c (old_held x) x.reworded x.owners x.agreed.owned;
    }

pub rewording_law : RewordingLaw
rewording_law = record {
  is_edit = is_edit;
  can = can_say;
  new = λ x. agree_now (new_parts x);
  old = λ x. agree_law.old (old_parts_of x);
}
