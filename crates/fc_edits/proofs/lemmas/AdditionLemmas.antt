-- `save`, `create` and `cdir` without growth, by the laws of edits.
use Rattle.std.proofs.Common.{◌≡◌, inl, ℕ, Bool, true, false, cond, List, [], ◌∷◌, ◌++◌, map, refl, sym, ap, subst, ◌∙◌, ◌≤◌, length, arith, None, Some}
use Rattle.std.specs.Prelude.{Contains, IsPermutation}
use Rattle.std.specs.FinMap.{get}
use Rattle.std.proofs.lemmas.List.{append-nil}
use Rattle.std.proofs.lemmas.List.Sorted.{IsPermutation-refl}
use Rattle.fc_oldmap.specs.OldMap.{map_units}
use Rattle.fc_oldmap.proofs.SpaceLemmas.{AreHoles-lower}
use Rattle.fc_dirs.specs.Directory.{entries_of}
use Rattle.fc_alloc.specs.declared.owner.Owner.{Owner}
use Rattle.fc_image.specs.Layout.{Layout}
use Rattle.fc_image.specs.Walk.{Listing, Object, is_directory_object}
use Rattle.fc_image.specs.Order.{directories}
use Rattle.fc_tree.specs.Nodes.{number_of}
use Rattle.fc_tree.proofs.MemberLemmas.{contains_here, from_map, no_element}
use Rattle.fc_tree.proofs.WalkedLemmas.{child_path}
use Rattle.fc_laws.specs.nodes.Edits.{Nodes, OwnersEdited, owners_with}
use Rattle.fc_laws.specs.nodes.Laws.{IsHeld}
use Rattle.fc_laws.specs.agree.Agreed.{CanSay}
use Rattle.fc_laws.proofs.lemmas.nodes.ListLemmas.{in_first}
use Rattle.fc_laws.proofs.lemmas.agree.BeforeLemmas.{sound as new_sound}
use Rattle.fc_laws.proofs.lemmas.old.agree.BeforeLemmas.{sound}
use Rattle.fc_edits.specs.Growing.{CanSayNew}
use Rattle.fc_edits.specs.Edit.{Amended, AreEdited, IsAmended, IsEdit, numbers, objects, owners_in, owners_joined, owners_left}
use Rattle.fc_edits.specs.NewNodes.{AreDistinct, HasNumbers, nodes_after}
use Rattle.fc_edits.specs.OldPlaces.{with_holes}
use Rattle.fc_edits.specs.PartsEdit.{NewPartsEdit, OldPartsEdit}
use Rattle.fc_edits.specs.Places.{CanSayAll}
use Rattle.fc_edits.specs.Addition.{Addition, Comes, ComesAlone, GetsNode, IsAddition, ListsEmpty, NewAddition, OldAddition, amended, edit, holes_with_it, leaves, owners_before}
use Rattle.fc_edits.specs.Placing.{takings_of}
use Rattle.fc_edits.proofs.lemmas.AddedPlaceLemmas.{added_places, freed, old_added_places}
use Rattle.fc_edits.proofs.lemmas.AfterLemmas.{after_law}
use Rattle.fc_edits.proofs.lemmas.NewPlaceLemmas.{places_fit}
use Rattle.fc_edits.proofs.lemmas.OldPlaceLemmas.{old_fit}
use Rattle.fc_edits.proofs.lemmas.ListLemmas.{flat_mapped}
use Rattle.fc_edits.proofs.lemmas.ShapeLemmas.{of_one, only}
use Rattle.fc_tree.proofs.EndLemmas.{no_twin as apart_names}

-- ---- what goes

objects_over : (n : ℕ) (over : List Object) → objects (map (λ (p : Object). (n, p)) over) ≡ over
objects_over n [] = refl
objects_over n (p ∷ over) = ap (λ (os : List Object). p ∷ os) (objects_over n over)

replaced_number : (nodes : Nodes) (n : ℕ) (over : List Object) (o : Object) → GetsNode nodes n over o → (p : Object) → Contains over p → number_of nodes p.path ≡ Some n
replaced_number nodes n [] o gets p at = absurd (no_element p at)
replaced_number nodes n (q ∷ []) o gets p at = ap (λ (x : Object). number_of nodes x.path) (sym (only q p at)) ∙ gets.number_is
replaced_number nodes n (q ∷ r ∷ over) o gets p at = absurd gets

none_listed : (nodes : Nodes) (n : ℕ) (over : List Object) (o : Object) → GetsNode nodes n over o → [] ≡ directories (objects (map (λ (p : Object). (n, p)) over))
none_listed nodes n [] o gets = refl
none_listed nodes n (q ∷ []) o gets = ap (λ (b : Bool). cond b (q ∷ []) []) (sym gets.was_file)
none_listed nodes n (q ∷ r ∷ over) o gets = absurd gets

-- ---- the own listing of what comes

abbrev numbered : ℕ → List Listing → List (ℕ × Listing)
numbered n into = map (λ (d : Listing). (n, d)) into

come_listed : (layout : Layout) (n : ℕ) (into : List Listing) (o : Object) → ComesAlone layout into o → map (λ (d : ℕ × Listing). d.1.object) (numbered n into) ≡ directories (o ∷ [])
come_listed layout n [] o alone = ap (λ (b : Bool). cond b (o ∷ []) []) (sym alone)
come_listed layout n (d ∷ []) o alone = ap (λ (x : Object). x ∷ []) alone.object ∙ ap (λ (b : Bool). cond b (o ∷ []) []) (sym alone.directory)
come_listed layout n (d ∷ e ∷ into) o alone = absurd alone

-- what holds of a listing that comes
of_own : (layout : Layout) (n : ℕ) (into : List Listing) (o : Object) → ComesAlone layout into o → (P : ℕ × Listing → Type 0) → ((d : Listing) → ListsEmpty layout d o → P (n, d))
    → (x : ℕ × Listing) → Contains (numbered n into) x → P x
of_own layout n [] o alone P is x at = absurd (no_element x at)
of_own layout n (d ∷ []) o alone P is x at = of_one P (n, d) (is d alone) x at
of_own layout n (d ∷ e ∷ into) o alone P is x at = absurd alone

pub own_listed : (layout : Layout) (into : List Listing) (o : Object) → ComesAlone layout into o → (d : Listing) → Contains into d → ListsEmpty layout d o
own_listed layout [] o alone d at = absurd (no_element d at)
own_listed layout (k ∷ []) o alone d at = subst (λ (x : Listing). ListsEmpty layout x o) (only k d at) alone
own_listed layout (k ∷ e ∷ into) o alone d at = absurd alone

few_own : (layout : Layout) (n : ℕ) (into : List Listing) (o : Object) → ComesAlone layout into o → AreDistinct (map (λ (d : ℕ × Listing). d.0) (numbered n into))
few_own layout n [] o alone = tt
few_own layout n (d ∷ []) o alone = ((λ at. no_element n at), tt)
few_own layout n (d ∷ e ∷ into) o alone = absurd alone

one_own : (layout : Layout) (n : ℕ) (into : List Listing) (o : Object) → ComesAlone layout into o → length (numbered n into) ≤ 1
one_own layout n [] o alone = omega arith
one_own layout n (d ∷ []) o alone = omega arith
one_own layout n (d ∷ e ∷ into) o alone = absurd alone

-- a file has none
file_own : (layout : Layout) (n : ℕ) (into : List Listing) (o : Object) → ComesAlone layout into o → is_directory_object o ≡ false → (k : ℕ)
    → Contains (map (λ (d : ℕ × Listing). d.0) (numbered n into)) k → ⊥
file_own layout n [] o alone file k at = no_element k at
file_own layout n (d ∷ []) o alone file k at = let two : true ≡ false = sym alone.directory ∙ file in cc
file_own layout n (d ∷ e ∷ into) o alone file k at = absurd alone

module _ (nodes : Nodes) (layout : Layout) (listings : List Listing) (c : Addition) (h : IsHeld nodes layout listings) (d : Comes nodes layout listings c) where
  pub comes_in : Contains listings c.l
  comes_in = in_first listings (c.l ∷ c.rest) d.found c.l (contains_here c.l c.rest)

  is_amended : IsAmended nodes (edit c) (amended c)
  is_amended = record {
    number_is = d.dir_is;
    held = subst (λ (os : List Object). IsPermutation c.l.children (os ++ c.kids)) (sym (objects_over c.number c.over)) d.had;
    holds = subst (λ (os : List Object). IsPermutation c.children (c.o ∷ os)) (sym (map_same c.kids)) d.holds;
    stored = d.stored;
    apart = d.apart;
    left = λ p at. (let q = from_map (λ (o : Object). (c.number, o)) c.over p at in
        subst (λ (x : ℕ × Object). number_of nodes x.1.path ≡ Some x.0) q.2 (replaced_number nodes c.number c.over c.o d.node q.0 q.1));
    paths = of_one (λ (p : ℕ × Object). p.1.path ≡ c.l.object.path ++ p.1.entry.name ∷ []) (c.number, c.o) d.path;
  }
    where
      map_same : (os : List Object) → map (λ (p : Object). p) os ≡ os
      map_same [] = refl
      map_same (p ∷ os) = ap (λ (xs : List Object). p ∷ xs) (map_same os)

  pub comes_edit : IsEdit nodes listings (edit c)
  comes_edit = record {
    found = d.found;
    amends = of_one (IsAmended nodes (edit c)) (amended c) is_amended;
    out_gone = none_listed nodes c.number c.over c.o d.node;
    out_empty = refl;
    into_come = come_listed layout c.number c.into c.o d.alone;
    into_empty = of_own layout c.number c.into c.o d.alone (λ x. x.1.children ≡ []) (λ k own. own.none);
    into_joins = of_own layout c.number c.into c.o d.alone (λ x. Contains {X = ℕ × Object} ((c.number, c.o) ∷ []) (x.0, x.1.object))
        (λ k own. subst (λ (p : Object). Contains {X = ℕ × Object} ((c.number, c.o) ∷ []) (c.number, p)) (sym own.object) (contains_here (c.number, c.o) []));
    left = IsPermutation-refl (leaves c ++ []);
    joined = IsPermutation-refl ((c.number, c.o) ∷ []);
    kinds = λ o. refl;
    top_path = λ o at path. path;
    top = λ o at path. inl (record { leaves = refl; joins = refl; keeps = record { entry = refl; sectors = refl } });
    keeps = λ o n at is stays. record { entry = refl; sectors = refl };
    paths = λ k o n at kid is stays. child_path layout listings h.sound k o at kid;
  }

  pub comes_numbers : c.over ≡ [] → HasNumbers nodes (edit c)
  comes_numbers none = record {
    once = ((λ at. no_element c.number at), tt);
    gone_once = subst (λ (os : List Object). AreDistinct (numbers (map (λ (p : Object). (c.number, p)) os))) (sym none) tt;
    into_once = few_own layout c.number c.into c.o d.alone;
    lasting = λ n gone at. never n gone;
    new = of_one (λ (p : ℕ × Object). get nodes p.0 ≡ None) (c.number, c.o) (subst (λ (os : List Object). GetsNode nodes c.number os c.o) none d.node);
    gone_others = λ a at gone. never a.number gone;
    into_others = λ p at file into. file_own layout c.number c.into c.o d.alone (ap (λ (q : ℕ × Object). is_directory_object q.1) (only (c.number, c.o) p at) ∙ file) p.0 into;
  }
    where
      never : (n : ℕ) → Contains (numbers (leaves c)) n → ⊥
      never n gone = no_element n (subst (λ (os : List Object). Contains (numbers (map (λ (p : Object). (c.number, p)) os)) n) none gone)

-- ---- what the directory says can be said

pub comes : (nodes : Nodes) (layout : Layout) (listings : List Listing) (c : Addition) → IsAddition nodes layout listings c → Comes nodes layout listings c
comes nodes layout listings c d = record {
  found = d.found;
  had = d.had;
  holds = d.holds;
  stored = d.stored;
  apart = apart_names c.content d.can.body;
  path = d.path;
  dir_is = d.dir_is;
  node = d.node;
  alone = d.alone;
}

module _ (nodes : Nodes) (layout : Layout) (listings : List Listing) (c : Addition) (h : IsHeld nodes layout listings) (d : IsAddition nodes layout listings c) where
  pub l_in : Contains listings c.l
  l_in = comes_in nodes layout listings c h (comes nodes layout listings c d)

  pub is_edit : IsEdit nodes listings (edit c)
  is_edit = comes_edit nodes layout listings c h (comes nodes layout listings c d)

  pub are_edited : c.over ≡ [] → AreEdited nodes (nodes_after (edit c) nodes) (edit c)
  are_edited none = after_law nodes layout listings (edit c) h is_edit (comes_numbers nodes layout listings c h (comes nodes layout listings c d) none)

-- ---- the law

pub can_new : (layout : Layout) (c : Addition) → ComesAlone layout c.into c.o → CanSayNew layout (edit c)
can_new layout c alone = record {
  few = one_own layout c.number c.into c.o alone;
  into = of_own layout c.number c.into c.o alone (λ x. CanSay layout x.1.object x.1.content) (λ k own. subst (λ (p : Object). CanSay layout p k.content) (sym own.object) own.can);
  into_none = of_own layout c.number c.into c.o alone (λ x. entries_of x.1.content ≡ []) (λ k own. own.says_none);
  same = λ k at. refl;
}

pub can_say : (nodes : Nodes) (layout : Layout) (listings : List Listing) (c : Addition) → IsAddition nodes layout listings c → CanSayAll layout listings (edit c)
can_say nodes layout listings c d =
    let new = can_new layout c d.alone in
    record {
      few = new.few;
      amended = of_one (λ (b : Amended). CanSay layout b.was.object b.content) (amended c) d.can;
      into = new.into;
      into_none = new.into_none;
      same = new.same;
      root = λ o at path t. absurd (let none = t.leaves in cc);
    }

pub owners_as : (layout layout' : Layout) (owners owners' : List Owner) (c : Addition) → OwnersEdited owners owners' (owners_before layout c) (owners_with layout' c.dir c.number c.o)
    → OwnersEdited owners owners' (owners_left layout (edit c)) (owners_joined layout' (edit c))
owners_as layout layout' owners owners' c edited =
    subst (λ (ws : List Owner). OwnersEdited owners owners' (owners_left layout (edit c)) ws)
    (sym (append-nil (owners_with layout' c.dir c.number c.o ++ []) ∙ append-nil (owners_with layout' c.dir c.number c.o)))
    (subst (λ (ws : List Owner). OwnersEdited owners owners' ws (owners_with layout' c.dir c.number c.o))
    (sym (append-nil (owners_in layout c.dir (leaves c)) ∙ flat_mapped (λ (p : ℕ × Object). owners_with layout c.dir p.0 p.1) (λ (p : Object). (c.number, p)) c.over)) edited)

-- ---- the parts

abbrev pub new_parts : NewAddition → NewPartsEdit
new_parts x =
    let h : IsHeld x.nodes (Layout.New x.m) x.listings = record { sound = new_sound x.kind x.m x.nodes x.owners x.root x.listings x.agreed; held = x.agreed.walked.held } in
    let is = is_edit x.nodes (Layout.New x.m) x.listings x.c h x.addition in
    record {
      kind = x.kind;
      m = x.m;
      m' = x.m';
      nodes = x.nodes;
      nodes' = x.nodes';
      owners = x.owners;
      owners' = x.owners';
      root = x.root;
      listings = x.listings;
      edit = edit x.c;
      agreed = x.agreed;
      is_edit = is;
      nodes_edited = x.nodes_edited;
      fit = places_fit x.kind x.m x.m' x.nodes x.owners x.root x.listings (edit x.c) (takings_of x.id x.parts) x.gone x.agreed is (added_places x);
      can = can_say x.nodes (Layout.New x.m) x.listings x.c x.addition;
      owners_edited = owners_as (Layout.New x.m) (Layout.New x.m') x.owners x.owners' x.c x.owners_edited;
    }

pub old_held : (x : OldAddition) → IsHeld x.nodes (Layout.Old x.space) x.listings
old_held x = record { sound = sound x.kind x.space x.nodes x.owners x.root x.listings x.agreed; held = x.agreed.walked.held }

abbrev pub old_parts_of : OldAddition → OldPartsEdit
old_parts_of x =
    let is = is_edit x.nodes (Layout.Old x.space) x.listings x.c (old_held x) x.addition in
    let right = freed x in
    record {
      kind = x.kind;
      space = x.space;
      holes = holes_with_it x.space x.c;
      nodes = x.nodes;
      nodes' = x.nodes';
      owners = x.owners;
      owners' = x.owners';
      root = x.root;
      listings = x.listings;
      edit = edit x.c;
      agreed = x.agreed;
      is_edit = is;
      nodes_edited = x.nodes_edited;
      is_map = record {
        few = x.few;
        disc = x.agreed.is_map.disc;
        units = x.agreed.is_map.units;
        holes = AreHoles-lower x.space.disc_units x.space.sector_units (map_units x.space.sector_units) 0 (holes_with_it x.space x.c) (omega arith) right.are;
      };
      in_order = right.are;
      fit = old_fit x.kind x.space (holes_with_it x.space x.c) x.nodes x.owners x.root x.listings (edit x.c) x.agreed is (old_added_places x);
      can = can_say x.nodes (Layout.Old x.space) x.listings x.c x.addition;
      owners_edited = owners_as (Layout.Old x.space) (with_holes x.space (holes_with_it x.space x.c)) x.owners x.owners' x.c x.owners_edited;
    }
