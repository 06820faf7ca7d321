-- The owners after a directory has grown, beside an object that has come.
use Rattle.std.proofs.Common.{◌≡◌, ℕ, ◌==◌, ◌||◌, Bool, true, false, cond, List, [], ◌∷◌, ◌++◌, map, filter, refl, sym, ap, ap₂, subst, ◌∙◌, eq-eqb, Option, Some, None}
use Rattle.std.specs.Prelude.{Contains, IsPermutation}
use Rattle.std.specs.List.{list_any}
use Rattle.std.specs.Option.{unwrap_or}
use Rattle.std.specs.FinMap.{get}
use Rattle.std.proofs.lemmas.Bool.{ne_eqb, false_from_ne_true as unless}
use Rattle.std.proofs.lemmas.List.{append-nil}
use Rattle.std.proofs.lemmas.List.Sorted.{Contains-permutation, IsPermutation-append_comm, IsPermutation-append_left, IsPermutation-cons, IsPermutation-map, IsPermutation-sym, IsPermutation-trans, list_any-IsPermutation}
use Rattle.fc_names.specs.Names.{is_same_path}
use Rattle.fc_alloc.specs.declared.owner.Owner.{Owner}
use Rattle.fc_alloc.specs.Owners.{has_node, is_node, with_changed}
use Rattle.fc_record.specs.declared.Geometry.{Geometry}
use Rattle.fc_newmap.specs.Map.{Map}
use Rattle.fc_model.specs.Tree.{holder}
use Rattle.fc_dirs.specs.declared.Entry.{Entry}
use Rattle.fc_image.specs.Layout.{Layout}
use Rattle.fc_image.specs.Edits.{IsAt}
use Rattle.fc_image.specs.Objects.{has_sectors, listing_at, objects_of}
use Rattle.fc_image.specs.Sound.{AreSound}
use Rattle.fc_image.specs.Walk.{Listing, Object}
use Rattle.fc_image.proofs.EntriesLemmas.{from_filter}
use Rattle.fc_image.proofs.ShuffleLemmas.{IsPermutation-filter}
use Rattle.fc_changes.proofs.BasicLemmas.{clash, first_in, next_in}
use Rattle.fc_laws.specs.nodes.Edits.{Nodes, OwnersEdited, owner_with, owners_with}
use Rattle.fc_laws.proofs.lemmas.agree.KeptLemmas.{alone}
use Rattle.fc_laws.proofs.lemmas.nodes.ListLemmas.{map_fixed}
use Rattle.fc_laws.proofs.lemmas.nodes.OwnerLemmas.{owner_known}
use Rattle.fc_placing.proofs.CopyingLemmas.{dirs_same}
use Rattle.fc_tree.specs.declared.node.Node.{Node}
use Rattle.fc_tree.specs.Nodes.{HoldObjects, body_of, number_of}
use Rattle.fc_tree.specs.Parts.{AreOwners, owner_of}
use Rattle.fc_tree.proofs.MemberLemmas.{from_map}
use Rattle.fc_tree.proofs.SoundLemmas.{folds_alike}
use Rattle.fc_change.specs.declared.change.Change.{Change}
use Rattle.fc_change.specs.declared.change.Regrowth.{Regrowth}
use Rattle.fc_change.specs.declared.change.Turned.{Turned}
use Rattle.fc_change.specs.declared.change.Turned.TheVariants as turns
use Rattle.fc_drafts.specs.declared.draft.Draft.{Draft}
use Rattle.fc_drafts.specs.Entries.{regrown}
use Rattle.fc_change.specs.After.{AreOwnersAfter, IsRegrownOwner, IsTurnedOwner, owners_admitted}
use Rattle.fc_change.specs.Owned.{entry_owner, owner_if, owners_with_room}
use Rattle.fc_commands.proofs.StayingLemmas.{owner_if_is, owner_same}
use Rattle.fc_image.proofs.TreeLemmas.{map_both as map_append}
use Rattle.fc_image.proofs.CommandLemmas.{same_by_folds}

-- no owner has a number that no node has
pub unowned : (nodes : Nodes) (layout : Layout) (listings : List Listing) (owners : List Owner) (n : ℕ) → HoldObjects nodes listings → AreOwners owners nodes layout (objects_of listings) → get nodes n ≡ None
    → has_node owners n ≡ false
unowned nodes layout listings owners n held owned free =
    list_any-IsPermutation (is_node n) owners (map (owner_of nodes layout) (filter has_sectors (objects_of listings))) owned
    ∙ none (filter has_sectors (objects_of listings)) (λ o at. other o (from_filter has_sectors (objects_of listings) o at))
  where
    other : (o : Object) → Contains (objects_of listings) o → is_node n (owner_of nodes layout o) ≡ false
    other o at =
        let has = held.each o at in
        ap (λ (x : Option ℕ). unwrap_or x 0 == n) has.at_path
        ∙ ne_eqb has.number n (λ e. (let clash' : (let x : Option Node = Some (record { holder = has.holder_number; entry = o.entry; body = body_of (listing_at listings o.path) }) in x) ≡ None = sym has.is ∙ ap (get nodes) e ∙ free in cc))

    none : (os : List Object) → ((o : Object) → Contains os o → is_node n (owner_of nodes layout o) ≡ false) → list_any (is_node n) (map (owner_of nodes layout) os) ≡ false
    none [] each = refl
    none (o ∷ os) each = ap₂ (λ (a b : Bool). a || b) (each o (first_in o os)) (none os (λ p at. each p (next_in o p os at)))

-- Object o of node n is one of these, with an owner, and `stay` are the others.
pub record IsOwned (layout : Layout) (nodes : Nodes) (owners : List Owner) (listings : List Listing) (o : Object) (stay : List Object) (up n : ℕ) : Type 0 where
  pub sound : AreSound layout listings
  pub held : HoldObjects nodes listings
  pub owned : AreOwners owners nodes layout (objects_of listings)
  pub above : number_of nodes (holder o.path) ≡ Some up
  pub number : number_of nodes o.path ≡ Some n
  pub others : IsPermutation (objects_of listings) (o ∷ stay)
  pub some : has_sectors o ≡ true

module _ (layout : Layout) (nodes : Nodes) (owners : List Owner) (listings : List Listing) (o : Object) (stay : List Object) (up n : ℕ) (is : IsOwned layout nodes owners listings o stay up n) where
  abbrev as_owner : Object → Owner
  as_owner = owner_of nodes layout

  abbrev own : Owner
  own = owner_with layout up n o

  abbrev rest : List Owner
  rest = map (owner_of nodes layout) (filter has_sectors stay)

  pub cut : IsPermutation owners (own ∷ rest)
  cut =
      let all = IsPermutation-map (owner_of nodes layout) (filter has_sectors (objects_of listings)) (filter has_sectors (o ∷ stay)) (IsPermutation-filter has_sectors (objects_of listings) (o ∷ stay) is.others) in
      let first : map (owner_of nodes layout) (filter has_sectors (o ∷ stay)) ≡ own ∷ rest =
      ap (λ (b : Bool). map (owner_of nodes layout) (cond b (o ∷ filter has_sectors stay) (filter has_sectors stay))) is.some ∙ ap (λ (w : Owner). w ∷ rest) (owner_known nodes layout layout o up n is.above is.number (λ low. refl)) in
      IsPermutation-trans owners (map (owner_of nodes layout) (filter has_sectors (objects_of listings))) (own ∷ rest) is.owned
      (subst (IsPermutation (map (owner_of nodes layout) (filter has_sectors (objects_of listings)))) first all)

  -- no other has its node
  other_node : (w : Owner) → Contains rest w → (w.node == n) ≡ false
  other_node w at =
      let p = from_map (owner_of nodes layout) (filter has_sectors stay) w at in
      let among = from_filter has_sectors stay p.0 p.1 in
      let there = Contains-permutation (o ∷ stay) (objects_of listings) p.0 (IsPermutation-sym (objects_of listings) (o ∷ stay) is.others) (next_in o p.0 stay among) in
      let has = is.held.each p.0 there in
      ap (λ (x : Owner). x.node == n) (sym p.2) ∙ ap (λ (x : Option ℕ). unwrap_or x 0 == n) has.at_path
      ∙ dirs_same nodes p.0.path o.path has.number n has.at_path is.number ∙ unless (is_same_path p.0.path o.path)
      (λ same. clash (is_same_path o.path p.0.path) (same_by_folds o.path p.0.path (sym (folds_alike p.0.path o.path same))) (alone layout listings o p.0 stay is.sound is.others among))

  -- Its owner becomes another of its node.
  pub changed : (new : Owner) → new.node ≡ n → IsPermutation (with_changed new owners) (new ∷ rest)
  changed new same =
      let f : Owner → Owner = λ w. cond (is_node new.node w) new w in
      let here : map f (own ∷ rest) ≡ new ∷ rest =
      ap₂ (λ (w : Owner) (ws : List Owner). w ∷ ws) (ap (λ (b : Bool). cond b new own) (eq-eqb n new.node (sym same)))
      (map_fixed f rest (λ w at. ap (λ (b : Bool). cond b new w) (ap (λ (k : ℕ). w.node == k) same ∙ other_node w at))) in
      subst (IsPermutation (with_changed new owners)) here (IsPermutation-map f owners (own ∷ rest) cut)

  -- with some that came before
  pub changed_with : (new : Owner) (come : List Owner) → new.node ≡ n → with_changed new come ≡ come → OwnersEdited owners (with_changed new (owners ++ come)) (own ∷ []) (new ∷ come)
  changed_with new come same others = record {
    rest = rest;
    before = cut;
    after = subst (λ (ws : List Owner). IsPermutation ws (new ∷ (come ++ rest))) (sym (map_append (λ (w : Owner). cond (is_node new.node w) new w) owners come ∙ ap (λ (ws : List Owner). with_changed new owners ++ ws) others))
        (IsPermutation-trans (with_changed new owners ++ come) ((new ∷ rest) ++ come) (new ∷ (come ++ rest)) (IsPermutation-append_left come (with_changed new owners) (new ∷ rest) (changed new same))
        (IsPermutation-cons new (rest ++ come) (come ++ rest) (IsPermutation-append_comm rest come)));
  }

-- ---- of a change

module _ (m m' : Map) (nodes : Nodes) (owners : List Owner) (listings : List Listing) (o : Object) (stay : List Object) (up : ℕ) (g : Regrowth) (is : IsOwned (Layout.New m) nodes owners listings o stay up g.node)
    (geometry : m'.geometry ≡ m.geometry) (sectors : List ℕ) (node : Node) (there : get nodes g.node ≡ Some node) (holder_is : node.holder ≡ up) (entry_is : node.entry ≡ o.entry) where
  abbrev anew : Object
  anew = record o { entry = record o.entry { address = g.address; len = g.len }; sectors = sectors }

  grown_owner : IsAt (Layout.New m') anew → entry_owner (Layout.New m') g.node node.holder (regrown node.entry g.address g.len) ≡ owner_with (Layout.New m') up g.node anew
  grown_owner at =
      ap₂ (λ (h : ℕ) (e : Entry). entry_owner (Layout.New m') g.node h (regrown e g.address g.len)) holder_is entry_is
      ∙ owner_same (Layout.New m') g.node up anew (regrown o.entry g.address g.len) at (record { address = refl; len = refl; kind = refl })

  -- the owner that an object is doesn't hang on the map's runs
  if_same : (n dir : ℕ) (e : Entry) → owner_if (Layout.New m) n dir e ≡ owner_if (Layout.New m') n dir e
  if_same n dir e = ap (λ (x : Geometry). owner_if (Layout.New (record { geometry = x; zones = [] })) n dir e) (sym geometry)

  module _ (new : ℕ) (x : Object) (free : get nodes new ≡ None) (at_x : IsAt (Layout.New m') x) (at_anew : IsAt (Layout.New m') anew) (some : has_sectors anew ≡ true) where
    new_if : owner_if (Layout.New m) new g.node x.entry ≡ cond (has_sectors x) (Some (owner_with (Layout.New m') g.node new x)) None
    new_if = if_same new g.node x.entry ∙ owner_if_is (Layout.New m') new g.node x x.entry at_x (record { address = refl; len = refl; kind = refl })

    admitted : owners_with_room (owner_if (Layout.New m) new g.node x.entry) owners ≡ owners ++ owners_with (Layout.New m') g.node new x
    admitted = ap (λ (w : Option Owner). owners_with_room w owners) new_if ∙ by (has_sectors x)
      where
        by : (b : Bool) → owners_with_room (cond b (Some (owner_with (Layout.New m') g.node new x)) None) owners ≡ owners ++ cond b (owner_with (Layout.New m') g.node new x ∷ []) []
        by true = ap (λ (b : Bool). cond b owners (owners ++ owner_with (Layout.New m') g.node new x ∷ [])) (unowned nodes (Layout.New m) listings owners new is.held is.owned free)
        by false = sym (append-nil owners)

    new_apart : new ≡ g.node → ⊥
    new_apart same = let clash' : (let y : Option Node = Some node in y) ≡ None = sym there ∙ ap (get nodes) (sym same) ∙ free in cc

    come_stays : with_changed (owner_with (Layout.New m') up g.node anew) (owners_with (Layout.New m') g.node new x) ≡ owners_with (Layout.New m') g.node new x
    come_stays = by (has_sectors x)
      where
        by : (b : Bool) → with_changed (owner_with (Layout.New m') up g.node anew) (cond b (owner_with (Layout.New m') g.node new x ∷ []) []) ≡ cond b (owner_with (Layout.New m') g.node new x ∷ []) []
        by true = ap (λ (b : Bool). cond b (owner_with (Layout.New m') up g.node anew) (owner_with (Layout.New m') g.node new x) ∷ []) (ne_eqb new g.node new_apart)
        by false = refl

    pub owners_grown : (c : Change) (owners' : List Owner) (draft : Option Draft) → c.grown ≡ Some g → c.object ≡ turns.Comes g.node x.entry draft
        → AreOwnersAfter (Layout.New m') nodes c (owners_admitted (Layout.New m) c.object new owners) owners'
        → OwnersEdited owners owners' (owners_with (Layout.New m) up g.node o) (owners_with (Layout.New m') up g.node anew ++ owners_with (Layout.New m') g.node new x)
    owners_grown c owners' draft grown comes after =
        let was = owners_with_room (owner_if (Layout.New m) new g.node x.entry) owners in
        let middle : after.middle ≡ with_changed (entry_owner (Layout.New m') g.node node.holder (regrown node.entry g.address g.len)) was =
        subst (λ (q : Option Regrowth). IsRegrownOwner (Layout.New m') nodes q was after.middle) grown
        (subst (λ (y : Turned). IsRegrownOwner (Layout.New m') nodes c.grown (owners_admitted (Layout.New m) y new owners) after.middle) comes after.grown) node there in
        let last : owners' ≡ after.middle = subst (λ (y : Turned). IsTurnedOwner (Layout.New m') y after.middle owners') comes after.object in
        let now : owners' ≡ with_changed (owner_with (Layout.New m') up g.node anew) (owners ++ owners_with (Layout.New m') g.node new x) =
        last ∙ middle ∙ ap₂ (λ (w : Owner) (ws : List Owner). with_changed w ws) (grown_owner at_anew) admitted in
        let come = owners_with (Layout.New m') g.node new x in
        subst (λ (ws : List Owner). OwnersEdited owners owners' ws (owners_with (Layout.New m') up g.node anew ++ come)) (sym (ap (λ (b : Bool). cond b (owner_with (Layout.New m) up g.node o ∷ []) []) is.some))
        (subst (λ (ws : List Owner). OwnersEdited owners owners' (owner_with (Layout.New m) up g.node o ∷ []) (ws ++ come)) (sym (ap (λ (b : Bool). cond b (owner_with (Layout.New m') up g.node anew ∷ []) []) some))
        (subst (λ (ws : List Owner). OwnersEdited owners ws (owner_with (Layout.New m) up g.node o ∷ []) (owner_with (Layout.New m') up g.node anew ∷ come)) (sym now)
        (changed_with (Layout.New m) nodes owners listings o stay up g.node is (owner_with (Layout.New m') up g.node anew) come refl come_stays)))
