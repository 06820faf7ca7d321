-- The owners after a file has come in the place of another.
use Rattle.std.proofs.Common.{◌≡◌, ◌≤◌, ◌+◌, ◌==◌, ◌||◌, ◌++◌, ◌⊎◌, inl, inr, ℕ, Bool, true, false, cond, List, [], ◌∷◌, filter, map, refl, sym, ap, ap₂, subst, ◌∙◌, arith, Option, Some, None}
use Rattle.std.specs.Prelude.{Contains, IsPermutation, nat_lt, not}
use Rattle.std.specs.Int.{div_ceil}
use Rattle.std.specs.List.{flat_map, list_any}
use Rattle.std.proofs.lemmas.List.{append-nil}
use Rattle.std.specs.Option.{unwrap_or}
use Rattle.std.proofs.lemmas.Bool.{eq-eqb, ne_eqb}
use Rattle.std.proofs.lemmas.List.Sorted.{Contains-permutation, IsPermutation-append_comm, IsPermutation-map, IsPermutation-refl, IsPermutation-sym, IsPermutation-trans, list_any-IsPermutation}
use Rattle.fc_names.specs.Names.{Path, is_directory, is_same_path}
use Rattle.fc_names.specs.declared.name.NameForm.{NameForm}
use Rattle.fc_dirs.specs.declared.Entry.{Entry}
use Rattle.fc_alloc.specs.declared.owner.Owner.{Owner}
use Rattle.fc_alloc.specs.Owners.{has_node, is_node, with_changed}
use Rattle.fc_image.specs.Layout.{Layout, dir_form, id_of, low_of, sector_bytes}
use Rattle.fc_image.specs.Edits.{IsAt}
use Rattle.fc_image.specs.Objects.{has_sectors, objects_of}
use Rattle.fc_image.specs.Sound.{AreSound}
use Rattle.fc_image.specs.Walk.{Listing, Object, object_size}
use Rattle.fc_image.proofs.PathsLemmas.{is_at, itself, many}
use Rattle.fc_changes.proofs.BasicLemmas.{any_in, cases_cons, clash, first_in, next_in}
use Rattle.fc_tree.specs.Nodes.{HoldObjects, number_of}
use Rattle.fc_tree.specs.Parts.{AreOwners, owner_of}
use Rattle.fc_tree.proofs.MemberLemmas.{many_permuted, no_element}
use Rattle.fc_tree.proofs.WalkedLemmas.{few_objects}
use Rattle.fc_laws.specs.nodes.Edits.{Nodes, OwnersEdited, owner_with, owners_with}
use Rattle.fc_laws.proofs.lemmas.nodes.OwnerLemmas.{among_permuted, owner_law, owners_among}
use Rattle.fc_refusals.specs.Targets.{IsTarget}
use Rattle.fc_refusals.specs.declared.target.Target.{Target}
use Rattle.fc_change.specs.declared.change.Change.{Change}
use Rattle.fc_change.specs.declared.change.Regrowth.{Regrowth}
use Rattle.fc_change.specs.declared.change.Turned.{Turned}
use Rattle.fc_change.specs.declared.change.Turned.TheVariants as turns
use Rattle.fc_change.specs.After.{AreOwnersAfter, HasPlaceFor, IsRegrownOwner, IsTurnedOwner, owners_admitted}
use Rattle.fc_change.specs.Owned.{IsOwnerNow, owner_if, owners_with_room}
use Rattle.fc_commands.proofs.ArrivalPartsLemmas.{IsAlike, owner_if_is}
use Rattle.fc_commands.proofs.OwnerLemmas.{same_path}
use Rattle.fc_commands.proofs.TargetLemmas as target_of

-- ---- one is changed in its place

-- none is of the node
none_changed : (new : Owner) (owners : List Owner) → has_node owners new.node ≡ false → with_changed new owners ≡ owners
none_changed new [] none = refl
none_changed new (p ∷ owners) none = by (p.node == new.node) refl none (none_changed new owners)
  where
    by : (b : Bool) → (p.node == new.node) ≡ b → (b || has_node owners new.node) ≡ false → (has_node owners new.node ≡ false → with_changed new owners ≡ owners)
        → with_changed new (p ∷ owners) ≡ p ∷ owners
    by true e f more = absurd (cc)
    by false e f more = ap (λ (c : Bool). cond c new p ∷ with_changed new owners) e ∙ ap (λ (os : List Owner). p ∷ os) (more f)

-- only one is
one_changed : (owners rest : List Owner) (old new : Owner) → IsPermutation owners (old ∷ rest) → old.node ≡ new.node → has_node rest new.node ≡ false → OwnersEdited owners (with_changed new owners) (old ∷ []) (new ∷ [])
one_changed owners rest old new before same alone = record {
  rest = rest;
  before = before;
  after = subst (IsPermutation (with_changed new owners)) turned (IsPermutation-map (λ (p : Owner). cond (is_node new.node p) new p) owners (old ∷ rest) before);
}
  where
    turned : with_changed new (old ∷ rest) ≡ new ∷ rest
    turned = ap (λ (b : Bool). cond b new old ∷ with_changed new rest) (eq-eqb old.node new.node same) ∙ ap (λ (os : List Owner). new ∷ os) (none_changed new rest alone)

-- only the last is
last_changed : (new : Owner) (owners : List Owner) → has_node owners new.node ≡ false → with_changed new (owners ++ new ∷ []) ≡ owners ++ new ∷ []
last_changed new [] none = ap (λ (x : Owner). x ∷ []) (either (new.node == new.node))
  where
    either : (b : Bool) → cond b new new ≡ new
    either true = refl
    either false = refl
last_changed new (p ∷ owners) none = by (p.node == new.node) refl none (last_changed new owners)
  where
    by : (b : Bool) → (p.node == new.node) ≡ b → (b || has_node owners new.node) ≡ false → (has_node owners new.node ≡ false → with_changed new (owners ++ new ∷ []) ≡ owners ++ new ∷ [])
        → with_changed new (p ∷ (owners ++ new ∷ [])) ≡ p ∷ (owners ++ new ∷ [])
    by true e f more = absurd (cc)
    by false e f more = ap (λ (c : Bool). cond c new p ∷ with_changed new (owners ++ new ∷ [])) e ∙ ap (λ (os : List Owner). p ∷ os) (more f)

-- ---- the owner that was there goes, and the one that comes is there

-- the owners of a node, of which there is one if it has sectors
pub record IsOnlyOwner (owners : List Owner) (old : Owner) (had : Bool) (node : ℕ) : Type 0 where
  pub rest : List Owner
  pub order : IsPermutation owners (cond had (old ∷ []) [] ++ rest)
  pub node_is : old.node ≡ node
  pub alone : has_node rest node ≡ false

module _ (owners : List Owner) (old : Owner) (node : ℕ) where
  there : IsOnlyOwner owners old true node → Contains owners old
  there only = Contains-permutation (old ∷ only.rest) owners old (IsPermutation-sym owners (old ∷ only.rest) only.order) (first_in old only.rest)

  absent : IsOnlyOwner owners old false node → has_node owners node ≡ false
  absent only = list_any-IsPermutation (is_node node) owners only.rest only.order ∙ only.alone

pub owners_after : (owners admitted owners' : List Owner) (old new : Owner) (had has : Bool) (node : ℕ) → IsOnlyOwner owners old had node → new.node ≡ node → admitted ≡ owners_with_room (cond has (Some new) None) owners
    → IsOwnerNow node (cond has (Some new) None) admitted owners' → OwnersEdited owners owners' (cond had (old ∷ []) []) (cond has (new ∷ []) [])
owners_after owners admitted owners' old new true true node only new_is room now =
    let here : has_node owners new.node ≡ true = any_in (is_node new.node) owners old (there owners old node only) (eq-eqb old.node new.node (only.node_is ∙ sym new_is)) in
    let kept : admitted ≡ owners = room ∙ ap (λ (b : Bool). cond b owners (owners ++ new ∷ [])) here in
    subst (λ (os : List Owner). OwnersEdited owners os (old ∷ []) (new ∷ [])) (sym (now ∙ ap (with_changed new) kept))
    (one_changed owners only.rest old new only.order (only.node_is ∙ sym new_is) (ap (has_node only.rest) new_is ∙ only.alone))
owners_after owners admitted owners' old new true false node only new_is room now = record {
  rest = owners';
  before = subst (λ (os : List Owner). IsPermutation os (old ∷ owners')) room (now.gone old (subst (λ (os : List Owner). Contains os old) (sym room) (there owners old node only)) only.node_is);
  after = IsPermutation-refl owners';
}
owners_after owners admitted owners' old new false true node only new_is room now =
    let none : has_node owners new.node ≡ false = ap (has_node owners) new_is ∙ absent owners old node only in
    let more : admitted ≡ owners ++ new ∷ [] = room ∙ ap (λ (b : Bool). cond b owners (owners ++ new ∷ [])) none in
    record {
      rest = owners;
      before = IsPermutation-refl owners;
      after = subst (λ (os : List Owner). IsPermutation os (new ∷ owners)) (sym (now ∙ ap (with_changed new) more ∙ last_changed new owners none)) (IsPermutation-append_comm owners (new ∷ []));
    }
owners_after owners admitted owners' old new false false node only new_is room now =
    let same : owners' ≡ owners = now.none (ap (λ (os : List Owner). has_node os node) room ∙ absent owners old node only) ∙ room in
    subst (λ (os : List Owner). OwnersEdited owners os [] []) (sym same) (record { rest = owners; before = IsPermutation-refl owners; after = IsPermutation-refl owners })

-- There is one to be changed once the memory is taken.
pub place_there : (owner : Option Owner) (owners : List Owner) → HasPlaceFor owner (owners_with_room owner owners)
place_there None owners = tt
place_there (Some o) owners = by (has_node owners o.node) refl
  where
    either : (b : Bool) → (b || true) ≡ true
    either true = refl
    either false = refl

    last : (os : List Owner) → has_node (os ++ o ∷ []) o.node ≡ true
    last [] = ap (λ (b : Bool). b || false) (eq-eqb o.node o.node refl)
    last (p ∷ os) = ap (λ (b : Bool). (p.node == o.node) || b) (last os) ∙ either (p.node == o.node)

    by : (b : Bool) → has_node owners o.node ≡ b → has_node (cond b owners (owners ++ o ∷ [])) o.node ≡ true
    by true e = e
    by false e = last owners

-- ---- none other is of an object's node

none_many : {X : Type 0} (t : X → Bool) (xs : List X) → many t xs ≡ 0 → (x : X) → Contains xs x → t x ≡ false
unfolding many
none_many t [] none x at = absurd (no_element x at)
none_many {X} t (y ∷ ys) none x at = by (t y) refl none (cases_cons y ys x at) (λ n later. none_many t ys n x later)
  where
    by : (b : Bool) → t y ≡ b → cond b 1 0 + many t ys ≡ 0 → (y ≡ x) ⊎ Contains ys x → (many t ys ≡ 0 → Contains ys x → t x ≡ false) → t x ≡ false
    by true e n c more = absurd (omega (arith, n))
    by false e n (inl same) more = ap t (sym same) ∙ e
    by false e n (inr later) more = more (omega (arith, n)) later

module _ (layout : Layout) (nodes : Nodes) (listings : List Listing) (owners : List Owner) (o : Object) (node : ℕ) (sound : AreSound layout listings) (held : HoldObjects nodes listings)
    (are : AreOwners owners nodes layout (objects_of listings)) (numbered : number_of nodes o.path ≡ Some node) (among : Contains (objects_of listings) o) (stay : List Object)
    (others : IsPermutation (objects_of listings) (o ∷ stay)) where
  abbrev as_owner : Object → Owner
  as_owner = owner_of nodes layout

  -- no other object is at its path
  few : many (is_at o.path) (o ∷ stay) ≤ 1
  few = subst (λ (n : ℕ). n ≤ 1) (sym (many_permuted (is_at o.path) (objects_of listings) (o ∷ stay) others)) (few_objects layout listings sound o.path)

  alone : many (is_at o.path) stay ≡ 0
  unfolding many
  alone = by (is_at o.path o) (itself o.path) few
    where
      by : (b : Bool) → b ≡ true → cond b 1 0 + many (is_at o.path) stay ≤ 1 → many (is_at o.path) stay ≡ 0
      by true e most = omega (arith, most)
      by false e most = absurd (cc)

  other_node : (q : Object) → Contains stay q → is_node node (as_owner q) ≡ false
  other_node q at =
      let there = Contains-permutation (o ∷ stay) (objects_of listings) q (IsPermutation-sym (objects_of listings) (o ∷ stay) others) (next_in o q stay at) in
      ne_eqb (as_owner q).node node (λ e. clash (is_same_path o.path q.path) (same_path layout nodes listings owners o node sound held are numbered among q there e) (none_many (is_at o.path) stay alone q at))

  none : (qs : List Object) → ((q : Object) → Contains qs q → is_node node (as_owner q) ≡ false) → list_any (is_node node) (owners_among nodes layout qs) ≡ false
  none [] each = refl
  none (q ∷ qs) each = by (has_sectors q) (each q (first_in q qs)) (none qs (λ r at. each r (next_in q r qs at)))
    where
      by : (b : Bool) → is_node node (as_owner q) ≡ false → list_any (is_node node) (owners_among nodes layout qs) ≡ false
          → list_any (is_node node) (map as_owner (cond b (q ∷ filter has_sectors qs) (filter has_sectors qs))) ≡ false
      by true e more = ap₂ (λ (a b : Bool). a || b) e more
      by false e more = more

  pub is_only : (own : Owner) → owner_of nodes layout o ≡ own → IsOnlyOwner owners own (has_sectors o) node
  is_only own same = record {
    rest = owners_among nodes layout stay;
    order = subst (IsPermutation owners) (by (has_sectors o))
        (IsPermutation-trans owners (owners_among nodes layout (objects_of listings)) (owners_among nodes layout (o ∷ stay)) are (among_permuted nodes layout (objects_of listings) (o ∷ stay) others));
    node_is = ap (λ (w : Owner). w.node) (sym same) ∙ ap (λ (r : Option ℕ). unwrap_or r 0) numbered;
    alone = none stay other_node;
  }
    where
      by : (b : Bool) → map as_owner (cond b (o ∷ filter has_sectors stay) (filter has_sectors stay)) ≡ cond b (own ∷ []) [] ++ owners_among nodes layout stay
      by true = ap (λ (w : Owner). w ∷ owners_among nodes layout stay) same
      by false = refl

-- ---- those that are taken over

same_alike : (layout : Layout) → IsAlike layout layout
same_alike layout = record { sector = refl; form = refl; first = λ low. refl }

-- The object of a target has turned into another, which lies by the layout afterwards.
pub owners_over : (layout layout' : Layout) (nodes : Nodes) (listings : List Listing) (owners owners' : List Owner) (path : Path) (t : Target) (target : IsTarget nodes listings path t) (o : Object) (c : Change) (number : ℕ) (stay : List Object)
    → IsAlike layout layout' → AreSound layout listings → HoldObjects nodes listings → AreOwners owners nodes layout (objects_of listings) → IsPermutation (objects_of listings) (target.object ∷ stay) → IsAt layout' o → c.grown ≡ None
    → c.object ≡ turns.Turns t.node t.holder o.entry → AreOwnersAfter layout' nodes c (owners_admitted layout c.object number owners) owners'
    → OwnersEdited owners owners' (flat_map (λ (p : Object). owners_with layout t.holder t.node p) (target.object ∷ [])) (owners_with layout' t.holder t.node o)
owners_over layout layout' nodes listings owners owners' path t target o c number stay alike sound held owned others at none turned after =
    let was = target.object in
    let law = owner_law nodes layout listings target.listing t.at was t.holder t.node (record { sound = sound; held = held }) (record { listed = target.listed; at = target.at; dir_is = target.holder_is; number_is = target.node_is }) in
    let only = is_only layout nodes listings owners was t.node sound held owned target.node_is (target_of.among layout nodes listings sound held path t target) stay others (owner_with layout t.holder t.node was) law in
    let admitted = owners_admitted layout c.object number owners in
    let room : admitted ≡ owners_with_room (cond (has_sectors o) (Some (owner_with layout' t.holder t.node o)) None) owners =
    ap (λ (x : Turned). owners_admitted layout x number owners) turned ∙ ap (λ (w : Option Owner). owners_with_room w owners) (owner_if_is layout layout' alike t.node t.holder o at) in
    let middle : after.middle ≡ admitted = subst (λ (g : Option Regrowth). IsRegrownOwner layout' nodes g admitted after.middle) none after.grown in
    let now : IsOwnerNow t.node (owner_if layout' t.node t.holder o.entry) admitted owners' =
    subst (λ (ws : List Owner). IsOwnerNow t.node (owner_if layout' t.node t.holder o.entry) ws owners') middle (subst (λ (x : Turned). IsTurnedOwner layout' x after.middle owners') turned after.object) in
    subst (λ (ws : List Owner). OwnersEdited owners owners' ws (owners_with layout' t.holder t.node o)) (sym (append-nil (owners_with layout t.holder t.node was)))
    (owners_after owners admitted owners' (owner_with layout t.holder t.node was) (owner_with layout' t.holder t.node o) (has_sectors was) (has_sectors o) t.node only refl room
    (subst (λ (w : Option Owner). IsOwnerNow t.node w admitted owners') (owner_if_is layout' layout' (same_alike layout') t.node t.holder o at) now))

-- ---- there is memory for it

owner_alike : (layout layout' : Layout) (alike : IsAlike layout layout') (n dir : ℕ) (e : Entry) → owner_if layout' n dir e ≡ owner_if layout n dir e
owner_alike layout layout' alike n dir e =
    ap (λ (w : Owner). cond (nat_lt 0 w.sectors) (Some w) None)
    (λ i. record {
      id = id_of e.address;
      dir = dir;
      node = n;
      file = not (is_directory e.attrs);
      low = low_of e.address;
      first = alike.first (low_of e.address) i;
      sectors = (let same : div_ceil (object_size (dir_form layout') e) (sector_bytes layout') ≡ div_ceil (object_size (dir_form layout) e) (sector_bytes layout) =
          ap₂ (λ (f : NameForm) (k : ℕ). div_ceil (object_size f e) k) alike.form alike.sector in same i);
    })

pub can_turn : (layout layout' : Layout) (alike : IsAlike layout layout') (owners : List Owner) (n dir : ℕ) (e : Entry) → HasPlaceFor (owner_if layout' n dir e) (owners_with_room (owner_if layout n dir e) owners)
can_turn layout layout' alike owners n dir e =
    subst (λ (o : Option Owner). HasPlaceFor o (owners_with_room (owner_if layout n dir e) owners)) (sym (owner_alike layout layout' alike n dir e)) (place_there (owner_if layout n dir e) owners)
