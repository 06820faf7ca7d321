-- The owner of an object that another directory holds, or that has another name: it is the same but for its directory.
use Rattle.std.proofs.Common.{◌≡◌, ◌++◌, ℕ, Bool, true, false, cond, List, [], ◌∷◌, filter, map, refl, sym, ap, ap₂, subst, ◌∙◌, Option, Some, None, eq-eqb, is_some}
use Rattle.std.specs.Prelude.{◌==◌, Contains, IsPermutation}
use Rattle.std.specs.Option.{unwrap_or}
use Rattle.std.proofs.lemmas.Bool.{eqb-true, false_from_ne_true as unless}
use Rattle.std.proofs.lemmas.List.Sorted.{IsPermutation-map, IsPermutation-refl, IsPermutation-trans}
use Rattle.fc_names.specs.Names.{Path, is_same_path}
use Rattle.fc_alloc.specs.declared.owner.Owner.{Owner}
use Rattle.fc_alloc.specs.Owners.{has_node, is_node, with_changed}
use Rattle.fc_dirs.proofs.SearchLemmas.{is_some-find}
use Rattle.fc_drafts.specs.Entries.{renamed_entry}
use Rattle.fc_image.specs.Layout.{Layout}
use Rattle.fc_image.specs.Objects.{has_sectors, objects_of}
use Rattle.fc_image.specs.Walk.{Object}
use Rattle.fc_image.proofs.EntriesLemmas.{from_filter, later as contains_later}
use Rattle.fc_changes.proofs.BasicLemmas.{clash}
use Rattle.fc_tree.specs.Parts.{AreOwners, owner_of}
use Rattle.fc_tree.proofs.MemberLemmas.{from_map}
use Rattle.fc_tree.proofs.PlaceLemmas.{one_path}
use Rattle.fc_laws.specs.nodes.Edits.{Nodes, OwnersEdited, owner_with, owners_with}
use Rattle.fc_laws.proofs.lemmas.agree.CutLemmas.{cut_law}
use Rattle.fc_laws.proofs.lemmas.agree.KeptLemmas.{alone}
use Rattle.fc_laws.proofs.lemmas.nodes.ListLemmas.{in_first, map_fixed}
use Rattle.fc_laws.proofs.lemmas.nodes.OwnerLemmas.{owner_law}
use Rattle.fc_refusals.specs.declared.target.Renaming.{Renaming}
use Rattle.fc_image.specs.Walk.{Listing}
use Rattle.fc_image.proofs.ShuffleLemmas.{IsPermutation-filter}
use Rattle.fc_change.specs.declared.change.Change.{Change}
use Rattle.fc_change.specs.declared.change.Regrowth.{Regrowth}
use Rattle.fc_change.specs.declared.change.Turned.{Turned}
use Rattle.fc_change.specs.declared.change.Turned.TheVariants as turns
use Rattle.fc_change.specs.After.{AreOwnersAfter, CanTurnOwner, HasPlaceFor, IsRegrownOwner, IsTurnedOwner, owners_admitted}
use Rattle.fc_change.specs.Owned.{IsOwnerNow, owner_if, owners_with_room}
use Rattle.fc_commands.proofs.MoveLemmas.{IsSeen, among, h, k, o}
use Rattle.fc_commands.proofs.OwnerLemmas.{owner_is}
use Rattle.fc_commands.proofs.StayingLemmas.{owner_if_is}
use Rattle.fc_commands.proofs.TargetLemmas as target_of
use Rattle.fc_image.proofs.CommandLemmas.{same_by_folds}

-- ---- an owner that is there, if there is one

module _ (n : ℕ) (new : Owner) (some : Bool) (owners : List Owner) (node_is : new.node ≡ n) (has : has_node owners n ≡ some) (own : Option Owner) (own_is : own ≡ cond some (Some new) None) where
  pub no_room : owners_with_room own owners ≡ owners
  no_room = ap (λ (y : Option Owner). owners_with_room y owners) own_is ∙ by some refl
    where
      by : (b : Bool) → some ≡ b → owners_with_room (cond b (Some new) None) owners ≡ owners
      by true e = ap (λ (m : ℕ). cond (has_node owners m) owners (owners ++ new ∷ [])) node_is ∙ ap (λ (b : Bool). cond b owners (owners ++ new ∷ [])) (has ∙ e)
      by false e = refl

  pub has_place : HasPlaceFor own owners
  has_place = subst (λ (y : Option Owner). HasPlaceFor y owners) (sym own_is) (by some refl)
    where
      by : (b : Bool) → some ≡ b → HasPlaceFor (cond b (Some new) None) owners
      by true e = subst (λ (m : ℕ). has_node owners m ≡ true) (sym node_is) (has ∙ e)
      by false e = tt

-- ---- that of the object

module _ (layout : Layout) (nodes : Nodes) (listings : List Listing) (from to : Path) (r : Renaming) (name : List ℕ) (x : IsSeen layout nodes listings from to r name) (owners : List Owner)
    (owned : AreOwners owners nodes layout (objects_of listings)) where
  abbrev it : Object
  it = o layout nodes listings from to r name x

  -- before, and after it
  abbrev old : Owner
  old = owner_with layout r.target.holder r.target.node it

  abbrev new : Owner
  new = owner_with layout r.holder r.target.node it

  there : Contains (objects_of listings) it
  there = among layout nodes listings from to r name x

  abbrev as_owner : Object → Owner
  as_owner = owner_of nodes layout

  old_is : as_owner it ≡ old
  old_is = owner_law nodes layout listings (k layout nodes listings from to r name x) r.target.at it r.target.holder r.target.node (h layout nodes listings from to r name x)
      (record { listed = x.known.target.listed; at = x.known.target.at; dir_is = x.known.target.holder_is; number_is = x.known.target.node_is })

  pub has : has_node owners r.target.node ≡ has_sectors (o layout nodes listings from to r name x)
  has =
      sym (is_some-find (is_node r.target.node) owners)
      ∙ ap is_some (owner_is layout nodes listings owners it r.target.node x.sound x.held owned x.known.target.node_is there) ∙ by (has_sectors it)
    where
      by : (b : Bool) → is_some (cond b (Some (as_owner it)) None) ≡ b
      by true = refl
      by false = refl

  -- what the change makes it
  pub now_is : owner_if layout r.target.node r.holder (renamed_entry it.entry name it.entry.address) ≡ cond (has_sectors it) (Some new) None
  now_is = owner_if_is layout r.target.node r.holder it (renamed_entry it.entry name it.entry.address)
      (target_of.placed layout nodes listings x.sound x.held from r.target x.known.target) (record { address = refl; len = refl; kind = refl })

  abbrev change : Turned
  change = turns.Turns r.target.node r.holder (renamed_entry it.entry name it.entry.address)

  -- It needs no memory,
  pub admitted : (number : ℕ) → owners_admitted layout change number owners ≡ owners
  admitted number = no_room r.target.node new (has_sectors it) owners refl has (owner_if layout r.target.node r.holder (renamed_entry it.entry name it.entry.address)) now_is

  pub can_turn : CanTurnOwner layout owners change
  can_turn = has_place r.target.node new (has_sectors it) owners refl has (owner_if layout r.target.node r.holder (renamed_entry it.entry name it.entry.address)) now_is

  -- ---- the others

  cut : (stay : List Object) × IsPermutation (objects_of listings) (it ∷ stay)
  cut = cut_law.others layout listings (k layout nodes listings from to r name x) r.target.at it x.sound x.known.target.listed x.known.target.at

  rest : List Owner
  rest = map as_owner (filter has_sectors cut.0)

  -- None of them is of its node.
  others_stay : (w : Owner) → w.node ≡ r.target.node → with_changed w rest ≡ rest
  unfolding rest
  others_stay w its_node = map_fixed (λ (p : Owner). cond (is_node w.node p) w p) rest (λ p at. ap (λ (b : Bool). cond b w p) (unless (is_node w.node p) (λ same.
      let q = from_map as_owner (filter has_sectors cut.0) p at in
      let q_in = from_filter has_sectors cut.0 q.0 q.1 in
      let in_walk = in_first (objects_of listings) (it ∷ cut.0) cut.1 q.0 (contains_later it q.0 cut.0 q_in) in
      let its = x.held.each q.0 in_walk in
      let number : its.number ≡ r.target.node = sym (ap (λ (m : Option ℕ). unwrap_or m 0) its.at_path) ∙ ap (λ (v : Owner). v.node) q.2 ∙ eqb-true p.node w.node same ∙ its_node in
      clash (is_same_path it.path q.0.path)
      (same_by_folds it.path q.0.path
      (one_path nodes r.target.node _ it.path q.0.path refl x.known.target.node_is (its.at_path ∙ ap (λ (m : ℕ). let s : Option ℕ = Some m in s) number)))
      (alone layout listings it q.0 cut.0 x.sound cut.1 q_in))))

  owners_are : IsPermutation owners (map as_owner (filter has_sectors (it ∷ cut.0)))
  owners_are =
      IsPermutation-trans owners (map as_owner (filter has_sectors (objects_of listings))) (map as_owner (filter has_sectors (it ∷ cut.0))) owned
      (IsPermutation-map as_owner (filter has_sectors (objects_of listings)) (filter has_sectors (it ∷ cut.0)) (IsPermutation-filter has_sectors (objects_of listings) (it ∷ cut.0) cut.1))

  -- It is another owner then, if it has sectors.
  pub changed : (w : Owner) → w.node ≡ r.target.node → (owners' : List Owner) → (b : Bool) → has_sectors (o layout nodes listings from to r name x) ≡ b → IsOwnerNow r.target.node (cond b (Some w) None) owners owners'
      → OwnersEdited owners owners' (cond b (owner_with layout r.target.holder r.target.node (o layout nodes listings from to r name x) ∷ []) []) (cond b (w ∷ []) [])
  unfolding rest
  changed w its_node owners' true some now =
      let before : IsPermutation owners (old ∷ rest) =
      subst (IsPermutation owners) (ap (λ (c : Bool). map as_owner (cond c (it ∷ filter has_sectors cut.0) (filter has_sectors cut.0))) some ∙ ap (λ (v : Owner). v ∷ rest) old_is) owners_are in
      let here : (r.target.node == w.node) ≡ true = eq-eqb r.target.node w.node (sym its_node) in
      record {
        rest = rest;
        before = before;
        after = subst (λ (os : List Owner). IsPermutation os (w ∷ rest)) (sym now)
            (subst (IsPermutation (with_changed w owners)) (ap₂ (λ (c : Bool) (os : List Owner). cond c w old ∷ os) here (others_stay w its_node))
            (IsPermutation-map (λ (p : Owner). cond (is_node w.node p) w p) owners (old ∷ rest) before));
      }
  changed w its_node owners' false none now = record {
    rest = owners;
    before = IsPermutation-refl owners;
    after = subst (λ (os : List Owner). IsPermutation os owners) (sym (now.none (has ∙ none))) (IsPermutation-refl owners);
  }

  -- It goes from the one directory to the other.
  pub edited : (c : Change) (owners' : List Owner) → c.grown ≡ None → c.object ≡ change → (number : ℕ) → AreOwnersAfter layout nodes c (owners_admitted layout c.object number owners) owners'
      → OwnersEdited owners owners' (owners_with layout r.target.holder r.target.node it) (owners_with layout r.holder r.target.node it)
  edited c owners' none turned number run =
      let room : owners_admitted layout c.object number owners ≡ owners = ap (λ (y : Turned). owners_admitted layout y number owners) turned ∙ admitted number in
      let after = subst (λ (os : List Owner). AreOwnersAfter layout nodes c os owners') room run in
      let middle : after.middle ≡ owners = subst (λ (g : Option Regrowth). IsRegrownOwner layout nodes g owners after.middle) none after.grown in
      let now = subst (λ (os : List Owner). IsOwnerNow r.target.node (owner_if layout r.target.node r.holder (renamed_entry it.entry name it.entry.address)) os owners') middle
      (subst (λ (y : Turned). IsTurnedOwner layout y after.middle owners') turned after.object) in
      changed new refl owners' (has_sectors it) refl (subst (λ (y : Option Owner). IsOwnerNow r.target.node y owners owners') now_is now)
