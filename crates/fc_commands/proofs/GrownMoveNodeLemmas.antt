-- `rename` by which a directory grows: the nodes after it, and who owns what then.
use Rattle.fc_laws.proofs.lemmas.agree.RoomLemmas.{dir_sector}
use Rattle.fc_changes.proofs.NewPlaceLemmas.{some_there}
use Rattle.fc_alloc.specs.Owners.{has_node, is_node, with_changed}
use Rattle.fc_alloc.specs.declared.owner.Owner.{Owner}
use Rattle.fc_change.specs.After.{AreOwnersAfter, IsRegrownOwner, IsTurnedOwner, gone_in, nodes_after, owners_admitted, with_regrown, with_said, with_turned, without_gone}
use Rattle.fc_change.specs.Owned.{IsOwnerNow, entry_owner, owner_if}
use Rattle.fc_change.specs.declared.change.Regrowth.{Regrowth}
use Rattle.fc_change.specs.declared.change.Turned.{Turned}
use Rattle.fc_change.specs.declared.change.Turned.TheVariants as turns
use Rattle.fc_changes.proofs.BasicLemmas.{holder_pushed}
use Rattle.fc_commands.proofs.GrownMoveEditLemmas.{become, tell_now}
use Rattle.fc_commands.proofs.GrownMoveMadeLemmas.{EditedRename, MadeEdit, up_in}
use Rattle.fc_commands.proofs.GrownMoveReadyLemmas.{node_other}
use Rattle.fc_commands.proofs.GrownMoveRestLemmas.{other_l, other_node, rest}
use Rattle.fc_commands.proofs.GrownMoveSaidLemmas.{anew, it, k, l, layout, listed}
use Rattle.fc_commands.proofs.GrownMoveToldLemmas.{entry_now}
use Rattle.fc_commands.proofs.GrownMoveWalkLemmas as walk
use Rattle.fc_commands.proofs.GrownMoveWantLemmas.{GrownRename}
use Rattle.fc_commands.proofs.GrownMoveWantLemmas as want
use Rattle.fc_commands.proofs.GrownNodeLemmas.{regrown_put}
use Rattle.fc_commands.proofs.GrownOwnerLemmas.{IsOwned}
use Rattle.fc_commands.proofs.GrownOwnerLemmas as own_of
use Rattle.fc_commands.proofs.GrownSpaceLemmas.{growing_of}
use Rattle.fc_commands.proofs.GrownSpaceLemmas as space_of
use Rattle.fc_commands.proofs.MoveLemmas as seen_of
use Rattle.fc_commands.proofs.MoveOwnerLemmas as mover
use Rattle.fc_commands.proofs.NodeLemmas as its
use Rattle.fc_commands.proofs.StayingLemmas.{owner_same}
use Rattle.fc_commands.proofs.TargetLemmas as target_of
use Rattle.fc_dirs.specs.declared.Entry.{Entry}
use Rattle.fc_drafts.specs.Entries.{regrown}
use Rattle.fc_edits.specs.Edit.{AreEdited, owners_joined, owners_left}
use Rattle.fc_edits.specs.Growing.{Growing, grown as grown_with, grown_by, up_of}
use Rattle.fc_edits.specs.NewNodes.{enter, entered, entering, tell}
use Rattle.fc_image.proofs.EntriesLemmas.{from_filter}
use Rattle.fc_image.proofs.ShuffleLemmas.{IsPermutation-filter}
use Rattle.fc_image.specs.Edits.{IsAt}
use Rattle.fc_image.specs.Layout.{Layout}
use Rattle.fc_image.specs.Objects.{has_sectors}
use Rattle.fc_image.specs.Walk.{Object}
use Rattle.fc_laws.proofs.lemmas.nodes.ListLemmas.{map_fixed}
use Rattle.fc_laws.proofs.lemmas.nodes.OwnerLemmas.{owner_known}
use Rattle.fc_laws.proofs.lemmas.nodes.ShapeLemmas.{put_other}
use Rattle.fc_laws.specs.nodes.Edits.{Nodes, OwnersEdited, owner_with, owners_with}
use Rattle.fc_model.specs.Tree.{holder as holder_path}
use Rattle.fc_newmap.specs.Map.{Map}
use Rattle.fc_tree.proofs.MemberLemmas.{from_map}
use Rattle.fc_tree.proofs.WalkedLemmas.{same_some}
use Rattle.fc_tree.specs.Nodes.{number_of}
use Rattle.fc_tree.specs.Parts.{owner_of}
use Rattle.fc_tree.specs.declared.node.Node.{Node}
use Rattle.std.proofs.Common.{Bool, List, None, Option, Some, [], ap, ap₂, cond, eq-eqb, false, filter, inl, inr, map, refl, subst, sym, true, ℕ, ⊎_elim, ◌++◌, ◌==◌, ◌||◌, ◌∙◌, ◌∷◌, ◌≡◌, ◌⊎◌, length}
use Rattle.std.proofs.lemmas.Bool.{eqb-true, ne_eqb}
use Rattle.std.proofs.lemmas.List.Sorted.{IsPermutation-cons, IsPermutation-map, IsPermutation-trans}
use Rattle.std.specs.FinMap.{get, insert as put}
use Rattle.std.specs.Option.{option_map_or}
use Rattle.std.specs.Prelude.{IsPermutation}

-- the growth as a part of the edit
abbrev pub growing_in : (w : EditedRename) → MadeEdit w → Growing
growing_in w md = growing_of w.q.seen.known.destination.listing.object (want.grown w.q).0 md.again md.same md.holder md.others

module _ (w : EditedRename) (md : MadeEdit w) where
  abbrev q : GrownRename
  q = w.q

  abbrev g : Regrowth
  g = (want.grown w.q).0.directory

  abbrev e : Entry
  e = entry_now w.q

  -- ---- nodes

  abbrev own_node : Node
  own_node = its.node q.nodes (layout q) q.listings q.seen.sound q.seen.held (l q) (listed q) g.node (walk.number q)

  own_there : get w.q.nodes (want.grown w.q).0.directory.node ≡ Some own_node
  own_there = its.there q.nodes (layout q) q.listings q.seen.sound q.seen.held (l q) (listed q) g.node (walk.number q)

  abbrev it_node : Node
  it_node = target_of.node (layout q) q.nodes q.listings q.seen.sound q.seen.held q.from q.r.target q.seen.known.target

  it_there : get w.q.nodes w.q.r.target.node ≡ Some it_node
  it_there = target_of.node_is (layout q) q.nodes q.listings q.seen.sound q.seen.held q.from q.r.target q.seen.known.target

  up_is : up_of md.holder ≡ own_node.holder
  up_is =
      same_some (up_of md.holder) own_node.holder
      (sym md.above ∙ (q.seen.held.each (l q).object (its.among q.nodes (layout q) q.listings q.seen.sound q.seen.held (l q) (listed q) g.node (walk.number q))).at_holder)

  regrown_is : with_regrown (Some (want.grown w.q).0.directory) w.q.nodes ≡ put w.q.nodes (want.grown w.q).0.directory.node (record own_node { entry = (anew w.q).entry })
  regrown_is = regrown_put g own_node q.nodes own_there

  then_there : get (put w.q.nodes (want.grown w.q).0.directory.node (record own_node { entry = (anew w.q).entry })) w.q.r.target.node ≡ Some it_node
  then_there = put_other q.nodes g.node q.r.target.node (record own_node { entry = (anew q).entry }) (node_other q) ∙ it_there

  turned_is : with_turned (turns.Turns w.q.r.target.node w.q.r.holder e) 0 (with_regrown (Some (want.grown w.q).0.directory) w.q.nodes)
      ≡ put (put w.q.nodes (want.grown w.q).0.directory.node (record own_node { entry = (anew w.q).entry })) w.q.r.target.node (record it_node { holder = w.q.r.holder; entry = e })
  turned_is =
      ap (λ (ns : Nodes). with_turned (turns.Turns q.r.target.node q.r.holder e) 0 ns) regrown_is
      ∙ ap (λ (y : Option Node). option_map_or (λ (z : Node). put (put q.nodes g.node (record own_node { entry = (anew q).entry })) q.r.target.node (record z { holder = q.r.holder; entry = e })) y (put q.nodes g.node (record own_node { entry = (anew q).entry }))) then_there

  entered_is : enter (entering (grown_by w.e (growing_in w md) md.holder)) w.q.nodes
      ≡ put (put w.q.nodes (want.grown w.q).0.directory.node (record own_node { entry = (anew w.q).entry })) w.q.r.target.node (record it_node { holder = w.q.r.holder; entry = e })
  entered_is =
      ap (λ (rs : List (ℕ × (ℕ × Object))). enter rs q.nodes) md.enters
      ∙ ap (λ (y : Option Node). enter ((g.node, (q.r.target.node, w.then)) ∷ []) (put q.nodes g.node (entered (up_of md.holder) (anew q) y))) own_there
      ∙ ap (λ (n : ℕ). enter ((g.node, (q.r.target.node, w.then)) ∷ []) (put q.nodes g.node (record own_node { holder = n; entry = (anew q).entry }))) up_is
      ∙ ap (λ (y : Option Node). put (put q.nodes g.node (record own_node { entry = (anew q).entry })) q.r.target.node (entered g.node w.then y)) then_there
      ∙ ap₂ (λ (n : ℕ) (x : Entry). put (put q.nodes g.node (record own_node { entry = (anew q).entry })) q.r.target.node (record it_node { holder = n; entry = x })) (want.dir_is q) md.entry

  -- They are those that are taken over.
  pub nodes_are : (number : ℕ) → nodes_after w.pr.change number w.q.nodes ≡ tell (grown_with w.e (growing_in w md)).amended (enter (entering (grown_with w.e (growing_in w md))) w.q.nodes)
  nodes_are number =
      (λ i. without_gone (gone_in (md.turned i)) (with_said (md.says i) (with_turned (md.turned i) number (with_regrown (md.grown i) q.nodes))))
      ∙ ap (with_said (md.said ∷ md.others_said)) turned_is
      ∙ tell_now q (become q w.e) (up_in q (it q)) md.order (md.said ∷ md.others_said) (md.ready.own ∷ md.ready.pieces) md.all
      (put (put q.nodes g.node (record own_node { entry = (anew q).entry })) q.r.target.node (record it_node { holder = q.r.holder; entry = e }))
      ∙ md.retold (put (put q.nodes g.node (record own_node { entry = (anew q).entry })) q.r.target.node (record it_node { holder = q.r.holder; entry = e }))
      ∙ ap (tell (grown_with w.e (growing_in w md)).amended) (sym entered_is)

  pub nodes_edited : (number : ℕ) → AreEdited w.q.nodes (nodes_after w.pr.change number w.q.nodes) (grown_with w.e (growing_in w md))
  nodes_edited number =
      subst (λ (ns : Nodes). AreEdited q.nodes ns (grown_with w.e (growing_in w md))) (sym (nodes_are number))
      md.nodes_edited

  -- ---- owners

  l_some : has_sectors w.q.seen.known.destination.listing.object ≡ true
  l_some = let s = dir_sector q.kind q.m q.nodes q.owners q.root q.listings q.agreed (l q) (listed q) in some_there (l q).object.sectors s.0 s.1

  pub is_owned : IsOwned (Layout.New w.q.m) w.q.nodes w.q.owners w.q.listings w.q.seen.known.destination.listing.object (walk.cut w.q).0 (up_of md.holder) (want.grown w.q).0.directory.node
  is_owned = record {
    sound = q.seen.sound;
    held = q.seen.held;
    owned = q.agreed.owned;
    above = md.above;
    number = walk.number q;
    others = (walk.cut q).1;
    some = l_some;
  }

  -- Of the grown directory, too.
  abbrev pub IsGrownOwner : Map → Type 0
  IsGrownOwner m' =
      entry_owner (Layout.New m') (want.grown w.q).0.directory.node own_node.holder (regrown own_node.entry (want.grown w.q).0.directory.address (want.grown w.q).0.directory.len)
      ≡ owner_with (Layout.New m') (up_of md.holder) (want.grown w.q).0.directory.node (anew w.q)

  -- So it is of one that lies in as many sectors.
  pub grown_owner : (m' : Map) (sectors : List ℕ) → length sectors ≡ length (anew w.q).sectors → IsAt (Layout.New m') (record (anew w.q) { sectors = sectors }) → IsGrownOwner m'
  grown_owner m' sectors many at =
      ap (λ (n : ℕ). entry_owner (Layout.New m') g.node n (regrown own_node.entry g.address g.len)) (sym up_is)
      ∙ owner_same (Layout.New m') g.node (up_of md.holder) (record (anew q) { sectors = sectors }) (regrown (l q).object.entry g.address g.len) at (record { address = refl; len = refl; kind = refl })
      ∙ ap (λ (n : ℕ). record (owner_with (Layout.New m') (up_of md.holder) g.node (anew q)) { sectors = n }) many

  -- The object has sectors as before, its owner is known by the map then, and it needs no memory.
  pub record IsOwnedThen (m' : Map) : Type 0 where
    pub some : has_sectors w.then ≡ has_sectors w.q.seen.known.target.object
    pub now : owner_if (Layout.New m') w.q.r.target.node w.q.r.holder (entry_now w.q)
        ≡ cond (has_sectors w.q.seen.known.target.object) (Some (owner_with (Layout.New m') w.q.r.holder w.q.r.target.node w.then)) None
    pub admitted : (number : ℕ) → owners_admitted (Layout.New w.q.m) (turns.Turns w.q.r.target.node w.q.r.holder (entry_now w.q)) number w.q.owners ≡ w.q.owners

  module _ (m' : Map) (ow : IsOwnedThen m') (grown_owner : IsGrownOwner m') (anew_some : has_sectors (anew w.q) ≡ true) where
    -- the grown directory's, and the object's
    abbrev w_l : Owner
    w_l = owner_with (Layout.New m') (up_of md.holder) g.node (anew q)

    abbrev w_it : Owner
    w_it = owner_with (Layout.New m') q.r.holder q.r.target.node w.then

    abbrev now_it : List Owner
    now_it = cond (has_sectors (it q)) (w_it ∷ []) []

    abbrev as_owner : Object → Owner
    as_owner = owner_of q.nodes (layout q)

    abbrev left_l : Owner
    left_l = owner_with (layout q) (up_of md.holder) g.node (l q).object

    abbrev left_it : Owner
    left_it = owner_with (layout q) q.r.target.holder q.r.target.node (it q)

    others_keep : (v : Owner) → (v.node ≡ (want.grown w.q).0.directory.node) ⊎ (v.node ≡ w.q.r.target.node) → with_changed v (map as_owner (filter has_sectors (rest w.q).0)) ≡ map as_owner (filter has_sectors (rest w.q).0)
    others_keep v which = map_fixed (λ (p : Owner). cond (is_node v.node p) v p) (map as_owner (filter has_sectors (rest w.q).0)) (λ p at.
        let o = from_map as_owner (filter has_sectors (rest w.q).0) p at in
        let among = from_filter has_sectors (rest w.q).0 o.0 o.1 in
        ap (λ (b : Bool). cond b v p)
        (⊎_elim
        (λ grown. ap (λ (n : ℕ). p.node == n) grown ∙ ap (λ (x : Owner). x.node == g.node) (sym o.2) ∙ other_l w.q o.0 among)
        (λ its. ap (λ (n : ℕ). p.node == n) its ∙ ap (λ (x : Owner). x.node == q.r.target.node) (sym o.2) ∙ other_node w.q o.0 among) which))

    abbrev behind : List Owner
    behind = map as_owner (filter has_sectors (rest w.q).0)

    -- the owners before, by whether the object has sectors
    were : (b : Bool) → has_sectors w.q.seen.known.target.object ≡ b → IsPermutation w.q.owners (left_l ∷ (let os : List Owner = cond b (left_it ∷ []) [] in os) ++ behind)
    were b some =
        let kept = IsPermutation-map as_owner (filter has_sectors (walk.cut q).0) (filter has_sectors (it q ∷ (rest w.q).0)) (IsPermutation-filter has_sectors (walk.cut q).0 (it q ∷ (rest w.q).0) (rest w.q).1) in
        let first : map as_owner (filter has_sectors (it q ∷ (rest w.q).0)) ≡ (let os : List Owner = cond b (left_it ∷ []) [] in os) ++ behind =
        ap (λ (c : Bool). map as_owner (cond c (it q ∷ filter has_sectors (rest w.q).0) (filter has_sectors (rest w.q).0))) some ∙ by b in
        IsPermutation-trans q.owners (left_l ∷ map as_owner (filter has_sectors (walk.cut q).0)) (left_l ∷ ((let os : List Owner = cond b (left_it ∷ []) [] in os) ++ behind))
        (own_of.cut (layout q) q.nodes q.owners q.listings (l q).object (walk.cut q).0 (up_of md.holder) g.node is_owned)
        (IsPermutation-cons left_l (map as_owner (filter has_sectors (walk.cut q).0)) ((let os : List Owner = cond b (left_it ∷ []) [] in os) ++ behind)
        (subst (IsPermutation (map as_owner (filter has_sectors (walk.cut q).0))) first kept))
      where
        by : (c : Bool) → map as_owner (cond c (it q ∷ filter has_sectors (rest w.q).0) (filter has_sectors (rest w.q).0)) ≡ (let os : List Owner = cond c (left_it ∷ []) [] in os) ++ behind
        by true = ap (λ (v : Owner). v ∷ behind) (owner_known q.nodes (layout q) (layout q) (it q) q.r.target.holder q.r.target.node it_above q.seen.known.target.node_is (λ low. refl))
          where
            it_above : number_of q.nodes (holder_path (it q).path) ≡ Some q.r.target.holder
            it_above = ap (number_of q.nodes) (ap holder_path (seen_of.o_path (layout q) q.nodes q.listings q.from q.to q.r q.name q.seen) ∙ holder_pushed (k q).object.path (it q).entry.name) ∙ q.seen.known.target.holder_is
        by false = refl

    apart_nodes : (w.q.r.target.node == (want.grown w.q).0.directory.node) ≡ false
    apart_nodes = ne_eqb q.r.target.node g.node (node_other q)

    apart_back : ((want.grown w.q).0.directory.node == w.q.r.target.node) ≡ false
    apart_back = ne_eqb g.node q.r.target.node (λ same. node_other q (sym same))

    -- once the grown directory's owner is another
    first_changed : (b : Bool) → with_changed w_l (left_l ∷ ((let os : List Owner = cond b (left_it ∷ []) [] in os) ++ behind)) ≡ w_l ∷ ((let os : List Owner = cond b (left_it ∷ []) [] in os) ++ behind)
    first_changed true =
        ap₂ (λ (c d : Bool). cond c w_l left_l ∷ cond d w_l left_it ∷ with_changed w_l behind) (eq-eqb g.node g.node refl) apart_nodes ∙ ap (λ (os : List Owner). w_l ∷ left_it ∷ os) (others_keep w_l (inl refl))
    first_changed false = ap (λ (c : Bool). cond c w_l left_l ∷ with_changed w_l behind) (eq-eqb g.node g.node refl) ∙ ap (λ (os : List Owner). w_l ∷ os) (others_keep w_l (inl refl))

    second_changed : with_changed w_it (w_l ∷ left_it ∷ behind) ≡ w_l ∷ w_it ∷ behind
    second_changed =
        ap₂ (λ (c d : Bool). cond c w_it w_l ∷ cond d w_it left_it ∷ with_changed w_it behind) apart_back (eq-eqb q.r.target.node q.r.target.node refl) ∙ ap (λ (os : List Owner). w_l ∷ w_it ∷ os) (others_keep w_it (inr refl))

    changed_node : (v : Owner) (os : List Owner) (n : ℕ) → has_node (with_changed v os) n ≡ has_node os n
    changed_node v [] n = refl
    changed_node v (o ∷ os) n = ap₂ (λ (a b : Bool). a || b) (by (o.node == v.node) refl) (changed_node v os n)
      where
        by : (c : Bool) → (o.node == v.node) ≡ c → is_node n (cond c v o) ≡ is_node n o
        by true e = ap (λ (x : ℕ). x == n) (sym (eqb-true o.node v.node e))
        by false e = refl

    -- Of a change that is taken over.
    pub owners_edited : (number : ℕ) (owners' : List Owner) → AreOwnersAfter (Layout.New m') w.q.nodes w.pr.change (owners_admitted (Layout.New w.q.m) w.pr.change.object number w.q.owners) owners'
        → OwnersEdited w.q.owners owners' (owners_with (Layout.New w.q.m) (up_of md.holder) (want.grown w.q).0.directory.node w.q.seen.known.destination.listing.object ++ owners_left (Layout.New w.q.m) w.e)
        (owners_with (Layout.New m') (up_of md.holder) (want.grown w.q).0.directory.node (anew w.q) ++ owners_joined (Layout.New m') w.e)
    owners_edited number owners' after =
        let was : owners_admitted (layout q) w.pr.change.object number q.owners ≡ q.owners =
        ap (λ (y : Turned). owners_admitted (layout q) y number q.owners) md.turned ∙ ow.admitted number in
        let run = subst (λ (os : List Owner). AreOwnersAfter (Layout.New m') q.nodes w.pr.change os owners') was after in
        let middle : run.middle ≡ with_changed w_l q.owners =
        subst (λ (y : Option Regrowth). IsRegrownOwner (Layout.New m') q.nodes y q.owners run.middle) md.grown run.grown own_node own_there ∙ ap (λ (v : Owner). with_changed v q.owners) grown_owner in
        let last : IsOwnerNow q.r.target.node (cond (has_sectors (it q)) (Some w_it) None) (with_changed w_l q.owners) owners' =
        subst (λ (y : Option Owner). IsOwnerNow q.r.target.node y (with_changed w_l q.owners) owners') ow.now
        (subst (λ (os : List Owner). IsOwnerNow q.r.target.node (owner_if (Layout.New m') q.r.target.node q.r.holder e) os owners') middle
        (subst (λ (y : Turned). IsTurnedOwner (Layout.New m') y run.middle owners') md.turned run.object)) in
        subst (λ (os : List Owner). OwnersEdited q.owners owners' (owners_with (layout q) (up_of md.holder) g.node (l q).object ++ os) (owners_with (Layout.New m') (up_of md.holder) g.node (anew q) ++ owners_joined (Layout.New m') w.e))
        (sym (md.lefts (layout q)))
        (subst (λ (os : List Owner). OwnersEdited q.owners owners' (owners_with (layout q) (up_of md.holder) g.node (l q).object ++ owners_with (layout q) q.r.target.holder q.r.target.node (it q)) (owners_with (Layout.New m') (up_of md.holder) g.node (anew q) ++ os))
        (sym (md.joins (Layout.New m') ∙ ap (λ (b : Bool). let os : List Owner = cond b (w_it ∷ []) [] in os) ow.some))
        (subst (λ (os : List Owner). OwnersEdited q.owners owners' (os ++ owners_with (layout q) q.r.target.holder q.r.target.node (it q)) (owners_with (Layout.New m') (up_of md.holder) g.node (anew q) ++ now_it))
        (sym (ap (λ (b : Bool). cond b (left_l ∷ []) []) l_some))
        (subst (λ (os : List Owner). OwnersEdited q.owners owners' (left_l ∷ owners_with (layout q) q.r.target.holder q.r.target.node (it q)) (os ++ now_it))
        (sym (ap (λ (b : Bool). cond b (w_l ∷ []) []) anew_some)) (by (has_sectors (it q)) refl last))))
      where
        by : (b : Bool) → has_sectors (it q) ≡ b → IsOwnerNow q.r.target.node (cond b (Some w_it) None) (with_changed w_l q.owners) owners'
            → OwnersEdited q.owners owners' (left_l ∷ (let os : List Owner = cond b (left_it ∷ []) [] in os)) (w_l ∷ (let os : List Owner = cond b (w_it ∷ []) [] in os))
        by true some now =
            let once : IsPermutation (with_changed w_l q.owners) (w_l ∷ left_it ∷ behind) =
            subst (IsPermutation (with_changed w_l q.owners)) (first_changed true)
            (IsPermutation-map (λ (p : Owner). cond (is_node w_l.node p) w_l p) q.owners (left_l ∷ left_it ∷ behind) (were true some)) in
            record {
              rest = behind;
              before = were true some;
              after = subst (λ (os : List Owner). IsPermutation os (w_l ∷ w_it ∷ behind)) (sym now)
                  (subst (IsPermutation (with_changed w_it (with_changed w_l q.owners))) second_changed
                  (IsPermutation-map (λ (p : Owner). cond (is_node w_it.node p) w_it p) (with_changed w_l q.owners) (w_l ∷ left_it ∷ behind) once));
            }
        by false some now =
            let none : has_node (with_changed w_l q.owners) q.r.target.node ≡ false =
            changed_node w_l q.owners q.r.target.node ∙ mover.has (layout q) q.nodes q.listings q.from q.to q.r q.name q.seen q.owners q.agreed.owned ∙ some in
            record {
              rest = behind;
              before = were false some;
              after = subst (λ (os : List Owner). IsPermutation os (w_l ∷ behind)) (sym (now.none none))
                  (subst (IsPermutation (with_changed w_l q.owners)) (first_changed false)
                  (IsPermutation-map (λ (p : Owner). cond (is_node w_l.node p) w_l p) q.owners (left_l ∷ behind) (were false some)));
            }
