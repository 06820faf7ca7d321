-- What comes to a directory that grows by it, on a new map: the edit from the change that is prepared, and as it ran.
use Rattle.std.proofs.Common.{◌≡◌, ◌⊎◌, inl, inr, ⊎_elim, ℕ, ◌==◌, ◌&&◌, Bool, true, false, cond, List, [], ◌∷◌, refl, sym, ap, ap₂, subst, ◌∙◌, arith, eq-eqb, Option, Some, None}
use Rattle.std.specs.Prelude.{IfSome, Vec, is_none}
use Rattle.std.specs.FinMap.{get}
use Rattle.std.specs.Option.{option_map, unwrap_or}
use Rattle.std.specs.declared.alloc.Global.{Global}
use Rattle.fc_alloc.specs.declared.owner.Owner.{Owner}
use Rattle.fc_names.specs.Names.{Path}
use Rattle.fc_names.specs.declared.name.NameForm.{NameForm}
use Rattle.fc_names.specs.declared.name.NameForm.TheVariants as forms
use Rattle.fc_record.specs.declared.Geometry.{Geometry}
use Rattle.fc_record.specs.declared.Kind.{Kind}
use Rattle.fc_newmap.specs.Map.{Map, is_used, id_runs}
use Rattle.fc_newmap.specs.NewMap.{IsNewMap}
use Rattle.fc_device.specs.declared.disk.Extent.{Extent}
use Rattle.fc_dirs.specs.declared.Entry.{Entry}
use Rattle.fc_dirs.specs.Directory.{entries_of}
use Rattle.fc_model.specs.Tree.{holder, last_name}
use Rattle.fc_drafts.specs.declared.draft.Draft.{Draft}
use Rattle.fc_drafts.specs.declared.room.Room.TheVariants as rooms
use Rattle.fc_drafts.specs.Gains.{GetsName, HasRoom}
use Rattle.fc_image.specs.Edits.{IsAt}
use Rattle.fc_image.specs.Layout.{Layout, dir_form, id_of, sectors_at}
use Rattle.fc_image.specs.Objects.{has_sectors}
use Rattle.fc_image.specs.Walk.{Listing, Object, object_size}
use Rattle.fc_image.specs.effects.Short.{Gain}
use Rattle.fc_changes.proofs.BasicLemmas.{clash, or_false}
use Rattle.fc_laws.specs.nodes.Edits.{Nodes}
use Rattle.fc_laws.specs.agree.Agreed.{AgreeOn, parts_with}
use Rattle.fc_laws.proofs.lemmas.agree.BeforeLemmas.{agreed_law}
use Rattle.fc_objects.specs.Extents.{sectors_in}
use Rattle.fc_placing.proofs.PlacedLemmas.{place_law}
use Rattle.fc_plan.specs.declared.plan.Plan.{Plan}
use Rattle.fc_plan.specs.Applied.{IsTakenIn, parts_in_order}
use Rattle.fc_plan.specs.Parts.{fronts}
use Rattle.fc_plan.specs.Giving.{is_one_of}
use Rattle.fc_refusals.specs.Targets.{IsVacant}
use Rattle.fc_tree.specs.declared.node.Node.{Node}
use Rattle.fc_tree.specs.Agree.{Agree}
use Rattle.fc_tree.specs.Nodes.{number_of}
use Rattle.fc_tree.specs.Parts.{Parts}
use Rattle.fc_edits.specs.GrownAddition.{NewGrownAddition}
use Rattle.fc_edits.proofs.lemmas.GrownAdditionLemmas.{grown_addition_law}
use Rattle.fc_change.specs.declared.change.Regrowth.{Regrowth}
use Rattle.fc_change.specs.declared.change.Turned.{Turned}
use Rattle.fc_change.specs.declared.change.Turned.TheVariants as turns
use Rattle.fc_change.specs.declared.job.Growth.{Growth}
use Rattle.fc_change.specs.declared.spaces.GrownPlace.{GrownPlace}
use Rattle.fc_change.specs.declared.spaces.Place.{Place}
use Rattle.fc_change.specs.After.{AreOwnersAfter, nodes_after, owners_admitted}
use Rattle.fc_change.specs.GrownSpace.{root_of}
use Rattle.fc_change.specs.Prepared.{IsNewPiece, IsSourceOf}
use Rattle.fc_writing.specs.New.{IsGiven}
use Rattle.fc_writing.specs.Steps.{HasStepped}
use Rattle.fc_commands.specs.declared.stages.Prepared.{Prepared}
use Rattle.fc_commands.specs.Stages.{IsPreparedFor}
use Rattle.fc_commands.proofs.PlanPlaceLemmas.{plan_leads}
use Rattle.fc_commands.proofs.EmptySpaceLemmas.{none_copied}
use Rattle.fc_commands.proofs.GrownArrivalLemmas as arrival
use Rattle.fc_commands.proofs.GrownChangeLemmas.{IsGrownStepped}
use Rattle.fc_commands.proofs.GrownPieceLemmas.{IsGrownReady, grown_ready}
use Rattle.fc_commands.proofs.GrownPreparedLemmas.{IsEntering, IsGrownChange, comer_enters, grown_change, others_apart}
use Rattle.fc_commands.proofs.GrownSpaceLemmas.{IsToGrow}
use Rattle.fc_commands.proofs.GrownSpaceLemmas as space_of
use Rattle.fc_commands.proofs.GrownWalkLemmas as walk
use Rattle.fc_commands.proofs.GrownWantLemmas.{IsGrownWanted}
use Rattle.fc_commands.proofs.GrownWantLemmas as wanted
use Rattle.fc_changes.specs.Space.{HasTaken}
use Rattle.fc_plan.specs.Taking.{as_runs}
use Rattle.fc_commands.proofs.GrownBackLemmas as back_of
use Rattle.std.proofs.lemmas.List.Sorted.{Contains-permutation}
use Rattle.std.proofs.lemmas.Bool.{and_parts, eqb-true}
use Rattle.std.specs.List.{list_any}
use Rattle.fc_dirs.specs.Entries.{has_name}
use Rattle.fc_edits.specs.Addition.{ComesAlone}
use Rattle.fc_edits.specs.Placing.{IsPlaced}
use Rattle.fc_image.specs.Objects.{is_owner_of, objects_of}
use Rattle.fc_image.specs.Sound.{AreSound}
use Rattle.fc_image.specs.Walk.{is_directory_object}
use Rattle.fc_image.specs.effects.Sharing.{slack}
use Rattle.fc_image.proofs.HolesLemmas.{in_id}
use Rattle.fc_image.proofs.EntriesLemmas.{cases as contains_cases}
use Rattle.fc_newmap.specs.Map.{ZoneRun, all_runs, has_id}
use Rattle.fc_newmap.proofs.PlaceLemmas.{holder_of, id_run_in}
use Rattle.fc_changes.proofs.BasicLemmas.{any_in}
use Rattle.fc_changes.proofs.ChangeLemmas.{a_sector}
use Rattle.fc_changes.proofs.PlacedLemmas.{IsShared, is_shared}
use Rattle.fc_edits.proofs.lemmas.NewSpaceLemmas.{slack_files}
use Rattle.fc_laws.proofs.lemmas.agree.BeforeLemmas.{new_shape, some_zones}
use Rattle.fc_placing.specs.declared.placing.Placing.{Placing}
use Rattle.fc_placing.specs.declared.placing.Placing.TheVariants as placings
use Rattle.fc_placing.specs.declared.share.Share.{Share}
use Rattle.fc_placing.specs.Slack.{place_in}
use Rattle.fc_plan.specs.Applied.{id_in, parts_in}
use Rattle.fc_tree.proofs.WalkedLemmas.{listed_directory}
use Rattle.fc_change.specs.Drafts.{IsTurnedBy, address_in}
use Rattle.fc_change.specs.Places.{IsPlacingFor, address_for, plan_in}
use Rattle.fc_commands.proofs.ArrivalLemmas.{Arrival, address_is, bytes_of, entry_of, job_of, name_is, size_is}
use Rattle.fc_commands.proofs.ArrivalPlaceLemmas.{dir_some, shares_of}
use Rattle.fc_commands.proofs.GrownBackLemmas.{OwnOnlyOf}
use Rattle.fc_commands.proofs.GrownWantLemmas.{IsItsWant}
use Rattle.fc_placing.specs.Places.{id_in as placed_id, parts_in as placed_parts}
use Rattle.fc_commands.proofs.NewDoneLemmas.{IsPlacedAs, placed_as}
use Rattle.fc_commands.proofs.NewPlaceLemmas.{LiesBy, at_none, id_at}
use Rattle.fc_commands.proofs.NewSpotLemmas.{directory_spot, file_spot, lies_by, share_there}
use Rattle.fc_commands.proofs.VacantLemmas as vacant
use Rattle.fc_commands.proofs.GrownComerLemmas.{OwnsDraft, WritesIt, comes_by, comes_by_itself, listed_by, made_by, object_for, own_listings, placed_anywhere, writes_by}

-- ---- the change

-- What comes is made ready, and its directory grows.
module _ (m : Map) (nodes : Nodes) (owners : List Owner) (dir : ℕ) (x : Arrival) (path : Path) (pr : Prepared) (prep : IsPreparedFor (parts_with m nodes owners) (job_of dir x) (last_name path) pr)
    (growth : Growth) (some : prep.wants.grows ≡ Some growth) (is_map : IsNewMap m) where
  abbrev h : Parts
  h = parts_with m nodes owners

  abbrev name : List ℕ
  name = last_name path

  abbrev pub is : IsGrownWanted m nodes owners dir x (last_name path) prep.wants prep.spaces
  is = record { wants = prep.spaced.wants; placed = prep.spaced.places; growth = growth; some = some }

  abbrev pub p : GrownPlace
  p = (wanted.grown m nodes owners dir x (last_name path) prep.wants prep.spaces is).0

  abbrev pub q : Placing
  q = prep.spaced.places.placing

  abbrev pub plan : Option Plan
  plan = plan_in prep.spaced.places.placing

  abbrev pub place : Place
  place = (wanted.object m nodes owners dir x (last_name path) prep.wants prep.spaces is).0

  abbrev pub e : Entry
  e = entry_of (dir_form (Layout.New m)) x (last_name path) place.address

  p_is : prep.spaces.grown ≡ Some p
  p_is = (wanted.grown m nodes owners dir x (last_name path) prep.wants prep.spaces is).1

  place_is : prep.spaces.object ≡ Some place
  place_is = (wanted.object m nodes owners dir x (last_name path) prep.wants prep.spaces is).1

  dir_is : p.directory.node ≡ dir
  dir_is = wanted.dir_is m nodes owners dir x (last_name path) prep.wants prep.spaces is

  enters : IsEntering h (job_of dir x) p.directory.node name
  enters = subst (λ (n : ℕ). IsEntering h (job_of dir x) n name) (sym dir_is) (comer_enters h dir x name)

  entry_is : prep.change.entry ≡ e
  entry_is =
      made_by h dir x name (address_in prep.spaces) prep.change.entry prep.change.made
      ∙ ap (λ (o : Option Place). entry_of (dir_form (Layout.New m)) x name (unwrap_or (option_map (λ (y : Place). y.address) o) 0)) place_is

  pub change : IsGrownChange nodes e p.directory pr.change
  change = subst (λ (y : Entry). IsGrownChange nodes y p.directory pr.change) entry_is (grown_change h (job_of dir x) name prep.spaces pr.change p enters prep.change p_is)

  turned : (o : Option Draft) × (pr.change.object ≡ turns.Comes p.directory.node e o) × OwnsDraft (dir_form (Layout.New m)) p.directory.address x name o
  turned =
      comes_by h dir x name p.directory e pr.change.object dir_is
      (subst (λ (y : Entry). IsTurnedBy h (job_of dir x) name (Some p.directory) y pr.change.object) entry_is
      (subst (λ (g : Option Regrowth). IsTurnedBy h (job_of dir x) name g prep.change.entry pr.change.object) (ap (option_map (λ (y : GrownPlace). y.directory)) p_is) prep.change.object))

  pub own : Option Draft
  own = turned.0

  pub comes : pr.change.object ≡ turns.Comes p.directory.node e own
  unfolding own
  comes = turned.1

  pub owns : OwnsDraft (dir_form (Layout.New m)) p.directory.address x (last_name path) own
  unfolding own
  owns = turned.2

  pub ready : IsGrownReady (Layout.New m) nodes p change.said change.others prep.ready.made pr.ready
  ready = grown_ready h pr.change prep.spaces pr.ready p change.said change.others prep.ready p_is change.says change.tells.number (others_apart nodes e p.directory pr.change change)

  -- its bytes
  pub writes : WritesIt x own place prep.ready.made pr.ready.source
  writes =
      writes_by x (dir_form (Layout.New m)) p.directory.address p.directory.node (last_name path) e own place prep.ready.made pr.ready.source owns
      (subst (λ (t : Turned). IsNewPiece t (Some place) prep.ready.made) comes (subst (λ (o : Option Place). IsNewPiece pr.change.object o prep.ready.made) place_is prep.ready.makes))
      (subst (λ (t : Turned). IsSourceOf t (Some place) None pr.ready.source) comes
      (subst (λ (o : Option Place). IsSourceOf pr.change.object o None pr.ready.source) place_is
      (subst (λ (v : Option (Vec Extent Global)). IsSourceOf pr.change.object prep.spaces.object v pr.ready.source)
      (none_copied (Layout.New m) nodes prep.wants.copied prep.spaces.copied (wanted.want m nodes owners dir x (last_name path) prep.wants prep.spaces is).copy prep.spaced.places.copied) prep.ready.source)))

  abbrev pub sectors : List ℕ
  sectors = sectors_in place.extents.items

  -- of its bytes
  pub size : object_size (dir_form (Layout.New m)) e ≡ prep.wants.bytes
  size = size_is (dir_form (Layout.New m)) x (last_name path) place.address ∙ sym (wanted.want m nodes owners dir x (last_name path) prep.wants prep.spaces is).bytes

  -- ---- by any walk

  module _ (kind : Kind) (root : Node) (listings : List Listing) (agreed : AgreeOn kind m nodes owners root listings) (spot : IsVacant nodes listings path dir) where
    abbrev pub l : Listing
    l = spot.listing

    abbrev sound : AreSound (Layout.New m) listings
    sound = agreed_law.sound kind m nodes owners root listings agreed

    abbrev pub o : Object
    o = object_for (dir_form (Layout.New m)) spot.listing.object.path x (last_name path) place.address sectors

    abbrev near : Path
    near = holder path

    pub named : (entry_of (dir_form (Layout.New m)) x (last_name path) place.address).name ≡ last_name path
    named = name_is (dir_form (Layout.New m)) x (last_name path) place.address

    abbrev pub into : List Listing
    into = own_listings (dir_form (Layout.New m)) p.directory.address x (last_name path) (object_for (dir_form (Layout.New m)) spot.listing.object.path x (last_name path) place.address sectors)

    pub comes_alone : ComesAlone (Layout.New m) (own_listings (dir_form (Layout.New m)) p.directory.address x (last_name path) (object_for (dir_form (Layout.New m)) spot.listing.object.path x (last_name path) place.address sectors))
        (object_for (dir_form (Layout.New m)) spot.listing.object.path x (last_name path) place.address sectors)
    comes_alone = comes_by_itself (Layout.New m) spot.listing.object.path x (last_name path) place.address p.directory.address sectors own place prep.ready.made pr.ready.source owns writes

    abbrev pub at_walk : number_of nodes spot.listing.object.path ≡ Some p.directory.node
    at_walk = walk.number m nodes owners dir x path prep.wants prep.spaces is kind root listings agreed spot

    abbrev pub form : dir_form (Layout.New m) ≡ forms.Long
    form = walk.form m nodes owners dir x path prep.wants prep.spaces is kind root listings agreed spot

    pub room : (gain : Gain) → GetsName spot.listing.content (entry_of (dir_form (Layout.New m)) x (last_name path) place.address).name gain → HasRoom spot.listing.content gain (rooms.Grows p.directory.len)
    room = subst (λ (n : List ℕ). (gain : Gain) → GetsName spot.listing.content n gain → HasRoom spot.listing.content gain (rooms.Grows p.directory.len)) (sym named)
        (walk.room m nodes owners dir x path prep.wants prep.spaces is kind root listings agreed spot)

    pub absent : has_name (entries_of spot.listing.content) (entry_of (dir_form (Layout.New m)) x (last_name path) place.address).name ≡ false
    absent = subst (λ (n : List ℕ). has_name (entries_of spot.listing.content) n ≡ false) (sym named) spot.no_name

    abbrev pub stay : List Object
    stay = walk.stay m nodes owners dir x path prep.wants prep.spaces is kind root listings agreed spot

    abbrev pub to : IsToGrow m nodes owners listings spot.listing.object stay growth plan prep.spaced.places.dir p
    to = walk.to m nodes owners dir x path prep.wants prep.spaces is kind root listings agreed spot

    abbrev pub back : List ℕ
    back = wanted.back m nodes owners dir x (last_name path) prep.wants prep.spaces is

    abbrev pub was_alone : Bool
    was_alone = space_of.alone m nodes owners listings spot.listing.object stay growth plan prep.spaced.places.dir p to

    -- ---- where it lies

    address_same : (entry_of (dir_form (Layout.New m)) x (last_name path) place.address).address ≡ place.address
    address_same = address_is (dir_form (Layout.New m)) x (last_name path) place.address

    shares_it : (y : Arrival) → prep.wants.shares ≡ shares_of dir y → (prep.wants.shares ≡ None) ⊎ (prep.wants.shares ≡ Some dir)
    shares_it Arrival.Makes is' = inl is'
    shares_it (Arrival.Saves words) is' = inr is'

    above : number_of nodes (holder path) ≡ Some dir
    above = vacant.holder_number (Layout.New m) nodes listings sound path dir spot

    pub lying : LiesBy m prep.wants.bytes q place.address sectors
    lying =
        lies_by m nodes owners is_map listings sound agreed.walked.held agreed.owned near dir above prep.wants q place
        (shares_it x (wanted.want m nodes owners dir x (last_name path) prep.wants prep.spaces is).slack) prep.spaced.places.is
        (wanted.object_at m nodes owners dir x (last_name path) prep.wants prep.spaces is)

    -- as its kind is placed, by its placing and by its plan
    pub spot_by : IsPlacedAs x m (objects_of listings) (holder path) prep.wants.bytes (placed_id q) (placed_parts q) (object_for (dir_form (Layout.New m)) spot.listing.object.path x (last_name path) place.address sectors)
    spot_by = by x want.slack want.bytes
      where
        want : IsItsWant (parts_with m nodes owners) dir x (last_name path) prep.wants
        want = wanted.want m nodes owners dir x (last_name path) prep.wants prep.spaces is

        at : o.entry.address ≡ address_for m prep.wants q
        at = address_same ∙ (wanted.object_at m nodes owners dir x (last_name path) prep.wants prep.spaces is).0

        by : (y : Arrival) → prep.wants.shares ≡ shares_of dir y → prep.wants.bytes ≡ bytes_of (dir_form (Layout.New m)) y → IsPlacedAs y m (objects_of listings) (holder path) prep.wants.bytes (placed_id q) (placed_parts q) o
        by Arrival.Makes alone bytes =
            directory_spot m owners prep.wants q o alone (λ none. (let some = dir_some (dir_form (Layout.New m)) in omega (arith, some, bytes, none))) (λ i. is_none (alone i) && is_none (want.copy i)) prep.spaced.places.is at
        by (Arrival.Saves words) shares bytes =
            file_spot m nodes owners is_map listings sound agreed.walked.held agreed.owned near dir above prep.wants q o shares (λ i. is_none (shares i) && is_none (want.copy i)) prep.spaced.places.is at

    pub spot_as : IsPlacedAs x m (objects_of listings) (holder path) prep.wants.bytes (id_in plan) (parts_in plan) (object_for (dir_form (Layout.New m)) spot.listing.object.path x (last_name path) place.address sectors)
    spot_as = by q spot_by
      where
        by : (z : Placing) → IsPlacedAs x m (objects_of listings) (holder path) prep.wants.bytes (placed_id z) (placed_parts z) o → IsPlacedAs x m (objects_of listings) (holder path) prep.wants.bytes (id_in (plan_in z)) (parts_in (plan_in z)) o
        by (placings.New k) there = there
        by placings.Nowhere there = placed_anywhere x m (objects_of listings) near prep.wants.bytes (placed_id placings.Nowhere) 0 o is_map there
        by (placings.Shared share) there = placed_anywhere x m (objects_of listings) near prep.wants.bytes (placed_id (placings.Shared share)) 0 o is_map there

    -- ---- an identifier that it shares

    -- It is used, another object owns it, and it isn't the grown directory's.
    pub record IsOthers (id : ℕ) : Type 0 where
      pub used : is_used m id ≡ true
      pub owned : list_any (is_owner_of id) stay ≡ true
      pub apart : id ≡ id_of spot.listing.object.entry.address → ⊥

    slack_at : (share : Share) → IsPlacingFor m owners prep.wants (placings.Shared share) → slack m (objects_of listings) near prep.wants.bytes ≡ Some (place_in share)
    slack_at share at = by x (wanted.want m nodes owners dir x (last_name path) prep.wants prep.spaces is).slack
      where
        by : (y : Arrival) → prep.wants.shares ≡ shares_of dir y → slack m (objects_of listings) near prep.wants.bytes ≡ Some (place_in share)
        by Arrival.Makes alone = absurd (let there = sym at.1 ∙ alone in cc)
        by (Arrival.Saves words) shares = share_there m nodes owners is_map listings sound agreed.walked.held agreed.owned near dir above prep.wants shares share at

    shared_by : (share : Share) → IsPlacingFor m owners prep.wants (placings.Shared share) → IsShared m (objects_of listings) prep.wants.bytes (place_in share)
    shared_by share at = is_shared m (objects_of listings) near prep.wants.bytes (place_in share) (slack_at share at)

    pub is_others : (share : Share) → IsPlacingFor m owners prep.wants (placings.Shared share) → LiesBy m prep.wants.bytes (placings.Shared share) place.address sectors → IsOthers share.id
    is_others share at here =
        let s = shared_by share at in
        let file = slack_files m (objects_of listings) near prep.wants.bytes (place_in share) (slack_at share at) in
        let top = listed_directory (Layout.New m) listings sound l spot.listed in
        record {
          used = subst (λ (k : ℕ). is_used m k ≡ true) here.0
              (let first = a_sector m place.address prep.wants.bytes sectors s.some (new_shape m is_map).some here.1 in
              let run = holder_of m.geometry (id_runs m (id_of place.address)) first.0 (in_id m place.address prep.wants.bytes sectors first.0 here.1 first.1) in
              let there = id_run_in m (id_of place.address) run.0 (some_zones kind m nodes owners root listings agreed) run.1.0 in
              any_in (λ (r : ZoneRun). has_id (id_of place.address) r.1.kind) (all_runs m) run.0 there.0 there.1);
          owned = any_in (is_owner_of share.id) stay s.owner
              (⊎_elim (λ same. absurd (clash (is_directory_object s.owner) (ap is_directory_object (sym same) ∙ top.1) (file s.owner s.owner_in s.owns))) (λ other. other)
              (contains_cases l.object s.owner stay (Contains-permutation (objects_of listings) (l.object ∷ stay) s.owner to.others s.owner_in))) s.owns;
          apart = λ same. clash (is_directory_object l.object) top.1
              (file l.object top.0
              (ap₂ (λ (a b : Bool). a && b) (space_of.o_some m nodes owners listings l.object stay growth plan prep.spaced.places.dir p to) (eq-eqb (id_of l.object.entry.address) share.id (sym same))));
        }

    -- It owns no identifier that was used, but one that others own.
    pub fresh : OwnOnlyOf m (object_for (dir_form (Layout.New m)) spot.listing.object.path x (last_name path) place.address sectors ∷ []) stay
    fresh k used owns =
        let own = and_parts (has_sectors o) (id_of o.entry.address == k) (sym (or_false (is_owner_of k o)) ∙ owns) in
        by q prep.spaced.places.is lying own.0 (ap id_of (sym address_same) ∙ eqb-true (id_of o.entry.address) k own.1)
      where
        by : (z : Placing) → IsPlacingFor m owners prep.wants z → LiesBy m prep.wants.bytes z place.address sectors → has_sectors o ≡ true → id_of place.address ≡ k → list_any (is_owner_of k) stay ≡ true
        by placings.Nowhere at here some same = absurd (clash (has_sectors o) some (ap (λ (xs : List ℕ). has_sectors (record o { sectors = xs })) here.1))
        by (placings.Shared share) at here some same = subst (λ (i : ℕ). list_any (is_owner_of i) stay ≡ true) (sym here.0 ∙ same) (is_others share at here).owned
        by (placings.New y) at here some same =
            absurd (clash (is_used m k) used (ap (is_used m) (sym same ∙ ap id_of here.1.2 ∙ id_at y.id here.1.0 here.1.1) ∙ here.0.unused))

    -- ---- as it ran

    module _ (number : ℕ) (free : get nodes number ≡ None) (m' : Map) (owners' : List Owner) (given : IsGiven m pr.ready m')
        (after : AreOwnersAfter (Layout.New m') nodes pr.change (owners_admitted (Layout.New m) pr.change.object number owners) owners') where
      pub stepped : IsGrownStepped m m' plan prep.spaced.places.dir (space_of.alone m nodes owners listings spot.listing.object stay growth plan prep.spaced.places.dir p to) (root_of (Some p)) back
      stepped =
          walk.stepped m nodes owners dir x path prep.wants prep.spaces is kind root listings agreed spot given.0 m' (subst (HasStepped m given.0) prep.ready.take given.1) (subst (HasStepped given.0 m') prep.ready.give given.2)

      same_form : dir_form (Layout.New m') ≡ dir_form (Layout.New m)
      same_form = ap (λ (g : Geometry). let f : NameForm = cond (g.version == 0) forms.Ten forms.Long in f) stepped.geometry

      pub size_now : object_size (dir_form (Layout.New m')) e ≡ prep.wants.bytes
      size_now = ap (λ (f : NameForm). object_size f e) same_form ∙ size

      abbrev kept : prep.spaced.places.dir ≡ None → is_one_of back (space_of.own_id m nodes owners listings spot.listing.object stay growth plan prep.spaced.places.dir p to) ≡ false
      kept same =
          ap (λ (ids : List ℕ). is_one_of ids (space_of.own_id m nodes owners listings spot.listing.object stay growth plan prep.spaced.places.dir p to))
          (walk.lost m nodes owners dir x path prep.wants prep.spaces is kind root listings agreed spot same)

      -- and the grown directory lies at its place
      pub grown_at : IsAt (Layout.New m') (space_of.placed_at p spot.listing.object)
      grown_at = back_of.grown_at m nodes owners listings spot.listing.object stay growth plan prep.spaced.places.dir p to m' (root_of (Some p)) back stepped kept

      lies_there : sectors_at (Layout.New m') place.address prep.wants.bytes ≡ Some sectors
      lies_there = by q refl prep.spaced.places.is lying stepped.object_first stepped.object_taken
        where
          by : (z : Placing) → q ≡ z → IsPlacingFor m owners prep.wants z → LiesBy m prep.wants.bytes z place.address sectors
              → IfSome (plan_in z) (λ (k : Plan). (n : Map) × HasTaken m n k.id (fronts k.parts.items) × IsTakenIn n k) → IfSome (plan_in z) (IsTakenIn m') → sectors_at (Layout.New m') place.address prep.wants.bytes ≡ Some sectors
          by placings.Nowhere same at here first taken = at_none (Layout.New m') place.address prep.wants.bytes sectors here.0 here.1
          by (placings.Shared share) same at here first taken =
              let others = is_others share at here in
              let none = back_of.other_stays m nodes owners listings spot.listing.object stay growth plan prep.spaced.places.dir p to m' (root_of (Some p)) back stepped kept (o ∷ []) fresh
              (walk.lost m nodes owners dir x path prep.wants prep.spaces is kind root listings agreed spot) (walk.was_alone m nodes owners dir x path prep.wants prep.spaces is kind root listings agreed spot)
              (walk.left m nodes owners dir x path prep.wants prep.spaces is kind root listings agreed spot) share.id others.used others.apart others.owned in
              place_law.stays m m' place.address prep.wants.bytes stepped.geometry
              (subst (λ (k : ℕ). id_runs m' k ≡ id_runs m k) (sym here.0)
              (stepped.space.others share.id none.0 ∙ ap (λ (b : Bool). cond b [] (id_runs m share.id)) none.1)) ∙ here.1
          by (placings.New k) same at here first taken =
              let id : id_of place.address ≡ k.id = ap id_of here.1.2 ∙ id_at k.id here.1.0 here.1.1 in
              place_law.stays first.0 m' place.address prep.wants.bytes (stepped.geometry ∙ sym first.1.geometry)
              (ap (id_runs m') id ∙ taken.runs ∙ ap (λ (g : Geometry). as_runs k.id (parts_in_order g k)) (stepped.geometry ∙ sym first.1.geometry) ∙ sym first.2.runs ∙ ap (id_runs first.0) (sym id))
              ∙ ap (λ (a : ℕ). sectors_at (Layout.New first.0) a prep.wants.bytes) here.1.2 ∙ plan_leads m is_map prep.wants.bytes k here.0 first.0 here.1.0 first.1 here.1.1
              ∙ ap (λ (xs : List ℕ). let r : Option (List ℕ) = Some xs in r) (sym here.2)

      pub lies_now : IsAt (Layout.New m') (object_for (dir_form (Layout.New m)) spot.listing.object.path x (last_name path) place.address sectors)
      lies_now = ap (λ (n : ℕ). sectors_at (Layout.New m') e.address n) size_now ∙ ap (λ (a : ℕ). sectors_at (Layout.New m') a prep.wants.bytes) address_same ∙ lies_there

      pub its_place : IsPlaced m (objects_of listings) (holder path) (object_size (dir_form (Layout.New m')) e) (id_in plan) (parts_in plan)
          (object_for (dir_form (Layout.New m)) spot.listing.object.path x (last_name path) place.address sectors)
      its_place =
          subst (λ (n : ℕ). IsPlaced m (objects_of listings) (holder path) n (id_in plan) (parts_in plan) o) (sym size_now)
          (placed_as x m (objects_of listings) (holder path) prep.wants.bytes (id_in plan) (parts_in plan) o spot_as)

      -- The addition, with its parts.
      abbrev pub added : NewGrownAddition
      added =
          arrival.as_addition kind m nodes owners root listings agreed spot.listing spot.listed p at_walk form e pr.change change room prep.ready.made pr.ready ready absent sectors into number free comes_alone own
          (listed_by (dir_form (Layout.New m)) p.directory.address number x (last_name path) o own owns) comes m' owners' stay growth plan prep.spaced.places.dir (root_of (Some p)) back to stepped fresh
          (walk.left m nodes owners dir x path prep.wants prep.spaces is kind root listings agreed spot) (walk.lost m nodes owners dir x path prep.wants prep.spaces is kind root listings agreed spot)
          (walk.was_alone m nodes owners dir x path prep.wants prep.spaces is kind root listings agreed spot) kept (holder path) lies_now its_place after

      -- The parts agree afterwards.
      pub agrees : Agree kind (parts_with m' (nodes_after pr.change number nodes) owners')
      agrees = let now = grown_addition_law.new added in agreed_law.agree kind m' (nodes_after pr.change number nodes) owners' now.root now.found now.agree
