-- What comes on a new map: it can be written and taken over, and what is promised then.
use Rattle.std.proofs.Common.{◌≡◌, ◌<◌, ◌≤◌, ◌+◌, ◌*◌, ◌-◌, ◌/◌, ◌==◌, ◌++◌, ◌⊎◌, inl, inr, ℕ, Bool, true, false, cond, List, [], ◌∷◌, length, refl, sym, ap, ap₂, subst, ◌∙◌, arith, Option, Some, None}
use Rattle.std.specs.Prelude.{Contains, IsPermutation}
use Rattle.std.proofs.lemmas.List.Sorted.{IsPermutation-refl}
use Rattle.std.specs.FinMap.{get, insert as put}
use Rattle.std.specs.Option.{option_to_list}
use Rattle.fc_names.specs.Names.{Path}
use Rattle.fc_names.specs.declared.name.NameForm.{NameForm}
use Rattle.fc_names.specs.declared.name.NameForm.TheVariants as forms
use Rattle.fc_alloc.specs.declared.owner.Owner.{Owner}
use Rattle.fc_alloc.specs.Owners.{has_node}
use Rattle.fc_record.specs.declared.Geometry.{Geometry}
use Rattle.fc_record.specs.declared.Kind.{Kind}
use Rattle.fc_newmap.specs.Map.{Map, ZoneRun, map_sectors}
use Rattle.fc_newmap.specs.NewMap.{IsNewMap}
use Rattle.fc_dirs.specs.declared.Entry.{Entry}
use Rattle.fc_drafts.specs.declared.room.Room.TheVariants as rooms
use Rattle.fc_model.specs.Command.{Command}
use Rattle.fc_model.specs.Tree.{holder, last_name}
use Rattle.fc_image.specs.Layout.{Layout, dir_form, disc_sectors, is_among, is_apart, sectors_at}
use Rattle.fc_image.specs.Edits.{IsAt}
use Rattle.fc_image.specs.Objects.{has_sectors, objects_of}
use Rattle.fc_image.specs.Opening.{Opened, boot_place}
use Rattle.fc_image.specs.Sound.{AreSound}
use Rattle.fc_image.specs.Stays.{OpensAs}
use Rattle.fc_image.specs.Walk.{Listing, Object, object_size}
use Rattle.fc_image.specs.effects.Short.{new_dir_size}
use Rattle.fc_changes.specs.Changed.{IsFileAt, IsInNewSpace}
use Rattle.fc_edits.specs.Addition.{Addition, IsAddition, NewAddition, edit}
use Rattle.fc_edits.specs.NewNodes as edited
use Rattle.fc_edits.specs.Placing.{IsPlaced}
use Rattle.fc_edits.proofs.lemmas.AdditionLawLemmas.{addition_law}
use Rattle.fc_laws.specs.nodes.Edits.{Nodes, OwnersEdited, owner_with, owners_with}
use Rattle.fc_laws.specs.agree.Agreed.{AgreeOn, parts_with}
use Rattle.fc_laws.proofs.lemmas.agree.BeforeLemmas.{agreed_law, disc_holds}
use Rattle.fc_laws.specs.takeover.Places.{MayBeWritten, OpensBy}
use Rattle.fc_laws.proofs.lemmas.takeover.ApartLemmas.{places_law}
use Rattle.fc_laws.proofs.lemmas.takeover.KindLemmas.{new_kind}
use Rattle.fc_laws.proofs.lemmas.takeover.SaidLemmas.{apart_front}
use Rattle.fc_laws.proofs.lemmas.takeover.WriteLemmas.{written_bytes_law}
use Rattle.fc_objects.specs.Extents.{sectors_in}
use Rattle.fc_outcomes.specs.Addition.{Joins, NewAdditionWritten}
use Rattle.fc_outcomes.specs.Addition as outcomes
use Rattle.fc_outcomes.specs.NewImage.{Outcome}
use Rattle.fc_outcomes.specs.Puts.{ArePutOut}
use Rattle.fc_placing.specs.Places.{id_in, parts_in, shared_id}
use Rattle.fc_placing.specs.declared.placing.Placing.{Placing}
use Rattle.fc_placing.proofs.PlacedLemmas.{place_law}
use Rattle.fc_changes.proofs.StepsLemmas.{after}
use Rattle.fc_refusals.specs.Targets.{IsVacant}
use Rattle.fc_tree.specs.declared.node.Node.{Node}
use Rattle.fc_tree.specs.Agree.{Agree}
use Rattle.fc_tree.specs.Counts.{address_in}
use Rattle.fc_tree.specs.Nodes.{body_in}
use Rattle.fc_tree.specs.Parts.{ArePartsOf, Parts}
use Rattle.fc_writing.specs.declared.ready.MapStep.{MapStep}
use Rattle.fc_writing.specs.Laws.{ChangesOnly}
use Rattle.fc_writing.specs.New.{CanWrite, IsChanged, IsGiven}
use Rattle.fc_writing.specs.Ready.{place_of, written_place}
use Rattle.fc_change.specs.declared.spaces.Place.{Place}
use Rattle.fc_change.specs.declared.spaces.Spaces.{Spaces}
use Rattle.fc_change.specs.declared.job.Wants.{Wants}
use Rattle.fc_change.specs.After.{AreOwnersAfter, nodes_after, owners_admitted}
use Rattle.fc_change.specs.Directories.{Rewriting}
use Rattle.fc_change.specs.Owned.{owners_with_room}
use Rattle.fc_change.specs.Places.{AreLeft, ArePlaced, IsPlaceFor, address_for, is_directory, plan_in}
use Rattle.fc_change.specs.Steps.{IsStep}
use Rattle.fc_commands.specs.declared.stages.Prepared.{Prepared}
use Rattle.fc_commands.specs.Promises.{WritesPlaces}
use Rattle.fc_commands.specs.Stages.{IsPreparedFor}
use Rattle.fc_commands.proofs.ArrivalLemmas.{Arrival, Brings, address_is, bytes_of, entry_of, job_of, may_rewrite, size_is}
use Rattle.fc_commands.proofs.ArrivalEditLemmas.{IsItsArrival}
use Rattle.fc_commands.proofs.ArrivalEditLemmas as arriving
use Rattle.fc_commands.proofs.ArrivalPartsLemmas.{IsAlike, arrived, owner_if_is, owners_after, room_made, unowned}
use Rattle.fc_commands.proofs.ArrivalPlaceLemmas.{IsItsPlace, IsWanted, folder_is, is_folder, none_grown, shares_of, wants_place}
use Rattle.fc_commands.proofs.ArrivalPreparedLemmas as prepared
use Rattle.fc_commands.proofs.ArrivalPreparedLemmas.{can_say_own, its_bytes, its_length, makes_it}
use Rattle.fc_commands.proofs.ArrivalReadyLemmas.{IsArrivalReady, stored_of}
use Rattle.fc_commands.proofs.ArrivalStageLemmas.{IsArrivalChange}
use Rattle.fc_commands.proofs.DirectoryLemmas.{fits_new}
use Rattle.fc_commands.proofs.EnteredLemmas.{HasRoomMore}
use Rattle.fc_commands.proofs.HolderLemmas as holder_of
use Rattle.fc_commands.proofs.NewDoneLemmas.{IsPlacedAs, new_done, placed_as}
use Rattle.fc_commands.proofs.NewPlaceLemmas.{IsRoomBeside, LiesBy, lies, may_be_written, room_beside, space, two}
use Rattle.fc_commands.proofs.NewSpotLemmas.{can_take_it, directory_spot, file_spot, gives, lies_by, stays_taken, takes}
use Rattle.fc_commands.proofs.NodeLemmas as its_node
use Rattle.fc_commands.proofs.SpaceLemmas.{can_give, can_take}
use Rattle.fc_commands.proofs.StepLemmas.{IsTwoStepped}
use Rattle.fc_commands.proofs.TwoPieceLemmas.{AreRoom, room_both}
use Rattle.fc_commands.proofs.TwoPieceLemmas as pieces
use Rattle.fc_commands.proofs.VacantLemmas as vacant
use Rattle.fc_image.proofs.EditLemmas.{apart_turned as turned}

-- the directory's own sectors
pub dir_room : (kind : Kind) (m : Map) (nodes : Nodes) (owners : List Owner) (root : Node) (listings : List Listing) (agreed : AgreeOn kind m nodes owners root listings) (o : Object) → Contains (objects_of listings) o
    → AreRoom (disc_sectors (Layout.New m)) (map_sectors m.geometry) o.sectors
dir_room kind m nodes owners root listings agreed o at =
    let lies' = agreed_law.placed kind m nodes owners root listings agreed o at in
    record {
      low = λ s e. disc_holds m o agreed.is_map lies'.0 s e;
      once = written_bytes_law.apart m o agreed.is_map lies'.0;
      beside = apart_front o.sectors (map_sectors m.geometry) (boot_place kind m.geometry.sector) lies'.1;
    }

pub new_alike : (m m' : Map) → m'.geometry ≡ m.geometry → IsAlike (Layout.New m) (Layout.New m')
new_alike m m' same = record {
  sector = ap (λ (g : Geometry). g.sector) same;
  form = ap (λ (g : Geometry). let f : NameForm = cond (g.version == 0) forms.Ten forms.Long in f) same;
  first = λ low. ap (λ (g : Geometry). (low - 1) * (g.share / g.sector)) same;
}

module _ (m : Map) (nodes : Nodes) (owners : List Owner) (is_map : IsNewMap m) (dir : ℕ) (x : Arrival) (path : Path) (p : Prepared) (prep : IsPreparedFor (parts_with m nodes owners) (job_of dir x) (last_name path) p)
    (none : prep.wants.grows ≡ None) where
  abbrev h : Parts
  h = parts_with m nodes owners

  abbrev name : List ℕ
  name = last_name path

  abbrev w : Wants
  w = prep.wants

  abbrev placed : ArePlaced m h prep.wants prep.spaces
  placed = prep.spaced.places

  abbrev q : Placing
  q = placed.placing

  wants_are : IsWanted h dir x name prep.wants
  wants_are = prepared.wants_are h dir x name p prep none

  abbrev pub its : IsItsPlace prep.spaces
  its = prepared.its h dir x name p prep none

  abbrev sectors : List ℕ
  sectors = sectors_in its.place.extents.items

  abbrev pub change : IsArrivalChange h dir x name its.place.address p.change
  change = prepared.change h dir x name p prep none

  abbrev pub ready : IsArrivalReady (Layout.New m) nodes dir x name (sectors_in its.place.extents.items) change.said prep.spaces p.ready
  ready = prepared.ready h dir x name p prep none

  -- ---- the map: what is taken stays, and nothing goes back

  no_plan : placed.dir ≡ None
  no_plan = (none_grown h dir x w (wants_place h dir x name w wants_are) m (plan_in q) placed.dir prep.spaces.grown placed.grown).0

  none_left : placed.gone ≡ []
  none_left = subst (λ (o : Option ℕ). AreLeft owners o (shared_id q) placed.gone) wants_are.goes placed.left

  taking : IsStep m (option_to_list (plan_in q)) [] [] None p.ready.take
  taking = subst (IsStep m (option_to_list (plan_in q)) [] [] None) (sym ready.take) (takes m h w prep.spaces placed no_plan its.grown)

  giving : IsStep m [] [] [] None p.ready.give
  giving = subst (IsStep m [] [] [] None) (sym ready.give) (subst (λ (gs : List ℕ). IsStep m [] gs [] None prep.spaces.give) none_left (gives m h w prep.spaces placed no_plan its.grown))

  -- ---- by any walk

  module _ (kind : Kind) (root : Node) (listings : List Listing) (agreed : AgreeOn kind m nodes owners root listings) (spot : IsVacant nodes listings path dir) where
    abbrev pub sound : AreSound (Layout.New m) listings
    sound = agreed_law.sound kind m nodes owners root listings agreed

    abbrev pub l : Listing
    l = spot.listing

    abbrev pub o : Object
    o = arriving.object_of (Layout.New m) l x name its.place.address (sectors_in its.place.extents.items)

    abbrev near : Path
    near = holder path

    size : object_size (dir_form (Layout.New m)) o.entry ≡ w.bytes
    size = size_is (dir_form (Layout.New m)) x name its.place.address ∙ sym wants_are.bytes

    placing_for : IsPlaceFor m w q (Some its.place)
    placing_for = subst (IsPlaceFor m w q) its.is placed.object

    shares_it : (y : Arrival) → w.shares ≡ shares_of dir y → (w.shares ≡ None) ⊎ (w.shares ≡ Some dir)
    shares_it Arrival.Makes e = inl e
    shares_it (Arrival.Saves words) e = inr e

    lying : LiesBy m w.bytes q its.place.address (sectors_in its.place.extents.items)
    lying =
        lies_by m nodes owners is_map listings sound agreed.walked.held agreed.owned near dir (vacant.holder_number (Layout.New m) nodes listings sound path dir spot) w q its.place (shares_it x wants_are.slack)
        placed.is placing_for

    address_for_it : o.entry.address ≡ address_for m w q
    address_for_it = address_is (dir_form (Layout.New m)) x name its.place.address ∙ placing_for.0

    pub its_spot : IsPlacedAs x m (objects_of listings) near w.bytes (id_in q) (parts_in q) o
    its_spot = by x wants_are.slack wants_are.bytes (folder_is h dir x w (wants_place h dir x name w wants_are))
      where
        some : new_dir_size (dir_form (Layout.New m)) ≡ 0 → ⊥
        some e = let bytes = place_law.directory m in omega (arith, e, bytes)

        by : (y : Arrival) → w.shares ≡ shares_of dir y → w.bytes ≡ bytes_of (dir_form (Layout.New m)) y → is_directory w ≡ is_folder y → IsPlacedAs y m (objects_of listings) near w.bytes (id_in q) (parts_in q) o
        by Arrival.Makes alone bytes folder = directory_spot m owners w q o alone (λ e. some (sym bytes ∙ e)) folder placed.is address_for_it
        by (Arrival.Saves words) shares bytes folder =
            file_spot m nodes owners is_map listings sound agreed.walked.held agreed.owned near dir (vacant.holder_number (Layout.New m) nodes listings sound path dir spot) w q o shares folder placed.is address_for_it

    pub placed_there : IsPlaced m (objects_of listings) near w.bytes (id_in q) (parts_in q) o
    placed_there = placed_as x m (objects_of listings) near w.bytes (id_in q) (parts_in q) o its_spot

    pub its_room : IsRoomBeside m (objects_of listings) (sectors_in its.place.extents.items)
    its_room = room_beside kind m nodes owners root listings agreed o near w.bytes q size (subst (λ (a : ℕ). LiesBy m w.bytes q a (sectors_in its.place.extents.items)) (sym (address_is (dir_form (Layout.New m)) x name its.place.address)) lying) placed_there

    dir_at : Contains (objects_of listings) l.object
    dir_at = its_node.among nodes (Layout.New m) listings sound agreed.walked.held l spot.listed dir spot.holder_is

    pub same_place : place_of ready.piece ≡ l.object.sectors
    same_place =
        holder_of.place_is (Layout.New m) nodes listings sound agreed.walked.held l spot.listed dir spot.holder_is (Rewriting.Enters (entry_of (dir_form (Layout.New m)) x name its.place.address)) change.said change.tells ready.piece
        ready.is_piece

    -- ---- it can be written

    pub can_write : (n : ℕ) → disc_sectors (Layout.New m) ≤ n → CanWrite n m p.ready
    can_write n most =
        let both = room_both (disc_sectors (Layout.New m)) (map_sectors m.geometry) sectors l.object.sectors its_room.room (dir_room kind m nodes owners root listings agreed l.object dir_at)
        (turned l.object.sectors sectors (its_room.apart l.object dir_at)) in
        record {
          put = pieces.can_put p.ready sectors ready.piece (prepared.two h dir x name p prep none) n (map_sectors m.geometry)
              (subst (λ (ss : List ℕ). AreRoom n (map_sectors m.geometry) (sectors ++ ss)) (sym same_place)
              (record { low = λ s e. (let low = both.low s e in omega (arith, low, most)); once = both.once; beside = both.beside }));
          take = can_take m (plan_in q) p.ready.take taking (can_take_it m h w prep.spaces placed);
          give = λ mid done. can_give m mid (plan_in q) [] p.ready.take p.ready.give is_map taking giving (stays_taken q [] refl) done;
        }

    -- ---- after it

    module _ (m' : Map) (owners' : List Owner) (number : ℕ) (given : IsGiven m p.ready m') (free : get nodes number ≡ None)
        (after_owners : AreOwnersAfter (Layout.New m') nodes p.change (owners_admitted (Layout.New m) p.change.object number owners) owners') where
      stepped : IsTwoStepped m m' (plan_in q) []
      stepped = two m m' q [] p.ready.take p.ready.give is_map taking giving given.0 given.1 given.2 (stays_taken q [] refl)

      alike : IsAlike (Layout.New m) (Layout.New m')
      alike = new_alike m m' stepped.edited.geometry

      size_now : object_size (dir_form (Layout.New m')) o.entry ≡ w.bytes
      size_now = ap (λ (f : NameForm). object_size f o.entry) alike.form ∙ size

      lies_now : IsAt (Layout.New m') o
      lies_now =
          ap (sectors_at (Layout.New m') o.entry.address) size_now
          ∙ ap (λ (a : ℕ). sectors_at (Layout.New m') a w.bytes) (address_is (dir_form (Layout.New m)) x name its.place.address)
          ∙ lies m m' q [] p.ready.take p.ready.give is_map taking giving given.0 given.1 given.2 (stays_taken q [] refl) its.place.address w.bytes sectors lying (λ id same. refl)

      pub more : HasRoomMore l.content name
      more gain gets = wants_are.room l.content gain (holder_of.says_at (Layout.New m) nodes listings sound agreed.walked.held l spot.listed dir spot.holder_is) gets

      address_at : address_in nodes dir ≡ l.object.entry.address
      address_at = holder_of.address_is (Layout.New m) nodes listings sound agreed.walked.held l spot.listed dir spot.holder_is

      abbrev pub c : Addition
      c = arriving.addition (Layout.New m) nodes listings sound agreed.walked.held path dir spot x its.place.address (sectors_in its.place.extents.items) agreed.walked.forms more change.said change.tells ready.piece ready.is_piece number

      is_addition : IsAddition nodes (Layout.New m) listings c
      is_addition =
          arriving.is_addition (Layout.New m) nodes listings sound agreed.walked.held path dir spot x its.place.address sectors agreed.walked.forms more change.said change.tells ready.piece ready.is_piece number free
          (can_say_own (Layout.New m) nodes dir l name address_at x p.ready.early.items ready.says)

      abbrev pub nodes' : Nodes
      nodes' = nodes_after p.change number nodes

      own_some : has_node owners number ≡ false
      own_some = unowned nodes (Layout.New m) listings owners number agreed.walked.held agreed.owned free

      owners_are : OwnersEdited owners owners' [] (owners_with (Layout.New m') dir number o)
      owners_are =
          subst (λ (os : List Owner). OwnersEdited owners os [] (owners_with (Layout.New m') dir number o))
          (sym (owners_after (Layout.New m) (Layout.New m') nodes p.change number dir o.entry change.own owners owners' change.none change.comes after_owners
          ∙ ap (λ (w : Option Owner). owners_with_room w owners) (owner_if_is (Layout.New m) (Layout.New m') alike number dir o lies_now)))
          (room_made (owner_with (Layout.New m') dir number o) (has_sectors o) owners own_some)

      pub adds : NewAddition
      adds = record {
        kind = kind;
        m = m;
        m' = m';
        nodes = nodes;
        nodes' = edited.nodes_after (edit c) nodes;
        owners = owners;
        owners' = owners';
        root = root;
        listings = listings;
        c = c;
        id = id_in q;
        parts = parts_in q;
        gone = [];
        stay = objects_of listings;
        near = near;
        agreed = agreed;
        addition = is_addition;
        nodes_edited = addition_law.nodes nodes (Layout.New m) listings c (record { sound = sound; held = agreed.walked.held }) is_addition refl;
        owners_edited = owners_are;
        is_map = stepped.edited.is_map;
        geometry = stepped.edited.geometry;
        space = space m m' q [] p.ready.take p.ready.give is_map taking giving given.0 given.1 given.2 (stays_taken q [] refl);
        others = IsPermutation-refl (objects_of listings);
        gives = addition_law.none_goes m o (objects_of listings);
        at = lies_now;
        place = subst (λ (n : ℕ). IsPlaced m (objects_of listings) near n (id_in q) (parts_in q) o) (sym size_now) placed_there;
      }

      nodes_same : edited.nodes_after (edit c) nodes ≡ nodes'
      nodes_same =
          sym (arrived (Layout.New m) nodes p.change number dir x name its.place.address change.own change.said change.none change.comes change.says change.tells.number change.owns free
          (holder_of.has_node (Layout.New m) nodes listings sound agreed.walked.held l spot.listed dir spot.holder_is) l address_at sectors)

      -- the parts agree
      pub agrees : Agree kind (parts_with m' nodes' owners')
      unfolding adds
      agrees =
          let now = addition_law.new adds in
          subst (λ (ns : Nodes). Agree kind (parts_with m' ns owners')) nodes_same (agreed_law.agree kind m' (edited.nodes_after (edit c) nodes) owners' now.root now.found now.agree)

      -- and what was written of it is there
      module _ (command : Command) (bytes : List ℕ) (brings : Brings x path bytes command) (was image : List ℕ)
          (opens : OpensAs was kind (record { kind = kind; layout = Layout.New m; listings = listings })) (changed : IsChanged m m' p.ready bytes was image) where
        abbrev pub stored : List ℕ
        stored = stored_of x p.ready.early.items bytes

        pub stored_long : length (stored_of x p.ready.early.items bytes) ≡ bytes_of (dir_form (Layout.New m)) x
        stored_long = its_length (Layout.New m) nodes dir l name address_at x p.ready.early.items bytes path command ready.says brings

        joins : Joins command path (Layout.New m) listings c ready.piece.bytes.items (stored_of x p.ready.early.items bytes)
        joins =
            arriving.joins (Layout.New m) nodes listings sound agreed.walked.held path dir spot x its.place.address sectors agreed.walked.forms more change.said change.tells ready.piece ready.is_piece number command bytes
            (stored_of x p.ready.early.items bytes) brings stored_long (its_bytes (Layout.New m) nodes dir l name address_at x p.ready.early.items bytes ready.says)

        room_own : length (stored_of x p.ready.early.items bytes) ≤ length sectors * m.geometry.sector
        room_own =
            subst (λ (n : ℕ). n ≤ length sectors * m.geometry.sector) (size_now ∙ wants_are.bytes ∙ sym stored_long)
            (subst (λ (g : Geometry). object_size (dir_form (Layout.New m')) o.entry ≤ length sectors * g.sector) stepped.edited.geometry (written_bytes_law.room m' o stepped.edited.is_map lies_now))

        room_dir : length ready.piece.bytes.items ≤ length (place_of ready.piece) * m.geometry.sector
        room_dir = fits_new m l.object ready.piece is_map (its_node.placed nodes (Layout.New m) listings sound agreed.walked.held l spot.listed dir spot.holder_is) same_place joins.long

        out : ArePutOut (Layout.New m) (record { sectors = l.object.sectors; bytes = ready.piece.bytes.items } ∷ (record { sectors = sectors; bytes = stored_of x p.ready.early.items bytes } ∷ [])) was image
        out =
            subst (λ (ss : List ℕ). ArePutOut (Layout.New m) (record { sectors = ss; bytes = ready.piece.bytes.items } ∷ (record { sectors = sectors; bytes = stored_of x p.ready.early.items bytes } ∷ [])) was image) same_place
            (pieces.put_out p.ready sectors ready.piece (prepared.two h dir x name p prep none) (Layout.New m) was bytes (stored_of x p.ready.early.items bytes) image (ready.own.content m.geometry.sector was bytes) room_own room_dir
            changed.written changed.others)

        pub written : NewAdditionWritten adds command path ready.piece.bytes.items (stored_of x p.ready.early.items bytes) was image
        unfolding adds
        written =
            let r = new_kind was kind (record { kind = kind; layout = Layout.New m; listings = listings }) m opens refl in
            record {
              r = r.0;
              new_kind = r.1;
              opens = opens;
              no_growth = vacant.no_growth (Layout.New m) nodes listings sound path dir spot x bytes command brings more (record { kind = kind; layout = Layout.New m; listings = listings }) refl;
              joins = joins;
              out = out;
              after = after m m' image stepped.edited changed.copies;
            }

        pub with_nodes : Outcome kind was image (record { kind = kind; layout = Layout.New m; listings = listings }) command (parts_with m' (edited.nodes_after (edit c) nodes) owners')
            → Outcome kind was image (record { kind = kind; layout = Layout.New m; listings = listings }) command (parts_with m' nodes' owners')
        with_nodes is = subst (λ (ns : Nodes). Outcome kind was image (record { kind = kind; layout = Layout.New m; listings = listings }) command (parts_with m' ns owners')) nodes_same is

        -- The command has done what it promises.
        pub outcome : outcomes.AdditionLaw → Outcome kind was image (record { kind = kind; layout = Layout.New m; listings = listings }) command (parts_with m' nodes' owners')
        unfolding adds
        outcome law =
            with_nodes (new_done law adds x path bytes (stored_of x p.ready.early.items bytes) command ready.piece.bytes.items was image brings written
            (arriving.its_arrival (Layout.New m) nodes listings sound agreed.walked.held path dir spot its.place.address sectors agreed.walked.forms more x change.said change.tells ready.piece ready.is_piece number command
            (stored_of x p.ready.early.items bytes) (makes_it x p.ready.early.items path bytes command brings)) stored_long
            (subst (λ (n : ℕ). IsPlacedAs x m (objects_of listings) near n (id_in q) (parts_in q) o) wants_are.bytes its_spot))

  -- ---- at any moment

  module _ (kind : Kind) (was : List ℕ) (view : Opened) (opens : OpensAs was kind view) (parts : ArePartsOf h view) (root : Node) (agreed : AgreeOn kind m nodes owners root view.listings)
      (spot : IsVacant nodes view.listings path dir) (command : Command) (bytes : List ℕ) (brings : Brings x path bytes command) (image : List ℕ)
      (only : ChangesOnly m.geometry.sector (written_place p.ready ++ map_sectors m.geometry) was image) where
    abbrev by : OpensBy kind was view m
    by = record { opens = opens; layout = sym parts.layout }

    abbrev file : Object
    file = o kind root view.listings agreed spot

    own_may : MayBeWritten kind view m command (sectors_in its.place.extents.items)
    own_may =
        may_be_written kind was view m command by is_map file (holder path) w.bytes q (size kind root view.listings agreed spot)
        (subst (λ (a : ℕ). LiesBy m w.bytes q a (sectors_in its.place.extents.items)) (sym (address_is (dir_form (Layout.New m)) x name its.place.address)) (lying kind root view.listings agreed spot))
        (placed_there kind root view.listings agreed spot)

    pub places : WritesPlaces (Layout.New m) kind view command was image
    places = record {
      sectors = sectors ++ spot.listing.object.sectors;
      only = subst (λ (ss : List ℕ). ChangesOnly m.geometry.sector ((sectors ++ ss) ++ map_sectors m.geometry) was image) (same_place kind root view.listings agreed spot)
          (pieces.changes_only p.ready sectors ready.piece (prepared.two h dir x name p prep none) m.geometry.sector (map_sectors m.geometry) was image only);
      may = places_law.both kind view m command sectors spot.listing.object.sectors own_may
          (places_law.directory kind was view m command spot.listing by spot.listed (may_rewrite x path bytes command brings view spot.listing.object.path spot.above));
    }
