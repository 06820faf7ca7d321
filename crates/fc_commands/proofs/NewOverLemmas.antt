-- A file that comes in the place of another on a new map: it can be written and taken over, and what is promised then.
use Rattle.std.proofs.Common.{◌≡◌, ◌≤◌, ◌*◌, ◌++◌, inl, inr, ℕ, false, List, [], ◌∷◌, length, refl, sym, ap, subst, ◌∙◌, arith, Option, Some, None}
use Rattle.std.specs.Prelude.{Contains, IsPermutation, nat_lt}
use Rattle.std.specs.Int.{div_ceil}
use Rattle.std.specs.Option.{option_to_list}
use Rattle.fc_names.specs.Names.{Path}
use Rattle.fc_names.specs.declared.name.NameForm.{NameForm}
use Rattle.fc_alloc.specs.declared.owner.Owner.{Owner}
use Rattle.fc_record.specs.declared.Geometry.{Geometry}
use Rattle.fc_record.specs.declared.Kind.{Kind}
use Rattle.fc_newmap.specs.Map.{Map, map_sectors}
use Rattle.fc_newmap.specs.NewMap.{IsNewMap}
use Rattle.fc_drafts.specs.Entries.{saved_entry}
use Rattle.fc_model.specs.Command.{Command}
use Rattle.fc_model.specs.Tree.{holder}
use Rattle.fc_image.specs.Layout.{Layout, dir_form, disc_sectors, sectors_at}
use Rattle.fc_image.specs.Edits.{IsAt}
use Rattle.fc_image.specs.Objects.{has_sectors, objects_of}
use Rattle.fc_image.specs.Opening.{Opened}
use Rattle.fc_image.specs.Sound.{AreSound}
use Rattle.fc_image.specs.Stays.{OpensAs}
use Rattle.fc_image.specs.Walk.{Listing, Object, object_size}
use Rattle.fc_changes.specs.Changed.{IsFileAt}
use Rattle.fc_changes.specs.Owed.{GivesBack}
use Rattle.fc_edits.specs.Addition.{Addition, IsAddition, NewAddition, nodes_over, owners_before}
use Rattle.fc_edits.specs.Placing.{IsPlaced}
use Rattle.fc_edits.proofs.lemmas.AdditionLawLemmas.{addition_law}
use Rattle.fc_laws.specs.nodes.Edits.{Nodes, OwnersEdited, owners_with}
use Rattle.fc_laws.specs.agree.Agreed.{AgreeOn, parts_with}
use Rattle.fc_laws.proofs.lemmas.agree.BeforeLemmas.{agreed_law}
use Rattle.fc_laws.proofs.lemmas.agree.CutLemmas.{cut_law}
use Rattle.fc_laws.specs.takeover.Places.{MayBeWritten, OpensBy}
use Rattle.fc_laws.proofs.lemmas.takeover.ApartLemmas.{places_law}
use Rattle.fc_laws.proofs.lemmas.takeover.KindLemmas.{new_kind}
use Rattle.fc_laws.proofs.lemmas.takeover.WriteLemmas.{written_bytes_law}
use Rattle.fc_objects.specs.Extents.{sectors_in}
use Rattle.fc_outcomes.specs.Addition.{Joins, NewAdditionWritten}
use Rattle.fc_outcomes.specs.Addition as outcomes
use Rattle.fc_outcomes.specs.NewImage.{Outcome}
use Rattle.fc_outcomes.specs.Puts.{ArePutOut}
use Rattle.fc_placing.specs.Leaving.{LeavesIds, LeavesUsed, OwnOnly}
use Rattle.fc_placing.specs.Places.{id_in, parts_in, shared_id}
use Rattle.fc_placing.specs.declared.placing.Placing.{Placing}
use Rattle.fc_placing.specs.declared.placing.Placing.TheVariants as placings
use Rattle.fc_placing.proofs.PlacedLemmas.{place_law}
use Rattle.fc_changes.proofs.StepsLemmas.{after}
use Rattle.fc_plan.specs.Giving.{is_one_of}
use Rattle.fc_refusals.specs.Slots.{IsFile}
use Rattle.fc_refusals.specs.declared.target.Target.{Target}
use Rattle.fc_tree.specs.declared.node.Node.{Node}
use Rattle.fc_tree.specs.Agree.{Agree}
use Rattle.fc_tree.specs.Nodes.{number_of}
use Rattle.fc_tree.specs.Parts.{ArePartsOf, Parts}
use Rattle.fc_tree.proofs.PlaceLemmas.{same_number}
use Rattle.fc_tree.proofs.SoundLemmas.{folds_alike}
use Rattle.fc_writing.specs.Laws.{ChangesOnly}
use Rattle.fc_writing.specs.New.{CanWrite, IsChanged, IsGiven}
use Rattle.fc_writing.specs.Ready.{place_of, written_place}
use Rattle.fc_change.specs.declared.change.Turned.TheVariants as turns
use Rattle.fc_change.specs.declared.job.FileWords.{FileWords}
use Rattle.fc_change.specs.declared.job.Wants.{Wants}
use Rattle.fc_change.specs.After.{AreOwnersAfter, nodes_after, owners_admitted}
use Rattle.fc_change.specs.Directories.{Rewriting, Tells}
use Rattle.fc_change.specs.Places.{AreLeft, ArePlaced, IsPlaceFor, is_directory, plan_in}
use Rattle.fc_change.specs.Steps.{IsStep}
use Rattle.fc_commands.specs.declared.stages.Prepared.{Prepared}
use Rattle.fc_commands.specs.Promises.{WritesPlaces}
use Rattle.fc_commands.specs.Stages.{IsPreparedFor}
use Rattle.fc_commands.proofs.ArrivalLemmas.{Arrival, Brings, may_rewrite}
use Rattle.fc_commands.proofs.ArrivalPartsLemmas.{IsAlike}
use Rattle.fc_commands.proofs.ArrivalPlaceLemmas.{IsItsPlace, WantsPlace, folder_is, none_grown}
use Rattle.fc_commands.proofs.DirectoryLemmas.{fits_new}
use Rattle.fc_commands.specs.Given.{filled}
use Rattle.fc_commands.proofs.FilledLemmas.{filled_long, given_long}
use Rattle.fc_commands.proofs.LeavingLemmas.{shared_left, some_sectors, stays_left}
use Rattle.fc_commands.proofs.NewArrivalLemmas.{dir_room, new_alike}
use Rattle.fc_commands.proofs.NewPlaceLemmas.{IsRoomBeside, LiesBy, lies, may_be_written, room_beside, space, two}
use Rattle.fc_commands.proofs.NewSpotLemmas.{can_take_it, file_address, file_place, file_spot, gives, lies_by, takes}
use Rattle.fc_commands.proofs.OverLemmas as over
use Rattle.fc_commands.proofs.OverOwnersLemmas.{owners_over}
use Rattle.fc_commands.proofs.OverPreparedLemmas as prepared
use Rattle.fc_commands.proofs.OverPreparedLemmas.{IsOverReady}
use Rattle.fc_commands.proofs.OverShortLemmas.{no_growth}
use Rattle.fc_commands.proofs.OverStageLemmas.{IsOverChange, job_of, tells_it, turns_it}
use Rattle.fc_commands.proofs.SpaceLemmas.{can_give, can_take}
use Rattle.fc_commands.proofs.StayingLemmas.{count}
use Rattle.fc_commands.proofs.StepLemmas.{IsTwoStepped, StaysTaken}
use Rattle.fc_commands.proofs.TargetLemmas as target_of
use Rattle.fc_commands.proofs.TwoPieceLemmas.{AreRoom, room_both}
use Rattle.fc_commands.proofs.TwoPieceLemmas as pieces
use Rattle.fc_image.proofs.EditLemmas.{apart_turned as turned}

module _ (m : Map) (nodes : Nodes) (owners : List Owner) (is_map : IsNewMap m) (t : Target) (words : FileWords) (name : List ℕ) (p : Prepared) (prep : IsPreparedFor (parts_with m nodes owners) (job_of t words) name p) where
  abbrev h : Parts
  h = parts_with m nodes owners

  abbrev x : Arrival
  x = Arrival.Saves words

  abbrev w : Wants
  w = prep.wants

  abbrev placed : ArePlaced m h prep.wants prep.spaces
  placed = prep.spaced.places

  abbrev q : Placing
  q = placed.placing

  abbrev pub gone : List ℕ
  gone = placed.gone

  wants_are : WantsPlace h t.holder (Arrival.Saves words) prep.wants
  wants_are = prepared.wants_are h t words name p prep

  abbrev pub its : IsItsPlace prep.spaces
  its = prepared.its h t words name p prep

  abbrev sectors : List ℕ
  sectors = sectors_in its.place.extents.items

  abbrev pub change : IsOverChange nodes t words its.place.address p.change
  change = prepared.change h t words name p prep

  abbrev pub ready : IsOverReady (Layout.New m) nodes words (sectors_in its.place.extents.items) change.said prep.spaces p.ready
  ready = prepared.ready h t words name p prep

  -- ---- the map: its space is taken, and what the other leaves goes back

  no_plan : placed.dir ≡ None
  no_plan = (none_grown h t.holder x w wants_are m (plan_in q) placed.dir prep.spaces.grown placed.grown).0

  left : LeavesIds owners t.node (shared_id q) placed.gone × LeavesUsed owners placed.gone
  left = subst (λ (o : Option ℕ). AreLeft owners o (shared_id q) placed.gone) (prepared.goes h t words name p prep) placed.left

  taking : IsStep m (option_to_list (plan_in q)) [] [] None p.ready.take
  taking = subst (IsStep m (option_to_list (plan_in q)) [] [] None) (sym ready.take) (takes m h w prep.spaces placed no_plan its.grown)

  giving : IsStep m [] placed.gone [] None p.ready.give
  giving = subst (IsStep m [] placed.gone [] None) (sym ready.give) (gives m h w prep.spaces placed no_plan its.grown)

  -- ---- by any walk

  module _ (kind : Kind) (root : Node) (path : Path) (listings : List Listing) (agreed : AgreeOn kind m nodes owners root listings) (file : IsFile nodes listings path t) where
    abbrev pub sound : AreSound (Layout.New m) listings
    sound = agreed_law.sound kind m nodes owners root listings agreed

    abbrev pub l : Listing
    l = file.target.listing

    abbrev pub was_there : Object
    was_there = file.target.object

    pub tells : Tells None nodes t.holder (Rewriting.Replaces t.at (saved_entry was_there.entry words.load words.exec words.len its.place.address)) change.said
    tells = tells_it (Layout.New m) nodes listings sound agreed.walked.held path t file words its.place.address p.change change

    turned_it : p.change.object ≡ turns.Turns t.node t.holder (saved_entry was_there.entry words.load words.exec words.len its.place.address)
    turned_it = turns_it (Layout.New m) nodes listings sound agreed.walked.held path t file words its.place.address p.change change

    abbrev pub o : Object
    o = over.o (Layout.New m) nodes listings sound agreed.walked.held path t file words its.place.address agreed.walked.forms (sectors_in its.place.extents.items) change.said tells

    abbrev near : Path
    near = holder path

    numbered : number_of nodes (holder path) ≡ Some t.holder
    numbered = same_number nodes (holder path) l.object.path (folds_alike (holder path) l.object.path file.target.above) ∙ file.target.holder_is

    size : object_size (dir_form (Layout.New m)) o.entry ≡ w.bytes
    size = over.size_is (Layout.New m) nodes listings sound agreed.walked.held path t file words its.place.address agreed.walked.forms (sectors_in its.place.extents.items) change.said tells ∙ sym wants_are.bytes

    placing_for : IsPlaceFor m w q (Some its.place)
    placing_for = subst (IsPlaceFor m w q) its.is placed.object

    lying : LiesBy m w.bytes q its.place.address (sectors_in its.place.extents.items)
    lying = lies_by m nodes owners is_map listings sound agreed.walked.held agreed.owned near t.holder numbered w q its.place (inr wants_are.slack) placed.is placing_for

    no_folder : is_directory w ≡ false
    no_folder = folder_is h t.holder x w wants_are

    pub its_spot : IsFileAt m (objects_of listings) near w.bytes (id_in q) (parts_in q) o
    its_spot = file_spot m nodes owners is_map listings sound agreed.walked.held agreed.owned near t.holder numbered w q o wants_are.slack no_folder placed.is placing_for.0

    pub its_room : IsRoomBeside m (objects_of listings) (sectors_in its.place.extents.items)
    its_room = room_beside kind m nodes owners root listings agreed o near w.bytes q size lying (inl its_spot)

    dir_at : Contains (objects_of listings) l.object
    dir_at = target_of.dir_among (Layout.New m) nodes listings sound agreed.walked.held path t file.target

    pub same_place : place_of ready.piece ≡ l.object.sectors
    same_place =
        target_of.place_is (Layout.New m) nodes listings sound agreed.walked.held path t file.target (Rewriting.Replaces t.at (saved_entry was_there.entry words.load words.exec words.len its.place.address)) change.said tells ready.piece
        ready.is_piece

    stays : StaysTaken (plan_in q) gone
    stays = stays_left m nodes owners is_map listings sound agreed.owned gone left.1 w q placed.is

    -- ---- it can be written

    pub can_write : (n : ℕ) → disc_sectors (Layout.New m) ≤ n → CanWrite n m p.ready
    can_write n most =
        let both = room_both (disc_sectors (Layout.New m)) (map_sectors m.geometry) sectors l.object.sectors its_room.room (dir_room kind m nodes owners root listings agreed l.object dir_at)
        (turned l.object.sectors sectors (its_room.apart l.object dir_at)) in
        record {
          put = pieces.can_put p.ready sectors ready.piece (prepared.two h t words name p prep) n (map_sectors m.geometry)
              (subst (λ (ss : List ℕ). AreRoom n (map_sectors m.geometry) (sectors ++ ss)) (sym same_place)
              (record { low = λ s e. (let low = both.low s e in omega (arith, low, most)); once = both.once; beside = both.beside }));
          take = can_take m (plan_in q) p.ready.take taking (can_take_it m h w prep.spaces placed);
          give = λ mid done. can_give m mid (plan_in q) gone p.ready.take p.ready.give is_map taking giving stays done;
        }

    pub same_geometry : (m' : Map) → IsGiven m p.ready m' → m'.geometry ≡ m.geometry
    same_geometry m' given = (two m m' q gone p.ready.take p.ready.give is_map taking giving given.0 given.1 given.2 stays).edited.geometry

    -- ---- after it

    abbrev pub stay : List Object
    stay = (cut_law.others (Layout.New m) listings l t.at was_there sound file.target.listed file.target.at).0

    others : IsPermutation (objects_of listings) (was_there ∷ stay)
    others = (cut_law.others (Layout.New m) listings l t.at was_there sound file.target.listed file.target.at).1

    module _ (m' : Map) (owners' : List Owner) (number : ℕ) (given : IsGiven m p.ready m')
        (after_owners : AreOwnersAfter (Layout.New m') nodes p.change (owners_admitted (Layout.New m) p.change.object number owners) owners') where
      stepped : IsTwoStepped m m' (plan_in q) gone
      stepped = two m m' q gone p.ready.take p.ready.give is_map taking giving given.0 given.1 given.2 stays

      alike : IsAlike (Layout.New m) (Layout.New m')
      alike = new_alike m m' stepped.edited.geometry

      -- its place, if no identifier goes back that it shares
      lies_if : ((id : ℕ) → shared_id q ≡ Some id → is_one_of gone id ≡ false) → sectors_at (Layout.New m') its.place.address w.bytes ≡ Some (sectors_in its.place.extents.items)
      lies_if kept = lies m m' q gone p.ready.take p.ready.give is_map taking giving given.0 given.1 given.2 stays its.place.address w.bytes sectors lying kept

      -- it has sectors if it has bytes
      some_is : has_sectors o ≡ nat_lt 0 w.bytes
      some_is = by q refl lying lies_if
        where
          long : (n : ℕ) → length sectors ≡ div_ceil n m.geometry.sector → has_sectors o ≡ nat_lt 0 n
          long n e = ap (nat_lt 0) e ∙ some_sectors m n is_map

          by : (y : Placing) → q ≡ y → LiesBy m w.bytes y its.place.address (sectors_in its.place.extents.items)
              → (((id : ℕ) → shared_id y ≡ Some id → is_one_of gone id ≡ false) → sectors_at (Layout.New m') its.place.address w.bytes ≡ Some (sectors_in its.place.extents.items)) → has_sectors o ≡ nat_lt 0 w.bytes
          by placings.Nowhere e at then = ap (λ (ss : List ℕ). nat_lt 0 (length ss)) at.1 ∙ sym (ap (nat_lt 0) at.0)
          by (placings.Shared share) e at then = long w.bytes (count (Layout.New m) its.place.address w.bytes sectors at.1)
          by (placings.New plan) e at then =
              long w.bytes (count (Layout.New m') its.place.address w.bytes sectors (then (λ id none. absurd (cc))) ∙ ap (λ (g : Geometry). div_ceil w.bytes g.sector) stepped.edited.geometry)

      owns : OwnOnly m (shared_id q) (o ∷ [])
      owns =
          place_law.owns m nodes listings owners near t.holder w.bytes q o is_map sound agreed.walked.held agreed.owned numbered
          (file_place m nodes owners is_map listings sound agreed.walked.held agreed.owned near t.holder numbered w wants_are.slack q placed.is)
          (placing_for.0 ∙ file_address m nodes owners is_map listings sound agreed.walked.held agreed.owned near t.holder numbered w no_folder q) some_is

      -- exactly what the other leaves goes back
      pub gives_back : GivesBack m gone (objects_of listings) (o ∷ stay)
      gives_back = left.0 m nodes listings was_there stay (o ∷ []) sound agreed.walked.held agreed.owned file.target.node_is others owns

      size_now : object_size (dir_form (Layout.New m')) o.entry ≡ w.bytes
      size_now = ap (λ (f : NameForm). object_size f o.entry) alike.form ∙ size

      lies_now : IsAt (Layout.New m') o
      lies_now = ap (sectors_at (Layout.New m') o.entry.address) size_now ∙ lies_if (shared_left m nodes owners is_map listings sound agreed.owned gone left.1 stay o (shared_id q) gives_back owns)

      abbrev pub c : Addition
      c = over.addition (Layout.New m) nodes listings sound agreed.walked.held path t file words its.place.address agreed.walked.forms (sectors_in its.place.extents.items) change.said tells ready.piece ready.is_piece

      is_addition : IsAddition nodes (Layout.New m) listings c
      is_addition = over.is_addition (Layout.New m) nodes listings sound agreed.walked.held path t file words its.place.address agreed.walked.forms sectors change.said tells ready.piece ready.is_piece

      abbrev pub nodes' : Nodes
      nodes' = nodes_after p.change number nodes

      owners_are : OwnersEdited owners owners' (owners_before (Layout.New m) c) (owners_with (Layout.New m') t.holder t.node o)
      owners_are =
          owners_over (Layout.New m) (Layout.New m') nodes listings owners owners' path t file.target o p.change number stay alike sound agreed.walked.held agreed.owned others lies_now change.none turned_it after_owners

      pub adds : NewAddition
      adds = record {
        kind = kind;
        m = m;
        m' = m';
        nodes = nodes;
        nodes' = nodes_over c nodes;
        owners = owners;
        owners' = owners';
        root = root;
        listings = listings;
        c = c;
        id = id_in q;
        parts = parts_in q;
        gone = gone;
        stay = stay;
        near = near;
        agreed = agreed;
        addition = is_addition;
        nodes_edited = addition_law.nodes_over_it nodes (Layout.New m) listings c was_there (record { sound = sound; held = agreed.walked.held }) is_addition refl;
        owners_edited = owners_are;
        is_map = stepped.edited.is_map;
        geometry = stepped.edited.geometry;
        space = space m m' q gone p.ready.take p.ready.give is_map taking giving given.0 given.1 given.2 stays;
        others = others;
        gives = gives_back;
        at = lies_now;
        place = subst (λ (n : ℕ). IsPlaced m (objects_of listings) near n (id_in q) (parts_in q) o) (sym size_now) (inl its_spot);
      }

      nodes_same : nodes_over c nodes ≡ nodes'
      nodes_same =
          sym (over.nodes_are (Layout.New m) nodes listings sound agreed.walked.held path t file words its.place.address agreed.walked.forms sectors change.said tells ready.piece ready.is_piece p.change number change.none turned_it change.says)

      -- the parts agree
      pub agrees : Agree kind (parts_with m' nodes' owners')
      unfolding adds
      agrees =
          let now = addition_law.new adds in
          subst (λ (ns : Nodes). Agree kind (parts_with m' ns owners')) nodes_same (agreed_law.agree kind m' (nodes_over c nodes) owners' now.root now.found now.agree)

      -- and what was written of it is there
      module _ (command : Command) (bytes : List ℕ) (brings : Brings (Arrival.Saves words) path bytes command) (was image : List ℕ)
          (opens : OpensAs was kind (record { kind = kind; layout = Layout.New m; listings = listings })) (changed : IsChanged m m' p.ready bytes was image) where
        abbrev pub view : Opened
        view = record { kind = kind; layout = Layout.New m; listings = listings }

        abbrev pub stored : List ℕ
        stored = filled words.len bytes

        long : length (filled words.len bytes) ≡ words.len
        long = filled_long words.len bytes (given_long words path bytes command brings)

        joins : Joins command path (Layout.New m) listings c ready.piece.bytes.items (filled words.len bytes)
        joins = over.joins (Layout.New m) nodes listings sound agreed.walked.held path t file words its.place.address agreed.walked.forms sectors change.said tells ready.piece ready.is_piece command bytes brings

        room_own : length (filled words.len bytes) ≤ length sectors * m.geometry.sector
        room_own =
            subst (λ (n : ℕ). n ≤ length sectors * m.geometry.sector) (size_now ∙ wants_are.bytes ∙ sym long)
            (subst (λ (g : Geometry). object_size (dir_form (Layout.New m')) o.entry ≤ length sectors * g.sector) stepped.edited.geometry (written_bytes_law.room m' o stepped.edited.is_map lies_now))

        room_dir : length ready.piece.bytes.items ≤ length (place_of ready.piece) * m.geometry.sector
        room_dir = fits_new m l.object ready.piece is_map (target_of.dir_placed (Layout.New m) nodes listings sound agreed.walked.held path t file.target) same_place joins.long

        out : ArePutOut (Layout.New m) (record { sectors = l.object.sectors; bytes = ready.piece.bytes.items } ∷ (record { sectors = sectors; bytes = filled words.len bytes } ∷ [])) was image
        out =
            subst (λ (ss : List ℕ). ArePutOut (Layout.New m) (record { sectors = ss; bytes = ready.piece.bytes.items } ∷ (record { sectors = sectors; bytes = filled words.len bytes } ∷ [])) was image) same_place
            (pieces.put_out p.ready sectors ready.piece (prepared.two h t words name p prep) (Layout.New m) was bytes (filled words.len bytes) image (ready.own.content m.geometry.sector was bytes) room_own room_dir changed.written
            changed.others)

        pub written : NewAdditionWritten adds command path ready.piece.bytes.items (filled words.len bytes) was image
        unfolding adds
        written =
            let r = new_kind was kind view m opens refl in
            record {
              r = r.0;
              new_kind = r.1;
              opens = opens;
              no_growth = no_growth view words path bytes command brings was_there (target_of.there (Layout.New m) nodes listings sound agreed.walked.held path t file.target);
              joins = joins;
              out = out;
              after = after m m' image stepped.edited changed.copies;
            }

        -- The command has done what it promises.
        pub outcome : outcomes.AdditionLaw → Outcome kind was image view command (parts_with m' nodes' owners')
        unfolding adds
        outcome law =
            subst (λ (ns : Nodes). Outcome kind was image view command (parts_with m' ns owners')) nodes_same
            (law.new_file adds command path words.load words.exec ready.piece.bytes.items (filled words.len bytes) was image written
            (over.its_file (Layout.New m) nodes listings sound agreed.walked.held path t file words its.place.address agreed.walked.forms sectors change.said tells ready.piece ready.is_piece command bytes brings)
            (subst (λ (n : ℕ). IsFileAt m (objects_of listings) near n (id_in q) (parts_in q) o) (wants_are.bytes ∙ sym long) its_spot))

  -- ---- at any moment

  module _ (kind : Kind) (was : List ℕ) (view : Opened) (opens : OpensAs was kind view) (parts : ArePartsOf h view) (root : Node) (path : Path) (agreed : AgreeOn kind m nodes owners root view.listings)
      (file : IsFile nodes view.listings path t) (command : Command) (bytes : List ℕ) (brings : Brings (Arrival.Saves words) path bytes command) (image : List ℕ)
      (only : ChangesOnly m.geometry.sector (written_place p.ready ++ map_sectors m.geometry) was image) where
    abbrev by : OpensBy kind was view m
    by = record { opens = opens; layout = sym parts.layout }

    own_may : MayBeWritten kind view m command (sectors_in its.place.extents.items)
    own_may =
        may_be_written kind was view m command by is_map (o kind root path view.listings agreed file) (holder path) w.bytes q (size kind root path view.listings agreed file) (lying kind root path view.listings agreed file)
        (inl (its_spot kind root path view.listings agreed file))

    pub places : WritesPlaces (Layout.New m) kind view command was image
    places = record {
      sectors = sectors ++ file.target.listing.object.sectors;
      only = subst (λ (ss : List ℕ). ChangesOnly m.geometry.sector ((sectors ++ ss) ++ map_sectors m.geometry) was image) (same_place kind root path view.listings agreed file)
          (pieces.changes_only p.ready sectors ready.piece (prepared.two h t words name p prep) m.geometry.sector (map_sectors m.geometry) was image only);
      may = places_law.both kind view m command sectors file.target.listing.object.sectors own_may
          (places_law.directory kind was view m command file.target.listing by file.target.listed (may_rewrite (Arrival.Saves words) path bytes command brings view file.target.listing.object.path file.target.above));
    }
