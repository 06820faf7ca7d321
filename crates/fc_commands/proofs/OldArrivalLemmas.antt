-- What comes on an old map: it can be written and taken over, and what is promised then.
use Rattle.std.proofs.Common.{◌≡◌, ◌≤◌, ◌*◌, ◌++◌, ℕ, false, List, [], ◌∷◌, length, refl, sym, ap, subst, ◌∙◌, arith, Option, Some, None}
use Rattle.std.specs.Prelude.{Contains}
use Rattle.std.specs.FinMap.{get}
use Rattle.fc_names.specs.Names.{Path}
use Rattle.fc_alloc.specs.declared.owner.Owner.{Owner}
use Rattle.fc_alloc.specs.Owners.{has_node}
use Rattle.fc_record.specs.declared.Kind.{Kind}
use Rattle.fc_oldmap.specs.declared.Hole.{Hole}
use Rattle.fc_oldmap.specs.Holes.{hole_limit}
use Rattle.fc_oldmap.specs.OldMap.{OldMapContent, IsOldMap, map_units}
use Rattle.fc_model.specs.Command.{Command}
use Rattle.fc_model.specs.Tree.{last_name}
use Rattle.fc_image.specs.Layout.{Layout, dir_form, disc_sectors, map_place, sector_bytes, sectors_at}
use Rattle.fc_image.specs.Edits.{IsAt}
use Rattle.fc_image.specs.Objects.{has_sectors, objects_of}
use Rattle.fc_image.specs.Opening.{Opened, reserved_in}
use Rattle.fc_image.specs.Sound.{AreSound}
use Rattle.fc_image.specs.Stays.{OpensAs}
use Rattle.fc_image.specs.Walk.{Listing, Object, object_size}
use Rattle.fc_image.specs.effects.Short.{holes_without, old_need}
use Rattle.fc_changes.specs.old.Changed.{IsFileAt}
use Rattle.fc_changes.specs.old.Owed.{IsBefore, IsMapAfter, holding}
use Rattle.fc_edits.specs.Addition.{Addition, IsAddition, OldAddition, edit, holes_with_it}
use Rattle.fc_edits.specs.NewNodes as edited
use Rattle.fc_edits.proofs.lemmas.AdditionLawLemmas.{addition_law}
use Rattle.fc_laws.specs.nodes.Edits.{Nodes, OwnersEdited, owner_with, owners_with}
use Rattle.fc_laws.specs.old.agree.Laws.{AgreeOn, parts_with}
use Rattle.fc_laws.specs.old.takeover.Places.{MayBeWritten}
use Rattle.fc_laws.proofs.lemmas.old.agree.BeforeLemmas.{sound as old_sound}
use Rattle.fc_laws.proofs.lemmas.old.takeover.ApartLemmas.{places_law}
use Rattle.fc_laws.proofs.lemmas.old.takeover.WriteLemmas.{written_bytes_law}
use Rattle.fc_objects.specs.Extents.{sectors_in}
use Rattle.fc_outcomes.specs.Addition.{Joins, OldAdditionWritten}
use Rattle.fc_outcomes.specs.Addition as outcomes
use Rattle.fc_outcomes.specs.NewImage.{Outcome}
use Rattle.fc_outcomes.specs.Puts.{ArePutOut}
use Rattle.fc_refusals.specs.Targets.{IsVacant}
use Rattle.fc_space.specs.Space.{PlacesSuffice}
use Rattle.fc_tree.specs.declared.node.Node.{Node}
use Rattle.fc_tree.specs.Agree.{Agree}
use Rattle.fc_tree.specs.Counts.{address_in}
use Rattle.fc_tree.specs.Parts.{ArePartsOf, Parts}
use Rattle.fc_writing.specs.Laws.{ChangesOnly}
use Rattle.fc_writing.specs.Old.{CanWrite, IsChanged}
use Rattle.fc_writing.specs.Ready.{place_of, written_place}
use Rattle.fc_change.specs.declared.spaces.Place.{Place}
use Rattle.fc_change.specs.declared.job.Wants.{Wants}
use Rattle.fc_change.specs.After.{AreOwnersAfter, nodes_after, owners_admitted}
use Rattle.fc_change.specs.Directories.{Rewriting}
use Rattle.fc_change.specs.OldSpace.{LieBehind, map_given, map_taken}
use Rattle.fc_change.specs.Owned.{owners_with_room}
use Rattle.fc_change.specs.Places.{ArePlacedOld, IsOldAt, IsOldPlaced, IsOldStep}
use Rattle.fc_commands.specs.declared.stages.Prepared.{Prepared}
use Rattle.fc_commands.specs.Promises.{WritesPlaces}
use Rattle.fc_commands.specs.Stages.{IsPreparedFor}
use Rattle.fc_commands.specs.Written.{map_after}
use Rattle.fc_commands.proofs.ArrivalLemmas.{Arrival, Brings, address_is, bytes_of, entry_of, job_of, may_rewrite, size_is}
use Rattle.fc_commands.proofs.ArrivalEditLemmas as arriving
use Rattle.fc_commands.proofs.ArrivalPartsLemmas.{IsAlike, arrived, owner_if_is, owners_after, room_made, unowned}
use Rattle.fc_commands.proofs.ArrivalPlaceLemmas.{IsItsPlace, IsWanted}
use Rattle.fc_commands.proofs.ArrivalPreparedLemmas as prepared
use Rattle.fc_commands.proofs.ArrivalPreparedLemmas.{can_say_own, its_bytes, its_length, makes_it}
use Rattle.fc_commands.proofs.ArrivalReadyLemmas.{IsArrivalReady, stored_of}
use Rattle.fc_commands.proofs.ArrivalStageLemmas.{IsArrivalChange}
use Rattle.fc_commands.proofs.DirectoryLemmas.{fits_old}
use Rattle.fc_commands.proofs.EnteredLemmas.{HasRoomMore}
use Rattle.fc_commands.proofs.HolderLemmas as holder_of
use Rattle.fc_commands.proofs.NodeLemmas as its_node
use Rattle.fc_commands.proofs.OldDoneLemmas.{old_done}
use Rattle.fc_commands.proofs.OldMapLemmas.{after_both, both_steps, few_holes, of_disc}
use Rattle.fc_commands.proofs.OldPlaceLemmas.{IsOldPlacedAs, IsOldRoomBeside, dir_room, old_room, placed_as}
use Rattle.fc_commands.proofs.OldPlaceLemmas as old_place
use Rattle.fc_commands.proofs.TwoPieceLemmas.{AreRoom, room_both}
use Rattle.fc_commands.proofs.TwoPieceLemmas as pieces
use Rattle.fc_commands.proofs.VacantLemmas as vacant
use Rattle.fc_image.proofs.EditLemmas.{apart_turned as turned}

-- An old map leads from addresses as it does with other holes.
pub old_alike : (space : OldMapContent) → IsAlike (Layout.Old space) (Layout.Old space)
old_alike space = record { sector = refl; form = refl; first = λ low. refl }

module _ (space : OldMapContent) (nodes : Nodes) (owners : List Owner) (is_map : IsOldMap space) (dir : ℕ) (x : Arrival) (path : Path) (p : Prepared)
    (prep : IsPreparedFor (parts_with space nodes owners) (job_of dir x) (last_name path) p) (none : prep.wants.grows ≡ None) where
  abbrev h : Parts
  h = parts_with space nodes owners

  abbrev name : List ℕ
  name = last_name path

  abbrev y : Layout
  y = Layout.Old space

  abbrev w : Wants
  w = prep.wants

  abbrev spaced : ArePlacedOld space h prep.wants prep.spaces
  spaced = prep.spaced.places

  wants_are : IsWanted h dir x name prep.wants
  wants_are = prepared.wants_are h dir x name p prep none

  abbrev pub its : IsItsPlace prep.spaces
  its = prepared.its h dir x name p prep none

  abbrev sectors : List ℕ
  sectors = sectors_in its.place.extents.items

  abbrev pub change : IsArrivalChange h dir x name its.place.address p.change
  change = prepared.change h dir x name p prep none

  abbrev pub ready : IsArrivalReady (Layout.Old space) nodes dir x name (sectors_in its.place.extents.items) change.said prep.spaces p.ready
  ready = prepared.ready h dir x name p prep none

  its_spot : IsOldAt space w its.place
  its_spot = subst (IsOldPlaced space w) its.is spaced.object

  -- ---- the map: its space is taken, and nothing goes back

  abbrev pub now : OldMapContent
  now = map_taken space prep.wants.bytes

  taking : IsOldStep space now p.ready.take
  taking = subst (IsOldStep space now) (sym ready.take) spaced.take

  giving : IsOldStep now now p.ready.give
  giving = subst (IsOldStep now now) (sym ready.give) (subst (λ (o : Option ℕ). IsOldStep now (map_given space nodes o now) prep.spaces.give) wants_are.goes spaced.give)

  pub map_is : map_after space p.ready ≡ now
  map_is = after_both space now now p.ready taking giving

  few : length now.holes ≤ hole_limit
  few = few_holes space now p.ready.take is_map.few taking

  -- ---- by any walk

  module _ (kind : Kind) (root : Node) (listings : List Listing) (agreed : AgreeOn kind space nodes owners root listings) (here : IsVacant nodes listings path dir) where
    abbrev pub sound : AreSound (Layout.Old space) listings
    sound = old_sound kind space nodes owners root listings agreed

    abbrev pub l : Listing
    l = here.listing

    abbrev pub o : Object
    o = arriving.object_of (Layout.Old space) l x name its.place.address (sectors_in its.place.extents.items)

    size : object_size (dir_form (Layout.Old space)) o.entry ≡ w.bytes
    size = size_is (dir_form (Layout.Old space)) x name its.place.address ∙ sym wants_are.bytes

    address_at_it : o.entry.address ≡ its.place.address
    address_at_it = address_is (dir_form (Layout.Old space)) x name its.place.address

    pub lies_there : IsAt (Layout.Old space) o
    lies_there = ap (sectors_at (Layout.Old space) o.entry.address) size ∙ ap (λ (a : ℕ). sectors_at (Layout.Old space) a w.bytes) address_at_it ∙ its_spot.sectors

    pub file_at : IsFileAt space w.bytes o
    file_at = old_place.spot space w its.place o address_at_it its_spot

    dir_at : Contains (objects_of listings) l.object
    dir_at = its_node.among nodes (Layout.Old space) listings sound agreed.walked.held l here.listed dir here.holder_is

    dir_lies : IsAt (Layout.Old space) l.object
    dir_lies = its_node.placed nodes (Layout.Old space) listings sound agreed.walked.held l here.listed dir here.holder_is

    pub same_place : place_of ready.piece ≡ l.object.sectors
    same_place =
        holder_of.place_is (Layout.Old space) nodes listings sound agreed.walked.held l here.listed dir here.holder_is (Rewriting.Enters (entry_of (dir_form (Layout.Old space)) x name its.place.address)) change.said change.tells ready.piece
        ready.is_piece

    -- ---- it can be written

    pub can_write : (n : ℕ) → disc_sectors (Layout.Old space) ≤ n → PlacesSuffice (Layout.Old space) → CanWrite n space p.ready
    can_write n most suffice =
        let own = old_room kind space nodes owners root listings agreed suffice w.bytes o size lies_there file_at in
        let both = room_both (disc_sectors (Layout.Old space)) (map_place (Layout.Old space)) sectors l.object.sectors own.room (dir_room kind space nodes owners root listings agreed suffice l.object dir_at)
        (turned l.object.sectors sectors (own.apart l.object dir_at)) in
        record {
          put = pieces.can_put p.ready sectors ready.piece (prepared.two h dir x name p prep none) n (map_place (Layout.Old space))
              (subst (λ (ss : List ℕ). AreRoom n (map_place (Layout.Old space)) (sectors ++ ss)) (sym same_place)
              (record { low = λ s e. (let low = both.low s e in omega (arith, low, most)); once = both.once; beside = both.beside }));
          take = of_disc space space now p.ready.take taking refl;
          give = of_disc space now now p.ready.give giving refl;
        }

    -- ---- after it

    module _ (now' : OldMapContent) (map_now : now' ≡ now) (owners' : List Owner) (number : ℕ) (free : get nodes number ≡ None)
        (after_owners : AreOwnersAfter (Layout.Old now') nodes p.change (owners_admitted (Layout.Old space) p.change.object number owners) owners') where
      pub more : HasRoomMore l.content name
      more gain gets = wants_are.room l.content gain (holder_of.says_at (Layout.Old space) nodes listings sound agreed.walked.held l here.listed dir here.holder_is) gets

      address_at : address_in nodes dir ≡ l.object.entry.address
      address_at = holder_of.address_is (Layout.Old space) nodes listings sound agreed.walked.held l here.listed dir here.holder_is

      abbrev pub c : Addition
      c = arriving.addition (Layout.Old space) nodes listings sound agreed.walked.held path dir here x its.place.address (sectors_in its.place.extents.items) agreed.walked.forms more change.said change.tells ready.piece ready.is_piece number

      is_addition : IsAddition nodes (Layout.Old space) listings c
      is_addition =
          arriving.is_addition (Layout.Old space) nodes listings sound agreed.walked.held path dir here x its.place.address sectors agreed.walked.forms more change.said change.tells ready.piece ready.is_piece number free
          (can_say_own (Layout.Old space) nodes dir l name address_at x p.ready.early.items ready.says)

      abbrev pub nodes' : Nodes
      nodes' = nodes_after p.change number nodes

      own_none : has_node owners number ≡ false
      own_none = unowned nodes (Layout.Old space) listings owners number agreed.walked.held agreed.owned free

      owners_are : OwnersEdited owners owners' [] (owners_with (Layout.Old space) dir number o)
      owners_are =
          subst (λ (os : List Owner). OwnersEdited owners os [] (owners_with (Layout.Old space) dir number o))
          (sym (owners_after (Layout.Old space) (Layout.Old now') nodes p.change number dir o.entry change.own owners owners' change.none change.comes after_owners
          ∙ ap (λ (w : Option Owner). owners_with_room w owners) (owner_if_is (Layout.Old space) (Layout.Old space) (old_alike space) number dir o lies_there)))
          (room_made (owner_with (Layout.Old space) dir number o) (has_sectors o) owners own_none)

      -- the holes after it
      pub holes_are : holes_with_it space c ≡ now.holes
      holes_are = ap (λ (n : ℕ). holes_without (old_need space n) space.holes) size

      pub adds : OldAddition
      adds = record {
        kind = kind;
        space = space;
        nodes = nodes;
        nodes' = edited.nodes_after (edit c) nodes;
        owners = owners;
        owners' = owners';
        root = root;
        listings = listings;
        c = c;
        agreed = agreed;
        addition = is_addition;
        nodes_edited = addition_law.nodes nodes (Layout.Old space) listings c (record { sound = sound; held = agreed.walked.held }) is_addition refl;
        owners_edited = owners_are;
        few = subst (λ (n : ℕ). length (holes_without (old_need space n) space.holes) ≤ hole_limit) (sym size) few;
        at = lies_there;
        place = subst (λ (n : ℕ). IsFileAt space n o) (sym size) file_at;
      }

      nodes_same : edited.nodes_after (edit c) nodes ≡ nodes'
      nodes_same =
          sym (arrived (Layout.Old space) nodes p.change number dir x name its.place.address change.own change.said change.none change.comes change.says change.tells.number change.owns free
          (holder_of.has_node (Layout.Old space) nodes listings sound agreed.walked.held l here.listed dir here.holder_is) l address_at sectors)

      -- the map is the one after it
      pub space_same : holding space (holes_with_it space c) ≡ now'
      space_same = ap (holding space) holes_are ∙ sym map_now

      abbrev Now : OldMapContent → Nodes → Type 0
      Now m ns = Agree kind (parts_with m ns owners') × LieBehind m

      -- the parts agree
      pub agrees : Now now' nodes'
      unfolding adds
      agrees =
          let after = addition_law.old adds in
          let all : Agree kind (parts_with (holding space (holes_with_it space c)) (edited.nodes_after (edit c) nodes) owners') = record {
            root = after.root;
            root_is = after.agree.root_is;
            listings = after.found;
            walked = after.agree.walked;
            map_placed = refl;
            owned = after.agree.owned;
          } in
          let both : Now (holding space (holes_with_it space c)) (edited.nodes_after (edit c) nodes) = (all, after.agree.holes) in
          subst (λ (m : OldMapContent). Now m nodes') space_same (subst (Now (holding space (holes_with_it space c))) nodes_same both)

      -- and what was written of it is there
      module _ (command : Command) (bytes : List ℕ) (brings : Brings x path bytes command) (was image : List ℕ)
          (opens : OpensAs was kind (record { kind = kind; layout = Layout.Old space; listings = listings })) (long : 256 * map_units space.sector_units ≤ length was) (changed : IsChanged space p.ready bytes was image) where
        abbrev pub view : Opened
        view = record { kind = kind; layout = Layout.Old space; listings = listings }

        pub stored_long : length (stored_of x p.ready.early.items bytes) ≡ bytes_of (dir_form (Layout.Old space)) x
        stored_long = its_length (Layout.Old space) nodes dir l name address_at x p.ready.early.items bytes path command ready.says brings

        joins : Joins command path (Layout.Old space) listings c ready.piece.bytes.items (stored_of x p.ready.early.items bytes)
        joins =
            arriving.joins (Layout.Old space) nodes listings sound agreed.walked.held path dir here x its.place.address sectors agreed.walked.forms more change.said change.tells ready.piece ready.is_piece number command bytes
            (stored_of x p.ready.early.items bytes) brings stored_long (its_bytes (Layout.Old space) nodes dir l name address_at x p.ready.early.items bytes ready.says)

        room_own : length (stored_of x p.ready.early.items bytes) ≤ length sectors * sector_bytes (Layout.Old space)
        room_own =
            subst (λ (n : ℕ). n ≤ length sectors * sector_bytes (Layout.Old space)) (size ∙ wants_are.bytes ∙ sym stored_long) (written_bytes_law.room space o is_map lies_there)

        room_dir : length ready.piece.bytes.items ≤ length (place_of ready.piece) * sector_bytes (Layout.Old space)
        room_dir = fits_old space l.object ready.piece is_map dir_lies same_place joins.long

        out : ArePutOut (Layout.Old space) (record { sectors = l.object.sectors; bytes = ready.piece.bytes.items } ∷ (record { sectors = sectors; bytes = stored_of x p.ready.early.items bytes } ∷ [])) was image
        out =
            subst (λ (ss : List ℕ). ArePutOut (Layout.Old space) (record { sectors = ss; bytes = ready.piece.bytes.items } ∷ (record { sectors = sectors; bytes = stored_of x p.ready.early.items bytes } ∷ [])) was image) same_place
            (pieces.put_out p.ready sectors ready.piece (prepared.two h dir x name p prep none) (Layout.Old space) was bytes (stored_of x p.ready.early.items bytes) image
            (ready.own.content (sector_bytes (Layout.Old space)) was bytes) room_own room_dir changed.written changed.others)

        map_there : IsMapAfter space (holes_with_it space c) was image
        map_there = subst (λ (hs : List Hole). IsMapAfter space hs was image) (sym holes_are) (both_steps space is_map now now p.ready was image refl long taking giving changed.map)

        pub written : OldAdditionWritten adds command path ready.piece.bytes.items (stored_of x p.ready.early.items bytes) was image
        unfolding adds
        written = record { opens = opens; joins = joins; out = out; after = map_there }

        -- The command has done what it promises.
        pub outcome : outcomes.AdditionLaw → Outcome kind was image view command (parts_with now' nodes' owners')
        unfolding adds
        outcome law =
            subst (λ (m : OldMapContent). Outcome kind was image view command (parts_with m nodes' owners')) space_same
            (subst (λ (ns : Nodes). Outcome kind was image view command (parts_with (holding space (holes_with_it space c)) ns owners')) nodes_same
            (old_done law adds x path bytes (stored_of x p.ready.early.items bytes) command ready.piece.bytes.items was image brings written
            (arriving.its_arrival (Layout.Old space) nodes listings sound agreed.walked.held path dir here its.place.address sectors agreed.walked.forms more x change.said change.tells ready.piece ready.is_piece number command
            (stored_of x p.ready.early.items bytes) (makes_it x p.ready.early.items path bytes command brings)) stored_long
            (subst (λ (n : ℕ). IsOldPlacedAs x space n o) wants_are.bytes (placed_as x space w.bytes o wants_are.bytes file_at))))

  -- ---- at any moment

  module _ (kind : Kind) (was : List ℕ) (view : Opened) (opens : OpensAs was kind view) (parts : ArePartsOf h view) (root : Node) (agreed : AgreeOn kind space nodes owners root view.listings)
      (here : IsVacant nodes view.listings path dir) (command : Command) (bytes : List ℕ) (brings : Brings x path bytes command) (image : List ℕ)
      (only : ChangesOnly (sector_bytes (Layout.Old space)) (written_place p.ready ++ map_place (Layout.Old space)) was image) where
    abbrev before : IsBefore kind was view space
    before = record { opens = opens; layout = sym parts.layout; is_map = is_map }

    abbrev file : Object
    file = o kind root view.listings agreed here

    may_write : MayBeWritten view space command (sectors_in its.place.extents.items ++ here.listing.object.sectors)
    may_write =
        places_law.both view space command sectors here.listing.object.sectors
        (places_law.file kind was view space command w.bytes file before (size kind root view.listings agreed here) (lies_there kind root view.listings agreed here) (file_at kind root view.listings agreed here))
        (places_law.directory kind was view space command here.listing before here.listed (may_rewrite x path bytes command brings view here.listing.object.path here.above))

    pub places : WritesPlaces (Layout.Old space) kind view command was image
    places = record {
      sectors = sectors ++ here.listing.object.sectors;
      only = subst (λ (ss : List ℕ). ChangesOnly (sector_bytes (Layout.Old space)) ((sectors ++ ss) ++ map_place (Layout.Old space)) was image) (same_place kind root view.listings agreed here)
          (pieces.changes_only p.ready sectors ready.piece (prepared.two h dir x name p prep none) (sector_bytes (Layout.Old space)) (map_place (Layout.Old space)) was image only);
      may = (may_write, places_law.spared kind was view space command (sectors ++ here.listing.object.sectors) before may_write);
    }
