-- A file that comes in the place of another on an old map: it can be written and taken over, and what is promised then.
use Rattle.std.proofs.Common.{◌≡◌, ◌≤◌, ◌*◌, ◌++◌, ℕ, List, [], ◌∷◌, length, refl, sym, ap, subst, ◌∙◌, arith, Option, Some, None}
use Rattle.std.specs.Prelude.{Contains, IsPermutation}
use Rattle.fc_names.specs.Names.{Path}
use Rattle.fc_alloc.specs.declared.owner.Owner.{Owner}
use Rattle.fc_record.specs.declared.Kind.{Kind}
use Rattle.fc_oldmap.specs.declared.Hole.{Hole}
use Rattle.fc_oldmap.specs.Holes.{hole_limit}
use Rattle.fc_oldmap.specs.OldMap.{OldMapContent, IsOldMap, map_units}
use Rattle.fc_drafts.specs.Entries.{saved_entry}
use Rattle.fc_model.specs.Command.{Command}
use Rattle.fc_image.specs.Layout.{Layout, dir_form, disc_sectors, map_place, sector_bytes, sectors_at}
use Rattle.fc_image.specs.Edits.{IsAt}
use Rattle.fc_image.specs.Objects.{objects_of}
use Rattle.fc_image.specs.Opening.{Opened}
use Rattle.fc_image.specs.Sound.{AreSound}
use Rattle.fc_image.specs.Stays.{OpensAs}
use Rattle.fc_image.specs.Walk.{Listing, Object, object_size}
use Rattle.fc_image.specs.effects.Short.{holes_without, old_need, with_space_of}
use Rattle.fc_changes.specs.old.Changed.{IsFileAt}
use Rattle.fc_changes.specs.old.Owed.{IsBefore, IsMapAfter, holding}
use Rattle.fc_edits.specs.Addition.{Addition, IsAddition, OldAddition, holes_with_it, nodes_over, owners_before}
use Rattle.fc_edits.proofs.lemmas.AdditionLawLemmas.{addition_law}
use Rattle.fc_laws.specs.nodes.Edits.{Nodes, OwnersEdited, owners_with}
use Rattle.fc_laws.proofs.lemmas.agree.BeforeLemmas.{agreed_law}
use Rattle.fc_laws.proofs.lemmas.agree.CutLemmas.{cut_law}
use Rattle.fc_laws.specs.old.agree.Laws.{AgreeOn, parts_with}
use Rattle.fc_laws.specs.old.agree.Spaces.{CanGive}
use Rattle.fc_laws.specs.old.takeover.Places.{MayBeWritten}
use Rattle.fc_laws.proofs.lemmas.old.agree.BeforeLemmas.{sound as old_sound}
use Rattle.fc_laws.proofs.lemmas.old.agree.GivenLemmas.{space_law}
use Rattle.fc_laws.proofs.lemmas.old.takeover.ApartLemmas.{places_law}
use Rattle.fc_laws.proofs.lemmas.old.takeover.WriteLemmas.{written_bytes_law}
use Rattle.fc_objects.specs.Extents.{sectors_in}
use Rattle.fc_outcomes.specs.Addition.{Joins, OldAdditionWritten}
use Rattle.fc_outcomes.specs.Addition as outcomes
use Rattle.fc_outcomes.specs.NewImage.{Outcome}
use Rattle.fc_outcomes.specs.Puts.{ArePutOut}
use Rattle.fc_refusals.specs.Slots.{IsFile}
use Rattle.fc_refusals.specs.declared.target.Target.{Target}
use Rattle.fc_space.specs.Space.{PlacesSuffice}
use Rattle.fc_tree.specs.declared.node.Node.{Node}
use Rattle.fc_tree.specs.Agree.{Agree}
use Rattle.fc_tree.specs.Parts.{ArePartsOf, Parts}
use Rattle.fc_writing.specs.Laws.{ChangesOnly}
use Rattle.fc_writing.specs.Old.{CanWrite, IsChanged}
use Rattle.fc_writing.specs.Ready.{place_of, written_place}
use Rattle.fc_change.specs.declared.change.Turned.TheVariants as turns
use Rattle.fc_change.specs.declared.job.FileWords.{FileWords}
use Rattle.fc_change.specs.declared.job.Wants.{Wants}
use Rattle.fc_change.specs.After.{AreOwnersAfter, nodes_after, owners_admitted}
use Rattle.fc_change.specs.Directories.{Rewriting, Tells}
use Rattle.fc_change.specs.OldSpace.{CanFree, LieBehind, map_given, map_taken}
use Rattle.fc_change.specs.Places.{ArePlacedOld, IsOldAt, IsOldPlaced, IsOldStep}
use Rattle.fc_commands.specs.declared.stages.Prepared.{Prepared}
use Rattle.fc_commands.specs.Promises.{WritesPlaces}
use Rattle.fc_commands.specs.Stages.{IsPreparedFor}
use Rattle.fc_commands.specs.Written.{map_after}
use Rattle.fc_commands.proofs.ArrivalLemmas.{Arrival, Brings, may_rewrite}
use Rattle.fc_commands.proofs.ArrivalPartsLemmas.{IsAlike}
use Rattle.fc_commands.proofs.ArrivalPlaceLemmas.{IsItsPlace, WantsPlace}
use Rattle.fc_commands.proofs.DirectoryLemmas.{fits_old}
use Rattle.fc_commands.specs.Given.{filled}
use Rattle.fc_commands.proofs.FilledLemmas.{filled_long, given_long}
use Rattle.fc_commands.proofs.OldMapLemmas.{after_both, both_steps, few_holes, of_disc}
use Rattle.fc_commands.proofs.OldPlaceLemmas.{dir_room, old_room}
use Rattle.fc_commands.proofs.OldPlaceLemmas as old_place
use Rattle.fc_commands.proofs.OldRemovalLemmas.{some_sectors, space_is}
use Rattle.fc_commands.proofs.OverLemmas as over
use Rattle.fc_commands.proofs.OverOwnersLemmas.{owners_over}
use Rattle.fc_commands.proofs.OverPreparedLemmas as prepared
use Rattle.fc_commands.proofs.OverPreparedLemmas.{IsOverReady}
use Rattle.fc_commands.proofs.OverShortLemmas.{given_over}
use Rattle.fc_commands.proofs.OverStageLemmas.{Covers, IsOverChange, job_of, tells_it, turns_it}
use Rattle.fc_commands.proofs.RemovalStageLemmas.{view_of}
use Rattle.fc_commands.proofs.TargetLemmas as target_of
use Rattle.fc_commands.proofs.TwoPieceLemmas.{AreRoom, room_both}
use Rattle.fc_commands.proofs.TwoPieceLemmas as pieces
use Rattle.fc_image.proofs.EditLemmas.{apart_turned as turned}

-- ---- a map of the same disc

pub alike_now : (space now : OldMapContent) → now ≡ holding space now.holes → IsAlike (Layout.Old space) (Layout.Old now)
alike_now space now same = subst (λ (m : OldMapContent). IsAlike (Layout.Old space) (Layout.Old m)) (sym same) (record { sector = refl; form = refl; first = λ low. refl })

lies_held : (space : OldMapContent) (holes : List Hole) (o : Object) → IsAt (Layout.Old space) o → IsAt (Layout.Old (holding space holes)) o
unfolding sectors_at
lies_held space holes o at = at

lies_by_now : (space now : OldMapContent) (o : Object) → now ≡ holding space now.holes → IsAt (Layout.Old space) o → IsAt (Layout.Old now) o
lies_by_now space now o same at = subst (λ (m : OldMapContent). IsAt (Layout.Old m) o) (sym same) (lies_held space now.holes o at)

-- ---- before anything is written

-- The space of the file that was there can go back once any bytes are taken, if it has some.
module _ (space : OldMapContent) (nodes : Nodes) (owners : List Owner) (is_map : IsOldMap space) (behind : LieBehind space) (t : Target) (path : Path) (kind : Kind) (a : Agree kind (parts_with space nodes owners))
    (on : Covers (parts_with space nodes owners) path t) where
  abbrev file_there : IsFile nodes a.listings path t
  file_there = on (view_of (parts_with space nodes owners) kind a) (agreed_law.sound_by kind (parts_with space nodes owners) a) (agreed_law.viewed kind (parts_with space nodes owners) a)

  can_free_it : (bytes : ℕ) → CanFree space bytes nodes t.node
  can_free_it bytes =
      let sound = agreed_law.sound_by kind (parts_with space nodes owners) a in
      let at = target_of.placed (Layout.Old space) nodes a.listings sound a.walked.held path t file_there.target in
      record {
        node = target_of.node (Layout.Old space) nodes a.listings sound a.walked.held path t file_there.target;
        there = target_of.node_is (Layout.Old space) nodes a.listings sound a.walked.held path t file_there.target;
        free = λ some.
            subst (CanGive space (map_taken space bytes).holes) (space_is space file_there.target.object is_map at)
            (space_law.given kind space nodes owners a.root a.listings file_there.target.object (old_need space bytes) (space_law.named kind (parts_with space nodes owners) space refl is_map behind a)
            (target_of.among (Layout.Old space) nodes a.listings sound a.walked.held path t file_there.target) (some_sectors space file_there.target.object is_map at some));
      }

  pub can_free : (other : OldMapContent) (bytes n : ℕ) → Layout.Old space ≡ Layout.Old other → n ≡ t.node → CanFree other bytes nodes n
  can_free other bytes n same is = subst (λ (s : OldMapContent). CanFree s bytes nodes n) (one space other same) (subst (CanFree space bytes nodes) (sym is) (can_free_it bytes))
    where
      one : (x y : OldMapContent) → Layout.Old x ≡ Layout.Old y → x ≡ y
      one x y e = cc

module _ (space : OldMapContent) (nodes : Nodes) (owners : List Owner) (is_map : IsOldMap space) (t : Target) (words : FileWords) (name : List ℕ) (p : Prepared)
    (prep : IsPreparedFor (parts_with space nodes owners) (job_of t words) name p) where
  abbrev h : Parts
  h = parts_with space nodes owners

  abbrev w : Wants
  w = prep.wants

  abbrev spaced : ArePlacedOld space h prep.wants prep.spaces
  spaced = prep.spaced.places

  wants_are : WantsPlace h t.holder (Arrival.Saves words) prep.wants
  wants_are = prepared.wants_are h t words name p prep

  abbrev pub its : IsItsPlace prep.spaces
  its = prepared.its h t words name p prep

  abbrev sectors : List ℕ
  sectors = sectors_in its.place.extents.items

  abbrev pub change : IsOverChange nodes t words its.place.address p.change
  change = prepared.change h t words name p prep

  abbrev pub ready : IsOverReady (Layout.Old space) nodes words (sectors_in its.place.extents.items) change.said prep.spaces p.ready
  ready = prepared.ready h t words name p prep

  its_spot : IsOldAt space w its.place
  its_spot = subst (IsOldPlaced space w) its.is spaced.object

  -- ---- the map: its space is taken, and the other's goes back

  abbrev mid : OldMapContent
  mid = map_taken space prep.wants.bytes

  abbrev pub now : OldMapContent
  now = map_given space nodes (Some t.node) (map_taken space prep.wants.bytes)

  taking : IsOldStep space mid p.ready.take
  taking = subst (IsOldStep space mid) (sym ready.take) spaced.take

  giving : IsOldStep mid now p.ready.give
  giving = subst (IsOldStep mid now) (sym ready.give) (subst (λ (o : Option ℕ). IsOldStep mid (map_given space nodes o mid) prep.spaces.give) (prepared.goes h t words name p prep) spaced.give)

  pub map_is : map_after space p.ready ≡ now
  map_is = after_both space mid now p.ready taking giving

  few : length now.holes ≤ hole_limit
  few = few_holes mid now p.ready.give (few_holes space mid p.ready.take is_map.few taking) giving

  -- ---- by any walk

  module _ (kind : Kind) (root : Node) (path : Path) (listings : List Listing) (agreed : AgreeOn kind space nodes owners root listings) (file : IsFile nodes listings path t) where
    abbrev pub sound : AreSound (Layout.Old space) listings
    sound = old_sound kind space nodes owners root listings agreed

    abbrev pub l : Listing
    l = file.target.listing

    abbrev pub was_there : Object
    was_there = file.target.object

    pub tells : Tells None nodes t.holder (Rewriting.Replaces t.at (saved_entry was_there.entry words.load words.exec words.len its.place.address)) change.said
    tells = tells_it (Layout.Old space) nodes listings sound agreed.walked.held path t file words its.place.address p.change change

    turned_it : p.change.object ≡ turns.Turns t.node t.holder (saved_entry was_there.entry words.load words.exec words.len its.place.address)
    turned_it = turns_it (Layout.Old space) nodes listings sound agreed.walked.held path t file words its.place.address p.change change

    abbrev pub o : Object
    o = over.o (Layout.Old space) nodes listings sound agreed.walked.held path t file words its.place.address agreed.walked.forms (sectors_in its.place.extents.items) change.said tells

    size : object_size (dir_form (Layout.Old space)) o.entry ≡ w.bytes
    size = over.size_is (Layout.Old space) nodes listings sound agreed.walked.held path t file words its.place.address agreed.walked.forms (sectors_in its.place.extents.items) change.said tells ∙ sym wants_are.bytes

    pub lies_there : IsAt (Layout.Old space) o
    lies_there = ap (sectors_at (Layout.Old space) o.entry.address) size ∙ its_spot.sectors

    pub file_at : IsFileAt space w.bytes o
    file_at = old_place.spot space w its.place o refl its_spot

    dir_at : Contains (objects_of listings) l.object
    dir_at = target_of.dir_among (Layout.Old space) nodes listings sound agreed.walked.held path t file.target

    pub same_place : place_of ready.piece ≡ l.object.sectors
    same_place =
        target_of.place_is (Layout.Old space) nodes listings sound agreed.walked.held path t file.target (Rewriting.Replaces t.at (saved_entry was_there.entry words.load words.exec words.len its.place.address)) change.said tells
        ready.piece ready.is_piece

    -- the map that both steps leave
    now_is : now ≡ holding space (with_space_of space (Some was_there) (holes_without (old_need space w.bytes) space.holes))
    now_is = given_over space nodes is_map w.bytes t path listings sound agreed.walked.held file.target

    -- ---- it can be written

    pub can_write : (n : ℕ) → disc_sectors (Layout.Old space) ≤ n → PlacesSuffice (Layout.Old space) → CanWrite n space p.ready
    can_write n most suffice =
        let own = old_room kind space nodes owners root listings agreed suffice w.bytes o size lies_there file_at in
        let both = room_both (disc_sectors (Layout.Old space)) (map_place (Layout.Old space)) sectors l.object.sectors own.room (dir_room kind space nodes owners root listings agreed suffice l.object dir_at)
        (turned l.object.sectors sectors (own.apart l.object dir_at)) in
        record {
          put = pieces.can_put p.ready sectors ready.piece (prepared.two h t words name p prep) n (map_place (Layout.Old space))
              (subst (λ (ss : List ℕ). AreRoom n (map_place (Layout.Old space)) (sectors ++ ss)) (sym same_place)
              (record { low = λ s e. (let low = both.low s e in omega (arith, low, most)); once = both.once; beside = both.beside }));
          take = of_disc space space mid p.ready.take taking refl;
          give = of_disc space mid now p.ready.give giving (now_is ∙ ap (λ (m : OldMapContent). holding space m.holes) (sym now_is));
        }

    -- the same disc, with other holes
    pub same_disc : (now' : OldMapContent) → now' ≡ now → now' ≡ holding space now'.holes
    same_disc now' same = same ∙ now_is ∙ ap (λ (m : OldMapContent). holding space m.holes) (sym (same ∙ now_is))

    -- ---- after it

    abbrev pub stay : List Object
    stay = (cut_law.others (Layout.Old space) listings l t.at was_there sound file.target.listed file.target.at).0

    others : IsPermutation (objects_of listings) (was_there ∷ stay)
    others = (cut_law.others (Layout.Old space) listings l t.at was_there sound file.target.listed file.target.at).1

    module _ (now' : OldMapContent) (map_now : now' ≡ now) (owners' : List Owner) (number : ℕ)
        (after_owners : AreOwnersAfter (Layout.Old now') nodes p.change (owners_admitted (Layout.Old space) p.change.object number owners) owners') where
      abbrev pub c : Addition
      c = over.addition (Layout.Old space) nodes listings sound agreed.walked.held path t file words its.place.address agreed.walked.forms (sectors_in its.place.extents.items) change.said tells ready.piece ready.is_piece

      is_addition : IsAddition nodes (Layout.Old space) listings c
      is_addition = over.is_addition (Layout.Old space) nodes listings sound agreed.walked.held path t file words its.place.address agreed.walked.forms sectors change.said tells ready.piece ready.is_piece

      abbrev pub nodes' : Nodes
      nodes' = nodes_after p.change number nodes

      owners_are : OwnersEdited owners owners' (owners_before (Layout.Old space) c) (owners_with (Layout.Old space) t.holder t.node o)
      owners_are =
          owners_over (Layout.Old space) (Layout.Old now') nodes listings owners owners' path t file.target o p.change number stay (alike_now space now' (same_disc now' map_now)) sound agreed.walked.held agreed.owned others
          (lies_by_now space now' o (same_disc now' map_now) lies_there) change.none turned_it after_owners

      -- the holes after it
      pub holes_are : holes_with_it space c ≡ now.holes
      holes_are = ap (λ (n : ℕ). with_space_of space (Some was_there) (holes_without (old_need space n) space.holes)) size ∙ ap (λ (m : OldMapContent). m.holes) (sym now_is)

      pub adds : OldAddition
      adds = record {
        kind = kind;
        space = space;
        nodes = nodes;
        nodes' = nodes_over c nodes;
        owners = owners;
        owners' = owners';
        root = root;
        listings = listings;
        c = c;
        agreed = agreed;
        addition = is_addition;
        nodes_edited = addition_law.nodes_over_it nodes (Layout.Old space) listings c was_there (record { sound = sound; held = agreed.walked.held }) is_addition refl;
        owners_edited = owners_are;
        few = subst (λ (hs : List Hole). length hs ≤ hole_limit) (sym holes_are) few;
        at = lies_there;
        place = subst (λ (n : ℕ). IsFileAt space n o) (sym size) file_at;
      }

      nodes_same : nodes_over c nodes ≡ nodes'
      nodes_same =
          sym (over.nodes_are (Layout.Old space) nodes listings sound agreed.walked.held path t file words its.place.address agreed.walked.forms sectors change.said tells ready.piece ready.is_piece p.change number change.none turned_it change.says)

      -- the map is the one after it
      pub space_same : holding space (holes_with_it space c) ≡ now'
      space_same = ap (holding space) (holes_are ∙ ap (λ (m : OldMapContent). m.holes) (sym map_now)) ∙ sym (same_disc now' map_now)

      abbrev Now : OldMapContent → Nodes → Type 0
      Now m ns = Agree kind (parts_with m ns owners') × LieBehind m

      -- the parts agree
      pub agrees : Now now' nodes'
      unfolding adds
      agrees =
          let after = addition_law.old adds in
          let all : Agree kind (parts_with (holding space (holes_with_it space c)) (nodes_over c nodes) owners') = record {
            root = after.root;
            root_is = after.agree.root_is;
            listings = after.found;
            walked = after.agree.walked;
            map_placed = refl;
            owned = after.agree.owned;
          } in
          let both : Now (holding space (holes_with_it space c)) (nodes_over c nodes) = (all, after.agree.holes) in
          subst (λ (m : OldMapContent). Now m nodes') space_same (subst (Now (holding space (holes_with_it space c))) nodes_same both)

      -- and what was written of it is there
      module _ (command : Command) (bytes : List ℕ) (brings : Brings (Arrival.Saves words) path bytes command) (was image : List ℕ)
          (opens : OpensAs was kind (record { kind = kind; layout = Layout.Old space; listings = listings })) (long : 256 * map_units space.sector_units ≤ length was) (changed : IsChanged space p.ready bytes was image) where
        abbrev pub view : Opened
        view = record { kind = kind; layout = Layout.Old space; listings = listings }

        many : length (filled words.len bytes) ≡ words.len
        many = filled_long words.len bytes (given_long words path bytes command brings)

        joins : Joins command path (Layout.Old space) listings c ready.piece.bytes.items (filled words.len bytes)
        joins = over.joins (Layout.Old space) nodes listings sound agreed.walked.held path t file words its.place.address agreed.walked.forms sectors change.said tells ready.piece ready.is_piece command bytes brings

        room_own : length (filled words.len bytes) ≤ length sectors * sector_bytes (Layout.Old space)
        room_own = subst (λ (n : ℕ). n ≤ length sectors * sector_bytes (Layout.Old space)) (size ∙ wants_are.bytes ∙ sym many) (written_bytes_law.room space o is_map lies_there)

        room_dir : length ready.piece.bytes.items ≤ length (place_of ready.piece) * sector_bytes (Layout.Old space)
        room_dir = fits_old space l.object ready.piece is_map (target_of.dir_placed (Layout.Old space) nodes listings sound agreed.walked.held path t file.target) same_place joins.long

        out : ArePutOut (Layout.Old space) (record { sectors = l.object.sectors; bytes = ready.piece.bytes.items } ∷ (record { sectors = sectors; bytes = filled words.len bytes } ∷ [])) was image
        out =
            subst (λ (ss : List ℕ). ArePutOut (Layout.Old space) (record { sectors = ss; bytes = ready.piece.bytes.items } ∷ (record { sectors = sectors; bytes = filled words.len bytes } ∷ [])) was image) same_place
            (pieces.put_out p.ready sectors ready.piece (prepared.two h t words name p prep) (Layout.Old space) was bytes (filled words.len bytes) image (ready.own.content (sector_bytes (Layout.Old space)) was bytes) room_own room_dir
            changed.written changed.others)

        map_there : IsMapAfter space (holes_with_it space c) was image
        map_there = subst (λ (hs : List Hole). IsMapAfter space hs was image) (sym holes_are) (both_steps space is_map mid now p.ready was image refl long taking giving changed.map)

        pub written : OldAdditionWritten adds command path ready.piece.bytes.items (filled words.len bytes) was image
        unfolding adds
        written = record { opens = opens; joins = joins; out = out; after = map_there }

        -- The command has done what it promises.
        pub outcome : outcomes.AdditionLaw → Outcome kind was image view command (parts_with now' nodes' owners')
        unfolding adds
        outcome law =
            subst (λ (m : OldMapContent). Outcome kind was image view command (parts_with m nodes' owners')) space_same
            (subst (λ (ns : Nodes). Outcome kind was image view command (parts_with (holding space (holes_with_it space c)) ns owners')) nodes_same
            (law.old_file adds command path words.load words.exec ready.piece.bytes.items (filled words.len bytes) was image written
            (over.its_file (Layout.Old space) nodes listings sound agreed.walked.held path t file words its.place.address agreed.walked.forms sectors change.said tells ready.piece ready.is_piece command bytes brings)
            (subst (λ (n : ℕ). IsFileAt space n o) (wants_are.bytes ∙ sym many) file_at)))

  -- ---- at any moment

  module _ (kind : Kind) (was : List ℕ) (view : Opened) (opens : OpensAs was kind view) (parts : ArePartsOf h view) (root : Node) (path : Path) (agreed : AgreeOn kind space nodes owners root view.listings)
      (file : IsFile nodes view.listings path t) (command : Command) (bytes : List ℕ) (brings : Brings (Arrival.Saves words) path bytes command) (image : List ℕ)
      (only : ChangesOnly (sector_bytes (Layout.Old space)) (written_place p.ready ++ map_place (Layout.Old space)) was image) where
    abbrev before : IsBefore kind was view space
    before = record { opens = opens; layout = sym parts.layout; is_map = is_map }

    may_write : MayBeWritten view space command (sectors_in its.place.extents.items ++ file.target.listing.object.sectors)
    may_write =
        places_law.both view space command sectors file.target.listing.object.sectors
        (places_law.file kind was view space command w.bytes (o kind root path view.listings agreed file) before (size kind root path view.listings agreed file) (lies_there kind root path view.listings agreed file)
        (file_at kind root path view.listings agreed file))
        (places_law.directory kind was view space command file.target.listing before file.target.listed (may_rewrite (Arrival.Saves words) path bytes command brings view file.target.listing.object.path file.target.above))

    pub places : WritesPlaces (Layout.Old space) kind view command was image
    places = record {
      sectors = sectors ++ file.target.listing.object.sectors;
      only = subst (λ (ss : List ℕ). ChangesOnly (sector_bytes (Layout.Old space)) ((sectors ++ ss) ++ map_place (Layout.Old space)) was image) (same_place kind root path view.listings agreed file)
          (pieces.changes_only p.ready sectors ready.piece (prepared.two h t words name p prep) (sector_bytes (Layout.Old space)) (map_place (Layout.Old space)) was image only);
      may = (may_write, places_law.spared kind was view space command (sectors ++ file.target.listing.object.sectors) before may_write);
    }
