-- What comes to a directory that grows by it, on a new map: what is written of it, and that the command has done then what it promises.
use Rattle.std.proofs.Common.{◌≡◌, ◌++◌, flat_map, ◌≤◌, ◌*◌, ◌==◌, ⊎_elim, ℕ, Bool, false, cond, List, ◌∷◌, length, refl, sym, ap, ap₂, subst, ◌∙◌, Option, Some, None, map}
use Rattle.std.specs.Prelude.{Contains}
use Rattle.std.specs.FinMap.{get}
use Rattle.std.specs.Option.{option_and_then}
use Rattle.std.proofs.lemmas.List.Elements.{Contains-append_left}
use Rattle.fc_alloc.specs.declared.owner.Owner.{Owner}
use Rattle.fc_names.specs.Names.{Path}
use Rattle.fc_names.specs.declared.name.NameForm.{NameForm}
use Rattle.fc_names.specs.declared.name.NameForm.TheVariants as forms
use Rattle.fc_record.specs.declared.DiscRecord.{DiscRecord}
use Rattle.fc_record.specs.declared.Geometry.{Geometry}
use Rattle.fc_record.specs.declared.Kind.{Kind}
use Rattle.fc_newmap.specs.Map.{Map}
use Rattle.fc_newmap.specs.NewMap.{IsNewMap}
use Rattle.fc_model.specs.Command.{Command}
use Rattle.fc_model.specs.Tree.{last_name}
use Rattle.fc_dirs.specs.Directory.{directory_size, entries_of}
use Rattle.fc_drafts.specs.Draft.{directory_in}
use Rattle.fc_image.specs.Layout.{Layout, dir_form}
use Rattle.fc_image.specs.Opening.{Opened}
use Rattle.fc_image.specs.Stays.{OpensAs, IsNewKind}
use Rattle.fc_image.specs.Walk.{Listing, Object, object_size}
use Rattle.fc_image.specs.effects.Short.{gain_of, growth_in, growth_of, Gain}
use Rattle.fc_image.specs.effects.Steady.{replaced_entry}
use Rattle.fc_laws.specs.nodes.Edits.{Nodes}
use Rattle.fc_laws.specs.agree.Agreed.{AgreeOn, parts_with}
use Rattle.fc_laws.proofs.lemmas.takeover.KindLemmas.{new_kind}
use Rattle.fc_laws.proofs.lemmas.takeover.WriteLemmas.{written_bytes_law}
use Rattle.fc_objects.specs.Extents.{sectors_in}
use Rattle.fc_refusals.specs.Targets.{IsVacant}
use Rattle.fc_tree.specs.declared.node.Node.{Node}
use Rattle.fc_tree.specs.Nodes.{number_of}
use Rattle.fc_tree.proofs.WalkedLemmas.{listed_directory}
use Rattle.fc_edits.specs.Growing.{Growing}
use Rattle.fc_outcomes.specs.GrownAddition.{GrownAdded, NewGrownAdditionWritten}
use Rattle.fc_outcomes.specs.Growth.{Grows}
use Rattle.fc_outcomes.specs.Puts.{Put}
use Rattle.fc_change.specs.declared.job.Growth.{Growth}
use Rattle.fc_change.specs.After.{AreOwnersAfter, owners_admitted}
use Rattle.fc_change.specs.GrownSpace.{root_of}
use Rattle.fc_writing.specs.declared.ready.Piece.{Piece}
use Rattle.fc_writing.specs.New.{IsChanged, IsGiven}
use Rattle.fc_writing.specs.Ready.{place_of}
use Rattle.fc_commands.specs.declared.stages.Prepared.{Prepared}
use Rattle.fc_commands.specs.Stages.{IsPreparedFor}
use Rattle.fc_commands.proofs.GrownArrivalLemmas as arrival
use Rattle.fc_commands.proofs.GrownAskedLemmas.{grows}
use Rattle.fc_commands.proofs.GrownNewLemmas as new
use Rattle.fc_commands.proofs.GrownMapLemmas.{map_grows}
use Rattle.fc_commands.proofs.GrownOutcomeLemmas as told
use Rattle.fc_commands.proofs.GrownPieceLemmas.{piece_put, IsGrownReady}
use Rattle.fc_commands.proofs.GrownPreparedLemmas as prepared
use Rattle.fc_commands.proofs.GrownNewRootLemmas as rooted
use Rattle.fc_commands.proofs.GrownRootLemmas.{HasVersion, version_by}
use Rattle.fc_commands.proofs.GrownSpaceLemmas as space_of
use Rattle.fc_commands.proofs.PutLemmas.{CopiesNone, put_of, put_out, puts_of, source_puts, AreLong}
use Rattle.fc_image.specs.Sound.{AreSound}
use Rattle.fc_dirs.specs.declared.Entry.{Entry}
use Rattle.fc_drafts.specs.Gains.{GetsName, HasRoom}
use Rattle.fc_commands.proofs.GrownSaidLemmas.{GrownEdit}
use Rattle.fc_change.specs.declared.spaces.GrownPlace.{GrownPlace}
use Rattle.fc_changes.specs.Owed.{IsBefore}
use Rattle.fc_commands.proofs.GrownAroundLemmas.{IsCutAround}
use Rattle.fc_commands.proofs.GrownPreparedLemmas.{IsGrownChange}
use Rattle.fc_commands.proofs.GrownChangeLemmas.{IsGrownStepped}
use Rattle.fc_commands.proofs.GrownSpaceLemmas.{IsToGrow, growing_of}
use Rattle.fc_edits.specs.GrownAddition.{NewGrownAddition}
use Rattle.fc_laws.proofs.lemmas.agree.BeforeLemmas.{agreed_law}
use Rattle.fc_commands.proofs.NodeLemmas.{each_at}
use Rattle.fc_drafts.specs.declared.room.Room.TheVariants as rooms
use Rattle.fc_dirs.specs.Entries.{with_entry}
use Rattle.fc_plan.specs.declared.plan.Plan.{Plan}
use Rattle.fc_dirs.specs.Entries.{has_name}
use Rattle.fc_newmap.specs.Map.{map_sectors}
use Rattle.fc_model.specs.Tree.{holder}
use Rattle.fc_image.specs.Objects.{objects_of}
use Rattle.fc_writing.specs.Content.{Content, HasContent, IsPart}
use Rattle.fc_writing.specs.Ready.{all_content, carried_by, content_of, late_content}
use Rattle.fc_commands.proofs.ArrivalLemmas.{Arrival, Brings, bytes_of, gain_same, job_of, no_last, renames_none, size_is}
use Rattle.fc_commands.proofs.GrownComerLemmas.{copies_none, given_to}
use Rattle.fc_commands.proofs.GrownWalkLemmas as walk
use Rattle.fc_commands.proofs.GrownWantLemmas as wanted
use Rattle.fc_commands.proofs.NewDoneLemmas.{IsPlacedAs}
use Rattle.fc_commands.proofs.VacantLemmas.{at_path, gains}
use Rattle.fc_commands.proofs.GrownStoredLemmas.{AreItsBytes, IsFilled, grown_done, its_bytes, its_grown}

-- ---- the edit

module _ (m : Map) (nodes : Nodes) (owners : List Owner) (dir : ℕ) (x : Arrival) (path : Path) (pr : Prepared) (prep : IsPreparedFor (parts_with m nodes owners) (job_of dir x) (last_name path) pr)
    (growth : Growth) (some : prep.wants.grows ≡ Some growth) (is_map : IsNewMap m)
    (kind : Kind) (root : Node) (listings : List Listing) (agreed : AgreeOn kind m nodes owners root listings) (spot : IsVacant nodes listings path dir) (number : ℕ) (free : get nodes number ≡ None) where
  abbrev P : GrownPlace
  P = new.p m nodes owners dir x path pr prep growth some is_map

  abbrev E : Entry
  E = new.e m nodes owners dir x path pr prep growth some is_map

  abbrev ss : List ℕ
  ss = new.sectors m nodes owners dir x path pr prep growth some is_map

  abbrev view : Opened
  view = record { kind = kind; layout = Layout.New m; listings = listings }

  abbrev sound : AreSound (Layout.New m) listings
  sound = agreed_law.sound kind m nodes owners root listings agreed

  abbrev l : Listing
  l = spot.listing

  abbrev ch : IsGrownChange nodes E P.directory pr.change
  ch = new.change m nodes owners dir x path pr prep growth some is_map

  abbrev rd : IsGrownReady (Layout.New m) nodes P ch.said ch.others prep.ready.made pr.ready
  rd = new.ready m nodes owners dir x path pr prep growth some is_map

  abbrev at : number_of nodes spot.listing.object.path ≡ Some P.directory.node
  at = new.at_walk m nodes owners dir x path pr prep growth some is_map kind root listings agreed spot

  abbrev form : dir_form (Layout.New m) ≡ forms.Long
  form = new.form m nodes owners dir x path pr prep growth some is_map kind root listings agreed spot

  abbrev room : (gain : Gain) → GetsName spot.listing.content E.name gain → HasRoom spot.listing.content gain (rooms.Grows P.directory.len)
  room = new.room m nodes owners dir x path pr prep growth some is_map kind root listings agreed spot

  abbrev absent : has_name (entries_of spot.listing.content) E.name ≡ false
  absent = new.absent m nodes owners dir x path pr prep growth some is_map kind root listings agreed spot

  abbrev into : List Listing
  into = new.into m nodes owners dir x path pr prep growth some is_map kind root listings agreed spot

  abbrev around : (tops kids left : List Listing) × IsCutAround listings spot.listing tops kids left
  around = arrival.around kind m nodes owners root listings agreed spot.listing spot.listed P at form E pr.change ch room prep.ready.made pr.ready rd absent ss into number

  abbrev O : Object
  O = new.o m nodes owners dir x path pr prep growth some is_map kind root listings agreed spot

  abbrev kids' : List Object
  kids' = arrival.children kind m nodes owners root listings agreed spot.listing spot.listed P at form E pr.change ch room prep.ready.made pr.ready rd absent ss into number

  abbrev ge : GrownEdit (Layout.New m) nodes listings sound agreed.walked.held spot.listing spot.listed P at agreed.walked.forms (directory_in ch.said.draft) kids' O into number around.0 around.1 around.2 (ch.said ∷ ch.others) (rd.own ∷ rd.pieces)
  ge = arrival.grown kind m nodes owners root listings agreed spot.listing spot.listed P at form E pr.change ch room prep.ready.made pr.ready rd absent ss into number

  abbrev growing : Growing
  growing = growing_of spot.listing.object P ge.again ge.same ge.holder ge.others

  abbrev stay : List Object
  stay = new.stay m nodes owners dir x path pr prep growth some is_map kind root listings agreed spot

  abbrev plan : Option Plan
  plan = new.plan m nodes owners dir x path pr prep growth some is_map

  abbrev to : IsToGrow m nodes owners listings spot.listing.object stay growth plan prep.spaced.places.dir P
  to = new.to m nodes owners dir x path pr prep growth some is_map kind root listings agreed spot

  -- a command that brings it makes the directory grow
  module _ (c : Command) (bytes : List ℕ) (brings : Brings x path bytes c) where
    growth_is : growth_in view c ≡ Some (spot.listing.object, P.directory.len)
    growth_is =
        ap (option_and_then growth_of) (sym (gain_same x path bytes c brings view) ∙ gains (Layout.New m) nodes listings sound path dir spot view refl)
        ∙ (walk.room m nodes owners dir x path prep.wants prep.spaces (new.is m nodes owners dir x path pr prep growth some is_map) kind root listings agreed spot (gain_of path spot.listing) (record { name_is = refl; names_are = refl })).1 spot.listing.object

    its_grows : Grows view c growing
    its_grows =
        grows kind m listings spot.listing P c growth_is ge.again ge.same ge.holder ge.others _ _
        (space_of.lies m nodes owners listings spot.listing.object stay growth plan prep.spaced.places.dir P to ge.again ge.same ge.holder ge.others)
        (space_of.own_used m nodes owners listings spot.listing.object stay growth plan prep.spaced.places.dir P to) nodes sound agreed.walked.held spot.listed around.0 around.1 around.2 around.3 ge.told_by ge.kept_by

  -- ---- as it ran

  module _ (m' : Map) (owners' : List Owner) (given' : IsGiven m pr.ready m') (after : AreOwnersAfter (Layout.New m') nodes pr.change (owners_admitted (Layout.New m) pr.change.object number owners) owners') where
    abbrev added : NewGrownAddition
    added = new.added m nodes owners dir x path pr prep growth some is_map kind root listings agreed spot number free m' owners' given' after

    stepped : IsGrownStepped m m' plan prep.spaced.places.dir (space_of.alone m nodes owners listings spot.listing.object stay growth plan prep.spaced.places.dir P to) (root_of (Some P))
        (new.back m nodes owners dir x path pr prep growth some is_map kind root listings agreed spot)
    stepped = new.stepped m nodes owners dir x path pr prep growth some is_map kind root listings agreed spot number free m' owners' given' after

    same_sector : m'.geometry.sector ≡ m.geometry.sector
    same_sector = ap (λ (g : Geometry). g.sector) stepped.geometry

    same_form : dir_form (Layout.New m') ≡ dir_form (Layout.New m)
    same_form = ap (λ (g : Geometry). let f : NameForm = cond (g.version == 0) forms.Ten forms.Long in f) stepped.geometry

    -- ---- what is written

    module _ (bytes : List ℕ) (filled' : IsFilled x bytes) where
      abbrev given : List ℕ
      given = given_to x bytes

      its : AreItsBytes (dir_form (Layout.New m)) P.directory.address x (last_name path) O ss prep.ready.made pr.ready.source bytes
      its =
          its_bytes (dir_form (Layout.New m)) P.directory.address x (last_name path) O (new.own m nodes owners dir x path pr prep growth some is_map) (new.place m nodes owners dir x path pr prep growth some is_map) prep.ready.made pr.ready.source bytes
          (new.owns m nodes owners dir x path pr prep growth some is_map) (new.writes m nodes owners dir x path pr prep growth some is_map) filled'

      stored_long : length its.stored ≡ object_size (dir_form (Layout.New m)) E
      stored_long = its.long ∙ sym (size_is (dir_form (Layout.New m)) x (last_name path) (new.place m nodes owners dir x path pr prep growth some is_map).address)

      own_room : length its.stored ≤ length ss * m.geometry.sector
      own_room =
          subst (λ (n : ℕ). n ≤ length ss * m.geometry.sector) (ap (λ (f : NameForm). object_size f E) same_form ∙ sym stored_long)
          (subst (λ (n : ℕ). object_size (dir_form (Layout.New m')) E ≤ length ss * n) same_sector
          (written_bytes_law.room m' O stepped.edited.is_map (new.lies_now m nodes owners dir x path pr prep growth some is_map kind root listings agreed spot number free m' owners' given' after)))

      piece_long : (q : Piece) → Contains prep.ready.made q → length q.bytes.items ≤ length (place_of q) * m.geometry.sector
      piece_long q at =
          let own = its.makes q at in
          subst (λ (bs : List ℕ). length bs ≤ length (place_of q) * m.geometry.sector) (sym own.1) (subst (λ (xs : List ℕ). length its.stored ≤ length xs * m.geometry.sector) (sym own.0) own_room)

      given_long' : (y : Put) → Contains (source_puts pr.ready.source given) y → length y.bytes ≤ length y.sectors * m.geometry.sector
      given_long' y at =
          let own = its.gives y at in
          subst (λ (bs : List ℕ). length bs ≤ length y.sectors * m.geometry.sector) (sym own.1) (subst (λ (xs : List ℕ). length its.stored ≤ length xs * m.geometry.sector) (sym own.0) own_room)

      big_size : (k : Listing) → Contains listings k → (a : ℕ) → object_size (dir_form (Layout.New m)) (record k.object.entry { address = a; len = P.directory.len }) ≡ P.directory.len
      big_size k there a = ap₂ (λ (b : Bool) (f : NameForm). cond b (directory_size f P.directory.len) P.directory.len) (listed_directory (Layout.New m) listings sound k there).1 form

      grown_room : (k : Listing) → Contains listings k → object_size (dir_form (Layout.New m)) (record k.object.entry { address = P.directory.address; len = P.directory.len }) ≤ length (sectors_in P.extents.items) * m.geometry.sector
      grown_room k there =
          subst (λ (n : ℕ). n ≤ length (sectors_in P.extents.items) * m.geometry.sector)
          (ap (λ (f : NameForm). object_size f (record l.object.entry { address = P.directory.address; len = P.directory.len })) same_form ∙ big_size l spot.listed P.directory.address ∙ sym (big_size k there P.directory.address))
          (subst (λ (n : ℕ). object_size (dir_form (Layout.New m')) (record l.object.entry { address = P.directory.address; len = P.directory.len }) ≤ length (sectors_in P.extents.items) * n) same_sector
          (written_bytes_law.room m' (space_of.placed_at P l.object) stepped.edited.is_map (new.grown_at m nodes owners dir x path pr prep growth some is_map kind root listings agreed spot number free m' owners' given' after)))

      long : AreLong m.geometry.sector (puts_of pr.ready given)
      long =
          told.all_long (Layout.New m) nodes listings sound agreed.walked.held spot.listing spot.listed P at agreed.walked.forms (directory_in ch.said.draft) kids' O into number around.0 around.1 around.2 ch.said ch.others
          prep.ready.made pr.ready rd ge given
          (λ k there. written_bytes_law.room m k.object is_map (each_at (Layout.New m) listings sound k.object (listed_directory (Layout.New m) listings sound k there).0)) grown_room piece_long given_long'

      plain : CopiesNone pr.ready.source
      plain =
          copies_none x (new.own m nodes owners dir x path pr prep growth some is_map) (new.place m nodes owners dir x path pr prep growth some is_map) prep.ready.made pr.ready.source
          (new.writes m nodes owners dir x path pr prep growth some is_map)

      -- the bytes that are given, and the zeros after them
      same_content : (was : List ℕ) → all_content m.geometry.sector was bytes pr.ready ≡ all_content m.geometry.sector was given pr.ready
      same_content was =
          ap (λ (k : Content). (k ++ (flat_map (carried_by m.geometry.sector was) pr.ready.carried.items ++ flat_map (content_of m.geometry.sector) pr.ready.early.items)) ++ late_content m.geometry.sector pr.ready) (its.same m.geometry.sector was)

      stored_put : Contains (puts_of pr.ready given) (record { sectors = ss; bytes = its.stored })
      stored_put = ⊎_elim
          (λ made. (let own = its.makes made.0 made.1 in
          subst (λ (xs : List ℕ). Contains (puts_of pr.ready given) (record { sectors = xs; bytes = its.stored })) own.0
          (subst (λ (bs : List ℕ). Contains (puts_of pr.ready given) (record { sectors = place_of made.0; bytes = bs })) own.1
          (piece_put (Layout.New m) nodes P ch.said ch.others prep.ready.made pr.ready rd given made.0 (Contains-append_left prep.ready.made (rd.own ∷ rd.pieces) made.0 made.1)))))
          (λ source. Contains-append_left (source_puts pr.ready.source given) (map put_of pr.ready.early.items ++ map put_of pr.ready.late.items) (record { sectors = ss; bytes = its.stored }) source) its.some

      -- ---- and what the command promises

      module _ (c : Command) (brings : Brings x path bytes c) (was image : List ℕ) (opens : OpensAs was kind (record { kind = kind; layout = Layout.New m; listings = listings })) (changed : IsChanged m m' pr.ready bytes was image) where
        abbrev puts : List Put
        puts = puts_of pr.ready given

        abbrev kind_is : (r : DiscRecord) × IsNewKind kind r
        kind_is = new_kind was kind view m opens refl

        before : IsBefore kind kind_is.0 was view m
        before = record { new_kind = kind_is.1; opens = opens; layout = refl; is_map = is_map }

        version : HasVersion m
        version = version_by kind kind_is.0 was view m before form

        named : E.name ≡ last_name path
        named = new.named m nodes owners dir x path pr prep growth some is_map kind root listings agreed spot

        written : NewGrownAdditionWritten added c path puts its.stored was image
        written = record {
          r = kind_is.0;
          new_kind = kind_is.1;
          opens = opens;
          grows = its_grows c bytes brings;
          path_is = at_path path spot.listing.object.path E.name spot.no_root spot.above named;
          stood = spot.absent;
          entry = (
            (prepared.entered (Layout.New m) nodes listings sound agreed.walked.held spot.listing spot.listed P at agreed.walked.forms form E pr.change ch room prep.ready.made pr.ready rd).entries
                ∙ ap (λ (b : Bool). cond b (map (replaced_entry E) (entries_of spot.listing.content)) (with_entry E (entries_of spot.listing.content))) absent,
            named,
            no_last (dir_form (Layout.New m)) x (last_name path) (new.place m nodes owners dir x path pr prep growth some is_map).address,
          );
          says = told.says (Layout.New m) nodes listings sound agreed.walked.held spot.listing spot.listed P at agreed.walked.forms (directory_in ch.said.draft) kids' O into number around.0 around.1 around.2 ch.said ch.others
              prep.ready.made pr.ready rd ge c (renames_none x path bytes c brings);
          written = told.written (Layout.New m) nodes listings sound agreed.walked.held spot.listing spot.listed P at agreed.walked.forms (directory_in ch.said.draft) kids' O into number around.0 around.1 around.2 ch.said ch.others
              prep.ready.made pr.ready rd ge given (Layout.New m') same_form;
          stored_put = stored_put;
          stored_long = stored_long;
          own = its.says;
          whose = told.whose (Layout.New m) nodes listings sound agreed.walked.held spot.listing spot.listed P at agreed.walked.forms (directory_in ch.said.draft) kids' O into number around.0 around.1 around.2 ch.said ch.others
              prep.ready.made pr.ready rd ge given (λ q there. (its.makes q there).0) (λ y there. (its.gives y there).0);
          out = put_out (Layout.New m) was given image pr.ready plain prep.ready.carried long (subst (λ (k : Content). HasContent m.geometry.sector k image) (same_content was) changed.written)
              (subst (λ (k : Content). IsPart m.geometry.sector (map_sectors m.geometry) k was image) (same_content was) changed.others);
          map = map_grows m m' growing (root_of (Some P)) kind kind_is.0 was image view before stepped.edited
              (rooted.step_of m nodes owners dir x path pr prep growth some is_map kind root listings agreed spot ge.again ge.same ge.holder ge.others version) changed.copies;
        }

        its_space : IsPlacedAs x m (objects_of listings) (holder path) (bytes_of (dir_form (Layout.New m)) x) added.id added.parts O
        its_space =
            subst (λ (n : ℕ). IsPlacedAs x m (objects_of listings) (holder path) n added.id added.parts O)
            (wanted.want m nodes owners dir x (last_name path) prep.wants prep.spaces (new.is m nodes owners dir x path pr prep growth some is_map)).bytes
            (new.spot_as m nodes owners dir x path pr prep growth some is_map kind root listings agreed spot)

        -- The command has done what it promises.
        pub outcome : GrownAdded added c was image
        outcome =
            grown_done added x path bytes its.stored c puts was image brings written
            (its_grown x c (Layout.New m) path spot.listing.object.path (new.place m nodes owners dir x path pr prep growth some is_map).address P.directory.address ss spot.listing (directory_in ch.said.draft) kids'
            (around.0 ++ (around.1 ++ around.2)) P.directory.node number growing its.stored refl (its.made_of c path brings)) its.long its_space
