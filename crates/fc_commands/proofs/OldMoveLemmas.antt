-- `rename` on an old map, if no directory grows: it can be written and taken over, and what it then promises.
use Rattle.std.proofs.Common.{◌≡◌, ◌≤◌, ◌*◌, ◌++◌, ℕ, true, false, List, [], ◌∷◌, length, refl, sym, ap, subst, ◌∙◌, Option, None}
use Rattle.std.specs.Prelude.{Contains}
use Rattle.fc_names.specs.Names.{Path}
use Rattle.fc_alloc.specs.declared.owner.Owner.{Owner}
use Rattle.fc_record.specs.declared.Kind.{Kind}
use Rattle.fc_oldmap.specs.OldMap.{OldMapContent, IsOldMap, map_units}
use Rattle.fc_model.specs.Command.{Command}
use Rattle.fc_drafts.specs.Draft.{size_of}
use Rattle.fc_image.specs.Layout.{Layout, disc_sectors, hole_sectors, map_place, sector_bytes}
use Rattle.fc_image.specs.Opening.{Opened}
use Rattle.fc_image.specs.Stays.{OpensAs}
use Rattle.fc_image.specs.Walk.{Listing, Object}
use Rattle.fc_image.specs.effects.Short.{is_copied}
use Rattle.fc_image.specs.effects.Steady.{may_be_rewritten}
use Rattle.fc_changes.specs.old.Owed.{IsBefore, IsMapAfter}
use Rattle.fc_space.specs.Space.{PlacesSuffice}
use Rattle.fc_tree.specs.declared.node.Node.{Node}
use Rattle.fc_tree.specs.Agree.{Agree}
use Rattle.fc_tree.specs.Parts.{Parts}
use Rattle.fc_tree.proofs.MemberLemmas.{contains_here}
use Rattle.fc_laws.specs.nodes.Edits.{Nodes, OwnersEdited, owners_with}
use Rattle.fc_laws.proofs.lemmas.takeover.SaidLemmas.{apart_front}
use Rattle.fc_laws.specs.old.agree.Laws.{AgreeOn, parts_with}
use Rattle.fc_laws.specs.old.takeover.Places.{MayBeWritten}
use Rattle.fc_laws.proofs.lemmas.old.takeover.ApartLemmas.{places_law}
use Rattle.fc_laws.proofs.lemmas.old.takeover.WriteLemmas.{written_bytes_law}
use Rattle.fc_edits.specs.Edit.{Amended}
use Rattle.fc_edits.specs.Moving.{OldMoving, edit}
use Rattle.fc_edits.specs.NewNodes as edited
use Rattle.fc_edits.proofs.lemmas.MovingLemmas.{moving_law}
use Rattle.fc_outcomes.specs.Moving as outcomes
use Rattle.fc_outcomes.specs.NewImage.{Outcome}
use Rattle.fc_refusals.specs.declared.target.Renaming.{Renaming}
use Rattle.fc_writing.specs.Laws.{ChangesOnly}
use Rattle.fc_writing.specs.Old.{CanWrite, IsChanged}
use Rattle.fc_writing.specs.Ready.{written_place}
use Rattle.fc_change.specs.declared.job.Job.TheVariants as jobs
use Rattle.fc_change.specs.After.{nodes_after}
use Rattle.fc_change.specs.Needs.{is_copied as is_copied_job}
use Rattle.fc_change.specs.OldSpace.{map_given, map_taken}
use Rattle.fc_change.specs.Places.{ArePlacedOld, IsOldStep}
use Rattle.fc_commands.specs.declared.stages.Prepared.{Prepared}
use Rattle.fc_commands.proofs.RoomyLemmas.{NoneGrows}
use Rattle.fc_commands.specs.Promises.{WritesPlaces}
use Rattle.fc_commands.specs.Stages.{IsPreparedFor}
use Rattle.fc_commands.specs.Written.{map_after}
use Rattle.fc_commands.proofs.EmptySpaceLemmas.{WantsNoSpace}
use Rattle.fc_commands.proofs.MoveEditLemmas.{IsMoved}
use Rattle.fc_commands.proofs.MoveLemmas.{IsSeen, h as held_by, o}
use Rattle.fc_commands.proofs.MovePieceLemmas.{AreFor, apart, beside, can_put, lies, low, out, place_is, said_listed, sectors_of}
use Rattle.fc_commands.proofs.MoveReadyLemmas.{IsMoveReady, may_rewrite}
use Rattle.fc_commands.proofs.MoveReadyLemmas as prepared
use Rattle.fc_commands.proofs.OldMapLemmas.{after_both, both_steps, none_taken, of_disc}
use Rattle.fc_image.proofs.EntriesLemmas.{later as contains_later}

module _ (outcome_law : outcomes.MovingLaw) (space : OldMapContent) (nodes : Nodes) (owners : List Owner) (is_map : IsOldMap space) (r : Renaming) (name : List ℕ) (p : Prepared)
    (prep : IsPreparedFor (parts_with space nodes owners) (jobs.Move r) name p) (grows : NoneGrows (parts_with space nodes owners) (jobs.Move r) name)
    (plain : is_copied_job (parts_with space nodes owners) r ≡ false) where
  abbrev h : Parts
  h = parts_with space nodes owners

  abbrev layout : Layout
  layout = Layout.Old space

  abbrev spaced : ArePlacedOld space h prep.wants prep.spaces
  spaced = prep.spaced.places

  none : WantsNoSpace prep.wants × (prep.wants.goes ≡ None)
  none = prepared.none layout nodes owners r name p prep grows plain

  ready : IsMoveReady layout nodes p.change.says.items prep.spaces p.ready
  ready = prepared.ready layout nodes owners r name p prep grows plain

  -- ---- the map: nothing is taken, and nothing goes back

  taken_is : map_taken space prep.wants.bytes ≡ space
  taken_is = ap (map_taken space) none.0.bytes ∙ none_taken space is_map

  takes : IsOldStep space space p.ready.take
  takes = subst (IsOldStep space space) (sym ready.take) (subst (λ (m : OldMapContent). IsOldStep space m prep.spaces.take) taken_is spaced.take)

  gives : IsOldStep space space p.ready.give
  gives =
      subst (IsOldStep space space) (sym ready.give)
      (subst (λ (n : Option ℕ). IsOldStep space (map_given space nodes n space) prep.spaces.give) none.1
      (subst (λ (m : OldMapContent). IsOldStep m (map_given space nodes prep.wants.goes m) prep.spaces.give) taken_is spaced.give))

  pub map_stays : map_after space p.ready ≡ space
  map_stays = after_both space space space p.ready takes gives

  -- ---- by any walk of parts that agree

  module _ (kind : Kind) (root : Node) (listings : List Listing) (agreed : AgreeOn kind space nodes owners root listings) (from to : Path) (x : IsSeen layout nodes listings from to r name) where
    abbrev it : Object
    it = o layout nodes listings from to r name x

    mv : IsMoved layout nodes listings from to r name it p.change.says.items
    mv = prepared.mv layout nodes owners r name p prep grows plain listings from to x

    are_for : AreFor mv.order p.ready.late.items
    unfolding mv
    are_for = prepared.are_for layout nodes owners r name p prep grows plain listings from to x

    place_same : written_place p.ready ≡ sectors_of mv.order
    place_same = place_is p.ready p.ready.late.items ready.pieces mv.order are_for

    -- it can be written
    pub can_write : (n : ℕ) → disc_sectors layout ≤ n → PlacesSuffice layout → CanWrite n space p.ready
    can_write n room suffice =
        let listed = said_listed nodes listings mv.order p.change.says.items mv.is.said in
        record {
          put = can_put p.ready p.ready.late.items ready.pieces mv.order are_for n (map_place layout) (low kind layout nodes root listings agreed.walked mv.order listed n room suffice)
              (apart kind layout nodes root listings agreed.walked mv.order listed mv.is.once (λ l at. written_bytes_law.apart space l.object is_map (lies kind layout nodes root listings agreed.walked l at).placed))
              (beside kind layout nodes root listings agreed.walked mv.order listed (map_place layout)
              (λ l at. apart_front l.object.sectors (map_place layout) (hole_sectors layout) (lies kind layout nodes root listings agreed.walked l at).apart));
          take = of_disc space space space p.ready.take takes refl;
          give = of_disc space space space p.ready.give gives refl;
        }

    -- ---- after it

    module _ (owners' : List Owner) (number : ℕ) (goes : OwnersEdited owners owners' (owners_with layout r.target.holder r.target.node it) (owners_with layout r.holder r.target.node it)) where
      abbrev pub nodes' : Nodes
      nodes' = nodes_after p.change number nodes

      pub moving : OldMoving
      moving = record {
        kind = kind;
        space = space;
        nodes = nodes;
        nodes' = edited.nodes_after (edit mv.c) nodes;
        owners = owners;
        owners' = owners';
        root = root;
        listings = listings;
        c = mv.c;
        agreed = agreed;
        is_moving = mv.is.moving;
        nodes_edited = moving_law.nodes nodes layout listings mv.c (held_by layout nodes listings from to r name x) mv.is.moving;
        owners_edited = mv.is.owners owners owners' goes;
      }

      nodes_same : edited.nodes_after (edit mv.c) nodes ≡ nodes'
      unfolding mv
      nodes_same = sym (prepared.nodes_now layout nodes owners r name p prep grows plain listings from to x number)

      -- the parts agree
      pub agrees : Agree kind (parts_with space nodes' owners')
      unfolding moving
      agrees =
          let now = moving_law.old moving in
          let all : Agree kind (parts_with space (edited.nodes_after (edit mv.c) nodes) owners') =
          record { root = now.root; root_is = now.agree.root_is; listings = now.found; walked = now.agree.walked; map_placed = refl; owned = now.agree.owned } in
          subst (λ (ns : Nodes). Agree kind (parts_with space ns owners')) nodes_same all

      -- and the command has done what it promises
      module _ (was bytes image : List ℕ) (opens : OpensAs was kind (record { kind = kind; layout = layout; listings = listings })) (long : 256 * map_units space.sector_units ≤ length was)
          (not_copied : is_copied (record { kind = kind; layout = layout; listings = listings }) from to it ≡ false) (changed : IsChanged space p.ready bytes was image) where
        abbrev v : Opened
        v = record { kind = kind; layout = layout; listings = listings }

        room : (a : Amended) → Contains mv.order a → size_of a.content ≤ length a.was.object.sectors * sector_bytes layout
        room a at =
            subst (λ (n : ℕ). n ≤ length a.was.object.sectors * sector_bytes layout) (sym (mv.is.sizes a (mv.is.of_order a at)))
            (written_bytes_law.room space a.was.object is_map
            (lies kind layout nodes root listings agreed.walked a.was (said_listed nodes listings mv.order p.change.says.items mv.is.said a at).0).placed)

        has_moved : outcomes.HasMoved v from to mv.c (prepared.puts layout nodes owners r name p prep grows plain listings from to x)
        unfolding mv
        has_moved = prepared.has_moved layout nodes owners r name p prep grows plain listings from to x kind not_copied

        map_there : IsMapAfter space space.holes was image
        map_there = both_steps space is_map space space p.ready was image refl long takes gives changed.map

        pub outcome : Outcome kind was image v (Command.Rename from to) (parts_with space nodes' owners')
        unfolding moving
        outcome =
            subst (λ (ns : Nodes). Outcome kind was image v (Command.Rename from to) (parts_with space ns owners')) nodes_same
            (outcome_law.old moving from to (prepared.puts layout nodes owners r name p prep grows plain listings from to x) was image
            (record {
              opens = opens;
              has_moved = has_moved;
              out = out p.ready p.ready.late.items ready.pieces mv.order are_for layout was bytes image room changed.written changed.others;
              after = map_there;
            }))

    -- ---- at any moment

    pub places : (was : List ℕ) (view : Opened) → OpensAs was kind view → view.layout ≡ layout → view.listings ≡ listings → (image : List ℕ)
        → ChangesOnly (sector_bytes layout) (written_place p.ready ++ map_place layout) was image → WritesPlaces layout kind view (Command.Rename from to) was image
    places was view opens at listings_are image only =
        let before : IsBefore kind was view space = record { opens = opens; layout = at; is_map = is_map } in
        let may = each mv.order (λ a there. (said_listed nodes listings mv.order p.change.says.items mv.is.said a there).0) (may_rewrite layout nodes listings from to r name x p.change.says.items mv view) in
        record {
          sectors = sectors_of mv.order;
          only = subst (λ (ss : List ℕ). ChangesOnly (sector_bytes layout) (ss ++ map_place layout) was image) place_same only;
          may = (may, places_law.spared kind was view space (Command.Rename from to) (sectors_of mv.order) before may);
        }
      where
        each : (bs : List Amended) → ((a : Amended) → Contains bs a → Contains listings a.was)
            → ((a : Amended) → Contains bs a → may_be_rewritten view (Command.Rename from to) a.was.object.path ≡ true)
            → MayBeWritten view space (Command.Rename from to) (sectors_of bs)
        each [] listed may = places_law.none view space (Command.Rename from to)
        each (a ∷ bs) listed may =
            places_law.both view space (Command.Rename from to) a.was.object.sectors (sectors_of bs)
            (places_law.directory kind was view space (Command.Rename from to) a.was (record { opens = opens; layout = at; is_map = is_map })
            (subst (λ (ls : List Listing). Contains ls a.was) (sym listings_are) (listed a (contains_here a bs))) (may a (contains_here a bs)))
            (each bs (λ b there. listed b (contains_later a b bs there)) (λ b there. may b (contains_later a b bs there)))
