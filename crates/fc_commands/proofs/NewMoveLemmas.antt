-- `rename` on a new map, if nothing is copied and no directory grows: it can be written and taken over, and what it then promises.
use Rattle.std.proofs.Common.{◌≡◌, ◌≤◌, ◌*◌, ◌++◌, ℕ, true, false, List, [], ◌∷◌, length, refl, sym, subst, ◌∙◌, Option, None}
use Rattle.std.specs.Prelude.{Contains}
use Rattle.fc_names.specs.Names.{Path}
use Rattle.fc_alloc.specs.declared.owner.Owner.{Owner}
use Rattle.fc_record.specs.declared.Kind.{Kind}
use Rattle.fc_newmap.specs.Map.{Map, map_sectors}
use Rattle.fc_newmap.specs.NewMap.{IsNewMap}
use Rattle.fc_model.specs.Command.{Command}
use Rattle.fc_drafts.specs.Draft.{size_of}
use Rattle.fc_image.specs.Layout.{Layout, disc_sectors}
use Rattle.fc_image.specs.Opening.{Opened, boot_place}
use Rattle.fc_image.specs.Stays.{OpensAs}
use Rattle.fc_image.specs.Walk.{Listing, Object}
use Rattle.fc_image.specs.effects.Short.{is_copied}
use Rattle.fc_image.specs.effects.Steady.{may_be_rewritten}
use Rattle.fc_placing.specs.declared.placing.Placing.TheVariants as placings
use Rattle.fc_placing.specs.Places.{shared_id}
use Rattle.fc_changes.proofs.StepsLemmas.{after}
use Rattle.fc_plan.specs.declared.plan.Plan.{Plan}
use Rattle.fc_space.specs.Space.{PlacesSuffice}
use Rattle.fc_tree.specs.declared.node.Node.{Node}
use Rattle.fc_tree.specs.Agree.{Agree}
use Rattle.fc_tree.specs.Parts.{Parts}
use Rattle.fc_laws.specs.agree.Agreed.{AgreeOn, parts_with}
use Rattle.fc_laws.specs.nodes.Edits.{Nodes, OwnersEdited, owners_with}
use Rattle.fc_laws.specs.takeover.Places.{MayBeWritten}
use Rattle.fc_laws.proofs.lemmas.agree.BeforeLemmas.{agreed_law}
use Rattle.fc_laws.proofs.lemmas.takeover.ApartLemmas.{places_law}
use Rattle.fc_laws.proofs.lemmas.takeover.KindLemmas.{new_kind}
use Rattle.fc_laws.proofs.lemmas.takeover.SaidLemmas.{apart_front}
use Rattle.fc_laws.proofs.lemmas.takeover.WriteLemmas.{written_bytes_law}
use Rattle.fc_edits.specs.Edit.{Amended}
use Rattle.fc_edits.specs.Moving.{NewMoving, edit}
use Rattle.fc_edits.specs.NewNodes as edited
use Rattle.fc_edits.proofs.lemmas.MovingLemmas.{moving_law}
use Rattle.fc_tree.proofs.MemberLemmas.{contains_here}
use Rattle.fc_outcomes.specs.Moving as outcomes
use Rattle.fc_outcomes.specs.NewImage.{Outcome}
use Rattle.fc_refusals.specs.declared.target.Renaming.{Renaming}
use Rattle.fc_writing.specs.Laws.{ChangesOnly}
use Rattle.fc_writing.specs.New.{CanWrite, IsChanged, IsGiven}
use Rattle.fc_writing.specs.Ready.{written_place}
use Rattle.fc_change.specs.declared.job.Job.TheVariants as jobs
use Rattle.fc_change.specs.After.{nodes_after}
use Rattle.fc_change.specs.GrownSpace.{freed}
use Rattle.fc_change.specs.Needs.{is_copied as is_copied_job}
use Rattle.fc_change.specs.Places.{AreLeft, ArePlaced, plan_in}
use Rattle.fc_change.specs.Shortage.{is_grown_alone}
use Rattle.fc_change.specs.Steps.{IsStep}
use Rattle.fc_commands.specs.declared.stages.Prepared.{Prepared}
use Rattle.fc_commands.proofs.RoomyLemmas.{NoneGrows}
use Rattle.fc_commands.specs.Promises.{WritesPlaces}
use Rattle.fc_commands.specs.Stages.{IsPreparedFor}
use Rattle.fc_commands.proofs.EmptySpaceLemmas.{IsEmptySpace, WantsNoSpace, none_planned, placed_nowhere, takes_none}
use Rattle.fc_commands.proofs.MoveEditLemmas.{IsMoved}
use Rattle.fc_commands.proofs.MoveLemmas.{IsSeen, h as held_by, o}
use Rattle.fc_commands.proofs.MovePieceLemmas.{AreFor, apart, beside, can_put, lies, low, out, place_is, said_listed, sectors_of}
use Rattle.fc_commands.proofs.MoveReadyLemmas.{IsMoveReady, may_rewrite}
use Rattle.fc_commands.proofs.MoveReadyLemmas as prepared
use Rattle.fc_commands.proofs.SpaceLemmas.{can_give, can_take}
use Rattle.fc_commands.proofs.StepLemmas.{edited_same, no_step}
use Rattle.fc_image.proofs.EntriesLemmas.{later as contains_later}

module _ (outcome_law : outcomes.MovingLaw) (m : Map) (nodes : Nodes) (owners : List Owner) (is_map : IsNewMap m) (r : Renaming) (name : List ℕ) (p : Prepared)
    (prep : IsPreparedFor (parts_with m nodes owners) (jobs.Move r) name p) (grows : NoneGrows (parts_with m nodes owners) (jobs.Move r) name) (plain : is_copied_job (parts_with m nodes owners) r ≡ false) where
  abbrev h : Parts
  h = parts_with m nodes owners

  abbrev layout : Layout
  layout = Layout.New m

  abbrev placed : ArePlaced m h prep.wants prep.spaces
  placed = prep.spaced.places

  none : WantsNoSpace prep.wants × (prep.wants.goes ≡ None)
  none = prepared.none layout nodes owners r name p prep grows plain

  empty : IsEmptySpace prep.spaces
  empty = prepared.empty layout nodes owners r name p prep grows plain

  ready : IsMoveReady layout nodes p.change.says.items prep.spaces p.ready
  ready = prepared.ready layout nodes owners r name p prep grows plain

  -- ---- the map: nothing is taken, and nothing goes back

  nowhere : placed.placing ≡ placings.Nowhere
  nowhere = placed_nowhere h prep.wants none.0 m owners placed.placing placed.is

  no_directory : placed.dir ≡ None
  no_directory = (none_planned h prep.wants none.0 m (plan_in placed.placing) placed.dir prep.spaces.grown placed.grown).0

  takes : IsStep m [] [] [] None p.ready.take
  takes = subst (IsStep m [] [] [] None) (sym ready.take) (takes_none m (is_grown_alone h prep.wants.grows) placed.placing placed.dir prep.spaces.grown prep.spaces.take nowhere no_directory empty.grown placed.take)

  left : placed.gone ≡ []
  left = subst (λ (o : Option ℕ). AreLeft owners o (shared_id placed.placing) placed.gone) none.1 placed.left

  gives : IsStep m [] [] [] None p.ready.give
  gives =
      subst (IsStep m [] [] [] None) (sym ready.give)
      (subst (λ (gs : List ℕ). IsStep m [] gs [] None prep.spaces.give) left
      (subst (λ (d : Option Plan). IsStep m [] (freed h prep.wants d ++ placed.gone) [] None prep.spaces.give) no_directory placed.give))

  pub map_stays : (m' : Map) → IsGiven m p.ready m' → m' ≡ m
  map_stays m' given = no_step m given.0 m' p.ready.give gives given.2 ∙ no_step m m given.0 p.ready.take takes given.1

  -- ---- by any walk of parts that agree

  module _ (kind : Kind) (root : Node) (listings : List Listing) (agreed : AgreeOn kind m nodes owners root listings) (from to : Path) (x : IsSeen layout nodes listings from to r name) where
    abbrev it : Object
    it = o layout nodes listings from to r name x

    mv : IsMoved layout nodes listings from to r name it p.change.says.items
    mv = prepared.mv layout nodes owners r name p prep grows plain listings from to x

    are_for : AreFor mv.order p.ready.late.items
    unfolding mv
    are_for = prepared.are_for layout nodes owners r name p prep grows plain listings from to x

    place_same : written_place p.ready ≡ sectors_of mv.order
    place_same = place_is p.ready p.ready.late.items ready.pieces mv.order are_for

    -- it can be written
    pub can_write : (n : ℕ) → disc_sectors layout ≤ n → PlacesSuffice layout → CanWrite n m p.ready
    can_write n room suffice =
        let listed = said_listed nodes listings mv.order p.change.says.items mv.is.said in
        record {
          put = can_put p.ready p.ready.late.items ready.pieces mv.order are_for n (map_sectors m.geometry) (low kind layout nodes root listings agreed.walked mv.order listed n room suffice)
              (apart kind layout nodes root listings agreed.walked mv.order listed mv.is.once (λ l at. written_bytes_law.apart m l.object is_map (lies kind layout nodes root listings agreed.walked l at).placed))
              (beside kind layout nodes root listings agreed.walked mv.order listed (map_sectors m.geometry)
              (λ l at. apart_front l.object.sectors (map_sectors m.geometry) (boot_place kind m.geometry.sector) (lies kind layout nodes root listings agreed.walked l at).apart));
          take = can_take m None p.ready.take takes tt;
          give = λ mid done. can_give m mid None [] p.ready.take p.ready.give is_map takes gives tt done;
        }

    -- ---- after it

    module _ (owners' : List Owner) (number : ℕ) (goes : OwnersEdited owners owners' (owners_with layout r.target.holder r.target.node it) (owners_with layout r.holder r.target.node it)) where
      abbrev pub nodes' : Nodes
      nodes' = nodes_after p.change number nodes

      pub moving : NewMoving
      moving = record {
        kind = kind;
        m = m;
        nodes = nodes;
        nodes' = edited.nodes_after (edit mv.c) nodes;
        owners = owners;
        owners' = owners';
        root = root;
        listings = listings;
        c = mv.c;
        agreed = agreed;
        is_moving = mv.is.moving;
        nodes_edited = moving_law.nodes nodes layout listings mv.c (held_by layout nodes listings from to r name x) mv.is.moving;
        owners_edited = mv.is.owners owners owners' goes;
      }

      nodes_same : edited.nodes_after (edit mv.c) nodes ≡ nodes'
      unfolding mv
      nodes_same = sym (prepared.nodes_now layout nodes owners r name p prep grows plain listings from to x number)

      -- the parts agree
      pub agrees : Agree kind (parts_with m nodes' owners')
      unfolding moving
      agrees =
          let now = moving_law.new moving in
          subst (λ (ns : Nodes). Agree kind (parts_with m ns owners')) nodes_same (agreed_law.agree kind m (edited.nodes_after (edit mv.c) nodes) owners' now.root now.found now.agree)

      -- and the command has done what it promises
      module _ (was bytes image : List ℕ) (opens : OpensAs was kind (record { kind = kind; layout = layout; listings = listings }))
          (not_copied : is_copied (record { kind = kind; layout = layout; listings = listings }) from to it ≡ false) (changed : IsChanged m m p.ready bytes was image) where
        abbrev v : Opened
        v = record { kind = kind; layout = layout; listings = listings }

        room : (a : Amended) → Contains mv.order a → size_of a.content ≤ length a.was.object.sectors * m.geometry.sector
        room a at =
            subst (λ (n : ℕ). n ≤ length a.was.object.sectors * m.geometry.sector) (sym (mv.is.sizes a (mv.is.of_order a at)))
            (written_bytes_law.room m a.was.object is_map
            (lies kind layout nodes root listings agreed.walked a.was (said_listed nodes listings mv.order p.change.says.items mv.is.said a at).0).placed)

        has_moved : outcomes.HasMoved v from to mv.c (prepared.puts layout nodes owners r name p prep grows plain listings from to x)
        unfolding mv
        has_moved = prepared.has_moved layout nodes owners r name p prep grows plain listings from to x kind not_copied

        pub outcome : Outcome kind was image v (Command.Rename from to) (parts_with m nodes' owners')
        unfolding moving
        outcome =
            let k = new_kind was kind v m opens refl in
            subst (λ (ns : Nodes). Outcome kind was image v (Command.Rename from to) (parts_with m ns owners')) nodes_same
            (outcome_law.new moving from to (prepared.puts layout nodes owners r name p prep grows plain listings from to x) was image
            (record {
              r = k.0;
              new_kind = k.1;
              opens = opens;
              has_moved = has_moved;
              out = out p.ready p.ready.late.items ready.pieces mv.order are_for layout was bytes image room changed.written changed.others;
              after = after m m image (edited_same m is_map) changed.copies;
            }))

    -- ---- at any moment

    pub places : (was : List ℕ) (view : Opened) → OpensAs was kind view → view.layout ≡ layout → view.listings ≡ listings → (image : List ℕ)
        → ChangesOnly m.geometry.sector (written_place p.ready ++ map_sectors m.geometry) was image → WritesPlaces layout kind view (Command.Rename from to) was image
    places was view opens at listings_are image only = record {
      sectors = sectors_of mv.order;
      only = subst (λ (ss : List ℕ). ChangesOnly m.geometry.sector (ss ++ map_sectors m.geometry) was image) place_same only;
      may = each mv.order (λ a there. (said_listed nodes listings mv.order p.change.says.items mv.is.said a there).0) (may_rewrite layout nodes listings from to r name x p.change.says.items mv view);
    }
      where
        each : (bs : List Amended) → ((a : Amended) → Contains bs a → Contains listings a.was)
            → ((a : Amended) → Contains bs a → may_be_rewritten view (Command.Rename from to) a.was.object.path ≡ true)
            → MayBeWritten kind view m (Command.Rename from to) (sectors_of bs)
        each [] listed may = places_law.none kind view m (Command.Rename from to)
        each (a ∷ bs) listed may =
            places_law.both kind view m (Command.Rename from to) a.was.object.sectors (sectors_of bs)
            (places_law.directory kind was view m (Command.Rename from to) a.was (record { opens = opens; layout = at })
            (subst (λ (ls : List Listing). Contains ls a.was) (sym listings_are) (listed a (contains_here a bs))) (may a (contains_here a bs)))
            (each bs (λ b there. listed b (contains_later a b bs there)) (λ b there. may b (contains_later a b bs there)))
