-- `delete` on a new map: it can be written and taken over, and what it then promises.
use Rattle.std.proofs.Common.{◌≡◌, ◌≤◌, ◌*◌, ◌||◌, ℕ, Bool, false, List, [], ◌∷◌, ◌++◌, length, refl, sym, ap, subst, ◌∙◌, arith, Option, None}
use Rattle.fc_names.specs.Names.{Path}
use Rattle.fc_alloc.specs.declared.owner.Owner.{Owner}
use Rattle.fc_record.specs.declared.Kind.{Kind}
use Rattle.fc_newmap.specs.Map.{Map, map_sectors}
use Rattle.fc_newmap.specs.NewMap.{IsNewMap}
use Rattle.fc_model.specs.Command.{Command}
use Rattle.fc_image.specs.Layout.{Layout, disc_sectors}
use Rattle.fc_image.specs.Objects.{objects_of}
use Rattle.fc_image.specs.Opening.{Opened}
use Rattle.fc_image.specs.Sound.{AreSound}
use Rattle.fc_image.specs.Stays.{OpensAs}
use Rattle.fc_image.specs.Walk.{Listing, Object}
use Rattle.fc_image.specs.effects.Steady.{has_grown, has_new_holder, is_given_back}
use Rattle.fc_placing.specs.declared.placing.Placing.{Placing}
use Rattle.fc_placing.specs.declared.placing.Placing.TheVariants as placings
use Rattle.fc_placing.specs.Leaving.{LeavesIds}
use Rattle.fc_plan.specs.declared.plan.Plan.{Plan}
use Rattle.fc_changes.proofs.StepsLemmas.{after}
use Rattle.fc_changes.proofs.BasicLemmas.{or_false}
use Rattle.fc_space.specs.Space.{PlacesSuffice}
use Rattle.fc_tree.specs.declared.node.Node.{Node}
use Rattle.fc_tree.specs.Agree.{Agree}
use Rattle.fc_tree.specs.Parts.{ArePartsOf, Parts}
use Rattle.fc_laws.specs.nodes.Edits.{Nodes}
use Rattle.fc_laws.specs.agree.Agreed.{AgreeOn, parts_with}
use Rattle.fc_laws.proofs.lemmas.agree.BeforeLemmas.{agreed_law, new_facts}
use Rattle.fc_laws.proofs.lemmas.agree.CutLemmas.{cut_law}
use Rattle.fc_laws.proofs.lemmas.takeover.ApartLemmas.{places_law}
use Rattle.fc_laws.proofs.lemmas.takeover.KindLemmas.{new_kind}
use Rattle.fc_edits.specs.Deletion.{Deletion, NewDeletion, edit, nodes_without}
use Rattle.fc_edits.specs.NewPlaces.{GivesBack}
use Rattle.fc_edits.proofs.lemmas.AddedPlaceLemmas.{space_change}
use Rattle.fc_edits.proofs.lemmas.DeletionLemmas.{deletion_law}
use Rattle.fc_outcomes.specs.NewImage.{Outcome}
use Rattle.fc_outcomes.specs.Puts.{ArePutOut, Put}
use Rattle.fc_outcomes.specs.Deletion as outcomes
use Rattle.fc_refusals.specs.Targets.{IsRemovable}
use Rattle.fc_refusals.specs.declared.target.Target.{Target}
use Rattle.fc_writing.specs.Laws.{ChangesOnly}
use Rattle.fc_writing.specs.New.{CanWrite, IsChanged, IsGiven}
use Rattle.fc_writing.specs.Ready.{place_of, written_place}
use Rattle.fc_change.specs.declared.job.Job.TheVariants as jobs
use Rattle.fc_change.specs.After.{AreOwnersAfter, nodes_after}
use Rattle.fc_change.specs.Directories.{Rewriting}
use Rattle.fc_change.specs.GrownSpace.{freed}
use Rattle.fc_change.specs.Places.{AreLeft, ArePlaced, plan_in}
use Rattle.fc_change.specs.Shortage.{is_grown_alone}
use Rattle.fc_change.specs.Steps.{IsStep}
use Rattle.fc_placing.specs.Places.{shared_id}
use Rattle.fc_commands.specs.declared.stages.Prepared.{Prepared}
use Rattle.fc_commands.specs.Promises.{WritesPlaces}
use Rattle.fc_commands.specs.Stages.{IsPreparedFor}
use Rattle.fc_commands.proofs.DirectoryLemmas.{can_put_new, fits_new}
use Rattle.fc_commands.proofs.EmptySpaceLemmas.{BringsNone, IsEmptySpace, IsOneReady, WantsNoSpace, empty_space, none_planned, one_ready, placed_nowhere, takes_none}
use Rattle.fc_commands.proofs.PieceLemmas as piece
use Rattle.fc_commands.proofs.RemovalLemmas as removal
use Rattle.fc_commands.proofs.TargetLemmas as target_of
use Rattle.fc_commands.proofs.RemovalStageLemmas.{IsRemovalChange, MayGo, removal_change, removal_wants, view_of}
use Rattle.fc_commands.proofs.SpaceLemmas.{can_give, can_take}
use Rattle.fc_commands.proofs.StepLemmas.{IsTwoStepped, both_steps}

module _ (outcome_law : outcomes.DeletionLaw) (m : Map) (nodes : Nodes) (owners : List Owner) (is_map : IsNewMap m) (t : Target) (path : Path) (name : List ℕ) (p : Prepared)
    (prep : IsPreparedFor (parts_with m nodes owners) (jobs.Removal t) name p) where
  abbrev h : Parts
  h = parts_with m nodes owners

  abbrev placed : ArePlaced m h prep.wants prep.spaces
  placed = prep.spaced.places

  none : WantsNoSpace prep.wants
  none = removal_wants h t name prep.wants prep.spaced.wants

  empty : IsEmptySpace prep.spaces
  empty = empty_space h prep.wants none prep.spaces prep.spaced.places

  pub change : IsRemovalChange nodes t p.change
  change = removal_change h t name prep.spaces p.change empty.grown prep.change

  pub ready : IsOneReady (Layout.New m) nodes change.said prep.spaces p.ready
  ready = one_ready h p.change prep.spaces p.ready change.said empty change.says (subst BringsNone (sym change.goes) tt) prep.ready

  -- ---- the map

  nowhere : placed.placing ≡ placings.Nowhere
  nowhere = placed_nowhere h prep.wants none m owners placed.placing placed.is

  no_directory : placed.dir ≡ None
  no_directory = (none_planned h prep.wants none m (plan_in placed.placing) placed.dir prep.spaces.grown placed.grown).0

  takes : IsStep m [] [] [] None p.ready.take
  takes = subst (IsStep m [] [] [] None) (sym ready.take) (takes_none m (is_grown_alone h prep.wants.grows) placed.placing placed.dir prep.spaces.grown prep.spaces.take nowhere no_directory empty.grown placed.take)

  gives : IsStep m [] placed.gone [] None p.ready.give
  gives =
      subst (IsStep m [] placed.gone [] None) (sym ready.give)
      (subst (λ (d : Option Plan). IsStep m [] (freed h prep.wants d ++ placed.gone) [] None prep.spaces.give) no_directory placed.give)

  left : LeavesIds owners t.node None placed.gone
  left = (subst (λ (o : Option ℕ). AreLeft owners o None placed.gone) prep.spaced.wants.left (subst (λ (x : Placing). AreLeft owners prep.wants.goes (shared_id x) placed.gone) nowhere placed.left)).0

  -- ---- it can be written

  module _ (kind : Kind) (a : Agree kind h) (may : MayGo h path t) (n : ℕ) (room : disc_sectors (Layout.New m) ≤ n) (suffice : PlacesSuffice (Layout.New m)) where
    abbrev sound : AreSound (Layout.New m) a.listings
    sound = agreed_law.sound_by kind h a

    abbrev its : IsRemovable nodes a.listings path t
    its = may (view_of h kind a) sound (agreed_law.viewed kind h a)

    pub can_write : CanWrite n m p.ready
    can_write = record {
      put = can_put_new kind m nodes a.root a.listings its.target.listing.object n is_map
          (record { walked = a.walked; among = target_of.dir_among (Layout.New m) nodes a.listings sound a.walked.held path t its.target; room = room; suffice = suffice }) p.ready ready.piece ready.one
          (target_of.place_is (Layout.New m) nodes a.listings sound a.walked.held path t its.target (Rewriting.Leaves t.at) change.said change.tells ready.piece ready.is_piece);
      take = can_take m None p.ready.take takes tt;
      give = λ mid done. can_give m mid None placed.gone p.ready.take p.ready.give is_map takes gives tt done;
    }

  -- ---- after it

  module _ (m' : Map) (owners' : List Owner) (number : ℕ) (given : IsGiven m p.ready m') (after_owners : AreOwnersAfter (Layout.New m') nodes p.change owners owners') where
    pub two : IsTwoStepped m m' None placed.gone
    two = both_steps m given.0 m' None placed.gone p.ready.take p.ready.give is_map takes gives given.1 given.2 tt

    abbrev pub nodes' : Nodes
    nodes' = nodes_after p.change number nodes

    module _ (kind : Kind) (root : Node) (listings : List Listing) (agreed : AgreeOn kind m nodes owners root listings) (may : IsRemovable nodes listings path t) where
      abbrev before : AreSound (Layout.New m) listings
      before = agreed_law.sound kind m nodes owners root listings agreed

      abbrev d : Deletion
      d = removal.deletion (Layout.New m) nodes listings before agreed.walked.held path t may agreed.walked.forms change.said change.tells ready.piece ready.is_piece

      given_back : GivesBack m [] placed.gone listings (edit d)
      given_back =
          let others = cut_law.others (Layout.New m) listings may.target.listing t.at may.target.object before may.target.listed may.target.at in
          let back = left m nodes listings may.target.object others.0 [] before agreed.walked.held agreed.owned may.target.node_is others.1 (λ id used. refl) in
          record { stay = others.0; others = others.1; exactly = λ k used. back.exactly k used ∙ sym (or_false (is_given_back (objects_of listings) others.0 k)) }

      pub deletes : NewDeletion
      deletes = record {
        kind = kind;
        m = m;
        m' = m';
        nodes = nodes;
        nodes' = nodes_without d nodes;
        owners = owners;
        owners' = owners';
        root = root;
        listings = listings;
        c = d;
        gone = placed.gone;
        agreed = agreed;
        deletion = removal.is_deletion (Layout.New m) nodes listings before agreed.walked.held path t may agreed.walked.forms change.said change.tells ready.piece ready.is_piece;
        nodes_edited = deletion_law.nodes nodes (Layout.New m) listings d (record { sound = before; held = agreed.walked.held })
            (removal.is_deletion (Layout.New m) nodes listings before agreed.walked.held path t may agreed.walked.forms change.said change.tells ready.piece ready.is_piece);
        owners_edited = removal.owners_are (Layout.New m) nodes listings before agreed.walked.held path t may owners owners' agreed.owned
            (removal.owners_after (Layout.New m') nodes p.change t.node owners owners' change.none change.goes after_owners);
        is_map = two.edited.is_map;
        geometry = two.edited.geometry;
        space = space_change m m' 0 [] placed.gone (new_facts m is_map).zones two.space (λ some. absurd (omega (arith, some)));
        gives = given_back;
      }

      nodes_same : nodes_without d nodes ≡ nodes'
      nodes_same =
          sym (removal.nodes_are (Layout.New m) nodes listings before agreed.walked.held path t may agreed.walked.forms change.said change.tells ready.piece ready.is_piece p.change number change.none change.goes change.says)

      -- the parts agree
      pub agrees : Agree kind (parts_with m' nodes' owners')
      unfolding deletes
      agrees =
          let now = deletion_law.new deletes in
          subst (λ (ns : Nodes). Agree kind (parts_with m' ns owners')) nodes_same (agreed_law.agree kind m' (nodes_without d nodes) owners' now.root now.found now.agree)

      -- and the command has done what it promises
      module _ (was bytes image : List ℕ) (opens : OpensAs was kind (record { kind = kind; layout = Layout.New m; listings = listings })) (changed : IsChanged m m' p.ready bytes was image) where
        abbrev l : Object
        l = may.target.listing.object

        sectors_same : place_of ready.piece ≡ l.sectors
        sectors_same = target_of.place_is (Layout.New m) nodes listings before agreed.walked.held path t may.target (Rewriting.Leaves t.at) change.said change.tells ready.piece ready.is_piece

        leaves : outcomes.LeavesOut path (Layout.New m) listings d ready.piece.bytes.items
        leaves = removal.leaves (Layout.New m) nodes listings before agreed.walked.held path t may agreed.walked.forms change.said change.tells ready.piece ready.is_piece

        long : length ready.piece.bytes.items ≤ length (place_of ready.piece) * m.geometry.sector
        long = fits_new m l ready.piece is_map (target_of.dir_placed (Layout.New m) nodes listings before agreed.walked.held path t may.target) sectors_same leaves.long

        pub outcome : Outcome kind was image (record { kind = kind; layout = Layout.New m; listings = listings }) (Command.Delete path) (parts_with m' nodes' owners')
        unfolding deletes
        outcome =
            let r = new_kind was kind (record { kind = kind; layout = Layout.New m; listings = listings }) m opens refl in
            let put : Put = record { sectors = l.sectors; bytes = ready.piece.bytes.items } in
            subst (λ (ns : Nodes). Outcome kind was image (record { kind = kind; layout = Layout.New m; listings = listings }) (Command.Delete path) (parts_with m' ns owners')) nodes_same
            (outcome_law.new deletes path ready.piece.bytes.items was image
            (record {
              r = r.0;
              new_kind = r.1;
              opens = opens;
              leaves = leaves;
              out = subst (λ (ss : List ℕ). ArePutOut (Layout.New m) (record { sectors = ss; bytes = ready.piece.bytes.items } ∷ []) was image) sectors_same
                  (piece.put_out p.ready ready.piece ready.one (Layout.New m) was bytes image long changed.written changed.others);
              after = after m m' image two.edited changed.copies;
            }))

  -- ---- at any moment

  module _ (kind : Kind) (was : List ℕ) (view : Opened) (opens : OpensAs was kind view) (parts : ArePartsOf h view) (root : Node) (agreed : AgreeOn kind m nodes owners root view.listings)
      (may : IsRemovable nodes view.listings path t) (image : List ℕ) (only : ChangesOnly m.geometry.sector (written_place p.ready ++ map_sectors m.geometry) was image) where
    abbrev then : AreSound (Layout.New m) view.listings
    then = agreed_law.sound kind m nodes owners root view.listings agreed

    pub places : WritesPlaces (Layout.New m) kind view (Command.Delete path) was image
    places = record {
      sectors = may.target.listing.object.sectors;
      only = subst (λ (ss : List ℕ). ChangesOnly m.geometry.sector (ss ++ map_sectors m.geometry) was image)
          (target_of.place_is (Layout.New m) nodes view.listings then agreed.walked.held path t may.target (Rewriting.Leaves t.at) change.said change.tells ready.piece ready.is_piece)
          (piece.changes_only p.ready ready.piece ready.one m.geometry.sector (map_sectors m.geometry) was image only);
      may = places_law.directory kind was view m (Command.Delete path) may.target.listing (record { opens = opens; layout = sym parts.layout }) may.target.listed
          (ap (λ (b : Bool). b || false || has_grown view (Command.Delete path) may.target.listing.object.path || has_new_holder view (Command.Delete path) may.target.listing.object.path) may.target.above);
    }
