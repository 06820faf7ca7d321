-- `set` and `mark` on a new map: they can be written and taken over, and what they then promise.
use Rattle.std.proofs.Common.{◌≡◌, ◌≤◌, ◌*◌, ℕ, List, [], ◌∷◌, ◌++◌, length, refl, sym, subst, ◌∙◌, Option, None}
use Rattle.fc_names.specs.Names.{Path}
use Rattle.fc_alloc.specs.declared.owner.Owner.{Owner}
use Rattle.fc_record.specs.declared.Kind.{Kind}
use Rattle.fc_newmap.specs.Map.{Map, map_sectors}
use Rattle.fc_newmap.specs.NewMap.{IsNewMap}
use Rattle.fc_model.specs.Command.{Command}
use Rattle.fc_image.specs.Layout.{Layout, dir_form, disc_sectors}
use Rattle.fc_image.specs.Opening.{Opened}
use Rattle.fc_image.specs.Sound.{AreSound}
use Rattle.fc_image.specs.Stays.{OpensAs}
use Rattle.fc_image.specs.Walk.{Listing, Object}
use Rattle.fc_placing.specs.declared.placing.Placing.TheVariants as placings
use Rattle.fc_changes.proofs.StepsLemmas.{after}
use Rattle.fc_plan.specs.declared.plan.Plan.{Plan}
use Rattle.fc_space.specs.Space.{PlacesSuffice}
use Rattle.fc_tree.specs.declared.node.Node.{Node}
use Rattle.fc_tree.specs.Agree.{Agree}
use Rattle.fc_tree.specs.Nodes.{HoldObjects}
use Rattle.fc_tree.specs.Parts.{ArePartsOf, Parts}
use Rattle.fc_laws.specs.nodes.Edits.{Nodes}
use Rattle.fc_laws.specs.agree.Agreed.{AgreeOn, parts_with}
use Rattle.fc_laws.proofs.lemmas.agree.BeforeLemmas.{agreed_law}
use Rattle.fc_laws.proofs.lemmas.takeover.ApartLemmas.{places_law}
use Rattle.fc_laws.proofs.lemmas.takeover.KindLemmas.{new_kind}
use Rattle.fc_edits.specs.NewNodes as edited
use Rattle.fc_edits.specs.Rewording.{NewRewording, Rewording, edit}
use Rattle.fc_edits.proofs.lemmas.RewordingLemmas.{rewording_law}
use Rattle.fc_outcomes.specs.NewImage.{Outcome}
use Rattle.fc_outcomes.specs.Puts.{ArePutOut}
use Rattle.fc_outcomes.specs.Rewording as outcomes
use Rattle.fc_refusals.specs.Targets.{IsTarget}
use Rattle.fc_refusals.specs.declared.target.Target.{Target}
use Rattle.fc_writing.specs.Laws.{ChangesOnly}
use Rattle.fc_writing.specs.New.{CanWrite, IsChanged, IsGiven}
use Rattle.fc_writing.specs.Ready.{place_of, written_place}
use Rattle.fc_change.specs.After.{nodes_after}
use Rattle.fc_change.specs.Directories.{Rewriting, Tells}
use Rattle.fc_change.specs.GrownSpace.{freed}
use Rattle.fc_change.specs.Places.{AreLeft, ArePlaced, plan_in}
use Rattle.fc_change.specs.Shortage.{is_grown_alone}
use Rattle.fc_change.specs.Steps.{IsStep}
use Rattle.fc_placing.specs.Places.{shared_id}
use Rattle.fc_commands.specs.declared.stages.Prepared.{Prepared}
use Rattle.fc_commands.specs.Promises.{WritesPlaces}
use Rattle.fc_commands.specs.Stages.{IsPreparedFor}
use Rattle.fc_commands.proofs.EmptySpaceLemmas.{BringsNone, IsEmptySpace, IsOneReady, WantsNoSpace, empty_space, none_planned, one_ready, placed_nowhere, takes_none}
use Rattle.fc_commands.proofs.PieceLemmas as piece
use Rattle.fc_commands.proofs.DirectoryLemmas.{can_put_new, fits_new}
use Rattle.fc_commands.proofs.RewordingLemmas.{Fit, Gives, Wording, job_of, may_rewrite, worded}
use Rattle.fc_commands.proofs.RewordingLemmas as rewording
use Rattle.fc_commands.proofs.RewordingStageLemmas.{IsRewordingChange, rewording_change, tells_it, turns_it, wants_none}
use Rattle.fc_commands.proofs.SpaceLemmas.{can_give, can_take}
use Rattle.fc_commands.proofs.StepLemmas.{edited_same, no_step}
use Rattle.fc_commands.proofs.TargetLemmas as target_of

module _ (outcome_law : outcomes.RewordingLaw) (m : Map) (nodes : Nodes) (owners : List Owner) (is_map : IsNewMap m) (t : Target) (x : Wording) (name : List ℕ) (p : Prepared)
    (prep : IsPreparedFor (parts_with m nodes owners) (job_of t x) name p) where
  abbrev h : Parts
  h = parts_with m nodes owners

  abbrev placed : ArePlaced m h prep.wants prep.spaces
  placed = prep.spaced.places

  none : WantsNoSpace prep.wants
  none = (wants_none h t x name prep.wants prep.spaced.wants).0

  none_goes : prep.wants.goes ≡ None
  none_goes = (wants_none h t x name prep.wants prep.spaced.wants).1

  empty : IsEmptySpace prep.spaces
  empty = empty_space h prep.wants none prep.spaces prep.spaced.places

  pub change : IsRewordingChange nodes t x p.change
  change = rewording_change h t x name prep.spaces p.change empty.grown prep.change

  pub ready : IsOneReady (Layout.New m) nodes change.said prep.spaces p.ready
  ready = one_ready h p.change prep.spaces p.ready change.said empty change.says (subst BringsNone (sym change.turns) tt) prep.ready

  -- ---- the map: nothing is taken, and nothing goes back

  nowhere : placed.placing ≡ placings.Nowhere
  nowhere = placed_nowhere h prep.wants none m owners placed.placing placed.is

  no_directory : placed.dir ≡ None
  no_directory = (none_planned h prep.wants none m (plan_in placed.placing) placed.dir prep.spaces.grown placed.grown).0

  takes : IsStep m [] [] [] None p.ready.take
  takes = subst (IsStep m [] [] [] None) (sym ready.take) (takes_none m (is_grown_alone h prep.wants.grows) placed.placing placed.dir prep.spaces.grown prep.spaces.take nowhere no_directory empty.grown placed.take)

  left : placed.gone ≡ []
  left = subst (λ (o : Option ℕ). AreLeft owners o (shared_id placed.placing) placed.gone) none_goes placed.left

  gives : IsStep m [] [] [] None p.ready.give
  gives =
      subst (IsStep m [] [] [] None) (sym ready.give)
      (subst (λ (gs : List ℕ). IsStep m [] gs [] None prep.spaces.give) left
      (subst (λ (d : Option Plan). IsStep m [] (freed h prep.wants d ++ placed.gone) [] None prep.spaces.give) no_directory placed.give))

  pub map_stays : (m' : Map) → IsGiven m p.ready m' → m' ≡ m
  map_stays m' given = no_step m given.0 m' p.ready.give gives given.2 ∙ no_step m m given.0 p.ready.take takes given.1

  -- ---- by any walk

  module _ (path : Path) (listings : List Listing) (sound : AreSound (Layout.New m) listings) (held : HoldObjects nodes listings) (target : IsTarget nodes listings path t) where
    abbrev pub dir : Object
    dir = target.listing.object

    abbrev r : Rewriting
    r = Rewriting.Replaces t.at (worded x target.object.entry)

    pub tells : Tells None nodes t.holder r change.said
    tells = tells_it (Layout.New m) nodes listings sound held path t target x p.change change

    pub same_place : place_of ready.piece ≡ dir.sectors
    same_place = target_of.place_is (Layout.New m) nodes listings sound held path t target r change.said tells ready.piece ready.is_piece

  -- ---- it can be written

  pub can_write : (path : Path) (kind : Kind) (a : Agree kind h) → IsTarget nodes a.listings path t → (n : ℕ) → disc_sectors (Layout.New m) ≤ n → PlacesSuffice (Layout.New m) → CanWrite n m p.ready
  can_write path kind a target n room suffice =
      let sound = agreed_law.sound_by kind h a in
      let among = target_of.dir_among (Layout.New m) nodes a.listings sound a.walked.held path t target in
      record {
        put = can_put_new kind m nodes a.root a.listings target.listing.object n is_map (record { walked = a.walked; among = among; room = room; suffice = suffice }) p.ready ready.piece ready.one
            (same_place path a.listings sound a.walked.held target);
        take = can_take m None p.ready.take takes tt;
        give = λ mid done. can_give m mid None [] p.ready.take p.ready.give is_map takes gives tt done;
      }

  -- ---- after it

  module _ (owners' : List Owner) (number : ℕ) (same : owners' ≡ owners) (kind : Kind) (root : Node) (path : Path) (listings : List Listing) (agreed : AgreeOn kind m nodes owners root listings)
      (target : IsTarget nodes listings path t) (fit : Fit (dir_form (Layout.New m)) x) where
    abbrev before : AreSound (Layout.New m) listings
    before = agreed_law.sound kind m nodes owners root listings agreed

    abbrev its_tells : Tells None nodes t.holder (Rewriting.Replaces t.at (worded x target.object.entry)) change.said
    its_tells = tells path listings before agreed.walked.held target

    abbrev c : Rewording
    c = rewording.rewording (Layout.New m) nodes listings before agreed.walked.held path t target x fit agreed.walked.forms change.said its_tells ready.piece ready.is_piece

    abbrev pub nodes' : Nodes
    nodes' = nodes_after p.change number nodes

    pub rewords : NewRewording
    rewords = record {
      kind = kind;
      m = m;
      nodes = nodes;
      nodes' = edited.nodes_after (edit c) nodes;
      owners = owners;
      root = root;
      listings = listings;
      c = c;
      agreed = agreed;
      reworded = rewording.is_reworded (Layout.New m) nodes listings before agreed.walked.held path t target x fit agreed.walked.forms change.said its_tells ready.piece ready.is_piece;
      nodes_edited = rewording.nodes_edited (Layout.New m) nodes listings before agreed.walked.held path t target x fit agreed.walked.forms change.said its_tells ready.piece ready.is_piece;
    }

    nodes_same : edited.nodes_after (edit c) nodes ≡ nodes'
    nodes_same =
        sym (rewording.nodes_are (Layout.New m) nodes listings before agreed.walked.held path t target x fit agreed.walked.forms change.said its_tells ready.piece ready.is_piece p.change number change.none
        (turns_it (Layout.New m) nodes listings before agreed.walked.held path t target x p.change change) change.says)

    -- the parts agree
    pub agrees : Agree kind (parts_with m nodes' owners')
    unfolding rewords
    agrees =
        let now = rewording_law.new rewords in
        subst (λ (os : List Owner). Agree kind (parts_with m nodes' os)) (sym same)
        (subst (λ (ns : Nodes). Agree kind (parts_with m ns owners)) nodes_same (agreed_law.agree kind m (edited.nodes_after (edit c) nodes) owners now.root now.found now.agree))

    -- and the command has done what it promises
    module _ (command : Command) (gives_it : Gives x path command) (was bytes image : List ℕ) (opens : OpensAs was kind (record { kind = kind; layout = Layout.New m; listings = listings }))
        (changed : IsChanged m m p.ready bytes was image) where
      sectors_same : place_of ready.piece ≡ c.l.object.sectors
      sectors_same = same_place path listings before agreed.walked.held target

      reworded : outcomes.HasReworded command path (Layout.New m) listings c ready.piece.bytes.items
      reworded = rewording.has_reworded (Layout.New m) nodes listings before agreed.walked.held path t target x fit agreed.walked.forms change.said its_tells ready.piece ready.is_piece command gives_it

      long : length ready.piece.bytes.items ≤ length (place_of ready.piece) * m.geometry.sector
      long = fits_new m c.l.object ready.piece is_map (target_of.dir_placed (Layout.New m) nodes listings before agreed.walked.held path t target) sectors_same reworded.long

      pub outcome : Outcome kind was image (record { kind = kind; layout = Layout.New m; listings = listings }) command (parts_with m nodes' owners')
      unfolding rewords
      outcome =
          let k = new_kind was kind (record { kind = kind; layout = Layout.New m; listings = listings }) m opens refl in
          subst (λ (os : List Owner). Outcome kind was image (record { kind = kind; layout = Layout.New m; listings = listings }) command (parts_with m nodes' os)) (sym same)
          (subst (λ (ns : Nodes). Outcome kind was image (record { kind = kind; layout = Layout.New m; listings = listings }) command (parts_with m ns owners)) nodes_same
          (outcome_law.new rewords command path ready.piece.bytes.items was image
          (record {
            r = k.0;
            new_kind = k.1;
            opens = opens;
            reworded = reworded;
            out = subst (λ (ss : List ℕ). ArePutOut (Layout.New m) (record { sectors = ss; bytes = ready.piece.bytes.items } ∷ []) was image) sectors_same
                (piece.put_out p.ready ready.piece ready.one (Layout.New m) was bytes image long changed.written changed.others);
            after = after m m image (edited_same m is_map) changed.copies;
          })))

  -- ---- at any moment

  pub places : (kind : Kind) (was : List ℕ) (view : Opened) → OpensAs was kind view → ArePartsOf h view → (root : Node) (path : Path) → AgreeOn kind m nodes owners root view.listings → IsTarget nodes view.listings path t
      → (command : Command) → Gives x path command → (image : List ℕ) → ChangesOnly m.geometry.sector (written_place p.ready ++ map_sectors m.geometry) was image → WritesPlaces (Layout.New m) kind view command was image
  places kind was view opens parts root path agreed target command gives_it image only =
      let sound = agreed_law.sound kind m nodes owners root view.listings agreed in
      record {
        sectors = target.listing.object.sectors;
        only = subst (λ (ss : List ℕ). ChangesOnly m.geometry.sector (ss ++ map_sectors m.geometry) was image) (same_place path view.listings sound agreed.walked.held target)
            (piece.changes_only p.ready ready.piece ready.one m.geometry.sector (map_sectors m.geometry) was image only);
        may = places_law.directory kind was view m command target.listing (record { opens = opens; layout = sym parts.layout }) target.listed
            (may_rewrite x path command gives_it view target.listing.object.path target.above);
      }
