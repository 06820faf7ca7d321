-- `set` and `mark` on an old map: they can be written and taken over, and what they then promise.
use Rattle.std.proofs.Common.{◌≡◌, ◌≤◌, ◌*◌, ℕ, List, [], ◌∷◌, ◌++◌, length, refl, sym, ap, subst, ◌∙◌, Option, None}
use Rattle.fc_names.specs.Names.{Path}
use Rattle.fc_alloc.specs.declared.owner.Owner.{Owner}
use Rattle.fc_record.specs.declared.Kind.{Kind}
use Rattle.fc_oldmap.specs.OldMap.{OldMapContent, IsOldMap, map_units}
use Rattle.fc_model.specs.Command.{Command}
use Rattle.fc_image.specs.Layout.{Layout, dir_form, disc_sectors, map_place, sector_bytes}
use Rattle.fc_image.specs.Opening.{Opened}
use Rattle.fc_image.specs.Sound.{AreSound}
use Rattle.fc_image.specs.Stays.{OpensAs}
use Rattle.fc_image.specs.Walk.{Listing}
use Rattle.fc_changes.specs.old.Owed.{IsBefore, IsMapAfter}
use Rattle.fc_space.specs.Space.{PlacesSuffice}
use Rattle.fc_tree.specs.declared.node.Node.{Node}
use Rattle.fc_tree.specs.Agree.{Agree}
use Rattle.fc_tree.specs.Nodes.{HoldObjects}
use Rattle.fc_tree.specs.Parts.{ArePartsOf, Parts}
use Rattle.fc_laws.specs.nodes.Edits.{Nodes}
use Rattle.fc_laws.proofs.lemmas.agree.BeforeLemmas.{agreed_law}
use Rattle.fc_laws.specs.old.agree.Laws.{AgreeOn, parts_with}
use Rattle.fc_laws.proofs.lemmas.old.agree.BeforeLemmas.{sound as old_sound}
use Rattle.fc_laws.proofs.lemmas.old.takeover.ApartLemmas.{places_law}
use Rattle.fc_edits.specs.NewNodes as edited
use Rattle.fc_edits.specs.Rewording.{OldRewording, Rewording, edit}
use Rattle.fc_edits.proofs.lemmas.RewordingLemmas.{rewording_law}
use Rattle.fc_outcomes.specs.NewImage.{Outcome}
use Rattle.fc_outcomes.specs.Puts.{ArePutOut}
use Rattle.fc_outcomes.specs.Rewording as outcomes
use Rattle.fc_refusals.specs.Targets.{IsTarget}
use Rattle.fc_refusals.specs.declared.target.Target.{Target}
use Rattle.fc_writing.specs.Laws.{ChangesOnly}
use Rattle.fc_writing.specs.Old.{CanWrite, IsChanged}
use Rattle.fc_writing.specs.Ready.{place_of, written_place}
use Rattle.fc_change.specs.After.{nodes_after}
use Rattle.fc_change.specs.Directories.{Rewriting, Tells}
use Rattle.fc_change.specs.OldSpace.{map_given, map_taken}
use Rattle.fc_change.specs.Places.{ArePlacedOld, IsOldStep}
use Rattle.fc_commands.specs.declared.stages.Prepared.{Prepared}
use Rattle.fc_commands.specs.Promises.{WritesPlaces}
use Rattle.fc_commands.specs.Stages.{IsPreparedFor}
use Rattle.fc_commands.specs.Written.{map_after}
use Rattle.fc_commands.proofs.DirectoryLemmas.{can_put_old, fits_old}
use Rattle.fc_commands.proofs.EmptySpaceLemmas.{BringsNone, IsEmptySpace, IsOneReady, WantsNoSpace, empty_space, one_ready}
use Rattle.fc_commands.proofs.OldMapLemmas.{after_both, both_steps, none_taken, of_disc}
use Rattle.fc_commands.proofs.PieceLemmas as piece
use Rattle.fc_commands.proofs.RewordingLemmas.{Fit, Gives, Wording, job_of, may_rewrite, worded}
use Rattle.fc_commands.proofs.RewordingLemmas as rewording
use Rattle.fc_commands.proofs.RewordingStageLemmas.{IsRewordingChange, rewording_change, tells_it, turns_it, wants_none}
use Rattle.fc_commands.proofs.TargetLemmas as target_of

module _ (outcome_law : outcomes.RewordingLaw) (space : OldMapContent) (nodes : Nodes) (owners : List Owner) (is_map : IsOldMap space) (t : Target) (x : Wording) (name : List ℕ) (p : Prepared)
    (prep : IsPreparedFor (parts_with space nodes owners) (job_of t x) name p) where
  abbrev h : Parts
  h = parts_with space nodes owners

  abbrev spaced : ArePlacedOld space h prep.wants prep.spaces
  spaced = prep.spaced.places

  none : WantsNoSpace prep.wants
  none = (wants_none h t x name prep.wants prep.spaced.wants).0

  none_goes : prep.wants.goes ≡ None
  none_goes = (wants_none h t x name prep.wants prep.spaced.wants).1

  empty : IsEmptySpace prep.spaces
  empty = empty_space h prep.wants none prep.spaces prep.spaced.places

  pub change : IsRewordingChange nodes t x p.change
  change = rewording_change h t x name prep.spaces p.change empty.grown prep.change

  pub ready : IsOneReady (Layout.Old space) nodes change.said prep.spaces p.ready
  ready = one_ready h p.change prep.spaces p.ready change.said empty change.says (subst BringsNone (sym change.turns) tt) prep.ready

  -- ---- the map: nothing is taken, and nothing goes back

  taken_is : map_taken space prep.wants.bytes ≡ space
  taken_is = ap (map_taken space) none.bytes ∙ none_taken space is_map

  takes : IsOldStep space space p.ready.take
  takes = subst (IsOldStep space space) (sym ready.take) (subst (λ (m : OldMapContent). IsOldStep space m prep.spaces.take) taken_is spaced.take)

  gives : IsOldStep space space p.ready.give
  gives =
      subst (IsOldStep space space) (sym ready.give)
      (subst (λ (n : Option ℕ). IsOldStep space (map_given space nodes n space) prep.spaces.give) none_goes
      (subst (λ (m : OldMapContent). IsOldStep m (map_given space nodes prep.wants.goes m) prep.spaces.give) taken_is spaced.give))

  pub map_stays : map_after space p.ready ≡ space
  map_stays = after_both space space space p.ready takes gives

  -- ---- by any walk

  module _ (path : Path) (listings : List Listing) (sound : AreSound (Layout.Old space) listings) (held : HoldObjects nodes listings) (target : IsTarget nodes listings path t) where
    abbrev r : Rewriting
    r = Rewriting.Replaces t.at (worded x target.object.entry)

    pub tells : Tells None nodes t.holder r change.said
    tells = tells_it (Layout.Old space) nodes listings sound held path t target x p.change change

    pub same_place : place_of ready.piece ≡ target.listing.object.sectors
    same_place = target_of.place_is (Layout.Old space) nodes listings sound held path t target r change.said tells ready.piece ready.is_piece

  -- ---- it can be written

  pub can_write : (path : Path) (kind : Kind) (a : Agree kind h) → IsTarget nodes a.listings path t → (n : ℕ) → disc_sectors (Layout.Old space) ≤ n → PlacesSuffice (Layout.Old space) → CanWrite n space p.ready
  can_write path kind a target n room suffice =
      let sound = agreed_law.sound_by kind h a in
      let among = target_of.dir_among (Layout.Old space) nodes a.listings sound a.walked.held path t target in
      record {
        put = can_put_old kind space nodes a.root a.listings target.listing.object n is_map (record { walked = a.walked; among = among; room = room; suffice = suffice }) p.ready ready.piece ready.one
            (same_place path a.listings sound a.walked.held target);
        take = of_disc space space space p.ready.take takes refl;
        give = of_disc space space space p.ready.give gives refl;
      }

  -- ---- after it

  module _ (owners' : List Owner) (number : ℕ) (same : owners' ≡ owners) (kind : Kind) (root : Node) (path : Path) (listings : List Listing) (agreed : AgreeOn kind space nodes owners root listings)
      (target : IsTarget nodes listings path t) (fit : Fit (dir_form (Layout.Old space)) x) where
    abbrev before : AreSound (Layout.Old space) listings
    before = old_sound kind space nodes owners root listings agreed

    abbrev its_tells : Tells None nodes t.holder (Rewriting.Replaces t.at (worded x target.object.entry)) change.said
    its_tells = tells path listings before agreed.walked.held target

    abbrev c : Rewording
    c = rewording.rewording (Layout.Old space) nodes listings before agreed.walked.held path t target x fit agreed.walked.forms change.said its_tells ready.piece ready.is_piece

    abbrev pub nodes' : Nodes
    nodes' = nodes_after p.change number nodes

    pub rewords : OldRewording
    rewords = record {
      kind = kind;
      space = space;
      nodes = nodes;
      nodes' = edited.nodes_after (edit c) nodes;
      owners = owners;
      root = root;
      listings = listings;
      c = c;
      agreed = agreed;
      reworded = rewording.is_reworded (Layout.Old space) nodes listings before agreed.walked.held path t target x fit agreed.walked.forms change.said its_tells ready.piece ready.is_piece;
      nodes_edited = rewording.nodes_edited (Layout.Old space) nodes listings before agreed.walked.held path t target x fit agreed.walked.forms change.said its_tells ready.piece ready.is_piece;
    }

    nodes_same : edited.nodes_after (edit c) nodes ≡ nodes'
    nodes_same =
        sym (rewording.nodes_are (Layout.Old space) nodes listings before agreed.walked.held path t target x fit agreed.walked.forms change.said its_tells ready.piece ready.is_piece p.change number change.none
        (turns_it (Layout.Old space) nodes listings before agreed.walked.held path t target x p.change change) change.says)

    -- the parts agree
    pub agrees : Agree kind (parts_with space nodes' owners')
    unfolding rewords
    agrees =
        let after = rewording_law.old rewords in
        let all : Agree kind (parts_with space (edited.nodes_after (edit c) nodes) owners) = record {
          root = after.root;
          root_is = after.agree.root_is;
          listings = after.found;
          walked = after.agree.walked;
          map_placed = refl;
          owned = after.agree.owned;
        } in
        subst (λ (os : List Owner). Agree kind (parts_with space nodes' os)) (sym same) (subst (λ (ns : Nodes). Agree kind (parts_with space ns owners)) nodes_same all)

    -- and the command has done what it promises
    module _ (command : Command) (gives_it : Gives x path command) (was bytes image : List ℕ) (opens : OpensAs was kind (record { kind = kind; layout = Layout.Old space; listings = listings }))
        (long : 256 * map_units space.sector_units ≤ length was) (changed : IsChanged space p.ready bytes was image) where
      sectors_same : place_of ready.piece ≡ c.l.object.sectors
      sectors_same = same_place path listings before agreed.walked.held target

      reworded : outcomes.HasReworded command path (Layout.Old space) listings c ready.piece.bytes.items
      reworded = rewording.has_reworded (Layout.Old space) nodes listings before agreed.walked.held path t target x fit agreed.walked.forms change.said its_tells ready.piece ready.is_piece command gives_it

      enough : length ready.piece.bytes.items ≤ length (place_of ready.piece) * sector_bytes (Layout.Old space)
      enough = fits_old space c.l.object ready.piece is_map (target_of.dir_placed (Layout.Old space) nodes listings before agreed.walked.held path t target) sectors_same reworded.long

      map_there : IsMapAfter space space.holes was image
      map_there = both_steps space is_map space space p.ready was image refl long takes gives changed.map

      abbrev view : Opened
      view = record { kind = kind; layout = Layout.Old space; listings = listings }

      pub outcome : Outcome kind was image view command (parts_with space nodes' owners')
      unfolding rewords
      outcome =
          subst (λ (os : List Owner). Outcome kind was image view command (parts_with space nodes' os)) (sym same)
          (subst (λ (ns : Nodes). Outcome kind was image view command (parts_with space ns owners)) nodes_same
          (outcome_law.old rewords command path ready.piece.bytes.items was image
          (record {
            opens = opens;
            reworded = reworded;
            out = subst (λ (ss : List ℕ). ArePutOut (Layout.Old space) (record { sectors = ss; bytes = ready.piece.bytes.items } ∷ []) was image) sectors_same
                (piece.put_out p.ready ready.piece ready.one (Layout.Old space) was bytes image enough changed.written changed.others);
            after = map_there;
          })))

  -- ---- at any moment

  pub places : (kind : Kind) (was : List ℕ) (view : Opened) → OpensAs was kind view → ArePartsOf h view → (root : Node) (path : Path) → AgreeOn kind space nodes owners root view.listings → IsTarget nodes view.listings path t
      → (command : Command) → Gives x path command → (image : List ℕ) → ChangesOnly (sector_bytes (Layout.Old space)) (written_place p.ready ++ map_place (Layout.Old space)) was image
      → WritesPlaces (Layout.Old space) kind view command was image
  places kind was view opens parts root path agreed target command gives_it image only =
      let sound = old_sound kind space nodes owners root view.listings agreed in
      let before : IsBefore kind was view space = record { opens = opens; layout = sym parts.layout; is_map = is_map } in
      let may_write = places_law.directory kind was view space command target.listing before target.listed (may_rewrite x path command gives_it view target.listing.object.path target.above) in
      record {
        sectors = target.listing.object.sectors;
        only = subst (λ (ss : List ℕ). ChangesOnly (sector_bytes (Layout.Old space)) (ss ++ map_place (Layout.Old space)) was image) (same_place path view.listings sound agreed.walked.held target)
            (piece.changes_only p.ready ready.piece ready.one (sector_bytes (Layout.Old space)) (map_place (Layout.Old space)) was image only);
        may = (may_write, places_law.spared kind was view space command target.listing.object.sectors before may_write);
      }
