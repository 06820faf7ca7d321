-- `delete` in the safe mode: what its stages need, and what it promises.
use Rattle.std.proofs.Common.{◌≡◌, ◌≤◌, ◌==◌, ◌&&◌, ◌||◌, ℕ, Bool, true, false, not, List, [], ◌∷◌, cond, find, remove, refl, sym, ap, ap₂, subst, ◌∙◌, eq-eqb, Option, Some, None}
use Rattle.std.specs.Prelude.{Contains, IsPermutation}
use Rattle.std.specs.List.{list_any}
use Rattle.std.specs.Option.{unwrap_or}
use Rattle.std.proofs.lemmas.Bool.{eqb-true, ne_eqb}
use Rattle.std.proofs.lemmas.List.Sorted.{IsPermutation-refl, IsPermutation-remove}
use Rattle.fc_names.specs.Names.{Path}
use Rattle.fc_alloc.specs.declared.owner.Owner.{Owner}
use Rattle.fc_alloc.specs.Owners.{is_node}
use Rattle.fc_record.specs.declared.DiscRecord.{DiscRecord}
use Rattle.fc_record.specs.declared.Kind.{Kind}
use Rattle.fc_newmap.specs.Map.{Map}
use Rattle.fc_model.specs.Answer.{changed}
use Rattle.fc_model.specs.Command.{Command}
use Rattle.fc_image.specs.Layout.{Layout, disc_sectors, id_of}
use Rattle.fc_image.specs.Objects.{has_sectors, is_owner_of, objects_of, tree_of}
use Rattle.fc_image.specs.Opening.{Opened}
use Rattle.fc_image.specs.Sound.{AreSound}
use Rattle.fc_image.specs.Stays.{IsNewKind, OpensAs}
use Rattle.fc_image.specs.Walk.{Listing, Object}
use Rattle.fc_image.specs.safe.SafeEffect.{HasTree}
use Rattle.fc_placing.proofs.LeavingLemmas.{others_are}
use Rattle.fc_tree.specs.declared.node.Node.{Node}
use Rattle.fc_tree.specs.Agree.{Agree}
use Rattle.fc_tree.specs.Nodes.{HoldObjects}
use Rattle.fc_tree.specs.Parts.{ArePartsOf, Parts, owner_of}
use Rattle.fc_tree.proofs.MemberLemmas.{contains_here, found_passes}
use Rattle.fc_laws.specs.nodes.Edits.{Nodes, OwnersEdited, owner_with, owners_with}
use Rattle.fc_laws.specs.agree.Agreed.{AgreeOn, parts_with}
use Rattle.fc_laws.proofs.lemmas.agree.BeforeLemmas.{agreed_law}
use Rattle.fc_laws.proofs.lemmas.agree.CutLemmas.{cut_law}
use Rattle.fc_laws.proofs.lemmas.nodes.OwnerLemmas.{owner_law}
use Rattle.fc_edits.specs.Deletion.{Deletion, IsDeletion, edit, nodes_without}
use Rattle.fc_edits.specs.NewPlaces.{GivesBack}
use Rattle.fc_edits.specs.Places.{Stays}
use Rattle.fc_edits.proofs.lemmas.DeletionLemmas.{deletion_law}
use Rattle.fc_edits.proofs.lemmas.ShapeLemmas.{not_own}
use Rattle.fc_outcomes.specs.Deletion.{LeavesOut}
use Rattle.fc_refusals.specs.Targets.{IsRemovable}
use Rattle.fc_refusals.specs.declared.target.Target.{Target}
use Rattle.fc_writing.specs.declared.ready.Piece.{Piece}
use Rattle.fc_writing.specs.New.{CanWrite, IsChanged, IsTaken}
use Rattle.fc_change.specs.declared.job.Job.TheVariants as jobs
use Rattle.fc_change.specs.declared.job.Wants.{Wants}
use Rattle.fc_change.specs.After.{AreOwnersAfter, gone_in, nodes_after}
use Rattle.fc_change.specs.Needs.{AreWants}
use Rattle.fc_change.specs.Prepared.{IsPieceOf}
use Rattle.fc_commands.specs.declared.stages.Prepared.{Prepared}
use Rattle.fc_commands.proofs.EmptySpaceLemmas.{no_growth}
use Rattle.fc_commands.proofs.OwnerLemmas.{owner_is}
use Rattle.fc_commands.proofs.RemovalLemmas as removal
use Rattle.fc_commands.proofs.RemovalStageLemmas.{IsRemovalChange, removal_change}
use Rattle.fc_commands.proofs.TargetLemmas as target_of
use Rattle.fc_safe.specs.FirstNeeds.{first_gone}
use Rattle.fc_safe.specs.Staying.{remains}
use Rattle.fc_safe.specs.Suits.{Suits}
use Rattle.fc_safe.specs.Views.{IsViewOf}
use Rattle.fc_safe.proofs.PlainLemmas.{removal_stir, removal_stirs}
use Rattle.fc_safe.proofs.SuitsLemmas.{suits_are}
use Rattle.fc_safecrash.specs.Crash.{IsThere}
use Rattle.fc_safeedits.specs.Relocation.{is_moved}
use Rattle.fc_safeedits.specs.SafeChange.{MovedParts, moves_in}
use Rattle.fc_safeedits.specs.SafeDeletion.{DeletedParts, SafeDeletion, SafeDeletionLaw}
use Rattle.fc_safeedits.specs.SafeOutcome.{SafeOutcome}
use Rattle.fc_safeedits.specs.SafeSpace.{SafeSpaceLaw, takings_of}
use Rattle.fc_safeedits.specs.SafeWriting.{SafeWritingLaw}
use Rattle.fc_safecommands.specs.Anew.{IsPreparedAnew}
use Rattle.fc_safecommands.specs.Laws.{mapped}
use Rattle.fc_safecommands.proofs.ChangeLemmas as change_of
use Rattle.fc_safecommands.proofs.GoneLemmas.{exactly, moved_is}
use Rattle.fc_safecommands.proofs.LaidLemmas.{IsStaying, staying}
use Rattle.fc_safecommands.proofs.OldPlaceLemmas.{any_alike, piece_before, piece_there}
use Rattle.fc_safecommands.proofs.PlainLemmas.{PlainJob, i, leaving}
use Rattle.fc_safecommands.proofs.SpaceLemmas.{none_grown}
use Rattle.fc_safecommands.proofs.StageLemmas.{by, changed_image, whole}
use Rattle.fc_safecommands.proofs.WrittenLemmas.{TellsOne, owner_in, piece}

-- ---- of a view

module _ (kind : Kind) (m : Map) (nodes : Nodes) (owners : List Owner) (root : Node) (listings : List Listing) (agreed : AgreeOn kind m nodes owners root listings)
    (parts : ArePartsOf (parts_with m nodes owners) (record { kind = kind; layout = Layout.New m; listings = listings }))
    (t : Target) (path : Path) (may : IsRemovable nodes listings path t) (suits : Suits (Layout.New m) nodes) (name : List ℕ) where
  abbrev h : Parts
  h = parts_with m nodes owners

  abbrev v : Opened
  v = record { kind = kind; layout = Layout.New m; listings = listings }

  abbrev before : AreSound (Layout.New m) listings
  before = agreed_law.sound kind m nodes owners root listings agreed

  abbrev held : HoldObjects nodes listings
  held = agreed.walked.held

  pub apart : (t.node == t.holder) ≡ false
  apart = ne_eqb t.node t.holder (λ same. not_own nodes (Layout.New m) listings may.target.listing may.target.object t.holder t.node (record { sound = before; held = held }) may.target.listed
      (target_of.kid_in (Layout.New m) nodes listings before held path t may.target) may.target.holder_is may.target.node_is (sym same))

  pub seen : IsViewOf m h v
  seen = record { is_map = agreed.is_map; layout = refl; sound = before; parts = parts }

  -- the job, as one that needs no new object
  abbrev pub job_of : (w : Wants) → AreWants h (jobs.Removal t) name w → PlainJob
  job_of w are = record {
    kind = kind;
    m = m;
    nodes = nodes;
    owners = owners;
    root = root;
    listings = listings;
    agreed = agreed;
    c = Command.Delete path;
    job = jobs.Removal t;
    wants = w;
    its = record { view = seen; suits = sym (suits_are h true v suits before parts); name = name; job_is = may; plain = tt; wants = are };
    still = no_growth w.grows are.room;
    no_bytes = are.bytes;
    no_share = are.slack;
    path = path;
    t = t;
    target = may.target;
    goes = Some t.node;
    stays = ap (λ (b : Bool). b || false) apart;
    stir = removal_stir m h t w (no_growth w.grows are.room) are.copy are.left;
    stirs = removal_stirs m h v path t seen may.target;
    no_slack = λ id. refl;
  }

  -- ---- what is ready

  module _ (p : Prepared) (prep : IsPreparedAnew m h (jobs.Removal t) name p) where
    abbrev pub x : PlainJob
    x = job_of prep.wants prep.are_wants

    pub change : IsRemovalChange nodes t p.change
    change = removal_change h t name prep.spaces p.change (none_grown x prep.spaces prep.placed) prep.change

    abbrev pub tells : TellsOne x p.change
    tells = record { said = change.said; says = change.says; node = change.tells.number }

    pub can_write : (n : ℕ) → disc_sectors (Layout.New m) ≤ n → CanWrite n m p.ready
    can_write n room = change_of.can_write x prep.spaces prep.placed p.change tells p.ready prep.ready n room

    -- ---- the deletion

    abbrev pub written_piece : Piece
    written_piece = (piece x prep.spaces prep.placed p.change tells p.ready prep.ready).0

    abbrev pub old_piece : Piece
    old_piece = piece_there x written_piece

    pub is_piece : IsPieceOf (Layout.New m) nodes change.said old_piece
    is_piece = piece_before x change.said written_piece change.tells.number (piece x prep.spaces prep.placed p.change tells p.ready prep.ready).1.drafted

    abbrev pub c : Deletion
    c = removal.deletion (Layout.New m) nodes listings before held path t may agreed.walked.forms change.said change.tells old_piece is_piece

    pub is_deletion : IsDeletion nodes (Layout.New m) listings c
    is_deletion = removal.is_deletion (Layout.New m) nodes listings before held path t may agreed.walked.forms change.said change.tells old_piece is_piece

    pub leaves : LeavesOut path (Layout.New m) listings c written_piece.bytes.items
    leaves = removal.leaves (Layout.New m) nodes listings before held path t may agreed.walked.forms change.said change.tells old_piece is_piece

    -- ---- the owners after it

    -- those that are taken over,
    pub owners_then : (m' : Map) (owners' : List Owner) → AreOwnersAfter (Layout.New m') nodes p.change owners owners' → OwnersEdited owners owners' (owners_with (Layout.New m) t.holder t.node may.target.object) []
    owners_then m' owners' after =
        removal.owners_are (Layout.New m) nodes listings before held path t may owners owners' agreed.owned (removal.owners_after (Layout.New m') nodes p.change t.node owners owners' change.none change.goes after)

    abbrev o : Object
    o = may.target.object

    abbrev own : Owner
    own = owner_with (Layout.New m) t.holder t.node o

    -- and there are such
    pub owners_left : (rest : List Owner) × OwnersEdited owners rest (owners_with (Layout.New m) t.holder t.node may.target.object) []
    owners_left = by (has_sectors o) found
      where
        own_is : owner_of nodes (Layout.New m) o ≡ own
        own_is = owner_law nodes (Layout.New m) listings may.target.listing t.at o t.holder t.node (record { sound = before; held = held })
            (record { listed = may.target.listed; at = may.target.at; dir_is = may.target.holder_is; number_is = may.target.node_is })

        found : find (is_node t.node) owners ≡ cond (has_sectors o) (Some own) None
        found = owner_is (Layout.New m) nodes listings owners o t.node before held agreed.owned may.target.node_is (target_of.among (Layout.New m) nodes listings before held path t may.target)
            ∙ ap (λ (w : Owner). cond (has_sectors o) (Some w) None) own_is

        by : (b : Bool) → find (is_node t.node) owners ≡ cond b (Some own) None → (rest : List Owner) × OwnersEdited owners rest (cond b (own ∷ []) []) []
        by true is =
            let at = (found_passes (is_node t.node) owners own is).0 in
            (remove owners at.0, record { rest = remove owners at.0; before = IsPermutation-remove owners at.0 own at.1 (sym at.2); after = IsPermutation-refl (remove owners at.0) })
        by false is = (owners, record { rest = owners; before = IsPermutation-refl owners; after = IsPermutation-refl owners })

    -- ---- after it

    module _ (space : SafeSpaceLaw) (m' : Map) (taken : IsTaken m p.ready m') (owners' : List Owner)
        (owned : OwnersEdited owners owners' (owners_with (Layout.New m) t.holder t.node may.target.object) []) where
      abbrev pub moved : MovedParts
      moved = change_of.moved x prep.spaces prep.placed p.change tells p.ready prep.ready m' taken space (nodes_without c nodes) owners'

      others : (stay : List Object) × IsPermutation (objects_of listings) (may.target.object ∷ stay)
      others = cut_law.others (Layout.New m) listings may.target.listing t.at may.target.object before may.target.listed may.target.at

      those_left : (k : ℕ) → list_any (is_owner_of k) others.0 ≡ list_any (remains (leaving x) k) owners
      those_left k =
          sym (others_are m nodes listings owners may.target.object others.0 t.node before held agreed.owned may.target.node_is others.1 k)
          ∙ any_alike (λ (o : Owner). (o.id == k) && not (o.node == t.node)) (remains (leaving x) k) (λ o. ap (λ (b : Bool). (o.id == k) && not b) (turned o.node t.node)) owners
        where
          turned : (a b : ℕ) → (a == b) ≡ ((b == a) || false)
          turned a b = by (a == b) refl (b == a) refl
            where
              by : (u : Bool) → (a == b) ≡ u → (w : Bool) → (b == a) ≡ w → u ≡ (w || false)
              by true e true f = refl
              by false e false f = refl
              by true e false f = absurd (let yes = eq-eqb b a (sym (eqb-true a b e)) in cc)
              by false e true f = absurd (let yes = eq-eqb a b (sym (eqb-true b a f)) in cc)

      pub gives : GivesBack m (takings_of prep.placed.plans) (first_gone m h (jobs.Removal t) prep.wants) listings (edit c)
      gives = record { stay = others.0; others = others.1; exactly = λ k used. exactly x prep.spaces prep.placed others.0 those_left k }

      -- what stays in the identifier that moves
      pub stays_in : (o : Object) → Stays nodes listings (edit c) o → is_moved (moves_in moved) o ≡ true → has_sectors o ≡ true → remains (leaving x) (i x) (owner_of nodes (Layout.New m) o) ≡ true
      stays_in o st at some =
          let number : (owner_of nodes (Layout.New m) o).node ≡ st.number = ap (λ (k : Option ℕ). unwrap_or k 0) st.number_is in
          let other : (t.node == st.number) ≡ false = ne_eqb t.node st.number (λ same. st.stays (subst (λ (n : ℕ). Contains (t.node ∷ []) n) same (contains_here t.node []))) in
          ap₂ (λ (a b : Bool). a && not (b || false)) (eq-eqb (id_of o.entry.address) (i x) (moved_is x prep.spaces prep.placed (id_of o.entry.address) at)) (ap (λ (n : ℕ). t.node == n) number ∙ other)

      pub stays_where : (o : Object) → Stays nodes listings (edit c) o → is_moved (moves_in moved) o ≡ true → has_sectors o ≡ true → IsStaying x prep.spaces prep.placed o
      stays_where o st at some =
          staying x prep.spaces prep.placed o st.among some (stays_in o st at some) (owner_in x prep.spaces prep.placed p.change tells p.ready prep.ready o st.among some)

      abbrev pub deleted : DeletedParts moved
      deleted = record {
        c = c;
        deletion = is_deletion;
        nodes_edited = deletion_law.nodes nodes (Layout.New m) listings c (record { sound = before; held = held }) is_deletion;
        owners_edited = owned;
        gives = gives;
        moves = change_of.dir_moves x prep.spaces prep.placed p.change tells p.ready prep.ready m' taken space (nodes_without c nodes) owners';
        reaches = λ o st at. change_of.each_reaches x prep.spaces prep.placed p.change tells p.ready prep.ready m' taken space (nodes_without c nodes) owners' o st.among at (stays_where o st at);
      }

      pub nodes_same : (number : ℕ) → nodes_without c nodes ≡ nodes_after p.change number nodes
      nodes_same number =
          sym (removal.nodes_are (Layout.New m) nodes listings before held path t may agreed.walked.forms change.said change.tells old_piece is_piece p.change number change.none change.goes change.says)

      pub agrees : SafeDeletionLaw → Agree kind (parts_with m' (nodes_without c nodes) owners')
      agrees law = law.agrees moved deleted

      -- ---- the image

      module _ (writing : SafeWritingLaw) (disc : DiscRecord) (image : List ℕ) (new_kind : IsNewKind kind disc) (opens : OpensAs image kind v) (bytes image' : List ℕ)
          (there : IsThere (mapped m (by x disc image new_kind opens)) p.ready bytes m' image') where
        abbrev pub done : SafeDeletion
        done = record {
          x = changed_image x disc image new_kind opens prep.spaces prep.placed p.change tells p.ready prep.ready m' taken space writing (nodes_without c nodes) owners' bytes image' there;
          parts = deleted;
          path = path;
          bytes = written_piece.bytes.items;
          record_stays = change_of.record_stays x prep.spaces prep.placed p.change tells p.ready prep.ready m' taken space (nodes_without c nodes) owners';
          leaves = leaves;
          there = change_of.dir_there x prep.spaces prep.placed p.change tells p.ready prep.ready m' taken space (nodes_without c nodes) owners' writing (by x disc image new_kind opens) refl refl bytes image' there leaves.long;
          copied = λ o st at other. change_of.copied_as x prep.spaces prep.placed p.change tells p.ready prep.ready m' taken space (nodes_without c nodes) owners' writing (by x disc image new_kind opens) refl refl bytes image' there
              o st.among at (λ some. (stays_in o st at some, change_of.other_node x prep.spaces prep.placed p.change tells p.ready prep.ready o st.among other, stays_where o st at some));
        }

        pub tree : SafeDeletionLaw → HasTree kind (changed (tree_of image (Layout.New m) listings) (Command.Delete path)) image'
        tree law = law.tree done

        pub outcome : SafeDeletionLaw → IsChanged m m' p.ready bytes image image' → SafeOutcome kind image image' v (Command.Delete path) (parts_with m' (nodes_without c nodes) owners')
        outcome law is = law.outcome done
            (change_of.takes x prep.spaces prep.placed p.change tells p.ready prep.ready m' taken space (nodes_without c nodes) owners')
            (whole x disc image new_kind opens prep.spaces prep.placed p.change tells p.ready prep.ready m' taken space writing (nodes_without c nodes) owners' bytes image' there is)
