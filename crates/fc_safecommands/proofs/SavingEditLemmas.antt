-- `save` and `create` over a file in the safe mode: the edit, and what it promises.
use Rattle.std.proofs.Common.{◌≡◌, ◌<◌, ◌≤◌, ◌*◌, ◌^◌, ◌==◌, ◌&&◌, ◌||◌, ◌⊎◌, ◌++◌, inr, ⊎_elim, ℕ, Bool, true, false, not, List, [], ◌∷◌, append-nil, refl, sym, ap, ap₂, subst, ◌∙◌, eq-eqb, Option, None}
use Rattle.std.specs.Prelude.{Contains, IsPermutation}
use Rattle.std.specs.List.{list_any}
use Rattle.std.specs.Option.{unwrap_or}
use Rattle.std.proofs.lemmas.Bool.{eqb-true, ne_eqb}
use Rattle.std.proofs.lemmas.List.Sorted.{IsPermutation-refl}
use Rattle.fc_names.specs.Names.{Path}
use Rattle.fc_alloc.specs.declared.owner.Owner.{Owner}
use Rattle.fc_record.specs.declared.Kind.{Kind}
use Rattle.fc_newmap.specs.Map.{Map}
use Rattle.fc_image.specs.Edits.{IsAt}
use Rattle.fc_image.specs.Layout.{Layout, disc_sectors, id_of}
use Rattle.fc_image.specs.Objects.{has_sectors, is_owner_of, objects_of}
use Rattle.fc_image.specs.Opening.{Opened}
use Rattle.fc_image.specs.Walk.{Listing, Object}
use Rattle.fc_image.proofs.HolesLemmas.{apart_at, apart_from}
use Rattle.fc_edits.specs.Addition.{Addition, IsAddition, edit, nodes_over, owners_before}
use Rattle.fc_edits.specs.Edit.{AreEdited}
use Rattle.fc_edits.specs.NewNodes as edited
use Rattle.fc_edits.specs.NewPlaces.{GivesBack}
use Rattle.fc_edits.specs.Places.{Stays}
use Rattle.fc_edits.proofs.lemmas.AdditionLawLemmas.{addition_law}
use Rattle.fc_edits.proofs.lemmas.ShapeLemmas.{only}
use Rattle.fc_laws.specs.nodes.Edits.{Nodes, OwnersEdited, owner_with, owners_with}
use Rattle.fc_laws.specs.agree.Agreed.{AgreeOn, parts_with}
use Rattle.fc_placing.proofs.LeavingLemmas.{others_are}
use Rattle.fc_laws.proofs.lemmas.agree.CutLemmas.{cut_law}
use Rattle.fc_drafts.specs.Entries.{saved_entry}
use Rattle.fc_refusals.specs.Slots.{IsFile}
use Rattle.fc_refusals.specs.declared.target.Target.{Target}
use Rattle.fc_plan.specs.Giving.{is_one_of}
use Rattle.fc_tree.specs.Agree.{Agree}
use Rattle.fc_tree.specs.Parts.{ArePartsOf, owner_of}
use Rattle.fc_tree.specs.declared.node.Node.{Node}
use Rattle.fc_tree.proofs.MemberLemmas.{contains_here}
use Rattle.fc_writing.specs.declared.ready.Piece.{Piece}
use Rattle.fc_writing.specs.New.{CanWrite, IsTaken}
use Rattle.fc_writing.specs.Steps.{HasEdited}
use Rattle.fc_change.specs.After.{AreOwnersAfter, nodes_after, owners_admitted}
use Rattle.fc_change.specs.Directories.{Rewriting, Tells}
use Rattle.fc_change.specs.Prepared.{IsPieceOf}
use Rattle.fc_change.specs.declared.change.Says.{Says}
use Rattle.fc_change.specs.declared.change.Turned.TheVariants as turns
use Rattle.fc_change.specs.declared.job.FileWords.{FileWords}
use Rattle.fc_commands.specs.declared.stages.Prepared.{Prepared}
use Rattle.fc_commands.proofs.NewArrivalLemmas.{new_alike}
use Rattle.fc_commands.proofs.OverLemmas as over
use Rattle.fc_commands.proofs.OverOwnersLemmas.{is_only, owners_over}
use Rattle.fc_commands.proofs.TargetLemmas as target_of
use Rattle.fc_laws.proofs.lemmas.nodes.OwnerLemmas.{owner_law}
use Rattle.fc_commands.proofs.OverStageLemmas.{IsOverChange, job_of, tells_it as tells_now, turns_it as turns_now}
use Rattle.fc_safe.specs.FirstNeeds.{first_gone}
use Rattle.fc_safe.specs.Staying.{remains}
use Rattle.fc_safe.specs.Suits.{Suits}
use Rattle.fc_safecrash.specs.Crash.{IsOneStep}
use Rattle.fc_safeedits.specs.SafeAddition.{AddedParts, SafeAdditionLaw}
use Rattle.fc_safeedits.specs.Relocation.{is_moved}
use Rattle.fc_safeedits.specs.SafeChange.{MovedParts, moves_in}
use Rattle.fc_safeedits.specs.SafeSpace.{SafeSpaceLaw, takings_of}
use Rattle.fc_safecommands.specs.Anew.{IsPreparedAnew}
use Rattle.fc_safecommands.proofs.SavingLemmas as saving
use Rattle.fc_safecommands.proofs.OldPieceLemmas.{piece_before, piece_there}
use Rattle.fc_safecommands.proofs.OldPlaceLemmas.{any_alike}
use Rattle.fc_safecommands.proofs.ObjectSpotLemmas.{IsMapThen, IsSpot}
use Rattle.fc_safecommands.proofs.StirredChangeLemmas.{exactly}
use Rattle.fc_safecommands.proofs.StirredImageLemmas as image_of
use Rattle.fc_safecommands.proofs.StirredLaidLemmas.{IsStaying, staying}
use Rattle.fc_safecommands.proofs.StirredLemmas.{StirredJob, changed_at, leaving, sound}
use Rattle.fc_safecommands.proofs.StirredPutLemmas as put_of
use Rattle.fc_safecommands.proofs.StirredStepLemmas as step_of
use Rattle.fc_safecommands.proofs.StirredWrittenLemmas.{IsPieceOfTold, IsTold, TellsThese, piece_of_told}

module _ (kind : Kind) (m : Map) (nodes : Nodes) (owners : List Owner) (root : Node) (listings : List Listing) (agreed : AgreeOn kind m nodes owners root listings)
    (parts : ArePartsOf (parts_with m nodes owners) (record { kind = kind; layout = Layout.New m; listings = listings })) (suits : Suits (Layout.New m) nodes) (t : Target) (words : FileWords) (few : words.len < 2 ^ 32) (path : Path) (file : IsFile nodes listings path t)
    (name : List ℕ) (p : Prepared) (prep : IsPreparedAnew m (parts_with m nodes owners) (job_of t words) name p) where
  abbrev pub v : Opened
  v = record { kind = kind; layout = Layout.New m; listings = listings }

  abbrev pub x : StirredJob
  x = saving.x kind m nodes owners root listings agreed parts suits t words few path file name p prep

  abbrev pub tells : TellsThese x p.change
  tells = saving.tells kind m nodes owners root listings agreed parts suits t words few path file name p prep

  abbrev pub own : List ℕ
  own = saving.own kind m nodes owners root listings agreed parts suits t words few path file name p prep

  abbrev pub lies : put_of.LiesBeside x prep.spaces prep.placed own
  lies = saving.lies kind m nodes owners root listings agreed parts suits t words few path file name p prep

  abbrev pub put : put_of.IsPutThere x own p.ready prep.ready.early.made
  put = saving.put kind m nodes owners root listings agreed parts suits t words few path file name p prep

  abbrev pub change : IsOverChange nodes t words (saving.place kind m nodes owners root listings agreed parts suits t words few path file name p prep).place.address p.change
  change = saving.change kind m nodes owners root listings agreed parts suits t words few path file name p prep

  abbrev pub l : Listing
  l = file.target.listing

  abbrev pub o : Object
  o = saving.o kind m nodes owners root listings agreed parts suits t words few path file name prep.wants prep.are_wants prep.spaces prep.placed

  abbrev pub at_spot : IsSpot x prep.spaces prep.placed o
  at_spot = saving.its_spot kind m nodes owners root listings agreed parts suits t words few path file name prep.wants prep.are_wants prep.spaces prep.placed

  abbrev pub address : ℕ
  address = (saving.place kind m nodes owners root listings agreed parts suits t words few path file name p prep).place.address

  pub dir_in : Contains (objects_of listings) l.object
  dir_in = (changed_at x t.holder l file.target.listed file.target.holder_is).there

  pub dir_some : has_sectors l.object ≡ true
  dir_some = (changed_at x t.holder l file.target.listed file.target.holder_is).some

  -- ---- the directory's piece

  abbrev pub told : (q : Says) × Contains p.change.says.items q × IsTold x q l.object × (k : Piece) × Contains prep.ready.early.told k × IsPieceOfTold x prep.spaces prep.placed p.change tells p.ready prep.ready q l.object k
  told = piece_of_told x prep.spaces prep.placed p.change tells p.ready prep.ready l.object (contains_here l.object [])

  abbrev pub piece : Piece
  piece = told.3

  pub said_is : change.said ≡ told.0
  said_is = only change.said told.0 (subst (λ (ss : List Says). Contains ss told.0) change.says told.1)

  abbrev pub old_piece : Piece
  old_piece = piece_there x l.object dir_in dir_some told.3

  pub is_piece : IsPieceOf (Layout.New m) nodes change.said old_piece
  is_piece =
      subst (λ (q : Says). IsPieceOf (Layout.New m) nodes q old_piece) (sym said_is)
      (piece_before x l.object dir_in dir_some told.0 told.3 told.2.is.number told.5.drafted)

  pub tells_it : Tells None nodes t.holder (Rewriting.Replaces t.at (saved_entry file.target.object.entry words.load words.exec words.len address)) change.said
  tells_it = tells_now (Layout.New m) nodes listings (sound x) agreed.walked.held path t file words address p.change change

  pub turns_it : p.change.object ≡ turns.Turns t.node t.holder (saved_entry file.target.object.entry words.load words.exec words.len address)
  turns_it = turns_now (Layout.New m) nodes listings (sound x) agreed.walked.held path t file words address p.change change

  pub can_write : (n : ℕ) → disc_sectors (Layout.New m) ≤ n → CanWrite n m p.ready
  can_write n room = put_of.can_write x prep.spaces prep.placed p.change tells p.ready prep.ready own lies put n room

  pub one_step : IsOneStep p.ready
  one_step = put_of.one_step x prep.spaces prep.placed p.change tells p.ready prep.ready own lies put

  -- ---- after it

  module _ (number : ℕ) where
    abbrev pub c : Addition
    c = over.addition (Layout.New m) nodes listings (sound x) agreed.walked.held path t file words address agreed.walked.forms own change.said tells_it old_piece is_piece

    pub is_addition : IsAddition nodes (Layout.New m) listings c
    is_addition = over.is_addition (Layout.New m) nodes listings (sound x) agreed.walked.held path t file words address agreed.walked.forms own change.said tells_it old_piece is_piece

    abbrev pub nodes_now : Nodes
    nodes_now = nodes_over c nodes

    pub nodes_same : nodes_now ≡ nodes_after p.change number nodes
    nodes_same =
        sym (over.nodes_are (Layout.New m) nodes listings (sound x) agreed.walked.held path t file words address agreed.walked.forms own change.said tells_it old_piece is_piece p.change number change.none turns_it change.says)

    pub nodes_edited : AreEdited nodes nodes_now (edit c)
    nodes_edited = addition_law.nodes_over_it nodes (Layout.New m) listings c file.target.object (record { sound = sound x; held = agreed.walked.held }) is_addition refl

    -- the other objects
    pub others : (stay : List Object) × IsPermutation (objects_of listings) (file.target.object ∷ stay)
    others = cut_law.others (Layout.New m) listings file.target.listing t.at file.target.object (sound x) file.target.listed file.target.at

    module _ (space : SafeSpaceLaw) (m' : Map) (taken : IsTaken m p.ready m') where
      abbrev pub done : HasEdited m m' (step_of.step x prep.spaces prep.placed).0
      done = image_of.done x prep.spaces prep.placed p.change tells p.ready prep.ready m' taken

      pub same : m'.geometry ≡ m.geometry
      same = (image_of.edited x prep.spaces prep.placed p.change tells p.ready prep.ready m' taken).geometry

      pub map_then : IsMapThen x prep.spaces prep.placed m'
      map_then = record { geometry = same; taken = step_of.taken x prep.spaces prep.placed m' done space; others = (step_of.space x prep.spaces prep.placed m' done space).others }

      pub lies_now : IsAt (Layout.New m') o
      lies_now = at_spot.at m' map_then

      -- the owners that are taken over,
      pub owners_then : (owners' : List Owner) → AreOwnersAfter (Layout.New m') nodes p.change (owners_admitted (Layout.New m) p.change.object number owners) owners'
          → OwnersEdited owners owners' (owners_before (Layout.New m) c) (owners_with (Layout.New m') t.holder t.node o)
      owners_then owners' after =
          owners_over (Layout.New m) (Layout.New m') nodes listings owners owners' path t file.target o p.change number others.0 (new_alike m m' same) (sound x) agreed.walked.held agreed.owned others.1 lies_now change.none turns_it after

      -- and there are such
      pub owners_left : (os : List Owner) × OwnersEdited owners os (owners_before (Layout.New m) c) (owners_with (Layout.New m') t.holder t.node o)
      owners_left =
          let old = file.target.object in
          let law = owner_law nodes (Layout.New m) listings file.target.listing t.at old t.holder t.node (record { sound = sound x; held = agreed.walked.held })
          (record { listed = file.target.listed; at = file.target.at; dir_is = file.target.holder_is; number_is = file.target.node_is }) in
          let alone = is_only (Layout.New m) nodes listings owners old t.node (sound x) agreed.walked.held agreed.owned file.target.node_is (target_of.among (Layout.New m) nodes listings (sound x) agreed.walked.held path t file.target) others.0 others.1
          (owner_with (Layout.New m) t.holder t.node old) law in
          let now = owners_with (Layout.New m') t.holder t.node o ++ alone.rest in (
            now,
            record {
              rest = alone.rest;
              before = subst (λ (ws : List Owner). IsPermutation owners (ws ++ alone.rest)) (sym (append-nil (owners_with (Layout.New m) t.holder t.node old))) alone.order;
              after = IsPermutation-refl now;
            },
          )

      module _ (owners' : List Owner) (owned : OwnersEdited owners owners' (owners_before (Layout.New m) c) (owners_with (Layout.New m') t.holder t.node o)) where
        abbrev pub moved : MovedParts
        moved = image_of.moved x prep.spaces prep.placed p.change tells p.ready prep.ready m' taken space nodes_now owners'

        -- the others stay
        those_left : (k : ℕ) → list_any (is_owner_of k) others.0 ≡ list_any (remains (leaving x) k) owners
        those_left k =
            sym (others_are m nodes listings owners file.target.object others.0 t.node (sound x) agreed.walked.held agreed.owned file.target.node_is others.1 k)
            ∙ any_alike (λ (o : Owner). (o.id == k) && not (o.node == t.node)) (remains (leaving x) k)
            (λ o. ap (λ (b : Bool). (o.id == k) && not b) (turned o.node t.node) ∙ sym (ap (λ (ns : List ℕ). (o.id == k) && not (is_one_of ns o.node)) (saving.it_leaves kind m nodes owners root listings agreed parts suits t words few path file name prep.wants prep.are_wants))) owners
          where
            turned : (a b : ℕ) → (a == b) ≡ ((b == a) || false)
            turned a b = by (a == b) refl (b == a) refl
              where
                by : (u : Bool) → (a == b) ≡ u → (w : Bool) → (b == a) ≡ w → u ≡ (w || false)
                by true e true f = refl
                by false e false f = refl
                by true e false f = absurd (let yes = eq-eqb b a (sym (eqb-true a b e)) in cc)
                by false e true f = absurd (let yes = eq-eqb a b (sym (eqb-true b a f)) in cc)

        pub gives : GivesBack m (takings_of prep.placed.plans) (first_gone m (parts_with m nodes owners) (job_of t words) prep.wants) listings (edit c)
        gives = record {
          stay = others.0;
          others = others.1;
          exactly = λ k has. exactly x prep.spaces prep.placed (o ∷ others.0) k has (ap₂ (λ (a b : Bool). a || b) (at_spot.goes_to k has) (those_left k));
        }

        pub stays_in : (q : Object) → Stays nodes listings (edit c) q → is_moved (moves_in moved) q ≡ true → has_sectors q ≡ true → remains (leaving x) (id_of q.entry.address) (owner_of nodes (Layout.New m) q) ≡ true
        stays_in q st at some =
            let number : (owner_of nodes (Layout.New m) q).node ≡ st.number = ap (λ (k : Option ℕ). unwrap_or k 0) st.number_is in
            let other : (t.node == st.number) ≡ false = ne_eqb t.node st.number (λ same. st.stays (subst (λ (n : ℕ). Contains (t.node ∷ []) n) same (contains_here t.node []))) in
            ap (λ (ns : List ℕ). (id_of q.entry.address == id_of q.entry.address) && not (is_one_of ns (owner_of nodes (Layout.New m) q).node)) (saving.it_leaves kind m nodes owners root listings agreed parts suits t words few path file name prep.wants prep.are_wants)
            ∙ ap₂ (λ (a b : Bool). a && not (b || false)) (eq-eqb (id_of q.entry.address) (id_of q.entry.address) refl) (ap (λ (n : ℕ). t.node == n) number ∙ other)

        pub stays_where : (q : Object) → Stays nodes listings (edit c) q → is_moved (moves_in moved) q ≡ true → has_sectors q ≡ true → IsStaying x q
        stays_where q st at some =
            staying x q st.among some (image_of.it_moves x prep.spaces prep.placed p.change tells p.ready prep.ready m' taken space nodes_now owners' q at) (stays_in q st at some)

        abbrev pub added : AddedParts moved
        added = record {
          c = c;
          addition = is_addition;
          nodes_edited = nodes_edited;
          owners_edited = owned;
          gives = gives;
          moves = image_of.dir_moves x prep.spaces prep.placed p.change tells p.ready prep.ready m' taken space nodes_now owners' l.object (contains_here l.object []);
          elsewhere = at_spot.still;
          at = lies_now;
          lies = inr (at_spot.may, λ q stay one. apart_from o.sectors q.sectors (λ u e f. (let no = apart_at q.sectors o.sectors u (at_spot.lies.apart q (stay.among)) f in cc)));
          reaches = λ q stay at. image_of.each_reaches x prep.spaces prep.placed p.change tells p.ready prep.ready m' taken space nodes_now owners' q (stay.among) at (stays_where q stay at);
        }

        pub agrees : SafeAdditionLaw → Agree kind (parts_with m' nodes_now owners')
        agrees law = law.agrees moved added
