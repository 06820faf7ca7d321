-- `save`, `create` and `cdir` of what is new in the safe mode, without growth: the edit, and what it promises.
use Rattle.std.proofs.Common.{◌≡◌, ◌<◌, ◌≤◌, ◌*◌, ◌==◌, ◌&&◌, ◌||◌, ◌⊎◌, ◌++◌, inl, inr, ⊎_elim, ℕ, zero, suc, Bool, true, false, not, cond, List, [], ◌∷◌, append-nil, flat_map, length, map, refl, sym, ap, ap₂, subst, ◌∙◌, arith, eq-eqb, Option, Some, None}
use Rattle.std.specs.Prelude.{Contains, IsPermutation, nat_lt}
use Rattle.std.specs.FinMap.{get}
use Rattle.std.specs.List.{list_any}
use Rattle.std.specs.Option.{unwrap_or}
use Rattle.std.proofs.lemmas.Bool.{and_parts, eqb-true}
use Rattle.std.proofs.lemmas.List.Sorted.{IsPermutation-refl, list_any-IsPermutation}
use Rattle.std.proofs.lemmas.List.Elements.{Contains-append_right}
use Rattle.fc_names.specs.Names.{Path}
use Rattle.fc_names.specs.declared.name.NameForm.{NameForm}
use Rattle.fc_alloc.specs.declared.owner.Owner.{Owner}
use Rattle.fc_alloc.specs.Owners.{has_node, owns}
use Rattle.fc_record.specs.declared.DiscRecord.{DiscRecord}
use Rattle.fc_record.specs.declared.Geometry.{Geometry}
use Rattle.fc_record.specs.declared.Kind.{Kind}
use Rattle.fc_newmap.specs.Map.{Map, is_used}
use Rattle.fc_model.specs.Answer.{changed as changed_tree}
use Rattle.fc_model.specs.Command.{Command}
use Rattle.fc_model.specs.Tree.{last_name}
use Rattle.fc_image.specs.Edits.{IsAt}
use Rattle.fc_image.specs.Layout.{Layout, bytes_in, dir_form, disc_sectors, id_of, sectors_at}
use Rattle.fc_image.specs.Objects.{has_sectors, is_owner_of, objects_of, tree_of}
use Rattle.fc_image.specs.Opening.{Opened}
use Rattle.fc_image.specs.Stays.{IsNewKind, OpensAs}
use Rattle.fc_image.specs.Walk.{Listing, Object, object_bytes, object_size}
use Rattle.fc_image.specs.effects.Short.{growth_in}
use Rattle.fc_image.specs.safe.SafeEffect.{HasTree}
use Rattle.fc_image.proofs.HolesLemmas.{apart_at, apart_from}
use Rattle.fc_drafts.specs.Draft.{directory_in}
use Rattle.fc_edits.specs.Addition.{Addition, IsAddition, edit}
use Rattle.fc_edits.specs.Edit.{AreEdited, joining, leaving as leaving_edit, objects as objects_in}
use Rattle.fc_edits.specs.NewNodes as edited
use Rattle.fc_edits.specs.NewPlaces.{GivesBack, LiesAgain}
use Rattle.fc_edits.specs.Places.{Stays}
use Rattle.fc_edits.proofs.lemmas.AdditionLawLemmas.{addition_law}
use Rattle.fc_edits.proofs.lemmas.ShapeLemmas.{only}
use Rattle.fc_laws.specs.nodes.Edits.{Nodes, OwnersEdited, owner_with, owners_with}
use Rattle.fc_laws.specs.agree.Agreed.{AgreeOn, parts_with}
use Rattle.fc_laws.proofs.lemmas.takeover.WriteLemmas.{written_bytes_law}
use Rattle.fc_outcomes.specs.Addition.{Joins}
use Rattle.fc_objects.specs.Extents.{sectors_in}
use Rattle.fc_placing.specs.Leaving.{is_kept}
use Rattle.fc_plan.specs.Giving.{is_one_of}
use Rattle.fc_refusals.specs.Targets.{IsVacant}
use Rattle.fc_tree.specs.Agree.{Agree}
use Rattle.fc_tree.specs.Counts.{address_in}
use Rattle.fc_tree.specs.Nodes.{number_of}
use Rattle.fc_tree.specs.Parts.{ArePartsOf, Parts, owner_of}
use Rattle.fc_tree.specs.declared.node.Node.{Node}
use Rattle.fc_tree.proofs.MemberLemmas.{contains_here}
use Rattle.fc_writing.specs.declared.ready.Piece.{Piece}
use Rattle.fc_writing.specs.declared.ready.Source.{Source}
use Rattle.fc_writing.specs.Content.{Content}
use Rattle.fc_writing.specs.New.{CanWrite, IsChanged, IsTaken}
use Rattle.fc_writing.specs.Ready.{place_of, source_content}
use Rattle.fc_writing.specs.Steps.{HasEdited}
use Rattle.fc_change.specs.After.{AreOwnersAfter, nodes_after, owners_admitted}
use Rattle.fc_change.specs.Directories.{Rewriting, Tells}
use Rattle.fc_change.specs.Owned.{owners_with_room}
use Rattle.fc_change.specs.Prepared.{IsPieceOf}
use Rattle.fc_change.specs.declared.change.Says.{Says}
use Rattle.fc_commands.specs.declared.stages.Prepared.{Prepared}
use Rattle.fc_commands.proofs.ArrivalLemmas.{Arrival, Brings, IsShort, bytes_of, entry_of, job_of}
use Rattle.fc_commands.proofs.ArrivalEditLemmas.{AreItsBytes, CanSayOwn, IsItsArrival, MakesIt}
use Rattle.fc_commands.proofs.ArrivalEditLemmas as arriving
use Rattle.fc_commands.proofs.ArrivalPartsLemmas.{IsAlike, arrived, owner_if_is, owners_after, room_made, unowned}
use Rattle.fc_commands.proofs.ArrivalPreparedLemmas.{can_say_own, its_bytes, its_length, makes_it}
use Rattle.fc_commands.proofs.ArrivalReadyLemmas.{SaysOwn, stored_of}
use Rattle.fc_commands.proofs.ArrivalStageLemmas.{IsArrivalChange}
use Rattle.fc_commands.proofs.EnteredLemmas.{HasRoomMore}
use Rattle.fc_commands.proofs.FilledLemmas.{stored_filled}
use Rattle.fc_commands.proofs.HolderLemmas as holder_of
use Rattle.fc_commands.proofs.NewArrivalLemmas.{new_alike}
use Rattle.fc_commands.proofs.VacantLemmas as vacant
use Rattle.fc_safe.specs.FirstNeeds.{first_gone}
use Rattle.fc_safe.specs.Staying.{remains}
use Rattle.fc_safe.specs.Suits.{Suits}
use Rattle.fc_safelaws.specs.Relaid.{Reaches}
use Rattle.fc_safecrash.specs.Crash.{IsOneStep, IsThere}
use Rattle.fc_safeedits.specs.SafeAddition.{AddedParts, IsItsObject, SafeAddition, SafeAdditionLaw}
use Rattle.fc_safeedits.specs.Relocation.{is_moved}
use Rattle.fc_safeedits.specs.SafeChange.{MovedParts, moves_in}
use Rattle.fc_safeedits.specs.SafeSpace.{SafeSpaceLaw, takings_of}
use Rattle.fc_safeedits.specs.SafeWriting.{SafeWritingLaw}
use Rattle.fc_safecommands.specs.Anew.{IsPreparedAnew}
use Rattle.fc_safecommands.specs.Laws.{mapped}
use Rattle.fc_safecommands.proofs.ComingLemmas as coming
use Rattle.fc_safecommands.proofs.OldPieceLemmas.{piece_before, piece_there, source_there}
use Rattle.fc_safecommands.proofs.OldPlaceLemmas.{any_alike}
use Rattle.fc_safecommands.proofs.ObjectSpotLemmas.{IsMapThen, IsSpot}
use Rattle.fc_safecommands.proofs.StirredChangeLemmas.{exactly, owns_any}
use Rattle.fc_safecommands.proofs.StirredImageLemmas as image_of
use Rattle.fc_safecommands.proofs.StirredLaidLemmas.{IsStaying, staying}
use Rattle.fc_safecommands.proofs.StirredLemmas.{StirredJob, changed_at, leaving, sound}
use Rattle.fc_safecommands.proofs.StirredPutLemmas as put_of
use Rattle.fc_safecommands.proofs.StirredStepLemmas as step_of
use Rattle.fc_safecommands.proofs.StirredWrittenLemmas.{IsPieceOfTold, IsTold, TellsThese, piece_of_told}

module _ (kind : Kind) (m : Map) (nodes : Nodes) (owners : List Owner) (root : Node) (listings : List Listing) (agreed : AgreeOn kind m nodes owners root listings)
    (parts : ArePartsOf (parts_with m nodes owners) (record { kind = kind; layout = Layout.New m; listings = listings })) (suits : Suits (Layout.New m) nodes) (dir : ℕ) (a : Arrival) (few : IsShort a) (path : Path) (spot : IsVacant nodes listings path dir)
    (p : Prepared) (prep : IsPreparedAnew m (parts_with m nodes owners) (job_of dir a) (last_name path) p) (still : prep.wants.grows ≡ None) where
  abbrev pub v : Opened
  v = record { kind = kind; layout = Layout.New m; listings = listings }

  abbrev pub x : StirredJob
  x = coming.x kind m nodes owners root listings agreed parts suits dir a few path spot p prep still

  abbrev pub tells : TellsThese x p.change
  tells = coming.tells kind m nodes owners root listings agreed parts suits dir a few path spot p prep still

  abbrev pub own : List ℕ
  own = coming.own kind m nodes owners root listings agreed parts suits dir a few path spot p prep still

  abbrev pub lies : put_of.LiesBeside x prep.spaces prep.placed own
  lies = coming.lies kind m nodes owners root listings agreed parts suits dir a few path spot p prep still

  abbrev pub put : put_of.IsPutThere x own p.ready prep.ready.early.made
  put = coming.put kind m nodes owners root listings agreed parts suits dir a few path spot p prep still

  abbrev pub change : IsArrivalChange (parts_with m nodes owners) dir a (last_name path) (coming.place kind m nodes owners root listings agreed parts suits dir a few path spot p prep still).place.address p.change
  change = coming.change kind m nodes owners root listings agreed parts suits dir a few path spot p prep still

  abbrev pub l : Listing
  l = spot.listing

  abbrev pub o : Object
  o = coming.o kind m nodes owners root listings agreed parts suits dir a few path spot prep.wants prep.are_wants still prep.spaces prep.placed

  abbrev pub at_spot : IsSpot x prep.spaces prep.placed o
  at_spot = coming.its_spot kind m nodes owners root listings agreed parts suits dir a few path spot prep.wants prep.are_wants still prep.spaces prep.placed

  abbrev pub address : ℕ
  address = (coming.place kind m nodes owners root listings agreed parts suits dir a few path spot p prep still).place.address

  pub dir_in : Contains (objects_of listings) l.object
  dir_in = (changed_at x dir l spot.listed spot.holder_is).there

  pub dir_some : has_sectors l.object ≡ true
  dir_some = (changed_at x dir l spot.listed spot.holder_is).some

  -- ---- the directory's piece

  abbrev pub told : (q : Says) × Contains p.change.says.items q × IsTold x q l.object × (k : Piece) × Contains prep.ready.early.told k × IsPieceOfTold x prep.spaces prep.placed p.change tells p.ready prep.ready q l.object k
  told = piece_of_told x prep.spaces prep.placed p.change tells p.ready prep.ready l.object (contains_here l.object [])

  abbrev pub piece : Piece
  piece = told.3

  pub said_is : change.said ≡ told.0
  said_is = only change.said told.0 (subst (λ (ss : List Says). Contains ss told.0) change.says told.1)

  abbrev pub old_piece : Piece
  old_piece = piece_there x l.object dir_in dir_some told.3

  pub is_piece : IsPieceOf (Layout.New m) nodes change.said old_piece
  is_piece =
      subst (λ (q : Says). IsPieceOf (Layout.New m) nodes q old_piece) (sym said_is)
      (piece_before x l.object dir_in dir_some told.0 told.3 told.2.is.number told.5.drafted)

  pub more : HasRoomMore l.content (last_name path)
  more gain gets =
      (coming.is_wanted kind m nodes owners root listings agreed parts suits dir a few path spot prep.wants prep.are_wants still).room l.content gain
      (holder_of.says_at (Layout.New m) nodes listings (sound x) agreed.walked.held l spot.listed dir spot.holder_is) gets

  pub address_at : address_in nodes dir ≡ l.object.entry.address
  address_at = holder_of.address_is (Layout.New m) nodes listings (sound x) agreed.walked.held l spot.listed dir spot.holder_is

  pub says_own : SaysOwn (Layout.New m) nodes dir a (last_name path) prep.ready.early.made
  says_own = (coming.from_where kind m nodes owners root listings agreed parts suits dir a few path spot p prep still).1

  pub can_write : (n : ℕ) → disc_sectors (Layout.New m) ≤ n → CanWrite n m p.ready
  can_write n room = put_of.can_write x prep.spaces prep.placed p.change tells p.ready prep.ready own lies put n room

  pub one_step : IsOneStep p.ready
  one_step = put_of.one_step x prep.spaces prep.placed p.change tells p.ready prep.ready own lies put

  -- ---- after it

  module _ (number : ℕ) (free : get nodes number ≡ None) where
    abbrev pub c : Addition
    c = arriving.addition (Layout.New m) nodes listings (sound x) agreed.walked.held path dir spot a address own agreed.walked.forms more change.said change.tells old_piece is_piece number

    pub is_addition : IsAddition nodes (Layout.New m) listings c
    is_addition =
        arriving.is_addition (Layout.New m) nodes listings (sound x) agreed.walked.held path dir spot a address own agreed.walked.forms more change.said change.tells old_piece is_piece number free
        (can_say_own (Layout.New m) nodes dir l (last_name path) address_at a prep.ready.early.made says_own)

    abbrev pub nodes_now : Nodes
    nodes_now = edited.nodes_after (edit c) nodes

    pub nodes_same : nodes_now ≡ nodes_after p.change number nodes
    nodes_same =
        sym (arrived (Layout.New m) nodes p.change number dir a (last_name path) address change.own change.said change.none change.comes change.says change.tells.number change.owns free
        (holder_of.has_node (Layout.New m) nodes listings (sound x) agreed.walked.held l spot.listed dir spot.holder_is) l address_at own)

    pub nodes_edited : AreEdited nodes nodes_now (edit c)
    nodes_edited = addition_law.nodes nodes (Layout.New m) listings c (record { sound = sound x; held = agreed.walked.held }) is_addition refl

    module _ (space : SafeSpaceLaw) (m' : Map) (taken : IsTaken m p.ready m') (owners' : List Owner)
        (after_owners : AreOwnersAfter (Layout.New m') nodes p.change (owners_admitted (Layout.New m) p.change.object number owners) owners') where
      abbrev pub moved : MovedParts
      moved = image_of.moved x prep.spaces prep.placed p.change tells p.ready prep.ready m' taken space nodes_now owners'

      abbrev pub done : HasEdited m m' (step_of.step x prep.spaces prep.placed).0
      done = image_of.done x prep.spaces prep.placed p.change tells p.ready prep.ready m' taken

      pub same : m'.geometry ≡ m.geometry
      same = (image_of.edited x prep.spaces prep.placed p.change tells p.ready prep.ready m' taken).geometry

      pub map_then : IsMapThen x prep.spaces prep.placed m'
      map_then = record { geometry = same; taken = step_of.taken x prep.spaces prep.placed m' done space; others = (step_of.space x prep.spaces prep.placed m' done space).others }

      pub lies_now : IsAt (Layout.New m') o
      lies_now = at_spot.at m' map_then

      pub owners_are : OwnersEdited owners owners' [] (owners_with (Layout.New m') dir number o)
      owners_are =
          subst (λ (os : List Owner). OwnersEdited owners os [] (owners_with (Layout.New m') dir number o))
          (sym (owners_after (Layout.New m) (Layout.New m') nodes p.change number dir o.entry change.own owners owners' change.none change.comes after_owners
          ∙ ap (λ (w : Option Owner). owners_with_room w owners) (owner_if_is (Layout.New m) (Layout.New m') (new_alike m m' same) number dir o lies_now)))
          (room_made (owner_with (Layout.New m') dir number o) (has_sectors o) owners (unowned nodes (Layout.New m) listings owners number agreed.walked.held agreed.owned free))

      -- nobody leaves
      pub all_stay : (k : ℕ) → list_any (is_owner_of k) (objects_of listings) ≡ list_any (remains (leaving x) k) owners
      all_stay k =
          sym (owns_any x prep.spaces prep.placed k)
          ∙ any_alike (owns k) (remains (leaving x) k)
          (λ w. sym (ap (λ (ns : List ℕ). (w.id == k) && not (is_one_of ns w.node)) (coming.none_leaves kind m nodes owners root listings agreed parts suits dir a few path spot prep.wants prep.are_wants still) ∙ and_true (w.id == k))) owners
        where
          and_true : (b : Bool) → (b && true) ≡ b
          and_true true = refl
          and_true false = refl

      pub gives : GivesBack m (takings_of prep.placed.plans) (first_gone m (parts_with m nodes owners) (job_of dir a) prep.wants) listings (edit c)
      gives = record {
        stay = objects_of listings;
        others = IsPermutation-refl (objects_of listings);
        exactly = λ k has. exactly x prep.spaces prep.placed (o ∷ objects_of listings) k has (ap₂ (λ (a b : Bool). a || b) (at_spot.goes_to k has) (all_stay k));
      }

      -- what stays in an identifier that moves
      pub stays_in : (q : Object) → Contains (objects_of listings) q → is_moved (moves_in moved) q ≡ true → has_sectors q ≡ true → remains (leaving x) (id_of q.entry.address) (owner_of nodes (Layout.New m) q) ≡ true
      stays_in q among at some =
          ap₂ (λ (b : Bool) (ns : List ℕ). b && not (is_one_of ns (owner_of nodes (Layout.New m) q).node)) (eq-eqb (id_of q.entry.address) (id_of q.entry.address) refl)
          (coming.none_leaves kind m nodes owners root listings agreed parts suits dir a few path spot prep.wants prep.are_wants still)

      pub stays_where : (q : Object) → Contains (objects_of listings) q → is_moved (moves_in moved) q ≡ true → has_sectors q ≡ true → IsStaying x q
      stays_where q among at some =
          staying x q among some (image_of.it_moves x prep.spaces prep.placed p.change tells p.ready prep.ready m' taken space nodes_now owners' q at) (stays_in q among at some)

      abbrev pub added : AddedParts moved
      added = record {
        c = c;
        addition = is_addition;
        nodes_edited = nodes_edited;
        owners_edited = owners_are;
        gives = gives;
        moves = image_of.dir_moves x prep.spaces prep.placed p.change tells p.ready prep.ready m' taken space nodes_now owners' l.object (contains_here l.object []);
        elsewhere = at_spot.still;
        at = lies_now;
        lies = inr (at_spot.may, λ q stay one. apart_from o.sectors q.sectors (λ u e f. (let no = apart_at q.sectors o.sectors u (at_spot.lies.apart q (stay.among)) f in cc)));
        reaches = λ q stay at. image_of.each_reaches x prep.spaces prep.placed p.change tells p.ready prep.ready m' taken space nodes_now owners' q (stay.among) at (stays_where q (stay.among) at);
      }

      pub agrees : SafeAdditionLaw → Agree kind (parts_with m' nodes_now owners')
      agrees law = law.agrees moved added
