-- `rename` on any map, if nothing is copied and no directory grows: what is ready, the edit that it is, and the nodes after it.
use Rattle.std.proofs.Common.{◌≡◌, ◌||◌, ◌++◌, inl, inr, ℕ, true, false, List, [], ◌∷◌, filter, map, refl, sym, ap, ap₂, subst, ◌∙◌, Option, Some, None, eq-eqb}
use Rattle.std.specs.Prelude.{Contains, Vec}
use Rattle.std.specs.declared.alloc.Global.{Global}
use Rattle.std.specs.FinMap.{get, insert as put}
use Rattle.std.specs.Option.{option_map, option_map_or}
use Rattle.std.proofs.lemmas.Bool.{cases_eq, ne_eqb, or_left}
use Rattle.fc_alloc.specs.declared.owner.Owner.{Owner}
use Rattle.fc_device.specs.declared.disk.Extent.{Extent}
use Rattle.fc_names.specs.Names.{Path, is_same_path}
use Rattle.fc_record.specs.declared.Kind.{Kind}
use Rattle.fc_model.specs.Command.{Command}
use Rattle.fc_dirs.specs.declared.Entry.{Entry}
use Rattle.fc_drafts.specs.Entries.{renamed_entry}
use Rattle.fc_drafts.specs.declared.room.Room.TheVariants as rooms
use Rattle.fc_image.specs.Layout.{Layout}
use Rattle.fc_image.specs.Opening.{Opened}
use Rattle.fc_image.specs.Walk.{Listing, Object}
use Rattle.fc_image.specs.effects.Short.{growth_in, is_copied}
use Rattle.fc_image.specs.effects.Steady.{has_grown, has_new_holder, holds_named, is_renamed_by, may_be_rewritten}
use Rattle.fc_tree.specs.declared.node.Node.{Node}
use Rattle.fc_tree.specs.Parts.{Parts}
use Rattle.fc_laws.specs.nodes.Edits.{Nodes, with_edited}
use Rattle.fc_edits.specs.Edit.{Amended}
use Rattle.fc_edits.specs.Moving.{edit, moved}
use Rattle.fc_edits.specs.NewNodes as edited
use Rattle.fc_edits.specs.NewNodes.{enter, entered, entering, tell}
use Rattle.fc_outcomes.specs.Moving.{HasMoved, IsToMove}
use Rattle.fc_outcomes.specs.Puts.{Put}
use Rattle.fc_refusals.specs.declared.target.Renaming.{Renaming}
use Rattle.fc_writing.specs.declared.ready.Piece.{Piece}
use Rattle.fc_writing.specs.declared.ready.Ready.{Ready}
use Rattle.fc_writing.specs.declared.ready.Source.TheVariants as sources
use Rattle.fc_change.specs.declared.change.Change.{Change}
use Rattle.fc_change.specs.declared.change.Says.{Says}
use Rattle.fc_change.specs.declared.change.Turned.{Turned}
use Rattle.fc_change.specs.declared.change.Turned.TheVariants as turns
use Rattle.fc_change.specs.declared.job.Growth.{Growth}
use Rattle.fc_change.specs.declared.job.Job.TheVariants as jobs
use Rattle.fc_change.specs.declared.spaces.GrownPlace.{GrownPlace}
use Rattle.fc_change.specs.declared.spaces.Place.{Place}
use Rattle.fc_change.specs.declared.spaces.Spaces.{Spaces}
use Rattle.fc_change.specs.After.{gone_in, nodes_after, with_regrown, with_said, with_turned, without_gone}
use Rattle.fc_change.specs.Directories.{Rewriting, TellAll}
use Rattle.fc_change.specs.Drafts.{told}
use Rattle.fc_change.specs.Needs.{HasRoomOf, is_copied as is_copied_job, room_of}
use Rattle.fc_change.specs.Prepared.{ArePiecesOf, IsGrownPiece, IsNewPiece, IsReadyFor, IsSourceOf, PiecesMatch}
use Rattle.fc_commands.specs.declared.stages.Prepared.{Prepared}
use Rattle.fc_commands.proofs.RoomyLemmas.{NoneGrows}
use Rattle.fc_commands.specs.Stages.{IsPreparedFor}
use Rattle.fc_commands.proofs.EmptySpaceLemmas.{IsEmptySpace, WantsNoSpace, empty_space}
use Rattle.fc_commands.proofs.MoveAcrossLemmas as across
use Rattle.fc_commands.proofs.MoveEditLemmas.{AreSayable, IsMoved}
use Rattle.fc_commands.proofs.MoveLemmas.{IsSeen, o}
use Rattle.fc_commands.proofs.MovePieceLemmas.{AreFor, WritesPieces, directory_put, pieces_for, pieces_sayable, whose_put}
use Rattle.fc_commands.proofs.MoveSaidLemmas.{nodes_said}
use Rattle.fc_commands.proofs.MoveShortLemmas.{no_growth, room_across, room_within}
use Rattle.fc_commands.proofs.MoveStageLemmas.{IsMoveChange, entry_now, move_change, no_place, tells_it, turns_it, wants_none}
use Rattle.fc_commands.proofs.MoveTellLemmas.{told_is}
use Rattle.fc_commands.proofs.MoveWithinLemmas as within
use Rattle.fc_commands.proofs.PutLemmas.{put_of}
use Rattle.fc_commands.proofs.TargetLemmas as target_of

-- ---- what is ready

-- The directories that say something else are written over, and nothing else is written.
pub record IsMoveReady (layout : Layout) (nodes : Nodes) (says : List Says) (s : Spaces) (r : Ready) : Type 0 where
  pub pieces : WritesPieces r r.late.items
  pub match : PiecesMatch layout nodes None says r.late.items
  pub take : r.take ≡ s.take
  pub give : r.give ≡ s.give

pub all_kept : (ss : List Says) → filter (λ (s : Says). true) ss ≡ ss
all_kept [] = refl
all_kept (s ∷ ss) = ap (λ (ts : List Says). s ∷ ts) (all_kept ss)

pub move_ready : (h : Parts) (c : Change) (s : Spaces) (r : Ready) (n dir : ℕ) (e : Entry) → s.object ≡ None → s.grown ≡ None → c.object ≡ turns.Turns n dir e → IsReadyFor h c s r
    → IsMoveReady h.layout h.nodes c.says.items s r
move_ready h c s r n dir e no_object no_growth' turned is =
    let made : is.made ≡ [] = subst (λ (o : Option Place). IsNewPiece (turns.Turns n dir e) o is.made) no_object (subst (λ (y : Turned). IsNewPiece y s.object is.made) turned is.makes) in
    let grown : is.grown ≡ [] = subst (λ (g : Option GrownPlace). IsGrownPiece g c.says.items is.grown) no_growth' is.grows in
    let source : r.source ≡ sources.Nothing =
    of_none s.copied (subst (λ (o : Option Place). IsSourceOf (turns.Turns n dir e) o s.copied r.source) no_object (subst (λ (y : Turned). IsSourceOf y s.object s.copied r.source) turned is.source)) in
    record {
      pieces = record { source = source; carried = is.carried; early = is.early ∙ ap₂ (λ (xs ys : List Piece). xs ++ ys) made grown; late = refl };
      match = subst (λ (ss : List Says). PiecesMatch h.layout h.nodes None ss r.late.items) (all_kept c.says.items)
          (subst (λ (g : Option GrownPlace). ArePiecesOf h.layout h.nodes g c.says.items r.late.items) no_growth' is.late);
      take = is.take;
      give = is.give;
    }
  where
    of_none : (from : Option (Vec Extent Global)) → IsSourceOf (turns.Turns n dir e) None from r.source → r.source ≡ sources.Nothing
    of_none None h' = h'
    of_none (Some v) h' = h'

-- ---- by any walk: the edit

module _ (layout : Layout) (nodes : Nodes) (listings : List Listing) (from to : Path) (r : Renaming) (name : List ℕ) (x : IsSeen layout nodes listings from to r name) where
  abbrev it : Object
  it = o layout nodes listings from to r name x

  abbrev e : Entry
  e = entry_now layout nodes listings from to r name x

  pub it_moved : (ss : List Says) → HasRoomOf nodes (jobs.Move r) name rooms.Fits → AreSayable ss → TellAll None nodes (told nodes (jobs.Move r) name None e) ss → IsMoved layout nodes listings from to r name it ss
  it_moved ss fits sayable tell = elim (cases_eq r.holder r.target.holder) [
    | inl here ↦ within.moves layout nodes listings from to r name x here ss (room_within layout nodes listings x.sound x.held from to r x.known name rooms.Fits here fits) sayable
        (subst (λ (qs : List (ℕ × Rewriting)). TellAll None nodes qs ss) (told_is nodes r name e true (eq-eqb r.holder r.target.holder here)) tell)
    | inr away ↦ across.moves layout nodes listings from to r name x away ss (room_across layout nodes listings x.sound x.held from to r x.known name rooms.Fits away fits) sayable
        (subst (λ (qs : List (ℕ × Rewriting)). TellAll None nodes qs ss) (told_is nodes r name e false (ne_eqb r.holder r.target.holder away)) tell)
  ]

  -- ---- the nodes after it

  module _ (ss : List Says) (mv : IsMoved layout nodes listings from to r name it ss) where
    node : Node
    node = target_of.node layout nodes listings x.sound x.held from r.target x.known.target

    entered_is : with_edited r.target.node (λ (y : Node). record y { holder = r.holder; entry = e }) nodes ≡ enter (entering (edit mv.c)) nodes
    unfolding node
    entered_is =
        ap (λ (y : Option Node). option_map_or (λ (z : Node). put nodes r.target.node (record z { holder = r.holder; entry = e })) y nodes) there
        ∙ ap (λ (d : Entry). put nodes r.target.node (record node { holder = r.holder; entry = d })) (sym mv.is.entry)
        ∙ sym (ap (λ (qs : List (ℕ × (ℕ × Object))). enter qs nodes) mv.is.enters ∙ ap (λ (y : Option Node). put nodes r.target.node (entered r.holder (moved mv.c mv.c.o) y)) there)
      where
        there : get nodes r.target.node ≡ Some node
        there = target_of.node_is layout nodes listings x.sound x.held from r.target x.known.target

    -- They are those that are taken over.
    pub nodes_are : (c : Change) (number : ℕ) → c.grown ≡ None → c.object ≡ turns.Turns r.target.node r.holder e → c.says.items ≡ ss → nodes_after c number nodes ≡ edited.nodes_after (edit mv.c) nodes
    nodes_are c number none turned says =
        (λ i. without_gone (gone_in (turned i)) (with_said (says i) (with_turned (turned i) number (with_regrown (none i) nodes))))
        ∙ nodes_said nodes listings mv.order ss mv.is.said (with_edited r.target.node (λ (y : Node). record y { holder = r.holder; entry = e }) nodes)
        ∙ mv.is.retold (with_edited r.target.node (λ (y : Node). record y { holder = r.holder; entry = e }) nodes) ∙ ap (tell (edit mv.c).amended) entered_is

    -- ---- what the command asks of it

    pub to_move : (v : Opened) → is_copied v from to it ≡ false → growth_in v (Command.Rename from to) ≡ None → IsToMove v from to mv.c
    to_move v plain stays = record {
      from_is = ap (λ (p : Object). is_same_path from p.path) mv.is.o_is ∙ x.known.target.path_is;
      to_is = mv.is.to_is;
      name_is = sym x.name_is ∙ sym mv.is.name_is;
      not_copied = ap (is_copied v from to) mv.is.o_is ∙ plain;
      no_growth = stays;
    }

  -- the command may rewrite them
  pub may_rewrite : (ss : List Says) (mv : IsMoved layout nodes listings from to r name it ss) (v : Opened) (a : Amended) → Contains mv.order a → may_be_rewritten v (Command.Rename from to) a.was.object.path ≡ true
  may_rewrite ss mv v a at =
      let c = Command.Rename from to in
      let p = a.was.object.path in
      or_left (holds_named c p || is_renamed_by c p || has_grown v c p) (has_new_holder v c p)
      (or_left (holds_named c p || is_renamed_by c p) (has_grown v c p) (mv.is.named a (mv.is.of_order a at)))

-- ---- a change that is prepared

module _ (layout : Layout) (nodes : Nodes) (owners : List Owner) (r : Renaming) (name : List ℕ) (p : Prepared) (prep : IsPreparedFor (record { layout = layout; nodes = nodes; owners = owners }) (jobs.Move r) name p)
    (grows : NoneGrows (record { layout = layout; nodes = nodes; owners = owners }) (jobs.Move r) name) (plain : is_copied_job (record { layout = layout; nodes = nodes; owners = owners }) r ≡ false) where
  abbrev h : Parts
  h = record { layout = layout; nodes = nodes; owners = owners }

  pub none : WantsNoSpace prep.wants × (prep.wants.goes ≡ None)
  none = wants_none h r name prep.wants grows plain prep.spaced.wants

  pub empty : IsEmptySpace prep.spaces
  empty = empty_space h prep.wants none.0 prep.spaces prep.spaced.places

  pub change : IsMoveChange nodes r name None p.change
  change = move_change h r name None prep.spaces p.change (ap (option_map (λ (q : Place). q.address)) (no_place h prep.wants prep.spaces none.0 prep.spaced.places)) empty.grown prep.change

  pub ready : IsMoveReady layout nodes p.change.says.items prep.spaces p.ready
  ready = move_ready h p.change prep.spaces p.ready r.target.node r.holder (renamed_entry change.was name change.was.address) (no_place h prep.wants prep.spaces none.0 prep.spaced.places) empty.grown change.turns prep.ready

  pub room : HasRoomOf nodes (jobs.Move r) name rooms.Fits
  room = subst (λ (g : Option Growth). HasRoomOf nodes (jobs.Move r) name (room_of g)) (grows prep.wants prep.spaced.wants) prep.spaced.wants.room

  -- by any walk
  module _ (listings : List Listing) (from to : Path) (x : IsSeen layout nodes listings from to r name) where
    pub mv : IsMoved layout nodes listings from to r name (o layout nodes listings from to r name x) p.change.says.items
    mv = it_moved layout nodes listings from to r name x p.change.says.items room (pieces_sayable layout nodes p.change.says.items p.ready.late.items ready.match)
        (tells_it layout nodes listings from to r name x None p.change change)

    pub turned : p.change.object ≡ turns.Turns r.target.node r.holder (entry_now layout nodes listings from to r name x)
    turned = turns_it layout nodes listings from to r name x None p.change change

    pub nodes_now : (number : ℕ) → nodes_after p.change number nodes ≡ edited.nodes_after (edit mv.c) nodes
    nodes_now number = nodes_are layout nodes listings from to r name x p.change.says.items mv p.change number change.none turned refl

    pub are_for : AreFor mv.order p.ready.late.items
    are_for = pieces_for layout nodes listings x.sound x.held mv.order p.change.says.items p.ready.late.items mv.is.said ready.match

    abbrev pub puts : List Put
    puts = map put_of p.ready.late.items

    -- what the command asks of what is written
    pub has_moved : (kind : Kind) → is_copied (record { kind = kind; layout = layout; listings = listings }) from to (o layout nodes listings from to r name x) ≡ false
        → HasMoved (record { kind = kind; layout = layout; listings = listings }) from to mv.c puts
    has_moved kind not_copied =
        let v : Opened = record { kind = kind; layout = layout; listings = listings } in
        record {
          its = to_move layout nodes listings from to r name x p.change.says.items mv v not_copied (no_growth v nodes x.sound x.held from to r x.known name x.name_is room);
          entries = mv.is.entries;
          says = mv.is.says;
          own_says = mv.is.own_says;
          written = λ a there. directory_put layout mv.order p.ready.late.items a (moved mv.c a.was.object) are_for (mv.is.in_order a there) refl (mv.is.sizes a there);
          whose = λ q there. (let a = whose_put mv.order p.ready.late.items are_for q there in (a.0, mv.is.of_order a.0 a.1, a.2));
        }
