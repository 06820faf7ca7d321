-- `rename` by which a directory grows, at any moment: nothing else was written but what the command may write.
use Rattle.fc_change.specs.GrownSpace.{IsGrownAt as IsGrownPlace}
use Rattle.fc_change.specs.Places.{plan_in}
use Rattle.fc_change.specs.declared.spaces.GrownPlace.{GrownPlace}
use Rattle.fc_changes.proofs.BasicLemmas.{any_in}
use Rattle.fc_commands.proofs.GrownAskedLemmas.{view_with}
use Rattle.fc_commands.proofs.GrownAskedLemmas as asked
use Rattle.fc_commands.proofs.GrownChangeLemmas.{taking_of}
use Rattle.fc_commands.proofs.GrownMayLemmas.{there_may}
use Rattle.fc_commands.proofs.GrownMoveEditLemmas.{back_now, become}
use Rattle.fc_commands.proofs.GrownMoveGrowsLemmas.{growth_is, lies_now, used}
use Rattle.fc_commands.proofs.GrownMoveMadeLemmas.{EditedRename, IsPlacedEdit, MadeEdit, MadeMove, moving_of, none_given, placed_move, up_in}
use Rattle.fc_commands.proofs.GrownMoveReadyLemmas.{PlainRename}
use Rattle.fc_commands.proofs.GrownMoveSaidLemmas.{it, l, layout, listed}
use Rattle.fc_commands.proofs.GrownMoveWalkLemmas as walk
use Rattle.fc_commands.proofs.GrownMoveWantLemmas.{GrownRename, IsPlacedRename}
use Rattle.fc_commands.proofs.GrownMoveWantLemmas as want
use Rattle.fc_commands.proofs.GrownPieceLemmas.{early_back, late_back}
use Rattle.fc_commands.proofs.GrownSpaceLemmas.{IsToGrow}
use Rattle.fc_commands.proofs.GrownSpaceLemmas as space_of
use Rattle.fc_edits.specs.Edit.{Amended}
use Rattle.fc_edits.specs.Placing.{takings_of}
use Rattle.fc_image.proofs.EntriesLemmas.{later as contains_later}
use Rattle.fc_image.specs.Layout.{Layout, id_of}
use Rattle.fc_image.specs.Objects.{is_owned, is_owner_of, objects_of}
use Rattle.fc_image.specs.Opening.{Opened}
use Rattle.fc_image.specs.Stays.{OpensAs}
use Rattle.fc_image.specs.Walk.{Listing, Object}
use Rattle.fc_image.specs.effects.Steady.{has_grown, has_new_holder, holds_named, is_renamed_by, may_be_rewritten}
use Rattle.fc_laws.proofs.lemmas.takeover.ApartLemmas.{places_law}
use Rattle.fc_laws.specs.agree.Agreed.{parts_with}
use Rattle.fc_laws.specs.takeover.Places.{MayBeWritten, OpensBy}
use Rattle.fc_model.specs.Command.{Command}
use Rattle.fc_model.specs.Tree.{holder}
use Rattle.fc_names.specs.Names.{is_same_path}
use Rattle.fc_newmap.specs.Map.{Map}
use Rattle.fc_objects.specs.Extents.{sectors_in}
use Rattle.fc_plan.specs.Applied.{id_in, parts_in}
use Rattle.fc_plan.specs.declared.plan.Plan.{Plan}
use Rattle.fc_record.specs.declared.Kind.{Kind}
use Rattle.fc_placing.proofs.LowLemmas.{or_true}
use Rattle.fc_tree.proofs.MemberLemmas.{contains_here, no_element}
use Rattle.fc_tree.proofs.WalkedLemmas.{listed_directory}
use Rattle.fc_writing.specs.Ready.{early_place, place_of, source_place, to_of, written_place}
use Rattle.fc_writing.specs.declared.ready.Piece.{Piece}
use Rattle.fc_writing.specs.declared.ready.Source.{Source}
use Rattle.std.proofs.Common.{Bool, List, None, Option, Some, [], ap, cond, eq-eqb, false, flat_map, refl, subst, sym, true, ℕ, ⊎_elim, ◌&&◌, ◌++◌, ◌==◌, ◌||◌, ◌∙◌, ◌∷◌, ◌≡◌}
use Rattle.std.proofs.lemmas.Bool.{or_left, or_right as or_second}
use Rattle.std.proofs.lemmas.List.Elements.{Contains-append_cases}
use Rattle.std.specs.Prelude.{Contains}

-- pieces that may all be written
may_all : (kind : Kind) (view : Opened) (m : Map) (c : Command) (ps : List Piece) → ((p : Piece) → Contains ps p → MayBeWritten kind view m c (place_of p)) → MayBeWritten kind view m c (flat_map place_of ps)
may_all kind view m c [] each = places_law.none kind view m c
may_all kind view m c (p ∷ ps) each =
    places_law.both kind view m c (place_of p) (flat_map place_of ps) (each p (contains_here p ps)) (may_all kind view m c ps (λ r at. each r (contains_later p r ps at)))

module _ (w : EditedRename) (pl : IsPlacedEdit w) (md : MadeEdit w) (was : List ℕ) (opens : OpensAs was w.q.kind (record { kind = w.q.kind; layout = Layout.New w.q.m; listings = w.q.listings })) where
  abbrev q : GrownRename
  q = w.q

  abbrev P : GrownPlace
  P = (want.grown w.q).0

  abbrev view : Opened
  view = view_with q.kind q.m q.listings

  abbrev c : Command
  c = Command.Rename q.from q.to

  abbrev to : IsToGrow w.q.m w.q.nodes w.q.owners w.q.listings (l w.q).object (walk.cut w.q).0 w.q.growth (plan_in pl.placed.placing) pl.placed.dir (want.grown w.q).0
  to = walk.to_grow q pl.placed

  by_it : OpensBy w.q.kind was (view_with w.q.kind w.q.m w.q.listings) w.q.m
  by_it = record { opens = opens; layout = refl }

  its_may : may_be_rewritten (view_with w.q.kind w.q.m w.q.listings) (Command.Rename w.q.from w.q.to) w.q.seen.known.destination.listing.object.path ≡ true
  its_may =
      ap (λ (b : Bool). b || is_renamed_by c (l q).object.path || has_grown view c (l q).object.path || has_new_holder view c (l q).object.path)
      (or_second (is_same_path (holder q.from) (l q).object.path) (is_same_path (holder q.to) (l q).object.path) q.seen.known.destination.above)

  -- ---- the grown one, at its place

  owned : is_owned (objects_of w.q.listings) (id_of w.q.seen.known.destination.listing.object.entry.address) ≡ true
  owned =
      let id = id_of (l q).object.entry.address in
      ap (λ (b : Bool). (id == 2) || b)
      (any_in (is_owner_of id) (objects_of q.listings) (l q).object (listed_directory (layout q) q.listings q.seen.sound (l q) (listed q)).0
      (ap (λ (b : Bool). b && (id == id)) (space_of.o_some q.m q.nodes q.owners q.listings (l q).object (walk.cut q).0 q.growth (plan_in pl.placed.placing) pl.placed.dir P to) ∙ eq-eqb id id refl))
      ∙ or_true (id == 2)

  grown_may : MayBeWritten w.q.kind (view_with w.q.kind w.q.m w.q.listings) w.q.m (Command.Rename w.q.from w.q.to) (sectors_in (want.grown w.q).0.extents.items)
  grown_may = by pl.placed.dir to.grown
    where
      by : (d : Option Plan) → IsGrownPlace q.m (parts_with q.m q.nodes q.owners) (plan_in pl.placed.placing) q.growth d P → MayBeWritten q.kind view q.m c (sectors_in P.extents.items)
      by None there =
          there_may q.kind q.m q.nodes q.owners q.root q.listings q.agreed (l q) q.growth.len (sectors_in P.extents.items)
          (record {
            listed = listed q;
            owns = owned;
            object = space_of.own_object_id q.m q.nodes q.owners q.listings (l q).object (walk.cut q).0 q.growth (plan_in pl.placed.placing) pl.placed.dir P to;
            room = space_of.room_same q.m q.nodes q.owners q.listings (l q).object (walk.cut q).0 q.growth (plan_in pl.placed.placing) pl.placed.dir P to
                ∙ sym (space_of.room_as q.m q.nodes q.owners q.listings (l q).object (walk.cut q).0 q.growth (plan_in pl.placed.placing) pl.placed.dir P to) ∙ there.room;
            placed = space_of.there_at q.m q.nodes q.owners q.listings (l q).object (walk.cut q).0 q.growth (plan_in pl.placed.placing) pl.placed.dir P to there;
            long = to.longer;
          })
          view was c refl by_it its_may
      by (Some plan) into = places_law.holes q.kind was view q.m c (sectors_in P.extents.items) by_it into.free

  -- ---- each that is told

  around_may : (d : Listing) → Contains (md.tops ++ cond ((l w.q).object.entry.address == (want.grown w.q).0.directory.address) [] md.kids) d
      → (has_grown (view_with w.q.kind w.q.m w.q.listings) (Command.Rename w.q.from w.q.to) d.object.path || has_new_holder (view_with w.q.kind w.q.m w.q.listings) (Command.Rename w.q.from w.q.to) d.object.path) ≡ true
  around_may d there =
      ⊎_elim
      (λ top. asked.top_told q.kind q.m q.listings (l q) P c (growth_is q) md.again md.same md.holder md.others (takings_of (id_in (plan_in pl.placed.placing)) (parts_in (plan_in pl.placed.placing))) (taking_of pl.placed.dir) (lies_now w pl md) (used q pl.placed) q.nodes q.seen.sound q.seen.held (listed q) md.tops md.kids md.left md.cut d top)
      (λ kid. by ((l q).object.entry.address == P.directory.address) refl kid) (Contains-append_cases md.tops (cond ((l q).object.entry.address == P.directory.address) [] md.kids) d there)
    where
      by : (b : Bool) → ((l q).object.entry.address == P.directory.address) ≡ b → Contains (cond b [] md.kids) d → (has_grown view c d.object.path || has_new_holder view c d.object.path) ≡ true
      by true e none = absurd (no_element d none)
      by false e kid =
          asked.kid_told q.kind q.m q.listings (l q) P c (growth_is q) md.again md.same md.holder md.others (takings_of (id_in (plan_in pl.placed.placing)) (parts_in (plan_in pl.placed.placing))) (taking_of pl.placed.dir) (lies_now w pl md) (used q pl.placed) q.nodes q.seen.sound q.seen.held (listed q) md.tops md.kids md.left md.cut d kid e

  told_may : (a : Amended) → Contains md.order a → may_be_rewritten (view_with w.q.kind w.q.m w.q.listings) (Command.Rename w.q.from w.q.to) a.was.object.path ≡ true
  told_may a at =
      let p = a.was.object.path in
      ⊎_elim
      (λ named. or_left (holds_named c p || is_renamed_by c p || has_grown view c p) (has_new_holder view c p) (or_left (holds_named c p || is_renamed_by c p) (has_grown view c p) named))
      (λ about. by (has_grown view c p) refl (around_may a.was about)) (md.named a at)
    where
      by : (b : Bool) → has_grown view c a.was.object.path ≡ b → (b || has_new_holder view c a.was.object.path) ≡ true → may_be_rewritten view c a.was.object.path ≡ true
      by true e f =
          or_left (holds_named c a.was.object.path || is_renamed_by c a.was.object.path || has_grown view c a.was.object.path) (has_new_holder view c a.was.object.path)
          (or_second (holds_named c a.was.object.path || is_renamed_by c a.was.object.path) (has_grown view c a.was.object.path) e)
      by false e f = or_second (holds_named c a.was.object.path || is_renamed_by c a.was.object.path || has_grown view c a.was.object.path) (has_new_holder view c a.was.object.path) f

  -- its piece
  any_may : (p : Piece) → Contains (w.ready.made ++ md.ready.own ∷ md.ready.pieces) p → MayBeWritten w.q.kind (view_with w.q.kind w.q.m w.q.listings) w.q.m (Command.Rename w.q.from w.q.to) (place_of p)
  any_may p at =
      ⊎_elim (λ new_one. absurd (no_element p (subst (λ (ps : List Piece). Contains ps p) md.none_made new_one)))
      (λ told.
      (let f = back_now q (become q w.e) (up_in q (it q)) md.order (md.said ∷ md.others_said) (md.ready.own ∷ md.ready.pieces) md.all p told in
      subst (λ (ss : List ℕ). MayBeWritten q.kind view q.m c ss) (sym f.3.place)
      (by (is_same_path (l q).object.path f.0.was.object.path) f.0
      (subst (λ (ss : List ℕ). MayBeWritten q.kind view q.m c ss) (sym (md.keeps f.0.was f.3.found).sectors) (places_law.directory q.kind was view q.m c f.0.was by_it f.3.found (told_may f.0 f.1))))))
      (Contains-append_cases w.ready.made (md.ready.own ∷ md.ready.pieces) p at)
    where
      by : (b : Bool) (a : Amended) → MayBeWritten q.kind view q.m c (w.e.turn a.was.object).sectors
          → MayBeWritten q.kind view q.m c (let y : Object = cond b (record (w.e.turn a.was.object) { entry = record (w.e.turn a.was.object).entry { address = P.directory.address; len = P.directory.len }; sectors = sectors_in P.extents.items }) (w.e.turn a.was.object) in y.sectors)
      by true a its = grown_may
      by false a its = its

  -- ---- all that is written

  -- its source apart
  pub early_may : MayBeWritten w.q.kind (view_with w.q.kind w.q.m w.q.listings) w.q.m (Command.Rename w.q.from w.q.to) (flat_map place_of w.pr.ready.early.items)
  early_may =
      may_all q.kind view q.m c w.pr.ready.early.items
      (λ p there. any_may p (early_back (layout q) q.nodes P md.said md.others_said w.ready.made w.pr.ready md.ready [] P.moves p (subst (λ (ps : List Piece). Contains ps p) md.ready.early there)))

  pub late_may : MayBeWritten w.q.kind (view_with w.q.kind w.q.m w.q.listings) w.q.m (Command.Rename w.q.from w.q.to) (flat_map place_of w.pr.ready.late.items)
  late_may =
      may_all q.kind view q.m c w.pr.ready.late.items
      (λ p there. any_may p (late_back (layout q) q.nodes P md.said md.others_said w.ready.made w.pr.ready md.ready [] P.moves p (subst (λ (ps : List Piece). Contains ps p) md.ready.late there)))

  pub all_may : MayBeWritten w.q.kind (view_with w.q.kind w.q.m w.q.listings) w.q.m (Command.Rename w.q.from w.q.to) (source_place w.pr.ready.source)
      → MayBeWritten w.q.kind (view_with w.q.kind w.q.m w.q.listings) w.q.m (Command.Rename w.q.from w.q.to) (written_place w.pr.ready)
  all_may source =
      places_law.both q.kind view q.m c (early_place w.pr.ready) (flat_map place_of w.pr.ready.late.items)
      (subst (λ (ss : List ℕ). MayBeWritten q.kind view q.m c ss) (λ i. source_place w.pr.ready.source ++ (flat_map to_of (sym w.ready.carried i) ++ flat_map place_of w.pr.ready.early.items))
      (places_law.both q.kind view q.m c (source_place w.pr.ready.source) (flat_map place_of w.pr.ready.early.items) source early_may)) late_may

-- Without a copy nothing has a source.
pub plain_may : (w : PlainRename) → IsPlacedRename w.q → (md : MadeMove w) (was : List ℕ) → OpensAs was w.q.kind (record { kind = w.q.kind; layout = Layout.New w.q.m; listings = w.q.listings })
    → MayBeWritten w.q.kind (view_with w.q.kind w.q.m w.q.listings) w.q.m (Command.Rename w.q.from w.q.to) (written_place w.pr.ready)
plain_may w placed md was opens =
    let view = view_with w.q.kind w.q.m w.q.listings in
    let c = Command.Rename w.q.from w.q.to in
    all_may (moving_of w md.c) (placed_move w md.c placed) md.part was opens
    (subst (λ (s : Source). MayBeWritten w.q.kind view w.q.m c (source_place s)) (sym (none_given w md.part.turned)) (places_law.none w.q.kind view w.q.m c))
