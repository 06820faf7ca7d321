-- `rename` by which a directory grows and nothing is copied, in the safe mode: its edit. The laws of edits speak of what a directory says at the
-- place that it had, and of the one that grows in the sectors in which its growth is told; so it is made ready for these.
use Rattle.std.proofs.Common.{◌≡◌, ◌<◌, ◌≤◌, ◌+◌, ◌^◌, ◌==◌, ◌&&◌, ⊎_elim, ℕ, Bool, true, false, not, cond, filter, length, map, List, [], ◌∷◌, ◌++◌, append_assoc, refl, sym, ap, ap₂, subst, ◌∙◌, arith, eq-eqb, Option, Some, None}
use Rattle.std.specs.Prelude.{Contains, IsPermutation, Vec}
use Rattle.std.specs.Option.{option_map}
use Rattle.std.specs.FinMap.{get}
use Rattle.std.specs.declared.alloc.Global.{Global}
use Rattle.std.proofs.lemmas.List.{length-append, length-map}
use Rattle.std.proofs.lemmas.List.Elements.{Contains-append_left, Contains-append_right}
use Rattle.std.proofs.lemmas.List.Sorted.{IsPermutation-append_left, IsPermutation-map, IsPermutation-trans}
use Rattle.fc_device.specs.declared.disk.Extent.{Extent}
use Rattle.fc_drafts.specs.Draft.{directory_in}
use Rattle.fc_image.specs.Layout.{Layout, id_of}
use Rattle.fc_image.specs.Objects.{objects_of}
use Rattle.fc_image.specs.Walk.{Listing, Object}
use Rattle.fc_image.proofs.CommandLemmas.{same_by_folds}
use Rattle.fc_image.proofs.PathsLemmas.{itself}
use Rattle.fc_edits.specs.Edit.{Amended}
use Rattle.fc_edits.specs.Growing.{grown as grown_with}
use Rattle.fc_edits.specs.Moving.{edit}
use Rattle.fc_names.specs.Names.{is_same_path}
use Rattle.fc_plan.specs.Giving.{is_one_of}
use Rattle.fc_tree.specs.Nodes.{number_of}
use Rattle.fc_tree.proofs.MemberLemmas.{contains_here, from_map, in_map, no_element}
use Rattle.fc_image.proofs.EntriesLemmas.{later as contains_later, cases as contains_cases}
use Rattle.fc_tree.proofs.PlaceLemmas.{one_path}
use Rattle.fc_tree.proofs.SoundLemmas.{same_listing}
use Rattle.fc_tree.proofs.WalkedLemmas.{listed_directory, same_some}
use Rattle.fc_writing.specs.declared.ready.Piece.{Piece}
use Rattle.fc_writing.specs.declared.ready.Ready.{Ready}
use Rattle.fc_writing.specs.declared.ready.Source.TheVariants as sources
use Rattle.fc_change.specs.declared.change.Regrowth.{Regrowth}
use Rattle.fc_change.specs.declared.change.Says.{Says}
use Rattle.fc_change.specs.declared.change.Turned.{Turned}
use Rattle.fc_change.specs.declared.change.Turned.TheVariants as turns
use Rattle.fc_change.specs.declared.job.Job.TheVariants as jobs
use Rattle.fc_change.specs.declared.spaces.GrownPlace.{GrownPlace}
use Rattle.fc_change.specs.declared.spaces.Place.{Place}
use Rattle.fc_change.specs.declared.spaces.Spaces.{Spaces}
use Rattle.fc_change.specs.Drafts.{IsChangeOf, grown_in, told}
use Rattle.fc_change.specs.Directories.{TellAll}
use Rattle.fc_change.specs.Prepared.{IsDrafted, IsMovedPiece, IsNewPiece, IsPieceIn, IsPieceOf, IsReadyFor, IsSourceOf, PiecesMatch, is_moved}
use Rattle.fc_commands.specs.declared.stages.Prepared.{Prepared}
use Rattle.fc_commands.proofs.GrownAroundLemmas.{one_of_two}
use Rattle.fc_commands.proofs.GrownMoveAwayLemmas.{made}
use Rattle.fc_commands.proofs.GrownMoveDoneLemmas.{found_all}
use Rattle.fc_commands.proofs.GrownMoveEditLemmas.{AllSaidNow, become}
use Rattle.fc_commands.proofs.GrownMoveMadeLemmas.{EditedRename, MadeMove, moving_of, up_in}
use Rattle.fc_commands.proofs.GrownMoveNodeLemmas.{growing_in}
use Rattle.fc_commands.proofs.GrownMoveReadyLemmas.{PlainRename}
use Rattle.fc_commands.proofs.GrownMoveToldLemmas.{entry_now}
use Rattle.fc_commands.proofs.GrownMoveWantLemmas.{GrownRename, no_place}
use Rattle.fc_commands.proofs.NodeLemmas.{each_at}
use Rattle.fc_safe.specs.FirstSpace.{ArePlacedFirst}
use Rattle.fc_safe.proofs.ListLemmas.{any_of}
use Rattle.fc_safecommands.specs.Anew.{IsReadyAnew, PiecesAnew, plans_in}
use Rattle.fc_safecommands.specs.Anew.{IsPieceIn as IsNewPieceIn}
use Rattle.fc_safecommands.proofs.GrownMoveJobLemmas.{GrownMove, growing, h, node_is}
use Rattle.fc_safecommands.proofs.GrownMoveStageLemmas as stage
use Rattle.fc_safecommands.proofs.GrownStirLemmas.{IsChanged, changed, changed_object, few_sectors, lies_in}
use Rattle.fc_safecommands.proofs.GrownWrittenLemmas.{AreTold, Differ, IsTold, TellsThese}
use Rattle.fc_safecommands.proofs.OldPlaceLemmas.{one_by_one, one_by_one_is}
pub use Rattle.fc_safecommands.proofs.CopyGrownEditLemmas.{piece_at}
use Rattle.fc_safecommands.proofs.CopyGrownEditLemmas.{drafted_at}

-- ---- a rename that is ready

-- It is made ready, and its growth is told in these sectors.
pub record ShownMove : Type 0 where
  pub a : GrownMove
  pub s : Spaces
  pub placed : ArePlacedFirst a.m (h a) (jobs.Move a.r) a.wants s
  pub p : Prepared
  pub change : IsChangeOf (h a) (jobs.Move a.r) a.name s p.change
  pub ready : IsReadyAnew a.m (h a) a.wants p.change s p.ready
  pub shown : List ℕ
  pub few : length (one_by_one shown) < 2 ^ 63

module _ (w : ShownMove) where
  abbrev P : GrownPlace
  P = stage.p w.a w.s w.placed

  abbrev pub place_as : GrownPlace
  place_as =
      let p = stage.p w.a w.s w.placed in
      record p { extents = record p.extents { items = one_by_one w.shown; len = length (one_by_one w.shown); cap = length (one_by_one w.shown); ok = (refl, omega arith); small = w.few } }

  abbrev pub spaces_as : Spaces
  spaces_as = record w.s { grown = Some place_as }

  abbrev pub q : GrownRename
  q = record {
    kind = w.a.kind;
    m = w.a.m;
    nodes = w.a.nodes;
    owners = w.a.owners;
    root = w.a.root;
    listings = w.a.listings;
    from = w.a.from;
    to = w.a.to;
    r = w.a.r;
    name = w.a.name;
    wants = w.a.wants;
    spaces = spaces_as;
    growth = w.a.growth;
    agreed = w.a.agreed;
    seen = w.a.seen;
    are = w.a.are;
    some = w.a.grows;
    placing = w.placed.placing;
    object = w.placed.object;
    read = w.placed.copied;
    place = place_as;
    place_is = refl;
    node = ap (λ (d : Regrowth). d.node) (stage.first w.a w.s w.placed).directory;
    len = ap (λ (d : Regrowth). d.len) (stage.first w.a w.s w.placed).directory;
  }

  g_is : grown_in w.s ≡ Some (stage.p w.a w.s w.placed).directory
  g_is = ap (option_map (λ (g : GrownPlace). g.directory)) (stage.p_is w.a w.s w.placed)

  -- the same change
  pub change_as : IsChangeOf (h w.a) (jobs.Move w.a.r) w.a.name spaces_as w.p.change
  change_as = record {
    entry = w.change.entry;
    made = w.change.made;
    grown = w.change.grown ∙ g_is;
    tells = subst (λ (g : Option Regrowth). TellAll g w.a.nodes (told w.a.nodes (jobs.Move w.a.r) w.a.name g w.change.entry) w.p.change.says.items) g_is w.change.tells;
    object = w.change.object;
  }

  -- ---- pieces

  abbrev Early : List Says → List Piece → Type 0
  Early = PiecesAnew w.a.m (h w.a) (plans_in w.s.take) (Some (stage.p w.a w.s w.placed))

  early : Early w.p.change.says.items w.ready.early.told
  early = subst (λ (o : Option GrownPlace). PiecesAnew w.a.m (h w.a) (plans_in w.s.take) o w.p.change.says.items w.ready.early.told) (stage.p_is w.a w.s w.placed) w.ready.early.tells

  drafted_in : (b : Bool) (s : Says) (p : Piece) → IsNewPieceIn b w.a.m (h w.a) (plans_in w.s.take) P.extents.items s p → IsDrafted s.draft p
  drafted_in true s p is = is.1
  drafted_in false s p is = is.drafted

  said_changed : (s : Says) → Contains w.p.change.says.items s → is_one_of (changed (growing w.a)) s.node ≡ true
  said_changed = stage.said_changed w.a w.s w.placed w.p.change w.change

  few_of : (n : ℕ) (d : Object) → IsChanged (growing w.a) n d → length (one_by_one d.sectors) < 2 ^ 63
  few_of n d is =
      let room = (lies_in (growing w.a) d is.there is.some).room in
      let few = few_sectors (growing w.a) (id_of d.entry.address) in
      let same = length-map d.sectors (λ (s : ℕ). let e : Extent = record { first = s; sectors = 1 } in e) in
      omega (arith, room, few, same)

  -- at the place that its directory had
  piece_before : (s : Says) (p : Piece) (d : Object) (is : IsChanged (growing w.a) s.node d) → IsDrafted s.draft p → IsPieceOf (Layout.New w.a.m) w.a.nodes s (piece_at d.sectors (few_of s.node d is) p)
  piece_before s p d is drafted =
      let has = w.a.agreed.walked.held.each d is.there in
      record {
        node = _;
        there = ap (get w.a.nodes) (same_some s.node has.number (sym is.number ∙ has.at_path)) ∙ has.is;
        place = each_at (Layout.New w.a.m) w.a.listings w.a.seen.sound d is.there ∙ ap (λ (ss : List ℕ). let o : Option (List ℕ) = Some ss in o) (sym (one_by_one_is d.sectors));
        drafted = drafted_at d.sectors (few_of s.node d is) s p drafted;
      }

  abbrev goes_late : Says → Bool
  goes_late s = not (is_moved (Some place_as) s.node)

  pub record LatePieces (ss : List Says) (ps : List Piece) : Type 0 where
    pub ls : List Piece
    pub are : PiecesMatch (Layout.New w.a.m) w.a.nodes (Some place_as) (filter goes_late ss) ls
    pub few : length ls ≤ length ps

  late_of : (ss : List Says) (ps : List Piece) → ((s : Says) → Contains ss s → is_one_of (changed (growing w.a)) s.node ≡ true) → Early ss ps → LatePieces ss ps
  late_of [] [] all pieces = record { ls = []; are = tt; few = omega arith }
  late_of [] (p ∷ ps) all pieces = absurd pieces
  late_of (s ∷ ss) [] all pieces = absurd pieces
  late_of (s ∷ ss) (p ∷ ps) all pieces = by (late_of ss ps (λ t at. all t (contains_later s t ss at)) pieces.1) (P.directory.node == s.node) refl
    where
      d : (l : Listing) × Contains w.a.listings l × IsChanged (growing w.a) s.node l.object
      d = changed_object (growing w.a) s.node (all s (contains_here s ss))

      old : Piece
      old = piece_at d.0.object.sectors (few_of s.node d.0.object d.2) p

      by : LatePieces ss ps → (b : Bool) → (P.directory.node == s.node) ≡ b → LatePieces (s ∷ ss) (p ∷ ps)
      by rest true e =
          let moved : is_moved (Some place_as) s.node ≡ true = ap₂ (λ (x y : Bool). x && y) (stage.first w.a w.s w.placed).moves e in
          let few = rest.few in
          record {
            ls = rest.ls;
            are = subst (λ (b : Bool). PiecesMatch (Layout.New w.a.m) w.a.nodes (Some place_as) (cond (not b) (s ∷ filter goes_late ss) (filter goes_late ss)) rest.ls) (sym moved) rest.are;
            few = omega (arith, few);
          }
      by rest false e =
          let moved : is_moved (Some place_as) s.node ≡ false = ap₂ (λ (x y : Bool). x && y) (stage.first w.a w.s w.placed).moves e in
          let few = rest.few in
          record {
            ls = old ∷ rest.ls;
            are = subst (λ (b : Bool). PiecesMatch (Layout.New w.a.m) w.a.nodes (Some place_as) (cond (not b) (s ∷ filter goes_late ss) (filter goes_late ss)) (old ∷ rest.ls)) (sym moved) (
              subst (λ (b : Bool). IsPieceIn b (Layout.New w.a.m) w.a.nodes place_as.extents.items s old) (sym e)
                  (piece_before s p d.0.object d.2 (drafted_in (P.directory.node == s.node) s p pieces.0)),
              rest.are,
            );
            few = omega (arith, few);
          }

  pub late : LatePieces w.p.change.says.items w.ready.early.told
  late = late_of w.p.change.says.items w.ready.early.told said_changed early

  -- the one that grows
  abbrev its_said : Says
  its_said = (stage.tl w.a w.s w.placed w.p.change w.change).said

  first_of : (ss : List Says) (more : List Says) (ps : List Piece) → ss ≡ its_said ∷ more → Early ss ps → (p : Piece) × (0 < length ps) × IsDrafted its_said.draft p
  first_of ss more ps same pieces = by ps (subst (λ (ts : List Says). Early ts ps) same pieces)
    where
      by : (rs : List Piece) → Early (its_said ∷ more) rs → (p : Piece) × (0 < length rs) × IsDrafted its_said.draft p
      by [] is = absurd is
      by (p ∷ rs) is = (p, omega arith, drafted_in (P.directory.node == its_said.node) its_said p is.0)

  pub own : (p : Piece) × (0 < length w.ready.early.told) × IsDrafted its_said.draft p
  own = first_of w.p.change.says.items _ w.ready.early.told (stage.tl w.a w.s w.placed w.p.change w.change).says early

  abbrev its_piece : Piece
  its_piece = piece_at w.shown w.few own.0

  -- ---- made ready for these places

  abbrev was : Ready
  was = w.p.ready

  pub room : length w.ready.early.told ≤ w.p.ready.early.cap
  room =
      let ok = was.early.ok in
      let items = ap (λ (ps : List Piece). length ps) w.ready.early.all ∙ length-append w.ready.early.told w.ready.early.made in
      let len = ok.0 in
      let cap = ok.1 in
      omega (arith, items, len, cap)

  abbrev ready_there : Ready
  ready_there = record {
    source = sources.Nothing;
    carried = record was.carried { items = []; len = 0; ok = (refl, omega arith) };
    early = record was.early { items = its_piece ∷ []; len = 1; ok = (refl, (let some = own.1 in let fits = room in omega (arith, some, fits))) };
    late = record was.early { items = late.ls; len = length late.ls; ok = (refl, (let few = late.few in let fits = room in omega (arith, few, fits))) };
    take = w.s.take;
    give = w.s.give;
  }

  none : w.s.object ≡ None
  none = no_place q w.a.plain

  turned : w.p.change.object ≡ turns.Turns w.a.r.target.node w.a.r.holder (entry_now (stage.q w.a w.s w.placed))
  turned = (stage.tl w.a w.s w.placed w.p.change w.change).turned

  abbrev object_then : Turned
  object_then = turns.Turns w.a.r.target.node w.a.r.holder (entry_now (stage.q w.a w.s w.placed))

  pub ready_as : IsReadyFor (h w.a) w.p.change spaces_as ready_there
  ready_as = record {
    made = [];
    grown = its_piece ∷ [];
    source = subst (λ (y : Turned). IsSourceOf y w.s.object w.s.copied sources.Nothing) (sym turned) (subst (λ (o : Option Place). IsSourceOf object_then o w.s.copied sources.Nothing) (sym none) (by_copied w.s.copied));
    carried = refl;
    makes = subst (λ (y : Turned). IsNewPiece y w.s.object []) (sym turned) (subst (λ (o : Option Place). IsNewPiece object_then o []) (sym none) refl);
    grows = subst (λ (b : Bool). IsMovedPiece b place_as w.p.change.says.items (its_piece ∷ [])) (sym (stage.first w.a w.s w.placed).moves) (
      its_said,
      subst (λ (ss : List Says). Contains ss its_said) (sym (stage.tl w.a w.s w.placed w.p.change w.change).says) (contains_here its_said _),
      (stage.tl w.a w.s w.placed w.p.change w.change).tells.number ∙ sym (node_is w.a) ∙ sym (ap (λ (d : Regrowth). d.node) (stage.first w.a w.s w.placed).directory),
      its_piece,
      refl,
      refl,
      drafted_at w.shown w.few its_said own.0 own.2,
    );
    early = refl;
    late = late.are;
    take = refl;
    give = refl;
  }
    where
      by_copied : (c : Option (Vec Extent Global)) → IsSourceOf object_then None c sources.Nothing
      by_copied None = refl
      by_copied (Some v) = refl

  abbrev pub plain : PlainRename
  plain = record { q = q; pr = record { change = w.p.change; ready = ready_there }; plain = w.a.plain; change = change_as; ready = ready_as }

  pub md : MadeMove plain
  md = made plain

  abbrev pub e : EditedRename
  e = moving_of plain md.c

  -- ---- who is told something

  abbrev object_told : Amended → Object
  object_told b = b.was.object

  is_told : (b : Amended) (s : Says) → Contains w.a.listings b.was → number_of w.a.nodes b.was.object.path ≡ Some s.node → is_one_of (changed (growing w.a)) s.node ≡ true → IsTold (growing w.a) s b.was.object
  is_told b s listed number e =
      let d = changed_object (growing w.a) s.node e in
      let same = same_by_folds b.was.object.path d.0.object.path (one_path w.a.nodes s.node (length b.was.object.path) b.was.object.path d.0.object.path refl number d.2.number) in
      let one : b.was ≡ d.0 = same_listing (Layout.New w.a.m) w.a.listings w.a.seen.sound b.was.object.path b.was d.0 listed d.1 (itself b.was.object.path) same in
      record { changes = e; is = subst (λ (l : Listing). IsChanged (growing w.a) s.node l.object) (sym one) d.2 }

  all_told : (bs : List Amended) (ss : List Says) (ps : List Piece) → AllSaidNow q (become q (edit md.c)) (up_in q q.seen.known.target.object) bs ss ps
      → ((s : Says) → Contains ss s → is_one_of (changed (growing w.a)) s.node ≡ true) → AreTold (growing w.a) ss (map object_told bs)
  all_told [] [] [] all changes = tt
  all_told [] [] (p ∷ ps) all changes = absurd all
  all_told [] (s ∷ ss) ps all changes = absurd all
  all_told (b ∷ bs) [] ps all changes = absurd all
  all_told (b ∷ bs) (s ∷ ss) [] all changes = absurd all
  all_told (b ∷ bs) (s ∷ ss) (p ∷ ps) all changes = (
    is_told b s all.0.found (all.0.number_at ∙ ap (λ (n : ℕ). let o : Option ℕ = Some n in o) all.0.number_is) (changes s (contains_here s ss)),
    all_told bs ss ps all.1 (λ t at. changes t (contains_later s t ss at)),
  )

  differ : (front ls back : List Listing) → IsPermutation w.a.listings (front ++ (ls ++ back)) → Differ (map (λ (l : Listing). l.object) ls)
  differ front [] back all = tt
  differ front (d ∷ ls) back all =
      let next : IsPermutation w.a.listings ((front ++ d ∷ []) ++ (ls ++ back)) = subst (IsPermutation w.a.listings) (sym (append_assoc front (d ∷ []) (ls ++ back))) all in (
        λ o at same.
            (let j = from_map (λ (l : Listing). l.object) ls o at in
            one_of_two (Layout.New w.a.m) w.a.listings w.a.nodes w.a.seen.sound w.a.seen.held (front ++ d ∷ []) (ls ++ back) next d j.0 (Contains-append_right front (d ∷ []) d (contains_here d []))
            (Contains-append_left ls back j.0 j.1) (ap (λ (k : Object). is_same_path k.path j.0.object.path) (same ∙ sym j.2) ∙ itself j.0.object.path)),
        differ (front ++ d ∷ []) ls back next,
      )

  -- The directories of the edit are told something, each once.
  pub tells : TellsThese (growing w.a) w.p.change
  tells = record {
    ds = map object_told md.part.order;
    are = subst (λ (ss : List Says). AreTold (growing w.a) ss (map object_told md.part.order)) (sym md.part.says)
        (all_told md.part.order (md.part.said ∷ md.part.others_said) (md.part.ready.own ∷ md.part.ready.pieces) md.part.all (λ s at. said_changed s (subst (λ (ss : List Says). Contains ss s) (sym md.part.says) at)));
    once = subst Differ (by_map md.part.order) (differ [] (map (λ (b : Amended). b.was) md.part.order) md.part.same found);
    grown = any_of (λ (s : Says). s.node == w.a.growth.node) w.p.change.says.items its_said (subst (λ (ss : List Says). Contains ss its_said) (sym (stage.tl w.a w.s w.placed w.p.change w.change).says) (contains_here its_said _))
        (eq-eqb its_said.node w.a.growth.node ((stage.tl w.a w.s w.placed w.p.change w.change).tells.number ∙ sym (node_is w.a)));
  }
    where
      by_map : (bs : List Amended) → map (λ (l : Listing). l.object) (map (λ (b : Amended). b.was) bs) ≡ map object_told bs
      by_map [] = refl
      by_map (b ∷ bs) = ap (λ (ds : List Object). b.was.object ∷ ds) (by_map bs)

      amended : List Amended
      amended = (grown_with (edit md.c) (growing_in e md.part)).amended

      found : IsPermutation w.a.listings (map (λ (b : Amended). b.was) md.part.order ++ md.part.same)
      found =
          IsPermutation-trans w.a.listings (map (λ (b : Amended). b.was) amended ++ md.part.same) (map (λ (b : Amended). b.was) md.part.order ++ md.part.same) md.part.found
          (IsPermutation-append_left md.part.same (map (λ (b : Amended). b.was) amended) (map (λ (b : Amended). b.was) md.part.order) (IsPermutation-map (λ (b : Amended). b.was) amended md.part.order md.part.order_is))

  -- They are those of the edit,
  pub in_tells : (b : Amended) → Contains md.part.order b → Contains tells.ds b.was.object
  unfolding tells
  in_tells b at = in_map object_told md.part.order b at

  -- and no other.
  pub of_tells : (o : Object) → Contains tells.ds o → (b : Amended) × Contains md.part.order b × (b.was.object ≡ o)
  unfolding tells
  of_tells o at = from_map object_told md.part.order o at

  -- what one of them is told
  pub said_in : (b : Amended) → Contains md.part.order b → (s : Says) × Contains w.p.change.says.items s × (number_of w.a.nodes b.was.object.path ≡ Some s.node) × (b.content ≡ directory_in s.draft)
  said_in b at =
      let r = by md.part.order (md.part.said ∷ md.part.others_said) (md.part.ready.own ∷ md.part.ready.pieces) md.part.all b at in
      (r.0, subst (λ (ss : List Says). Contains ss r.0) (sym md.part.says) r.1, r.2, r.3)
    where
      by : (bs : List Amended) (ss : List Says) (ps : List Piece) → AllSaidNow q (become q (edit md.c)) (up_in q q.seen.known.target.object) bs ss ps → (b : Amended) → Contains bs b
          → (s : Says) × Contains ss s × (number_of w.a.nodes b.was.object.path ≡ Some s.node) × (b.content ≡ directory_in s.draft)
      by [] ss ps all b at = absurd (no_element b at)
      by (a ∷ bs) [] ps all b at = absurd all
      by (a ∷ bs) (s ∷ ss) [] all b at = absurd all
      by (a ∷ bs) (s ∷ ss) (p ∷ ps) all b at =
          ⊎_elim
          (λ same. subst (λ (k : Amended). (t : Says) × Contains (s ∷ ss) t × (number_of w.a.nodes k.was.object.path ≡ Some t.node) × (k.content ≡ directory_in t.draft)) same
          (s, contains_here s ss, all.0.number_at ∙ ap (λ (n : ℕ). let o : Option ℕ = Some n in o) all.0.number_is, all.0.content_is))
          (λ later. (let r = by bs ss ps all.1 b later in (r.0, contains_later s r.0 ss r.1, r.2, r.3))) (contains_cases a b bs at)

  -- It is listed.
  pub in_listed : (b : Amended) → Contains (grown_with (edit md.c) (growing_in e md.part)).amended b → Contains (objects_of w.a.listings) b.was.object
  in_listed b at = (listed_directory (Layout.New w.a.m) w.a.listings w.a.seen.sound b.was (found_all e md.part b at)).0
