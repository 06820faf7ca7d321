-- `rename` by which a directory grows: what is written of it, and, without a copy, that it can be written.
use Rattle.fc_alloc.specs.declared.owner.Owner.{Owner}
use Rattle.fc_change.specs.GrownSpace.{root_of}
use Rattle.fc_change.specs.Places.{plan_in}
use Rattle.fc_change.specs.declared.change.Says.{Says}
use Rattle.fc_change.specs.declared.spaces.GrownPlace.{GrownPlace}
use Rattle.fc_changes.proofs.BasicLemmas.{clash}
use Rattle.fc_commands.proofs.GrownAroundLemmas.{one_of_two}
use Rattle.fc_commands.proofs.GrownCanLemmas as can
use Rattle.fc_commands.proofs.GrownMoveEditLemmas.{AllSaidNow, IsSaidNow, become}
use Rattle.fc_commands.proofs.GrownMoveGrowsLemmas.{big, rooted}
use Rattle.fc_commands.proofs.GrownMoveMadeLemmas.{EditedRename, IsPlacedEdit, MadeEdit, MadeMove, moving_of, none_given, placed_move, up_in}
use Rattle.fc_commands.proofs.GrownMoveNodeLemmas.{growing_in}
use Rattle.fc_commands.proofs.GrownMoveReadyLemmas.{PlainRename}
use Rattle.fc_commands.proofs.GrownMoveSaidLemmas.{it, l, layout, listed}
use Rattle.fc_commands.proofs.GrownMoveWalkLemmas as walk
use Rattle.fc_commands.proofs.GrownMoveWantLemmas.{GrownRename, IsPlacedRename}
use Rattle.fc_commands.proofs.GrownMoveWantLemmas as want
use Rattle.fc_commands.proofs.GrownPutLemmas.{MayHave, in_order, may_have, places}
use Rattle.fc_commands.proofs.GrownRootLemmas.{version_of}
use Rattle.fc_commands.proofs.MovePieceLemmas.{all_apart, among_flat}
use Rattle.fc_commands.proofs.NewArrivalLemmas.{dir_room}
use Rattle.fc_commands.proofs.PieceLemmas.{all_low}
use Rattle.fc_commands.proofs.TwoPieceLemmas.{AreRoom, room_both}
use Rattle.fc_holdings.specs.Holdings.{TellsVersion}
use Rattle.fc_edits.proofs.lemmas.LeavingLemmas.{one_of_sector}
use Rattle.fc_edits.specs.Edit.{Amended}
use Rattle.fc_edits.specs.Growing.{grown as grown_with}
use Rattle.fc_image.proofs.CommandLemmas.{same_by_folds}
use Rattle.fc_image.proofs.EntriesLemmas.{later as contains_later}
use Rattle.fc_image.proofs.HolesLemmas.{apart_at, apart_from}
use Rattle.fc_image.proofs.PathsLemmas.{itself}
use Rattle.fc_image.specs.Layout.{Layout, disc_sectors, is_among, is_apart}
use Rattle.fc_image.specs.Objects.{objects_of}
use Rattle.fc_image.specs.Opening.{reserved_in}
use Rattle.fc_image.specs.Sound.{AreSound}
use Rattle.fc_image.specs.Walk.{Listing, Object}
use Rattle.fc_laws.proofs.lemmas.agree.BeforeLemmas.{agreed_law}
use Rattle.fc_laws.specs.agree.Agreed.{AgreeOn}
use Rattle.fc_laws.specs.nodes.Edits.{Nodes}
use Rattle.fc_names.specs.Names.{is_same_path}
use Rattle.fc_newmap.specs.Map.{Map, map_sectors}
use Rattle.fc_objects.specs.Extents.{sectors_in}
use Rattle.fc_record.specs.declared.Kind.{Kind}
use Rattle.fc_tree.proofs.MemberLemmas.{contains_here, in_map}
use Rattle.fc_tree.proofs.PlaceLemmas.{one_path}
use Rattle.fc_tree.proofs.SoundLemmas.{same_listing}
use Rattle.fc_tree.proofs.WalkedLemmas.{listed_directory}
use Rattle.fc_tree.specs.Nodes.{number_of}
use Rattle.fc_tree.specs.declared.node.Node.{Node}
use Rattle.fc_writing.specs.New.{CanWrite}
use Rattle.fc_writing.specs.Ready.{CanPut, IsEnough, IsSourceEnough, copied_place, from_of, place_of, source_from, source_place, to_of, written_place}
use Rattle.fc_writing.specs.Steps.{CanStep, HasStepped}
use Rattle.fc_writing.specs.declared.ready.Piece.{Piece}
use Rattle.fc_writing.specs.declared.ready.Source.{Source}
use Rattle.fc_writing.specs.declared.ready.Source.TheVariants as sources
use Rattle.fc_writing.specs.declared.ready.Transfer.{Transfer}
use Rattle.std.proofs.Common.{All, Bool, List, Option, Some, [], ap, append_assoc, ap₂, arith, cond, false, flat_map, length, map, refl, subst, sym, true, ℕ, ⊎_elim, ◌++◌, ◌<◌, ◌∙◌, ◌∷◌, ◌≡◌, ◌≤◌}
use Rattle.std.proofs.lemmas.Bool.{false_from_ne_true as unless}
use Rattle.std.proofs.lemmas.List.{append-nil}
use Rattle.std.proofs.lemmas.List.Elements.{All-nil, Contains-append_left, Contains-append_right}
use Rattle.std.proofs.lemmas.List.Sorted.{Contains-permutation, IsPermutation-append_left, IsPermutation-map, IsPermutation-sym, IsPermutation-trans}
use Rattle.std.specs.Prelude.{Contains, IsPermutation}

-- ---- directories that are listed

module _ (kind : Kind) (m : Map) (nodes : Nodes) (owners : List Owner) (root : Node) (listings : List Listing) (agreed : AgreeOn kind m nodes owners root listings) where
  abbrev n : ℕ
  n = disc_sectors (Layout.New m)

  abbrev mapped : List ℕ
  mapped = map_sectors m.geometry

  sound : AreSound (Layout.New m) listings
  sound = agreed_law.sound kind m nodes owners root listings agreed

  among : (d : Listing) → Contains listings d → Contains (objects_of listings) d.object
  among d at = (listed_directory (Layout.New m) listings sound d at).0

  -- One that stands before some others is none of them.
  apart_dirs : (front ks back : List Listing) → IsPermutation listings (front ++ (ks ++ back)) → (d : Listing) → Contains listings d → Contains front d → is_apart d.object.sectors (places ks) ≡ true
  apart_dirs front ks back all d listed at =
      apart_from d.object.sectors (places ks)
      (λ s here there.
      let j = among_flat (λ (j : Listing). j.object.sectors) ks s there in
      let j_in = Contains-permutation (front ++ (ks ++ back)) listings j.0 (IsPermutation-sym listings (front ++ (ks ++ back)) all) (Contains-append_right front (ks ++ back) j.0 (Contains-append_left ks back j.0 j.1)) in
      let same : d.object ≡ j.0.object = one_of_sector (reserved_in kind (Layout.New m)) (objects_of listings) d.object j.0.object s (all_apart kind (Layout.New m) nodes root listings agreed.walked) (among d listed) (among j.0 j_in) here j.2 in
      one_of_two (Layout.New m) listings nodes sound agreed.walked.held front (ks ++ back) all d j.0 at (Contains-append_left ks back j.0 j.1) (ap (λ (o : Object). is_same_path o.path j.0.object.path) same ∙ itself j.0.object.path))

  pub dirs_room : (front ks back : List Listing) → IsPermutation listings (front ++ (ks ++ back)) → AreRoom (disc_sectors (Layout.New m)) (map_sectors m.geometry) (places ks)
  dirs_room front [] back all = record { low = λ s e. absurd (cc); once = λ i j before high. absurd (omega (arith, high, before)); beside = refl }
  dirs_room front (d ∷ ks) back all =
      let d_in = Contains-permutation (front ++ (d ∷ (ks ++ back))) listings d (IsPermutation-sym listings (front ++ (d ∷ (ks ++ back))) all) (Contains-append_right front (d ∷ (ks ++ back)) d (contains_here d (ks ++ back))) in
      let next : IsPermutation listings ((front ++ d ∷ []) ++ (ks ++ back)) = subst (IsPermutation listings) (sym (append_assoc front (d ∷ []) (ks ++ back))) all in
      room_both n mapped d.object.sectors (places ks) (dir_room kind m nodes owners root listings agreed d.object (among d d_in)) (dirs_room (front ++ d ∷ []) ks back next)
      (apart_dirs (front ++ d ∷ []) ks back next d d_in (Contains-append_right front (d ∷ []) d (contains_here d [])))

  -- So one that grows to these sectors, and some others, have their sectors together.
  pub grown_room : (d : Listing) (ks back : List Listing) → IsPermutation listings ((d ∷ []) ++ (ks ++ back)) → (grown : List ℕ) → MayHave kind m nodes owners root listings agreed d grown
      → AreRoom (disc_sectors (Layout.New m)) (map_sectors m.geometry) (grown ++ places ks)
  grown_room d ks back all grown g =
      room_both n mapped grown (places ks) g.room (dirs_room (d ∷ []) ks back all)
      (apart_from grown (places ks)
      (λ s here there.
      let j = among_flat (λ (j : Listing). j.object.sectors) ks s there in
      let j_in = Contains-permutation ((d ∷ []) ++ (ks ++ back)) listings j.0 (IsPermutation-sym listings ((d ∷ []) ++ (ks ++ back)) all) (Contains-append_right (d ∷ []) (ks ++ back) j.0 (Contains-append_left ks back j.0 j.1)) in
      ⊎_elim
      (λ same. one_of_two (Layout.New m) listings nodes sound agreed.walked.held (d ∷ []) (ks ++ back) all d j.0 (contains_here d []) (Contains-append_left ks back j.0 j.1)
      (ap (λ (o : Object). is_same_path d.object.path o.path) same ∙ itself d.object.path))
      (λ other. clash (is_among grown s) here (apart_at j.0.object.sectors grown s other j.2)) (g.beside j.0.object (among j.0 j_in))))

-- ---- of the rename

module _ (w : EditedRename) (md : MadeEdit w) where
  abbrev q : GrownRename
  q = w.q

  abbrev P : GrownPlace
  P = (want.grown w.q).0

  abbrev then : Object → Object
  then = become q w.e

  -- the first that is told is the one that grows
  first_of : (bs : List Amended) → AllSaidNow w.q then (up_in w.q (it w.q)) bs (md.said ∷ md.others_said) (md.ready.own ∷ md.ready.pieces)
      → (a : Amended) × (rest : List Amended) × (bs ≡ a ∷ rest) × IsSaidNow w.q then (up_in w.q (it w.q)) a md.said md.ready.own × AllSaidNow w.q then (up_in w.q (it w.q)) rest md.others_said md.ready.pieces
  first_of [] all = absurd all
  first_of (a ∷ rest) all = (a, rest, refl, all.0, all.1)

  pub first : (a : Amended) × (rest : List Amended) × (md.order ≡ a ∷ rest) × IsSaidNow w.q then (up_in w.q (it w.q)) a md.said md.ready.own
      × AllSaidNow w.q then (up_in w.q (it w.q)) rest md.others_said md.ready.pieces
  first = first_of md.order md.all

  abbrev others : List Listing
  others = map (λ (a : Amended). a.was) first.1

  first_is : first.0.was ≡ w.q.seen.known.destination.listing
  first_is =
      let at : number_of q.nodes first.0.was.object.path ≡ Some P.directory.node = first.3.number_at ∙ ap (λ (n : ℕ). let y : Option ℕ = Some n in y) (first.3.number_is ∙ md.said_node) in
      same_listing (layout q) q.listings q.seen.sound first.0.was.object.path first.0.was (l q) first.3.found (listed q) (itself first.0.was.object.path)
      (same_by_folds first.0.was.object.path (l q).object.path (one_path q.nodes P.directory.node (length first.0.was.object.path) first.0.was.object.path (l q).object.path refl at (walk.number q)))

  -- They are the directories of the walk, with those that stay.
  all_listed : IsPermutation w.q.listings ((w.q.seen.known.destination.listing ∷ []) ++ (others ++ md.same))
  all_listed =
      let were = map (λ (a : Amended). a.was) (grown_with w.e (growing_in w md)).amended in
      let turned : IsPermutation were (l q ∷ others) =
      subst (λ (ds : List Listing). IsPermutation were ds) (ap (map (λ (a : Amended). a.was)) first.2 ∙ ap (λ (d : Listing). d ∷ others) first_is)
      (IsPermutation-map (λ (a : Amended). a.was) (grown_with w.e (growing_in w md)).amended md.order md.order_is) in
      IsPermutation-trans q.listings (were ++ md.same) ((l q ∷ others) ++ md.same) md.found (IsPermutation-append_left md.same were (l q ∷ others) turned)

  pub among_listed : (a : Amended) → Contains first.1 a → Contains w.q.listings a.was
  among_listed a at =
      Contains-permutation ((l q ∷ []) ++ (others ++ md.same)) q.listings a.was (IsPermutation-sym q.listings ((l q ∷ []) ++ (others ++ md.same)) all_listed)
      (contains_later (l q) a.was (others ++ md.same) (Contains-append_left others md.same a.was (in_map (λ (b : Amended). b.was) first.1 a at)))

  -- each other one keeps its sectors
  keeps : (a : Amended) → Contains first.1 a → (become w.q w.e a.was.object).sectors ≡ a.was.object.sectors
  keeps a at =
      let other : is_same_path (l q).object.path a.was.object.path ≡ false =
      unless (is_same_path (l q).object.path a.was.object.path)
      (λ same. absurd (one_of_two (layout q) q.listings q.nodes q.seen.sound q.seen.held (l q ∷ []) (others ++ md.same) all_listed (l q) a.was (contains_here (l q) [])
      (Contains-append_left others md.same a.was (in_map (λ (b : Amended). b.was) first.1 a at)) same)) in
      ap (λ (b : Bool). let y : Object = cond b (record (w.e.turn a.was.object) { entry = record (w.e.turn a.was.object).entry { address = P.directory.address; len = P.directory.len }; sectors = sectors_in P.extents.items }) (w.e.turn a.was.object) in y.sectors) other
      ∙ (md.keeps a.was (among_listed a at)).sectors

  pieces_place : (bs : List Amended) (ss : List Says) (ps : List Piece) → AllSaidNow w.q then (up_in w.q (it w.q)) bs ss ps → ((a : Amended) → Contains bs a → (then a.was.object).sectors ≡ a.was.object.sectors)
      → flat_map place_of ps ≡ places (map (λ (a : Amended). a.was) bs)
  pieces_place [] [] [] all same = refl
  pieces_place [] [] (p ∷ ps) all same = absurd all
  pieces_place [] (s ∷ ss) ps all same = absurd all
  pieces_place (a ∷ bs) [] ps all same = absurd all
  pieces_place (a ∷ bs) (s ∷ ss) [] all same = absurd all
  pieces_place (a ∷ bs) (s ∷ ss) (p ∷ ps) all same =
      ap₂ (λ (x y : List ℕ). x ++ y) (all.0.place ∙ same a (contains_here a bs)) (pieces_place bs ss ps all.1 (λ b at. same b (contains_later a b bs at)))

  -- ---- what is written

  -- the directories, the grown one first
  abbrev pub dirs_place : List ℕ
  dirs_place = sectors_in (want.grown w.q).0.extents.items ++ places (map (λ (a : Amended). a.was) first.1)

  pub written_is : written_place w.pr.ready ≡ source_place w.pr.ready.source ++ dirs_place
  written_is =
      (λ i. (source_place w.pr.ready.source ++ (flat_map to_of (w.ready.carried i) ++ flat_map place_of w.pr.ready.early.items)) ++ flat_map place_of w.pr.ready.late.items)
      ∙ append_assoc (source_place w.pr.ready.source) (flat_map place_of w.pr.ready.early.items) (flat_map place_of w.pr.ready.late.items)
      ∙ ap (λ (xs : List ℕ). source_place w.pr.ready.source ++ xs)
      (in_order (layout q) q.nodes P md.said md.others_said w.ready.made w.pr.ready md.ready
      ∙ ap₂ (λ (ps : List Piece) (xs : List ℕ). flat_map place_of ps ++ (sectors_in P.extents.items ++ xs)) md.none_made (pieces_place first.1 md.others_said md.ready.pieces first.4 keeps))

  pub copied_is : copied_place w.pr.ready ≡ source_from w.pr.ready.source
  copied_is = (λ i. source_from w.pr.ready.source ++ flat_map from_of (w.ready.carried i)) ∙ append-nil (source_from w.pr.ready.source)

-- ---- as it is placed

module _ (w : EditedRename) (pl : IsPlacedEdit w) (md : MadeEdit w) where
  pub dirs_there : AreRoom (disc_sectors (Layout.New w.q.m)) (map_sectors w.q.m.geometry) (dirs_place w md)
  dirs_there =
      grown_room w.q.kind w.q.m w.q.nodes w.q.owners w.q.root w.q.listings w.q.agreed (l w.q) (others w md) md.same (all_listed w md) (sectors_in (want.grown w.q).0.extents.items)
      (may_have w.q.kind w.q.m w.q.nodes w.q.owners w.q.root w.q.listings w.q.agreed (l w.q) (listed w.q) (walk.cut w.q).0 w.q.growth (plan_in pl.placed.placing) pl.placed.dir (want.grown w.q).0 (walk.to_grow w.q pl.placed))

  -- ---- the map

  -- The record of a disc whose directories grow can have the root's new place.
  pub writes : TellsVersion (Layout.New w.q.m) → (n : ℕ) → CanPut n (map_sectors w.q.m.geometry) w.pr.ready → CanWrite n w.q.m w.pr.ready
  writes tells n can_put =
      let fit = walk.fit w.q pl.placed pl.unused in
      let takes = walk.takes w.q pl.placed pl.unused in
      let version = version_of w.q.m tells (walk.form w.q) in
      record {
        put = can_put;
        take = subst (CanStep w.q.m) (sym w.ready.take)
            (can.can_take w.q.m (plan_in pl.placed.placing) pl.placed.dir (walk.alone w.q pl.placed) (want.back w.q pl.placed) fit (root_of (Some (want.grown w.q).0)) w.q.agreed.is_map w.q.spaces.take takes (rooted w.q pl.placed (big w md) version));
        give = λ mid done. subst (CanStep mid) (sym w.ready.give)
            (can.can_give w.q.m (plan_in pl.placed.placing) pl.placed.dir (walk.alone w.q pl.placed) (want.back w.q pl.placed) fit (root_of (Some (want.grown w.q).0)) w.q.agreed.is_map mid w.q.spaces.take w.q.spaces.give takes (want.gives w.q pl.placed) (subst (HasStepped w.q.m mid) w.ready.take done));
      }

-- ---- without a copy

module _ (w : PlainRename) (placed : IsPlacedRename w.q) (md : MadeMove w) where
  abbrev e : EditedRename
  e = moving_of w md.c

  abbrev pl : IsPlacedEdit (moving_of w md.c)
  pl = placed_move w md.c placed

  no_source : w.pr.ready.source ≡ sources.Nothing
  no_source = none_given w md.part.turned

  copied_none : copied_place w.pr.ready ≡ []
  copied_none = copied_is e md.part ∙ ap source_from no_source

  all_there : AreRoom (disc_sectors (Layout.New w.q.m)) (map_sectors w.q.m.geometry) (written_place w.pr.ready)
  all_there =
      subst (AreRoom (disc_sectors (layout w.q)) (map_sectors w.q.m.geometry)) (sym (written_is e md.part ∙ ap (λ (s : Source). source_place s ++ dirs_place e md.part) no_source)) (dirs_there e pl md.part)

  can_put : (n : ℕ) → disc_sectors (Layout.New w.q.m) ≤ n → CanPut n (map_sectors w.q.m.geometry) w.pr.ready
  can_put n most = record {
    on_disk = all_low n (written_place w.pr.ready) (λ s e. let low = all_there.low s e in omega (arith, low, most));
    from_disk = subst (λ (xs : List ℕ). All (λ s. s < n) xs) (sym copied_none) (All-nil (λ s. s < n));
    once = all_there.once;
    beside = all_there.beside;
    others = subst (λ (xs : List ℕ). is_apart xs (written_place w.pr.ready) ≡ true) (sym copied_none) refl;
    unmapped = subst (λ (xs : List ℕ). is_apart xs (map_sectors w.q.m.geometry) ≡ true) (sym copied_none) refl;
    source_enough = subst IsSourceEnough (sym no_source) tt;
    enough = subst (λ (ts : List Transfer). All IsEnough ts) (sym w.ready.carried) (All-nil IsEnough);
  }

  pub can_write : TellsVersion (Layout.New w.q.m) → (n : ℕ) → disc_sectors (Layout.New w.q.m) ≤ n → CanWrite n w.q.m w.pr.ready
  can_write tells n most = writes e pl md.part tells n (can_put n most)
