-- An entry comes to a directory that grows, in the safe mode: what each directory says, told for the place that it had; the laws of edits speak
-- of it there. The one that grows has the sectors of its new length by the old map, if it has room there.
use Rattle.std.proofs.Common.{◌≡◌, ◌<◌, ◌≤◌, ◌/◌, ◌^◌, zero, suc, ℕ, Bool, true, false, cond, List, [], ◌∷◌, length, take, drop, refl, sym, ap, subst, ◌∙◌, arith, Option, Some, None}
use Rattle.std.specs.Prelude.{Contains}
use Rattle.std.specs.FinMap.{get}
use Rattle.std.specs.Int.{div_ceil}
use Rattle.std.proofs.lemmas.List.{length-map}
use Rattle.fc_device.specs.declared.disk.Extent.{Extent}
use Rattle.fc_image.specs.Layout.{Layout, id_of, low_of, low_start, sectors_at}
use Rattle.fc_image.specs.Moves.{sectors_or_none}
use Rattle.fc_image.specs.Walk.{Object}
use Rattle.fc_image.proofs.EntriesLemmas.{later as contains_later}
use Rattle.fc_objects.specs.Extents.{sectors_in}
use Rattle.fc_tree.specs.Counts.{address_in}
use Rattle.fc_tree.proofs.MemberLemmas.{contains_here}
use Rattle.fc_writing.specs.declared.ready.Piece.{Piece}
use Rattle.fc_writing.specs.declared.ready.Ready.{Ready}
use Rattle.fc_change.specs.declared.change.Says.{Says}
use Rattle.fc_change.specs.declared.spaces.GrownPlace.{GrownPlace}
use Rattle.fc_change.specs.GrownSpace.{has_room, plan_sectors}
use Rattle.fc_change.specs.Prepared.{IsPieceOf}
use Rattle.fc_commands.proofs.GrownPieceLemmas.{AllPieces, IsGrownReady}
use Rattle.fc_commands.proofs.NodeLemmas.{each_at}
use Rattle.fc_commands.proofs.StayingLemmas.{count as sector_count}
use Rattle.fc_safecommands.proofs.GrownArrivalLemmas.{growing, h, sound}
use Rattle.fc_safecommands.proofs.GrownArrivalStageLemmas.{first}
use Rattle.fc_safecommands.proofs.GrownComesLemmas.{GrownRun, p, tells}
use Rattle.fc_safecommands.proofs.GrownLaidLemmas.{grown}
use Rattle.fc_safecommands.proofs.GrownStirLemmas.{few_sectors, grown_few, lies_in, whole}
use Rattle.fc_safecommands.proofs.GrownTellsLemmas as told_of
use Rattle.fc_safecommands.proofs.GrownWrittenLemmas.{IsPieceOfTold, IsTold, TellsThese, piece_said}
use Rattle.fc_safecommands.proofs.OldPlaceLemmas.{one_by_one, one_by_one_is}

take_few : (n : ℕ) (xs : List ℕ) → length (take n xs) ≤ n
take_few zero xs = omega arith
take_few (suc n) [] = omega arith
take_few (suc n) (x ∷ xs) = let few = take_few n xs in omega (arith, few)

module _ (w : GrownRun) where
  -- ---- the place that it had, at its new length

  -- it has room there
  abbrev pub room_there : Bool
  room_there = has_room w.a.m (h w.a) w.a.growth

  abbrev pub its : List ℕ
  its = cond (has_room w.a.m (h w.a) w.a.growth) (sectors_or_none (sectors_at (Layout.New w.a.m) (address_in w.a.nodes w.a.growth.node) w.a.growth.len)) (grown (growing w.a) w.s w.placed)

  count_few : div_ceil w.a.growth.len w.a.m.geometry.sector < 2 ^ 32
  count_few = let few = grown_few (growing w.a) in let same = whole (growing w.a) in omega (arith, few, same)

  old_few : length (sectors_or_none (sectors_at (Layout.New w.a.m) (address_in w.a.nodes w.a.growth.node) w.a.growth.len)) < 2 ^ 63
  old_few = by (sectors_at (Layout.New w.a.m) (address_in w.a.nodes w.a.growth.node) w.a.growth.len) refl
    where
      by : (o : Option (List ℕ)) → sectors_at (Layout.New w.a.m) (address_in w.a.nodes w.a.growth.node) w.a.growth.len ≡ o → length (sectors_or_none o) < 2 ^ 63
      by None e = omega arith
      by (Some ss) e = let few = count_few in let same = sector_count (Layout.New w.a.m) (address_in w.a.nodes w.a.growth.node) w.a.growth.len ss e in omega (arith, few, same)

  new_few : length (grown (growing w.a) w.s w.placed) < 2 ^ 63
  new_few =
      let f = first w.a w.s w.placed in
      subst (λ (ss : List ℕ). length ss < 2 ^ 63) (sym f.sectors)
      (let few = count_few in
      let most = take_few (div_ceil w.a.growth.len w.a.m.geometry.sector) (drop (low_start w.a.m (low_of (p w).directory.address)) (plan_sectors w.a.m.geometry f.plan)) in
      omega (arith, few, most))

  pub its_few : length its < 2 ^ 63
  its_few = by room_there
    where
      by : (b : Bool) → length (cond b (sectors_or_none (sectors_at (Layout.New w.a.m) (address_in w.a.nodes w.a.growth.node) w.a.growth.len)) (grown (growing w.a) w.s w.placed)) < 2 ^ 63
      by true = old_few
      by false = new_few

  pub extents_few : (ss : List ℕ) → length ss < 2 ^ 63 → length (one_by_one ss) < 2 ^ 63
  extents_few ss few = let same = length-map ss (λ (s : ℕ). let e : Extent = record { first = s; sectors = 1 } in e) in omega (arith, few, same)

  -- The directory grows there.
  abbrev pub p' : GrownPlace
  p' = record (p w) {
    extents = record (p w).extents { items = one_by_one its; len = length (one_by_one its); cap = length (one_by_one its); ok = (refl, omega arith); small = extents_few its its_few };
    moves = false;
  }

  pub its_is : sectors_in p'.extents.items ≡ its
  its_is = one_by_one_is its

  -- ---- pieces

  abbrev pub tells_these : TellsThese (growing w.a) w.c
  tells_these = told_of.tells w.a w.s w.placed w.c w.change

  -- what is really written of it
  pub written : (q : Says) → Contains w.c.says.items q
      → (d : Object) × Contains tells_these.ds d × IsTold (growing w.a) q d × (n : Piece) × Contains w.ready.early.told n × IsPieceOfTold (growing w.a) w.s w.placed w.c tells_these w.r w.ready q d n
  written q at = piece_said (growing w.a) w.s w.placed w.c tells_these w.r w.ready q at

  abbrev at_sectors : (ss : List ℕ) → length ss < 2 ^ 63 → Piece → Piece
  at_sectors ss few n = record {
    place = record n.place { items = one_by_one ss; len = length (one_by_one ss); cap = length (one_by_one ss); ok = (refl, omega arith); small = extents_few ss few };
    bytes = n.bytes;
  }

  few_there : (q : Says) (d : Object) → IsTold (growing w.a) q d → length d.sectors < 2 ^ 63
  few_there q d told =
      let room = (lies_in (growing w.a) d told.is.there told.is.some).room in
      let few = few_sectors (growing w.a) (id_of d.entry.address) in omega (arith, room, few)

  old_piece : (q : Says) → Contains w.c.says.items q → (n : Piece) × IsPieceOf (Layout.New w.a.m) w.a.nodes q n
  old_piece q at =
      let t = written q at in
      let has = w.a.agreed.walked.held.each t.0 t.2.is.there in (
        at_sectors t.0.sectors (few_there q t.0 t.2) t.3,
        record {
          node = _;
          there = ap (get w.a.nodes) (same_number q.node has.number (sym t.2.is.number ∙ has.at_path)) ∙ has.is;
          place = each_at (Layout.New w.a.m) w.a.listings (sound w.a) t.0 t.2.is.there ∙ ap (λ (ss : List ℕ). let o : Option (List ℕ) = Some ss in o) (sym (one_by_one_is t.0.sectors));
          drafted = record { bytes = t.5.drafted.bytes; length_is = t.5.drafted.length_is; sayable = t.5.drafted.sayable };
        },
      )
    where
      same_number : (a b : ℕ) → (let o : Option ℕ = Some a in o) ≡ Some b → a ≡ b
      same_number a b e = cc

  old_pieces : (qs : List Says) → ((q : Says) → Contains qs q → Contains w.c.says.items q) → (ps : List Piece) × AllPieces (Layout.New w.a.m) w.a.nodes qs ps × (length ps ≡ length qs)
  old_pieces [] all = ([], tt, refl)
  old_pieces (q ∷ qs) all =
      let n = old_piece q (all q (contains_here q qs)) in
      let rest = old_pieces qs (λ k at. all k (contains_later q k qs at)) in
      (n.0 ∷ rest.0, (n.1, rest.1), ap suc rest.2)

  all_others : (q : Says) → Contains (tells w).others q → Contains w.c.says.items q
  all_others q at = subst (λ (ss : List Says). Contains ss q) (sym (tells w).says) (contains_later (tells w).said q (tells w).others at)

  its_own : Contains w.c.says.items (tells w).said
  its_own = subst (λ (ss : List Says). Contains ss (tells w).said) (sym (tells w).says) (contains_here (tells w).said (tells w).others)

  own_piece : Piece
  own_piece = at_sectors its its_few (written (tells w).said its_own).3

  others_old : (ps : List Piece) × AllPieces (Layout.New w.a.m) w.a.nodes (tells w).others ps × (length ps ≡ length (tells w).others)
  others_old = old_pieces (tells w).others all_others

  pub r' : Ready
  r' = record w.r {
    early = record w.r.early { items = []; len = 0; cap = 0; ok = (refl, omega arith); small = omega arith };
    late = record w.r.late { items = own_piece ∷ others_old.0; len = length (own_piece ∷ others_old.0); cap = length (own_piece ∷ others_old.0); ok = (refl, omega arith); small = few };
  }
    where
      few : length (own_piece ∷ others_old.0) < 2 ^ 63
      few =
          let ok = w.c.says.ok in
          let small = w.c.says.small in
          let same = ap (λ (ss : List Says). length ss) (tells w).says in
          let many = others_old.2 in omega (arith, ok, small, same, many)

  -- As if all were written there.
  pub ready : IsGrownReady (Layout.New w.a.m) w.a.nodes p' (tells w).said (tells w).others [] r'
  unfolding r' own_piece written
  ready = record {
    own = own_piece;
    drafted = (let t = written (tells w).said its_own in record { bytes = t.5.drafted.bytes; length_is = t.5.drafted.length_is; sayable = t.5.drafted.sayable });
    place = refl;
    pieces = others_old.0;
    are = others_old.1;
    early = refl;
    late = refl;
  }
