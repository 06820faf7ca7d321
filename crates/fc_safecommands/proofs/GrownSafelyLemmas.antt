-- A job by which a directory grows, in the safe mode: in which sectors its growth is told, and that it grows so.
use Rattle.std.proofs.Common.{◌≡◌, ◌<◌, ◌≤◌, ◌*◌, ◌^◌, ◌||◌, ◌==◌, ne_eqb, ℕ, suc, zero, Bool, true, false, not, cond, length, take, drop, List, [], ◌∷◌, inl, inr, refl, sym, ap, ap₂, subst, ◌∙◌, arith, Option, Some, None}
use Rattle.std.specs.Int.{div_ceil}
use Rattle.std.specs.Option.{option_map_or}
use Rattle.std.proofs.lemmas.Bool.{and_parts}
use Rattle.std.proofs.lemmas.List.{length-map}
use Rattle.fc_alloc.specs.declared.owner.Owner.{Owner}
use Rattle.fc_device.specs.declared.disk.Extent.{Extent}
use Rattle.fc_newmap.specs.Map.{Map, is_used}
use Rattle.fc_image.specs.Layout.{Layout, dir_form, id_of, is_apart, low_of, low_start, new_sectors, sectors_at}
use Rattle.fc_image.specs.Walk.{Object, object_size}
use Rattle.fc_image.specs.Objects.{objects_of}
use Rattle.fc_image.specs.effects.Short.{has_room as has_room_in, is_alone as is_alone_in, sectors_of_others}
use Rattle.fc_commands.proofs.StayingLemmas.{count as sector_count}
use Rattle.fc_edits.specs.Growing.{Growing, at_place}
use Rattle.fc_laws.specs.nodes.Edits.{Nodes}
use Rattle.fc_image.specs.Edits.{IsAt}
use Rattle.fc_image.specs.Moves.{sectors_or_none}
use Rattle.fc_safeedits.specs.Relocation.{is_moved}
use Rattle.fc_writing.specs.declared.ready.Ready.{Ready}
use Rattle.fc_writing.specs.New.{IsTaken}
use Rattle.fc_change.specs.declared.change.Change.{Change}
use Rattle.fc_change.specs.declared.job.Growth.{Growth}
use Rattle.fc_change.specs.declared.spaces.Spaces.{Spaces}
use Rattle.fc_change.specs.GrownSpace.{has_room, is_alone, plan_sectors}
use Rattle.fc_change.specs.Shortage.{has_room_by, is_alone_by}
use Rattle.fc_commands.proofs.GrownRoomLemmas.{IsNodeOf as IsOwnerOf, alone_is, room_is}
use Rattle.fc_safe.specs.FirstNeeds.{moving_out}
use Rattle.fc_safe.specs.FirstSpace.{ArePlacedFirst, address_then}
use Rattle.fc_safeedits.specs.SafeChange.{MovedParts, moves_in}
use Rattle.fc_safeedits.specs.SafeSpace.{SafeSpaceLaw}
use Rattle.fc_safeedits.specs.SafeGrowth.{IsGrownSafely}
use Rattle.fc_safecommands.specs.Anew.{IsReadyAnew}
use Rattle.fc_safecommands.proofs.GrownChangeLemmas.{moves_is}
use Rattle.fc_safecommands.proofs.GrownImageLemmas as image_of
use Rattle.fc_safecommands.proofs.GrownLaidLemmas.{at_address, grown, grown_new}
use Rattle.fc_safecommands.proofs.GrownReachLemmas.{grown_is_at, grown_reaches}
use Rattle.fc_safecommands.proofs.GrownSpaceLemmas.{unused}
use Rattle.fc_safecommands.proofs.GrownSpotLemmas as spots
use Rattle.fc_safecommands.proofs.GrownSpotLemmas.{d, d_stays, grower}
use Rattle.fc_safecommands.proofs.GrownStepLemmas as step_of
use Rattle.fc_safecommands.proofs.GrownStirLemmas.{GrowingJob, grown_few, h, long, sound, whole}
use Rattle.fc_safecommands.proofs.GrownWrittenLemmas.{TellsThese}
use Rattle.fc_safecommands.proofs.OldPlaceLemmas.{one_by_one}

some_at : (m : Map) (address n : ℕ) (ss : List ℕ) → 0 < n → new_sectors m address n ≡ Some ss → sectors_at (Layout.New m) address n ≡ Some ss
unfolding sectors_at
some_at m address n ss some at = ap (λ (b : Bool). let o : Option (List ℕ) = cond b (Some []) (new_sectors m address n) in o) (ne_eqb n 0 (λ e. omega (arith, some, e))) ∙ at

module _ (x : GrowingJob) where
  abbrev objects : List Object
  objects = objects_of x.listings

  more : 0 < x.growth.len
  more = let low = long x in omega (arith, low)

  its_owner : IsOwnerOf x.m x.nodes x.owners x.listings (d x) x.growth.node
  its_owner = record {
    is_map = x.agreed.is_map;
    sound = sound x;
    held = x.agreed.walked.held;
    owned = x.agreed.owned;
    there = (grower x).2.there;
    number = (grower x).2.number;
  }

  -- whether it has room, and is alone, by the objects
  pub room_same : has_room_in (Layout.New x.m) (objects_of x.listings) (d x, x.growth.len) ≡ has_room x.m (h x) x.growth
  room_same = room_is x.m x.nodes x.owners x.listings (d x) x.growth.node its_owner x.growth.len more ∙ ap (λ (a : ℕ). has_room_by x.m x.owners x.growth.node a x.growth.len) (sym (spots.address x))

  pub alone_same : is_alone_in (objects_of x.listings) (d x) ≡ is_alone (h x) x.growth
  alone_same = alone_is x.m x.nodes x.owners x.listings (d x) x.growth.node its_owner (grower x).2.some ∙ ap (λ (a : ℕ). is_alone_by x.owners x.growth.node a) (sym (spots.address x))

  -- With room it has sectors of its new length by the old map.
  old_at : has_room x.m (h x) x.growth ≡ true → sectors_at (Layout.New x.m) (d x).entry.address x.growth.len ≡ Some (sectors_or_none (sectors_at (Layout.New x.m) (d x).entry.address x.growth.len))
  old_at some =
      let t = by (new_sectors x.m (d x).entry.address x.growth.len) refl (and_parts (not (id_of (d x).entry.address == 2)) _ (room_same ∙ some)).1 in
      let at : sectors_at (Layout.New x.m) (d x).entry.address x.growth.len ≡ Some t.0 = some_at x.m (d x).entry.address x.growth.len t.0 more t.1 in
      at ∙ ap (λ (ss : List ℕ). let o : Option (List ℕ) = Some ss in o) (sym (ap sectors_or_none at))
    where
      by : (o : Option (List ℕ)) → new_sectors x.m (d x).entry.address x.growth.len ≡ o → option_map_or (λ (ss : List ℕ). is_apart ss (sectors_of_others objects (d x))) o false ≡ true
          → (ss : List ℕ) × (new_sectors x.m (d x).entry.address x.growth.len ≡ Some ss)
      by None f t = absurd (cc)
      by (Some ss) f t = (ss, f)

  module _ (s : Spaces) (placed : ArePlacedFirst x.m (h x) x.job x.wants s) where
    -- ---- the sectors in which it is told

    abbrev old : List ℕ
    old = sectors_or_none (sectors_at (Layout.New x.m) (d x).entry.address x.growth.len)

    -- With room those that it would have by the old map, else its new ones.
    abbrev pub shown : List ℕ
    shown = cond (has_room x.m (h x) x.growth) (sectors_or_none (sectors_at (Layout.New x.m) (d x).entry.address x.growth.len)) (grown x s placed)

    count_few : div_ceil x.growth.len x.m.geometry.sector < 2 ^ 32
    count_few = let few = grown_few x in let same = whole x in omega (arith, few, same)

    take_few : (n : ℕ) (xs : List ℕ) → length (take n xs) ≤ n
    take_few zero xs = omega arith
    take_few (suc n) [] = omega arith
    take_few (suc n) (k ∷ xs) = let few = take_few n xs in omega (arith, few)

    pub few : length (one_by_one shown) < 2 ^ 63
    few =
        let same = length-map shown (λ (k : ℕ). let e : Extent = record { first = k; sectors = 1 } in e) in
        let least = by (has_room x.m (h x) x.growth) in omega (arith, same, least)
      where
        of_old : (o : Option (List ℕ)) → sectors_at (Layout.New x.m) (d x).entry.address x.growth.len ≡ o → length (sectors_or_none o) < 2 ^ 63
        of_old None e = omega arith
        of_old (Some ss) e = let few = count_few in let same = sector_count (Layout.New x.m) (d x).entry.address x.growth.len ss e in omega (arith, few, same)

        of_new : length (grown x s placed) < 2 ^ 63
        of_new =
            let f = (step_of.grown_at x s placed).2 in
            subst (λ (ss : List ℕ). length ss < 2 ^ 63) (sym f.sectors)
            (let few = count_few in
            let most = take_few (div_ceil x.growth.len x.m.geometry.sector) (drop (low_start x.m (low_of (step_of.grown_at x s placed).0.directory.address)) (plan_sectors x.m.geometry f.plan)) in
            omega (arith, few, most))

        by : (b : Bool) → length (cond b old (grown x s placed)) < 2 ^ 63
        by true = of_old (sectors_at (Layout.New x.m) (d x).entry.address x.growth.len) refl
        by false = of_new

    -- as many as its new ones
    pub shown_many : length (grown x s placed) ≡ div_ceil x.growth.len x.m.geometry.sector → length shown ≡ div_ceil x.growth.len x.m.geometry.sector
    shown_many many = by (has_room x.m (h x) x.growth) refl
      where
        by : (b : Bool) → has_room x.m (h x) x.growth ≡ b → length (cond (has_room x.m (h x) x.growth) old (grown x s placed)) ≡ div_ceil x.growth.len x.m.geometry.sector
        by true e = ap (λ (b : Bool). length (cond b old (grown x s placed))) e ∙ sector_count (Layout.New x.m) (d x).entry.address x.growth.len old (old_at e)
        by false e = ap (λ (b : Bool). length (cond b old (grown x s placed))) e ∙ many

    -- ---- by room

    stays_with : (r a : Bool) → has_room x.m (h x) x.growth ≡ r → is_alone (h x) x.growth ≡ a → moving_out x.m (h x) (Some x.growth) ≡ cond (r || a) None (Some x.growth)
    stays_with r a er ea = ap₂ (λ (b c : Bool). let o : Option Growth = cond (b || c) None (Some x.growth) in o) er ea

    pub address_by : (o : Option Growth) → moving_out x.m (h x) (Some x.growth) ≡ o → (step_of.grown_at x s placed).0.directory.address ≡ address_then o (d x).entry.address (step_of.grown_at x s placed).2.plan
    address_by o e = at_address x s placed (d x) (grower x).2 (spots.address x) o e

    -- what is known of it, as it grows
    module _ (c : Change) (tells : TellsThese x c) (r : Ready) (is : IsReadyAnew x.m (h x) x.wants c s r) (m' : Map) (taken : IsTaken x.m r m') (law : SafeSpaceLaw) (nodes' : Nodes) (owners' : List Owner) where
      abbrev parts : MovedParts
      parts = image_of.moved x s placed c tells r is m' taken law nodes' owners'

      module _ (g : Growing) (its : g.o ≡ d x) (address : g.address ≡ (step_of.grown_at x s placed).0.directory.address) (len : g.len ≡ x.growth.len) (sectors : g.sectors ≡ shown)
          (size : object_size (dir_form (Layout.New x.m)) (at_place g g.o).entry ≡ x.growth.len) where
        abbrev geometry : m'.geometry ≡ x.m.geometry
        geometry = image_of.geometry x s placed c tells r is m' taken

        room_in : has_room_in (Layout.New x.m) (objects_of x.listings) (g.o, g.len) ≡ has_room x.m (h x) x.growth
        room_in = (λ i. has_room_in (Layout.New x.m) objects (its i, len i)) ∙ room_same

        alone_in : is_alone_in (objects_of x.listings) g.o ≡ is_alone (h x) x.growth
        alone_in = ap (is_alone_in objects) its ∙ alone_same

        still : moving_out x.m (h x) (Some x.growth) ≡ None → g.address ≡ g.o.entry.address
        still e = address ∙ address_by None e ∙ sym (ap (λ (o : Object). o.entry.address) its)

        moved_too : moving_out x.m (h x) (Some x.growth) ≡ None → is_moved (moves_in parts) g.o ≡ true
        moved_too e = subst (λ (o : Object). is_moved (moves_in parts) o ≡ true) (sym its) (moves_is x s placed (id_of (d x).entry.address) (d_stays x e).moved)

        -- in its new sectors
        new_at : sectors_at (Layout.New m') (at_place g g.o).entry.address (object_size (dir_form (Layout.New m')) (at_place g g.o).entry) ≡ Some (grown x s placed)
        new_at = grown_is_at x s placed m' geometry (step_of.taken x s placed m' (image_of.done x s placed c tells r is m' taken) law) (at_place g g.o) size address

        at_new : has_room x.m (h x) x.growth ≡ false → IsAt (Layout.New m') (at_place g g.o)
        at_new none = new_at ∙ ap (λ (ss : List ℕ). let o : Option (List ℕ) = Some ss in o) (sym (sectors ∙ ap (λ (b : Bool). cond b old (grown x s placed)) none))

        -- or in those by the old map
        at_old : has_room x.m (h x) x.growth ≡ true → IsAt (Layout.New x.m) (at_place g g.o)
        at_old some =
            ap₂ (λ (a n : ℕ). sectors_at (Layout.New x.m) a n) (still (stays_with true (is_alone (h x) x.growth) some refl) ∙ ap (λ (o : Object). o.entry.address) its) size
            ∙ old_at some
            ∙ ap (λ (ss : List ℕ). let o : Option (List ℕ) = Some ss in o) (sym (sectors ∙ ap (λ (b : Bool). cond b old (grown x s placed)) some))

        -- It grows in one of the three ways.
        pub safely : IsGrownSafely parts g
        safely = by (has_room x.m (h x) x.growth) refl (is_alone (h x) x.growth) refl
          where
            by : (a : Bool) → has_room x.m (h x) x.growth ≡ a → (b : Bool) → is_alone (h x) x.growth ≡ b → IsGrownSafely parts g
            by true room b e =
                let none = stays_with true b room e in
                inl (record {
                  room = room_in ∙ room;
                  address = still none;
                  moves = moved_too none;
                  before = at_old room;
                  reaches = grown_reaches x s placed m' geometry (step_of.taken x s placed m' (image_of.done x s placed c tells r is m' taken) law) (at_place g g.o) size address none;
                })
            by false room true e =
                let none = stays_with false true room e in
                inr (inl (record { no_room = room_in ∙ room; alone = alone_in ∙ e; address = still none; moves = moved_too none; at = at_new room }))
            by false room false e =
                let goes = stays_with false false room e in
                let plan = (step_of.grown_at x s placed).2.plan in
                let fresh = unused x plan.id (grown_new x s placed x.growth goes) in
                let at : g.address ≡ 256 * plan.id = address ∙ address_by (Some x.growth) goes in
                let id : id_of g.address ≡ plan.id = ap id_of at ∙ (let z : id_of (256 * plan.id) ≡ plan.id = omega arith in z) in
                inr (inr (record {
                  no_room = room_in ∙ room;
                  not_alone = alone_in ∙ e;
                  is_new = ap (is_used x.m) id ∙ fresh;
                  begins = ap low_of at ∙ (let z : low_of (256 * plan.id) ≡ 0 = omega arith in z);
                  at = at_new room;
                }))
