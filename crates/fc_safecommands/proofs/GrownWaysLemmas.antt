-- A job by which a directory grows: that one grows in one of the ways of the safe mode, and has its new bytes.
use Rattle.std.proofs.Common.{◌≡◌, ◌<◌, ◌≤◌, ◌*◌, ◌==◌, ◌&&◌, ◌||◌, ◌⊎◌, inl, inr, zero, suc, ℕ, Bool, true, false, not, cond, List, [], ◌∷◌, length, refl, sym, ap, ap₂, subst, ◌∙◌, arith, eq-eqb, Option, Some, None}
use Rattle.std.specs.Prelude.{Contains, is_some, nat_lt}
use Rattle.std.specs.Int.{div_ceil}
use Rattle.std.proofs.lemmas.Bool.{and_parts, lt-ltb, ne_eqb}
use Rattle.fc_names.specs.declared.name.NameForm.{NameForm}
use Rattle.fc_names.specs.declared.name.NameForm.TheVariants as forms
use Rattle.fc_alloc.specs.declared.owner.Owner.{Owner}
use Rattle.fc_record.specs.declared.Geometry.{Geometry}
use Rattle.fc_newmap.specs.Map.{Map, is_used}
use Rattle.fc_dirs.specs.Directory.{directory_size}
use Rattle.fc_image.specs.Edits.{IsAt}
use Rattle.fc_image.specs.Layout.{Layout, dir_form, id_of, low_of, new_sectors, sectors_at}
use Rattle.fc_image.specs.Moves.{object_in, sectors_or_none}
use Rattle.fc_image.specs.Objects.{has_sectors, objects_of}
use Rattle.fc_image.specs.Walk.{Listing, Object, is_directory_object, object_size}
use Rattle.fc_image.specs.effects.Short.{has_room, is_alone}
use Rattle.fc_laws.specs.nodes.Edits.{Nodes, owner_with, owners_with}
use Rattle.fc_edits.specs.Edit.{Amended}
use Rattle.fc_edits.specs.Growing.{Growing, Holder, Told}
use Rattle.fc_plan.specs.declared.plan.Plan.{Plan}
use Rattle.fc_plan.specs.Applied.{IsTakenIn}
use Rattle.fc_tree.specs.Counts.{address_in}
use Rattle.fc_writing.specs.declared.ready.Ready.{Ready}
use Rattle.fc_writing.specs.New.{IsTaken}
use Rattle.fc_change.specs.declared.change.Change.{Change}
use Rattle.fc_change.specs.declared.change.Regrowth.{Regrowth}
use Rattle.fc_change.specs.declared.job.Growth.{Growth}
use Rattle.fc_change.specs.declared.spaces.GrownPlace.{GrownPlace}
use Rattle.fc_change.specs.declared.spaces.Spaces.{Spaces}
use Rattle.fc_change.specs.GrownSpace.{has_room as has_room_there, is_alone as is_alone_there}
use Rattle.fc_change.specs.Shortage.{has_room_by, is_alone_by}
use Rattle.fc_commands.proofs.GrownRoomLemmas.{IsNodeOf, alone_is, room_is}
use Rattle.fc_commands.proofs.StayingLemmas.{count as sector_count}
use Rattle.fc_safe.specs.FirstNeeds.{moving_out}
use Rattle.fc_safe.specs.FirstSpace.{ArePlacedFirst, IsFirstGrown}
use Rattle.fc_safeedits.specs.Relocation.{is_moved}
use Rattle.fc_safeedits.specs.SafeChange.{MovedParts, moves_in}
use Rattle.fc_safeedits.specs.SafeSpace.{SafeSpaceLaw, takings_of}
use Rattle.fc_safeedits.specs.SafeGrowth.{IsGrownSafely}
use Rattle.fc_safecommands.specs.Anew.{IsReadyAnew}
use Rattle.fc_safecommands.proofs.GrownChangeLemmas.{moves_is}
use Rattle.fc_safecommands.proofs.GrownImageLemmas as image_of
use Rattle.fc_safecommands.proofs.GrownLaidLemmas.{at_address, first, grown, grown_new, long_then}
use Rattle.fc_safecommands.proofs.GrownReachLemmas.{grown_is_at, grown_reaches}
use Rattle.fc_safecommands.proofs.GrownSpaceLemmas.{unused}
use Rattle.fc_safecommands.proofs.GrownSpotLemmas.{d, grown_is}
use Rattle.fc_safecommands.proofs.GrownStepLemmas as step_of
use Rattle.fc_safecommands.proofs.GrownStepLemmas.{grown_at}
use Rattle.fc_safecommands.proofs.GrownStirLemmas.{GrowingJob, IsChanged, changed_moves, grown_some, h, long, moves, sound, whole, y}
use Rattle.fc_safecommands.proofs.GrownWrittenLemmas.{TellsThese}

-- its sectors: those of its new length by the map before, if it has room there, else those that it has then
abbrev pub its_sectors : (x : GrowingJob) (s : Spaces) → ArePlacedFirst x.m (h x) x.job x.wants s → List ℕ
its_sectors x s placed = cond (has_room_there x.m (h x) x.growth) (sectors_or_none (sectors_at (Layout.New x.m) (address_in x.nodes x.growth.node) x.growth.len)) (grown x s placed)

module _ (x : GrowingJob) (s : Spaces) (placed : ArePlacedFirst x.m (h x) x.job x.wants s) (o : Object) (of : IsChanged x x.growth.node o) (at : address_in x.nodes x.growth.node ≡ o.entry.address) (dir : is_directory_object o ≡ true) where
  abbrev p : GrownPlace
  p = (grown_at x s placed).0

  len_is : (grown_at x s placed).0.directory.len ≡ x.growth.len
  len_is = ap (λ (r : Regrowth). r.len) (first x s placed).directory

  is_node : IsNodeOf x.m x.nodes x.owners x.listings o x.growth.node
  is_node = record { is_map = x.agreed.is_map; sound = sound x; held = x.agreed.walked.held; owned = x.agreed.owned; there = of.there; number = of.number }

  some : 0 < x.growth.len
  some = let least = long x in omega (arith, least)

  pub room_as : has_room (Layout.New x.m) (objects_of x.listings) (o, (grown_at x s placed).0.directory.len) ≡ has_room_there x.m (h x) x.growth
  room_as =
      ap (λ (n : ℕ). has_room (Layout.New x.m) (objects_of x.listings) (o, n)) len_is
      ∙ room_is x.m x.nodes x.owners x.listings o x.growth.node is_node x.growth.len some
      ∙ ap (λ (a : ℕ). has_room_by x.m x.owners x.growth.node a x.growth.len) (sym at)

  pub alone_as : is_alone (objects_of x.listings) o ≡ is_alone_there (h x) x.growth
  alone_as = alone_is x.m x.nodes x.owners x.listings o x.growth.node is_node of.some ∙ ap (is_alone_by x.owners x.growth.node) (sym at)

  -- the directory at its new place, in these sectors
  abbrev pub placed_in : List ℕ → Object
  placed_in ss = record o { entry = record o.entry { address = (grown_at x s placed).0.directory.address; len = (grown_at x s placed).0.directory.len }; sectors = ss }

  pub size_is : (ss : List ℕ) → object_size (dir_form (Layout.New x.m)) (placed_in ss).entry ≡ x.growth.len
  size_is ss =
      ap₂ (λ (b : Bool) (f : NameForm). cond b (directory_size f (grown_at x s placed).0.directory.len) (grown_at x s placed).0.directory.len) dir (ap (λ (b : Bool). let f : NameForm = cond b forms.Ten forms.Long in f) x.suits.0) ∙ len_is

  -- by the map before, if it has room there
  is_before : has_room_there x.m (h x) x.growth ≡ true → sectors_at (Layout.New x.m) (address_in x.nodes x.growth.node) x.growth.len ≡ Some (its_sectors x s placed)
  unfolding sectors_at
  is_before e =
      let needed = and_parts (is_some (new_sectors x.m (address_in x.nodes x.growth.node) x.growth.len)) _ (and_parts (not (id_of (address_in x.nodes x.growth.node) == 2)) _ e).1 in
      let there = whole_of (sectors_at (Layout.New x.m) (address_in x.nodes x.growth.node) x.growth.len)
      (ap is_some (ap (λ (b : Bool). cond b (Some []) (new_sectors x.m (address_in x.nodes x.growth.node) x.growth.len)) (ne_eqb x.growth.len 0 (λ none. let more = some in omega (arith, none, more)))) ∙ needed.0) in
      there ∙ ap (λ (b : Bool). let q : Option (List ℕ) = Some (cond b (sectors_or_none (sectors_at (Layout.New x.m) (address_in x.nodes x.growth.node) x.growth.len)) (grown x s placed)) in q) (sym e)
    where
      whole_of : (q : Option (List ℕ)) → is_some q ≡ true → q ≡ Some (sectors_or_none q)
      whole_of None f = absurd (cc)
      whole_of (Some ss) f = refl

  its_new : has_room_there x.m (h x) x.growth ≡ false → its_sectors x s placed ≡ grown x s placed
  its_new e = ap (λ (b : Bool). cond b (sectors_or_none (sectors_at (Layout.New x.m) (address_in x.nodes x.growth.node) x.growth.len)) (grown x s placed)) e

  module _ (m' : Map) (same : m'.geometry ≡ x.m.geometry) (taken : (q : Plan) → Contains placed.plans q → IsTakenIn m' q) where
    pub at_then : (ss : List ℕ) → ss ≡ grown x s placed → IsAt (Layout.New m') (placed_in ss)
    at_then ss e = grown_is_at x s placed m' same taken (placed_in ss) (size_is ss) refl ∙ ap (λ (ts : List ℕ). let q : Option (List ℕ) = Some ts in q) (sym e)

    long_now : length (grown x s placed) ≡ div_ceil x.growth.len x.m.geometry.sector
    long_now =
        sector_count (Layout.New m') (placed_in (grown x s placed)).entry.address (object_size (dir_form (Layout.New m')) (placed_in (grown x s placed)).entry) (grown x s placed) (at_then (grown x s placed) refl)
        ∙ ap₂ (λ (n : ℕ) (g : Geometry). div_ceil n g.sector)
        (ap (λ (f : Geometry). object_size (dir_form (Layout.New (record { geometry = f; zones = [] }))) (placed_in (grown x s placed)).entry) same ∙ size_is (grown x s placed)) same

    pub has_some : nat_lt 0 (length (grown x s placed)) ≡ true
    has_some = lt-ltb 0 (length (grown x s placed)) (let long' = long_now in let more = grown_some x in let all = whole x in omega (arith, long', more, all))

    -- They are as many as it has then.
    pub as_many : length (its_sectors x s placed) ≡ length (grown x s placed)
    as_many = by (has_room_there x.m (h x) x.growth) refl
      where
        by : (b : Bool) → has_room_there x.m (h x) x.growth ≡ b → length (its_sectors x s placed) ≡ length (grown x s placed)
        by true e = sector_count (Layout.New x.m) (address_in x.nodes x.growth.node) x.growth.len (its_sectors x s placed) (is_before e) ∙ sym long_now
        by false e = ap (λ (ss : List ℕ). length ss) (its_new e)

    -- so as an owner it is the same
    pub owner_same : (up n : ℕ) (ss : List ℕ) → ss ≡ its_sectors x s placed → owners_with (Layout.New m') up n (placed_in ss) ≡ owners_with (Layout.New m') up n (placed_in (grown x s placed))
    owner_same up n ss e = by_length ss (grown x s placed) (ap (λ (ts : List ℕ). length ts) e ∙ as_many)
      where
        by_length : (a b : List ℕ) → length a ≡ length b → owners_with (Layout.New m') up n (placed_in a) ≡ owners_with (Layout.New m') up n (placed_in b)
        by_length a b f = ap (λ (k : ℕ). owners_of k) f
          where
            owners_of : ℕ → List Owner
            owners_of k = cond (nat_lt 0 k) (record (owner_with (Layout.New m') up n (placed_in [])) { sectors = k } ∷ []) []

  -- ---- how it grows

  module _ (c : Change) (tells : TellsThese x c) (r : Ready) (is : IsReadyAnew x.m (h x) x.wants c s r) (m' : Map) (taken : IsTaken x.m r m') (law : SafeSpaceLaw) (nodes' : Nodes) (owners' : List Owner) (again : List Told) (same : List Listing)
      (holder : Option Holder) (others : List Amended) (ss : List ℕ) (ss_is : ss ≡ its_sectors x s placed) where
    abbrev pub growing : Growing
    growing = record {
      o = o;
      dir = (grown_at x s placed).0.directory.node;
      address = (grown_at x s placed).0.directory.address;
      len = (grown_at x s placed).0.directory.len;
      sectors = ss;
      again = again;
      same = same;
      holder = holder;
      others = others;
    }

    abbrev x' : MovedParts
    x' = image_of.moved x s placed c tells r is m' taken law nodes' owners'

    alike : m'.geometry ≡ x.m.geometry
    alike = image_of.geometry x s placed c tells r is m' taken

    all_taken : (q : Plan) → Contains placed.plans q → IsTakenIn m' q
    all_taken = step_of.taken x s placed m' (image_of.done x s placed c tells r is m' taken) law

    same_object : d x ≡ o
    same_object = grown_is x o of.there (eq-eqb _ x.growth.node of.own_node)

    keeps_address : moving_out x.m (h x) (Some x.growth) ≡ None → (grown_at x s placed).0.directory.address ≡ o.entry.address
    keeps_address e = at_address x s placed o of at None e

    it_moves : moving_out x.m (h x) (Some x.growth) ≡ None → is_moved (moves_in x') o ≡ true
    it_moves e = moves_is x s placed (id_of o.entry.address) (changed_moves x x.growth.node x.grower (x.keeps e) o of)

    pub grows_safely : IsGrownSafely (image_of.moved x s placed c tells r is m' taken law nodes' owners') growing
    grows_safely = by (has_room_there x.m (h x) x.growth) (is_alone_there (h x) x.growth) refl refl
      where
        by : (b a : Bool) → has_room_there x.m (h x) x.growth ≡ b → is_alone_there (h x) x.growth ≡ a → IsGrownSafely (image_of.moved x s placed c tells r is m' taken law nodes' owners') growing
        by true a room alone =
            let stays : moving_out x.m (h x) (Some x.growth) ≡ None = ap (λ (b : Bool). let q : Option Growth = cond (b || is_alone_there (h x) x.growth) None (Some x.growth) in q) room in
            inl (record {
              room = room_as ∙ room;
              address = keeps_address stays;
              moves = it_moves stays;
              before = ap₂ (λ (a n : ℕ). sectors_at (Layout.New x.m) a n) (keeps_address stays ∙ sym at) (size_is ss) ∙ is_before room ∙ ap (λ (ts : List ℕ). let q : Option (List ℕ) = Some ts in q) (sym ss_is);
              reaches = grown_reaches x s placed m' alike all_taken (placed_in ss) (size_is ss) refl stays;
            })
        by false true room alone =
            let stays : moving_out x.m (h x) (Some x.growth) ≡ None = ap₂ (λ (b a : Bool). let q : Option Growth = cond (b || a) None (Some x.growth) in q) room alone in
            inr (inl (record {
              no_room = room_as ∙ room;
              alone = alone_as ∙ alone;
              address = keeps_address stays;
              moves = it_moves stays;
              at = at_then m' alike all_taken ss (ss_is ∙ its_new room);
            }))
        by false false room alone =
            let goes : moving_out x.m (h x) (Some x.growth) ≡ Some x.growth = ap₂ (λ (b a : Bool). let q : Option Growth = cond (b || a) None (Some x.growth) in q) room alone in
            let addr : (grown_at x s placed).0.directory.address ≡ 256 * (first x s placed).plan.id = at_address x s placed o of at (Some x.growth) goes in
            inr (inr (record {
              no_room = room_as ∙ room;
              not_alone = alone_as ∙ alone;
              is_new = ap (is_used x.m) (sym (first x s placed).id) ∙ unused x (first x s placed).plan.id (grown_new x s placed x.growth goes);
              begins = (let low : low_of (256 * (first x s placed).plan.id) ≡ 0 = omega arith in ap low_of addr ∙ low);
              at = at_then m' alike all_taken ss (ss_is ∙ its_new room);
            }))
