-- What a change writes by which a directory grows, beside the map: a new object, the directory at its place then, and those around it. Each
-- sector is written once.
use Rattle.std.proofs.Common.{◌≡◌, ◌⊎◌, inr, ⊎_elim, ℕ, ◌==◌, ◌&&◌, ◌||◌, Bool, true, false, cond, List, [], ◌∷◌, ◌++◌, flat_map, refl, sym, ap, ap₂, subst, ◌∙◌, arith, append_assoc, eq-eqb, Option, Some, None}
use Rattle.std.specs.Prelude.{Contains, Err, IfSome, IsPermutation, Ok}
use Rattle.std.proofs.lemmas.List.{append-nil}
use Rattle.std.proofs.lemmas.List.Concat.{flat_map-append}
use Rattle.std.proofs.lemmas.List.Elements.{All-contains, Contains-append_left, Contains-append_right}
use Rattle.std.proofs.lemmas.List.Sorted.{Contains-permutation, IsPermutation-sym}
use Rattle.fc_alloc.specs.declared.owner.Owner.{Owner}
use Rattle.fc_names.specs.Names.{is_same_path}
use Rattle.fc_record.specs.declared.Kind.{Kind}
use Rattle.fc_newmap.specs.Map.{Map, ZoneRun, hole_runs, map_sectors}
use Rattle.fc_newmap.specs.NewMap.{IsNewMap}
use Rattle.fc_newmap.proofs.PlaceLemmas.{in_either}
use Rattle.fc_image.specs.Edits.{IsAt}
use Rattle.fc_image.specs.Layout.{Layout, disc_sectors, hole_sectors, id_of, is_among, is_apart, sectors_at}
use Rattle.fc_image.specs.Objects.{is_owned, is_owner_of, objects_of}
use Rattle.fc_image.specs.Opening.{boot_place, reserved_in}
use Rattle.fc_image.specs.Sound.{AreSound}
use Rattle.fc_image.specs.Walk.{Listing, Object}
use Rattle.fc_image.specs.effects.Placed.{IsPlan, holes_left}
use Rattle.fc_image.specs.effects.Sharing.{units}
use Rattle.fc_image.proofs.HolesLemmas.{apart_at, apart_from, id_no_hole, in_id}
use Rattle.fc_image.proofs.PathsLemmas.{itself}
use Rattle.fc_changes.proofs.BasicLemmas.{any_in, clash}
use Rattle.fc_edits.proofs.lemmas.LeavingLemmas.{one_of_sector}
use Rattle.fc_laws.specs.nodes.Edits.{Nodes}
use Rattle.fc_laws.specs.agree.Agreed.{AgreeOn, parts_with}
use Rattle.fc_laws.proofs.lemmas.agree.BeforeLemmas.{agreed_law, new_shape, no_hole, some_zones}
use Rattle.fc_laws.proofs.lemmas.takeover.SaidLemmas.{apart_front}
use Rattle.fc_laws.proofs.lemmas.takeover.WriteLemmas.{written_bytes_law}
use Rattle.fc_objects.specs.Extents.{sectors_in}
use Rattle.fc_objects.specs.Written.{AreApart}
use Rattle.fc_placing.specs.Places.{IsOwnPlan}
use Rattle.fc_plan.specs.declared.plan.Plan.{Plan}
use Rattle.fc_plan.specs.Applied.{parts_in}
use Rattle.fc_plan.specs.Parts.{fronts}
use Rattle.fc_plan.specs.Plan.{IsFrontOfOne}
use Rattle.fc_plan.proofs.Left.{left_of_none}
use Rattle.fc_placing.proofs.LowLemmas.{or_true}
use Rattle.fc_tree.specs.declared.node.Node.{Node}
use Rattle.fc_tree.proofs.MemberLemmas.{contains_here}
use Rattle.fc_tree.proofs.WalkedLemmas.{listed_directory}
use Rattle.fc_writing.specs.declared.ready.Piece.{Piece}
use Rattle.fc_writing.specs.declared.ready.Ready.{Ready}
use Rattle.fc_writing.specs.Ready.{place_of}
use Rattle.fc_change.specs.declared.change.Says.{Says}
use Rattle.fc_change.specs.declared.job.Growth.{Growth}
use Rattle.fc_change.specs.declared.spaces.GrownPlace.{GrownPlace}
use Rattle.fc_change.specs.GrownSpace.{AreFree, IsGrownAt as IsGrownPlace, place_of_plan}
use Rattle.fc_commands.proofs.GrownApartLemmas.{apart_after, once_after}
use Rattle.fc_commands.proofs.GrownAroundLemmas.{IsCutAround, one_of_two}
use Rattle.fc_commands.proofs.GrownMayLemmas as may
use Rattle.fc_commands.proofs.GrownMayLemmas.{HasRoomThere}
use Rattle.fc_commands.proofs.GrownPieceLemmas.{IsGrownReady}
use Rattle.fc_commands.proofs.GrownSpaceLemmas.{IsToGrow, placed_at}
use Rattle.fc_commands.proofs.GrownSpaceLemmas as space_of
use Rattle.fc_commands.proofs.MovePieceLemmas.{all_apart, among_flat}
use Rattle.fc_commands.proofs.NewArrivalLemmas.{dir_room}
use Rattle.fc_commands.proofs.NewPlaceLemmas.{IsRoomBeside, hole_apart, hole_on_disc}
use Rattle.fc_commands.proofs.PlanPlaceLemmas.{once_by, one_place, plan_free}
use Rattle.fc_commands.proofs.TwoPieceLemmas.{AreRoom, room_both}
use Rattle.fc_image.proofs.MoveLemmas.{one_id}

-- the sectors of some directories
abbrev pub places : List Listing → List ℕ
places ks = flat_map (λ (k : Listing). k.object.sectors) ks

never_in : (s : ℕ) → is_among [] s ≡ true → ⊥
never_in s e = cc

no_room_taken : (n : ℕ) (mapped : List ℕ) → AreRoom n mapped []
no_room_taken n mapped = record { low = λ s e. absurd (never_in s e); once = λ i j before high. absurd (omega (arith, before, high)); beside = refl }

-- The sectors of a directory's new space are different ones, whether an object gets some, too, or not.
once_anew : (m : Map) (is : IsNewMap m) (object : Option Plan) (own bytes : ℕ) (plan : Plan) → IfSome object (IsOwnPlan m own)
    → IsPlan m.geometry (holes_left (hole_runs m) (parts_in object)) (units m.geometry bytes) (fronts plan.parts.items) → AreApart (place_of_plan m.geometry plan bytes)
once_anew m is None own bytes plan none two =
    let all = subst (λ (hs : List ZoneRun). IsPlan m.geometry hs (units m.geometry bytes) (fronts plan.parts.items)) (left_of_none (hole_runs m)) two in
    let front = λ (p : ZoneRun) (at : Contains (fronts plan.parts.items) p). All-contains (IsFrontOfOne m.geometry (hole_runs m)) (fronts plan.parts.items) p all.taken.fronts at in
    once_by m.geometry bytes plan all.rising (λ p q s at_p at_q in_p in_q. one_place m is p q s (front p at_p) (front q at_q) in_p in_q)
once_anew m is (Some x) own bytes plan one two = once_after m is (fronts x.parts.items) (units m.geometry own) (units m.geometry bytes) bytes plan one.plan two

module _ (kind : Kind) (m : Map) (nodes : Nodes) (owners : List Owner) (root : Node) (listings : List Listing) (agreed : AgreeOn kind m nodes owners root listings) where
  abbrev n : ℕ
  n = disc_sectors (Layout.New m)

  abbrev mapped : List ℕ
  mapped = map_sectors m.geometry

  sound : AreSound (Layout.New m) listings
  sound = agreed_law.sound kind m nodes owners root listings agreed

  among : (k : Listing) → Contains listings k → Contains (objects_of listings) k.object
  among k at = (listed_directory (Layout.New m) listings sound k at).0

  -- ---- directories that are listed

  module _ (front ks back : List Listing) (all : IsPermutation listings (front ++ (ks ++ back))) where
    listed_in : (k : Listing) → Contains ks k → Contains listings k
    listed_in k at =
        Contains-permutation (front ++ (ks ++ back)) listings k (IsPermutation-sym listings (front ++ (ks ++ back)) all)
        (Contains-append_right front (ks ++ back) k (Contains-append_left ks back k at))

    not_both : (k j : Listing) → Contains front k → Contains ks j → k.object ≡ j.object → ⊥
    not_both k j at_k at_j same =
        one_of_two (Layout.New m) listings nodes sound agreed.walked.held front (ks ++ back) all k j at_k (Contains-append_left ks back j at_j)
        (ap (λ (o : Object). is_same_path o.path j.object.path) same ∙ itself j.object.path)

    apart_dirs : (k : Listing) → Contains listings k → Contains front k → is_apart k.object.sectors (places ks) ≡ true
    apart_dirs k listed at =
        apart_from k.object.sectors (places ks)
        (λ s here there.
        let j = among_flat (λ (j : Listing). j.object.sectors) ks s there in
        not_both k j.0 at j.1
        (one_of_sector (reserved_in kind (Layout.New m)) (objects_of listings) k.object j.0.object s (all_apart kind (Layout.New m) nodes root listings agreed.walked) (among k listed) (among j.0 (listed_in j.0 j.1)) here j.2))

  dirs_room : (front ks back : List Listing) → IsPermutation listings (front ++ (ks ++ back)) → AreRoom (disc_sectors (Layout.New m)) (map_sectors m.geometry) (places ks)
  dirs_room front [] back all = no_room_taken n mapped
  dirs_room front (k ∷ ks) back all =
      let listed = listed_in front (k ∷ ks) back all k (contains_here k ks) in
      let next : IsPermutation listings ((front ++ k ∷ []) ++ (ks ++ back)) = subst (IsPermutation listings) (sym (append_assoc front (k ∷ []) (ks ++ back))) all in
      room_both n mapped k.object.sectors (places ks) (dir_room kind m nodes owners root listings agreed k.object (among k listed)) (dirs_room (front ++ k ∷ []) ks back next)
      (apart_dirs (front ++ k ∷ []) ks back next k listed (Contains-append_right front (k ∷ []) k (contains_here k [])))

  -- ---- the grown one

  -- Directory l may have these sectors, beside all other objects.
  pub record MayHave (l : Listing) (sectors : List ℕ) : Type 0 where
    pub room : AreRoom (disc_sectors (Layout.New m)) (map_sectors m.geometry) sectors
    pub beside : (p : Object) → Contains (objects_of listings) p → (p ≡ l.object) ⊎ (is_apart p.sectors sectors ≡ true)

  free_may : (l : Listing) (sectors : List ℕ) → AreFree m sectors → AreApart sectors → MayHave l sectors
  free_may l sectors free once = record {
    room = record { low = λ s e. hole_on_disc m agreed.is_map s (free s e); once = once; beside = hole_apart kind m nodes owners root listings agreed sectors free };
    beside = λ p at. inr (apart_from p.sectors sectors
        (λ s i j. clash (is_among (hole_sectors (Layout.New m)) s) (free s j) (apart_at p.sectors (hole_sectors (Layout.New m)) s (no_hole kind m nodes owners root listings agreed p at) i)));
  }

  module _ (l : Listing) (listed : Contains listings l) (stay : List Object) (g : Growth) (object dir : Option Plan) (p : GrownPlace) (to : IsToGrow m nodes owners listings l.object stay g object dir p) where
    abbrev grown : List ℕ
    grown = sectors_in p.extents.items

    owned : is_owned (objects_of listings) (id_of l.object.entry.address) ≡ true
    owned =
        let id = id_of l.object.entry.address in
        ap (λ (b : Bool). (id == 2) || b)
        (any_in (is_owner_of id) (objects_of listings) l.object (among l listed)
        (ap (λ (b : Bool). b && (id == id)) (space_of.o_some m nodes owners listings l.object stay g object dir p to) ∙ eq-eqb id id refl))
        ∙ or_true (id == 2)

    pub may_have : MayHave l (sectors_in p.extents.items)
    may_have = by dir to.grown
      where
        by : (q : Option Plan) → IsGrownPlace m (parts_with m nodes owners) object g q p → MayHave l (sectors_in p.extents.items)
        by None there =
            let has : HasRoomThere m listings l g.len (sectors_in p.extents.items) = record {
              listed = listed;
              owns = owned;
              object = space_of.own_object_id m nodes owners listings l.object stay g object dir p to;
              room = space_of.room_same m nodes owners listings l.object stay g object dir p to ∙ sym (space_of.room_as m nodes owners listings l.object stay g object dir p to) ∙ there.room;
              placed = space_of.there_at m nodes owners listings l.object stay g object dir p to there;
              long = to.longer;
            } in
            let at : IsAt (Layout.New m) (placed_at p l.object) =
            ap (sectors_at (Layout.New m) p.directory.address) (space_of.size_is m nodes owners listings l.object stay g object dir p to p.directory.len ∙ space_of.there_len m nodes owners listings l.object stay g object dir p to there)
            ∙ ap (λ (a : ℕ). sectors_at (Layout.New m) a g.len) (space_of.there_address m nodes owners listings l.object stay g object dir p to there) ∙ has.placed in
            record {
              room = record {
                low = may.on_disc kind m nodes owners root listings agreed l g.len (sectors_in p.extents.items) has;
                once = written_bytes_law.apart m (placed_at p l.object) agreed.is_map at;
                beside = apart_front (sectors_in p.extents.items) (map_sectors m.geometry) (boot_place kind m.geometry.sector) (may.unreserved kind m nodes owners root listings agreed l g.len (sectors_in p.extents.items) has);
              };
              beside = may.beside kind m nodes owners root listings agreed l g.len (sectors_in p.extents.items) has;
            }
        by (Some q) into = free_may l (sectors_in p.extents.items) into.free (subst AreApart (sym into.sectors) (once_anew m agreed.is_map object to.bytes g.len q to.own into.space.plan_is))

  -- None of them is a new object's with a plan of its own.
  module _ (l : Listing) (stay : List Object) (g : Growth) (plan : Plan) (dir : Option Plan) (p : GrownPlace) (to : IsToGrow m nodes owners listings l.object stay g (Some plan) dir p) (bytes : ℕ) (own : IsOwnPlan m bytes plan) where
    pub apart_own : is_apart (place_of_plan m.geometry plan bytes) (sectors_in p.extents.items) ≡ true
    apart_own = by dir to.grown
      where
        by : (q : Option Plan) → IsGrownPlace m (parts_with m nodes owners) (Some plan) g q p → is_apart (place_of_plan m.geometry plan bytes) (sectors_in p.extents.items) ≡ true
        by None there =
            apart_from (place_of_plan m.geometry plan bytes) (sectors_in p.extents.items)
            (λ s here inside.
            id_no_hole m (new_shape m agreed.is_map) agreed.is_map.right (some_zones kind m nodes owners root listings agreed) (id_of l.object.entry.address) s
            (in_id m l.object.entry.address g.len (sectors_in p.extents.items) s (space_of.there_at m nodes owners listings l.object stay g (Some plan) dir p to there) inside)
            (plan_free m agreed.is_map bytes plan own s here))
        by (Some q) into =
            subst (λ (ss : List ℕ). is_apart (place_of_plan m.geometry plan bytes) ss ≡ true) (sym into.sectors)
            (apart_after m agreed.is_map plan q (units m.geometry bytes) (units m.geometry g.len) bytes g.len own.plan into.space.plan_is)

  -- Nor one of an object that lies in another identifier.
  module _ (l : Listing) (stay : List Object) (g : Growth) (object dir : Option Plan) (p : GrownPlace) (to : IsToGrow m nodes owners listings l.object stay g object dir p) (address bytes : ℕ) (sectors : List ℕ)
      (at : sectors_at (Layout.New m) address bytes ≡ Some sectors) (other : id_of address ≡ id_of l.object.entry.address → ⊥) where
    pub apart_shared : is_apart sectors (sectors_in p.extents.items) ≡ true
    apart_shared = by dir to.grown
      where
        by : (q : Option Plan) → IsGrownPlace m (parts_with m nodes owners) object g q p → is_apart sectors (sectors_in p.extents.items) ≡ true
        by None there =
            apart_from sectors (sectors_in p.extents.items)
            (λ s here inside.
            other (one_id m (new_shape m agreed.is_map) agreed.is_map.right (some_zones kind m nodes owners root listings agreed) (id_of address) (id_of l.object.entry.address) s (in_id m address bytes sectors s at here)
            (in_id m l.object.entry.address g.len (sectors_in p.extents.items) s (space_of.there_at m nodes owners listings l.object stay g object dir p to there) inside)))
        by (Some q) into =
            apart_from sectors (sectors_in p.extents.items)
            (λ s here inside.
            id_no_hole m (new_shape m agreed.is_map) agreed.is_map.right (some_zones kind m nodes owners root listings agreed) (id_of address) s (in_id m address bytes sectors s at here) (into.free s inside))

  -- ---- all of it

  -- So a new object, the grown directory and those around it have their sectors together.
  pub all_room : (l : Listing) → Contains listings l → (tops kids left : List Listing) → IsCutAround listings l tops kids left → (b : Bool) (new grown : List ℕ) → IsRoomBeside m (objects_of listings) new → MayHave l grown
      → is_apart new grown ≡ true → AreRoom (disc_sectors (Layout.New m)) (map_sectors m.geometry) (new ++ (grown ++ places (tops ++ cond b [] kids)))
  all_room l listed tops kids left c b new grown x g apart =
      let rest = behind b in
      let inside = listed_in (l ∷ []) (tops ++ cond b [] kids) rest.0 rest.1 in
      let dirs = dirs_room (l ∷ []) (tops ++ cond b [] kids) rest.0 rest.1 in
      room_both n mapped new (grown ++ places (tops ++ cond b [] kids)) x.room
      (room_both n mapped grown (places (tops ++ cond b [] kids)) g.room dirs
      (apart_from grown (places (tops ++ cond b [] kids))
      (λ s here there.
      let j = among_flat (λ (j : Listing). j.object.sectors) (tops ++ cond b [] kids) s there in
      ⊎_elim (λ same. not_both (l ∷ []) (tops ++ cond b [] kids) rest.0 rest.1 l j.0 (contains_here l []) j.1 (sym same))
      (λ other. clash (is_among grown s) here (apart_at j.0.object.sectors grown s other j.2)) (g.beside j.0.object (among j.0 (inside j.0 j.1))))))
      (apart_from new (grown ++ places (tops ++ cond b [] kids))
      (λ s here there. elim (in_either grown (places (tops ++ cond b [] kids)) s there) [
        | Ok i ↦ clash (is_among grown s) i (apart_at new grown s apart here)
        | Err i ↦ (let j = among_flat (λ (j : Listing). j.object.sectors) (tops ++ cond b [] kids) s i in
            clash (is_among new s) here (apart_at j.0.object.sectors new s (x.apart j.0.object (among j.0 (inside j.0 j.1))) j.2))
      ]))
    where
      behind : (e : Bool) → (back : List Listing) × IsPermutation listings ((l ∷ []) ++ ((tops ++ cond e [] kids) ++ back))
      behind true = (kids ++ left, subst (λ (ks : List Listing). IsPermutation listings (l ∷ (ks ++ (kids ++ left)))) (sym (append-nil tops)) c.all)
      behind false = (left, subst (λ (ks : List Listing). IsPermutation listings (l ∷ ks)) (sym (append_assoc tops kids left)) c.all)

-- ---- in the order in which it is written

-- Whether the grown one is written early or late, its sectors come after the new object's, and before the others'.
pub in_order : (layout : Layout) (nodes : Nodes) (g : GrownPlace) (first : Says) (others : List Says) (made : List Piece) (r : Ready) (is : IsGrownReady layout nodes g first others made r)
    → flat_map place_of r.early.items ++ flat_map place_of r.late.items ≡ flat_map place_of made ++ (sectors_in g.extents.items ++ flat_map place_of is.pieces)
in_order layout nodes g first others made r is =
    ap₂ (λ (a b : List Piece). flat_map place_of a ++ flat_map place_of b) is.early is.late ∙ by g.moves ∙ ap (λ (ss : List ℕ). flat_map place_of made ++ (ss ++ flat_map place_of is.pieces)) is.place
  where
    by : (b : Bool) → flat_map place_of (made ++ cond b (is.own ∷ []) []) ++ flat_map place_of (cond b is.pieces (is.own ∷ is.pieces)) ≡ flat_map place_of made ++ (place_of is.own ++ flat_map place_of is.pieces)
    by true =
        ap (λ (ss : List ℕ). ss ++ flat_map place_of is.pieces) (flat_map-append place_of made (is.own ∷ []) ∙ ap (λ (ss : List ℕ). flat_map place_of made ++ ss) (append-nil (place_of is.own)))
        ∙ append_assoc (flat_map place_of made) (place_of is.own) (flat_map place_of is.pieces)
    by false = ap (λ (ps : List Piece). flat_map place_of ps ++ flat_map place_of (is.own ∷ is.pieces)) (append-nil made)
