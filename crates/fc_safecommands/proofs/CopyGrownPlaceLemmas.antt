-- Where a file comes to lie that is copied into a directory that grows, in the safe mode: in the first plan's space, in the least new
-- identifier, which isn't the grown directory's.
use Rattle.std.proofs.Common.{◌≡◌, ◌==◌, drop, ◌<◌, ◌≤◌, ◌+◌, ◌*◌, ◌-◌, ◌&&◌, inl, inr, ℕ, Bool, true, false, not, cond, List, [], ◌∷◌, ◌++◌, map, take, refl, sym, ap, ap₂, subst, ◌∙◌, arith, Option, Some, None}
use Rattle.std.specs.Prelude.{Contains, Vec, is_none, is_some}
use Rattle.std.specs.declared.alloc.Global.{Global}
use Rattle.std.specs.Int.{div_ceil}
use Rattle.std.specs.List.{range_with_len}
use Rattle.std.specs.Option.{option_and_then}
use Rattle.std.proofs.lemmas.List.FromFn.{get_or-range_with_len, length-range_with_len}
use Rattle.std.proofs.lemmas.List.Sorted.{sum_by-IsPermutation}
use Rattle.fc_device.specs.declared.disk.Extent.{Extent}
use Rattle.fc_record.specs.declared.Geometry.{Geometry}
use Rattle.fc_record.specs.Record.{id_limit}
use Rattle.fc_newmap.specs.Map.{Map, ZoneRun, bits_in, hole_runs, id_runs, is_used, sectors_of}
use Rattle.fc_newmap.proofs.CoverLemmas.{Distinct}
use Rattle.fc_image.specs.Layout.{Layout, hole_sectors, id_of, is_among, low_of, sectors_at}
use Rattle.fc_image.specs.effects.Placed.{file_low}
use Rattle.fc_image.specs.effects.Short.{one_if}
use Rattle.std.proofs.lemmas.Bool.{ne_eqb}
use Rattle.fc_image.specs.effects.Sharing.{new_ids, units}
use Rattle.fc_image.specs.Walk.{Object}
use Rattle.fc_image.proofs.HolesLemmas.{apart_at, apart_from}
use Rattle.fc_changes.proofs.BasicLemmas.{clash}
use Rattle.fc_laws.specs.agree.Agreed.{parts_with}
use Rattle.fc_laws.proofs.lemmas.agree.BeforeLemmas.{no_hole}
use Rattle.fc_laws.proofs.lemmas.takeover.WriteLemmas.{apart_of}
use Rattle.fc_objects.specs.Extents.{sectors_in}
use Rattle.fc_placing.specs.Extents.{parts_met}
use Rattle.fc_placing.specs.Places.{address_in, slack_left}
use Rattle.fc_placing.specs.declared.placing.Placing.{Placing}
use Rattle.fc_placing.proofs.LeavingLemmas.{from_kept}
use Rattle.fc_plan.specs.declared.plan.Part.{Part}
use Rattle.fc_plan.specs.declared.plan.Plan.{Plan}
use Rattle.fc_plan.specs.Applied.{IsTakenIn}
use Rattle.fc_plan.specs.Parts.{fronts}
use Rattle.fc_plan.specs.Taking.{as_runs}
use Rattle.fc_tree.proofs.MemberLemmas.{contains_here}
use Rattle.fc_change.specs.declared.spaces.Place.{Place}
use Rattle.fc_change.specs.declared.spaces.Spaces.{Spaces}
use Rattle.fc_change.specs.GrownSpace.{place_of_plan, plan_sectors}
use Rattle.fc_change.specs.Places.{IsCopiedFrom, IsPlaceFor, IsPlaceOf, extents_in, is_directory, own_address}
use Rattle.fc_change.specs.Shortage.{slack_for}
use Rattle.fc_change.proofs.LeadsLemmas.{IsPlaceable, leads, as_bits}
use Rattle.fc_commands.proofs.NewPlaceLemmas.{hole_apart, hole_on_disc, id_at}
use Rattle.fc_commands.proofs.NewSpotLemmas.{low_two}
use Rattle.fc_edits.specs.NewNodes.{AreDistinct}
use Rattle.fc_change.specs.declared.job.Growth.{Growth}
use Rattle.fc_safe.specs.declared.needs.Need.{Need}
use Rattle.fc_safe.specs.FirstNeeds.{moving_out, need_of, out_need, own_need}
use Rattle.fc_safe.specs.FirstSpace.{ArePlacedFirst, IsFirstOf, IsFirstPlacing, IsLastIf}
use Rattle.fc_safe.specs.Needs.{AreMet, HaveIds}
use Rattle.fc_safecommands.proofs.CopyGrownLemmas.{GrownCopy, copy_is, growing, some_bytes}
use Rattle.fc_safecommands.proofs.GrownLaidLemmas.{IsStaying, Stretch, at_address, grown, grown_leaves, grown_stays, is_grown, laid, laid_at, leaves_plan}
use Rattle.fc_safecommands.proofs.GrownPutLemmas.{LiesBeside}
use Rattle.fc_safecommands.proofs.GrownSpaceLemmas.{can, once as once_of, placeable, plan_at, unused, used}
use Rattle.fc_safecommands.proofs.GrownSpotLemmas.{IsThere, d, d_stays, grower}
use Rattle.fc_safecommands.proofs.GrownSpotLemmas as spots
use Rattle.fc_safecommands.proofs.GrownStepLemmas.{grown_at}
use Rattle.fc_safecommands.proofs.GrownStirLemmas.{GrowingJob, end, ids, moves, own_bytes}
use Rattle.fc_safecommands.proofs.GrownNeedsLemmas.{drop_none, last_own, last_same}
use Rattle.fc_safecommands.proofs.StirredSpaceLemmas.{meets_first, range_once}
use Rattle.fc_safecommands.proofs.StretchLemmas.{stretch_beside}
use Rattle.fc_safecommands.proofs.PlansApartLemmas.{place_free, place_once}
use Rattle.fc_placing.specs.declared.placing.Placing.TheVariants as placings
use Rattle.fc_change.specs.declared.job.Job.TheVariants as jobs

-- ---- numbers and lists

pub range_bounds : (a n k : ℕ) → Contains (range_with_len a n) k → (a ≤ k) × (k < a + n)
range_bounds a n k (i, low, e) =
    let size = length-range_with_len a n in
    let value = get_or-range_with_len a n i k (omega (arith, size, low)) in
    (omega (arith, value, e), omega (arith, value, e, low, size))

module _ (c : GrownCopy) (s : Spaces) (placed : ArePlacedFirst c.m (parts_with c.m c.nodes c.owners) (jobs.Move c.r) c.wants s) where
  abbrev x : GrowingJob
  x = growing c

  abbrev g : Geometry
  g = c.m.geometry

  -- ---- it never takes slack

  pub no_slack : slack_for c.m c.owners c.wants ≡ None
  no_slack = ap (λ (d : Option ℕ). option_and_then (λ (dir : ℕ). slack_left c.m c.owners dir c.wants.bytes) d) c.are.slack

  pub own_bytes_are : own_bytes (growing c) ≡ c.wants.bytes
  own_bytes_are = ap (λ (q : Option (ℕ × ℕ)). let n : ℕ = cond (is_some q) 0 c.wants.bytes in n) no_slack

  -- ---- the first plan is its own

  record IsCopyPlan (q : Placing) : Type 0 where
    pub plan : Plan
    pub first : Plan
    pub others : List Plan
    pub is : q ≡ placings.New plan
    pub plans : placed.plans ≡ first ∷ others
    pub id : plan.id ≡ first.id
    pub items : plan.parts.items ≡ first.parts.items

  of_placing : (q : Placing) → IsFirstPlacing c.m c.owners c.wants placed.plans q → IsCopyPlan q
  of_placing placings.Nowhere at = absurd (let more = some_bytes c in omega (arith, more, at))
  of_placing (placings.Shared share) at = absurd (let none = sym no_slack ∙ at in cc)
  of_placing (placings.New plan) at = by placed.plans refl at.1
    where
      by : (ps : List Plan) → placed.plans ≡ ps → IsFirstOf ps plan → IsCopyPlan (placings.New plan)
      by [] e is = absurd is
      by (p ∷ ps) e is = record { plan = plan; first = p; others = ps; is = refl; plans = e; id = is.0; items = is.1 }

  own : IsCopyPlan placed.placing
  own = of_placing placed.placing placed.placed

  among : Contains placed.plans own.first
  among = subst (λ (ps : List Plan). Contains ps own.first) (sym own.plans) (contains_here own.first own.others)

  -- It meets the first need,
  first_met : (ps : List Plan) → placed.plans ≡ ps → (p : Plan) (others : List Plan) → ps ≡ p ∷ others → ((rest : List ℕ) × (new_ids c.m ≡ p.id ∷ rest)) × (units g c.wants.bytes ≤ bits_in (fronts p.parts.items))
  first_met ps at p others is =
      let all : AreMet c.m (own_need c.wants.bytes ++ later_needs) (p ∷ others) =
      subst (λ (n : ℕ). AreMet c.m (own_need n ++ later_needs) (p ∷ others)) own_bytes_are (subst (λ (qs : List Plan). AreMet c.m (own_need (own_bytes x) ++ later_needs) qs) (at ∙ is) placed.met) in
      by (c.wants.bytes == 0) (ne_eqb c.wants.bytes 0 (λ none. (let more = some_bytes c in omega (arith, more, none)))) all
    where
      later_needs : List Need
      later_needs = map (need_of (end x)) (ids x) ++ out_need (moving_out c.m (parts_with c.m c.nodes c.owners) c.wants.grows)

      need : Need
      need = record { id = None; bytes = c.wants.bytes }

      by : (b : Bool) → b ≡ false → AreMet c.m (cond b [] (need ∷ []) ++ later_needs) (p ∷ others) → ((rest : List ℕ) × (new_ids c.m ≡ p.id ∷ rest)) × (units g c.wants.bytes ≤ bits_in (fronts p.parts.items))
      by true e met = absurd (cc)
      by false e met = ((met.ids.0, met.ids.1), (meets_first c.m need later_needs p others (new_ids c.m) met.ids.0 met.left (hole_runs c.m) met.fit met.ids.1).enough)

  -- in the least new identifier
  least : (rest : List ℕ) × (new_ids c.m ≡ own.first.id ∷ rest)
  least = (first_met placed.plans refl own.first own.others own.plans).0

  new : Contains (new_ids c.m) own.first.id
  new = subst (λ (ks : List ℕ). Contains ks own.first.id) (sym least.1) (contains_here own.first.id least.0)

  bounds : (3 ≤ own.first.id) × (own.first.id < id_limit g)
  bounds =
      let b = range_bounds 3 (id_limit g - 3) own.first.id (from_kept (λ (id : ℕ). not (is_used c.m id)) (range_with_len 3 (id_limit g - 3)) own.first.id new).0 in
      let low = b.0 in
      let high = b.1 in
      (low, omega (arith, low, high))

  enough : units g c.wants.bytes ≤ bits_in (fronts own.first.parts.items)
  enough = (first_met placed.plans refl own.first own.others own.plans).1

  -- ---- its place

  no_folder : is_directory c.wants ≡ false
  no_folder = ap₂ (λ (a b : Option ℕ). is_none a && is_none b) c.are.slack (copy_is c)

  place_at : (plan : Plan) (q : Option Place) → IsPlaceFor c.m c.wants (placings.New plan) q
      → (p : Place) × (q ≡ Some p) × (p.address ≡ address_in c.m (placings.New plan) c.wants.bytes) × (sectors_in p.extents.items ≡ place_of_plan g plan c.wants.bytes)
  place_at plan (Some p) at = (p, refl, at.0 ∙ ap (λ (b : Bool). own_address b c.m c.wants.bytes plan) no_folder, at.1)
  place_at plan None at = absurd (let more = some_bytes c in let none = at.0 in omega (arith, more, none))

  from_at : (n : Option ℕ) (q : Option (Vec Extent Global)) → n ≡ Some c.r.target.node → IsCopiedFrom (Layout.New c.m) c.nodes n (extents_in q)
      → (v : Vec Extent Global) × (q ≡ Some v) × IsPlaceOf (Layout.New c.m) c.nodes c.r.target.node v.items
  from_at (Some n) (Some v) same at = (v, refl, subst (λ (k : ℕ). IsPlaceOf (Layout.New c.m) c.nodes k v.items) (one n c.r.target.node same) at)
    where
      one : (a b : ℕ) → (let q : Option ℕ = Some a in q) ≡ Some b → a ≡ b
      one a b e = cc
  from_at (Some n) None same at = absurd at
  from_at None q same at = absurd (cc)

  address_as : (plan first : Plan) → plan.id ≡ first.id → plan.parts.items ≡ first.parts.items
      → address_in c.m (placings.New plan) c.wants.bytes ≡ 256 * first.id + file_low g (bits_in (fronts first.parts.items) * g.bit_bytes) c.wants.bytes
  address_as plan first id items = ap₂ (λ (k : ℕ) (ps : List Part). 256 * k + file_low g (bits_in (fronts ps) * g.bit_bytes) c.wants.bytes) id items

  place_as : (plan first : Plan) → plan.id ≡ first.id → plan.parts.items ≡ first.parts.items → place_of_plan g plan c.wants.bytes ≡ place_of_plan g first c.wants.bytes
  place_as plan first id items =
      ap₂ (λ (k : ℕ) (ps : List Part). take (div_ceil c.wants.bytes g.sector) (sectors_of g (parts_met g k true (fronts ps)) ++ sectors_of g (parts_met g k false (fronts ps)))) id items

  pub record IsCopySpot : Type 0 where
    pub plan : Plan
    pub among : Contains placed.plans plan
    pub fits : IsPlaceable c.m c.wants.bytes plan
    pub new : Contains (new_ids c.m) plan.id
    pub least : (rest : List ℕ) × (new_ids c.m ≡ plan.id ∷ rest)
    pub low : 3 ≤ plan.id
    pub place : Place
    pub object : s.object ≡ Some place
    pub address : place.address ≡ 256 * plan.id + file_low c.m.geometry (bits_in (fronts plan.parts.items) * c.m.geometry.bit_bytes) c.wants.bytes
    pub sectors : sectors_in place.extents.items ≡ place_of_plan c.m.geometry plan c.wants.bytes
    pub from : Vec Extent Global
    pub copied : s.copied ≡ Some from
    pub lies : IsPlaceOf (Layout.New c.m) c.nodes c.r.target.node from.items

  pub spot : IsCopySpot
  spot =
      let p = place_at own.plan s.object (subst (λ (q : Placing). IsPlaceFor c.m c.wants q s.object) own.is placed.object) in
      let from = from_at c.wants.copied s.copied (copy_is c) placed.copied in
      record {
        plan = own.first;
        among = among;
        fits = placeable x s placed c.wants.bytes own.first among (some_bytes c) enough (let low = bounds.0 in omega (arith, low)) bounds.1;
        new = new;
        least = least;
        low = bounds.0;
        place = p.0;
        object = p.1;
        address = p.2 ∙ address_as own.plan own.first own.id own.items;
        sectors = p.3 ∙ place_as own.plan own.first own.id own.items;
        from = from.0;
        copied = from.1;
        lies = from.2;
      }

  -- ---- nothing lies there

  abbrev pub there : List ℕ
  there = place_of_plan c.m.geometry spot.plan c.wants.bytes

  holes : (u : ℕ) → is_among there u ≡ true → is_among (hole_sectors (Layout.New c.m)) u ≡ true
  holes u e = place_free c.m c.agreed.is_map placed.plans (can x s placed) spot.plan c.wants.bytes u spot.among e

  once : Distinct there
  once = place_once c.m c.agreed.is_map placed.plans (can x s placed) spot.plan c.wants.bytes spot.among spot.fits.rising

  pub new_unused : is_used c.m spot.plan.id ≡ false
  new_unused = unused x spot.plan.id spot.new

  -- ---- and nothing that stays comes there

  its_stretch : Stretch (growing c) s placed (place_of_plan c.m.geometry spot.plan c.wants.bytes)
  its_stretch = record {
    plan = spot.plan;
    among = spot.among;
    bytes = c.wants.bytes;
    fit = spot.fits;
    from = 0;
    long = div_ceil c.wants.bytes c.m.geometry.sector;
    fits = omega arith;
    is = ap (take (div_ceil c.wants.bytes c.m.geometry.sector)) (sym (drop_zero (plan_sectors c.m.geometry spot.plan)));
  }
    where
      drop_zero : (xs : List ℕ) → drop 0 xs ≡ xs
      drop_zero [] = refl
      drop_zero (k ∷ xs) = refl

  abbrev out_plan : Plan
  out_plan = (grown_at (growing c) s placed).2.plan

  -- The grown directory's new identifier is a later one.
  pub not_out : (k : Growth) → moving_out c.m (parts_with c.m c.nodes c.owners) (Some c.growth) ≡ Some k → spot.plan.id ≡ (grown_at (growing c) s placed).2.plan.id → ⊥
  not_out k e same =
      let grows : moving_out c.m (parts_with c.m c.nodes c.owners) c.wants.grows ≡ Some k = ap (moving_out c.m (parts_with c.m c.nodes c.owners)) c.grows ∙ e in
      let its_last = subst (λ (o : Option Growth). IsLastIf o placed.plans out_plan) e (grown_at (growing c) s placed).2.last in
      let have = subst (λ (o : Option Growth). HaveIds (new_ids c.m) (own_need (own_bytes x) ++ (map (need_of (end x)) (ids x) ++ out_need o)) placed.plans placed.met.left) grows placed.met.ids in
      let q = last_own (own_bytes x) (own_bytes x == 0) (end x) (ids x) (new_ids c.m) k placed.plans placed.met.left have in
      let one : q.0 ≡ out_plan = last_same q.1.0 its_last.0 q.0 out_plan (sym q.1.1 ∙ its_last.1) in
      let later : spot.least.0 ≡ q.0.id ∷ q.2.0 =
      sym (drop_none spot.least.0) ∙ ap (λ (ks : List ℕ). drop 1 ks) (sym spot.least.1)
      ∙ ap (λ (b : Bool). drop (one_if (not b)) (new_ids c.m)) (sym (ne_eqb (own_bytes x) 0 (λ none. (let more = some_bytes c in let n = own_bytes_are in omega (arith, more, n, none))))) ∙ q.2.1 in
      let distinct : AreDistinct (spot.plan.id ∷ (q.0.id ∷ q.2.0)) =
      subst AreDistinct (spot.least.1 ∙ ap (λ (ks : List ℕ). spot.plan.id ∷ ks) later) (range_once (λ (j : ℕ). not (is_used c.m j)) (id_limit g - 3) 3) in
      distinct.0 (subst (Contains (q.0.id ∷ q.2.0)) (ap (λ (p : Plan). p.id) one ∙ sym same) (contains_here q.0.id q.2.0))

  off_used : (k : ℕ) → moves (growing c) k ≡ true → spot.plan.id ≡ k → ⊥
  off_used k e same = let yes = used x k e in let no : is_used c.m k ≡ false = sym (ap (is_used c.m) same) ∙ new_unused in cc

  off_grown : (o : Option Growth) → moving_out c.m (parts_with c.m c.nodes c.owners) (Some c.growth) ≡ o → (u : ℕ) → is_among there u ≡ true → is_among (grown (growing c) s placed) u ≡ true → ⊥
  unfolding spot its_stretch
  off_grown None e =
      stretch_beside c.m c.agreed.is_map placed.plans (can x s placed) (once_of x s placed) there (grown x s placed) its_stretch (grown_stays x s placed (d x) (grower x).2 (spots.address x) e (d_stays x e))
      (λ same. off_used (id_of (d x).entry.address) (d_stays x e).moved (same ∙ (plan_at x s placed (id_of (d x).entry.address) (d_stays x e).moved).1.id))
  off_grown (Some k) e =
      stretch_beside c.m c.agreed.is_map placed.plans (can x s placed) (once_of x s placed) there (grown x s placed) its_stretch (grown_leaves x s placed (d x) (grower x).2 (spots.address x) k e)
      (λ same. not_out k e (same ∙ leaves_plan x s placed (d x) (grower x).2 (spots.address x) k e))

  off_laid : (p : Object) (st : IsStaying (growing c) p) → is_grown (growing c) p ≡ false → (u : ℕ) → is_among there u ≡ true → is_among (laid (growing c) s placed p) u ≡ true → ⊥
  unfolding spot its_stretch
  off_laid p st other =
      stretch_beside c.m c.agreed.is_map placed.plans (can x s placed) (once_of x s placed) there (laid x s placed p) its_stretch (laid_at x s placed p st other)
      (λ same. off_used (id_of p.entry.address) st.moved (same ∙ (plan_at x s placed (id_of p.entry.address) st.moved).1.id))

  off_others : (p : Object) → IsThere (growing c) p → (u : ℕ) → is_among there u ≡ true → is_among (spots.spot (growing c) s placed p) u ≡ true → ⊥
  off_others p at u e f = elim at.stays [
    | inl is ↦ off_grown (moving_out c.m (parts_with c.m c.nodes c.owners) (Some c.growth)) refl u e (subst (λ (ss : List ℕ). is_among ss u ≡ true) (spots.spot_grown x s placed p is) f)
    | inr other ↦ off_laid p other.1 other.0 u e (subst (λ (ss : List ℕ). is_among ss u ≡ true) (spots.spot_other x s placed p other.0) f)
  ]

  pub beside : LiesBeside (growing c) s placed (place_of_plan c.m.geometry spot.plan c.wants.bytes)
  beside = record {
    free = λ u e. inl (holes u e);
    room = record {
      low = λ u e. hole_on_disc c.m c.agreed.is_map u (holes u e);
      once = apart_of there once;
      beside = hole_apart c.kind c.m c.nodes c.owners c.root c.listings c.agreed there holes;
    };
    apart = λ p at. apart_from p.sectors there
        (λ u i j. clash (is_among (hole_sectors (Layout.New c.m)) u) (holes u j) (apart_at p.sectors (hole_sectors (Layout.New c.m)) u (no_hole c.kind c.m c.nodes c.owners c.root c.listings c.agreed p at) i));
    beside = off_others;
  }

  -- ---- its address

  low : ℕ
  low = file_low g (bits_in (fronts spot.plan.parts.items) * g.bit_bytes) c.wants.bytes

  pub id_is : id_of spot.place.address ≡ spot.plan.id
  id_is = ap id_of spot.address ∙ id_at spot.plan.id (file_low g (bits_in (fronts spot.plan.parts.items) * g.bit_bytes) c.wants.bytes) (low_two g (bits_in (fronts spot.plan.parts.items) * g.bit_bytes) c.wants.bytes)

  -- It isn't that of the grown directory.
  pub other_id : spot.plan.id ≡ id_of (grown_at (growing c) s placed).0.directory.address → ⊥
  other_id same = by (moving_out c.m (parts_with c.m c.nodes c.owners) (Some c.growth)) refl
    where
      by : (o : Option Growth) → moving_out c.m (parts_with c.m c.nodes c.owners) (Some c.growth) ≡ o → ⊥
      by None e = off_used (id_of (d x).entry.address) (d_stays x e).moved (same ∙ ap id_of (at_address x s placed (d x) (grower x).2 (spots.address x) None e))
      by (Some k) e = not_out k e (same ∙ sym (grown_at x s placed).2.id)

  low_at : (id n : ℕ) → n < 2 → low_of (256 * id + n) ≡ n
  low_at id n small = omega (arith, small)

  low_there : low_of spot.place.address ≡ file_low g (bits_in (fronts spot.plan.parts.items) * g.bit_bytes) c.wants.bytes
  low_there = ap low_of spot.address ∙ low_at spot.plan.id (file_low g (bits_in (fronts spot.plan.parts.items) * g.bit_bytes) c.wants.bytes) (low_two g (bits_in (fronts spot.plan.parts.items) * g.bit_bytes) c.wants.bytes)

  -- by a map on which the plans were taken
  module _ (m' : Map) (same : m'.geometry ≡ c.m.geometry) (taken : (q : Plan) → Contains placed.plans q → IsTakenIn m' q) where
    pub leads_there : sectors_at (Layout.New m') spot.place.address c.wants.bytes ≡ Some (place_of_plan c.m.geometry spot.plan c.wants.bytes)
    leads_there =
        leads c.m m' c.agreed.is_map same c.wants.bytes spot.plan spot.fits (taken spot.plan spot.among) spot.place.address id_is
        (let small = low_two g (bits_in (fronts spot.plan.parts.items) * g.bit_bytes) c.wants.bytes in let is = low_there in omega (arith, small, is))

    bits_then : bits_in (id_runs m' spot.plan.id) ≡ bits_in (fronts spot.plan.parts.items)
    bits_then =
        sum_by-IsPermutation (λ (p : ZoneRun). p.1.len) (as_runs spot.plan.id (fronts spot.plan.parts.items)) (id_runs m' spot.plan.id) (taken spot.plan spot.among).all ∙ as_bits spot.plan.id (fronts spot.plan.parts.items)

    pub low_then : low_of spot.place.address ≡ file_low m'.geometry (bits_in (id_runs m' (id_of spot.place.address)) * m'.geometry.bit_bytes) c.wants.bytes
    low_then =
        low_there
        ∙ ap₂ (λ (f : Geometry) (n : ℕ). file_low f (n * f.bit_bytes) c.wants.bytes) (sym same) (sym bits_then)
        ∙ ap (λ (k : ℕ). file_low m'.geometry (bits_in (id_runs m' k) * m'.geometry.bit_bytes) c.wants.bytes) (sym id_is)
