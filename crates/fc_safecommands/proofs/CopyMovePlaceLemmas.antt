-- Where a copied file comes to lie in the safe mode: in the first plan's space, in the least new identifier.
use Rattle.std.proofs.Common.{◌≡◌, ◌<◌, ◌≤◌, ◌+◌, ◌*◌, ◌-◌, ◌&&◌, inl, inr, ℕ, Bool, true, false, not, cond, List, [], ◌∷◌, ◌++◌, map, take, refl, sym, ap, ap₂, subst, ◌∙◌, arith, Option, Some, None}
use Rattle.std.specs.Prelude.{Contains, Vec, is_none, is_some}
use Rattle.std.specs.declared.alloc.Global.{Global}
use Rattle.std.specs.Int.{div_ceil}
use Rattle.std.specs.List.{range_with_len}
use Rattle.std.specs.Option.{option_and_then}
use Rattle.std.proofs.lemmas.List.Sorted.{sum_by-IsPermutation}
use Rattle.fc_device.specs.declared.disk.Extent.{Extent}
use Rattle.fc_record.specs.declared.Geometry.{Geometry}
use Rattle.fc_record.specs.Record.{id_limit}
use Rattle.fc_newmap.specs.Map.{Map, ZoneRun, bits_in, id_runs, is_used, sectors_of}
use Rattle.fc_newmap.proofs.CoverLemmas.{Distinct}
use Rattle.fc_image.specs.Layout.{Layout, hole_sectors, id_of, is_among, low_of, sectors_at}
use Rattle.fc_image.specs.effects.Placed.{file_low}
use Rattle.fc_image.specs.effects.Sharing.{new_ids, units}
use Rattle.fc_image.proofs.HolesLemmas.{apart_at, apart_from}
use Rattle.fc_changes.proofs.BasicLemmas.{clash}
use Rattle.fc_laws.specs.agree.Agreed.{parts_with}
use Rattle.fc_laws.proofs.lemmas.agree.BeforeLemmas.{no_hole}
use Rattle.fc_laws.proofs.lemmas.takeover.WriteLemmas.{apart_of}
use Rattle.fc_objects.specs.Extents.{sectors_in}
use Rattle.fc_placing.specs.Extents.{parts_met}
use Rattle.fc_placing.specs.Places.{address_in, slack_left}
use Rattle.fc_placing.specs.declared.placing.Placing.{Placing}
use Rattle.fc_placing.proofs.LeavingLemmas.{from_kept}
use Rattle.fc_plan.specs.declared.plan.Part.{Part}
use Rattle.fc_plan.specs.declared.plan.Plan.{Plan}
use Rattle.fc_plan.specs.Applied.{IsTakenIn}
use Rattle.fc_plan.specs.Parts.{fronts}
use Rattle.fc_plan.specs.Taking.{as_runs}
use Rattle.fc_tree.proofs.MemberLemmas.{contains_here}
use Rattle.fc_change.specs.declared.spaces.Place.{Place}
use Rattle.fc_change.specs.declared.spaces.Spaces.{Spaces}
use Rattle.fc_change.specs.GrownSpace.{place_of_plan}
use Rattle.fc_change.specs.Places.{IsCopiedFrom, IsPlaceFor, IsPlaceOf, extents_in, is_directory, own_address}
use Rattle.fc_change.specs.Shortage.{slack_for}
use Rattle.fc_change.proofs.LeadsLemmas.{IsPlaceable, leads, as_bits}
use Rattle.fc_commands.proofs.NewPlaceLemmas.{hole_apart, hole_on_disc, id_at}
use Rattle.fc_commands.proofs.NewSpotLemmas.{low_two}
use Rattle.fc_safe.specs.FirstSpace.{ArePlacedFirst, IsFirstOf, IsFirstPlacing}
use Rattle.fc_safecommands.proofs.CopyMoveLemmas.{CopyMove, job, some, wanted}
use Rattle.fc_safecommands.proofs.PlansApartLemmas.{place_free, place_once}
use Rattle.fc_safecommands.proofs.StirredLaidLemmas.{laid_beside}
use Rattle.fc_safecommands.proofs.StirredLemmas.{StirredJob, ids, own_bytes}
use Rattle.fc_safecommands.proofs.StirredPutLemmas.{LiesBeside}
use Rattle.fc_safecommands.proofs.StirredSpaceLemmas.{HasPlanIds, IsItsPlan, can, placeable, plan_cases, plan_ids, unused, used}
use Rattle.fc_placing.specs.declared.placing.Placing.TheVariants as placings
use Rattle.fc_change.specs.declared.job.Job.TheVariants as jobs
pub use Rattle.fc_safecommands.proofs.CopyGrownPlaceLemmas.{range_bounds}

-- ---- numbers and lists

head_is : (a b : ℕ) (xs ys : List ℕ) → a ∷ xs ≡ b ∷ ys → a ≡ b
head_is a b xs ys e = cc

module _ (c : CopyMove) (s : Spaces) (placed : ArePlacedFirst c.m (parts_with c.m c.nodes c.owners) (jobs.Move c.r) c.wants s) where
  abbrev x : StirredJob
  x = job c

  abbrev g : Geometry
  g = c.m.geometry

  -- ---- it never takes slack

  pub no_slack : slack_for c.m c.owners c.wants ≡ None
  no_slack = ap (λ (d : Option ℕ). option_and_then (λ (dir : ℕ). slack_left c.m c.owners dir c.wants.bytes) d) (wanted c).slack

  pub own_bytes_are : own_bytes (job c) ≡ c.wants.bytes
  own_bytes_are = ap (λ (q : Option (ℕ × ℕ)). let n : ℕ = cond (is_some q) 0 c.wants.bytes in n) no_slack

  -- ---- the first plan is its own

  record IsCopyPlan (q : Placing) : Type 0 where
    pub plan : Plan
    pub first : Plan
    pub others : List Plan
    pub is : q ≡ placings.New plan
    pub plans : placed.plans ≡ first ∷ others
    pub id : plan.id ≡ first.id
    pub items : plan.parts.items ≡ first.parts.items

  of_placing : (q : Placing) → IsFirstPlacing c.m c.owners c.wants placed.plans q → IsCopyPlan q
  of_placing placings.Nowhere at = absurd (let more = some c in omega (arith, more, at))
  of_placing (placings.Shared share) at = absurd (let none = sym no_slack ∙ at in cc)
  of_placing (placings.New plan) at = by placed.plans refl at.1
    where
      by : (ps : List Plan) → placed.plans ≡ ps → IsFirstOf ps plan → IsCopyPlan (placings.New plan)
      by [] e is = absurd is
      by (p ∷ ps) e is = record { plan = plan; first = p; others = ps; is = refl; plans = e; id = is.0; items = is.1 }

  own : IsCopyPlan placed.placing
  own = of_placing placed.placing placed.placed

  among : Contains placed.plans own.first
  among = subst (λ (ps : List Plan). Contains ps own.first) (sym own.plans) (contains_here own.first own.others)

  -- in the least new identifier
  least : (rest : List ℕ) × (new_ids c.m ≡ own.first.id ∷ rest)
  least = by (plan_ids x s placed)
    where
      by : HasPlanIds (own_bytes x) (new_ids c.m) (ids x) placed.plans → (rest : List ℕ) × (new_ids c.m ≡ own.first.id ∷ rest)
      by has = elim has.is [
        | inl none ↦ absurd (let more = some c in let n = own_bytes_are in let zero' = none.0 in omega (arith, more, n, zero'))
        | inr one ↦
            (let all = sym (ap (λ (ps : List Plan). map (λ (p : Plan). p.id) ps) own.plans) ∙ has.all ∙ ap (λ (ks : List ℕ). ks ++ ids x) one.3 in
            let same : own.first.id ≡ one.1 = head_is own.first.id one.1 (map (λ (p : Plan). p.id) own.others) (ids x) all in
            (one.2, one.4 ∙ ap (λ (k : ℕ). k ∷ one.2) (sym same)))
      ]

  new : Contains (new_ids c.m) own.first.id
  new = subst (λ (ks : List ℕ). Contains ks own.first.id) (sym least.1) (contains_here own.first.id least.0)

  bounds : (3 ≤ own.first.id) × (own.first.id < id_limit g)
  bounds =
      let b = range_bounds 3 (id_limit g - 3) own.first.id (from_kept (λ (id : ℕ). not (is_used c.m id)) (range_with_len 3 (id_limit g - 3)) own.first.id new).0 in
      let low = b.0 in
      let high = b.1 in
      (low, omega (arith, low, high))

  enough : units g c.wants.bytes ≤ bits_in (fronts own.first.parts.items)
  enough = by (plan_cases x s placed own.first among)
    where
      by : IsItsPlan x s placed own.first → units g c.wants.bytes ≤ bits_in (fronts own.first.parts.items)
      by (inl fresh) = subst (λ (n : ℕ). units g n ≤ bits_in (fronts own.first.parts.items)) own_bytes_are fresh.2
      by (inr moved) = absurd (let yes = used x own.first.id moved.0 in let no = unused x own.first.id new in cc)

  -- ---- its place

  no_folder : is_directory c.wants ≡ false
  no_folder = ap₂ (λ (a b : Option ℕ). is_none a && is_none b) (wanted c).slack (wanted c).copy

  place_at : (plan : Plan) (q : Option Place) → IsPlaceFor c.m c.wants (placings.New plan) q
      → (p : Place) × (q ≡ Some p) × (p.address ≡ address_in c.m (placings.New plan) c.wants.bytes) × (sectors_in p.extents.items ≡ place_of_plan g plan c.wants.bytes)
  place_at plan (Some p) at = (p, refl, at.0 ∙ ap (λ (b : Bool). own_address b c.m c.wants.bytes plan) no_folder, at.1)
  place_at plan None at = absurd (let more = some c in let none = at.0 in omega (arith, more, none))

  from_at : (n : Option ℕ) (q : Option (Vec Extent Global)) → n ≡ Some c.r.target.node → IsCopiedFrom (Layout.New c.m) c.nodes n (extents_in q)
      → (v : Vec Extent Global) × (q ≡ Some v) × IsPlaceOf (Layout.New c.m) c.nodes c.r.target.node v.items
  from_at (Some n) (Some v) same at = (v, refl, subst (λ (k : ℕ). IsPlaceOf (Layout.New c.m) c.nodes k v.items) (one n c.r.target.node same) at)
    where
      one : (a b : ℕ) → (let q : Option ℕ = Some a in q) ≡ Some b → a ≡ b
      one a b e = cc
  from_at (Some n) None same at = absurd at
  from_at None q same at = absurd (cc)

  address_as : (plan first : Plan) → plan.id ≡ first.id → plan.parts.items ≡ first.parts.items
      → address_in c.m (placings.New plan) c.wants.bytes ≡ 256 * first.id + file_low g (bits_in (fronts first.parts.items) * g.bit_bytes) c.wants.bytes
  address_as plan first id items = ap₂ (λ (k : ℕ) (ps : List Part). 256 * k + file_low g (bits_in (fronts ps) * g.bit_bytes) c.wants.bytes) id items

  place_as : (plan first : Plan) → plan.id ≡ first.id → plan.parts.items ≡ first.parts.items → place_of_plan g plan c.wants.bytes ≡ place_of_plan g first c.wants.bytes
  place_as plan first id items =
      ap₂ (λ (k : ℕ) (ps : List Part). take (div_ceil c.wants.bytes g.sector) (sectors_of g (parts_met g k true (fronts ps)) ++ sectors_of g (parts_met g k false (fronts ps)))) id items

  pub record IsCopySpot : Type 0 where
    pub plan : Plan
    pub among : Contains placed.plans plan
    pub fits : IsPlaceable c.m c.wants.bytes plan
    pub new : Contains (new_ids c.m) plan.id
    pub least : (rest : List ℕ) × (new_ids c.m ≡ plan.id ∷ rest)
    pub low : 3 ≤ plan.id
    pub place : Place
    pub object : s.object ≡ Some place
    pub address : place.address ≡ 256 * plan.id + file_low c.m.geometry (bits_in (fronts plan.parts.items) * c.m.geometry.bit_bytes) c.wants.bytes
    pub sectors : sectors_in place.extents.items ≡ place_of_plan c.m.geometry plan c.wants.bytes
    pub from : Vec Extent Global
    pub copied : s.copied ≡ Some from
    pub lies : IsPlaceOf (Layout.New c.m) c.nodes c.r.target.node from.items

  pub spot : IsCopySpot
  spot =
      let p = place_at own.plan s.object (subst (λ (q : Placing). IsPlaceFor c.m c.wants q s.object) own.is placed.object) in
      let from = from_at c.wants.copied s.copied (wanted c).copy placed.copied in
      record {
        plan = own.first;
        among = among;
        fits = placeable x s placed c.wants.bytes own.first among (some c) enough (let low = bounds.0 in omega (arith, low)) bounds.1;
        new = new;
        least = least;
        low = bounds.0;
        place = p.0;
        object = p.1;
        address = p.2 ∙ address_as own.plan own.first own.id own.items;
        sectors = p.3 ∙ place_as own.plan own.first own.id own.items;
        from = from.0;
        copied = from.1;
        lies = from.2;
      }

  -- ---- nothing lies there

  abbrev pub there : List ℕ
  there = place_of_plan c.m.geometry spot.plan c.wants.bytes

  holes : (u : ℕ) → is_among there u ≡ true → is_among (hole_sectors (Layout.New c.m)) u ≡ true
  holes u e = place_free c.m c.agreed.is_map placed.plans (can x s placed) spot.plan c.wants.bytes u spot.among e

  once : Distinct there
  once = place_once c.m c.agreed.is_map placed.plans (can x s placed) spot.plan c.wants.bytes spot.among spot.fits.rising

  pub new_unused : is_used c.m spot.plan.id ≡ false
  new_unused = unused x spot.plan.id spot.new

  pub beside : LiesBeside (job c) s placed (place_of_plan c.m.geometry spot.plan c.wants.bytes)
  beside = record {
    free = λ u e. inl (holes u e);
    room = record {
      low = λ u e. hole_on_disc c.m c.agreed.is_map u (holes u e);
      once = apart_of there once;
      beside = hole_apart c.kind c.m c.nodes c.owners c.root c.listings c.agreed there holes;
    };
    apart = λ p at. apart_from p.sectors there
        (λ u i j. clash (is_among (hole_sectors (Layout.New c.m)) u) (holes u j) (apart_at p.sectors (hole_sectors (Layout.New c.m)) u (no_hole c.kind c.m c.nodes c.owners c.root c.listings c.agreed p at) i));
    beside = λ p st u e f. laid_beside x s placed p st spot.plan c.wants.bytes u spot.among (λ same.
        (let yes = used x (id_of p.entry.address) st.moved in let no : is_used c.m (id_of p.entry.address) ≡ false = sym (ap (is_used c.m) same) ∙ new_unused in cc)) f e;
  }

  -- ---- its address

  low : ℕ
  low = file_low g (bits_in (fronts spot.plan.parts.items) * g.bit_bytes) c.wants.bytes

  pub id_is : id_of spot.place.address ≡ spot.plan.id
  id_is = ap id_of spot.address ∙ id_at spot.plan.id (file_low g (bits_in (fronts spot.plan.parts.items) * g.bit_bytes) c.wants.bytes) (low_two g (bits_in (fronts spot.plan.parts.items) * g.bit_bytes) c.wants.bytes)

  low_at : (id n : ℕ) → n < 2 → low_of (256 * id + n) ≡ n
  low_at id n small = omega (arith, small)

  low_there : low_of spot.place.address ≡ file_low g (bits_in (fronts spot.plan.parts.items) * g.bit_bytes) c.wants.bytes
  low_there = ap low_of spot.address ∙ low_at spot.plan.id (file_low g (bits_in (fronts spot.plan.parts.items) * g.bit_bytes) c.wants.bytes) (low_two g (bits_in (fronts spot.plan.parts.items) * g.bit_bytes) c.wants.bytes)

  -- by a map on which the plans were taken
  module _ (m' : Map) (same : m'.geometry ≡ c.m.geometry) (taken : (q : Plan) → Contains placed.plans q → IsTakenIn m' q) where
    pub leads_there : sectors_at (Layout.New m') spot.place.address c.wants.bytes ≡ Some (place_of_plan c.m.geometry spot.plan c.wants.bytes)
    leads_there =
        leads c.m m' c.agreed.is_map same c.wants.bytes spot.plan spot.fits (taken spot.plan spot.among) spot.place.address id_is
        (let small = low_two g (bits_in (fronts spot.plan.parts.items) * g.bit_bytes) c.wants.bytes in let is = low_there in omega (arith, small, is))

    bits_then : bits_in (id_runs m' spot.plan.id) ≡ bits_in (fronts spot.plan.parts.items)
    bits_then =
        sum_by-IsPermutation (λ (p : ZoneRun). p.1.len) (as_runs spot.plan.id (fronts spot.plan.parts.items)) (id_runs m' spot.plan.id) (taken spot.plan spot.among).all ∙ as_bits spot.plan.id (fronts spot.plan.parts.items)

    pub low_then : low_of spot.place.address ≡ file_low m'.geometry (bits_in (id_runs m' (id_of spot.place.address)) * m'.geometry.bit_bytes) c.wants.bytes
    low_then =
        low_there
        ∙ ap₂ (λ (f : Geometry) (n : ℕ). file_low f (n * f.bit_bytes) c.wants.bytes) (sym same) (sym bits_then)
        ∙ ap (λ (k : ℕ). file_low m'.geometry (bits_in (id_runs m' k) * m'.geometry.bit_bytes) c.wants.bytes) (sym id_is)
