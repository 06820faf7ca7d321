-- Where a job by which a directory grows moves what stays: the new map has it there.
use Rattle.std.proofs.Common.{◌≡◌, ◌<◌, ◌≤◌, ◌+◌, ◌-◌, ◌*◌, ◌/◌, ◌==◌, ◌&&◌, ⊎_elim, inl, inr, ℕ, Bool, true, false, cond, List, [], ◌∷◌, ◌++◌, zero, suc, length, take, drop, refl, sym, ap, ap₂, subst, ◌∙◌, arith, Option, Some, None}
use Rattle.std.specs.Prelude.{Contains, nat_le, nat_lt}
use Rattle.std.specs.Int.{div_ceil}
use Rattle.std.specs.Option.{option_map_or}
use Rattle.std.proofs.lemmas.Bool.{and_parts, cases_eq, eqb-true, le-leb, lt-ltb, ltb-true}
use Rattle.fc_record.specs.declared.Geometry.{Geometry}
use Rattle.fc_record.specs.Record.{id_limit}
use Rattle.fc_newmap.specs.Map.{Map}
use Rattle.fc_newmap.proofs.CoverLemmas.{Distinct}
use Rattle.fc_image.specs.Layout.{Layout, dir_form, hole_sectors, id_of, id_sectors, is_among, low_of, low_start}
use Rattle.fc_image.specs.Moves.{object_in, sectors_or_none}
use Rattle.fc_image.specs.Objects.{has_sectors, objects_of}
use Rattle.fc_image.specs.Walk.{Object, object_size}
use Rattle.fc_changes.proofs.ChangeLemmas.{a_sector}
use Rattle.fc_changes.proofs.NewPlaceLemmas.{some_there}
use Rattle.fc_plan.specs.declared.plan.Plan.{Plan}
use Rattle.fc_plan.specs.Applied.{IsTakenIn}
use Rattle.fc_tree.specs.Parts.{owner_of}
use Rattle.fc_tree.proofs.WalkedLemmas.{same_some}
use Rattle.fc_laws.proofs.lemmas.agree.BeforeLemmas.{new_shape}
use Rattle.fc_change.specs.declared.spaces.Spaces.{Spaces}
use Rattle.fc_change.specs.GrownSpace.{place_of_plan, plan_sectors}
use Rattle.fc_change.proofs.LeadsLemmas.{leads}
use Rattle.fc_commands.proofs.NodeLemmas.{each_at}
use Rattle.fc_commands.proofs.StayingLemmas.{no_ceil}
use Rattle.fc_safe.specs.FirstSpace.{ArePlacedFirst}
use Rattle.fc_safe.specs.Staying.{remains}
use Rattle.fc_safelaws.specs.Relaid.{Reaches}
use Rattle.fc_safelaws.proofs.PlaceLemmas.{HasPlace, has_place, one_place, place_among, to_take}
use Rattle.fc_safelaws.proofs.RelaidLemmas.{Within, relaid_law, within}
use Rattle.fc_safecommands.specs.Anew.{laid_by, plan_for}
use Rattle.fc_safecommands.proofs.LaidLemmas.{place_stretch, same_stretch, stretch_once, stretch_place}
use Rattle.fc_safecommands.proofs.PlainLemmas.{LiesIn}
use Rattle.fc_safecommands.proofs.PlansApartLemmas.{place_apart, place_free, place_once}
use Rattle.fc_safecommands.proofs.GrownStirLemmas.{GrowingJob, end, h, leaving, lies_in, long, moves, moves_high, owner_in, sector_end, sound, y}
use Rattle.fc_safecommands.proofs.GrownSpaceLemmas.{IsPlanOf, can, once, out_fits, out_is, plan_at}
use Rattle.fc_safecommands.proofs.GrownStepLemmas.{grown_at}
use Rattle.fc_safecommands.proofs.GrownLaidLemmas as lying
use Rattle.fc_safecommands.proofs.GrownLaidLemmas.{IsStaying, at_address, count, first, grown, is_grown, laid, laid_is, long_then, then_as}
use Rattle.fc_safecommands.proofs.GrownSpotLemmas as spots
use Rattle.fc_safecommands.proofs.GrownSpotLemmas.{d, d_stays, grower}
use Rattle.fc_safecommands.proofs.StretchLemmas.{one_plan}
use Rattle.fc_change.specs.declared.job.Growth.{Growth}
use Rattle.fc_safe.specs.FirstNeeds.{moving_out}
use Rattle.fc_safe.specs.FirstSpace.{IsLastIf}
use Rattle.fc_image.specs.Layout.{new_sectors, sectors_at}

module _ (x : GrowingJob) (s : Spaces) (placed : ArePlacedFirst x.m (h x) x.job x.wants s) where
  -- by a map on which the plans were taken
  module _ (m' : Map) (same : m'.geometry ≡ x.m.geometry) (taken : (q : Plan) → Contains placed.plans q → IsTakenIn m' q) where
    -- The identifier begins with the plan's sectors, as many as are needed.
    begins : (k : ℕ) (q : Plan) → IsPlanOf x s placed k q → (count x k ≤ length (id_sectors m' k)) × (take (count x k) (id_sectors m' k) ≡ take (count x k) (plan_sectors x.m.geometry q))
    begins k q of =
        let id_at : id_of (256 * q.id) ≡ q.id = omega arith in
        let low_at : low_of (256 * q.id) ≡ 0 = omega arith in
        ⊎_elim (λ none. absurd (let some = of.fits.some in let zero' = eqb-true (end x k) 0 none.0 in omega (arith, some, zero')))
        (λ w. by id_at low_at w) (within m' (256 * q.id) (end x k) (place_of_plan x.m.geometry q (end x k)) (leads x.m m' x.agreed.is_map same (end x k) q of.fits (taken q of.among) (256 * q.id) id_at (omega (arith, low_at))))
      where
        by : id_of (256 * q.id) ≡ q.id → low_of (256 * q.id) ≡ 0 → Within m' (256 * q.id) (end x k) (place_of_plan x.m.geometry q (end x k)) → (count x k ≤ length (id_sectors m' k)) × (take (count x k) (id_sectors m' k) ≡ take (count x k) (plan_sectors x.m.geometry q))
        by id_at low_at w =
            let sector : m'.geometry.sector ≡ x.m.geometry.sector = ap (λ (j : Geometry). j.sector) same in
            let start : low_start m' (low_of (256 * q.id)) ≡ 0 = ap (low_start m') low_at ∙ (let e : 0 * (m'.geometry.share / m'.geometry.sector) ≡ 0 = omega arith in e) in
            let part : drop (low_start m' (low_of (256 * q.id))) (id_sectors m' (id_of (256 * q.id))) ≡ id_sectors m' k = ap₂ (λ (a j : ℕ). drop a (id_sectors m' j)) start (id_at ∙ of.id) in
            let n : div_ceil (end x k) m'.geometry.sector ≡ count x k = ap (div_ceil (end x k)) sector in (
              subst (λ (j : ℕ). j ≤ length (id_sectors m' k)) n (subst (λ (ss : List ℕ). div_ceil (end x k) m'.geometry.sector ≤ length ss) part w.room),
              ap₂ (λ (j : ℕ) (ss : List ℕ). take j ss) (sym n) (sym part) ∙ w.is,
            )

    size_same : (q : Object) → object_size (dir_form (Layout.New m')) q.entry ≡ object_size (dir_form (Layout.New x.m)) q.entry
    size_same q = ap (λ (k : Geometry). object_size (dir_form (Layout.New (record { geometry = k; zones = [] }))) q.entry) same

    start_same : (q : Object) → low_start m' (low_of q.entry.address) ≡ low_start x.m (low_of q.entry.address)
    start_same q = ap (λ (k : Geometry). (low_of q.entry.address - 1) * (k.share / k.sector)) same

    -- ---- an object that ends within what its identifier needs

    module _ (q : Object) (e : moves x (id_of q.entry.address) ≡ true) where
      -- so many sectors
      abbrev n : ℕ
      n = div_ceil (object_size (dir_form (Layout.New x.m)) q.entry) x.m.geometry.sector

      n_same : div_ceil (object_size (dir_form (Layout.New m')) q.entry) m'.geometry.sector ≡ n
      n_same = ap₂ (λ (a b : ℕ). div_ceil a b) (size_same q) (ap (λ (k : Geometry). k.sector) same)

      abbrev its_plan : Plan
      its_plan = (plan_at x s placed (id_of q.entry.address) e).0

      -- It is reached,
      pub reaches_by : (0 < object_size (dir_form (Layout.New x.m)) q.entry → low_start x.m (low_of q.entry.address) + div_ceil (object_size (dir_form (Layout.New x.m)) q.entry) x.m.geometry.sector ≤ count x (id_of q.entry.address)) → Reaches m' q
      reaches_by fits = record {
        id = λ some. subst (λ (k : Geometry). (nat_le 2 (id_of q.entry.address) && nat_lt (id_of q.entry.address) (id_limit k)) ≡ true) (sym same)
            (ap₂ (λ (a b : Bool). a && b) (le-leb 2 (id_of q.entry.address) (let high = (moves_high x (id_of q.entry.address) e).0 in omega (arith, high))) (lt-ltb (id_of q.entry.address) (id_limit x.m.geometry) (moves_high x (id_of q.entry.address) e).1));
        long = λ some.
            (let inside = fits (subst (λ (k : ℕ). 0 < k) (size_same q) some) in
            let f = start_same q in
            let many = n_same in
            let long = (begins (id_of q.entry.address) its_plan (plan_at x s placed (id_of q.entry.address) e).1).0 in
            omega (arith, f, many, long, inside));
      }

      -- and lies in its plan.
      pub lies_by : 0 < object_size (dir_form (Layout.New x.m)) q.entry → low_start x.m (low_of q.entry.address) + div_ceil (object_size (dir_form (Layout.New x.m)) q.entry) x.m.geometry.sector ≤ count x (id_of q.entry.address)
          → (object_in (Layout.New m') q).sectors ≡ take (div_ceil (object_size (dir_form (Layout.New x.m)) q.entry) x.m.geometry.sector) (drop (low_start x.m (low_of q.entry.address)) (plan_sectors x.m.geometry (plan_at x s placed (id_of q.entry.address) e).0))
      lies_by some fits =
          ⊎_elim (λ none. absurd (let zero' = eqb-true (object_size (dir_form (Layout.New m')) q.entry) 0 none.0 in let size = size_same q in omega (arith, some, size, zero'))) by
          (within m' q.entry.address (object_size (dir_form (Layout.New m')) q.entry) (object_in (Layout.New m') q).sectors (relaid_law.placed m' q (reaches_by (λ more. fits))))
        where
          by : Within m' q.entry.address (object_size (dir_form (Layout.New m')) q.entry) (object_in (Layout.New m') q).sectors → (object_in (Layout.New m') q).sectors ≡ take n (drop (low_start x.m (low_of q.entry.address)) (plan_sectors x.m.geometry its_plan))
          by w =
              sym w.is ∙ ap₂ (λ (a b : ℕ). take a (drop b (id_sectors m' (id_of q.entry.address)))) n_same (start_same q)
              ∙ same_stretch (count x (id_of q.entry.address)) (low_start x.m (low_of q.entry.address)) n (id_sectors m' (id_of q.entry.address)) (plan_sectors x.m.geometry its_plan) fits
              (begins (id_of q.entry.address) its_plan (plan_at x s placed (id_of q.entry.address) e).1).1

    -- ---- what stays and doesn't grow

    plain_fits : (p : Object) → IsStaying x p → is_grown x p ≡ false → low_start x.m (low_of p.entry.address) + div_ceil (object_size (dir_form (Layout.New x.m)) p.entry) x.m.geometry.sector ≤ count x (id_of p.entry.address)
    plain_fits p st other =
        let fits = st.fits in
        let many = st.lies.many in
        let then = then_as x p ∙ ap (λ (b : Bool). cond b (x.growth.len / x.m.geometry.sector) (length p.sectors)) other in
        omega (arith, fits, many, then)

    pub sectors_there : (p : Object) → Contains (objects_of x.listings) p → 0 < object_size (dir_form (Layout.New x.m)) p.entry → has_sectors p ≡ true
    sectors_there p at some =
        let t = a_sector x.m p.entry.address (object_size (dir_form (y x)) p.entry) p.sectors some (new_shape x.m x.agreed.is_map).some (each_at (y x) x.listings (sound x) p at) in
        some_there p.sectors t.0 t.1

    pub reaches : (p : Object) → Contains (objects_of x.listings) p → moves x (id_of p.entry.address) ≡ true → (has_sectors p ≡ true → (is_grown x p ≡ false) × IsStaying x p) → Reaches m' p
    reaches p at e st = reaches_by p e (λ some. (let k = st (sectors_there p at some) in plain_fits p k.1 k.0))

    pub laid_there : (p : Object) → Contains (objects_of x.listings) p → (is_grown x p ≡ false) × IsStaying x p → has_sectors p ≡ true → (object_in (Layout.New m') p).sectors ≡ laid x s placed p
    laid_there p at k some =
        lies_by p k.1.moved (size_some (object_size (dir_form (Layout.New x.m)) p.entry) refl) (plain_fits p k.1 k.0)
        ∙ ap (λ (j : ℕ). take j (drop (low_start x.m (low_of p.entry.address)) (plan_sectors x.m.geometry (plan_at x s placed (id_of p.entry.address) k.1.moved).0))) (sym k.1.lies.many)
        ∙ sym (laid_is x s placed p k.1)
      where
        size_some : (j : ℕ) → object_size (dir_form (Layout.New x.m)) p.entry ≡ j → 0 < object_size (dir_form (Layout.New x.m)) p.entry
        size_some zero f = absurd (
            let many = k.1.lies.many in
            let none : div_ceil (object_size (dir_form (Layout.New x.m)) p.entry) x.m.geometry.sector ≡ 0 = ap (λ (j : ℕ). div_ceil j x.m.geometry.sector) f ∙ no_ceil x.m.geometry.sector in
            let long = ltb-true 0 (length p.sectors) some in omega (arith, many, none, long))
        size_some (suc j) f = omega (arith, f)

    -- ---- the directory that grows

    -- an object of its length at the address that it then has
    module _ (q : Object) (size : object_size (dir_form (Layout.New x.m)) q.entry ≡ x.growth.len) (address : q.entry.address ≡ (grown_at x s placed).0.directory.address) where
      len_some : 0 < x.growth.len
      len_some = let low = long x in omega (arith, low)

      stays_fits : moving_out x.m (h x) (Some x.growth) ≡ None → low_start x.m (low_of q.entry.address) + div_ceil (object_size (dir_form (Layout.New x.m)) q.entry) x.m.geometry.sector ≤ count x (id_of q.entry.address)
      stays_fits e =
          let st = d_stays x e in
          let at : q.entry.address ≡ (d x).entry.address = address ∙ at_address x s placed (d x) (grower x).2 (spots.address x) None e in
          subst (λ (a : ℕ). low_start x.m (low_of a) + div_ceil (object_size (dir_form (Layout.New x.m)) q.entry) x.m.geometry.sector ≤ count x (id_of a)) (sym at)
          (let fits = st.fits in let then = long_then x s placed (d x) (grower x).2 (spots.address x) in let many = ap (λ (j : ℕ). div_ceil j x.m.geometry.sector) size in omega (arith, fits, then, many))

      its_move : moving_out x.m (h x) (Some x.growth) ≡ None → moves x (id_of q.entry.address) ≡ true
      its_move e = subst (λ (a : ℕ). moves x (id_of a) ≡ true) (sym (address ∙ at_address x s placed (d x) (grower x).2 (spots.address x) None e)) (d_stays x e).moved

      -- It is reached in its identifier, if it stays in it,
      pub grown_reaches : moving_out x.m (h x) (Some x.growth) ≡ None → Reaches m' q
      grown_reaches e = reaches_by q (its_move e) (λ some. stays_fits e)

      -- and in any case lies in its new sectors.
      pub grown_is_at : sectors_at (Layout.New m') q.entry.address (object_size (dir_form (Layout.New m')) q.entry) ≡ Some (grown x s placed)
      grown_is_at = by (moving_out x.m (h x) (Some x.growth)) refl
        where
          last : (k : Growth) → moving_out x.m (h x) (Some x.growth) ≡ Some k → (before : List Plan) × (placed.plans ≡ before ++ (first x s placed).plan ∷ [])
          last k e = subst (λ (o : Option Growth). IsLastIf o placed.plans (first x s placed).plan) e (first x s placed).last

          by : (o : Option Growth) → moving_out x.m (h x) (Some x.growth) ≡ o → sectors_at (Layout.New m') q.entry.address (object_size (dir_form (Layout.New m')) q.entry) ≡ Some (grown x s placed)
          by None e =
              let at : q.entry.address ≡ (d x).entry.address = address ∙ at_address x s placed (d x) (grower x).2 (spots.address x) None e in
              let f = first x s placed in
              let its = plan_at x s placed (id_of q.entry.address) (its_move e) in
              let one : its.0 ≡ f.plan = one_plan placed.plans its.0 f.plan (once x s placed) its.1.among f.among (its.1.id ∙ ap id_of address ∙ sym f.id) in
              relaid_law.placed m' q (grown_reaches e)
              ∙ ap (λ (ss : List ℕ). let o : Option (List ℕ) = Some ss in o)
              (lies_by q (its_move e) (subst (λ (j : ℕ). 0 < j) (sym size) len_some) (stays_fits e)
              ∙ ap₂ (λ (j : ℕ) (r : Plan). take (div_ceil j x.m.geometry.sector) (drop (low_start x.m (low_of q.entry.address)) (plan_sectors x.m.geometry r))) size one
              ∙ ap (λ (a : ℕ). take (div_ceil x.growth.len x.m.geometry.sector) (drop (low_start x.m (low_of a)) (plan_sectors x.m.geometry f.plan))) address
              ∙ sym f.sectors)
          by (Some k) e =
              let f = first x s placed in
              let goes = ap (moving_out x.m (h x)) x.grows ∙ e in
              let fits = out_fits x s placed f.plan f.among (last k e).0 (last k e).1 (goes ∙ ap (λ (g : Growth). let o : Option Growth = Some g in o) (sym (out_is x k goes))) in
              let addr : q.entry.address ≡ 256 * f.plan.id = address ∙ at_address x s placed (d x) (grower x).2 (spots.address x) (Some k) e in
              let id_at : id_of (256 * f.plan.id) ≡ f.plan.id = omega arith in
              let low_at : low_of (256 * f.plan.id) ≡ 0 = omega arith in
              let led = leads x.m m' x.agreed.is_map same x.growth.len f.plan fits (taken f.plan f.among) (256 * f.plan.id) id_at (omega (arith, low_at)) in
              let len : object_size (dir_form (Layout.New m')) q.entry ≡ x.growth.len = size_same q ∙ size in
              let start : low_start x.m (low_of (grown_at x s placed).0.directory.address) ≡ 0 =
              ap (λ (a : ℕ). low_start x.m (low_of a)) (sym address ∙ addr) ∙ ap (low_start x.m) low_at ∙ (let z : 0 * (x.m.geometry.share / x.m.geometry.sector) ≡ 0 = omega arith in z) in
              ap₂ (λ (a j : ℕ). sectors_at (Layout.New m') a j) addr len
              ∙ led
              ∙ ap (λ (ss : List ℕ). let o : Option (List ℕ) = Some ss in o)
              (sym (f.sectors ∙ ap (λ (n : ℕ). take (div_ceil x.growth.len x.m.geometry.sector) (drop n (plan_sectors x.m.geometry f.plan))) start))

      pub grown_there : (object_in (Layout.New m') q).sectors ≡ grown x s placed
      grown_there = ap sectors_or_none grown_is_at
