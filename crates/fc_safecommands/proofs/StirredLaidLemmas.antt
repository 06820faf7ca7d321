-- Where what stays in an identifier that moves lies in the plan's sectors: each object at its place, none over another, and all in holes.
use Rattle.std.proofs.Common.{◌≡◌, ◌<◌, ◌≤◌, ◌+◌, ◌-◌, ◌*◌, ◌/◌, ◌==◌, ◌&&◌, ⊎_elim, inl, inr, ℕ, Bool, true, false, List, [], length, take, drop, refl, sym, ap, ap₂, subst, ◌∙◌, arith, Option, Some, None}
use Rattle.std.specs.Prelude.{Contains, nat_le, nat_lt}
use Rattle.std.specs.Int.{div_ceil}
use Rattle.std.specs.Option.{option_map_or}
use Rattle.std.proofs.lemmas.Bool.{and_parts, cases_eq, eqb-true, le-leb, lt-ltb, ltb-true}
use Rattle.fc_record.specs.declared.Geometry.{Geometry}
use Rattle.fc_record.specs.Record.{id_limit}
use Rattle.fc_newmap.specs.Map.{Map}
use Rattle.fc_newmap.proofs.CoverLemmas.{Distinct}
use Rattle.fc_image.specs.Layout.{Layout, dir_form, hole_sectors, id_of, id_sectors, is_among, low_of, low_start}
use Rattle.fc_image.specs.Moves.{object_in}
use Rattle.fc_image.specs.Objects.{has_sectors, objects_of}
use Rattle.fc_image.specs.Walk.{Object, object_size}
use Rattle.fc_changes.proofs.ChangeLemmas.{a_sector}
use Rattle.fc_changes.proofs.NewPlaceLemmas.{some_there}
use Rattle.fc_plan.specs.declared.plan.Plan.{Plan}
use Rattle.fc_plan.specs.Applied.{IsTakenIn}
use Rattle.fc_tree.specs.Parts.{owner_of}
use Rattle.fc_tree.proofs.WalkedLemmas.{same_some}
use Rattle.fc_laws.proofs.lemmas.agree.BeforeLemmas.{new_shape}
use Rattle.fc_change.specs.declared.spaces.Spaces.{Spaces}
use Rattle.fc_change.specs.GrownSpace.{place_of_plan, plan_sectors}
use Rattle.fc_change.proofs.LeadsLemmas.{leads}
use Rattle.fc_commands.proofs.NodeLemmas.{each_at}
use Rattle.fc_commands.proofs.StayingLemmas.{no_ceil}
use Rattle.fc_safe.specs.FirstSpace.{ArePlacedFirst}
use Rattle.fc_safe.specs.Staying.{remains}
use Rattle.fc_safelaws.specs.Relaid.{Reaches}
use Rattle.fc_safelaws.proofs.PlaceLemmas.{HasPlace, has_place, one_place, place_among, to_take}
use Rattle.fc_safelaws.proofs.RelaidLemmas.{Within, relaid_law, within}
use Rattle.fc_safecommands.specs.Anew.{laid_by, plan_for}
use Rattle.fc_safecommands.proofs.LaidLemmas.{place_stretch, same_stretch, stretch_once, stretch_place}
use Rattle.fc_safecommands.proofs.PlainLemmas.{LiesIn}
use Rattle.fc_safecommands.proofs.PlansApartLemmas.{place_apart, place_free, place_once}
use Rattle.fc_safecommands.proofs.StirredLemmas.{StirredJob, end, h, leaving, lies_in, moves, moves_high, owner_in, sector_end, sound, y}
use Rattle.fc_safecommands.proofs.StirredSpaceLemmas.{IsPlanOf, can, plan_at}

module _ (x : StirredJob) where
  abbrev g : Geometry
  g = x.m.geometry

  -- as many sectors of an identifier as it then needs
  abbrev pub count : ℕ → ℕ
  count k = div_ceil (end x k) x.m.geometry.sector

  -- The object is in an identifier that moves, and its place ends within it.
  pub record IsStaying (p : Object) : Type 0 where
    pub moved : moves x (id_of p.entry.address) ≡ true
    pub lies : LiesIn x.m p
    pub fits : low_start x.m (low_of p.entry.address) + length p.sectors ≤ count (id_of p.entry.address)

  pub staying : (p : Object) → Contains (objects_of x.listings) p → has_sectors p ≡ true → moves x (id_of p.entry.address) ≡ true → remains (leaving x) (id_of p.entry.address) (owner_of x.nodes (y x) p) ≡ true → IsStaying p
  staying p at some e stays = record { moved = e; lies = lies_in x p at some; fits = sector_end x (id_of p.entry.address) (owner_of x.nodes (y x) p) (owner_in x p at some) stays }

  module _ (s : Spaces) (placed : ArePlacedFirst x.m (h x) x.job x.wants s) where
    -- where the object lies by its identifier's plan
    abbrev pub laid : Object → List ℕ
    laid p = laid_by x.m placed.plans (owner_of x.nodes (y x) p)

    abbrev plan : (p : Object) → IsStaying p → (q : Plan) × IsPlanOf x s placed (id_of p.entry.address) q
    plan p st = plan_at x s placed (id_of p.entry.address) st.moved

    abbrev rows : (p : Object) → IsStaying p → List ℕ
    rows p st = plan_sectors x.m.geometry (plan_at x s placed (id_of p.entry.address) st.moved).0

    pub laid_is : (p : Object) (st : IsStaying p) → laid p ≡ take (length p.sectors) (drop (low_start x.m (low_of p.entry.address)) (rows p st))
    laid_is p st =
        let f : ℕ = low_start x.m (low_of p.entry.address) in
        let of : Option Plan → List ℕ = λ o. option_map_or (λ (r : Plan). take (length p.sectors) (drop f (plan_sectors g r))) o [] in
        ap of (plan p st).1.found

    once : (p : Object) (st : IsStaying p) → Distinct (take (count (id_of p.entry.address)) (rows p st))
    once p st = place_once x.m x.agreed.is_map placed.plans (can x s placed) (plan p st).0 (end x (id_of p.entry.address)) (plan p st).1.among (plan p st).1.fits.rising

    -- a sector of its place is one of those that the identifier needs
    needed : (p : Object) (st : IsStaying p) (u : ℕ) → is_among (laid p) u ≡ true
        → (j : ℕ) × (j < length p.sectors) × HasPlace (rows p st) (low_start x.m (low_of p.entry.address) + j) u × HasPlace (take (count (id_of p.entry.address)) (rows p st)) (low_start x.m (low_of p.entry.address) + j) u
    needed p st u e =
        let f = low_start x.m (low_of p.entry.address) in
        let r = stretch_place f (length p.sectors) (rows p st) u (subst (λ (ss : List ℕ). is_among ss u ≡ true) (laid_is p st) e) in
        let low = r.1 in
        let fits = st.fits in
        (r.0, r.1, r.2, to_take (count (id_of p.entry.address)) (rows p st) (f + r.0) u (omega (arith, low, fits)) r.2)

    -- Each of its sectors lies in a hole,
    pub laid_free : (p : Object) → IsStaying p → (u : ℕ) → is_among (laid p) u ≡ true → is_among (hole_sectors (Layout.New x.m)) u ≡ true
    laid_free p st u e =
        let r = needed p st u e in
        place_free x.m x.agreed.is_map placed.plans (can x s placed) (plan p st).0 (end x (id_of p.entry.address)) u (plan p st).1.among
        (place_among (take (count (id_of p.entry.address)) (rows p st)) (low_start x.m (low_of p.entry.address) + r.0) u r.3)

    -- none is there twice,
    pub laid_once : (p : Object) → IsStaying p → Distinct (laid p)
    laid_once p st = subst Distinct (sym (laid_is p st)) (stretch_once (count (id_of p.entry.address)) (low_start x.m (low_of p.entry.address)) (length p.sectors) (rows p st) st.fits (once p st))

    -- none is one of another plan's,
    pub laid_beside : (p : Object) → IsStaying p → (q : Plan) (bytes u : ℕ) → Contains placed.plans q → (q.id ≡ id_of p.entry.address → ⊥) → is_among (laid p) u ≡ true → is_among (place_of_plan x.m.geometry q bytes) u ≡ true → ⊥
    laid_beside p st q bytes u at other e f =
        let r = needed p st u e in
        place_apart x.m x.agreed.is_map placed.plans (can x s placed) (plan p st).0 q (end x (id_of p.entry.address)) bytes u (plan p st).1.among at (λ same. other (sym same ∙ (plan p st).1.id))
        (place_among (take (count (id_of p.entry.address)) (rows p st)) (low_start x.m (low_of p.entry.address) + r.0) u r.3) f

    -- and objects that have none in common have none in common there.
    pub laid_apart : (p o : Object) → IsStaying p → IsStaying o → ((u : ℕ) → is_among p.sectors u ≡ true → is_among o.sectors u ≡ true → ⊥) → (u : ℕ) → is_among (laid p) u ≡ true → is_among (laid o) u ≡ true → ⊥
    laid_apart p o sp so none u in_p in_o = elim (cases_eq (id_of p.entry.address) (id_of o.entry.address)) [
      | inl same ↦ in_one same
      | inr other ↦
          (let r = needed o so u in_o in
          laid_beside p sp (plan o so).0 (end x (id_of o.entry.address)) u (plan o so).1.among (λ e. other (sym e ∙ (plan o so).1.id)) in_p
          (place_among (take (count (id_of o.entry.address)) (rows o so)) (low_start x.m (low_of o.entry.address) + r.0) u r.3))
    ]
      where
        in_one : id_of p.entry.address ≡ id_of o.entry.address → ⊥
        in_one same =
            let f = low_start x.m (low_of p.entry.address) in
            let f' = low_start x.m (low_of o.entry.address) in
            let a = needed p sp u in_p in
            let b = needed o so u in_o in
            let one : (plan o so).0 ≡ (plan p sp).0 = same_some (plan o so).0 (plan p sp).0 (sym (plan o so).1.found ∙ ap (plan_for placed.plans) (sym same) ∙ (plan p sp).1.found) in
            let alike : take (count (id_of o.entry.address)) (rows o so) ≡ take (count (id_of p.entry.address)) (rows p sp) = ap₂ (λ (k : ℕ) (q : Plan). take (count k) (plan_sectors g q)) (sym same) one in
            let place = one_place (take (count (id_of p.entry.address)) (rows p sp)) (f + a.0) (f' + b.0) u (once p sp) a.3 (subst (λ (ss : List ℕ). HasPlace ss (f' + b.0) u) alike b.3) in
            let low_a = a.1 in
            let low_b = b.1 in
            let room = sp.lies.room in
            let there = has_place (id_sectors x.m (id_of p.entry.address)) (f + a.0) (omega (arith, low_a, room)) in
            let w = there.0 in
            none w
            (subst (λ (ss : List ℕ). is_among ss w ≡ true) sp.lies.is (place_stretch f (length p.sectors) (id_sectors x.m (id_of p.entry.address)) a.0 w low_a there.1))
            (subst (λ (ss : List ℕ). is_among ss w ≡ true) so.lies.is
            (place_stretch f' (length o.sectors) (id_sectors x.m (id_of o.entry.address)) b.0 w low_b
            (subst (λ (k : ℕ). HasPlace (id_sectors x.m (id_of o.entry.address)) k w) place (subst (λ (k : ℕ). HasPlace (id_sectors x.m k) (f + a.0) w) same there.1))))

    -- ---- by a map on which the plans were taken

    module _ (m' : Map) (same : m'.geometry ≡ x.m.geometry) (taken : (q : Plan) → Contains placed.plans q → IsTakenIn m' q) where
      -- The identifier begins with the plan's sectors, as many as are needed.
      begins : (k : ℕ) (q : Plan) → IsPlanOf x s placed k q → (count k ≤ length (id_sectors m' k)) × (take (count k) (id_sectors m' k) ≡ take (count k) (plan_sectors x.m.geometry q))
      begins k q of =
          let id_at : id_of (256 * q.id) ≡ q.id = omega arith in
          let low_at : low_of (256 * q.id) ≡ 0 = omega arith in
          ⊎_elim (λ none. absurd (let some = of.fits.some in let zero' = eqb-true (end x k) 0 none.0 in omega (arith, some, zero')))
          (λ w. by id_at low_at w) (within m' (256 * q.id) (end x k) (place_of_plan g q (end x k)) (leads x.m m' x.agreed.is_map same (end x k) q of.fits (taken q of.among) (256 * q.id) id_at (omega (arith, low_at))))
        where
          by : id_of (256 * q.id) ≡ q.id → low_of (256 * q.id) ≡ 0 → Within m' (256 * q.id) (end x k) (place_of_plan g q (end x k)) → (count k ≤ length (id_sectors m' k)) × (take (count k) (id_sectors m' k) ≡ take (count k) (plan_sectors x.m.geometry q))
          by id_at low_at w =
              let sector : m'.geometry.sector ≡ g.sector = ap (λ (j : Geometry). j.sector) same in
              let start : low_start m' (low_of (256 * q.id)) ≡ 0 = ap (low_start m') low_at ∙ (let e : 0 * (m'.geometry.share / m'.geometry.sector) ≡ 0 = omega arith in e) in
              let part : drop (low_start m' (low_of (256 * q.id))) (id_sectors m' (id_of (256 * q.id))) ≡ id_sectors m' k = ap₂ (λ (a j : ℕ). drop a (id_sectors m' j)) start (id_at ∙ of.id) in
              let n : div_ceil (end x k) m'.geometry.sector ≡ count k = ap (div_ceil (end x k)) sector in (
                subst (λ (j : ℕ). j ≤ length (id_sectors m' k)) n (subst (λ (ss : List ℕ). div_ceil (end x k) m'.geometry.sector ≤ length ss) part w.room),
                ap₂ (λ (j : ℕ) (ss : List ℕ). take j ss) (sym n) (sym part) ∙ w.is,
              )

      -- It reaches as far as what stays in it.
      pub reaches : (p : Object) → Contains (objects_of x.listings) p → moves x (id_of p.entry.address) ≡ true → (has_sectors p ≡ true → IsStaying p) → Reaches m' p
      reaches p at e st = record {
        id = λ some. subst (λ (k : Geometry). (nat_le 2 (id_of p.entry.address) && nat_lt (id_of p.entry.address) (id_limit k)) ≡ true) (sym same)
            (ap₂ (λ (a b : Bool). a && b) (le-leb 2 (id_of p.entry.address) (let high = (moves_high x (id_of p.entry.address) e).0 in omega (arith, high))) (lt-ltb (id_of p.entry.address) (id_limit g) (moves_high x (id_of p.entry.address) e).1));
        long = λ some.
            (let is = st (sectors_there (size_same some)) in
            let f : low_start m' (low_of p.entry.address) ≡ low_start x.m (low_of p.entry.address) = ap (λ (k : Geometry). (low_of p.entry.address - 1) * (k.share / k.sector)) same in
            let n : div_ceil (object_size (dir_form (Layout.New m')) p.entry) m'.geometry.sector ≡ length p.sectors =
            ap (λ (k : Geometry). div_ceil (object_size (dir_form (Layout.New (record { geometry = k; zones = [] }))) p.entry) k.sector) same ∙ sym is.lies.many in
            let long = (begins (id_of p.entry.address) (plan p is).0 (plan p is).1).0 in
            let fits = is.fits in
            omega (arith, f, n, long, fits));
      }
        where
          size_same : 0 < object_size (dir_form (Layout.New m')) p.entry → 0 < object_size (dir_form (y x)) p.entry
          size_same some = subst (λ (k : Geometry). 0 < object_size (dir_form (Layout.New (record { geometry = k; zones = [] }))) p.entry) same some

          sectors_there : 0 < object_size (dir_form (y x)) p.entry → has_sectors p ≡ true
          sectors_there some =
              let t = a_sector x.m p.entry.address (object_size (dir_form (y x)) p.entry) p.sectors some (new_shape x.m x.agreed.is_map).some (each_at (y x) x.listings (sound x) p at) in
              some_there p.sectors t.0 t.1

      -- Its sectors there are those of the plan.
      pub laid_there : (p : Object) → Contains (objects_of x.listings) p → IsStaying p → has_sectors p ≡ true → (object_in (Layout.New m') p).sectors ≡ laid p
      laid_there p at st some =
          ⊎_elim (λ none. absurd (nothing (size_some none.0))) by
          (within m' p.entry.address (object_size (dir_form (Layout.New m')) p.entry) (object_in (Layout.New m') p).sectors (relaid_law.placed m' p (reaches p at st.moved (λ e. st))))
        where
          n : div_ceil (object_size (dir_form (Layout.New m')) p.entry) m'.geometry.sector ≡ length p.sectors
          n = ap (λ (k : Geometry). div_ceil (object_size (dir_form (Layout.New (record { geometry = k; zones = [] }))) p.entry) k.sector) same ∙ sym st.lies.many

          size_some : (object_size (dir_form (Layout.New m')) p.entry == 0) ≡ true → length p.sectors ≡ 0
          size_some e = sym n ∙ ap (λ (k : ℕ). div_ceil k m'.geometry.sector) (eqb-true (object_size (dir_form (Layout.New m')) p.entry) 0 e) ∙ no_ceil m'.geometry.sector

          nothing : length p.sectors ≡ 0 → ⊥
          nothing none = let long = ltb-true 0 (length p.sectors) some in omega (arith, none, long)

          by : Within m' p.entry.address (object_size (dir_form (Layout.New m')) p.entry) (object_in (Layout.New m') p).sectors → (object_in (Layout.New m') p).sectors ≡ laid p
          by w =
              let f : low_start m' (low_of p.entry.address) ≡ low_start x.m (low_of p.entry.address) = ap (λ (k : Geometry). (low_of p.entry.address - 1) * (k.share / k.sector)) same in
              sym w.is ∙ ap₂ (λ (a b : ℕ). take a (drop b (id_sectors m' (id_of p.entry.address)))) n f
              ∙ same_stretch (count (id_of p.entry.address)) (low_start x.m (low_of p.entry.address)) (length p.sectors) (id_sectors m' (id_of p.entry.address)) (rows p st) st.fits (begins (id_of p.entry.address) (plan p st).0 (plan p st).1).1
              ∙ sym (laid_is p st)
