-- Where what stays in the identifier lies in the plan's sectors: each object at its place, none over another, and all in holes.
use Rattle.std.proofs.Common.{◌≡◌, ◌<◌, ◌≤◌, ◌+◌, ◌-◌, ◌*◌, ◌/◌, ◌==◌, ◌&&◌, ⊎_elim, ℕ, zero, suc, Bool, true, false, cond, List, [], ◌∷◌, ◌++◌, filter, flat_map, length, take, drop, refl, sym, ap, ap₂, subst, ◌∙◌, arith, eq-eqb, Option, Some, None}
use Rattle.std.specs.Prelude.{Contains, Err, Ok, nat_le, nat_lt}
use Rattle.std.specs.Int.{div_ceil}
use Rattle.std.specs.Option.{option_map_or}
use Rattle.std.proofs.lemmas.Bool.{eqb-true, le-leb, lt-ltb, ltb-true, and_parts}
use Rattle.std.proofs.lemmas.List.{drop-take, take-take}
use Rattle.fc_record.specs.declared.Geometry.{Geometry}
use Rattle.fc_record.specs.Record.{id_limit}
use Rattle.fc_newmap.specs.Map.{Map, hole_runs}
use Rattle.fc_newmap.proofs.CoverLemmas.{Distinct, Distinct-append}
use Rattle.fc_newmap.proofs.PlaceLemmas.{held_in, in_either, in_front}
use Rattle.fc_image.specs.Edits.{Apart}
use Rattle.fc_image.specs.Layout.{Layout, dir_form, hole_sectors, id_of, id_sectors, is_among, low_of, low_start}
use Rattle.fc_image.specs.Moves.{object_in}
use Rattle.fc_image.specs.Objects.{has_sectors, objects_of}
use Rattle.fc_image.specs.Walk.{Object, object_size}
use Rattle.fc_changes.proofs.ChangeLemmas.{a_sector}
use Rattle.fc_changes.proofs.NewPlaceLemmas.{some_there}
use Rattle.fc_plan.specs.declared.plan.Plan.{Plan}
use Rattle.fc_plan.specs.Applied.{IsTakenIn}
use Rattle.fc_plan.specs.Parts.{fronts}
use Rattle.fc_plan.specs.Plan.{IsFrontOfOne}
use Rattle.std.proofs.lemmas.List.Elements.{All-contains}
use Rattle.fc_tree.specs.Parts.{owner_of}
use Rattle.fc_laws.proofs.lemmas.agree.BeforeLemmas.{new_shape}
use Rattle.fc_laws.proofs.lemmas.takeover.WriteLemmas.{in_taken}
use Rattle.fc_placing.proofs.LeavingLemmas.{from_kept}
use Rattle.fc_change.specs.declared.spaces.Spaces.{Spaces}
use Rattle.fc_change.specs.GrownSpace.{place_of_plan, plan_sectors}
use Rattle.fc_change.proofs.LeadsLemmas.{leads}
use Rattle.fc_change.proofs.PlanLemmas.{in_part}
use Rattle.fc_commands.proofs.NodeLemmas.{each_at}
use Rattle.fc_commands.proofs.PlanPlaceLemmas.{front_holds, once_by, one_place as one_part}
use Rattle.fc_commands.proofs.StayingLemmas.{no_ceil}
use Rattle.fc_safe.specs.FirstSpace.{ArePlacedFirst}
use Rattle.fc_safe.specs.Staying.{remains}
use Rattle.fc_safelaws.specs.Relaid.{Reaches}
use Rattle.fc_safelaws.proofs.PlaceLemmas.{HasPlace, among_place, has_place, in_drop, in_take, one_place, place_among, to_take}
use Rattle.fc_safelaws.proofs.RelaidLemmas.{Within, relaid_law, within}
use Rattle.fc_safecommands.specs.Anew.{laid_by, plan_for}
use Rattle.fc_safecommands.proofs.ApartLemmas.{distinct_of, later_apart}
use Rattle.fc_safecommands.proofs.PlainLemmas.{LiesIn, PlainJob, end, h, i, id_low, leaving, lies_in, sector_end, sound, y}
use Rattle.fc_safecommands.proofs.SpaceLemmas.{can_one, one, placeable}

-- ---- places in lists

to_drop : (a : ℕ) (xs : List ℕ) (j s : ℕ) → HasPlace xs (a + j) s → HasPlace (drop a xs) j s
to_drop zero xs j s at = let e : zero + j ≡ j = omega arith in subst (λ (k : ℕ). HasPlace xs k s) e at
to_drop (suc a) [] j s at = absurd at
to_drop (suc a) (x ∷ xs) j s at = let e : suc a + j ≡ suc (a + j) = omega arith in to_drop a xs j s (subst (λ (k : ℕ). HasPlace (x ∷ xs) k s) e at)

-- a stretch of two lists that begin alike
pub same_stretch : (k f n : ℕ) (xs ys : List ℕ) → f + n ≤ k → take k xs ≡ take k ys → take n (drop f xs) ≡ take n (drop f ys)
same_stretch k f n xs ys low same = sym (cut xs) ∙ ap (λ (zs : List ℕ). take n (drop f zs)) same ∙ cut ys
  where
    cut : (zs : List ℕ) → take n (drop f (take k zs)) ≡ take n (drop f zs)
    cut zs =
        ap (λ (j : ℕ). take n (drop f (take j zs))) (let e : k ≡ f + (k - f) = omega (arith, low) in e)
        ∙ ap (take n) (drop-take f (k - f) zs) ∙ take-take n (k - f) (drop f zs) (omega (arith, low))

pub stretch_place : (f n : ℕ) (xs : List ℕ) (s : ℕ) → is_among (take n (drop f xs)) s ≡ true → (j : ℕ) × (j < n) × HasPlace xs (f + j) s
stretch_place f n xs s e =
    let p = among_place (take n (drop f xs)) s e in
    let q = in_take n (drop f xs) p.0 s p.1 in
    (p.0, q.0, in_drop f xs p.0 s q.1)

pub place_stretch : (f n : ℕ) (xs : List ℕ) (j s : ℕ) → j < n → HasPlace xs (f + j) s → is_among (take n (drop f xs)) s ≡ true
place_stretch f n xs j s low at = place_among (take n (drop f xs)) j s (to_take n (drop f xs) j s low (to_drop f xs j s at))

pub stretch_once : (k f n : ℕ) (xs : List ℕ) → f + n ≤ k → Distinct (take k xs) → Distinct (take n (drop f xs))
stretch_once k f n xs low once = subst Distinct (sym (same_stretch k f n xs (take k xs) low (sym (take-take k k xs (omega arith))))) (part n (drop f (take k xs)) (behind f (take k xs) once))
  where
    behind : (a : ℕ) (zs : List ℕ) → Distinct zs → Distinct (drop a zs)
    behind zero zs d = d
    behind (suc a) [] d = tt
    behind (suc a) (z ∷ zs) d = behind a zs d.1

    unless : (b : Bool) → (b ≡ true → ⊥) → b ≡ false
    unless true f = absurd (f refl)
    unless false f = refl

    part : (a : ℕ) (zs : List ℕ) → Distinct zs → Distinct (take a zs)
    part zero zs d = tt
    part (suc a) [] d = tt
    part (suc a) (z ∷ zs) d = (unless (is_among (take a zs) z) (λ e. (let yes = in_taken a zs z e in let no = d.0 in cc)), part a zs d.1)

module _ (x : PlainJob) (s : Spaces) (placed : ArePlacedFirst x.m (h x) x.job x.wants s) where
  abbrev g : Geometry
  g = x.m.geometry

  abbrev q : Plan
  q = (one x s placed).0

  -- the sectors of the plan, and how many of them are needed
  abbrev pub rows : List ℕ
  rows = plan_sectors x.m.geometry (one x s placed).0

  abbrev pub count : ℕ
  count = div_ceil (end x) x.m.geometry.sector

  id_is : q.id ≡ i x
  id_is = (one x s placed).2

  -- ---- an object that stays

  -- The object is in the identifier, and its place ends within it.
  pub record IsStaying (p : Object) : Type 0 where
    pub id : id_of p.entry.address ≡ i x
    pub lies : LiesIn x.m p
    pub fits : low_start x.m (low_of p.entry.address) + length p.sectors ≤ count

  -- where it lies in the plan
  abbrev pub laid : Object → List ℕ
  laid p = take (length p.sectors) (drop (low_start x.m (low_of p.entry.address)) rows)

  pub staying : (p : Object) → Contains (objects_of x.listings) p → has_sectors p ≡ true → remains (leaving x) (i x) (owner_of x.nodes (y x) p) ≡ true → Contains x.owners (owner_of x.nodes (y x) p) → IsStaying p
  staying p at some stays own =
      let parts = and_parts (id_of p.entry.address == i x) _ stays in
      record { id = eqb-true (id_of p.entry.address) (i x) parts.0; lies = lies_in x p at some; fits = sector_end x (owner_of x.nodes (y x) p) own stays }

  -- ---- the sectors of the plan

  once : Distinct (take count rows)
  once =
      distinct_of (take count rows)
      (once_by g (end x) q (can_one x s placed).rising (λ a b u at_a at_b in_a in_b.
      one_part x.m x.agreed.is_map a b u (All-contains (IsFrontOfOne g (hole_runs x.m)) (fronts q.parts.items) a (can_one x s placed).cut.fronts at_a)
      (All-contains (IsFrontOfOne g (hole_runs x.m)) (fronts q.parts.items) b (can_one x s placed).cut.fronts at_b) in_a in_b))

  in_rows : (u : ℕ) → is_among (take count rows) u ≡ true → is_among (hole_sectors (Layout.New x.m)) u ≡ true
  in_rows u e =
      let p = in_part g q (end x) u e in
      let f = All-contains (IsFrontOfOne g (hole_runs x.m)) (fronts q.parts.items) p.0 (can_one x s placed).cut.fronts p.1 in
      held_in g (hole_runs x.m) f.0 u f.1 (front_holds g f.0 p.0 u (new_shape x.m x.agreed.is_map).some f.2 p.2)

  -- Each of its sectors lies in a hole,
  pub laid_free : (p : Object) → IsStaying p → (u : ℕ) → is_among (laid p) u ≡ true → is_among (hole_sectors (Layout.New x.m)) u ≡ true
  laid_free p st u e =
      let r = stretch_place (low_start x.m (low_of p.entry.address)) (length p.sectors) rows u e in
      let low = r.1 in
      let fits = st.fits in
      in_rows u (place_among (take count rows) (low_start x.m (low_of p.entry.address) + r.0) u (to_take count rows (low_start x.m (low_of p.entry.address) + r.0) u (omega (arith, low, fits)) r.2))

  -- none is there twice,
  pub laid_once : (p : Object) → IsStaying p → Distinct (laid p)
  laid_once p st = stretch_once count (low_start x.m (low_of p.entry.address)) (length p.sectors) rows st.fits once

  -- and objects that have none in common have none in common there.
  pub laid_apart : (p o : Object) → IsStaying p → IsStaying o → ((u : ℕ) → is_among p.sectors u ≡ true → is_among o.sectors u ≡ true → ⊥) → (u : ℕ) → is_among (laid p) u ≡ true → is_among (laid o) u ≡ true → ⊥
  laid_apart p o sp so none u in_p in_o =
      let f = low_start x.m (low_of p.entry.address) in
      let f' = low_start x.m (low_of o.entry.address) in
      let a = stretch_place f (length p.sectors) rows u in_p in
      let b = stretch_place f' (length o.sectors) rows u in_o in
      let low_a = a.1 in
      let low_b = b.1 in
      let fits_p = sp.fits in
      let fits_o = so.fits in
      let same = one_place (take count rows) (f + a.0) (f' + b.0) u once (to_take count rows (f + a.0) u (omega (arith, low_a, fits_p)) a.2) (to_take count rows (f' + b.0) u (omega (arith, low_b, fits_o)) b.2) in
      let room = sp.lies.room in
      let there = has_place (id_sectors x.m (id_of p.entry.address)) (f + a.0) (omega (arith, low_a, room)) in
      let w = there.0 in
      none w
      (subst (λ (ss : List ℕ). is_among ss w ≡ true) sp.lies.is (place_stretch f (length p.sectors) (id_sectors x.m (id_of p.entry.address)) a.0 w low_a there.1))
      (subst (λ (ss : List ℕ). is_among ss w ≡ true) so.lies.is
      (place_stretch f' (length o.sectors) (id_sectors x.m (id_of o.entry.address)) b.0 w low_b
      (subst (λ (k : ℕ). HasPlace (id_sectors x.m (id_of o.entry.address)) k w) same (subst (λ (k : ℕ). HasPlace (id_sectors x.m k) (f + a.0) w) (sp.id ∙ sym so.id) there.1))))

  -- So all that pass a test lie there with none twice.
  pub all_once : (t : Object → Bool) (taken : List ℕ) (os : List Object) → Apart taken os → ((p : Object) → Contains os p → t p ≡ true → IsStaying p) → Distinct (flat_map laid (filter t os))
  all_once t taken [] a st = tt
  all_once t taken (p ∷ os) a st = by (t p) refl (all_once t (p.sectors ++ taken) os a.1 (λ o at e. st o (later o at) e))
    where
      later : (o : Object) → Contains os o → Contains (p ∷ os) o
      later o at = (suc at.0, (let low = at.1 in omega (arith, low)), at.2)

      by : (b : Bool) → t p ≡ b → Distinct (flat_map laid (filter t os)) → Distinct (flat_map laid (cond b (p ∷ filter t os) (filter t os)))
      by false e rest = rest
      by true e rest =
          let sp = st p (0, omega arith, refl) e in
          Distinct-append (laid p) (flat_map laid (filter t os)) (laid_once p sp) rest (λ u in_p in_rest.
          (let o = among_flat (filter t os) u in_rest in
          let k = from_kept t os o.0 o.1 in
          laid_apart p o.0 sp (st o.0 (later o.0 k.0) k.1) (λ w a' b. later_apart (p.sectors ++ taken) os a.1 o.0 k.0 w b (in_front p.sectors taken w a')) u in_p o.2))
        where
          among_flat : (ps : List Object) (u : ℕ) → is_among (flat_map laid ps) u ≡ true → (o : Object) × Contains ps o × (is_among (laid o) u ≡ true)
          among_flat [] u f = absurd (cc)
          among_flat (o ∷ ps) u f = elim (in_either (laid o) (flat_map laid ps) u f) [
            | Ok here ↦ (o, (0, omega arith, refl), here)
            | Err more ↦ (let r = among_flat ps u more in (r.0, (suc r.1.0, (let low = r.1.1 in omega (arith, low)), r.1.2), r.2))
          ]

  -- ---- by the plans

  -- the place of its owner
  pub laid_owner : (p : Object) → IsStaying p → laid_by x.m placed.plans (owner_of x.nodes (y x) p) ≡ laid p
  laid_owner p st =
      let f : ℕ = low_start x.m (low_of p.entry.address) in
      let of : Option Plan → List ℕ = λ o. option_map_or (λ (r : Plan). take (length p.sectors) (drop f (plan_sectors g r))) o [] in
      ap (λ (ps : List Plan). of (plan_for ps (id_of p.entry.address))) (one x s placed).1
      ∙ ap (λ (b : Bool). of (cond b (Some q) None)) (eq-eqb q.id (id_of p.entry.address) (id_is ∙ sym st.id))

  -- ---- by a map on which the plan was taken

  module _ (m' : Map) (same : m'.geometry ≡ x.m.geometry) (taken : IsTakenIn m' (one x s placed).0) where
    abbrev ids : List ℕ
    ids = id_sectors m' (i x)

    address : ℕ
    address = 256 * q.id

    -- The identifier begins with the plan's sectors, as many as are needed.
    begins : (count ≤ length (id_sectors m' (i x))) × (take count (id_sectors m' (i x)) ≡ take count rows)
    begins =
        let id_at : id_of (256 * q.id) ≡ q.id = omega arith in
        let low_at : low_of (256 * q.id) ≡ 0 = omega arith in
        ⊎_elim (λ none. absurd (let some = (placeable x s placed).some in let zero' = eqb-true (end x) 0 none.0 in omega (arith, some, zero')))
        (λ w. by id_at low_at w) (within m' (256 * q.id) (end x) (place_of_plan g q (end x)) (leads x.m m' x.agreed.is_map same (end x) q (placeable x s placed) taken (256 * q.id) id_at (omega (arith, low_at))))
      where
        by : id_of (256 * q.id) ≡ q.id → low_of (256 * q.id) ≡ 0 → Within m' (256 * q.id) (end x) (place_of_plan g q (end x)) → (count ≤ length (id_sectors m' (i x))) × (take count (id_sectors m' (i x)) ≡ take count rows)
        by id_at low_at w =
            let sector : m'.geometry.sector ≡ g.sector = ap (λ (k : Geometry). k.sector) same in
            let start : low_start m' (low_of (256 * q.id)) ≡ 0 = ap (low_start m') low_at ∙ (let e : 0 * (m'.geometry.share / m'.geometry.sector) ≡ 0 = omega arith in e) in
            let part : drop (low_start m' (low_of (256 * q.id))) (id_sectors m' (id_of (256 * q.id))) ≡ id_sectors m' (i x) = ap₂ (λ (a k : ℕ). drop a (id_sectors m' k)) start (id_at ∙ id_is) in
            let n : div_ceil (end x) m'.geometry.sector ≡ count = ap (div_ceil (end x)) sector in (
              subst (λ (k : ℕ). k ≤ length (id_sectors m' (i x))) n (subst (λ (ss : List ℕ). div_ceil (end x) m'.geometry.sector ≤ length ss) part w.room),
              ap₂ (λ (k : ℕ) (ss : List ℕ). take k ss) (sym n) (sym part) ∙ w.is,
            )

    -- It reaches as far as what stays in it.
    pub reaches : (p : Object) → Contains (objects_of x.listings) p → id_of p.entry.address ≡ i x → (has_sectors p ≡ true → IsStaying p) → Reaches m' p
    reaches p at id st = record {
      id = λ some. subst (λ (k : Geometry). (nat_le 2 (id_of p.entry.address) && nat_lt (id_of p.entry.address) (id_limit k)) ≡ true) (sym same)
          (ap₂ (λ (a b : Bool). a && b) (le-leb 2 (id_of p.entry.address) (let own = (id_low x).0 in omega (arith, own, id))) (lt-ltb (id_of p.entry.address) (id_limit g) (let own = (id_low x).1 in omega (arith, own, id))));
      long = λ some.
          (let is = st (sectors_there (size_same some)) in
          let f : low_start m' (low_of p.entry.address) ≡ low_start x.m (low_of p.entry.address) = ap (λ (k : Geometry). (low_of p.entry.address - 1) * (k.share / k.sector)) same in
          let n : div_ceil (object_size (dir_form (Layout.New m')) p.entry) m'.geometry.sector ≡ length p.sectors =
          ap (λ (k : Geometry). div_ceil (object_size (dir_form (Layout.New (record { geometry = k; zones = [] }))) p.entry) k.sector) same ∙ sym is.lies.many in
          let long = begins.0 in
          let fits = is.fits in
          subst (λ (k : ℕ). low_start m' (low_of p.entry.address) + div_ceil (object_size (dir_form (Layout.New m')) p.entry) m'.geometry.sector ≤ length (id_sectors m' k)) (sym id) (omega (arith, f, n, long, fits)));
    }
      where
        size_same : 0 < object_size (dir_form (Layout.New m')) p.entry → 0 < object_size (dir_form (y x)) p.entry
        size_same some = subst (λ (k : Geometry). 0 < object_size (dir_form (Layout.New (record { geometry = k; zones = [] }))) p.entry) same some

        sectors_there : 0 < object_size (dir_form (y x)) p.entry → has_sectors p ≡ true
        sectors_there some =
            let t = a_sector x.m p.entry.address (object_size (dir_form (y x)) p.entry) p.sectors some (new_shape x.m x.agreed.is_map).some (each_at (y x) x.listings (sound x) p at) in
            some_there p.sectors t.0 t.1

    -- Its sectors there are those of the plan.
    pub laid_there : (p : Object) → Contains (objects_of x.listings) p → IsStaying p → has_sectors p ≡ true → (object_in (Layout.New m') p).sectors ≡ laid p
    laid_there p at st some =
        ⊎_elim (λ none. absurd (nothing (size_some none.0))) by (within m' p.entry.address (object_size (dir_form (Layout.New m')) p.entry) (object_in (Layout.New m') p).sectors (relaid_law.placed m' p (reaches p at st.id (λ e. st))))
      where
        n : div_ceil (object_size (dir_form (Layout.New m')) p.entry) m'.geometry.sector ≡ length p.sectors
        n = ap (λ (k : Geometry). div_ceil (object_size (dir_form (Layout.New (record { geometry = k; zones = [] }))) p.entry) k.sector) same ∙ sym st.lies.many

        size_some : (object_size (dir_form (Layout.New m')) p.entry == 0) ≡ true → length p.sectors ≡ 0
        size_some e = sym n ∙ ap (λ (k : ℕ). div_ceil k m'.geometry.sector) (eqb-true (object_size (dir_form (Layout.New m')) p.entry) 0 e) ∙ no_ceil m'.geometry.sector

        nothing : length p.sectors ≡ 0 → ⊥
        nothing none = let long = ltb-true 0 (length p.sectors) some in omega (arith, none, long)

        by : Within m' p.entry.address (object_size (dir_form (Layout.New m')) p.entry) (object_in (Layout.New m') p).sectors → (object_in (Layout.New m') p).sectors ≡ laid p
        by w =
            let f : low_start m' (low_of p.entry.address) ≡ low_start x.m (low_of p.entry.address) = ap (λ (k : Geometry). (low_of p.entry.address - 1) * (k.share / k.sector)) same in
            sym w.is ∙ ap₂ (λ (a b : ℕ). take a (drop b (id_sectors m' (id_of p.entry.address)))) n f
            ∙ ap (λ (k : ℕ). take (length p.sectors) (drop (low_start x.m (low_of p.entry.address)) (id_sectors m' k))) st.id
            ∙ same_stretch count (low_start x.m (low_of p.entry.address)) (length p.sectors) (id_sectors m' (i x)) rows st.fits begins.1
