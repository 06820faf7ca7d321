-- The space of a job by which no directory grows: a plan for each need, and one step of the map.
use Rattle.std.proofs.Common.{◌≡◌, ◌<◌, ◌≤◌, ◌+◌, ◌-◌, ◌^◌, ◌==◌, ◌&&◌, ◌||◌, ◌⊎◌, inl, inr, ⊎_elim, ℕ, zero, suc, Bool, true, false, not, cond, get_or, List, [], ◌∷◌, ◌++◌, filter, map, refl, sym, ap, ap₂, subst, ◌∙◌, arith, eq-eqb, Option, Some, None}
use Rattle.std.specs.Prelude.{All, Contains}
use Rattle.std.specs.List.{range_with_len}
use Rattle.std.specs.Option.{option_map}
use Rattle.std.proofs.lemmas.Bool.{eqb-true}
use Rattle.std.proofs.lemmas.List.FromFn.{get_or-range_with_len, length-range_with_len}
use Rattle.std.proofs.lemmas.List.Elements.{Contains-append_cases, Contains-append_left, Contains-append_right, Contains-get_or}
use Rattle.fc_record.specs.declared.Geometry.{Geometry}
use Rattle.fc_record.specs.Record.{id_limit}
use Rattle.fc_newmap.specs.Map.{Map, ZoneRun, bits_in, hole_runs, is_used}
use Rattle.fc_image.specs.Layout.{id_of}
use Rattle.fc_image.specs.effects.Placed.{holes_left}
use Rattle.fc_image.specs.effects.Sharing.{new_ids, units}
use Rattle.fc_image.specs.safe.FirstFit.{first_fit}
use Rattle.fc_image.specs.safe.SafeShort.{fitted}
use Rattle.fc_plan.specs.declared.plan.Plan.{Plan}
use Rattle.fc_plan.specs.Applied.{CanTakePlan}
use Rattle.fc_plan.specs.Parts.{fronts}
use Rattle.fc_plan.proofs.Plans.{min_some}
use Rattle.fc_tree.proofs.MemberLemmas.{contains_here, found_passes, from_map, in_filter, in_map, no_element}
use Rattle.fc_changes.proofs.StepsLemmas.{low_in_range}
use Rattle.fc_placing.proofs.LeavingLemmas.{from_kept, none_or_some}
use Rattle.fc_writing.specs.declared.ready.MapStep.TheVariants as steps
use Rattle.fc_writing.specs.Steps.{CanTakeAll}
use Rattle.fc_edits.specs.NewNodes.{AreDistinct}
use Rattle.fc_edits.proofs.lemmas.IdentifierLemmas.{used_of}
use Rattle.fc_change.specs.declared.spaces.Spaces.{Spaces}
use Rattle.fc_change.proofs.LeadsLemmas.{IsPlaceable}
use Rattle.fc_safe.specs.declared.needs.Need.{Need}
use Rattle.fc_safe.specs.FirstNeeds.{need_of, own_need}
use Rattle.fc_safe.specs.FirstSpace.{ArePlacedFirst}
use Rattle.fc_safe.specs.Needs.{AreMet, CanNeed, HaveIds, IsIdOf, bits_of, parts_of}
use Rattle.fc_safe.proofs.CoverLemmas.{fronts_in_zones}
use Rattle.fc_safe.proofs.NeedsLemmas.{fitted_next, fitted_none}
use Rattle.fc_safe.proofs.TakingLemmas.{CanHave, take_all}
use Rattle.fc_safecommands.specs.Anew.{plan_for}
use Rattle.fc_safecommands.proofs.FitLemmas.{first_enough}
use Rattle.fc_safecommands.proofs.PlansApartLemmas.{in_fronts}
use Rattle.fc_safecommands.proofs.StirredLemmas.{StirredJob, end, end_few, end_some, h, ids, moves, moves_high, moves_of, needs_are, own_bytes, own_few}

-- ---- a need, and the plan that meets it

-- The plan has bits enough, for the identifier that is asked for, or for one of these.
pub record Meets (m : Map) (left : List ℕ) (n : Need) (p : Plan) : Type 0 where
  pub enough : units m.geometry n.bytes ≤ bits_in (fronts p.parts.items)
  pub id : (n.id ≡ Some p.id) ⊎ ((n.id ≡ None) × Contains left p.id)

pub later : {X : Type 0} (y x : X) (xs : List X) → Contains xs x → Contains (y ∷ xs) x
later y x xs at = (suc at.0, (let low = at.1 in omega (arith, low)), at.2)

id_is : (o : Option ℕ) (left rest : List ℕ) (own : ℕ) → IsIdOf o left rest own → (o ≡ Some own) ⊎ ((o ≡ None) × Contains left own)
id_is (Some id) left rest own is = inl (ap (λ (k : ℕ). let r : Option ℕ = Some k in r) (sym is.0))
id_is None left rest own is = inr (refl, subst (λ (xs : List ℕ). Contains xs own) (sym is) (contains_here own rest))

pub rest_in : (o : Option ℕ) (left rest : List ℕ) (own k : ℕ) → IsIdOf o left rest own → Contains rest k → Contains left k
rest_in (Some id) left rest own k is at = subst (λ (xs : List ℕ). Contains xs k) is.1 at
rest_in None left rest own k is at = subst (λ (xs : List ℕ). Contains xs k) (sym is) (later own k rest at)

module _ (m : Map) where
  abbrev g : Geometry
  g = m.geometry

  -- what is met by a list of parts is met by each in what those before it left
  pub first_of : (bits : ℕ) (rest : List ℕ) (holes parts : List ZoneRun) (others : List (List ZoneRun)) → fitted m (bits ∷ rest) holes ≡ Some (parts ∷ others)
      → (first_fit g bits holes ≡ Some parts) × (fitted m rest (holes_left holes parts) ≡ Some others)
  first_of bits rest holes parts others e = by (first_fit g bits holes) refl
    where
      by : (o : Option (List ZoneRun)) → first_fit g bits holes ≡ o → (first_fit g bits holes ≡ Some parts) × (fitted m rest (holes_left holes parts) ≡ Some others)
      by None f = absurd (let none = sym e ∙ fitted_none m bits rest holes f in cc)
      by (Some found) f = from (fitted m rest (holes_left holes found)) refl (sym (fitted_next m bits rest holes found f) ∙ e)
        where
          from : (o : Option (List (List ZoneRun))) → fitted m rest (holes_left holes found) ≡ o → option_map (λ (all : List (List ZoneRun)). found ∷ all) (fitted m rest (holes_left holes found)) ≡ Some (parts ∷ others)
              → (first_fit g bits holes ≡ Some parts) × (fitted m rest (holes_left holes parts) ≡ Some others)
          from None k j = absurd (let none = sym (ap (option_map (λ (all : List (List ZoneRun)). found ∷ all)) k) ∙ j in cc)
          from (Some all) k j =
              let both = sym (ap (option_map (λ (all : List (List ZoneRun)). found ∷ all)) k) ∙ j in
              let same : found ≡ parts = cc in
              let more : all ≡ others = cc in (
                f ∙ ap (λ (ps : List ZoneRun). let o : Option (List ZoneRun) = Some ps in o) same,
                ap (λ (ps : List ZoneRun). fitted m rest (holes_left holes ps)) (sym same) ∙ k ∙ ap (λ (ps : List (List ZoneRun)). let o : Option (List (List ZoneRun)) = Some ps in o) more,
              )

  pub meets_first : (n : Need) (needs : List Need) (p : Plan) (plans : List Plan) (new rest left : List ℕ) (holes : List ZoneRun) → fitted m (bits_of g (n ∷ needs)) holes ≡ Some (parts_of (p ∷ plans)) → IsIdOf n.id new rest p.id → Meets m new n p
  meets_first n needs p plans new rest left holes fit is =
      record { enough = first_enough g (units g n.bytes) holes (fronts p.parts.items) (first_of (units g n.bytes) (bits_of g needs) holes (fronts p.parts.items) (parts_of plans) fit).0; id = id_is n.id new rest p.id is }

  meets_later : (n k : Need) (p : Plan) (new rest : List ℕ) (own : ℕ) → IsIdOf n.id new rest own → Meets m rest k p → Meets m new k p
  meets_later n k p new rest own is meets = record {
    enough = meets.enough;
    id = elim meets.id [
      | inl old ↦ inl old
      | inr fresh ↦ inr (fresh.0, rest_in n.id new rest own p.id is fresh.1)
    ];
  }

  pub need_of_plan : (needs : List Need) (plans : List Plan) (new left : List ℕ) (holes : List ZoneRun) → fitted m (bits_of g needs) holes ≡ Some (parts_of plans) → HaveIds new needs plans left
      → (p : Plan) → Contains plans p → (n : Need) × Contains needs n × Meets m new n p
  need_of_plan [] [] new left holes fit have p at = absurd (no_element p at)
  need_of_plan [] (q ∷ plans) new left holes fit have p at = absurd have
  need_of_plan (n ∷ needs) [] new left holes fit have p at = absurd have
  need_of_plan (n ∷ needs) (q ∷ plans) new left holes fit have p (zero, low, e) = (n, contains_here n needs, subst (Meets m new n) e (meets_first n needs q plans new have.0 left holes fit have.1))
  need_of_plan (n ∷ needs) (q ∷ plans) new left holes fit have p (suc i, low, e) =
      let first = first_of (units g n.bytes) (bits_of g needs) holes (fronts q.parts.items) (parts_of plans) fit in
      let r = need_of_plan needs plans have.0 left (holes_left holes (fronts q.parts.items)) first.1 have.2 p (i, omega (arith, low), e) in
      (r.0, later n r.0 needs r.1, meets_later n r.0 p new have.0 q.id have.1 r.2)

  pub plan_of_need : (needs : List Need) (plans : List Plan) (new left : List ℕ) (holes : List ZoneRun) → fitted m (bits_of g needs) holes ≡ Some (parts_of plans) → HaveIds new needs plans left
      → (n : Need) → Contains needs n → (p : Plan) × Contains plans p × Meets m new n p
  plan_of_need [] [] new left holes fit have n at = absurd (no_element n at)
  plan_of_need [] (q ∷ plans) new left holes fit have n at = absurd have
  plan_of_need (k ∷ needs) [] new left holes fit have n at = absurd have
  plan_of_need (k ∷ needs) (q ∷ plans) new left holes fit have n (zero, low, e) = (q, contains_here q plans, subst (λ (j : Need). Meets m new j q) e (meets_first k needs q plans new have.0 left holes fit have.1))
  plan_of_need (k ∷ needs) (q ∷ plans) new left holes fit have n (suc i, low, e) =
      let first = first_of (units g k.bytes) (bits_of g needs) holes (fronts q.parts.items) (parts_of plans) fit in
      let r = plan_of_need needs plans have.0 left (holes_left holes (fronts q.parts.items)) first.1 have.2 n (i, omega (arith, low), e) in
      (r.0, later q r.0 plans r.1, meets_later k n r.0 new have.0 q.id have.1 r.2)

-- those for identifiers that have runs
moved_ids : (e : ℕ → ℕ) (ks : List ℕ) (plans : List Plan) (new left : List ℕ) → HaveIds new (map (need_of e) ks ++ []) plans left → map (λ (p : Plan). p.id) plans ≡ ks
moved_ids e [] [] new left have = refl
moved_ids e [] (p ∷ plans) new left have = absurd have
moved_ids e (k ∷ ks) [] new left have = absurd have
moved_ids e (k ∷ ks) (p ∷ plans) new left have = ap₂ (λ (a : ℕ) (b : List ℕ). a ∷ b) have.1.0 (moved_ids e ks plans have.0 left have.2)

-- The plans' identifiers: the least new one, if an object needs space of its own, and then those that move.
pub record HasPlanIds (bytes : ℕ) (new ks : List ℕ) (plans : List Plan) : Type 0 where
  pub own : List ℕ
  pub all : map (λ (p : Plan). p.id) plans ≡ own ++ ks
  pub is : ((bytes ≡ 0) × (own ≡ [])) ⊎ ((0 < bytes) × (k : ℕ) × (rest : List ℕ) × (own ≡ k ∷ []) × (new ≡ k ∷ rest))

plan_ids_of : (e : ℕ → ℕ) (bytes : ℕ) (ks : List ℕ) (plans : List Plan) (new left : List ℕ) → HaveIds new (own_need bytes ++ (map (need_of e) ks ++ [])) plans left → HasPlanIds bytes new ks plans
plan_ids_of e bytes ks plans new left have = by (bytes == 0) refl plans have
  where
    n : Need
    n = record { id = None; bytes = bytes }

    some : (k : ℕ) → (k == 0) ≡ false → 0 < k
    some zero f = absurd (cc)
    some (suc k) f = omega arith

    by : (b : Bool) → (bytes == 0) ≡ b → (ps : List Plan) → HaveIds new (cond b [] (n ∷ []) ++ (map (need_of e) ks ++ [])) ps left → HasPlanIds bytes new ks ps
    by true f ps have = record { own = []; all = moved_ids e ks ps new left have; is = inl (eqb-true bytes 0 f, refl) }
    by false f [] have = absurd have
    by false f (p ∷ ps) have = record {
      own = p.id ∷ [];
      all = ap (λ (xs : List ℕ). p.id ∷ xs) (moved_ids e ks ps have.0 left have.2);
      is = inr (some bytes f, p.id, have.0, refl, have.1);
    }

-- ---- numbers of a range that pass a test

range_low : (a n k : ℕ) → Contains (range_with_len a n) k → a ≤ k
range_low a n k (i, low, e) =
    let size = length-range_with_len a n in
    let value = get_or-range_with_len a n i k (omega (arith, size, low)) in
    omega (arith, value, e)

pub range_once : (t : ℕ → Bool) (n a : ℕ) → AreDistinct (filter t (range_with_len a n))
range_once t zero a = tt
range_once t (suc n) a = by (t a) (range_once t n (a + 1))
  where
    by : (b : Bool) → AreDistinct (filter t (range_with_len (a + 1) n)) → AreDistinct (cond b (a ∷ filter t (range_with_len (a + 1) n)) (filter t (range_with_len (a + 1) n)))
    by true rest = (λ at. (let low = range_low (a + 1) n a (from_kept t (range_with_len (a + 1) n) a at).0 in omega (arith, low)), rest)
    by false rest = rest

-- the plan of a list, and the holes in which it can be taken
pub can_member : (g : Geometry) (holes : List ZoneRun) (plans : List Plan) (q : Plan) → CanTakeAll g holes plans → Contains plans q → (hs : List ZoneRun) × CanTakePlan g hs q
can_member g holes [] q can at = absurd (no_element q at)
can_member g holes (p ∷ plans) q can (zero, low, e) = (holes, subst (CanTakePlan g holes) e can.0)
can_member g holes (p ∷ plans) q can (suc i, low, e) = can_member g (holes_left holes (fronts p.parts.items)) plans q can.1 (i, omega (arith, low), e)

pub found_plan : (plans : List Plan) (k : ℕ) (p : Plan) → Contains plans p → p.id ≡ k → (q : Plan) × (plan_for plans k ≡ Some q) × Contains plans q × (q.id ≡ k)
found_plan plans k p at same = by (plan_for plans k) refl
  where
    by : (o : Option Plan) → plan_for plans k ≡ o → (q : Plan) × (plan_for plans k ≡ Some q) × Contains plans q × (q.id ≡ k)
    by None none = absurd (none_or_some (λ (q : Plan). q.id == k) plans p at (eq-eqb p.id k same) none)
    by (Some q) e = let f = found_passes (λ (r : Plan). r.id == k) plans q e in (q, e, f.0, eqb-true q.id k f.1)

module _ (x : StirredJob) where
  -- ---- identifiers

  pub used : (k : ℕ) → moves x k ≡ true → is_used x.m k ≡ true
  used k e = let r = moves_of x k e in used_of x.kind x.m x.nodes x.owners x.root x.listings x.agreed r.2 r.3.there k (ap₂ (λ (a b : Bool). a && b) r.3.some (eq-eqb (id_of r.2.entry.address) k r.4))

  pub in_ids : (k : ℕ) → moves x k ≡ true → Contains (ids x) k
  in_ids k e =
      in_filter (λ (j : ℕ). moves x j) (range_with_len 0 (id_limit x.m.geometry)) k
      (k, (let size = length-range_with_len 0 (id_limit x.m.geometry) in let low = (moves_high x k e).1 in omega (arith, size, low)), get_or-range_with_len 0 (id_limit x.m.geometry) k k (moves_high x k e).1 ∙ omega arith) e

  pub of_ids : (k : ℕ) → Contains (ids x) k → moves x k ≡ true
  of_ids k at = (from_kept (λ (j : ℕ). moves x j) (range_with_len 0 (id_limit x.m.geometry)) k at).1

  pub unused : (k : ℕ) → Contains (new_ids x.m) k → is_used x.m k ≡ false
  unused k at = turned (is_used x.m k) (from_kept (λ (j : ℕ). not (is_used x.m j)) (range_with_len 3 (id_limit x.m.geometry - 3)) k at).1
    where
      turned : (b : Bool) → not b ≡ true → b ≡ false
      turned true e = absurd (cc)
      turned false e = refl

  pub new_high : (k : ℕ) → Contains (new_ids x.m) k → (3 ≤ k) × (k < id_limit x.m.geometry)
  new_high k at =
      let r = (from_kept (λ (j : ℕ). not (is_used x.m j)) (range_with_len 3 (id_limit x.m.geometry - 3)) k at).0 in
      let low = range_low 3 (id_limit x.m.geometry - 3) k r in
      let high = low_in_range 3 (id_limit x.m.geometry - 3) k r in
      (low, omega (arith, low, high))

  -- ---- needs

  abbrev needs : List Need
  needs = own_need (own_bytes x) ++ (map (need_of (end x)) (ids x) ++ [])

  abbrev IsOneOfThem : Need → Type 0
  IsOneOfThem n = ((n ≡ (let j : Need = record { id = None; bytes = own_bytes x } in j)) × (0 < own_bytes x)) ⊎ ((k : ℕ) × (moves x k ≡ true) × (need_of (end x) k ≡ n))

  need_cases : (n : Need) → Contains needs n → IsOneOfThem n
  need_cases n at = elim (Contains-append_cases (own_need (own_bytes x)) (map (need_of (end x)) (ids x) ++ []) n at) [
    | inl own ↦ inl (by (own_bytes x == 0) refl own)
    | inr moved ↦ inr (elim (Contains-append_cases (map (need_of (end x)) (ids x)) [] n moved) [
      | inl old ↦ (let r = from_map (need_of (end x)) (ids x) n old in (r.0, of_ids r.0 r.1, r.2))
      | inr none ↦ absurd (no_element n none)
    ])
  ]
    where
      some : (k : ℕ) → (k == 0) ≡ false → 0 < k
      some zero f = absurd (cc)
      some (suc k) f = omega arith

      by : (b : Bool) → (own_bytes x == 0) ≡ b → Contains (cond b [] ((let j : Need = record { id = None; bytes = own_bytes x } in j) ∷ [])) n → (n ≡ (let j : Need = record { id = None; bytes = own_bytes x } in j)) × (0 < own_bytes x)
      by true f none = absurd (no_element n none)
      by false f (zero, low, e) = (sym e, some (own_bytes x) f)
      by false f (suc i, low, e) = absurd (omega (arith, low))

  can_need : All CanNeed needs
  can_need k d low = elim (need_cases (get_or needs k d) (Contains-get_or needs k d low)) [
    | inl own ↦ subst CanNeed (sym own.0) (record { some = own.1; few = (let few = own_few x in omega (arith, few)) })
    | inr moved ↦ subst CanNeed moved.2 (record { some = end_some x moved.0 moved.1; few = (let few = end_few x moved.0 in omega (arith, few)) })
  ]

  can_have : (n : Need) (id : ℕ) → Contains needs n → n.id ≡ Some id → CanHave x.m id
  can_have n id at is = elim (need_cases n at) [
    | inl own ↦ absurd (let none : (let o : Option ℕ = None in o) ≡ Some id = ap (λ (j : Need). j.id) (sym own.0) ∙ is in cc)
    | inr moved ↦
        (let same : moved.0 ≡ id = one_id moved.0 id (ap (λ (j : Need). j.id) moved.2 ∙ is) in
        let high = moves_high x moved.0 moved.1 in
        let least = high.0 in
        let most = high.1 in
        let fits : id_limit x.m.geometry ≤ 2 ^ x.m.geometry.idlen = omega arith in
        record { some = omega (arith, least, same); fits = omega (arith, most, fits, same) })
  ]
    where
      one_id : (a b : ℕ) → (let o : Option ℕ = Some a in o) ≡ Some b → a ≡ b
      one_id a b e = cc

  -- ---- the plans

  module _ (s : Spaces) (placed : ArePlacedFirst x.m (h x) x.job x.wants s) where
    met : AreMet x.m needs placed.plans
    met = subst (λ (ns : List Need). AreMet x.m ns placed.plans) (needs_are x) placed.met

    pub plan_ids : HasPlanIds (own_bytes x) (new_ids x.m) (ids x) placed.plans
    plan_ids = plan_ids_of (end x) (own_bytes x) (ids x) placed.plans (new_ids x.m) met.left met.ids

    pub can : CanTakeAll x.m.geometry (hole_runs x.m) placed.plans
    can = take_all x.m x.agreed.is_map needs placed.plans met can_need can_have

    -- It is the new object's, or that of an identifier that moves.
    abbrev pub IsItsPlan : Plan → Type 0
    IsItsPlan p = (Contains (new_ids x.m) p.id × (0 < own_bytes x) × (units x.m.geometry (own_bytes x) ≤ bits_in (fronts p.parts.items)))
        ⊎ ((moves x p.id ≡ true) × (units x.m.geometry (end x p.id) ≤ bits_in (fronts p.parts.items)))

    pub plan_cases : (p : Plan) → Contains placed.plans p → IsItsPlan p
    plan_cases p at =
        let n = need_of_plan x.m needs placed.plans (new_ids x.m) met.left (hole_runs x.m) met.fit met.ids p at in
        ⊎_elim (λ own. of_own n.0 own n.2) (λ moved. of_moved n.0 moved n.2) (need_cases n.0 n.1)
      where
        one_id : (a b : ℕ) → (let o : Option ℕ = Some a in o) ≡ Some b → a ≡ b
        one_id a b e = cc

        of_own : (n : Need) → (n ≡ (let j : Need = record { id = None; bytes = own_bytes x } in j)) × (0 < own_bytes x) → Meets x.m (new_ids x.m) n p → IsItsPlan p
        of_own n own meets = elim meets.id [
          | inl old ↦ absurd (let none : (let o : Option ℕ = None in o) ≡ Some p.id = ap (λ (j : Need). j.id) (sym own.0) ∙ old in cc)
          | inr fresh ↦ inl (fresh.1, own.1, subst (λ (j : Need). units x.m.geometry j.bytes ≤ bits_in (fronts p.parts.items)) own.0 meets.enough)
        ]

        of_moved : (n : Need) → (k : ℕ) × (moves x k ≡ true) × (need_of (end x) k ≡ n) → Meets x.m (new_ids x.m) n p → IsItsPlan p
        of_moved n moved meets = elim meets.id [
          | inr fresh ↦ absurd (let none : (let o : Option ℕ = Some moved.0 in o) ≡ None = ap (λ (j : Need). j.id) moved.2 ∙ fresh.0 in cc)
          | inl old ↦
              (let same = one_id moved.0 p.id (ap (λ (j : Need). j.id) moved.2 ∙ old) in
              inr (
                subst (λ (k : ℕ). moves x k ≡ true) same moved.1,
                subst (λ (k : ℕ). units x.m.geometry (end x k) ≤ bits_in (fronts p.parts.items)) same (subst (λ (j : Need). units x.m.geometry j.bytes ≤ bits_in (fronts p.parts.items)) (sym moved.2) meets.enough),
              ))
        ]

    pub placeable : (bytes : ℕ) (q : Plan) → Contains placed.plans q → 0 < bytes → units x.m.geometry bytes ≤ bits_in (fronts q.parts.items) → 2 ≤ q.id → q.id < id_limit x.m.geometry → IsPlaceable x.m bytes q
    placeable bytes q at some enough low high =
        let one = (can_member x.m.geometry (hole_runs x.m) placed.plans q can at).1 in
        record {
          some = some;
          rising = one.rising;
          zones = λ p there. fronts_in_zones x.m x.agreed.is_map (min_some x.m.geometry x.agreed.is_map.of_record) placed.plans p can (in_fronts placed.plans q p at there);
          long = one.cut.long;
          enough = enough;
          id_low = low;
          id_high = high;
        }

    -- The plan of an identifier that moves.
    pub record IsPlanOf (k : ℕ) (q : Plan) : Type 0 where
      pub found : plan_for placed.plans k ≡ Some q
      pub among : Contains placed.plans q
      pub id : q.id ≡ k
      pub fits : IsPlaceable x.m (end x k) q

    pub plan_at : (k : ℕ) → moves x k ≡ true → (q : Plan) × IsPlanOf k q
    plan_at k e =
        let need : Contains needs (need_of (end x) k) =
        Contains-append_right (own_need (own_bytes x)) (map (need_of (end x)) (ids x) ++ []) (need_of (end x) k)
        (Contains-append_left (map (need_of (end x)) (ids x)) [] (need_of (end x) k) (in_map (need_of (end x)) (ids x) k (in_ids k e))) in
        let p = plan_of_need x.m needs placed.plans (new_ids x.m) met.left (hole_runs x.m) met.fit met.ids (need_of (end x) k) need in
        let q = found_plan placed.plans k p.0 p.1 (id_of_it p.0 p.2) in
        (q.0, record { found = q.1; among = q.2; id = q.3; fits = by q.0 q.2 q.3 (plan_cases q.0 q.2) })
      where
        one_id : (a b : ℕ) → (let o : Option ℕ = Some a in o) ≡ Some b → a ≡ b
        one_id a b e = cc

        id_of_it : (p : Plan) → Meets x.m (new_ids x.m) (need_of (end x) k) p → p.id ≡ k
        id_of_it p meets = elim meets.id [
          | inl old ↦ sym (one_id k p.id old)
          | inr fresh ↦ absurd (let none : (let o : Option ℕ = Some k in o) ≡ None = fresh.0 in cc)
        ]

        by : (q : Plan) → Contains placed.plans q → q.id ≡ k → IsItsPlan q → IsPlaceable x.m (end x k) q
        by q at same (inl fresh) = absurd (let no = unused q.id fresh.0 in let yes = used k e in let there : is_used x.m q.id ≡ true = ap (is_used x.m) same ∙ yes in cc)
        by q at same (inr moved) =
            let high = moves_high x k e in
            let low = high.0 in
            let most = high.1 in
            placeable (end x k) q at (end_some x k e) (subst (λ (j : ℕ). units x.m.geometry (end x j) ≤ bits_in (fronts q.parts.items)) same moved.1) (omega (arith, low, same)) (omega (arith, most, same))
