-- The space of a job by which a directory grows: a plan for each need.
use Rattle.std.proofs.Common.{append_assoc, ◌≡◌, ◌<◌, ◌≤◌, ◌+◌, ◌-◌, ◌^◌, ◌==◌, ◌&&◌, ◌⊎◌, inl, inr, ⊎_elim, ℕ, zero, suc, Bool, true, false, not, cond, get_or, List, [], ◌∷◌, ◌++◌, map, refl, sym, ap, ap₂, subst, ◌∙◌, arith, eq-eqb, Option, Some, None}
use Rattle.std.specs.Prelude.{All, Contains, drop, take, is_some}
use Rattle.std.specs.List.{range_with_len}
use Rattle.std.proofs.lemmas.List.FromFn.{get_or-range_with_len, length-range_with_len}
use Rattle.std.proofs.lemmas.List.Elements.{Contains-append_cases, Contains-append_left, Contains-append_right, Contains-get_or}
use Rattle.fc_record.specs.Record.{id_limit}
use Rattle.fc_newmap.specs.Map.{Map, ZoneRun, bits_in, hole_runs, is_used}
use Rattle.fc_image.specs.Layout.{id_of}
use Rattle.fc_image.specs.effects.Sharing.{new_ids, units}
use Rattle.fc_plan.specs.declared.plan.Plan.{Plan}
use Rattle.fc_plan.specs.Parts.{fronts}
use Rattle.fc_plan.proofs.Plans.{min_some}
use Rattle.fc_tree.proofs.MemberLemmas.{contains_here, from_map, in_filter, in_map, no_element}
use Rattle.fc_placing.proofs.LeavingLemmas.{from_kept}
use Rattle.fc_writing.specs.Steps.{CanTakeAll}
use Rattle.fc_edits.specs.NewNodes.{AreDistinct}
use Rattle.fc_edits.proofs.lemmas.IdentifierLemmas.{used_of}
use Rattle.fc_change.specs.declared.job.Growth.{Growth}
use Rattle.fc_change.specs.declared.spaces.Spaces.{Spaces}
use Rattle.fc_change.proofs.LeadsLemmas.{IsPlaceable}
use Rattle.fc_safe.specs.declared.needs.Need.{Need}
use Rattle.fc_safe.specs.FirstNeeds.{need_of, own_need, moving_out, out_need}
use Rattle.fc_safe.specs.FirstSpace.{ArePlacedFirst}
use Rattle.fc_image.specs.effects.Placed.{holes_left}
use Rattle.fc_image.specs.safe.SafeShort.{fitted}
use Rattle.fc_safe.specs.Needs.{AreMet, CanNeed, HaveIds, IsIdOf, bits_of, parts_of}
use Rattle.fc_safecommands.proofs.FitLemmas.{first_enough}
use Rattle.fc_safe.proofs.CoverLemmas.{fronts_in_zones}
use Rattle.fc_safe.proofs.TakingLemmas.{CanHave, take_all}
use Rattle.fc_safecommands.specs.Anew.{plan_for}
use Rattle.fc_safecommands.proofs.PlansApartLemmas.{in_fronts}
use Rattle.fc_safecommands.proofs.GrownStirLemmas.{GrowingJob, end, end_few, end_some, h, ids, moves, moves_high, long, moves_of, own_bytes, own_few, short}
use Rattle.fc_tree.proofs.WalkedLemmas.{same_some}
use Rattle.fc_image.specs.effects.Short.{one_if}
use Rattle.fc_safe.proofs.PlannedLemmas.{grows_out}
use Rattle.fc_safecommands.proofs.lemmas.PlanLemmas.{all_taken}
use Rattle.fc_safecommands.proofs.GrownIdsLemmas.{spliced_once}
use Rattle.fc_safecommands.proofs.StirredSpaceLemmas.{Meets, can_member, first_of, found_plan, need_of_plan, plan_of_need, range_once, rest_in}

-- ---- the last need, and the last plan

last_enough : (m : Map) (needs : List Need) (n : Need) (before : List Plan) (p : Plan) (new left : List ℕ) (holes : List ZoneRun) → fitted m (bits_of m.geometry (needs ++ n ∷ [])) holes ≡ Some (parts_of (before ++ p ∷ []))
    → HaveIds new (needs ++ n ∷ []) (before ++ p ∷ []) left → units m.geometry n.bytes ≤ bits_in (fronts p.parts.items)
last_enough m [] n [] p new left holes fit have = first_enough m.geometry (units m.geometry n.bytes) holes (fronts p.parts.items) (first_of m (units m.geometry n.bytes) [] holes (fronts p.parts.items) [] fit).0
last_enough m [] n (q ∷ []) p new left holes fit have = absurd have.2
last_enough m [] n (q ∷ r ∷ before) p new left holes fit have = absurd have.2
last_enough m (k ∷ []) n [] p new left holes fit have = absurd have.2
last_enough m (k ∷ j ∷ needs) n [] p new left holes fit have = absurd have.2
last_enough m (k ∷ needs) n (q ∷ before) p new left holes fit have =
    let more = first_of m (units m.geometry k.bytes) (bits_of m.geometry (needs ++ n ∷ [])) holes (fronts q.parts.items) (parts_of (before ++ p ∷ [])) fit in
    last_enough m needs n before p have.0 left (holes_left holes (fronts q.parts.items)) more.1 have.2

-- Its identifier is a new one, if the need asks for one.
pub last_new : (needs : List Need) (n : Need) (before : List Plan) (p : Plan) (new left : List ℕ) → n.id ≡ None → HaveIds new (needs ++ n ∷ []) (before ++ p ∷ []) left → Contains new p.id
last_new [] n [] p new left none have = subst (λ (xs : List ℕ). Contains xs p.id) (sym (subst (λ (o : Option ℕ). IsIdOf o new have.0 p.id) none have.1)) (contains_here p.id have.0)
last_new [] n (q ∷ []) p new left none have = absurd have.2
last_new [] n (q ∷ r ∷ before) p new left none have = absurd have.2
last_new (k ∷ []) n [] p new left none have = absurd have.2
last_new (k ∷ j ∷ needs) n [] p new left none have = absurd have.2
last_new (k ∷ needs) n (q ∷ before) p new left none have = rest_in k.id new have.0 q.id p.id have.1 (last_new needs n before p have.0 left none have.2)

new_bounds : (m : Map) (k : ℕ) → Contains (new_ids m) k → (3 ≤ k) × (k < id_limit m.geometry)
new_bounds m k at =
    let there = (from_kept (λ (j : ℕ). not (is_used m j)) (range_with_len 3 (id_limit m.geometry - 3)) k at).0 in
    let size = length-range_with_len 3 (id_limit m.geometry - 3) in
    let low = there.1 in
    let value = get_or-range_with_len 3 (id_limit m.geometry - 3) there.0 k (omega (arith, size, low)) in
    let same = there.2 in
    (omega (arith, value, same), omega (arith, value, same, low, size))

module _ (x : GrowingJob) where
  -- ---- identifiers

  pub used : (k : ℕ) → moves x k ≡ true → is_used x.m k ≡ true
  used k e = let r = moves_of x k e in used_of x.kind x.m x.nodes x.owners x.root x.listings x.agreed r.1 r.2.is.there k (ap₂ (λ (a b : Bool). a && b) r.2.is.some (eq-eqb (id_of r.1.entry.address) k r.2.id))

  pub in_ids : (k : ℕ) → moves x k ≡ true → Contains (ids x) k
  in_ids k e =
      in_filter (λ (j : ℕ). moves x j) (range_with_len 0 (id_limit x.m.geometry)) k
      (k, (let size = length-range_with_len 0 (id_limit x.m.geometry) in let low = (moves_high x k e).1 in omega (arith, size, low)), get_or-range_with_len 0 (id_limit x.m.geometry) k k (moves_high x k e).1 ∙ omega arith) e

  pub of_ids : (k : ℕ) → Contains (ids x) k → moves x k ≡ true
  of_ids k at = (from_kept (λ (j : ℕ). moves x j) (range_with_len 0 (id_limit x.m.geometry)) k at).1

  pub unused : (k : ℕ) → Contains (new_ids x.m) k → is_used x.m k ≡ false
  unused k at = turned (is_used x.m k) (from_kept (λ (j : ℕ). not (is_used x.m j)) (range_with_len 3 (id_limit x.m.geometry - 3)) k at).1
    where
      turned : (b : Bool) → not b ≡ true → b ≡ false
      turned true e = absurd (cc)
      turned false e = refl

  -- ---- needs

  abbrev needs : List Need
  needs = own_need (own_bytes x) ++ (map (need_of (end x)) (ids x) ++ out_need (moving_out x.m (h x) x.wants.grows))

  abbrev pub out : Option Growth
  out = moving_out x.m (h x) x.wants.grows

  -- What leaves its identifier is what grows.
  pub out_is : (k : Growth) → moving_out x.m (h x) x.wants.grows ≡ Some k → x.growth ≡ k
  out_is k e = same_some x.growth k (sym x.grows ∙ grows_out x.m (h x) x.wants.grows k e)

  abbrev IsOneOfThem : Need → Type 0
  IsOneOfThem n =
      ((n ≡ (let j : Need = record { id = None; bytes = own_bytes x } in j)) × (0 < own_bytes x)) ⊎ ((k : ℕ) × (moves x k ≡ true) × (need_of (end x) k ≡ n))
      ⊎ ((out ≡ Some x.growth) × (n ≡ (let j : Need = record { id = None; bytes = x.growth.len } in j)))

  need_cases : (n : Need) → Contains needs n → IsOneOfThem n
  need_cases n at = elim (Contains-append_cases (own_need (own_bytes x)) (map (need_of (end x)) (ids x) ++ out_need out) n at) [
    | inl own ↦ inl (by (own_bytes x == 0) refl own)
    | inr moved ↦ inr (elim (Contains-append_cases (map (need_of (end x)) (ids x)) (out_need out) n moved) [
      | inl old ↦ inl (let r = from_map (need_of (end x)) (ids x) n old in (r.0, of_ids r.0 r.1, r.2))
      | inr last ↦ inr (of_out out refl last)
    ])
  ]
    where
      of_out : (o : Option Growth) → out ≡ o → Contains (out_need o) n → (out ≡ Some x.growth) × (n ≡ (let j : Need = record { id = None; bytes = x.growth.len } in j))
      of_out None e none = absurd (no_element n none)
      of_out (Some k) e (zero, low, f) =
          let same = out_is k e in
          (e ∙ ap (λ (j : Growth). let q : Option Growth = Some j in q) (sym same), sym f ∙ ap (λ (j : Growth). let q : Need = record { id = None; bytes = j.len } in q) (sym same))
      of_out (Some k) e (suc i, low, f) = absurd (omega (arith, low))

      some : (k : ℕ) → (k == 0) ≡ false → 0 < k
      some zero f = absurd (cc)
      some (suc k) f = omega arith

      by : (b : Bool) → (own_bytes x == 0) ≡ b → Contains (cond b [] ((let j : Need = record { id = None; bytes = own_bytes x } in j) ∷ [])) n → (n ≡ (let j : Need = record { id = None; bytes = own_bytes x } in j)) × (0 < own_bytes x)
      by true f none = absurd (no_element n none)
      by false f (zero, low, e) = (sym e, some (own_bytes x) f)
      by false f (suc i, low, e) = absurd (omega (arith, low))

  can_need : All CanNeed needs
  can_need k d low = elim (need_cases (get_or needs k d) (Contains-get_or needs k d low)) [
    | inl own ↦ subst CanNeed (sym own.0) (record { some = own.1; few = (let few = own_few x in omega (arith, few)) })
    | inr other ↦ elim other [
      | inl moved ↦ subst CanNeed moved.2 (record { some = end_some x moved.0 moved.1; few = (let few = end_few x moved.0 in omega (arith, few)) })
      | inr last ↦ subst CanNeed (sym last.1) (record { some = (let least = long x in omega (arith, least)); few = (let most = short x in omega (arith, most)) })
    ]
  ]

  can_have : (n : Need) (id : ℕ) → Contains needs n → n.id ≡ Some id → CanHave x.m id
  can_have n id at is = elim (need_cases n at) [
    | inl own ↦ absurd (let none : (let o : Option ℕ = None in o) ≡ Some id = ap (λ (j : Need). j.id) (sym own.0) ∙ is in cc)
    | inr other ↦ elim other [
      | inl moved ↦
          (let same : moved.0 ≡ id = one_id moved.0 id (ap (λ (j : Need). j.id) moved.2 ∙ is) in
          let high = moves_high x moved.0 moved.1 in
          let least = high.0 in
          let most = high.1 in
          let fits : id_limit x.m.geometry ≤ 2 ^ x.m.geometry.idlen = omega arith in
          record { some = omega (arith, least, same); fits = omega (arith, most, fits, same) })
      | inr last ↦ absurd (let none : (let o : Option ℕ = None in o) ≡ Some id = ap (λ (j : Need). j.id) (sym last.1) ∙ is in cc)
    ]
  ]
    where
      one_id : (a b : ℕ) → (let o : Option ℕ = Some a in o) ≡ Some b → a ≡ b
      one_id a b e = cc

  -- ---- the plans

  module _ (s : Spaces) (placed : ArePlacedFirst x.m (h x) x.job x.wants s) where
    met : AreMet x.m needs placed.plans
    met = placed.met

    -- new identifiers for the object, if it needs space of its own, and for what leaves its own
    abbrev own_count : ℕ
    own_count = one_if (not (own_bytes x == 0))

    abbrev out_count : ℕ
    out_count = one_if (is_some out)

    pub plan_ids : map (λ (p : Plan). p.id) placed.plans
        ≡ take (one_if (not (own_bytes x == 0))) (new_ids x.m) ++ (ids x ++ take (one_if (is_some (moving_out x.m (h x) x.wants.grows))) (drop (one_if (not (own_bytes x == 0))) (new_ids x.m)))
    plan_ids = all_taken (new_ids x.m) (own_bytes x) (end x) (ids x) out placed.plans met.left met.ids

    -- No two plans are of one identifier: new ones have no runs, and the others have some.
    pub once : AreDistinct (map (λ (p : Plan). p.id) placed.plans)
    once =
        subst AreDistinct (sym plan_ids)
        (spliced_once own_count out_count (new_ids x.m) (ids x) (range_once (λ (k : ℕ). not (is_used x.m k)) (id_limit x.m.geometry - 3) 3) (range_once (λ (k : ℕ). moves x k) (id_limit x.m.geometry) 0)
        (λ k old new. (let yes = used k (of_ids k old) in let no = unused k new in cc)))

    pub can : CanTakeAll x.m.geometry (hole_runs x.m) placed.plans
    can = take_all x.m x.agreed.is_map needs placed.plans met can_need can_have

    -- It is the new object's, or that of an identifier that moves, or the grown directory's.
    abbrev pub IsItsPlan : Plan → Type 0
    IsItsPlan p = (Contains (new_ids x.m) p.id × (0 < own_bytes x) × (units x.m.geometry (own_bytes x) ≤ bits_in (fronts p.parts.items)))
        ⊎ ((moves x p.id ≡ true) × (units x.m.geometry (end x p.id) ≤ bits_in (fronts p.parts.items)))
        ⊎ (Contains (new_ids x.m) p.id × (out ≡ Some x.growth) × (units x.m.geometry x.growth.len ≤ bits_in (fronts p.parts.items)))

    pub plan_cases : (p : Plan) → Contains placed.plans p → IsItsPlan p
    plan_cases p at =
        let n = need_of_plan x.m needs placed.plans (new_ids x.m) met.left (hole_runs x.m) met.fit met.ids p at in
        ⊎_elim (λ own. of_own n.0 own n.2) (λ other. ⊎_elim (λ moved. of_moved n.0 moved n.2) (λ last. of_last n.0 last n.2) other) (need_cases n.0 n.1)
      where
        one_id : (a b : ℕ) → (let o : Option ℕ = Some a in o) ≡ Some b → a ≡ b
        one_id a b e = cc

        of_own : (n : Need) → (n ≡ (let j : Need = record { id = None; bytes = own_bytes x } in j)) × (0 < own_bytes x) → Meets x.m (new_ids x.m) n p → IsItsPlan p
        of_own n own meets = elim meets.id [
          | inl old ↦ absurd (let none : (let o : Option ℕ = None in o) ≡ Some p.id = ap (λ (j : Need). j.id) (sym own.0) ∙ old in cc)
          | inr fresh ↦ inl (fresh.1, own.1, subst (λ (j : Need). units x.m.geometry j.bytes ≤ bits_in (fronts p.parts.items)) own.0 meets.enough)
        ]

        of_moved : (n : Need) → (k : ℕ) × (moves x k ≡ true) × (need_of (end x) k ≡ n) → Meets x.m (new_ids x.m) n p → IsItsPlan p
        of_moved n moved meets = elim meets.id [
          | inr fresh ↦ absurd (let none : (let o : Option ℕ = Some moved.0 in o) ≡ None = ap (λ (j : Need). j.id) moved.2 ∙ fresh.0 in cc)
          | inl old ↦
              (let same = one_id moved.0 p.id (ap (λ (j : Need). j.id) moved.2 ∙ old) in
              inr (inl (
                subst (λ (k : ℕ). moves x k ≡ true) same moved.1,
                subst (λ (k : ℕ). units x.m.geometry (end x k) ≤ bits_in (fronts p.parts.items)) same (subst (λ (j : Need). units x.m.geometry j.bytes ≤ bits_in (fronts p.parts.items)) (sym moved.2) meets.enough),
              )))
        ]

        of_last : (n : Need) → (out ≡ Some x.growth) × (n ≡ (let j : Need = record { id = None; bytes = x.growth.len } in j)) → Meets x.m (new_ids x.m) n p → IsItsPlan p
        of_last n last meets = elim meets.id [
          | inl old ↦ absurd (let none : (let o : Option ℕ = None in o) ≡ Some p.id = ap (λ (j : Need). j.id) (sym last.1) ∙ old in cc)
          | inr fresh ↦ inr (inr (fresh.1, last.0, subst (λ (j : Need). units x.m.geometry j.bytes ≤ bits_in (fronts p.parts.items)) last.1 meets.enough))
        ]

    pub placeable : (bytes : ℕ) (q : Plan) → Contains placed.plans q → 0 < bytes → units x.m.geometry bytes ≤ bits_in (fronts q.parts.items) → 2 ≤ q.id → q.id < id_limit x.m.geometry → IsPlaceable x.m bytes q
    placeable bytes q at some enough low high =
        let one = (can_member x.m.geometry (hole_runs x.m) placed.plans q can at).1 in
        record {
          some = some;
          rising = one.rising;
          zones = λ p there. fronts_in_zones x.m x.agreed.is_map (min_some x.m.geometry x.agreed.is_map.of_record) placed.plans p can (in_fronts placed.plans q p at there);
          long = one.cut.long;
          enough = enough;
          id_low = low;
          id_high = high;
        }

    -- each identifier is one that an object may have
    pub plan_bounds : (q : Plan) → Contains placed.plans q → (2 ≤ q.id) × (q.id < id_limit x.m.geometry)
    plan_bounds q at = elim (plan_cases q at) [
      | inl own ↦ (let b = new_bounds x.m q.id own.0 in let low = b.0 in (omega (arith, low), b.1))
      | inr other ↦ elim other [
        | inl moved ↦ (let b = moves_high x q.id moved.0 in let low = b.0 in (omega (arith, low), b.1))
        | inr last ↦ (let b = new_bounds x.m q.id last.0 in let low = b.0 in (omega (arith, low), b.1))
      ]
    ]

    -- With another identifier the grown directory has the last plan.
    pub out_fits : (q : Plan) → Contains placed.plans q → (before : List Plan) → placed.plans ≡ before ++ q ∷ [] → out ≡ Some x.growth → IsPlaceable x.m x.growth.len q
    out_fits q at before all e =
        let n : Need = record { id = None; bytes = x.growth.len } in
        let front = own_need (own_bytes x) ++ map (need_of (end x)) (ids x) in
        let needs_as : needs ≡ front ++ n ∷ [] =
        ap (λ (o : Option Growth). own_need (own_bytes x) ++ (map (need_of (end x)) (ids x) ++ out_need o)) e ∙ sym (append_assoc (own_need (own_bytes x)) (map (need_of (end x)) (ids x)) (n ∷ [])) in
        let fit = subst (λ (ps : List Plan). fitted x.m (bits_of x.m.geometry (front ++ n ∷ [])) (hole_runs x.m) ≡ Some (parts_of ps)) all
        (subst (λ (ns : List Need). fitted x.m (bits_of x.m.geometry ns) (hole_runs x.m) ≡ Some (parts_of placed.plans)) needs_as met.fit) in
        let have = subst (λ (ps : List Plan). HaveIds (new_ids x.m) (front ++ n ∷ []) ps met.left) all (subst (λ (ns : List Need). HaveIds (new_ids x.m) ns placed.plans met.left) needs_as met.ids) in
        let bound = plan_bounds q at in
        placeable x.growth.len q at (let least = long x in omega (arith, least)) (last_enough x.m front n before q (new_ids x.m) met.left (hole_runs x.m) fit have) bound.0 bound.1

    pub out_new : (q : Plan) (before : List Plan) → placed.plans ≡ before ++ q ∷ [] → out ≡ Some x.growth → Contains (new_ids x.m) q.id
    out_new q before all e =
        let n : Need = record { id = None; bytes = x.growth.len } in
        let front = own_need (own_bytes x) ++ map (need_of (end x)) (ids x) in
        let needs_as : needs ≡ front ++ n ∷ [] =
        ap (λ (o : Option Growth). own_need (own_bytes x) ++ (map (need_of (end x)) (ids x) ++ out_need o)) e ∙ sym (append_assoc (own_need (own_bytes x)) (map (need_of (end x)) (ids x)) (n ∷ [])) in
        last_new front n before q (new_ids x.m) met.left refl (subst (λ (ps : List Plan). HaveIds (new_ids x.m) (front ++ n ∷ []) ps met.left) all (subst (λ (ns : List Need). HaveIds (new_ids x.m) ns placed.plans met.left) needs_as met.ids))

    -- The plan of an identifier that moves.
    pub record IsPlanOf (k : ℕ) (q : Plan) : Type 0 where
      pub found : plan_for placed.plans k ≡ Some q
      pub among : Contains placed.plans q
      pub id : q.id ≡ k
      pub fits : IsPlaceable x.m (end x k) q

    pub plan_at : (k : ℕ) → moves x k ≡ true → (q : Plan) × IsPlanOf k q
    plan_at k e =
        let need : Contains needs (need_of (end x) k) =
        Contains-append_right (own_need (own_bytes x)) (map (need_of (end x)) (ids x) ++ out_need out) (need_of (end x) k)
        (Contains-append_left (map (need_of (end x)) (ids x)) (out_need out) (need_of (end x) k) (in_map (need_of (end x)) (ids x) k (in_ids k e))) in
        let p = plan_of_need x.m needs placed.plans (new_ids x.m) met.left (hole_runs x.m) met.fit met.ids (need_of (end x) k) need in
        let q = found_plan placed.plans k p.0 p.1 (id_of_it p.0 p.2) in
        (q.0, record { found = q.1; among = q.2; id = q.3; fits = by q.0 q.2 q.3 (plan_cases q.0 q.2) })
      where
        one_id : (a b : ℕ) → (let o : Option ℕ = Some a in o) ≡ Some b → a ≡ b
        one_id a b e = cc

        id_of_it : (p : Plan) → Meets x.m (new_ids x.m) (need_of (end x) k) p → p.id ≡ k
        id_of_it p meets = elim meets.id [
          | inl old ↦ sym (one_id k p.id old)
          | inr fresh ↦ absurd (let none : (let o : Option ℕ = Some k in o) ≡ None = fresh.0 in cc)
        ]

        by : (q : Plan) → Contains placed.plans q → q.id ≡ k → IsItsPlan q → IsPlaceable x.m (end x k) q
        by q at same (inl fresh) = absurd (let no = unused q.id fresh.0 in let yes = used k e in let there : is_used x.m q.id ≡ true = ap (is_used x.m) same ∙ yes in cc)
        by q at same (inr (inr last)) = absurd (let no = unused q.id last.0 in let yes = used k e in let there : is_used x.m q.id ≡ true = ap (is_used x.m) same ∙ yes in cc)
        by q at same (inr (inl moved)) =
            let high = moves_high x k e in
            let low = high.0 in
            let most = high.1 in
            placeable (end x k) q at (end_some x k e) (subst (λ (j : ℕ). units x.m.geometry (end x j) ≤ bits_in (fronts q.parts.items)) same moved.1) (omega (arith, low, same)) (omega (arith, most, same))
