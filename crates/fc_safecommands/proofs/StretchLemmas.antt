-- Stretches of the sectors of plans: free, each sector once, and none in two of them.
use Rattle.std.proofs.Common.{◌≡◌, ◌<◌, ◌≤◌, ◌+◌, inl, inr, ⊎_elim, ℕ, true, List, [], ◌∷◌, map, take, drop, sym, ap, subst, ◌∙◌, arith}
use Rattle.std.specs.Prelude.{Contains}
use Rattle.std.specs.Int.{div_ceil}
use Rattle.std.proofs.lemmas.Bool.{cases_eq, cases_lt}
use Rattle.fc_newmap.specs.Map.{Map, hole_runs}
use Rattle.fc_newmap.specs.NewMap.{IsNewMap}
use Rattle.fc_newmap.proofs.CoverLemmas.{Distinct}
use Rattle.fc_image.specs.Layout.{Layout, hole_sectors, is_among}
use Rattle.fc_image.proofs.EntriesLemmas.{cases as contains_cases}
use Rattle.fc_plan.specs.declared.plan.Plan.{Plan}
use Rattle.fc_tree.proofs.MemberLemmas.{in_map, no_element}
use Rattle.fc_writing.specs.Steps.{CanTakeAll}
use Rattle.fc_edits.specs.NewNodes.{AreDistinct}
use Rattle.fc_change.specs.GrownSpace.{plan_sectors}
use Rattle.fc_change.proofs.LeadsLemmas.{IsPlaceable}
use Rattle.fc_safelaws.proofs.PlaceLemmas.{HasPlace, one_place, place_among, to_take}
use Rattle.fc_safecommands.proofs.LaidLemmas.{stretch_once, stretch_place}
use Rattle.fc_safecommands.proofs.PlansApartLemmas.{place_apart, place_free, place_once}

-- plans of one identifier are one
pub one_plan : (plans : List Plan) (p q : Plan) → AreDistinct (map (λ (r : Plan). r.id) plans) → Contains plans p → Contains plans q → p.id ≡ q.id → p ≡ q
one_plan [] p q once at_p at_q same = absurd (no_element p at_p)
one_plan (r ∷ plans) p q once at_p at_q same =
    ⊎_elim
    (λ first. ⊎_elim (λ second. sym first ∙ second)
    (λ later. absurd (once.0 (subst (Contains (map (λ (s : Plan). s.id) plans)) (sym same ∙ ap (λ (s : Plan). s.id) (sym first)) (in_map (λ (s : Plan). s.id) plans q later)))) (contains_cases r q plans at_q))
    (λ later. ⊎_elim
    (λ second. absurd (once.0 (subst (Contains (map (λ (s : Plan). s.id) plans)) (same ∙ ap (λ (s : Plan). s.id) (sym second)) (in_map (λ (s : Plan). s.id) plans p later))))
    (λ also. one_plan plans p q once.1 later also same) (contains_cases r q plans at_q)) (contains_cases r p plans at_p)

module _ (m : Map) (is_map : IsNewMap m) (plans : List Plan) (can : CanTakeAll m.geometry (hole_runs m) plans) (once : AreDistinct (map (λ (r : Plan). r.id) plans)) where
  -- These are so many of a plan's sectors, from one of them on, all of them within those of so many bytes.
  pub record IsStretch (ss : List ℕ) : Type 0 where
    pub plan : Plan
    pub among : Contains plans plan
    pub bytes : ℕ
    pub fit : IsPlaceable m bytes plan
    pub from : ℕ
    pub long : ℕ
    pub fits : from + long ≤ div_ceil bytes m.geometry.sector
    pub is : ss ≡ take long (drop from (plan_sectors m.geometry plan))

  rows_once : (ss : List ℕ) (a : IsStretch ss) → Distinct (take (div_ceil a.bytes m.geometry.sector) (plan_sectors m.geometry a.plan))
  rows_once ss a = place_once m is_map plans can a.plan a.bytes a.among a.fit.rising

  -- where one of its sectors is
  needed : (ss : List ℕ) (a : IsStretch ss) (u : ℕ) → is_among ss u ≡ true
      → (j : ℕ) × (j < a.long) × HasPlace (plan_sectors m.geometry a.plan) (a.from + j) u × HasPlace (take (div_ceil a.bytes m.geometry.sector) (plan_sectors m.geometry a.plan)) (a.from + j) u
  needed ss a u e =
      let r = stretch_place a.from a.long (plan_sectors m.geometry a.plan) u (subst (λ (xs : List ℕ). is_among xs u ≡ true) a.is e) in
      let low = r.1 in
      let fits = a.fits in
      (r.0, r.1, r.2, to_take (div_ceil a.bytes m.geometry.sector) (plan_sectors m.geometry a.plan) (a.from + r.0) u (omega (arith, low, fits)) r.2)

  among_rows : (ss : List ℕ) (a : IsStretch ss) (u : ℕ) → is_among ss u ≡ true → is_among (take (div_ceil a.bytes m.geometry.sector) (plan_sectors m.geometry a.plan)) u ≡ true
  among_rows ss a u e = let r = needed ss a u e in place_among (take (div_ceil a.bytes m.geometry.sector) (plan_sectors m.geometry a.plan)) (a.from + r.0) u r.3

  -- Each sector lies in a hole,
  pub stretch_free : (ss : List ℕ) → IsStretch ss → (u : ℕ) → is_among ss u ≡ true → is_among (hole_sectors (Layout.New m)) u ≡ true
  stretch_free ss a u e = place_free m is_map plans can a.plan a.bytes u a.among (among_rows ss a u e)

  -- none is there twice,
  pub stretch_distinct : (ss : List ℕ) → IsStretch ss → Distinct ss
  stretch_distinct ss a = subst Distinct (sym a.is) (stretch_once (div_ceil a.bytes m.geometry.sector) a.from a.long (plan_sectors m.geometry a.plan) a.fits (rows_once ss a))

  -- none is in one of another plan,
  pub stretch_beside : (ss ts : List ℕ) (a : IsStretch ss) (b : IsStretch ts) → (a.plan.id ≡ b.plan.id → ⊥) → (u : ℕ) → is_among ss u ≡ true → is_among ts u ≡ true → ⊥
  stretch_beside ss ts a b other u in_a in_b = place_apart m is_map plans can a.plan b.plan a.bytes b.bytes u a.among b.among other (among_rows ss a u in_a) (among_rows ts b u in_b)

  -- nor in another of its own, if no place is in both.
  pub stretch_apart : (ss ts : List ℕ) (a : IsStretch ss) (b : IsStretch ts) → (a.plan.id ≡ b.plan.id → (i j : ℕ) → i < a.long → j < b.long → a.from + i ≡ b.from + j → ⊥) → (u : ℕ) → is_among ss u ≡ true → is_among ts u ≡ true → ⊥
  stretch_apart ss ts a b apart u in_a in_b = elim (cases_eq a.plan.id b.plan.id) [
    | inr other ↦ stretch_beside ss ts a b other u in_a in_b
    | inl same ↦
        (let i = needed ss a u in_a in
        let j = needed ts b u in_b in
        let one = one_plan plans a.plan b.plan once a.among b.among same in
        apart same i.0 j.0 i.1 j.1 (in_one i j (ap (plan_sectors m.geometry) one)))
  ]
    where
      -- the plan's sectors as far as either reaches, each once
      in_one : (i : (k : ℕ) × (k < a.long) × HasPlace (plan_sectors m.geometry a.plan) (a.from + k) u × HasPlace (take (div_ceil a.bytes m.geometry.sector) (plan_sectors m.geometry a.plan)) (a.from + k) u)
          (j : (k : ℕ) × (k < b.long) × HasPlace (plan_sectors m.geometry b.plan) (b.from + k) u × HasPlace (take (div_ceil b.bytes m.geometry.sector) (plan_sectors m.geometry b.plan)) (b.from + k) u)
          → plan_sectors m.geometry a.plan ≡ plan_sectors m.geometry b.plan → a.from + i.0 ≡ b.from + j.0
      in_one i j rows = elim (cases_lt (b.from + j.0) (div_ceil a.bytes m.geometry.sector)) [
        | inl inside ↦ one_place (take (div_ceil a.bytes m.geometry.sector) (plan_sectors m.geometry a.plan)) (a.from + i.0) (b.from + j.0) u (rows_once ss a) i.3
            (to_take (div_ceil a.bytes m.geometry.sector) (plan_sectors m.geometry a.plan) (b.from + j.0) u inside (subst (λ (xs : List ℕ). HasPlace xs (b.from + j.0) u) (sym rows) j.2))
        | inr beyond ↦ one_place (take (div_ceil b.bytes m.geometry.sector) (plan_sectors m.geometry b.plan)) (a.from + i.0) (b.from + j.0) u (rows_once ts b)
            (to_take (div_ceil b.bytes m.geometry.sector) (plan_sectors m.geometry b.plan) (a.from + i.0) u
            (let low_i = i.1 in
            let low_j = j.1 in
            let fits_a = a.fits in
            let fits_b = b.fits in
            omega (arith, beyond, low_i, low_j, fits_a, fits_b)) (subst (λ (xs : List ℕ). HasPlace xs (a.from + i.0) u) rows i.2)) j.3
      ]
