-- A job by which a directory grows: which identifiers move, what goes back, and the runs that its needs have.
use Rattle.std.proofs.Common.{◌≡◌, ◌<◌, ◌≤◌, ◌==◌, ◌&&◌, ◌||◌, ◌⊎◌, inl, inr, ⊎_elim, ℕ, zero, suc, Bool, true, false, not, List, [], ◌∷◌, filter, map, refl, sym, ap, ap₂, subst, ◌∙◌, arith, eq-eqb}
use Rattle.std.specs.Prelude.{Contains, nat_lt}
use Rattle.std.specs.List.{list_any}
use Rattle.std.proofs.lemmas.Bool.{and_parts, cases_eq, cases_lt, eqb-true, le-leb, le-ltb, lt-ltb, ne_eqb}
use Rattle.std.proofs.lemmas.List.Sorted.{list_any-IsPermutation}
use Rattle.fc_alloc.specs.Owners.{owns}
use Rattle.fc_record.specs.declared.Geometry.{Geometry}
use Rattle.fc_record.specs.Record.{id_limit}
use Rattle.fc_newmap.specs.Map.{Map, ZoneRun, is_used, hole_runs}
use Rattle.fc_image.specs.Layout.{id_of}
use Rattle.fc_image.specs.Objects.{has_sectors, is_movable, is_owner_of, objects_of}
use Rattle.fc_image.specs.Walk.{Object}
use Rattle.fc_image.specs.effects.Steady.{is_given_back}
use Rattle.fc_image.specs.safe.SafeSteady.{HaveRuns}
use Rattle.fc_plan.specs.declared.plan.Plan.{Plan}
use Rattle.fc_plan.specs.Applied.{IsTakenIn}
use Rattle.fc_plan.specs.Giving.{is_one_of}
use Rattle.fc_placing.specs.Leaving.{is_kept}
use Rattle.fc_placing.proofs.LeavingLemmas.{any_owner}
use Rattle.fc_tree.specs.Parts.{owner_of}
use Rattle.fc_tree.proofs.MemberLemmas.{contains_here}
use Rattle.fc_edits.specs.NewPlaces.{is_taken}
use Rattle.fc_change.specs.declared.spaces.Spaces.{Spaces}
use Rattle.fc_safe.specs.FirstNeeds.{first_gone}
use Rattle.fc_safe.specs.FirstSpace.{ArePlacedFirst}
use Rattle.fc_safe.specs.Gone.{is_lost_by}
use Rattle.fc_safe.specs.Needs.{parts_of}
use Rattle.fc_safe.specs.Staying.{remains}
use Rattle.fc_safe.proofs.GivenLemmas.{owner_low}
use Rattle.fc_safe.proofs.ListLemmas.{any_of, any_same, found_of}
use Rattle.fc_safeedits.specs.SafePlaces.{moves_by}
use Rattle.fc_safeedits.specs.SafeSpace.{takings_of}
use Rattle.fc_safecommands.proofs.RunLemmas.{extents_are}
use Rattle.fc_plan.proofs.Order.{rising_of}
use Rattle.fc_plan.proofs.Plans.{min_some}
use Rattle.fc_plan.specs.Parts.{fronts}
use Rattle.fc_safe.proofs.CoverLemmas.{fronts_in_zones}
use Rattle.fc_safecommands.proofs.PlansApartLemmas.{in_fronts}
use Rattle.fc_newmap.specs.NewMap.{IsNewMap}
use Rattle.fc_image.specs.effects.Sharing.{new_ids}
use Rattle.fc_safecommands.proofs.GrownStirLemmas.{GrowingJob, h, leaving, moves, moves_high, moves_of, v, view, y}
use Rattle.fc_safecommands.proofs.GrownSpaceLemmas.{can, plan_at, plan_cases, unused, used}
use Rattle.fc_safecommands.proofs.GrownStepLemmas as step_of
use Rattle.fc_safecommands.proofs.StirredSpaceLemmas.{can_member}

module _ (x : GrowingJob) (s : Spaces) (placed : ArePlacedFirst x.m (h x) x.job x.wants s) where
  abbrev g : Geometry
  g = x.m.geometry

  abbrev objects : List Object
  objects = objects_of x.listings

  -- ---- which identifiers move

  taken_from : (k : ℕ) → is_taken (takings_of placed.plans) k ≡ true → (p : Plan) × Contains placed.plans p × (p.id ≡ k)
  taken_from k e = by placed.plans e
    where
      by : (ps : List Plan) → is_taken (takings_of ps) k ≡ true → (p : Plan) × Contains ps p × (p.id ≡ k)
      by [] f = absurd (cc)
      by (p ∷ ps) f = at_first (p.id == k) refl f (by ps)
        where
          at_first : (b : Bool) → (p.id == k) ≡ b → (b || is_taken (takings_of ps) k) ≡ true → (is_taken (takings_of ps) k ≡ true → (q : Plan) × Contains ps q × (q.id ≡ k)) → (q : Plan) × Contains (p ∷ ps) q × (q.id ≡ k)
          at_first true same j rest = (p, contains_here p ps, eqb-true p.id k same)
          at_first false other j rest = let r = rest j in (r.0, (suc r.1.0, (let low = r.1.1 in omega (arith, low)), r.1.2), r.2)

  taken_in : (p : Plan) (k : ℕ) → Contains placed.plans p → p.id ≡ k → is_taken (takings_of placed.plans) k ≡ true
  taken_in p k at same = by placed.plans at
    where
      by : (ps : List Plan) → Contains ps p → is_taken (takings_of ps) k ≡ true
      by [] (i, low, e) = absurd (omega (arith, low))
      by (q ∷ ps) (zero, low, e) = ap (λ (b : Bool). b || is_taken (takings_of ps) k) (eq-eqb q.id k (ap (λ (r : Plan). r.id) e ∙ same))
      by (q ∷ ps) (suc i, low, e) = ap (λ (b : Bool). (q.id == k) || b) (by ps (i, omega (arith, low), e)) ∙ or_true (q.id == k)
        where
          or_true : (b : Bool) → (b || true) ≡ true
          or_true true = refl
          or_true false = refl

  pub moved_is : (k : ℕ) → moves_by x.m (takings_of placed.plans) k ≡ true → moves x k ≡ true
  moved_is k e =
      let both = and_parts (is_taken (takings_of placed.plans) k) (is_used x.m k) e in
      let p = taken_from k both.0 in
      ⊎_elim (λ fresh. absurd (not_new p.0 p.2 both.1 fresh.0)) (λ other. ⊎_elim (λ moved. subst (λ (j : ℕ). moves x j ≡ true) p.2 moved.0) (λ last. absurd (not_new p.0 p.2 both.1 last.0)) other) (plan_cases x s placed p.0 p.1)
    where
      not_new : (p : Plan) → p.id ≡ k → is_used x.m k ≡ true → Contains (new_ids x.m) p.id → ⊥
      not_new p same has fresh = let no = unused x p.id fresh in let yes : is_used x.m p.id ≡ true = ap (is_used x.m) same ∙ has in cc

  pub moves_is : (k : ℕ) → moves x k ≡ true → moves_by x.m (takings_of placed.plans) k ≡ true
  moves_is k e = let q = plan_at x s placed k e in ap₂ (λ (a b : Bool). a && b) (taken_in q.0 k q.1.among q.1.id) (used x k e)

  pub movable : (k : ℕ) → moves_by x.m (takings_of placed.plans) k ≡ true → is_movable objects k ≡ true
  movable k e =
      let r = moves_of x k (moved_is k e) in
      ap₂ (λ (a b : Bool). ((k == 2) || a) && b) (any_of (is_owner_of k) objects r.1 r.2.is.there (ap₂ (λ (a b : Bool). a && b) r.2.is.some (eq-eqb (id_of r.1.entry.address) k r.2.id))) (le-leb 3 k (moves_high x k (moved_is k e)).0)
      ∙ or_yes (k == 2)
    where
      or_yes : (b : Bool) → ((b || true) && true) ≡ true
      or_yes true = refl
      or_yes false = refl

  -- ---- what goes back

  owns_any : (k : ℕ) → list_any (owns k) x.owners ≡ list_any (is_owner_of k) objects
  owns_any k =
      list_any-IsPermutation (owns k) x.owners (map (owner_of x.nodes (y x)) (filter has_sectors objects)) x.agreed.owned ∙ any_owner (owns k) (owner_of x.nodes (y x)) objects
      ∙ any_same (λ (o : Object). has_sectors o && owns k (owner_of x.nodes (y x) o)) (is_owner_of k) objects (λ o at. refl)

  -- What goes back is what loses its owners, if `now` are those that stay and a new one in slack, and what moves.
  pub exactly : (now : List Object) (k : ℕ) → is_used x.m k ≡ true → list_any (is_owner_of k) now ≡ (is_kept (step_of.shared x) k || list_any (remains (leaving x) k) x.owners)
      → is_one_of (first_gone x.m (h x) x.job x.wants) k ≡ (is_given_back objects now k || is_taken (takings_of placed.plans) k)
  exactly now k has same = step_of.gone_is x k ∙ sorted (moves x k) refl
    where
      kept : Bool
      kept = is_kept (step_of.shared x) k

      stays : Bool
      stays = list_any (remains (leaving x) k) x.owners

      lost_is : is_lost_by (leaving x) (step_of.shared x) x.owners k ≡ (list_any (is_owner_of k) objects && (nat_lt 2 k && (not kept && not stays)))
      lost_is = ap (λ (b : Bool). b && (nat_lt 2 k && (not kept && not stays))) (owns_any k)

      none_taken : moves x k ≡ false → is_taken (takings_of placed.plans) k ≡ false
      none_taken still = by (is_taken (takings_of placed.plans) k) refl
        where
          by : (b : Bool) → is_taken (takings_of placed.plans) k ≡ b → b ≡ false
          by false e = refl
          by true e = absurd (let no = moved_is k (ap₂ (λ (a b : Bool). a && b) e has) in cc)

      of_object : list_any (is_owner_of k) objects ≡ true → (2 ≤ k) × (k < id_limit x.m.geometry)
      of_object e = let p = found_of (is_owner_of k) objects e in owner_low x.m (h x) (v x) (view x) k p.0 p.1 p.2

      -- of one that stays where it is
      lost_same : (nat_lt k (id_limit x.m.geometry) && is_lost_by (leaving x) (step_of.shared x) x.owners k) ≡ is_given_back objects now k
      lost_same = ap (λ (b : Bool). nat_lt k (id_limit x.m.geometry) && b) lost_is ∙ by (list_any (is_owner_of k) objects) refl
        where
          not_two : (k ≡ 2 → ⊥) → (k == 2) ≡ false
          not_two other = ne_eqb k 2 other

          turned : (a b : Bool) → (true && (true && (true && (not a && not b)))) ≡ not (a || b)
          turned true b = refl
          turned false b = refl

          at_two : (a n : Bool) → ((k == 2) ≡ true) → (nat_lt 2 k ≡ false) → (n && (a && (nat_lt 2 k && (not kept && not stays)))) ≡ (((k == 2) || a) && not ((k == 2) || list_any (is_owner_of k) now))
          at_two a n two less =
              ap (λ (b : Bool). n && (a && (b && (not kept && not stays)))) less ∙ none n a ∙ sym (ap (λ (b : Bool). (b || a) && not (b || list_any (is_owner_of k) now)) two)
            where
              none : (b e : Bool) → (b && (e && false)) ≡ false
              none true true = refl
              none true false = refl
              none false e = refl

          by : (a : Bool) → list_any (is_owner_of k) objects ≡ a → (nat_lt k (id_limit x.m.geometry) && (a && (nat_lt 2 k && (not kept && not stays)))) ≡ (((k == 2) || a) && not ((k == 2) || list_any (is_owner_of k) now))
          by a e = elim (cases_eq k 2) [
            | inl two ↦ at_two a (nat_lt k (id_limit x.m.geometry)) (eq-eqb k 2 two) (le-ltb 2 k (omega (arith, two)))
            | inr other ↦ elsewhere a e other
          ]
            where
              elsewhere : (a : Bool) → list_any (is_owner_of k) objects ≡ a → (k ≡ 2 → ⊥) → (nat_lt k (id_limit x.m.geometry) && (a && (nat_lt 2 k && (not kept && not stays)))) ≡ (((k == 2) || a) && not ((k == 2) || list_any (is_owner_of k) now))
              elsewhere false e other = none (nat_lt k (id_limit x.m.geometry)) ∙ sym (ap (λ (b : Bool). (b || false) && not (b || list_any (is_owner_of k) now)) (not_two other))
                where
                  none : (b : Bool) → (b && false) ≡ false
                  none true = refl
                  none false = refl
              elsewhere true e other =
                  let at = of_object e in
                  let more : 2 < k = above k at.0 other in
                  ap₂ (λ (a b : Bool). a && (true && (b && (not kept && not stays)))) (lt-ltb k (id_limit x.m.geometry) at.1) (lt-ltb 2 k more)
                  ∙ turned kept stays
                  ∙ sym (ap₂ (λ (a b : Bool). (a || true) && not (a || b)) (not_two other) same)
                where
                  above : (n : ℕ) → 2 ≤ n → (n ≡ 2 → ⊥) → 2 < n
                  above n low not = elim (cases_lt 2 n) [
                    | inl less ↦ less
                    | inr most ↦ absurd (not (omega (arith, low, most)))
                  ]

      sorted : (b : Bool) → moves x k ≡ b → (nat_lt k (id_limit x.m.geometry) && (moves x k || is_lost_by (leaving x) (step_of.shared x) x.owners k)) ≡ (is_given_back objects now k || is_taken (takings_of placed.plans) k)
      sorted true e =
          ap₂ (λ (a b : Bool). a && (b || is_lost_by (leaving x) (step_of.shared x) x.owners k)) (lt-ltb k (id_limit x.m.geometry) (moves_high x k e).1) e
          ∙ sym (ap (λ (b : Bool). is_given_back objects now k || b) (and_parts (is_taken (takings_of placed.plans) k) (is_used x.m k) (moves_is k e)).0 ∙ or_true (is_given_back objects now k))
        where
          or_true : (b : Bool) → (b || true) ≡ true
          or_true true = refl
          or_true false = refl
      sorted false e =
          ap (λ (b : Bool). nat_lt k (id_limit x.m.geometry) && (b || is_lost_by (leaving x) (step_of.shared x) x.owners k)) e ∙ lost_same
          ∙ sym (ap (λ (b : Bool). is_given_back objects now k || b) (none_taken e) ∙ or_false (is_given_back objects now k))
        where
          or_false : (b : Bool) → (b || false) ≡ b
          or_false true = refl
          or_false false = refl

  -- ---- the runs that are needed

  pub have_runs : (m' : Map) → IsNewMap m' → m'.geometry ≡ x.m.geometry → ((q : Plan) → Contains placed.plans q → IsTakenIn m' q) → HaveRuns m' (map (λ (p : Plan). p.id) placed.plans) (parts_of placed.plans)
  have_runs m' is geometry taken = by placed.plans (λ q at. at)
    where
      low : (q : Plan) → Contains placed.plans q → (p : ZoneRun) → Contains (fronts q.parts.items) p → p.0 < m'.geometry.zones
      low q at p there =
          (let l = (fronts_in_zones x.m x.agreed.is_map (min_some x.m.geometry x.agreed.is_map.of_record) placed.plans p (can x s placed) (in_fronts placed.plans q p at there)).zone in
          let zones = ap (λ (k : Geometry). k.zones) geometry in omega (arith, l, zones))

      by : (ps : List Plan) → ((q : Plan) → Contains ps q → Contains placed.plans q) → HaveRuns m' (map (λ (p : Plan). p.id) ps) (parts_of ps)
      by [] all = tt
      by (q ∷ ps) all =
          let at = all q (contains_here q ps) in (
            extents_are m' is q (taken q at) (low q at) (rising_of (fronts q.parts.items) (can_member x.m.geometry (hole_runs x.m) placed.plans q (can x s placed) at).1.rising),
            by ps (λ p there. all p (suc there.0, (let less = there.1 in omega (arith, less)), there.2)),
          )
