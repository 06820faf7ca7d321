-- Zones that change.
use Rattle.std.proofs.Common.{◌≡◌, ◌<◌, ◌&&◌, ◌||◌, ◌==◌, ℕ, Bool, true, false, cond, List, [], ◌∷◌, ◌++◌, length, map, refl, sym, ap, ap₂, ◌∙◌, arith, eq-eqb}
use Rattle.std.specs.Prelude.{filter, nat_lt}
use Rattle.std.specs.List.{list_any, range_with_len}
use Rattle.std.proofs.lemmas.Bool.{eqb-true, lt-ltb, ltb-true}
use Rattle.std.proofs.lemmas.List.FromFn.{get_or-range_with_len, length-range_with_len}
use Rattle.fc_newmap.specs.Map.{Map, runs_of, zone_numbers}
use Rattle.fc_newmap.specs.NewMap.{IsNewMap}
use Rattle.fc_newmap.proofs.HeldLemmas.{geometry_facts}
use Rattle.fc_image.proofs.EntriesLemmas.{from_filter, in_filter}
use Rattle.fc_plan.specs.declared.plan.Part.{Part}
use Rattle.fc_plan.specs.declared.plan.Plan.{Plan}
use Rattle.fc_plan.specs.Giving.{has_run_of, is_one_of}
use Rattle.fc_plan.specs.Parts.{fronts, has_part}
use Rattle.fc_safe.specs.Zones.{is_turned, zones_of_plans}
use Rattle.fc_safe.proofs.ListLemmas.{passes, same_test}
use Rattle.fc_safe.proofs.SetLemmas.{of_one, one_of}

pub ones_append : (xs ys : List ℕ) (n : ℕ) → is_one_of (xs ++ ys) n ≡ (is_one_of xs n || is_one_of ys n)
ones_append [] ys n = refl
ones_append (x ∷ xs) ys n = ap (λ (b : Bool). (x == n) || b) (ones_append xs ys n) ∙ by (x == n) (is_one_of xs n) (is_one_of ys n)
  where
    by : (a b c : Bool) → (a || (b || c)) ≡ ((a || b) || c)
    by true b c = refl
    by false b c = refl

-- a number of a range that passes a test
pub in_range : (t : ℕ → Bool) (n z : ℕ) → is_one_of (filter t (range_with_len 0 n)) z ≡ (nat_lt z n && t z)
in_range t n z = same_test (is_one_of (filter t (range_with_len 0 n)) z) (nat_lt z n && t z) there back
  where
    both : (a b : Bool) → a ≡ true → b ≡ true → (a && b) ≡ true
    both true b e f = f
    both false b e f = absurd (cc)

    parts : (a b : Bool) → (a && b) ≡ true → (a ≡ true) × (b ≡ true)
    parts true b e = (refl, e)
    parts false b e = absurd (cc)

    there : is_one_of (filter t (range_with_len 0 n)) z ≡ true → (nat_lt z n && t z) ≡ true
    there h =
        let at = of_one (filter t (range_with_len 0 n)) z h in
        let r = from_filter t (range_with_len 0 n) z at in
        let low : r.0 < n = (let l = r.1 in omega (arith, l, length-range_with_len 0 n)) in
        let here = get_or-range_with_len 0 n r.0 z low in
        both (nat_lt z n) (t z) (lt-ltb z n (let e = r.2 in omega (arith, low, here, e))) (passes t (range_with_len 0 n) z at)

    back : (nat_lt z n && t z) ≡ true → is_one_of (filter t (range_with_len 0 n)) z ≡ true
    back h =
        let r = parts (nat_lt z n) (t z) h in
        let low = ltb-true z n r.0 in
        one_of (filter t (range_with_len 0 n)) z
        (in_filter t (range_with_len 0 n) z (z, (let e : z < length (range_with_len 0 n) = omega (arith, low, length-range_with_len 0 n) in e), get_or-range_with_len 0 n z z low ∙ omega arith) r.1)

zone_of_part : (z : ℕ) (parts : List Part) → is_one_of (map (λ (p : Part). p.zone) parts) z ≡ has_part (fronts parts) z
zone_of_part z [] = refl
zone_of_part z (p ∷ parts) = ap (λ (b : Bool). (p.zone == z) || b) (zone_of_part z parts)

pub zone_of_plan : (z : ℕ) (plans : List Plan) → is_one_of (zones_of_plans plans) z ≡ list_any (λ (p : Plan). has_part (fronts p.parts.items) z) plans
zone_of_plan z [] = refl
zone_of_plan z (p ∷ plans) =
    ones_append (map (λ (q : Part). q.zone) p.parts.items) (zones_of_plans plans) z ∙ ap₂ (λ (a b : Bool). a || b) (zone_of_part z p.parts.items) (zone_of_plan z plans)

-- ---- all of them

module _ (m : Map) (is : IsNewMap m) (plans : List Plan) (gone : List ℕ) (root : Bool) (low : (z : ℕ) → is_one_of (zones_of_plans plans) z ≡ true → z < m.geometry.zones) where
  some_zone : 0 < m.geometry.zones
  some_zone = (geometry_facts m.geometry is.of_record).zones

  pub zones_turned_same : (all : List ℕ) → all ≡ (filter (λ (z : ℕ). has_run_of gone (runs_of m z)) (zone_numbers m.geometry) ++ zones_of_plans plans) ++ cond root (0 ∷ []) [] → (z : ℕ) → is_one_of all z ≡ is_turned m plans gone root z
  zones_turned_same all are z =
      ap (λ (xs : List ℕ). is_one_of xs z) are
      ∙ ones_append (filter (λ (z : ℕ). has_run_of gone (runs_of m z)) (zone_numbers m.geometry) ++ zones_of_plans plans) (cond root (0 ∷ []) []) z
      ∙ ap₂ (λ (a b : Bool). a || b)
      (ones_append (filter (λ (z : ℕ). has_run_of gone (runs_of m z)) (zone_numbers m.geometry)) (zones_of_plans plans) z
      ∙ ap₂ (λ (a b : Bool). a || b) (in_range (λ (z : ℕ). has_run_of gone (runs_of m z)) m.geometry.zones z) (zone_of_plan z plans))
      (root_zone root)
      ∙ by (nat_lt z m.geometry.zones) (has_run_of gone (runs_of m z)) (list_any (λ (p : Plan). has_part (fronts p.parts.items) z) plans) (root && (z == 0))
      (λ h. lt-ltb z m.geometry.zones (low z (zone_of_plan z plans ∙ h)))
      (λ h. lt-ltb z m.geometry.zones (let e = eqb-true z 0 (second root (z == 0) h) in let some = some_zone in omega (arith, e, some)))
    where
      second : (a b : Bool) → (a && b) ≡ true → b ≡ true
      second true b e = e
      second false b e = absurd (cc)

      turn : (0 == z) ≡ (z == 0)
      turn = same_test (0 == z) (z == 0) (λ h. eq-eqb z 0 (sym (eqb-true 0 z h))) (λ h. eq-eqb 0 z (sym (eqb-true z 0 h)))

      root_zone : (b : Bool) → is_one_of (cond b (0 ∷ []) []) z ≡ (b && (z == 0))
      root_zone true = or_false (0 == z) ∙ turn
        where
          or_false : (b : Bool) → (b || false) ≡ b
          or_false true = refl
          or_false false = refl
      root_zone false = refl

      by : (a f p r : Bool) → (p ≡ true → a ≡ true) → (r ≡ true → a ≡ true) → (((a && f) || p) || r) ≡ (a && ((p || f) || r))
      by true true true r g h = refl
      by true true false r g h = refl
      by true false true r g h = refl
      by true false false r g h = refl
      by false f true r g h = absurd (let e = g refl in cc)
      by false f false true g h = absurd (let e = h refl in cc)
      by false f false false g h = refl
