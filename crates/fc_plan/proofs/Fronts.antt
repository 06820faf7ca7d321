-- Parts as the fronts of holes, and the searches among parts that rise.
use Rattle.std.proofs.Common.{◌≡◌, ◌<◌, ◌≤◌, ◌&&◌, ◌==◌, ◌⊎◌, ℕ, zero, suc, ◌+◌, Bool, true, false, cond, List, [], ◌∷◌, ◌++◌, length, map, get_or, Contains, Option, Some, None, refl, sym, ap, ap₂, subst, ◌∙◌, inl, inr, arith, eq-eqb}
use Rattle.std.specs.Prelude.{AllPairs, ◌||◌, is_none, nat_lt, not}
use Rattle.std.specs.List.{find}
use Rattle.std.specs.List.Sorted.{IsPartitionedBy, IsPartitionPoint}
use Rattle.std.proofs.Math.ListN.{get_or-map as get_or-front}
use Rattle.std.proofs.lemmas.Bool.{cases_eq, cases_lt, eqb-true, ne_eqb, and_parts, lt-ltb, ltb-true, ltb-false, cases_Bool as either_test}
use Rattle.std.proofs.lemmas.List.{get_or-map, length-map}
use Rattle.std.proofs.lemmas.List.Elements.{All-map}
use Rattle.std.proofs.lemmas.List.Sums.{sum_by-cons}
use Rattle.fc_record.specs.declared.Geometry.{Geometry}
use Rattle.fc_zone.specs.declared.Run.{Run}
use Rattle.fc_zone.specs.declared.RunKind.TheVariants.{Hole}
use Rattle.fc_newmap.specs.Map.{ZoneRun, bits_in}
use Rattle.fc_image.specs.effects.Placed.{BeginsBefore, HasRunLength, IsPlan, holes_left, left_behind, stands_at}
use Rattle.fc_plan.specs.declared.plan.Part.{Part}
use Rattle.fc_plan.specs.Parts.{begins_at, begins_before, front_at, fronts, has_part, part_of}
use Rattle.fc_plan.specs.Plan.{IsFrontOfOne}
use Rattle.fc_plan.proofs.Left.{count_at-positive}
use Rattle.fc_plan.proofs.Composed.{found_some}

-- ---- fronts of holes as parts, and back

abbrev pub as_hole : ZoneRun → ZoneRun
as_hole p = (p.0, record p.1 { kind = Hole })

pub fronts_of : (xs : List ZoneRun) → fronts (map part_of xs) ≡ map as_hole xs
fronts_of [] = refl
fronts_of (x ∷ xs) = ap (λ (ys : List ZoneRun). as_hole x ∷ ys) (fronts_of xs)

bits_as_holes : (xs : List ZoneRun) → bits_in (map as_hole xs) ≡ bits_in xs
bits_as_holes [] = refl
bits_as_holes (p ∷ xs) =
    sum_by-cons (λ (q : ZoneRun). q.1.len) (as_hole p) (map as_hole xs) ∙ ap (λ n. p.1.len + n) (bits_as_holes xs) ∙ sym (sum_by-cons (λ (q : ZoneRun). q.1.len) p xs)

plan_as_holes : (g : Geometry) (holes xs : List ZoneRun) (bits : ℕ) → IsPlan g holes bits xs → IsPlan g holes bits (map as_hole xs)
plan_as_holes g holes xs bits plan =
    let same = bits_as_holes xs in
    let count : length (map as_hole xs) ≡ length xs = length-map xs as_hole in
    record {
      taken = record {
        fronts = All-map (IsFrontOfOne g holes) as_hole xs (λ k d low. (let f = plan.taken.fronts k d low in (f.0, f.1, record { at_front = f.2.at_front; within = f.2.within; rest = f.2.rest })));
        enough = rw same plan.taken.enough;
        few_more = rw same plan.taken.few_more;
        fewest = rw count plan.taken.fewest;
      };
      long = All-map (HasRunLength g) as_hole xs (λ k d low. plan.long k d low);
      rising = λ i j d less low.
          let within : j < length xs = omega arith in
          subst (λ (p : ZoneRun). BeginsBefore p (get_or (map as_hole xs) j d)) (sym (get_or-map as_hole xs i d d (omega arith)))
          (subst (λ (q : ZoneRun). BeginsBefore (as_hole (get_or xs i d)) q) (sym (get_or-map as_hole xs j d d within)) (plan.rising i j d less within));
    }

pub plan_of_fronts : (g : Geometry) (holes xs : List ZoneRun) (parts : List Part) (bits : ℕ) → parts ≡ map part_of xs → IsPlan g holes bits xs → IsPlan g holes bits (fronts parts)
plan_of_fronts g holes xs parts bits is plan =
    subst (λ (ys : List ZoneRun). IsPlan g holes bits ys) (sym (ap fronts is ∙ fronts_of xs)) (plan_as_holes g holes xs bits plan)

found_as_hole : (hole : ZoneRun) (xs : List ZoneRun) → left_behind hole (find (stands_at hole) (map as_hole xs)) ≡ left_behind hole (find (stands_at hole) xs)
found_as_hole hole [] = refl
found_as_hole hole (x ∷ xs) = by (stands_at hole x) (found_as_hole hole xs)
  where
    by : (b : Bool) → left_behind hole (find (stands_at hole) (map as_hole xs)) ≡ left_behind hole (find (stands_at hole) xs)
        → left_behind hole (cond b (Some (as_hole x)) (find (stands_at hole) (map as_hole xs))) ≡ left_behind hole (cond b (Some x) (find (stands_at hole) xs))
    by true h = refl
    by false h = h

left_as_holes : (holes xs : List ZoneRun) → holes_left holes (map as_hole xs) ≡ holes_left holes xs
left_as_holes [] xs = refl
left_as_holes (h ∷ holes) xs = ap₂ (λ (a b : List ZoneRun). a ++ b) (found_as_hole h xs) (left_as_holes holes xs)

pub left_of_fronts : (holes xs : List ZoneRun) (parts : List Part) → parts ≡ map part_of xs → holes_left holes (fronts parts) ≡ holes_left holes xs
left_of_fronts holes xs parts is = ap (holes_left holes) (ap fronts is ∙ fronts_of xs) ∙ left_as_holes holes xs

-- a part more
pub part_more : (parts : List ZoneRun) (p : ZoneRun) (z : ℕ) → has_part (parts ++ p ∷ []) z ≡ false → (has_part parts z ≡ false) × (p.0 ≡ z → ⊥)
part_more [] p z e = (refl, λ same. (let h : (p.0 == z || false) ≡ true = ap (λ (b : Bool). b || false) (eq-eqb p.0 z same) in let no : true ≡ false = sym h ∙ e in cc))
part_more (x ∷ parts) p z e = by (x.0 == z) refl e (part_more parts p z)
  where
    by : (b : Bool) → (x.0 == z) ≡ b → (b || has_part (parts ++ p ∷ []) z) ≡ false → (has_part (parts ++ p ∷ []) z ≡ false → (has_part parts z ≡ false) × (p.0 ≡ z → ⊥)) → (has_part (x ∷ parts) z ≡ false) × (p.0 ≡ z → ⊥)
    by true t h more = absurd (cc)
    by false t h more = (let r = more h in (ap (λ (b : Bool). b || has_part parts z) t ∙ r.0, r.1))

-- ---- parts that rise

eqb_sym : (a b : ℕ) → (a == b) ≡ (b == a)
eqb_sym a b = elim (cases_eq a b) [
  | inl e ↦ eq-eqb a b e ∙ sym (eq-eqb b a (sym e))
  | inr n ↦ ne_eqb a b n ∙ sym (ne_eqb b a (λ e. n (sym e)))
]

turned : (z start : ℕ) (run : Run) → run.start ≡ start → (q : Part) → stands_at (z, run) (front_at q) ≡ begins_at z start q
turned z start run e q = ap₂ (λ (a b : Bool). a && b) (eqb_sym z q.zone) (ap (λ (s : ℕ). s == q.start) e ∙ eqb_sym start q.start)

before_true : (z start : ℕ) (q : Part) → begins_before z start q ≡ true → (q.zone < z) ⊎ ((q.zone ≡ z) × (q.start < start))
before_true z start q e = by (nat_lt q.zone z) refl (q.zone == z) refl (nat_lt q.start start) refl e
  where
    by : (a : Bool) → nat_lt q.zone z ≡ a → (b : Bool) → (q.zone == z) ≡ b → (c : Bool) → nat_lt q.start start ≡ c → (a || (b && c)) ≡ true → (q.zone < z) ⊎ ((q.zone ≡ z) × (q.start < start))
    by true ea b eb c ec h = inl (ltb-true q.zone z ea)
    by false ea true eb true ec h = inr (eqb-true q.zone z eb, ltb-true q.start start ec)
    by false ea true eb false ec h = absurd (cc)
    by false ea false eb c ec h = absurd (cc)

before_from : (z start : ℕ) (q : Part) → (q.zone < z) ⊎ ((q.zone ≡ z) × (q.start < start)) → begins_before z start q ≡ true
before_from z start q (inl less) = ap (λ (b : Bool). b || ((q.zone == z) && nat_lt q.start start)) (lt-ltb q.zone z less)
before_from z start q (inr (same, less)) =
    ap₂ (λ (b c : Bool). nat_lt q.zone z || (b && c)) (eq-eqb q.zone z same) (lt-ltb q.start start less) ∙ or_true (nat_lt q.zone z)
  where
    or_true : (b : Bool) → (b || true) ≡ true
    or_true true = refl
    or_true false = refl

find_never : (p : ZoneRun) (xs : List Part) → ((k : ℕ) (d : Part) → k < length xs → stands_at p (front_at (get_or xs k d)) ≡ true → ⊥) → find (stands_at p) (fronts xs) ≡ None
find_never p [] never = refl
find_never p (x ∷ xs) never = elim (either_test (stands_at p (front_at x))) [
  | inl here ↦ absurd (never 0 x (omega arith) here)
  | inr other ↦ ap (λ (b : Bool). cond b (Some (front_at x)) (find (stands_at p) (fronts xs))) other ∙ find_never p xs (λ k d low. never (suc k) d (omega arith))
]

any_never : (z : ℕ) (xs : List Part) → ((k : ℕ) (d : Part) → k < length xs → (get_or xs k d).zone ≡ z → ⊥) → has_part (fronts xs) z ≡ false
any_never z [] never = refl
any_never z (x ∷ xs) never = ap₂ (λ (a b : Bool). a || b) (ne_eqb x.zone z (never 0 x (omega arith))) (any_never z xs (λ k d low. never (suc k) d (omega arith)))

any_at : (z : ℕ) (xs : List Part) (k : ℕ) (d : Part) → k < length xs → (get_or xs k d).zone ≡ z → has_part (fronts xs) z ≡ true
any_at z [] k d low e = absurd (omega arith)
any_at z (x ∷ xs) zero d low e = ap (λ (b : Bool). b || has_part (fronts xs) z) (eq-eqb x.zone z e)
any_at z (x ∷ xs) (suc k) d low e = ap (λ (b : Bool). (x.zone == z) || b) (any_at z xs k d (omega arith) e) ∙ or_true (x.zone == z)
  where
    or_true : (b : Bool) → (b || true) ≡ true
    or_true true = refl
    or_true false = refl

contains_front : (xs : List Part) (k : ℕ) (d : Part) → k < length xs → Contains (fronts xs) (front_at (get_or xs k d))
contains_front [] k d low = absurd (omega arith)
contains_front (x ∷ xs) zero d low = (0, omega arith, refl)
contains_front (x ∷ xs) (suc k) d low = let r = contains_front xs k d (omega arith) in (suc r.0, (let l = r.1 in omega arith), r.2)

any_default : (xs : List Part) (k : ℕ) (a b : Part) → k < length xs → get_or xs k a ≡ get_or xs k b
any_default [] k a b low = absurd (omega arith)
any_default (x ∷ xs) zero a b low = refl
any_default (x ∷ xs) (suc k) a b low = any_default xs k a b (omega arith)

module _ (parts : List Part) (rising : AllPairs BeginsBefore (fronts parts)) where
  pair : (i j : ℕ) (d : Part) → i < j → j < length parts → BeginsBefore (front_at (get_or parts i d)) (front_at (get_or parts j d))
  pair i j d less low =
      let within : j < length (fronts parts) = omega (arith, length-map parts front_at) in
      subst (λ (p : ZoneRun). BeginsBefore p (front_at (get_or parts j d))) (get_or-front front_at parts i d)
      (subst (λ (q : ZoneRun). BeginsBefore (get_or (fronts parts) i (front_at d)) q) (get_or-front front_at parts j d) (rising i j (front_at d) less within))

  module _ (z start : ℕ) where
    pub partitioned : IsPartitionedBy (begins_before z start) parts
    partitioned i j d le low e = elim (cases_eq i j) [
      | inl same ↦ ap (λ (k : ℕ). begins_before z start (get_or parts k d)) same ∙ e
      | inr other ↦ before_from z start (get_or parts i d) (earlier (get_or parts i d) (get_or parts j d) (pair i j d (let l : i < j = less_of i j le other in l) low) (before_true z start (get_or parts j d) e))
    ]
      where
        less_of : (i j : ℕ) → i ≤ j → (i ≡ j → ⊥) → i < j
        less_of i j le ne = elim (cases_lt i j) [ inl less ↦ less | inr more ↦ absurd (ne (omega arith)) ]

        earlier : (a b : Part) → BeginsBefore (front_at a) (front_at b) → (b.zone < z) ⊎ ((b.zone ≡ z) × (b.start < start)) → (a.zone < z) ⊎ ((a.zone ≡ z) × (a.start < start))
        earlier a b (inl x) (inl y) = inl (omega arith)
        earlier a b (inl x) (inr (y, w)) = inl (omega arith)
        earlier a b (inr (e, x)) (inl y) = inl (omega arith)
        earlier a b (inr (e, x)) (inr (y, w)) = inr (e ∙ y, omega arith)

    module _ (run : Run) (at : run.start ≡ start) (i : ℕ) (cut : IsPartitionPoint (λ (y : Part). begins_before z start y ≡ true) (λ (y : Part). begins_before z start y ≡ false) parts i) where
      abbrev place : ZoneRun
      place = (z, run)

      spot : (q : Part) → stands_at place (front_at q) ≡ true → (q.zone ≡ z) × (q.start ≡ start)
      spot q e = let h = and_parts (q.zone == z) (q.start == start) (sym (turned z start run at q) ∙ e) in (eqb-true q.zone z h.0, eqb-true q.start start h.1)

      not_before : (k : ℕ) (d : Part) → k < i → stands_at place (front_at (get_or parts k d)) ≡ true → ⊥
      not_before k d low e = no (get_or parts k d) (before_true z start (get_or parts k d) (cut.0 k d (omega arith) low)) (spot (get_or parts k d) e)
        where
          no : (q : Part) → (q.zone < z) ⊎ ((q.zone ≡ z) × (q.start < start)) → (q.zone ≡ z) × (q.start ≡ start) → ⊥
          no q (inl x) y = omega (arith, y.0)
          no q (inr (e, x)) y = omega (arith, y.1)

      not_after : (k : ℕ) (d : Part) → i < k → k < length parts → stands_at place (front_at (get_or parts k d)) ≡ true → ⊥
      not_after k d more low e =
          let first = get_or parts i d in
          let is = spot (get_or parts k d) e in
          let less = before_of (get_or parts i d) (get_or parts k d) (pair i k d more low) is in
          let no : true ≡ false = sym (before_from z start first less) ∙ cut.1 i d (omega arith) (omega arith) in
          cc
        where
          before_of : (a b : Part) → BeginsBefore (front_at a) (front_at b) → (b.zone ≡ z) × (b.start ≡ start) → (a.zone < z) ⊎ ((a.zone ≡ z) × (a.start < start))
          before_of a b (inl x) y = inl (omega (arith, y.0))
          before_of a b (inr (e, x)) y = inr (e ∙ y.0, omega (arith, y.1))

      elsewhere_then : (d : Part) → i < length parts → stands_at place (front_at (get_or parts i d)) ≡ false → (k : ℕ) (e : Part) → k < length parts → stands_at place (front_at (get_or parts k e)) ≡ true → ⊥
      elsewhere_then d low other k e in' there = elim (cases_lt k i) [
        | inl less ↦ not_before k e less there
        | inr more ↦ elim (cases_lt i k) [
          | inl past ↦ not_after k e past in' there
          | inr back ↦ (
              let at : k ≡ i = omega arith in
              let same : get_or parts k e ≡ get_or parts i d = ap (λ (j : ℕ). get_or parts j e) at ∙ any_default parts i e d low in
              let no : true ≡ false = sym there ∙ ap (λ (p : Part). stands_at place (front_at p)) same ∙ other in
              cc)
        ]
      ]

      pub front_there : (d : Part) → i < length parts → begins_at z start (get_or parts i d) ≡ not (is_none (find (stands_at place) (fronts parts)))
      front_there d low = sym (turned z start run at (get_or parts i d)) ∙ elim (either_test (stands_at place (front_at (get_or parts i d)))) [
        | inl here ↦ here ∙ sym (ap (λ (o : Option ZoneRun). not (is_none o)) (found_some place (fronts parts) (count_at-positive place (front_at (get_or parts i d)) (fronts parts) (contains_front parts i d low) here)).1)
        | inr other ↦ other ∙ sym (ap (λ (o : Option ZoneRun). not (is_none o)) (find_never place parts (elsewhere_then d low other)))
      ]

      pub front_nowhere : length parts ≤ i → false ≡ not (is_none (find (stands_at place) (fronts parts)))
      front_nowhere past = sym (ap (λ (o : Option ZoneRun). not (is_none o)) (find_never place parts (λ k d low there. not_before k d (omega arith) there)))

  -- ---- by zones

  zone_le : (i j : ℕ) (d : Part) → i < j → j < length parts → (get_or parts i d).zone ≤ (get_or parts j d).zone
  zone_le i j d less low = go (get_or parts i d) (get_or parts j d) (pair i j d less low)
    where
      go : (a b : Part) → BeginsBefore (front_at a) (front_at b) → a.zone ≤ b.zone
      go a b (inl x) = omega arith
      go a b (inr (e, x)) = omega arith

  module _ (z : ℕ) where
    pub partitioned_by_zone : IsPartitionedBy (λ (q : Part). nat_lt q.zone z) parts
    partitioned_by_zone i j d le low e = elim (cases_lt i j) [
      | inl less ↦ lt-ltb (get_or parts i d).zone z (let a = zone_le i j d less low in let b = ltb-true (get_or parts j d).zone z e in omega arith)
      | inr more ↦ (let same : i ≡ j = omega arith in ap (λ (k : ℕ). nat_lt (get_or parts k d).zone z) same ∙ e)
    ]

    module _ (i : ℕ) (cut : IsPartitionPoint (λ (q : Part). nat_lt q.zone z ≡ true) (λ (q : Part). nat_lt q.zone z ≡ false) parts i) where
      pub zone_there : (d : Part) → i < length parts → ((get_or parts i d).zone == z) ≡ has_part (fronts parts) z
      zone_there d low = elim (cases_eq (get_or parts i d).zone z) [
        | inl same ↦ eq-eqb (get_or parts i d).zone z same ∙ sym (any_at z parts i d low same)
        | inr other ↦ ne_eqb (get_or parts i d).zone z other ∙ sym (any_never z parts (λ k e in' there. never k e in' there other))
      ]
        where
          never : (k : ℕ) (e : Part) → k < length parts → (get_or parts k e).zone ≡ z → ((get_or parts i d).zone ≡ z → ⊥) → ⊥
          never k e in' there other = elim (cases_lt k i) [
            | inl less ↦ (let low = ltb-true (get_or parts k e).zone z (cut.0 k e (omega arith) less) in omega arith)
            | inr more ↦ elim (cases_lt i k) [
              | inl past ↦ (
                  let high = zone_le i k d past in' in
                  let here : get_or parts k d ≡ get_or parts k e = any_default parts k d e in' in
                  let same : (get_or parts k d).zone ≡ z = ap (λ (p : Part). p.zone) here ∙ there in
                  let le : z ≤ (get_or parts i d).zone = ltb-false (get_or parts i d).zone z (cut.1 i d (omega arith) (omega arith)) in
                  other (omega arith))
              | inr back ↦ (
                  let at : k ≡ i = omega arith in
                  other (ap (λ (p : Part). p.zone) (any_default parts i d e (omega arith)) ∙ ap (λ (j : ℕ). (get_or parts j e).zone) (sym at) ∙ there))
            ]
          ]

      pub zone_nowhere : length parts ≤ i → false ≡ has_part (fronts parts) z
      zone_nowhere past = sym (any_never z parts (λ k d low there. (let less = ltb-true (get_or parts k d).zone z (cut.0 k d (omega arith) (omega arith)) in omega arith)))

      pub zone_next : (d : Part) → i < length parts → z ≤ (get_or parts i d).zone
      zone_next d low = ltb-false (get_or parts i d).zone z (cut.1 i d (omega arith) low)

      -- none lies in the zones from there to that of the next part
      pub zone_none : (y : ℕ) (d : Part) → z ≤ y → (i < length parts → y < (get_or parts i d).zone) → has_part (fronts parts) y ≡ false
      zone_none y d from early = any_never y parts (λ k e in' there. elim (cases_lt k i) [
        | inl less ↦ (let low = ltb-true (get_or parts k e).zone z (cut.0 k e (omega arith) less) in omega arith)
        | inr more ↦ (
            let next = early (omega arith) in
            let same : (get_or parts i d).zone ≡ (get_or parts i e).zone = ap (λ (p : Part). p.zone) (any_default parts i d e (omega arith)) in
            elim (cases_lt i k) [
              | inl past ↦ (let high = zone_le i k e past in' in omega arith)
              | inr back ↦ (let at : (get_or parts k e).zone ≡ (get_or parts i e).zone = ap (λ (j : ℕ). (get_or parts j e).zone) (let f : k ≡ i = omega arith in f) in omega arith)
            ])
      ])
