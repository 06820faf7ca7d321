-- Runs that are passed one after another, and identifiers that are joined.
use Rattle.std.proofs.Common.{◌≡◌, ◌<◌, ◌≤◌, ◌⊎◌, inl, inr, ℕ, zero, suc, ◌+◌, Bool, true, false, cond, List, [], ◌∷◌, ◌++◌, length, length-append, take, get_or, refl, sym, ap, subst, ◌∙◌, arith}
use Rattle.std.specs.Prelude.{Option, Some, Contains, ◌==◌, ◌||◌, ◌&&◌, nat_le, nat_lt}
use Rattle.std.specs.List.{list_any}
use Rattle.std.proofs.lemmas.Bool.{cases_eq, cases_lt, eqb-true, lt-ltb, le-ltb, lt-leb, and_parts as both_true, or_parts as neither}
use Rattle.std.proofs.lemmas.List.{take_all, take_more}
use Rattle.std.proofs.lemmas.List.Elements.{Contains-append_cases, Contains-get_or, Contains-push_cases}
use Rattle.std.proofs.lemmas.List.Sums.{sum_by-append, sum_by-cons}
use Rattle.fc_zone.specs.declared.Run.{Run}
use Rattle.fc_zone.specs.declared.RunKind.TheVariants.{Id}
use Rattle.fc_record.specs.declared.Geometry.{Geometry}
use Rattle.fc_newmap.specs.Map.{Map, ZoneRun, all_runs, bits_in, has_id, hole_runs, id_runs, is_used, longest}
use Rattle.fc_newmap.specs.NewMap.{IsNewMap}
use Rattle.fc_newmap.proofs.HeldLemmas.{geometry_facts}
use Rattle.fc_newmap.proofs.PlaceLemmas.{id_run_in, in_id_runs}
use Rattle.fc_alloc.specs.declared.owner.Owner.{Owner}
use Rattle.fc_alloc.specs.Owners.{is_id_owned}
use Rattle.fc_image.specs.effects.Placed.{front_of}
use Rattle.fc_image.specs.effects.Settled.{KeepsBits, can_join, zones_with}
use Rattle.fc_compact.specs.Candidates.{Tries, run_count}
use Rattle.fc_compact.specs.Longest.{IsLongest}
use Rattle.fc_compact.specs.Ready.{is_movable_by}
use Rattle.fc_compact.specs.Settlement.{one_if}
use Rattle.fc_compact.specs.Steps.{Leads, Packs}
use Rattle.fc_compact.proofs.FoundLemmas.{or_true}
use Rattle.fc_compact.proofs.HoldLemmas.{id_bits_long, id_run_between, id_run_low, some_first, some_min}
use Rattle.fc_compact.proofs.PacksLemmas.{packs_none}

-- ---- counts

pub long_more : (xs : List ZoneRun) (p : ZoneRun) → length (xs ++ p ∷ []) ≡ length xs + 1
long_more xs p = length-append xs (p ∷ [])

pub bits_more : (xs : List ZoneRun) (p : ZoneRun) → bits_in (xs ++ p ∷ []) ≡ bits_in xs + p.1.len
bits_more xs p =
    let all = sum_by-append (λ (q : ZoneRun). q.1.len) xs (p ∷ []) in
    let one = sum_by-cons (λ (q : ZoneRun). q.1.len) p [] in
    omega (arith, all, one)

pub bits_front : (xs : List ZoneRun) (p : ZoneRun) (ys : List ZoneRun) → bits_in xs + p.1.len ≤ bits_in (xs ++ p ∷ ys)
bits_front xs p ys =
    let all = sum_by-append (λ (q : ZoneRun). q.1.len) xs (p ∷ ys) in
    let one = sum_by-cons (λ (q : ZoneRun). q.1.len) p ys in
    omega (arith, all, one)

-- ---- tests of three parts

pub not_second : (a b : Bool) → b ≡ false → false ≡ (a && b)
not_second true b e = sym e
not_second false b e = refl

first_not : (a b c : Bool) → a ≡ false → ((a && b) && c) ≡ false
first_not a b c e = ap (λ (x : Bool). (x && b) && c) e

outer_not : (a b c : Bool) → (a && c) ≡ false → ((a && b) && c) ≡ false
outer_not true true c e = e
outer_not true false c e = refl
outer_not false b c e = refl

middle_not : (a b c : Bool) → b ≡ false → ((a && b) && c) ≡ false
middle_not true b c e = ap (λ (x : Bool). x && c) e
middle_not false b c e = refl

-- ---- one identifier

module _ (m : Map) (is : IsNewMap m) (id : ℕ) where
  min_some : 0 < length (id_runs m id) → (0 < m.geometry.min) × (m.geometry.min ≤ bits_in (id_runs m id))
  min_some some =
      let first = some_first (id_runs m id) some in
      let there : Contains (id_runs m id) first.0 = subst (λ (l : List ZoneRun). Contains l first.0) (sym first.2) (0, omega arith, refl) in
      let between = id_run_between m is id first.0 there in
      (some_min m is first.0.0 (id_run_low m is id first.0 there) between.0 between.1 first.0.1 between.2, id_bits_long m is id first.0 first.1 first.2)

  pub one_run : length (id_runs m id) ≤ 1 → can_join m id ≡ false
  one_run one = first_not (nat_lt 1 (length (id_runs m id))) (nat_le (length (zones_with m id)) 8) (nat_le (bits_in (id_runs m id)) (longest (hole_runs m))) (le-ltb 1 (length (id_runs m id)) one)

  pub no_hole : hole_runs m ≡ [] → can_join m id ≡ false
  no_hole none = elim (cases_lt 1 (length (id_runs m id))) [
    | inl several ↦ (
        let least = min_some (omega (arith, several)) in
        let zero : longest (hole_runs m) ≡ 0 = ap longest none in
        sym (not_second (nat_lt 1 (length (id_runs m id)) && nat_le (length (zones_with m id)) 8) (nat_le (bits_in (id_runs m id)) (longest (hole_runs m)))
        (lt-leb (bits_in (id_runs m id)) (longest (hole_runs m)) (omega (arith, zero, least.0, least.1)))))
    | inr one ↦ one_run one
  ]

  pub no_room : (n : ℕ) → n ≡ longest (hole_runs m) → (nat_lt 1 (length (id_runs m id)) && nat_le (bits_in (id_runs m id)) n) ≡ false → can_join m id ≡ false
  no_room n e none =
      outer_not (nat_lt 1 (length (id_runs m id))) (nat_le (length (zones_with m id)) 8) (nat_le (bits_in (id_runs m id)) (longest (hole_runs m)))
      (ap (λ (k : ℕ). nat_lt 1 (length (id_runs m id)) && nat_le (bits_in (id_runs m id)) k) (sym e) ∙ none)

  pub too_many : nat_le (length (zones_with m id)) 8 ≡ false → can_join m id ≡ false
  too_many none = middle_not (nat_lt 1 (length (id_runs m id))) (nat_le (length (zones_with m id)) 8) (nat_le (bits_in (id_runs m id)) (longest (hole_runs m))) none

-- the identifier can't be joined
pub tries_none : (owners : List Owner) (m : Map) → IsNewMap m → (id : ℕ) → (is_movable_by owners id ≡ true → can_join m id ≡ false) → Tries owners m m id false
tries_none owners m is id never = record { packs = packs_none owners m is; same = λ e. refl; none = λ e may. never may; fewer = λ e. absurd (cc) }

-- ---- one identifier that is joined

module _ (owners : List Owner) (m m' : Map) (id zone : ℕ) (hole : Run) (leads : Leads owners m m') (several : 1 < length (id_runs m id)) (fits : bits_in (id_runs m id) ≤ hole.len)
    (one : id_runs m' id ≡ (zone, record (front_of m.geometry (bits_in (id_runs m id)) (zone, hole)).1 { kind = Id id }) ∷ [])
    (others : (k : ℕ) → (k ≡ id → ⊥) → id_runs m' k ≡ id_runs m k) where
  pub joined_bits : KeepsBits m m' id
  joined_bits =
      let least = min_some m leads.was id (omega (arith, several)) in
      let sum = sum_by-cons (λ (q : ZoneRun). q.1.len) (zone, record (front_of m.geometry (bits_in (id_runs m id)) (zone, hole)).1 { kind = Id id }) [] in
      by (bits_in (id_runs m id)) fits least.0 (length (id_runs m id)) several (bits_in (id_runs m' id)) (length (id_runs m' id)) (ap length one) (ap bits_in one ∙ sum)
    where
      by : (bits : ℕ) → bits ≤ hole.len → 0 < m.geometry.min → (long : ℕ) → 1 < long → (now len : ℕ) → len ≡ 1
          → now ≡ (front_of m.geometry bits (zone, hole)).1.len + 0
          → (now ≡ bits) ⊎ ((1 < long) × (len ≡ 1) × (bits ≤ now) × (now < bits + m.geometry.min))
      by bits fit least long more now len single e = elim (cases_lt hole.len (bits + m.geometry.min)) [
        | inl less ↦ (
            let f : now ≡ hole.len = e ∙ (let z : (front_of m.geometry bits (zone, hole)).1.len + 0 ≡ (front_of m.geometry bits (zone, hole)).1.len = omega arith in z)
            ∙ ap (λ (b : Bool). let p : ZoneRun = cond b (zone, hole) (zone, record hole { len = bits }) in p.1.len) (lt-ltb hole.len (bits + m.geometry.min) less) in
            inr (more, single, omega (arith, f, fit), omega (arith, f, less)))
        | inr ge ↦ inl (
            e ∙ (let z : (front_of m.geometry bits (zone, hole)).1.len + 0 ≡ (front_of m.geometry bits (zone, hole)).1.len = omega arith in z)
            ∙ ap (λ (b : Bool). let p : ZoneRun = cond b (zone, hole) (zone, record hole { len = bits }) in p.1.len) (le-ltb hole.len (bits + m.geometry.min) ge))
      ]

  pub tries_joined : is_movable_by owners id ≡ true → Tries owners m m' id true
  tries_joined may =
      let single : length (id_runs m' id) ≡ 1 = ap length one in
      record {
        packs = record {
          leads = leads;
          bits = λ k moves. elim (cases_eq k id) [
            | inl same ↦ subst (λ (j : ℕ). KeepsBits m m' j) (sym same) joined_bits
            | inr other ↦ inl (ap bits_in (others k other))
          ];
          runs = λ k moves. elim (cases_eq k id) [
            | inl same ↦ subst (λ (j : ℕ). length (id_runs m' j) ≤ length (id_runs m j)) (sym same) (omega (arith, single, several))
            | inr other ↦ (let e = ap length (others k other) in omega (arith, e))
          ];
          some = λ k moves had. elim (cases_eq k id) [
            | inl same ↦ subst (λ (j : ℕ). 0 < length (id_runs m' j)) (sym same) (omega (arith, single))
            | inr other ↦ (let e = ap length (others k other) in omega (arith, e, had))
          ];
        };
        same = λ e. absurd (cc);
        none = λ e. absurd (cc);
        fewer = λ e. (may, omega (arith, single, several));
      }

-- ---- the runs of all owners' identifiers

module _ (owners : List Owner) (m m' : Map) (packs : Packs owners m m') where
  shorter : (id : ℕ) → length (id_runs m' id) ≤ length (id_runs m id)
  shorter id = by (is_movable_by owners id) refl
    where
      by : (b : Bool) → is_movable_by owners id ≡ b → length (id_runs m' id) ≤ length (id_runs m id)
      by true e = packs.runs id e
      by false e = (let s = ap length (packs.leads.fixed id e) in omega (arith, s))

  count_more : (n : Map) (o : Owner) (list : List Owner) → run_count (o ∷ list) n ≡ length (id_runs n o.id) + run_count list n
  count_more n o list = sum_by-cons (λ (p : Owner). length (id_runs n p.id)) o list

  pub count_same : (list : List Owner) → run_count list m' ≤ run_count list m
  count_same [] = omega arith
  count_same (o ∷ list) = (let a = count_more m o list in let b = count_more m' o list in let s = shorter o.id in let r = count_same list in omega (arith, a, b, s, r))

  pub count_falls : (list : List Owner) (o : Owner) → Contains list o → length (id_runs m' o.id) < length (id_runs m o.id) → run_count list m' + 1 ≤ run_count list m
  count_falls [] o (k, h, e) less = absurd (omega arith)
  count_falls (x ∷ list) o (zero, h, e) less =
      let a = count_more m x list in
      let b = count_more m' x list in
      let r = count_same list in
      let l = subst (λ (y : Owner). length (id_runs m' y.id) < length (id_runs m y.id)) (sym e) less in
      omega (arith, a, b, l, r)
  count_falls (x ∷ list) o (suc k, h, e) less =
      let a = count_more m x list in
      let b = count_more m' x list in
      let s = shorter x.id in
      let r = count_falls list o (k, omega arith, e) less in
      omega (arith, a, b, s, r)

  -- no identifier is new
  pub none_new : (id : ℕ) → is_used m id ≡ false → is_used m' id ≡ false
  none_new id unused = by (is_used m' id) refl
    where
      there : (n : Map) (p : ZoneRun) → (ps : List ZoneRun) → Contains ps p → has_id id p.1.kind ≡ true → list_any (λ (q : ZoneRun). has_id id q.1.kind) ps ≡ true
      there n p [] (k, h, e) f = absurd (omega arith)
      there n p (x ∷ ps) (zero, h, e) f = ap (λ b. b || list_any (λ (q : ZoneRun). has_id id q.1.kind) ps) (ap (λ (q : ZoneRun). has_id id q.1.kind) e ∙ f)
      there n p (x ∷ ps) (suc k, h, e) f = ap (λ b. has_id id x.1.kind || b) (there n p ps (k, omega arith, e) f) ∙ or_true (has_id id x.1.kind)

      found : (ps : List ZoneRun) → list_any (λ (q : ZoneRun). has_id id q.1.kind) ps ≡ true → (p : ZoneRun) × (Contains ps p × (has_id id p.1.kind ≡ true))
      found [] e = absurd (cc)
      found (x ∷ ps) e = step (has_id id x.1.kind) refl e (λ more. found ps more)
        where
          step : (b : Bool) → has_id id x.1.kind ≡ b → (b || list_any (λ (q : ZoneRun). has_id id q.1.kind) ps) ≡ true
              → (list_any (λ (q : ZoneRun). has_id id q.1.kind) ps ≡ true → (p : ZoneRun) × (Contains ps p × (has_id id p.1.kind ≡ true)))
              → (p : ZoneRun) × (Contains (x ∷ ps) p × (has_id id p.1.kind ≡ true))
          step true g h more = (x, ((0, omega arith, refl), g))
          step false g h more = (let r = more h in (r.0, ((suc r.1.0.0, (let l = r.1.0.1 in omega arith), r.1.0.2), r.1.1)))

      some : 1 ≤ m.geometry.zones
      some = (geometry_facts m.geometry packs.leads.was.of_record).zones

      by : (b : Bool) → is_used m' id ≡ b → is_used m' id ≡ false
      by false e = e
      by true e = absurd (
          let f = found (all_runs m') e in
          let now = in_id_runs m' id f.0 (subst (λ (g : Geometry). 1 ≤ g.zones) (sym packs.leads.geometry) some) f.1.0 f.1.1 in
          let low = now.1 in
          let short = shorter id in
          let old = some_first (id_runs m id) (omega (arith, low, short)) in
          let was = id_run_in m id old.0 some (subst (λ (l : List ZoneRun). Contains l old.0) (sym old.2) (0, omega arith, refl)) in
          let used = there m old.0 (all_runs m) was.0 was.1 in
          cc)

-- ---- owners

pub owner_of : (id : ℕ) (owners : List Owner) → is_id_owned owners id ≡ true → (o : Owner) × (Contains owners o × (o.id ≡ id))
owner_of id [] e = absurd (cc)
owner_of id (x ∷ owners) e = by (x.id == id) refl e (λ more. owner_of id owners more)
  where
    by : (b : Bool) → (x.id == id) ≡ b → (b || is_id_owned owners id) ≡ true → (is_id_owned owners id ≡ true → (o : Owner) × (Contains owners o × (o.id ≡ id))) → (o : Owner) × (Contains (x ∷ owners) o × (o.id ≡ id))
    by true g h more = (x, ((0, omega arith, refl), eqb-true x.id id g))
    by false g h more = (let r = more h in (r.0, ((suc r.1.0.0, (let l = r.1.0.1 in omega arith), r.1.0.2), r.1.1)))

-- where no owner's identifier can be joined, none that may move can
pub all_tried : (owners : List Owner) (m : Map) → ((o : Owner) → Contains owners o → is_movable_by owners o.id ≡ true → can_join m o.id ≡ false) → (id : ℕ) → is_movable_by owners id ≡ true → can_join m id ≡ false
all_tried owners m each id may =
    let owned = (both_true (is_id_owned owners id) (nat_le 3 id) may).0 in
    let o = owner_of id owners owned in
    subst (λ (k : ℕ). can_join m k ≡ false) o.1.1 (each o.0 o.1.0 (subst (λ (k : ℕ). is_movable_by owners k ≡ true) (sym o.1.1) may))

-- ---- one owner more

module _ (owners list : List Owner) (m m' : Map) (i : ℕ) (low : i < length list) (d : Owner) (any joined r : Bool) (e : r ≡ (any || joined)) (tries : Tries owners m m' (get_or list i d).id joined) where
  pub falls_more : (base : ℕ) → run_count list m + one_if any ≤ base → run_count list m' + one_if r ≤ base
  falls_more base was = subst (λ (b : Bool). run_count list m' + one_if b ≤ base) (sym e) (by any joined refl was)
    where
      by : (a j : Bool) → joined ≡ j → run_count list m + one_if a ≤ base → run_count list m' + one_if (a || j) ≤ base
      by true true f h = (let c = count_falls owners m m' tries.packs list (get_or list i d) (Contains-get_or list i d low) (tries.fewer f).1 in omega (arith, c, h))
      by false true f h = (let c = count_falls owners m m' tries.packs list (get_or list i d) (Contains-get_or list i d low) (tries.fewer f).1 in omega (arith, c, h))
      by true false f h = (let c = count_same owners m m' tries.packs list in omega (arith, c, h))
      by false false f h = (let c = count_same owners m m' tries.packs list in omega (arith, c, h))

  pub same_more : (m0 : Map) → (any ≡ false → m ≡ m0) → r ≡ false → m' ≡ m0
  same_more m0 was f = let both = neither any joined (sym e ∙ f) in tries.same both.1 ∙ was both.0

  pub none_more : (any ≡ false → (o : Owner) → Contains (take i list) o → is_movable_by owners o.id ≡ true → can_join m o.id ≡ false)
      → r ≡ false → (o : Owner) → Contains (take (i + 1) list) o → is_movable_by owners o.id ≡ true → can_join m' o.id ≡ false
  none_more was f o there may =
      let both = neither any joined (sym e ∙ f) in
      let same = tries.same both.1 in
      ap (λ (n : Map). can_join n o.id) same
      ∙ elim (Contains-push_cases (take i list) (get_or list i d) o (subst (λ (l : List Owner). Contains l o) (take_more list i d low) there)) [
        | inl c ↦ was both.0 o c may
        | inr s ↦ subst (λ (x : Owner). can_join m x.id ≡ false) s (tries.none both.1 (subst (λ (x : Owner). is_movable_by owners x.id ≡ true) (sym s) may))
      ]

pub all_taken : (list : List Owner) (i : ℕ) → length list ≤ i → (o : Owner) → Contains list o → Contains (take i list) o
all_taken list i past o there = subst (λ (l : List Owner). Contains l o) (sym (take_all i list past)) there

-- ---- some owners more

both_counts : (m : Map) (xs ys : List Owner) → run_count (xs ++ ys) m ≡ run_count xs m + run_count ys m
both_counts m xs ys = sum_by-append (λ (o : Owner). length (id_runs m o.id)) xs ys

pub falls_part : (owners : List Owner) (m m' : Map) → Packs owners m m' → (front part rest : List Owner) (any joined r : Bool) (base : ℕ) → r ≡ (any || joined)
    → run_count part m' + one_if joined ≤ run_count part m → run_count (front ++ (part ++ rest)) m + one_if any ≤ base → run_count (front ++ (part ++ rest)) m' + one_if r ≤ base
falls_part owners m m' packs front part rest any joined r base e falls was =
    let one = both_counts m front (part ++ rest) in
    let two = both_counts m part rest in
    let three = both_counts m' front (part ++ rest) in
    let four = both_counts m' part rest in
    let low = count_same owners m m' packs front in
    let high = count_same owners m m' packs rest in
    let flag = ap one_if e in
    let less = flags any joined in
    omega (arith, one, two, three, four, low, high, flag, less, falls, was)
  where
    flags : (a j : Bool) → one_if (a || j) ≤ one_if a + one_if j
    flags true true = omega arith
    flags true false = omega arith
    flags false true = omega arith
    flags false false = omega arith

pub none_part : (owners : List Owner) (m m' : Map) → m' ≡ m → (front part : List Owner)
    → ((o : Owner) → Contains front o → is_movable_by owners o.id ≡ true → can_join m o.id ≡ false) → ((o : Owner) → Contains part o → is_movable_by owners o.id ≡ true → can_join m' o.id ≡ false)
    → (o : Owner) → Contains (front ++ part) o → is_movable_by owners o.id ≡ true → can_join m' o.id ≡ false
none_part owners m m' same front part was now o there may = elim (Contains-append_cases front part o there) [
  | inl before ↦ (ap (λ (n : Map). can_join n o.id) same ∙ was o before may)
  | inr here ↦ now o here may
]

-- ---- the longest hole

pub longest_of : (m : Map) (best : Option ZoneRun) (p : ZoneRun) → best ≡ Some p → IsLongest m best → Contains (hole_runs m) p × (p.1.len ≡ longest (hole_runs m))
longest_of m best p e is = subst (IsLongest m) e is
