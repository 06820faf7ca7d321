-- Where a run stands among those of its identifier.
use Rattle.std.proofs.Common.{◌≡◌, ◌<◌, ◌≤◌, ℕ, zero, suc, ◌+◌, ◌-◌, false, Option, Some, None, List, [], ◌∷◌, ◌++◌, length, refl, sym, ap, ap₂, subst, ◌∙◌, inl, inr, arith, length-append, append_assoc}
use Rattle.std.specs.Prelude.{filter, Contains}
use Rattle.std.proofs.lemmas.Bool.{cases_eq, cases_lt}
use Rattle.std.proofs.lemmas.List.Elements.{filter-append, Contains-append_cases}
use Rattle.std.proofs.lemmas.List.Concat.{flat_map-append}
use Rattle.std.proofs.lemmas.List.{map-append}
use Rattle.fc_record.specs.declared.Geometry.{Geometry}
use Rattle.fc_zone.specs.declared.Run.{Run}
use Rattle.fc_zone.specs.Zone.{Zone}
use Rattle.fc_zone.proofs.UniqueLemmas.{same_cut}
use Rattle.fc_newmap.specs.declared.walk.Walk.{Walk}
use Rattle.fc_newmap.specs.Map.{Map, ZoneRun, home_zone, id_runs, runs_in, runs_of, search_order, sector_of, shape}
use Rattle.fc_newmap.specs.RunsLaw.{HasZones, placed}
use Rattle.fc_newmap.specs.Walk.{IsBehind, StandsBefore, zone_after, zones_from}
use Rattle.fc_newmap.proofs.CoverLemmas.{order_Distinct, split_once}
use Rattle.fc_newmap.proofs.PlaceLemmas.{filter_in, home_low, in_order_of, order_in, zone_in}
use Rattle.fc_newmap.proofs.WalkLemmas.{IsStepOf, after_last, after_other, filter_first, of_id, order_is}
use Rattle.fc_device.specs.Numbers.{is_listed as is_in}

-- ---- the zones after one

cons_first : (x y : ℕ) (xs ys : List ℕ) → x ∷ xs ≡ y ∷ ys → (x ≡ y) × (xs ≡ ys)
cons_first x y xs ys e = (cc, cc)

pub zones_behind : (g : Geometry) (y n z : ℕ) (front rest : List ℕ) → zones_from g y n ≡ front ++ z ∷ rest → rest ≡ zones_from g (zone_after g z) (length rest)
zones_behind g y zero z [] rest e = absurd (cc)
zones_behind g y zero z (x ∷ front) rest e = absurd (cc)
zones_behind g y (suc n) z [] rest e =
    let c = cons_first y z (zones_from g (zone_after g y) n) rest e in
    let long : length rest ≡ n = ap length (sym c.1) ∙ long_is (zone_after g y) n in
    sym c.1 ∙ ap₂ (λ (k j : ℕ). zones_from g (zone_after g k) j) c.0 (sym long)
  where
    long_is : (k j : ℕ) → length (zones_from g k j) ≡ j
    long_is k zero = refl
    long_is k (suc j) = ap suc (long_is (zone_after g k) j)
zones_behind g y (suc n) z (x ∷ front) rest e = zones_behind g (zone_after g y) n z front rest (cons_first y x (zones_from g (zone_after g y) n) (front ++ z ∷ rest) e).1

-- so many zones up, and round
abbrev IsUp : Geometry → ℕ → ℕ → ℕ → Type 0
IsUp g y k z = (y + k < g.zones → z ≡ y + k) × (g.zones ≤ y + k → y + k < g.zones + g.zones → z + g.zones ≡ y + k)

zone_up : (g : Geometry) (y n z : ℕ) (front rest : List ℕ) → y < g.zones → zones_from g y n ≡ front ++ z ∷ rest → IsUp g y (length front) z
zone_up g y zero z [] rest low e = absurd (cc)
zone_up g y zero z (x ∷ front) rest low e = absurd (cc)
zone_up g y (suc n) z [] rest low e =
    let c = cons_first y z (zones_from g (zone_after g y) n) rest e in
    (λ h. (let s = c.0 in omega arith), λ h i. absurd (omega arith))
zone_up g y (suc n) z (x ∷ front) rest low e =
    let later = (cons_first y x (zones_from g (zone_after g y) n) (front ++ z ∷ rest) e).1 in
    elim (cases_eq (y + 1) g.zones) [
      | inl last ↦ (
          let at = after_last g y last in
          let up = zone_up g 0 n z front rest (omega arith) (subst (λ (k : ℕ). zones_from g k n ≡ front ++ z ∷ rest) at later) in
          (λ h. absurd (omega arith), λ h i. (let s = up.0 (omega arith) in omega arith)))
      | inr other ↦ (
          let at = after_other g y other in
          let up = zone_up g (y + 1) n z front rest (omega arith) (subst (λ (k : ℕ). zones_from g k n ≡ front ++ z ∷ rest) at later) in
          (λ h. (let s = up.0 (omega arith) in omega arith), λ h i. (let s = up.1 (omega arith) (omega arith) in omega arith)))
    ]

-- The zones of a search before and after one of them.
pub search_cut : (g : Geometry) (id z more : ℕ) → z < g.zones → IsBehind g (home_zone g id) z more
    → (front rest : List ℕ) × (search_order g id ≡ front ++ z ∷ rest) × (is_in front z ≡ false) × (is_in rest z ≡ false) × (rest ≡ zones_from g (zone_after g z) more)
search_cut g id z more low behind =
    let cut = split_once (search_order g id) z (order_Distinct g id) (in_order_of g id z (omega arith) low) in
    let n = g.zones - 1 in
    let some : g.zones ≡ suc n = omega arith in
    let order = order_is g id n some ∙ cut.2 in
    let home = home_low g id (omega arith) in
    let up = zone_up g (home_zone g id) (suc n) z cut.0 cut.1 home order in
    let rest = zones_behind g (home_zone g id) (suc n) z cut.0 cut.1 order in
    let long : length cut.0 + suc (length cut.1) ≡ suc n = sym (length-append cut.0 (z ∷ cut.1)) ∙ ap length (sym order) ∙ long_is (home_zone g id) (suc n) in
    let same : length cut.1 ≡ more = elim (cases_lt (home_zone g id + length cut.0) g.zones) [
      | inl less ↦ (let s = up.0 less in let b = behind.0 (omega arith) in omega arith)
      | inr more' ↦ (let s = up.1 more' (omega arith) in let b = behind.1 (omega arith) in omega arith)
    ] in
    (cut.0, cut.1, cut.2, cut.3, cut.4, rest ∙ ap (zones_from g (zone_after g z)) same)
  where
    long_is : (k j : ℕ) → length (zones_from g k j) ≡ j
    long_is k zero = refl
    long_is k (suc j) = ap suc (long_is (zone_after g k) j)

-- ---- a run of a list

pub split_at : (xs : List Run) (x : Run) → Contains xs x → (front rest : List Run) × (xs ≡ front ++ x ∷ rest)
split_at [] x (k, h, e) = absurd (omega arith)
split_at (y ∷ xs) x (zero, h, e) = ([], xs, ap (λ (r : Run). r ∷ xs) e)
split_at (y ∷ xs) x (suc k, h, e) = let r = split_at xs x (k, omega arith, e) in (y ∷ r.0, r.1, ap (λ (rs : List Run). y ∷ rs) r.2)

cons_run : (x y : ZoneRun) (xs ys : List ZoneRun) → x ∷ xs ≡ y ∷ ys → (x ≡ y) × (xs ≡ ys)
cons_run x y xs ys e = (cc, cc)

here_in : (xs : List ZoneRun) (x : ZoneRun) (ys : List ZoneRun) → Contains (xs ++ x ∷ ys) x
here_in [] x ys = (0, omega arith, refl)
here_in (y ∷ xs) x ys = let r = here_in xs x ys in (suc r.0, omega (arith, r.1), r.2)

-- a list is cut at what stands in it once in one way
cut_once : (a b front rest : List ZoneRun) (p : ZoneRun) → a ++ p ∷ b ≡ front ++ p ∷ rest → (Contains a p → ⊥) → (Contains b p → ⊥) → rest ≡ b
cut_once [] b [] rest p e none_a none_b = sym ((cons_run p p b rest e).1)
cut_once [] b (x ∷ front) rest p e none_a none_b = absurd (none_b (subst (λ (l : List ZoneRun). Contains l p) (sym ((cons_run p x b (front ++ p ∷ rest) e).1)) (here_in front p rest)))
cut_once (x ∷ a) b [] rest p e none_a none_b =
    absurd (none_a (0, omega arith, (cons_run x p (a ++ p ∷ b) rest e).0))
cut_once (x ∷ a) b (y ∷ front) rest p e none_a none_b =
    cut_once a b front rest p ((cons_run x y (a ++ p ∷ b) (front ++ p ∷ rest) e).1) (λ c. none_a (suc c.0, (let h = c.1 in omega arith), c.2)) none_b

pub placed_in : (z : ℕ) (runs : List Run) (p : ZoneRun) → Contains (placed z runs) p → Contains runs p.1
placed_in z [] p (k, h, e) = absurd (omega arith)
placed_in z (run ∷ runs) p (zero, h, e) = (0, omega arith, ap (λ (q : ZoneRun). q.1) e)
placed_in z (run ∷ runs) p (suc k, h, e) = let r = placed_in z runs p (k, omega arith, e) in (suc r.0, (let l = r.1 in omega arith), r.2)

-- a zone has a run once
run_once : (m : Map) (z : ℕ) (front rest : List Run) (run : Run) → Zone (shape m.geometry z) (sector_of m z) (front ++ run ∷ rest) → (Contains front run → ⊥) × (Contains rest run → ⊥)
run_once m z front rest run zone = (
  λ c. (let s = split_at front run c in
      let other = subst (λ (l : List Run). Zone (shape m.geometry z) (sector_of m z) l) (ap (λ (l : List Run). l ++ run ∷ rest) s.2 ∙ append_assoc s.0 (run ∷ s.1) (run ∷ rest)) zone in
      let same = same_cut (shape m.geometry z) (sector_of m z) front s.0 rest (s.1 ++ run ∷ rest) run run zone other refl in
      let long = ap length same.2 ∙ length-append s.1 (run ∷ rest) in omega arith),
  λ c. (let s = split_at rest run c in
      let other = subst (λ (l : List Run). Zone (shape m.geometry z) (sector_of m z) l) (ap (λ (l : List Run). front ++ run ∷ l) s.2 ∙ sym (append_assoc front (run ∷ s.0) (run ∷ s.1))) zone in
      let same = same_cut (shape m.geometry z) (sector_of m z) front (front ++ run ∷ s.0) rest s.1 run run zone other refl in
      let long = ap length same.0 ∙ length-append front (run ∷ s.0) in omega arith),
)

-- a run of an identifier among those of its zone, and what is left after it
pub record RunCut (m : Map) (id : ℕ) (p : ZoneRun) (more : ℕ) : Type 0 where
  pub front : List Run
  pub rest : List Run
  pub runs : runs_of m p.0 ≡ front ++ p.1 ∷ rest
  pub later : (before after : List ZoneRun) → id_runs m id ≡ before ++ p ∷ after → after ≡ filter (of_id id) (placed p.0 rest ++ runs_in m (zones_from m.geometry (zone_after m.geometry p.0) more))

pub zone_of_run : (m : Map) (id : ℕ) (p : ZoneRun) → 1 ≤ m.geometry.zones → Contains (id_runs m id) p → p.0 < m.geometry.zones
zone_of_run m id p some c =
    let f = filter_in (of_id id) (runs_in m (search_order m.geometry id)) p c in
    order_in m.geometry id p.0 some ((zone_in m (search_order m.geometry id) p f.0).0)

pub run_cut : (m : Map) (id : ℕ) (p : ZoneRun) (more : ℕ) → 1 ≤ m.geometry.zones → HasZones m → Contains (id_runs m id) p → IsBehind m.geometry (home_zone m.geometry id) p.0 more → RunCut m id p more
run_cut m id p more some has c behind =
    let g = m.geometry in
    let z = p.0 in
    let low = zone_of_run m id p some c in
    let f = filter_in (of_id id) (runs_in m (search_order g id)) p c in
    let of_zone = zone_in m (search_order g id) p f.0 in
    let cut = search_cut g id z more low behind in
    let s = split_at (runs_of m z) p.1 (placed_in z (runs_of m z) p of_zone.1) in
    let zone : Zone (shape g z) (sector_of m z) (s.0 ++ p.1 ∷ s.1) = subst (λ (rs : List Run). Zone (shape g z) (sector_of m z) rs) s.2 (has z low) in
    let once = run_once m z s.0 s.1 p.1 zone in
    let tail = placed z s.1 ++ runs_in m cut.1 in
    let a = runs_in m cut.0 ++ placed z s.0 in
    let all : runs_in m (search_order g id) ≡ a ++ p ∷ tail =
    ap (runs_in m) cut.2 ∙ flat_map-append (λ y. placed y (runs_of m y)) cut.0 (z ∷ cut.1)
    ∙ ap (λ (rs : List Run). runs_in m cut.0 ++ (placed z rs ++ runs_in m cut.1)) s.2
    ∙ ap (λ (ps : List ZoneRun). runs_in m cut.0 ++ (ps ++ runs_in m cut.1)) (map-append (λ (run : Run). let q : ZoneRun = (z, run) in q) s.0 (p.1 ∷ s.1))
    ∙ ap (λ (ps : List ZoneRun). runs_in m cut.0 ++ ps) (append_assoc (placed z s.0) (p ∷ placed z s.1) (runs_in m cut.1))
    ∙ sym (append_assoc (runs_in m cut.0) (placed z s.0) (p ∷ tail)) in
    let ids : id_runs m id ≡ filter (of_id id) a ++ p ∷ filter (of_id id) tail =
    ap (filter (of_id id)) all ∙ filter-append (of_id id) a (p ∷ tail) ∙ ap (λ (ps : List ZoneRun). filter (of_id id) a ++ ps) (filter_first id p tail f.1) in
    let none_a : Contains (filter (of_id id) a) p → ⊥ = λ k.
    let i = filter_in (of_id id) a p k in
    elim (Contains-append_cases (runs_in m cut.0) (placed z s.0) p i.0) [
      | inl earlier ↦ (let e = (zone_in m cut.0 p earlier).0 in let n = cut.3 in cc)
      | inr same ↦ once.0 (placed_in z s.0 p same)
    ] in
    let none_b : Contains (filter (of_id id) tail) p → ⊥ = λ k.
    let i = filter_in (of_id id) tail p k in
    elim (Contains-append_cases (placed z s.1) (runs_in m cut.1) p i.0) [
      | inl same ↦ once.1 (placed_in z s.1 p same)
      | inr later ↦ (let e = (zone_in m cut.1 p later).0 in let n = cut.4 in cc)
    ] in
    record {
      front = s.0;
      rest = s.1;
      runs = s.2;
      later = λ before after e.
          cut_once (filter (of_id id) a) (filter (of_id id) tail) before after p (sym ids ∙ e) none_a none_b
          ∙ ap (λ (zs : List ℕ). filter (of_id id) (placed z s.1 ++ runs_in m zs)) cut.5;
    }

-- ---- the walk past a run

pub past_run : (m : Map) (first : ZoneRun) (tail : List ZoneRun) (old new : Walk) (result : Option ZoneRun) → StandsBefore m (first ∷ tail) old → IsStepOf m old new result → StandsBefore m tail new
past_run m first tail old new None stands step = absurd (some (step (first ∷ tail) stands).0)
  where
    some : first ∷ tail ≡ [] → ⊥
    some e = absurd (cc)
past_run m first tail old new (Some p) stands step =
    let r = step (first ∷ tail) stands in
    subst (λ (l : List ZoneRun). StandsBefore m l new) (sym ((cons_run first p tail r.0 r.1.0).1)) r.1.1
