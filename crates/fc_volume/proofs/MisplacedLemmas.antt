-- The least sector that passes a test, and which sectors of the map are misplaced.
use Rattle.std.proofs.Common.{◌≡◌, ◌<◌, ◌≤◌, ◌∷◌, ◌+◌, ◌*◌, ◌^◌, ◌⊎◌, inl, inr, ℕ, zero, suc, Bool, true, false, List, [], ◌++◌, map, refl, sym, ap, ap₂, subst, ◌∙◌, arith}
use Rattle.std.specs.Prelude.{Option, Some, None, filter, nat_le, nat_lt, min, ◌==◌, ◌&&◌, ◌||◌}
use Rattle.std.specs.List.{list_any, range_with_len}
use Rattle.std.specs.Ordering.{nat_cmp}
use Rattle.std.specs.FinMap.{FinMap}
use Rattle.std.proofs.lemmas.Bool.{eqb-true, eqb-false, eq-eqb, ne_eqb, leb-true, ltb-true, le-leb, lt-ltb, cases_lt, or_cases, or_left, or_right, and_from as and_true, and_parts as and_first}
use Rattle.std.proofs.lemmas.List.Folds.{list_any-append}
use Rattle.std.proofs.lemmas.List.Sorted.{list_any-IsPermutation}
use Rattle.fc_device.specs.declared.disk.Extent.{Extent}
use Rattle.fc_objects.specs.Extents.{extent_sectors}
use Rattle.fc_record.specs.declared.Geometry.{Geometry}
use Rattle.fc_record.specs.declared.Kind.{Kind}
use Rattle.fc_record.specs.Record.{geometry}
use Rattle.fc_zone.specs.declared.RunKind.{RunKind}
use Rattle.fc_zone.specs.declared.RunKind.TheVariants as kinds
use Rattle.fc_newmap.specs.Map.{Map, ZoneRun, all_runs, extent_of, map_sectors, run_sectors, sectors_of}
use Rattle.fc_newmap.specs.NewMap.{IsNewMap, IsOfRecord}
use Rattle.fc_newmap.proofs.HeldLemmas.{geometry_facts}
use Rattle.fc_alloc.specs.declared.owner.Owner.{Owner}
use Rattle.fc_alloc.specs.Owners.{is_id_owned, owns}
use Rattle.fc_image.specs.Layout.{Layout, is_among, id_of}
use Rattle.fc_image.specs.Walk.{Object}
use Rattle.fc_image.specs.Objects.{has_sectors, is_owned, is_owner_of}
use Rattle.fc_image.specs.Opening.{boot_place, is_hole_or_movable, least_of, least_or, misplaced_sector}
use Rattle.fc_tree.specs.declared.node.Node.{Node}
use Rattle.fc_tree.specs.Parts.{AreOwners, owner_of}
use Rattle.fc_volume.specs.Misplaced.{IsLeast, is_in_loose, is_in_some_loose, is_loose, lies_in}
use Rattle.fc_image.proofs.CommandLemmas.{both_ways as both}
use Rattle.fc_reclaim.proofs.RowLemmas.{map_low}

-- ---- sizes

pub row_low : (m : Map) → IsNewMap m → m.geometry.map_sector + 2 * m.geometry.zones ≤ 2 ^ 40
row_low m is = subst (λ (g : Geometry). g.map_sector + 2 * g.zones ≤ 2 ^ 40) is.of_record.1.1 (map_low is.of_record.0 is.of_record.1.0)

pub sector_least : (g : Geometry) → IsOfRecord g → 256 ≤ g.sector
sector_least g is = by (geometry_facts g is).size
  where
    by : (g.sector ≡ 256) ⊎ ((g.sector ≡ 512) ⊎ (g.sector ≡ 1024)) → 256 ≤ g.sector
    by (inl a) = omega arith
    by (inr (inl b)) = omega arith
    by (inr (inr d)) = omega arith

-- ---- the least

pub IsLeast-same : (p q : ℕ → Bool) (o : Option ℕ) → ((s : ℕ) → p s ≡ q s) → IsLeast p o → IsLeast q o
IsLeast-same p q None same is = λ s. sym (same s) ∙ is s
IsLeast-same p q (Some n) same is = (sym (same n) ∙ is.0, λ s e. is.1 s (same s ∙ e))

pub least_is : (xs : List ℕ) (o : Option ℕ) → IsLeast (is_among xs) o → least_of xs ≡ o
least_is xs o is = unique (least_of xs) o (found xs) is
  where
    unique : (a b : Option ℕ) → IsLeast (is_among xs) a → IsLeast (is_among xs) b → a ≡ b
    unique None None p q = refl
    unique None (Some n) p q = absurd (let h = p n in let i = q.0 in cc)
    unique (Some m) None p q = absurd (let h = q m in let i = p.0 in cc)
    unique (Some m) (Some n) p q = ap (λ k. let o : Option ℕ = Some k in o) (let a = p.1 n q.0 in let b = q.1 m p.0 in let e : m ≡ n = omega arith in e)

    more : (x : ℕ) (ys : List ℕ) (o : Option ℕ) → IsLeast (is_among ys) o → IsLeast (is_among (x ∷ ys)) (Some (least_or x o))
    more x ys None is = (
      or_left (x == x) _ (eq-eqb x x refl),
      λ s e. elim (or_cases (x == s) (is_among ys s) e) [
        | inl here ↦ (let same = eqb-true x s here in omega arith)
        | inr later ↦ absurd (let none = is s in cc)
      ],
    )
    more x ys (Some n) is = (
      elim (cases_lt x n) [
        | inl less ↦ (let e : min x n ≡ x = omega arith in or_left (x == min x n) _ (eq-eqb x (min x n) (sym e)))
        | inr other ↦ (let e : min x n ≡ n = omega arith in or_right (x == min x n) _ (subst (λ k. is_among ys k ≡ true) (sym e) is.0))
      ],
      λ s e. elim (or_cases (x == s) (is_among ys s) e) [
        | inl here ↦ (let same = eqb-true x s here in omega arith)
        | inr later ↦ (let low = is.1 s later in omega arith)
      ],
    )

    found : (ys : List ℕ) → IsLeast (is_among ys) (least_of ys)
    found [] = λ s. refl
    found (y ∷ ys) = more y ys (least_of ys) (found ys)

-- ---- what lies where

among_range : (from n s : ℕ) → from ≤ s → s < from + n → is_among (range_with_len from n) s ≡ true
among_range from zero s low high = absurd (omega arith)
among_range from (suc n) s low high = by (from == s) refl (λ ne. among_range (from + 1) n s (omega arith) (omega arith))
  where
    by : (c : Bool) → (from == s) ≡ c → ((from ≡ s → ⊥) → is_among (range_with_len (from + 1) n) s ≡ true) → ((from == s) || is_among (range_with_len (from + 1) n) s) ≡ true
    by true e rest = or_left (from == s) _ e
    by false e rest = or_right (from == s) _ (rest (eqb-false from s e))

range_among : (from n s : ℕ) → is_among (range_with_len from n) s ≡ true → (from ≤ s) × (s < from + n)
range_among from zero s e = absurd (cc)
range_among from (suc n) s e = elim (or_cases (from == s) (is_among (range_with_len (from + 1) n) s) e) [
  | inl here ↦ (let same = eqb-true from s here in (omega arith, omega arith))
  | inr later ↦ (let rest = range_among (from + 1) n s later in (omega (arith, rest.0), omega (arith, rest.1)))
]

pub row_among : (e : Extent) (s : ℕ) → is_among (extent_sectors e) s ≡ lies_in e s
row_among e s = both _ _
    (λ is. let r = range_among e.first e.sectors s is in and_true _ _ (le-leb e.first s r.0) (lt-ltb s (e.first + e.sectors) r.1))
    (λ is. let r = and_first (nat_le e.first s) (nat_lt s (e.first + e.sectors)) is in among_range e.first e.sectors s (leb-true e.first s r.0) (ltb-true s (e.first + e.sectors) r.1))

among_filter : (t : ℕ → Bool) (xs : List ℕ) (s : ℕ) → is_among (filter t xs) s ≡ (is_among xs s && t s)
among_filter t [] s = refl
among_filter t (x ∷ xs) s = by (t x) (x == s) refl refl (among_filter t xs s)
  where
    never : (b : Bool) → (b && false) ≡ false
    never true = refl
    never false = refl

    by : (b c : Bool) → t x ≡ b → (x == s) ≡ c → is_among (filter t xs) s ≡ (is_among xs s && t s) → is_among (filter t (x ∷ xs)) s ≡ (is_among (x ∷ xs) s && t s)
    by true true e f rest = let same = eqb-true x s f in let here : t s ≡ true = sym (ap t same) ∙ e in rw (e, f, here) refl
    by true false e f rest = rw (e, f) rest
    by false true e f rest = let same = eqb-true x s f in let here : t s ≡ false = sym (ap t same) ∙ e in rw (e, f, here) (rest ∙ ap (λ b. is_among xs s && b) here ∙ never (is_among xs s))
    by false false e f rest = rw (e, f) rest

among_runs : (g : Geometry) (t : RunKind → Bool) (runs : List ZoneRun) (s : ℕ)
    → is_among (sectors_of g (filter (λ p. t p.1.kind) runs)) s ≡ list_any (λ (p : ZoneRun). t p.1.kind && lies_in (extent_of g p) s) runs
among_runs g t [] s = refl
among_runs g t (p ∷ runs) s = by (t p.1.kind) refl (among_runs g t runs s)
  where
    by : (b : Bool) → t p.1.kind ≡ b
        → is_among (sectors_of g (filter (λ q. t q.1.kind) runs)) s ≡ list_any (λ (q : ZoneRun). t q.1.kind && lies_in (extent_of g q) s) runs → is_among (sectors_of g (filter (λ q. t q.1.kind) (p ∷ runs))) s ≡ list_any (λ (q : ZoneRun). t q.1.kind && lies_in (extent_of g q) s) (p ∷ runs)
    by true e rest = rw e (list_any-append (λ k. k == s) (run_sectors g p) (sectors_of g (filter (λ q. t q.1.kind) runs)) ∙ ap₂ (λ a b. a || b) (row_among (extent_of g p) s) rest)
    by false e rest = rw e rest

any_and : (f : ZoneRun → Bool) (c : Bool) (runs : List ZoneRun) → list_any (λ p. f p && c) runs ≡ (list_any f runs && c)
any_and f c [] = refl
any_and f c (p ∷ runs) = ap (λ b. (f p && c) || b) (any_and f c runs) ∙ by (f p) (list_any f runs) c
  where
    by : (a b d : Bool) → ((a && d) || (b && d)) ≡ ((a || b) && d)
    by true true true = refl
    by true true false = refl
    by true false true = refl
    by true false false = refl
    by false b d = refl

any_same : (f h : ZoneRun → Bool) (runs : List ZoneRun) → ((p : ZoneRun) → f p ≡ h p) → list_any f runs ≡ list_any h runs
any_same f h [] same = refl
any_same f h (p ∷ runs) same = ap₂ (λ a b. a || b) (same p) (any_same f h runs same)

-- ---- owners

module _ (owners : List Owner) (nodes : FinMap nat_cmp Node) (layout : Layout) (objects : List Object) (owned : AreOwners owners nodes layout objects) where
  each_owner : (id : ℕ) (os : List Object) → list_any (owns id) (map (owner_of nodes layout) (filter has_sectors os)) ≡ list_any (is_owner_of id) os
  each_owner id [] = refl
  each_owner id (o ∷ os) = by (has_sectors o) refl (each_owner id os)
    where
      by : (b : Bool) → has_sectors o ≡ b → list_any (owns id) (map (owner_of nodes layout) (filter has_sectors os)) ≡ list_any (is_owner_of id) os
          → list_any (owns id) (map (owner_of nodes layout) (filter has_sectors (o ∷ os))) ≡ list_any (is_owner_of id) (o ∷ os)
      by true e rest = rw e (ap (λ b. (id_of o.entry.address == id) || b) rest)
      by false e rest = rw e rest

  pub id_owned : (id : ℕ) → is_id_owned owners id ≡ list_any (is_owner_of id) objects
  id_owned id = list_any-IsPermutation (owns id) owners (map (owner_of nodes layout) (filter has_sectors objects)) owned ∙ each_owner id objects

  loose_same : (kind : RunKind) → is_loose owners kind ≡ is_hole_or_movable objects kind
  loose_same kinds.Hole = refl
  loose_same (kinds.Id id) = by (nat_le 3 id) refl
    where
      never : (b : Bool) → (b && false) ≡ false
      never true = refl
      never false = refl

      by : (b : Bool) → nat_le 3 id ≡ b → (is_id_owned owners id && nat_le 3 id) ≡ (is_owned objects id && nat_le 3 id)
      by true e =
          let high = leb-true 3 id e in
          let other : (id == 2) ≡ false = ne_eqb id 2 (λ (same : id ≡ 2). let x : 3 ≤ 2 = omega arith in omega arith) in
          ap (λ b. b && nat_le 3 id) (id_owned id ∙ ap (λ b. b || list_any (is_owner_of id) objects) (sym other))
      by false e = rw e (never (is_id_owned owners id) ∙ sym (never (is_owned objects id)))

  in_two : (a b x : Bool) → ((a && b) || (x && (a || b))) ≡ (((a || b) && x) || (b && a))
  in_two true true true = refl
  in_two true true false = refl
  in_two true false true = refl
  in_two true false false = refl
  in_two false true true = refl
  in_two false true false = refl
  in_two false false true = refl
  in_two false false false = refl

  pub misplaced_is : (kind : Kind) (m : Map) (a b : Extent) (o : Option ℕ) → extent_sectors a ≡ map_sectors m.geometry → extent_sectors b ≡ boot_place kind m.geometry.sector
      → IsLeast (λ s. (lies_in a s && lies_in b s) || is_in_some_loose owners m.geometry a b (all_runs m) s) o → o ≡ misplaced_sector kind (Layout.New m) objects
  misplaced_is kind m a b o first second is =
      let g = m.geometry in
      let test : RunKind → Bool = is_hole_or_movable objects in
      let loose : List ℕ = sectors_of g (filter (λ p. test p.1.kind) (all_runs m)) in
      let rows : List ℕ = map_sectors g ++ boot_place kind g.sector in
      let in_a : (s : ℕ) → is_among (map_sectors g) s ≡ lies_in a s = λ s. ap (λ xs. is_among xs s) (sym first) ∙ row_among a s in
      let in_b : (s : ℕ) → is_among (boot_place kind g.sector) s ≡ lies_in b s = λ s. ap (λ xs. is_among xs s) (sym second) ∙ row_among b s in
      let in_rows : (s : ℕ) → is_among rows s ≡ (lies_in a s || lies_in b s) = λ s. list_any-append (λ k. k == s) (map_sectors g) (boot_place kind g.sector) ∙ ap₂ (λ x y. x || y) (in_a s) (in_b s) in
      let regroup : (x y z : Bool) → (x && (y && z)) ≡ ((x && y) && z) = grouped in
      let in_runs : (s : ℕ) → is_in_some_loose owners g a b (all_runs m) s ≡ (is_among loose s && (lies_in a s || lies_in b s)) =
      λ s. any_same _ (λ (p : ZoneRun). (test p.1.kind && lies_in (extent_of g p) s) && (lies_in a s || lies_in b s)) (all_runs m)
      (λ p. regroup (is_loose owners p.1.kind) (lies_in (extent_of g p) s) (lies_in a s || lies_in b s) ∙ ap (λ t. (t && lies_in (extent_of g p) s) && (lies_in a s || lies_in b s)) (loose_same p.1.kind))
      ∙ any_and (λ (p : ZoneRun). test p.1.kind && lies_in (extent_of g p) s) (lies_in a s || lies_in b s) (all_runs m)
      ∙ ap (λ t. t && (lies_in a s || lies_in b s)) (sym (among_runs g test (all_runs m) s)) in
      let there : (s : ℕ) → ((lies_in a s && lies_in b s) || is_in_some_loose owners g a b (all_runs m) s) ≡ is_among (filter (is_among loose) rows ++ filter (is_among (map_sectors g)) (boot_place kind g.sector)) s =
      λ s. ap (λ t. (lies_in a s && lies_in b s) || t) (in_runs s)
      ∙ in_two (lies_in a s) (lies_in b s) (is_among loose s)
      ∙ sym (list_any-append (λ k. k == s) (filter (is_among loose) rows) (filter (is_among (map_sectors g)) (boot_place kind g.sector))
      ∙ ap₂ (λ x y. x || y) (among_filter (is_among loose) rows s ∙ ap (λ t. t && is_among loose s) (in_rows s))
      (among_filter (is_among (map_sectors g)) (boot_place kind g.sector) s ∙ ap₂ (λ x y. x && y) (in_b s) (in_a s))) in
      sym (least_is (filter (is_among loose) rows ++ filter (is_among (map_sectors g)) (boot_place kind g.sector)) o (IsLeast-same _ _ o there is))
    where
      grouped : (x y z : Bool) → (x && (y && z)) ≡ ((x && y) && z)
      grouped true y z = refl
      grouped false y z = refl

-- ---- the walk

and_or : (t p a b : Bool) → t ≡ true → ((p && a) || (p && b)) ≡ (t && (p && (a || b)))
and_or t true true b e = rw e refl
and_or t true false b e = rw e refl
and_or t false a b e = rw e refl

pub in_run : (owners : List Owner) (g : Geometry) (a b place : Extent) (p : ZoneRun) (o : Option ℕ) → place ≡ extent_of g p → is_loose owners p.1.kind ≡ true
    → IsLeast (λ s. (lies_in place s && lies_in a s) || (lies_in place s && lies_in b s)) o → IsLeast (λ s. is_in_loose owners g a b p s) o
in_run owners g a b place p o e loose is =
    IsLeast-same _ _ o (λ s. ap (λ (x : Extent). (lies_in x s && lies_in a s) || (lies_in x s && lies_in b s)) e ∙ and_or (is_loose owners p.1.kind) (lies_in (extent_of g p) s) (lies_in a s) (lies_in b s) loose) is

pub no_run : (f : ℕ → Bool) (o : Option ℕ) → IsLeast f o → IsLeast (λ s. f s || false) o
no_run f o is = IsLeast-same f _ o (λ s. or_none (f s)) is
  where
    or_none : (b : Bool) → b ≡ (b || false)
    or_none true = refl
    or_none false = refl

pub run_more : (f : ℕ → Bool) (owners : List Owner) (g : Geometry) (a b : Extent) (done : List ZoneRun) (p : ZoneRun) (o : Option ℕ)
    → IsLeast (λ s. (f s || is_in_some_loose owners g a b done s) || is_in_loose owners g a b p s) o → IsLeast (λ s. f s || is_in_some_loose owners g a b (done ++ p ∷ []) s) o
run_more f owners g a b done p o is =
    IsLeast-same _ _ o (λ s. shift (f s) (is_in_some_loose owners g a b done s) (is_in_loose owners g a b p s) ∙ ap (λ t. f s || t) (sym (list_any-append (λ q. is_in_loose owners g a b q s) done (p ∷ [])))) is
  where
    shift : (x y z : Bool) → ((x || y) || z) ≡ (x || (y || (z || false)))
    shift true y z = refl
    shift false true z = refl
    shift false false true = refl
    shift false false false = refl
