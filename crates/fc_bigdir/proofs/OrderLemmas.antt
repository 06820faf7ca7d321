-- Twins stand next to each other among names in order.
use Rattle.std.proofs.Common.{◌≡◌, ◌<◌, ◌≤◌, ℕ, zero, suc, ◌+◌, ◌-◌, ◌*◌, ◌%◌, ◌^◌, Bool, true, false, if◌then◌else◌, min, List, [], ◌∷◌, ◌++◌, length, get_or, map, take, nat_lt, eqb, refl, sym, ap, ap₂, ◌∙◌, subst, arith, length-take-le, inl, inr}
use Rattle.std.specs.List.{AllByRecursion, fold, list_any, range_with_len, IsDistinct}
use Rattle.std.specs.List.Sorted.{IsPermutation, IsSorted, IsSortedBy}
use Rattle.std.specs.declared.cmp.Ordering.{Ordering}
use Rattle.std.specs.declared.cmp.Ordering.TheVariants.{Less, Equal, Greater}
use Rattle.std.specs.Ordering.{nat_cmp, is_lt, is_eq, ordering_then, ordering_reverse}
use Rattle.std.specs.Bool.{then_some}
use Rattle.std.specs.Option.{option_map_or}
use Rattle.std.specs.Cmp.{IsTotalOrder, IsStrictWeakOrder}
use Rattle.std.proofs.lemmas.Cmp.{on_total, then_total, nat_cmp_total, nat_list_cmp_total}
use Rattle.std.proofs.lemmas.Bool.{and_parts, cases_lt, false_from_ne_true, leb-true}
use Rattle.std.specs.Cmp.{nat_cmp_is}
use Rattle.std.specs.FinMap.{nat_cmp-IsAntisymmetric, slice_cmp-IsAntisymmetric}
use Rattle.std.specs.Int.{is_in_range}
use Rattle.std.specs.Prelude.{All, nat_le}
use Rattle.std.proofs.lemmas.Bool.Decides.{nat_tests}
use Rattle.std.proofs.lemmas.List.{get_or-map, get_or-take, get_or_default, length-map, map-append}
use Rattle.std.proofs.lemmas.List.Folds.{Any-from_list_any, list_any-from_Any}
use Rattle.std.proofs.lemmas.List.FromFn.{length-map-range_with_len, get_or-map-range_with_len, map-range_with_len_more}
use Rattle.std.proofs.lemmas.List.Sorted.{IsPermutation-map, length_permutation, All-permutation, Contains-permutation, ranks_by, sorted_far}
use Rattle.std.proofs.lemmas.Map.Keys.{IsDistinct-IsPermutation, apart_from_distinct}
use Rattle.std.proofs.lemmas.Option.{slice_get-get_or}
use Rattle.fc_names.specs.Names.{folded, name_cmp, is_same_name, upper}
use Rattle.fc_dirs.specs.declared.Entry.{Entry}
use Rattle.fc_dirs.specs.Entries.{first_twin, is_twin}
use Rattle.fc_dirs.proofs.SearchLemmas.{blank, is_some-find}
use Rattle.fc_dirs.proofs.TwinLemmas.{is_twin-at, twin_found, none_twin, same_name_sym}
use Rattle.fc_bigdir.specs.declared.twins.Numbered.{Numbered}
use Rattle.fc_bigdir.specs.Twins.{AreSorted, IsLettered, cmp_held, cmp_lettered, cmp_numbered, first_letters, name_at, numbered, shown}

-- ---- orders

ordered : IsTotalOrder cmp_lettered
ordered = then_total (on_total first_letters nat_cmp_total) (on_total folded nat_list_cmp_total)

-- a letter counts the same in either case
same_rest : (c : ℕ) → upper c % 32 ≡ c % 32
same_rest c = go (is_in_range 97 122 c) refl where
  go : (small : Bool) → is_in_range 97 122 c ≡ small → (if small then c - 32 else c) % 32 ≡ c % 32
  go true is =
      let low : 97 ≤ c = leb-true 97 c (and_parts (nat_le 97 c) (nat_le c 122) is).0 in
      omega arith
  go false is = refl

letters_folded : (n so_far : ℕ) (name : List ℕ) → fold (λ k c. k % 2 ^ 59 * 32 + c % 32) so_far (take n (folded name)) ≡ fold (λ k c. k % 2 ^ 59 * 32 + c % 32) so_far (take n name)
letters_folded zero so_far name = refl
letters_folded (suc n) so_far [] = refl
letters_folded (suc n) so_far (c ∷ name) =
    letters_folded n (so_far % 2 ^ 59 * 32 + upper c % 32) name
    ∙ ap (λ k. fold (λ k c. k % 2 ^ 59 * 32 + c % 32) k (take n name)) (ap (λ r. so_far % 2 ^ 59 * 32 + r) (same_rest c))

-- names that are the same have the same first letters
pub same_letters : (a b : List ℕ) → is_same_name a b ≡ true → first_letters a ≡ first_letters b
same_letters a b same =
    let folds : folded a ≡ folded b = slice_cmp-IsAntisymmetric nat_cmp-IsAntisymmetric (folded a) (folded b) (equal (name_cmp a b) same) in
    sym (letters_folded 12 0 a) ∙ ap (λ f. fold (λ k c. k % 2 ^ 59 * 32 + c % 32) 0 (take 12 f)) folds ∙ letters_folded 12 0 b
  where
    equal : (o : Ordering) → is_eq o ≡ true → o ≡ Equal
    equal Less is = absurd (cc)
    equal Equal is = refl
    equal Greater is = absurd (cc)

then_eq : (a b : Ordering) → is_eq (ordering_then a b) ≡ true → is_eq b ≡ true
then_eq Less b is = absurd (cc)
then_eq Equal b is = is
then_eq Greater b is = absurd (cc)

-- the same names tie
tie_of : (a b : List ℕ) → is_same_name a b ≡ true → is_eq (cmp_lettered a b) ≡ true
tie_of a b same =
    ap (λ o. is_eq (ordering_then o (name_cmp a b))) (ap (λ n. nat_cmp n (first_letters b)) (same_letters a b same) ∙ level (first_letters b)) ∙ same
  where
    level : (n : ℕ) → nat_cmp n n ≡ Equal
    level n = sym (nat_cmp_is n n Equal refl)

pub numbered_total : IsTotalOrder cmp_numbered
numbered_total = then_total (on_total (λ (p : ℕ × List ℕ). p.1) ordered) (on_total (λ (p : ℕ × List ℕ). p.0) nat_cmp_total)

names_rank : IsStrictWeakOrder (λ a b. is_lt (cmp_lettered a b))
names_rank = ranks_by ordered (λ (a : List ℕ). a)

pairs_rank : IsStrictWeakOrder (λ p q. is_lt (cmp_numbered p q))
pairs_rank = ranks_by numbered_total (λ (p : ℕ × List ℕ). p)

eq_not_less : (o : Ordering) → is_eq o ≡ true → is_lt o ≡ false
eq_not_less Less is = absurd (cc)
eq_not_less Equal is = refl
eq_not_less Greater is = refl

first_not_less : (a b : Ordering) → is_lt (ordering_then a b) ≡ false → is_lt a ≡ false
first_not_less Less b is = is
first_not_less Equal b is = refl
first_not_less Greater b is = refl

second_not_less : (a b : Ordering) → is_eq a ≡ true → is_lt (ordering_then a b) ≡ false → is_lt b ≡ false
second_not_less Less b tie is = absurd (cc)
second_not_less Equal b tie is = is
second_not_less Greater b tie is = absurd (cc)

neither_less : (o : Ordering) → is_lt o ≡ false → is_lt (ordering_reverse o) ≡ false → is_eq o ≡ true
neither_less Less a b = absurd (cc)
neither_less Equal a b = refl
neither_less Greater a b = absurd (cc)

same_from_neither : (a b : List ℕ) → is_lt (cmp_lettered a b) ≡ false → is_lt (cmp_lettered b a) ≡ false → is_same_name a b ≡ true
same_from_neither a b left right =
    then_eq (nat_cmp (first_letters a) (first_letters b)) (name_cmp a b) (neither_less (cmp_lettered a b) left (ap is_lt (sym (ordered.antisymm b a)) ∙ right))

not_less_le : (i j : ℕ) → is_lt (nat_cmp j i) ≡ false → i ≤ j
not_less_le i j is = elim (cases_lt j i) [
  | inl l ↦ absurd (let less : nat_lt j i ≡ true = grind (arith, nat_tests, l) in let bad : true ≡ false = rw less at is in cc)
  | inr l ↦ l
]

-- ---- names and twins

pub name_at-get_or : (es : List Entry) (i : ℕ) → i < length es → name_at es i ≡ (get_or es i blank).name
name_at-get_or es i within = ap (λ o. option_map_or (λ (e : Entry). e.name) o []) (slice_get-get_or es i blank within)

any_earlier : (es : List Entry) (j : ℕ) → j < length es → is_twin es j ≡ list_any (λ (e : Entry). is_same_name (get_or es j blank).name e.name) (take j es)
any_earlier es j within = is_twin-at es j blank within ∙ is_some-find (λ (e : Entry). is_same_name (get_or es j blank).name e.name) (take j es)

twin_from : (es : List Entry) (i j : ℕ) → i < j → j < length es → is_same_name (name_at es j) (name_at es i) ≡ true → is_twin es j ≡ true
twin_from es i j order within same =
    let x : Entry = get_or es i blank in
    let size = length-take-le j es (omega arith) in
    let here : get_or (take j es) i x ≡ x = get_or-take j es i x order ∙ get_or_default es i x blank (omega arith) in
    let pass : is_same_name (get_or es j blank).name x.name ≡ true =
    ap₂ is_same_name (sym (name_at-get_or es j within)) (sym (name_at-get_or es i (omega arith))) ∙ same in
    any_earlier es j within ∙ list_any-from_Any (λ (e : Entry). is_same_name (get_or es j blank).name e.name) (take j es) (i, x, omega arith, here, pass)

-- A twin has an earlier one.
earlier_of : (es : List Entry) (j : ℕ) → j < length es → is_twin es j ≡ true → (i : ℕ) × (i < j) × (is_same_name (name_at es j) (name_at es i) ≡ true)
earlier_of es j within twin =
    let any = Any-from_list_any (λ (e : Entry). is_same_name (get_or es j blank).name e.name) (take j es) (sym (any_earlier es j within) ∙ twin) in
    let size = length-take-le j es (omega arith) in
    let i : ℕ = any.0 in
    let x : Entry = any.1 in
    let below : i < j = omega (arith, any.2) in
    let here : get_or es i blank ≡ x = get_or_default es i blank x (omega arith) ∙ sym (get_or-take j es i x below) ∙ any.3 in
    let pass : is_same_name (get_or es j blank).name x.name ≡ true = any.4 in (
      i,
      below,
      ap₂ is_same_name (name_at-get_or es j within) (name_at-get_or es i (omega arith) ∙ ap (λ (e : Entry). e.name) here) ∙ pass,
    )

abbrev pub pair : List Entry → ℕ → ℕ × List ℕ
pair es i = (i, name_at es i)

-- ---- numbers that are apart

above_all : (a c n : ℕ) → a < c → AllByRecursion (λ y. eqb a y ≡ false) (range_with_len c n)
above_all a c zero below = tt
above_all a c (suc n) below = (grind (arith, nat_tests, below), above_all a (c + 1) n (omega arith))

range_distinct : (a n : ℕ) → IsDistinct eqb (range_with_len a n)
unfolding IsDistinct
range_distinct a zero = tt
range_distinct a (suc n) = (above_all a (a + 1) n (omega arith), range_distinct (a + 1) n)

numbers_of : (f : ℕ → List ℕ) (a n : ℕ) → map (λ (p : ℕ × List ℕ). p.0) (map (λ i. (i, f i)) (range_with_len a n)) ≡ range_with_len a n
numbers_of f a zero = refl
numbers_of f a (suc n) = ap (λ l. a ∷ l) (numbers_of f (a + 1) n)

pub eqb_flips : (x y : ℕ) → eqb x y ≡ eqb y x
eqb_flips x y = grind (arith, nat_tests)

-- ---- names in order

abbrev pub no_pair : ℕ × List ℕ
no_pair = (0, [])

-- the number and the name at a place
abbrev pub number_in : List (ℕ × List ℕ) → ℕ → ℕ
number_in qs k = (get_or qs k no_pair).0

abbrev pub name_in : List (ℕ × List ℕ) → ℕ → List ℕ
name_in qs k = (get_or qs k no_pair).1

-- the least twin among the first i names in order, or the number of all
pub record IsLeast (es : List Entry) (qs : List (ℕ × List ℕ)) (i least : ℕ) : Type 0 where
  pub within : least ≤ length es
  pub found : least < length es → is_twin es least ≡ true
  pub least_of : (k : ℕ) → k + 1 < i → k + 1 < length es → is_same_name (name_in qs k) (name_in qs (k + 1)) ≡ true → least ≤ number_in qs (k + 1)

pub least_start : (es : List Entry) (qs : List (ℕ × List ℕ)) → IsLeast es qs 1 (length es)
least_start es qs = record {
  within = omega arith;
  found = λ h. absurd (omega (arith, h));
  least_of = λ k h. absurd (omega (arith, h));
}

module _ (es : List Entry) (qs : List (ℕ × List ℕ)) (places : IsPermutation (numbered es (length es)) qs) (sorted : IsSorted cmp_numbered qs) where
  abbrev at : ℕ → ℕ
  at k = number_in qs k

  abbrev name : ℕ → List ℕ
  name k = name_in qs k

  pub size : length qs ≡ length es
  size = length_permutation (numbered es (length es)) qs places ∙ length-map-range_with_len (λ i. pair es i) 0 (length es)

  numbered_at : (i : ℕ) (d : ℕ × List ℕ) → i < length es → get_or (numbered es (length es)) i d ≡ (i, name_at es i)
  numbered_at i d within = get_or-map-range_with_len (λ k. pair es k) 0 (length es) i i d within (omega arith)

  each : (k : ℕ) → k < length es → (at k < length es) × (name k ≡ name_at es (at k))
  each k within =
      All-permutation (λ (p : ℕ × List ℕ). (p.0 < length es) × (p.1 ≡ name_at es (p.0))) (numbered es (length es)) qs places
      (λ i d inside.
      let here : i < length es = omega (arith, inside, length-map-range_with_len (λ i. pair es i) 0 (length es)) in
      subst (λ (p : ℕ × List ℕ). (p.0 < length es) × (p.1 ≡ name_at es (p.0))) (sym (numbered_at i d here)) (here, refl))
      k no_pair (omega (arith, size))

  place_of : (i : ℕ) → i < length es → (k : ℕ) × (k < length es) × (at k ≡ i)
  place_of i within =
      let p : ℕ × List ℕ = (i, name_at es i) in
      let found = Contains-permutation (numbered es (length es)) qs p places (i, omega (arith, length-map-range_with_len (λ i. pair es i) 0 (length es)), numbered_at i p within) in
      let inside : found.0 < length qs = found.1 in
      (found.0, omega (arith, size, inside), ap (λ (p : ℕ × List ℕ). p.0) (get_or_default qs (found.0) no_pair p inside ∙ found.2))

  apart : (i j : ℕ) → i < j → j < length es → eqb (at i) (at j) ≡ false
  apart i j order within =
      let fst : ℕ × List ℕ → ℕ = λ p. p.0 in
      let ps = numbered es (length es) in
      let distinct : IsDistinct eqb (map fst qs) =
      IsDistinct-IsPermutation eqb eqb_flips (map fst ps) (map fst qs) (IsPermutation-map fst ps qs places)
      (subst (IsDistinct eqb) (sym (numbers_of (name_at es) 0 (length es))) (range_distinct 0 (length es))) in
      let first : get_or (map fst qs) i 0 ≡ at i = get_or-map fst qs i no_pair 0 (omega (arith, size)) in
      let second : get_or (map fst qs) j 0 ≡ at j = get_or-map fst qs j no_pair 0 (omega (arith, size)) in
      ap₂ eqb (sym first) (sym second) ∙ apart_from_distinct eqb (map fst qs) i j 0 distinct order (omega (arith, size, length-map qs fst))

  far : (i j : ℕ) → i ≤ j → j < length es → is_lt (cmp_numbered (get_or qs j no_pair) (get_or qs i no_pair)) ≡ false
  far i j order within = sorted_far (λ p q. is_lt (cmp_numbered p q)) pairs_rank qs sorted i j no_pair order (omega (arith, size))

  names_far : (i j : ℕ) → i ≤ j → j < length es → is_lt (cmp_lettered (name j) (name i)) ≡ false
  names_far i j order within = first_not_less (cmp_lettered (name j) (name i)) (nat_cmp (at j) (at i)) (far i j order within)

  -- Of two neighbours with one name the second is a twin.
  neighbour_twin : (k : ℕ) → k + 1 < length es → is_same_name (name k) (name (k + 1)) ≡ true → is_twin es (at (k + 1)) ≡ true
  neighbour_twin k within same =
      let back : is_same_name (name (k + 1)) (name k) ≡ true = same_name_sym (name (k + 1)) (name k) ∙ same in
      let le : at k ≤ at (k + 1) = not_less_le (at k) (at (k + 1)) (second_not_less (cmp_lettered (name (k + 1)) (name k)) (nat_cmp (at (k + 1)) (at k)) (tie_of (name (k + 1)) (name k) back) (far k (k + 1) (omega arith) within)) in
      let other = apart k (k + 1) (omega arith) within in
      let order : at k < at (k + 1) = grind (arith, nat_tests, le, other) in
      let first = each k (omega arith) in
      let second = each (k + 1) within in
      twin_from es (at k) (at (k + 1)) order (second.0) (ap₂ is_same_name (sym (second.1)) (sym (first.1)) ∙ back)

  -- A twin is the second of two such neighbours.
  twin_neighbour : (j : ℕ) → j < length es → is_twin es j ≡ true → (k : ℕ) × (k + 1 < length es) × (at (k + 1) ≡ j) × (is_same_name (name k) (name (k + 1)) ≡ true)
  twin_neighbour j within twin =
      let earlier = earlier_of es j within twin in
      let i : ℕ = earlier.0 in
      let below : i < j = earlier.1 in
      let to_j = place_of j within in
      let to_i = place_of i (omega arith) in
      let p : ℕ = to_j.0 in
      let r : ℕ = to_i.0 in
      let p_in : p < length es = to_j.1 in
      let r_in : r < length es = to_i.1 in
      let p_at : at p ≡ j = to_j.2 in
      let r_at : at r ≡ i = to_i.2 in
      let tie : is_same_name (name p) (name r) ≡ true =
      ap₂ is_same_name ((each p p_in).1 ∙ ap (name_at es) p_at) ((each r r_in).1 ∙ ap (name_at es) r_at) ∙ earlier.2 in
      let back : is_same_name (name r) (name p) ≡ true = same_name_sym (name r) (name p) ∙ tie in
      let order : r < p = elim (cases_lt r p) [
        | inl l ↦ l
        | inr l ↦
            let le : at p ≤ at r = not_less_le (at p) (at r) (second_not_less (cmp_lettered (name r) (name p)) (nat_cmp (at r) (at p)) (tie_of (name r) (name p) back) (far p r l r_in)) in
            absurd (omega (arith, le, p_at, r_at, below))
      ] in
      let k : ℕ = p - 1 in
      let next : k + 1 ≡ p = omega arith in
      let up = names_far k p (omega arith) p_in in
      let down = names_rank.chain (name k) (name r) (name p) (names_far r k (omega arith) (omega arith)) (eq_not_less (cmp_lettered (name r) (name p)) (tie_of (name r) (name p) back)) in
      let same : is_same_name (name k) (name p) ≡ true = same_from_neither (name k) (name p) down up in
      (k, omega (arith, next, p_in), ap at next ∙ p_at, ap (λ n. is_same_name (name k) (name n)) next ∙ same)

  pub least_more : (i least : ℕ) → 0 < i → i < length es → IsLeast es qs i least
      → IsLeast es qs (i + 1) (if is_same_name (name (i - 1)) (name i) then min least (at i) else least)
  least_more i least some within so_far = go (is_same_name (name (i - 1)) (name i)) refl where
    next : i - 1 + 1 ≡ i
    next = omega arith

    go : (same : Bool) → is_same_name (name (i - 1)) (name i) ≡ same → IsLeast es qs (i + 1) (if same then min least (at i) else least)
    go true is =
        let here : is_same_name (name (i - 1)) (name (i - 1 + 1)) ≡ true = ap (λ n. is_same_name (name (i - 1)) (name n)) next ∙ is in
        let twin : is_twin es (at i) ≡ true = ap (λ n. is_twin es (at n)) (sym next) ∙ neighbour_twin (i - 1) (omega arith) here in
        let inside = (each i within).0 in
        record {
          within = omega (arith, inside, so_far.within);
          found = λ h. elim (cases_lt least (at i)) [
            | inl l ↦ let first : min least (at i) ≡ least = omega (arith, l) in rw first (so_far.found (omega (arith, l, inside)))
            | inr l ↦ let second : min least (at i) ≡ at i = omega (arith, l) in rw second twin
          ];
          least_of = λ k h inside same. elim (cases_lt (k + 1) i) [
            | inl l ↦ omega (arith, so_far.least_of k l inside same)
            | inr l ↦ let last : k + 1 ≡ i = omega (arith, h, l) in rw last (omega arith)
          ];
        }
    go false is = record {
      within = so_far.within;
      found = so_far.found;
      least_of = λ k h inside same. elim (cases_lt (k + 1) i) [
        | inl l ↦ so_far.least_of k l inside same
        | inr l ↦
            let last : k + 1 ≡ i = omega (arith, h, l) in
            let first : k ≡ i - 1 = omega (arith, h, l) in
            absurd (let other : is_same_name (name k) (name (k + 1)) ≡ false = ap₂ (λ a b. is_same_name (name a) (name b)) first last ∙ is in let bad : true ≡ false = rw same at other in cc)
      ];
    }

  pub least_end : (i least : ℕ) → length es ≤ i → IsLeast es qs i least → then_some (nat_lt least (length es)) least ≡ first_twin es
  least_end i least all is = elim (cases_lt least (length es)) [
    | inl l ↦
        let test : nat_lt least (length es) ≡ true = grind (arith, nat_tests, l) in
        rw test (twin_found es least l (λ j below. no_twin j (omega arith) below) (is.found l))
    | inr l ↦
        let test : nat_lt least (length es) ≡ false = grind (arith, nat_tests, l) in
        rw test (none_twin es (λ j inside. no_twin j inside (omega (arith, l, inside))))
  ] where
    no_twin : (j : ℕ) → j < length es → j < least → is_twin es j ≡ false
    no_twin j inside below = go (is_twin es j) refl where
      go : (twin : Bool) → is_twin es j ≡ twin → twin ≡ false
      go true twin =
          let pair = twin_neighbour j inside twin in
          let k : ℕ = pair.0 in
          let within : k + 1 < length es = pair.1 in
          let le : least ≤ at (k + 1) = is.least_of k (omega (arith, within, all)) within (pair.3) in
          absurd (omega (arith, le, pair.2, below))
      go false twin = refl

-- ---- names in memory

pub held_total : IsTotalOrder cmp_held
held_total =
    then_total (then_total (on_total (λ (n : Numbered). n.letters) nat_cmp_total) (on_total (λ (n : Numbered). folded n.name.now) nat_list_cmp_total)) (on_total (λ (n : Numbered). n.at) nat_cmp_total)

same_order : (a b : Numbered) → IsLettered a → IsLettered b → cmp_held a b ≡ cmp_numbered (shown a) (shown b)
same_order a b first second =
    ap₂ (λ x y. ordering_then (ordering_then (nat_cmp x y) (name_cmp a.name.now b.name.now)) (nat_cmp a.at b.at)) first second

-- in order, where the elements are in order by what they hold
pub sorted_map : (names : List Numbered) → All IsLettered names → IsSortedBy (λ a b. is_lt (cmp_held a b)) names → IsSorted cmp_numbered (map shown names)
sorted_map [] lettered sorted k d low high = absurd (omega arith)
sorted_map (n ∷ names) lettered sorted k d low high =
    let second : k + 1 < length (n ∷ names) = omega (arith, high, length-map (n ∷ names) shown) in
    let first : k < length (n ∷ names) = omega (arith, second) in
    let up = get_or-map shown (n ∷ names) (k + 1) n d second in
    let down = get_or-map shown (n ∷ names) k n d (omega arith) in
    ap₂ (λ a b. is_lt (cmp_numbered a b)) up down
    ∙ ap is_lt (sym (same_order (get_or (n ∷ names) (k + 1) n) (get_or (n ∷ names) k n) (lettered (k + 1) n second) (lettered k n first)))
    ∙ sorted k n low second

-- one more name with its number
pub numbered_pushed : (es : List Entry) (names new : List Numbered) (x : Numbered) (e : Entry) (i : ℕ) → i < length es → new ≡ names ++ x ∷ []
    → x.at ≡ i → x.name.now ≡ e.name → e ≡ get_or es i e → map shown names ≡ numbered es i → map shown new ≡ numbered es (i + 1)
numbered_pushed es names new x e i within is number name here before =
    let named : x.name.now ≡ name_at es i = name ∙ ap (λ (d : Entry). d.name) (here ∙ get_or_default es i e blank within) ∙ sym (name_at-get_or es i within) in
    let one : shown x ≡ pair es i = λ t. (number t, named t) in
    ap (map shown) is ∙ map-append shown names (x ∷ []) ∙ ap₂ (λ a b. a ++ b ∷ []) before one ∙ sym (map-range_with_len_more (λ k. pair es k) 0 i i (omega arith))

shown_at : (names : List Numbered) (i : ℕ) (a : Numbered) → i < length names → a ≡ get_or names i a → get_or (map shown names) i no_pair ≡ shown a
shown_at names i a within is = get_or-map shown names i a no_pair within ∙ ap shown (sym is)

-- the next pair of neighbours
pub least_next : (es : List Entry) (names : List Numbered) (i least result : ℕ) (a b : Numbered) → AreSorted es names → 1 ≤ i → i < length names
    → a ≡ get_or names (i - 1) a → b ≡ get_or names i b → result ≡ (if is_same_name a.name.now b.name.now then min least b.at else least)
    → IsLeast es (map shown names) i least → IsLeast es (map shown names) (i + 1) result
least_next es names i least result a b sorted some within first second is so_far =
    let qs = map shown names in
    let all = size es qs sorted.places sorted.sorted in
    let left : get_or qs (i - 1) no_pair ≡ shown a = shown_at names (i - 1) a (omega arith) first in
    let right : get_or qs i no_pair ≡ shown b = shown_at names i b within second in
    let more = least_more es qs sorted.places sorted.sorted i least some (omega (arith, all, length-map names shown)) so_far in
    subst (IsLeast es qs (i + 1))
    (ap₂ (λ (p q : ℕ × List ℕ). if is_same_name (p.1) (q.1) then min least (q.0) else least) left right ∙ sym is) more

pub least_is : (es : List Entry) (names : List Numbered) (i least : ℕ) → AreSorted es names → length names ≤ i → IsLeast es (map shown names) i least
    → then_some (nat_lt least (length es)) least ≡ first_twin es
least_is es names i least sorted all is =
    let qs = map shown names in
    let same = size es qs sorted.places sorted.sorted in
    least_end es qs sorted.places sorted.sorted i least (omega (arith, all, same, length-map names shown)) is

-- names of other first letters are others
pub other_letters : (a b : Numbered) → IsLettered a → IsLettered b → (a.letters ≡ b.letters → ⊥) → is_same_name a.name.now b.name.now ≡ false
other_letters a b first second other = false_from_ne_true (is_same_name a.name.now b.name.now) (λ same. other (first ∙ same_letters a.name.now b.name.now same ∙ sym second))
