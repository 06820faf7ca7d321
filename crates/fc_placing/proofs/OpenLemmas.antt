-- Identifiers whose owners may all be shared with, found by counting those that one directory holds.
use Rattle.std.proofs.Common.{◌≡◌, ◌<◌, ◌≤◌, ◌&&◌, ◌==◌, ℕ, ◌+◌, Bool, true, false, cond, List, [], ◌∷◌, length, inl, inr, refl, sym, ap, ap₂, ◌∙◌, arith, nat_le, eq-eqb}
use Rattle.std.specs.Prelude.{◌||◌, count_by, filter, not}
use Rattle.std.specs.List.{list_all, list_any}
use Rattle.std.specs.List.Sorted.{IsPermutation}
use Rattle.std.proofs.lemmas.Bool.{cases_eq, ne_eqb}
use Rattle.std.proofs.lemmas.List.Sorted.{length_permutation, list_any-IsPermutation}
use Rattle.std.proofs.lemmas.List.Sums.{sum_by-cons}
use Rattle.std.proofs.lemmas.Map.Views.{any-filter_same}
use Rattle.fc_alloc.specs.declared.owner.Owner.{Owner}
use Rattle.fc_alloc.specs.Owners.{is_held}
use Rattle.fc_placing.specs.Lows.{is_clear}
use Rattle.fc_placing.specs.Slack.{allows, has_id, is_open, leaves_free, may_share}
use Rattle.fc_changes.proofs.BasicLemmas.{and_false}

-- an owner that the directory does not hold may not be shared with
closed : (dir : ℕ) (o : Owner) → (o.dir == dir) ≡ false → is_open dir o ≡ false
closed dir o e = ap (λ (b : Bool). (o.file && b) && nat_le 1 o.low) e ∙ ap (λ (b : Bool). b && nat_le 1 o.low) (and_false o.file)

-- ---- tests of lists

all_any : (p : Owner → Bool) (xs : List Owner) → list_all p xs ≡ not (list_any (λ x. not (p x)) xs)
all_any p [] = refl
all_any p (x ∷ xs) = ap (λ (b : Bool). p x && b) (all_any p xs) ∙ by (p x) (list_any (λ x. not (p x)) xs)
  where
    by : (a b : Bool) → (a && not b) ≡ not (not a || b)
    by true b = refl
    by false b = refl

all_moved : (p : Owner → Bool) (xs ys : List Owner) → IsPermutation xs ys → list_all p xs ≡ list_all p ys
all_moved p xs ys moved = all_any p xs ∙ ap not (list_any-IsPermutation (λ x. not (p x)) xs ys moved) ∙ sym (all_any p ys)

-- ---- the owners of one identifier that the directory holds

module _ (dir id : ℕ) where
  abbrev number : List Owner → ℕ
  number owners = count_by (has_id id) owners

  abbrev held : List Owner → List Owner
  held owners = filter (has_id id) (filter (is_held dir) owners)

  held_more : (o : Owner) (owners : List Owner) → held (o ∷ owners) ≡ cond (o.dir == dir) (cond (o.id == id) (o ∷ held owners) (held owners)) (held owners)
  held_more o owners = by (o.dir == dir)
    where
      by : (b : Bool) → filter (has_id id) (cond b (o ∷ filter (is_held dir) owners) (filter (is_held dir) owners)) ≡ cond b (cond (o.id == id) (o ∷ held owners) (held owners)) (held owners)
      by true = refl
      by false = refl

  held_few : (owners : List Owner) → length (held owners) ≤ number owners
  held_few [] = omega arith
  held_few (o ∷ owners) =
      let all = sum_by-cons (λ p. cond (has_id id p) 1 0) o owners in
      let some = ap (λ (os : List Owner). length os) (held_more o owners) in
      let few = by (o.dir == dir) (o.id == id) (held_few owners) in
      omega (arith, all, some, few)
    where
      by : (h s : Bool) → length (held owners) ≤ number owners → length (cond h (cond s (o ∷ held owners) (held owners)) (held owners)) ≤ cond s 1 0 + number owners
      by true true few = omega arith
      by true false few = omega arith
      by false true few = omega arith
      by false false few = omega arith

  same_test : (a b c d : ℕ) → (a ≡ b → c ≡ d) → (c ≡ d → a ≡ b) → (a == b) ≡ (c == d)
  same_test a b c d to from = elim (cases_eq a b) [
    | inl same ↦ eq-eqb a b same ∙ sym (eq-eqb c d (to same))
    | inr other ↦ ne_eqb a b other ∙ sym (ne_eqb c d (λ e. other (from e)))
  ]

  -- as many as there are owners, and each may be shared with: so all owners may be shared with
  all_open : (owners : List Owner) → ((length (held owners) == number owners) && list_all (is_open dir) (held owners)) ≡ list_all (allows dir id) owners
  all_open [] = refl
  all_open (o ∷ owners) =
      ap₂ (λ (os : List Owner) (k : ℕ). (length os == k) && list_all (is_open dir) os) (held_more o owners) (sum_by-cons (λ p. cond (has_id id p) 1 0) o owners)
      ∙ by (o.dir == dir) refl (o.id == id) (held owners) (number owners) (list_all (allows dir id) owners) (held_few owners) (all_open owners)
    where
      plain : (os : List Owner) (k : ℕ) (all : Bool) → ((length os == k) && list_all (is_open dir) os) ≡ all → ((length os == 0 + k) && list_all (is_open dir) os) ≡ all
      plain os k all e = ap (λ (b : Bool). b && list_all (is_open dir) os) (same_test (length os) (0 + k) (length os) k (λ h. omega arith) (λ h. omega arith)) ∙ e

      here : (b : Bool) (os : List Owner) (k : ℕ) (all : Bool) → ((length os == k) && list_all (is_open dir) os) ≡ all
          → ((length (o ∷ os) == 1 + k) && (b && list_all (is_open dir) os)) ≡ (b && all)
      here true os k all e = ap (λ (b : Bool). b && list_all (is_open dir) os) (same_test (length (o ∷ os)) (1 + k) (length os) k (λ h. omega arith) (λ h. omega arith)) ∙ e
      here false os k all e = and_false (length (o ∷ os) == 1 + k)

      by : (h : Bool) → (o.dir == dir) ≡ h → (s : Bool) (os : List Owner) (k : ℕ) (all : Bool) → length os ≤ k → ((length os == k) && list_all (is_open dir) os) ≡ all
          → ((length (cond h (cond s (o ∷ os) os) os) == cond s 1 0 + k) && list_all (is_open dir) (cond h (cond s (o ∷ os) os) os)) ≡ ((not s || is_open dir o) && all)
      by true e true os k all few ih = here (is_open dir o) os k all ih
      by true e false os k all few ih = plain os k all ih
      by false e true os k all few ih =
          ap (λ (b : Bool). b && list_all (is_open dir) os) (ne_eqb (length os) (1 + k) (λ h. absurd (omega (arith, few, h))))
          ∙ sym (ap (λ (b : Bool). b && all) (closed dir o e))
      by false e false os k all few ih = plain os k all ih

  -- then the directory holds them all
  pub same_owners : (owners : List Owner) → list_all (allows dir id) owners ≡ true → held owners ≡ filter (has_id id) owners
  same_owners [] all = refl
  same_owners (o ∷ owners) all = held_more o owners ∙ by (o.dir == dir) refl (o.id == id) (is_open dir o) refl all (λ h. same_owners owners h)
    where
      by : (h : Bool) → (o.dir == dir) ≡ h → (s t : Bool) → is_open dir o ≡ t → ((not s || t) && list_all (allows dir id) owners) ≡ true
          → (list_all (allows dir id) owners ≡ true → held owners ≡ filter (has_id id) owners)
          → cond h (cond s (o ∷ held owners) (held owners)) (held owners) ≡ cond s (o ∷ filter (has_id id) owners) (filter (has_id id) owners)
      by true e true true f h rest = ap (λ (os : List Owner). o ∷ os) (rest h)
      by true e true false f h rest = absurd (cc)
      by true e false t f h rest = rest h
      by false e true true f h rest = absurd (let bad : true ≡ false = sym f ∙ closed dir o e in cc)
      by false e true false f h rest = absurd (cc)
      by false e false t f h rest = rest h

  any_kept : (owners : List Owner) → list_any (has_id id) (filter (has_id id) owners) ≡ list_any (has_id id) owners
  any_kept owners = any-filter_same (has_id id) (has_id id) true (λ o e. e) owners

  -- an identifier of which the directory holds no owner may not be shared
  pub none_held : (owners : List Owner) → held owners ≡ [] → may_share owners dir id ≡ false
  none_held owners none = by (list_all (allows dir id) owners) refl
    where
      by : (all : Bool) → list_all (allows dir id) owners ≡ all → (list_any (has_id id) owners && all) ≡ false
      by true e = ap (λ (b : Bool). b && true) (sym (any_kept owners) ∙ ap (list_any (has_id id)) (sym (same_owners owners e) ∙ none))
      by false e = and_false (list_any (has_id id) owners)

  some_pass : (owners : List Owner) → 0 < number owners → list_any (has_id id) owners ≡ true
  some_pass [] some = absurd (omega arith)
  some_pass (o ∷ owners) some = by (o.id == id) (let all = sum_by-cons (λ p. cond (has_id id p) 1 0) o owners in omega (arith, all, some)) (some_pass owners)
    where
      by : (b : Bool) → 0 < cond b 1 0 + number owners → (0 < number owners → list_any (has_id id) owners ≡ true) → (b || list_any (has_id id) owners) ≡ true
      by true h rest = refl
      by false h rest = rest (omega arith)

-- ---- the owners that were found of one identifier

module _ (owners group : List Owner) (dir id : ℕ) (moved : IsPermutation (filter (has_id id) (filter (is_held dir) owners)) group) where
  -- as many as there are owners, and each may be shared with: so the identifier may be shared
  pub all_found : 0 < length group → ((length group == count_by (has_id id) owners) && list_all (is_open dir) group) ≡ may_share owners dir id
  all_found some =
      let long : length group ≡ length (held dir id owners) = length_permutation (held dir id owners) group moved in
      let few = held_few dir id owners in
      let any : list_any (has_id id) owners ≡ true = some_pass dir id owners (omega (arith, long, some, few)) in
      ap₂ (λ (n : ℕ) (b : Bool). (n == count_by (has_id id) owners) && b) long (sym (all_moved (is_open dir) (held dir id owners) group moved))
      ∙ all_open dir id owners
      ∙ sym (ap (λ (b : Bool). b && list_all (allows dir id) owners) any)

  -- then no other is in the way
  pub free_found : (first need : ℕ) → may_share owners dir id ≡ true → list_all (leaves_free id first need) owners ≡ list_all (is_clear first need) group
  free_found first need may =
      of_id first need owners
      ∙ ap (list_all (is_clear first need)) (sym (same_owners dir id owners (second (list_any (has_id id) owners) (list_all (allows dir id) owners) may)))
      ∙ all_moved (is_clear first need) (held dir id owners) group moved
    where
      second : (a b : Bool) → (a && b) ≡ true → b ≡ true
      second true b h = h
      second false b h = absurd (cc)

      of_id : (first need : ℕ) (os : List Owner) → list_all (leaves_free id first need) os ≡ list_all (is_clear first need) (filter (has_id id) os)
      of_id first need [] = refl
      of_id first need (o ∷ os) = by (o.id == id) (of_id first need os)
        where
          by : (b : Bool) → list_all (leaves_free id first need) os ≡ list_all (is_clear first need) (filter (has_id id) os)
              → ((not b || is_clear first need o) && list_all (leaves_free id first need) os) ≡ list_all (is_clear first need) (cond b (o ∷ filter (has_id id) os) (filter (has_id id) os))
          by true h = ap (λ (c : Bool). is_clear first need o && c) h
          by false h = h
