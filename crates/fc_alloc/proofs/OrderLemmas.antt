-- Owners in order: after one more and one less, and once sorted.
use Rattle.std.proofs.Common.{◌≡◌, ◌<◌, ◌≤◌, ◌+◌, ◌-◌, ◌&&◌, ◌||◌, ◌==◌, ◌⊎◌, ℕ, inl, inr, Bool, Ordering, true, false, List, [], length, get_or, ap, refl, sym, ◌∙◌, arith, eq-eqb}
use Rattle.std.specs.Prelude.{nat_lt, IsTrue, IsFalse}
use Rattle.std.specs.List.{insert, remove}
use Rattle.std.specs.List.Sorted.{IsPartitionedBy, IsPartitionPoint, IsSortedByKey}
use Rattle.std.specs.Ordering.{is_lt, nat_cmp, ordering_then}
use Rattle.std.proofs.lemmas.Bool.{cases_eq, cases_lt, eqb-true, lt-ltb, ltb-true}
use Rattle.std.proofs.lemmas.Bool.Decides.{nat_tests}
use Rattle.std.proofs.lemmas.Cmp.{nat_cmp_total, on_total, then_total}
use Rattle.std.proofs.lemmas.List.Sorted.{ranks_by, sorted_far}
use Rattle.std.proofs.lemmas.List.Edits.{get_or-insert_at, get_or-insert_below, get_or-insert_above, get_or-remove_below, get_or-remove_above, length-insert, length-remove}
use Rattle.fc_alloc.specs.declared.owner.Owner.{Owner}
use Rattle.fc_alloc.specs.Owners.{AreInOrder, comes_before}

-- of two owners the one may stand before the other
abbrev pub IsNoLater : Owner → Owner → Type 0
IsNoLater p o = (p.id ≤ o.id) × (p.id ≡ o.id → p.first ≤ o.first)

two : (owners : List Owner) → AreInOrder owners → (i j : ℕ) (d : Owner) → i ≤ j → j < length owners → IsNoLater (get_or owners i d) (get_or owners j d)
two owners order i j d le in' = (order.ids i j d le in', order.firsts i j d le in')

all_two : (owners : List Owner) → ((i j : ℕ) (d : Owner) → i ≤ j → j < length owners → IsNoLater (get_or owners i d) (get_or owners j d)) → AreInOrder owners
all_two owners each = record { ids = λ i j d le in'. (each i j d le in').0; firsts = λ i j d le in'. (each i j d le in').1 }

no_later : (p o a b : Owner) → a ≡ p → b ≡ o → IsNoLater p o → IsNoLater a b
no_later p o a b e f h = rw (e, f) h

-- ---- the test

before-true : (p o : Owner) → comes_before p o ≡ true → IsNoLater p o
before-true p o e = by (nat_lt p.id o.id) refl (p.id == o.id) refl (nat_lt p.first o.first) refl e
  where
    by : (a : Bool) → nat_lt p.id o.id ≡ a → (b : Bool) → (p.id == o.id) ≡ b → (c : Bool) → nat_lt p.first o.first ≡ c → (a || (b && c)) ≡ true → IsNoLater p o
    by true ea b eb c ec h = (let less = ltb-true p.id o.id ea in (omega arith, λ same. absurd (omega arith)))
    by false ea true eb true ec h = (let same = eqb-true p.id o.id eb in let less = ltb-true p.first o.first ec in (omega arith, λ h. omega arith))
    by false ea true eb false ec h = absurd (cc)
    by false ea false eb c ec h = absurd (cc)

before-false : (p o : Owner) → comes_before p o ≡ false → IsNoLater o p
before-false p o e = elim (cases_lt p.id o.id) [
  | inl less ↦ absurd (let t : nat_lt p.id o.id ≡ true = lt-ltb p.id o.id less in let bad : true ≡ false = sym (ap (λ a. a || (p.id == o.id && nat_lt p.first o.first)) t) ∙ e in cc)
  | inr more ↦ (
    more,
    λ same. elim (cases_lt p.first o.first) [
      | inl less ↦ absurd (
          let a = eq-eqb p.id o.id (sym same) in
          let b : nat_lt p.first o.first ≡ true = lt-ltb p.first o.first less in
          let bad : true ≡ false = sym (ap (λ c. nat_lt p.id o.id || c) (ap (λ c. c && nat_lt p.first o.first) a ∙ b) ∙ or_true (nat_lt p.id o.id)) ∙ e in cc)
      | inr above ↦ above
    ],
  )
]
  where
    or_true : (b : Bool) → (b || true) ≡ true
    or_true true = refl
    or_true false = refl

-- no owner comes before itself
pub not_itself : (o : Owner) → comes_before o o ≡ true → ⊥
not_itself o e = by (nat_lt o.id o.id) refl (nat_lt o.first o.first) refl e
  where
    by : (a : Bool) → nat_lt o.id o.id ≡ a → (c : Bool) → nat_lt o.first o.first ≡ c → (a || (o.id == o.id && c)) ≡ true → ⊥
    by true ea c ec h = (let less = ltb-true o.id o.id ea in absurd (omega arith))
    by false ea true ec h = (let less = ltb-true o.first o.first ec in absurd (omega arith))
    by false ea false ec h = (let bad : false ≡ true = sym (ap (λ b. b && false) (eq-eqb o.id o.id refl)) ∙ h in absurd (cc))

-- what comes before no later one comes before
earlier : (q p o : Owner) → IsNoLater q p → comes_before p o ≡ true → comes_before q o ≡ true
earlier q p o le e = elim (both (comes_before q o)) [
  | inl is ↦ is
  | inr other ↦ absurd (
      let up = before-false q o other in
      by (nat_lt p.id o.id) refl (p.id == o.id) refl (nat_lt p.first o.first) refl up e)
]
  where
    both : (b : Bool) → (b ≡ true) ⊎ (b ≡ false)
    both true = inl refl
    both false = inr refl

    by : (a : Bool) → nat_lt p.id o.id ≡ a → (b : Bool) → (p.id == o.id) ≡ b → (c : Bool) → nat_lt p.first o.first ≡ c → IsNoLater o q → (a || (b && c)) ≡ true → ⊥
    by true ea b eb c ec up h = (let less = ltb-true p.id o.id ea in let x = le.0 in let y = up.0 in absurd (omega arith))
    by false ea true eb true ec up h = (
        let same = eqb-true p.id o.id eb in
        let less = ltb-true p.first o.first ec in
        let x = le.0 in
        let y = up.0 in
        let one : q.id ≡ p.id = omega arith in
        let other : o.id ≡ q.id = omega arith in
        let f = le.1 one in
        let g = up.1 other in absurd (omega arith))
    by false ea true eb false ec up h = absurd (cc)
    by false ea false eb c ec up h = absurd (cc)

pub partitioned : (owners : List Owner) (o : Owner) → AreInOrder owners → IsPartitionedBy (λ p. comes_before p o) owners
partitioned owners o order i j d le in' e = earlier (get_or owners i d) (get_or owners j d) o (two owners order i j d le in') e

-- ---- an owner more or less

module _ (row : List Owner) (place : ℕ) (o : Owner) (order : AreInOrder row) (within : place ≤ length row)
    (point : IsPartitionPoint (λ p. IsTrue (comes_before p o)) (λ p. IsFalse (comes_before p o)) row place) where
  abbrev more : List Owner
  more = insert row place o

  past : (k : ℕ) (d : Owner) → place < k → get_or more k d ≡ get_or row (k - 1) d
  past k d above = ap (λ n. get_or more n d) (let e : k ≡ k - 1 + 1 = omega arith in e) ∙ get_or-insert_above row place o d (k - 1) (omega arith) within

  ahead : (k : ℕ) (d : Owner) → k < place → get_or more k d ≡ get_or row k d
  ahead k d below = get_or-insert_below row place o d k below within

  here : (k : ℕ) (d : Owner) → k ≡ place → get_or more k d ≡ o
  here k d e = rw e (get_or-insert_at row place o d within)

  lower : (k : ℕ) (d : Owner) → k < place → IsNoLater (get_or row k d) o
  lower k d below = before-true (get_or row k d) o (point.0 k d (omega arith) below)

  higher : (k : ℕ) (d : Owner) → place ≤ k → k < length row → IsNoLater o (get_or row k d)
  higher k d above in' = before-false (get_or row k d) o (point.1 k d above in')

  -- an owner is put behind all that come before it
  pub order_put : AreInOrder more
  order_put = all_two more (λ i j d le in'.
      let long = length-insert row place o within in
      elim (cases_lt i place) [
        | inl low ↦ elim (cases_lt j place) [
          | inl low' ↦ no_later (get_or row i d) (get_or row j d) (get_or more i d) (get_or more j d) (ahead i d low) (ahead j d low') (two row order i j d le (omega arith))
          | inr high' ↦ elim (cases_eq j place) [
            | inl at' ↦ no_later (get_or row i d) o (get_or more i d) (get_or more j d) (ahead i d low) (here j d at') (lower i d low)
            | inr other' ↦ no_later (get_or row i d) (get_or row (j - 1) d) (get_or more i d) (get_or more j d) (ahead i d low) (past j d (omega arith)) (two row order i (j - 1) d (omega arith) (omega arith))
          ]
        ]
        | inr high ↦ elim (cases_eq i place) [
          | inl at ↦ elim (cases_eq j place) [
            | inl at' ↦ no_later o o (get_or more i d) (get_or more j d) (here i d at) (here j d at') (omega arith, λ e. omega arith)
            | inr other' ↦ no_later o (get_or row (j - 1) d) (get_or more i d) (get_or more j d) (here i d at) (past j d (omega arith)) (higher (j - 1) d (omega arith) (omega arith))
          ]
          | inr other ↦ no_later (get_or row (i - 1) d) (get_or row (j - 1) d) (get_or more i d) (get_or more j d) (past i d (omega arith)) (past j d (omega arith)) (two row order (i - 1) (j - 1) d (omega arith) (omega arith))
        ]
      ])

  -- it stands from there on, if it is there
  pub stands_behind : (k : ℕ) → get_or row k o ≡ o → place ≤ k
  stands_behind k e = elim (cases_lt k place) [
    | inl below ↦ absurd (not_itself o (ap (λ p. comes_before p o) (sym e) ∙ point.0 k o (omega arith) below))
    | inr above ↦ above
  ]

-- an owner is taken out
pub order_taken : (row : List Owner) (place : ℕ) → AreInOrder row → place < length row → AreInOrder (remove row place)
order_taken row place order within = all_two (remove row place) (λ i j d le in'.
    let long = length-remove row place within in
    elim (cases_lt i place) [
      | inl low ↦ elim (cases_lt j place) [
        | inl low' ↦
            no_later (get_or row i d) (get_or row j d) (get_or (remove row place) i d) (get_or (remove row place) j d) (get_or-remove_below row place d i low within) (get_or-remove_below row place d j low' within)
            (two row order i j d le (omega arith))
        | inr high' ↦
            no_later (get_or row i d) (get_or row (j + 1) d) (get_or (remove row place) i d) (get_or (remove row place) j d) (get_or-remove_below row place d i low within) (get_or-remove_above row place d j high' within)
            (two row order i (j + 1) d (omega arith) (omega arith))
      ]
      | inr high ↦
          no_later (get_or row (i + 1) d) (get_or row (j + 1) d) (get_or (remove row place) i d) (get_or (remove row place) j d) (get_or-remove_above row place d i high within)
          (get_or-remove_above row place d j (omega arith) within) (two row order (i + 1) (j + 1) d (omega arith) (omega arith))
    ])

-- ---- sorting

-- by identifier, and then by first sector
abbrev pub key : Owner → ℕ × ℕ
key o = (o.id, o.first)

abbrev pub key_cmp : ℕ × ℕ → ℕ × ℕ → Ordering
key_cmp a b = ordering_then (nat_cmp a.0 b.0) (nat_cmp a.1 b.1)

not_below : (p o : Owner) → is_lt (key_cmp (key o) (key p)) ≡ false → IsNoLater p o
not_below p o e = (grind (arith, nat_tests, e), λ same. grind (arith, nat_tests, e, same))

-- owners that were sorted so are in order
pub in_order : (owners : List Owner) → IsSortedByKey key key_cmp owners → AreInOrder owners
in_order owners sorted =
    let total = then_total (on_total (λ (k : ℕ × ℕ). k.0) nat_cmp_total) (on_total (λ (k : ℕ × ℕ). k.1) nat_cmp_total) in
    all_two owners (λ i j d le in'.
    not_below (get_or owners i d) (get_or owners j d) (sorted_far (λ (x y : Owner). is_lt (key_cmp (key x) (key y))) (ranks_by total key) owners sorted i j d le in'))

pub none_in_order : AreInOrder []
none_in_order = all_two [] (λ i j d le in'. absurd (omega (arith, in')))
