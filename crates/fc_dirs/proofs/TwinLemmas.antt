-- Names that fold to one.
use Rattle.std.proofs.Common.{◌≡◌, ◌<◌, ◌≤◌, ℕ, zero, suc, ◌+◌, ◌-◌, inl, inr, Bool, ◌||◌, List, [], ◌∷◌, length, insert, remove, set, length-take-le, refl, get_or, take, false, true, Some, None, sym, ap, ◌∙◌, arith}
use Rattle.std.specs.List.{list_any}
use Rattle.std.specs.Ordering.{nat_cmp, is_eq, ordering_reverse}
use Rattle.std.specs.declared.cmp.Ordering.{Ordering}
use Rattle.std.specs.declared.cmp.Ordering.TheVariants.{Less, Equal, Greater}
use Rattle.std.specs.Cmp.Lexicographic.{slice_cmp}
use Rattle.std.proofs.lemmas.Cmp.{nat_list_cmp_total}
use Rattle.std.proofs.lemmas.Bool.{cases_order, cases_lt}
use Rattle.std.proofs.lemmas.List.{get_or-take, get_or-set_same, get_or-set_other, length-set}
use Rattle.std.proofs.lemmas.List.Edits.{length-insert, get_or-insert_below, get_or-insert_at, get_or-insert_above, length-remove, get_or-remove_below, get_or-remove_above}
use Rattle.fc_names.specs.Names.{is_same_name, folded}
use Rattle.std.specs.Option.{option_map_or}
use Rattle.std.proofs.lemmas.Option.{slice_get-get_or}
use Rattle.fc_dirs.specs.declared.Entry.{Entry}
use Rattle.fc_dirs.specs.Entries.{is_twin, first_twin, has_name}
use Rattle.fc_dirs.proofs.SearchLemmas.{blank, is_some-find, find-none, find-found, fails-find}

pub is_twin-at : (es : List Entry) (i : ℕ) (d : Entry) → i < length es → is_twin es i ≡ has_name (take i es) (get_or es i d).name
is_twin-at es i d within = ap (λ o. option_map_or (λ e. has_name (take i es) e.name) o false) (slice_get-get_or es i d within)

pub twin_found : (es : List Entry) (i : ℕ) → i < length es → ((k : ℕ) → k < i → is_twin es k ≡ false) → is_twin es i ≡ true → Some i ≡ first_twin es
twin_found es i within fails passes =
    sym (find-found (is_twin es) 0 (length es) i within (λ k h. at_zero es k false (fails k h)) (at_zero es i true passes) ∙ ap Some (zero_add i)) where
      zero_add : (n : ℕ) → 0 + n ≡ n
      zero_add n = omega arith

      at_zero : (es : List Entry) (k : ℕ) (b : _) → is_twin es k ≡ b → is_twin es (0 + k) ≡ b
      at_zero es k b is = let place : 0 + k ≡ k = omega arith in rw place is

pub none_twin : (es : List Entry) → ((k : ℕ) → k < length es → is_twin es k ≡ false) → None ≡ first_twin es
none_twin es fails = sym (find-none (is_twin es) 0 (length es) (λ k h. let place : 0 + k ≡ k = omega arith in rw place (fails k h)))

pub fails_twin : (es : List Entry) → first_twin es ≡ None → (k : ℕ) → k < length es → is_twin es k ≡ false
fails_twin es none k within = let place : 0 + k ≡ k = omega arith in rw place at (fails-find (is_twin es) 0 (length es) none k within)

-- ---- names that are apart

-- no name folds to an earlier one
abbrev pub Apart : List Entry → Type 0
Apart es = (i j : ℕ) → i < j → j < length es → is_same_name (get_or es j blank).name (get_or es i blank).name ≡ false

reversed_eq : (o : Ordering) → is_eq (ordering_reverse o) ≡ is_eq o
reversed_eq Less = refl
reversed_eq Equal = refl
reversed_eq Greater = refl

pub same_name_sym : (a b : List ℕ) → is_same_name a b ≡ is_same_name b a
same_name_sym a b =
    ap is_eq (nat_list_cmp_total.antisymm (folded a) (folded b)) ∙ reversed_eq (slice_cmp nat_cmp (folded b) (folded a))

none_of_any : {X : Type 0} (p : X → Bool) (xs : List X) → list_any p xs ≡ false → (i : ℕ) (d : X) → i < length xs → p (get_or xs i d) ≡ false
none_of_any p [] none i d within = absurd (omega arith)
none_of_any p (x ∷ xs) none i d within = go (p x) refl none i within (none_of_any p xs) where
  go : (b : Bool) → p x ≡ b → (p x || list_any p xs) ≡ false → (i : ℕ) → i < length (x ∷ xs) → (list_any p xs ≡ false → (i : ℕ) (d : _) → i < length xs → p (get_or xs i d) ≡ false) → p (get_or (x ∷ xs) i d) ≡ false
  go true is none i within more = absurd (let bad : true ≡ false = rw is at none in cc)
  go false is none zero within more = is
  go false is none (suc i) within more = more (rw is at none) i d (omega arith)

any_of_none : {X : Type 0} (p : X → Bool) (xs : List X) (d : X) → ((i : ℕ) → i < length xs → p (get_or xs i d) ≡ false) → list_any p xs ≡ false
any_of_none p [] d none = refl
any_of_none p (x ∷ xs) d none =
    let here : p x ≡ false = none 0 (omega arith) in
    rw here (any_of_none p xs d (λ i h. none (suc i) (omega (arith, h))))

-- where no entry has the name, each name is another
pub absent_names : (es : List Entry) (name : List ℕ) → has_name es name ≡ false → (i : ℕ) → i < length es → is_same_name name (get_or es i blank).name ≡ false
absent_names es name absent i within =
    none_of_any (λ (e : Entry). is_same_name name e.name) es (sym (is_some-find (λ (e : Entry). is_same_name name e.name) es) ∙ absent) i blank within

pub apart_from : (es : List Entry) → first_twin es ≡ None → Apart es
apart_from es none i j order within =
    let twin : has_name (take j es) (get_or es j blank).name ≡ false = sym (is_twin-at es j blank within) ∙ fails_twin es none j within in
    let inside : i < length (take j es) = rw (length-take-le j es (omega arith)) order in
    let other = absent_names (take j es) (get_or es j blank).name twin i inside in
    rw (get_or-take j es i blank order) at other

pub none_from : (es : List Entry) → Apart es → first_twin es ≡ None
none_from es apart =
    sym (none_twin es (λ j within.
    is_twin-at es j blank within ∙ is_some-find (λ (e : Entry). is_same_name (get_or es j blank).name e.name) (take j es)
    ∙ any_of_none (λ (e : Entry). is_same_name (get_or es j blank).name e.name) (take j es) blank
    (λ i inside.
    let order : i < j = omega (arith, inside, length-take-le j es (omega arith)) in
    rw (get_or-take j es i blank order) (apart i j order within))))

-- a new name in any place
pub apart_insert : (es : List Entry) (p : ℕ) (e : Entry) → Apart es → p ≤ length es → has_name es e.name ≡ false → Apart (insert es p e)
apart_insert es p e apart inside absent i j order within =
    elim (cases_order j p) [
      | inl at ↦ rw (at, get_or-insert_at es p e blank inside) (rw (get_or-insert_below es p e blank i (omega arith) inside) (absent_names es e.name absent i (omega arith)))
      | inr other ↦ elim other [
        | inl before ↦
            rw (get_or-insert_below es p e blank j before inside) (rw (get_or-insert_below es p e blank i (omega arith) inside) (apart i j order (omega arith)))
        | inr behind ↦ later i j order within behind
      ]
    ] where
      later : (i j : ℕ) → i < j → j < length (insert es p e) → p < j → is_same_name (get_or (insert es p e) j blank).name (get_or (insert es p e) i blank).name ≡ false
      later i j order within behind =
          let last : j - 1 + 1 ≡ j = omega arith in
          let size = length-insert es p e inside in
          let shown : get_or (insert es p e) j blank ≡ get_or es (j - 1) blank = rw last at (get_or-insert_above es p e blank (j - 1) (omega arith) inside) in
          rw shown (elim (cases_order i p) [
            | inl at ↦ rw (at, get_or-insert_at es p e blank inside) (same_name_sym (get_or es (j - 1) blank).name e.name ∙ absent_names es e.name absent (j - 1) (omega arith))
            | inr other ↦ elim other [
              | inl before ↦ rw (get_or-insert_below es p e blank i before inside) (apart i (j - 1) (omega arith) (omega arith))
              | inr past ↦
                  let first : i - 1 + 1 ≡ i = omega arith in
                  let seen : get_or (insert es p e) i blank ≡ get_or es (i - 1) blank = rw first at (get_or-insert_above es p e blank (i - 1) (omega arith) inside) in
                  rw seen (apart (i - 1) (j - 1) (omega arith) (omega arith))
            ]
          ])

-- one name less: each entry is one of before, in the same order
kept_place : (es : List Entry) (p : ℕ) → p < length es → (k : ℕ) → (n : ℕ) × (get_or (remove es p) k blank ≡ get_or es n blank) × (k ≤ n) × (n ≤ k + 1) × (k < p → n ≡ k) × (p ≤ k → n ≡ k + 1)
kept_place es p inside k = elim (cases_lt k p) [
  | inl before ↦ (k, get_or-remove_below es p blank k before inside, omega arith, omega arith, λ _. refl, λ h. absurd (omega (arith, h)))
  | inr behind ↦ (k + 1, get_or-remove_above es p blank k behind inside, omega arith, omega arith, λ h. absurd (omega (arith, h)), λ _. refl)
]

pub apart_remove : (es : List Entry) (p : ℕ) → Apart es → p < length es → Apart (remove es p)
apart_remove es p apart inside i j order within =
    let size = length-remove es p inside in
    let a = kept_place es p inside i in
    let b = kept_place es p inside j in
    rw (a.1, b.1) (apart a.0 b.0 (rising a.0 b.0 (a.4) (a.5) (b.4) (b.5)) (omega (arith, b.3))) where
      rising : (m n : ℕ) → (i < p → m ≡ i) → (p ≤ i → m ≡ i + 1) → (j < p → n ≡ j) → (p ≤ j → n ≡ j + 1) → m < n
      rising m n a4 a5 b4 b5 = elim (cases_lt i p) [
        | inl l ↦ elim (cases_lt j p) [ inl k ↦ omega (arith, a4 l, b4 k) | inr k ↦ omega (arith, a4 l, b5 k) ]
        | inr l ↦ omega (arith, a5 l, b5 (omega arith))
      ]

-- another entry of the same name
pub apart_set : (es : List Entry) (p : ℕ) (e : Entry) → Apart es → e.name ≡ (get_or es p blank).name → p < length es → Apart (set es p e)
apart_set es p e apart same inside i j order within =
    let size = length-set es p e in
    rw (kept i, kept j) (apart i j order (omega arith)) where
      kept : (k : ℕ) → (get_or (set es p e) k blank).name ≡ (get_or es k blank).name
      kept k = elim (cases_order k p) [
        | inl at ↦ rw (at, get_or-set_same es p e blank inside) same
        | inr other ↦ elim other [
          | inl before ↦ ap (λ (x : Entry). x.name) (get_or-set_other es p k e blank (λ (h : k ≡ p). absurd (omega (arith, h))))
          | inr behind ↦ ap (λ (x : Entry). x.name) (get_or-set_other es p k e blank (λ (h : k ≡ p). absurd (omega (arith, h))))
        ]
      ]
