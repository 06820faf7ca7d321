-- Marks of sectors, and the sectors that are taken.
use Rattle.std.proofs.Common.{◌≡◌, ◌<◌, ◌≤◌, ◌↔◌, ℕ, ◌+◌, ◌-◌, ◌*◌, ◌/◌, ◌%◌, ◌^◌, inl, inr, Bool, true, false, List, [], ◌∷◌, ◌++◌, length, append-nil, get_or, Option, Some, set, not, refl, sym, ap, ap₂, subst, ◌∙◌, arith}
use Rattle.std.specs.Prelude.{◌==◌, ◌||◌, ◌&&◌, nat_lt, Ok, Err}
use Rattle.std.specs.List.{list_any, range_with_len}
use Rattle.std.specs.Int.{bit_at, w64}
use Rattle.std.specs.Int.Bits.{bit_or}
use Rattle.std.proofs.lemmas.Bool.{cases_eq, cases_lt, eq-eqb, le-ltb, lt-ltb, ne_eqb, and_from as both_true}
use Rattle.std.proofs.lemmas.List.{get_or-set_other, get_or-set_same}
use Rattle.std.proofs.lemmas.Option.{slice_get-get_or}
use Rattle.std.proofs.lemmas.Grind.{flat_map-append}
use Rattle.std.proofs.lemmas.Nat.Bits.{bit_at_ones, bit_at_set_other, bit_at_set_same}
use Rattle.fc_device.specs.declared.disk.Extent.{Extent}
use Rattle.fc_newmap.proofs.CoverLemmas.{range_cut}
use Rattle.fc_newmap.proofs.PlaceLemmas.{in_front, in_back, in_either, in_range, range_in}
use Rattle.fc_image.specs.Layout.{is_among}
use Rattle.fc_objects.specs.Extents.{extent_sectors, sectors_in}
use Rattle.fc_tree.specs.Taken.{Marks, has_mark, is_free, AreTaken}
use Rattle.fc_space.proofs.IndexedLemmas.{push_sectors}

any_default : (xs : List ℕ) (i d e : ℕ) → i < length xs → get_or xs i d ≡ get_or xs i e
any_default xs i d e low = some_same _ _ (sym (slice_get-get_or xs i d low) ∙ slice_get-get_or xs i e low)
  where
    some_same : (x y : ℕ) → (let o : Option ℕ = Some x in o) ≡ Some y → x ≡ y
    some_same x y f = cc

-- a sector is marked
pub marked : (words words' : List ℕ) (sectors at w : ℕ) → at < sectors → sectors ≤ 64 * length words → w ≡ get_or words (at / 64) w
    → words' ≡ set words (at / 64) (bit_or w (1 * 2 ^ (at % 64) % 2 ^ 64))
    → (s : ℕ) → has_mark (record { words = words'; sectors = sectors }) s ≡ ((s == at) || has_mark (record { words = words; sectors = sectors }) s)
marked words words' sectors at w low long was is s = elim (cases_eq s at) [
  | inl same ↦ (
      let there : at / 64 < length words = omega arith in
      let bit : bit_at (get_or words' (s / 64) 0) (s % 64) ≡ 1 =
      ap (λ (n : ℕ). bit_at (get_or words' (n / 64) 0) (n % 64)) same
      ∙ ap (λ (ws : List ℕ). bit_at (get_or ws (at / 64) 0) (at % 64)) is
      ∙ ap (λ (n : ℕ). bit_at n (at % 64)) (get_or-set_same words (at / 64) (bit_or w (1 * 2 ^ (at % 64) % 2 ^ 64)) 0 there)
      ∙ bit_at_set_same w64 w (at % 64) (omega arith) in
      both_true (nat_lt s sectors) (bit_at (get_or words' (s / 64) 0) (s % 64) == 1) (lt-ltb s sectors (omega arith)) (eq-eqb _ 1 bit)
      ∙ sym (ap (λ (b : Bool). b || has_mark (record { words = words; sectors = sectors }) s) (eq-eqb s at same)))
  | inr other ↦ (
      let bit : bit_at (get_or words' (s / 64) 0) (s % 64) ≡ bit_at (get_or words (s / 64) 0) (s % 64) =
      ap (λ (ws : List ℕ). bit_at (get_or ws (s / 64) 0) (s % 64)) is ∙ elim (cases_eq (s / 64) (at / 64)) [
        | inl here ↦ (
            let place : (s % 64 ≡ at % 64 → ⊥) = λ e. other (omega (arith, e, here)) in
            ap (λ (n : ℕ). bit_at (get_or (set words (at / 64) (bit_or w (1 * 2 ^ (at % 64) % 2 ^ 64))) n 0) (s % 64)) here
            ∙ ap (λ (n : ℕ). bit_at n (s % 64)) (get_or-set_same words (at / 64) (bit_or w (1 * 2 ^ (at % 64) % 2 ^ 64)) 0 (omega arith))
            ∙ bit_at_set_other w64 w (at % 64) (omega arith) (s % 64) place
            ∙ ap (λ (n : ℕ). bit_at n (s % 64)) (was ∙ any_default words (at / 64) w 0 (omega arith) ∙ ap (λ (n : ℕ). get_or words n 0) (sym here)))
        | inr there ↦ ap (λ (n : ℕ). bit_at n (s % 64)) (get_or-set_other words (at / 64) (s / 64) (bit_or w (1 * 2 ^ (at % 64) % 2 ^ 64)) 0 there)
      ] in
      ap (λ (n : ℕ). nat_lt s sectors && (n == 1)) bit ∙ sym (ap (λ (b : Bool). b || has_mark (record { words = words; sectors = sectors }) s) (ne_eqb s at other)))
]

-- ---- rows of sectors

-- none of these is marked
pub none_marked : (m : Marks) (xs : List ℕ) → ((s : ℕ) → is_among xs s ≡ true → has_mark m s ≡ false) → is_free m xs ≡ true
none_marked m [] none = refl
none_marked m (x ∷ xs) none =
    ap (λ (b : Bool). not (b || list_any (has_mark m) xs)) (none x (in_front (x ∷ []) xs x (ap (λ (b : Bool). b || false) (eq-eqb x x refl))))
    ∙ none_marked m xs (λ s e. none s (in_back (x ∷ []) xs s e))

pub one_marked : (m : Marks) (xs : List ℕ) (s : ℕ) → is_among xs s ≡ true → has_mark m s ≡ true → is_free m xs ≡ false
one_marked m [] s e h = absurd (cc)
one_marked m (x ∷ xs) s e h = elim (in_either (x ∷ []) xs s e) [
  | Ok here ↦ ap (λ (b : Bool). not (b || list_any (has_mark m) xs)) (ap (has_mark m) (one x here) ∙ h)
  | Err later ↦ by (has_mark m x) (one_marked m xs s later h)
]
  where
    one : (y : ℕ) → is_among (y ∷ []) s ≡ true → y ≡ s
    one y f = elim (cases_eq y s) [
      | inl same ↦ same
      | inr other ↦ absurd (let g : (false || false) ≡ true = ap (λ (b : Bool). b || false) (sym (ne_eqb y s other)) ∙ f in cc)
    ]

    by : (b : Bool) → not (list_any (has_mark m) xs) ≡ false → not (b || list_any (has_mark m) xs) ≡ false
    by true f = refl
    by false f = f

pub bool_same : (b c : Bool) → (b ≡ true → c ≡ true) → (c ≡ true → b ≡ true) → b ≡ c
bool_same true true f g = refl
bool_same true false f g = absurd (let h = f refl in cc)
bool_same false true f g = absurd (let h = g refl in cc)
bool_same false false f g = refl

pub among_append : (xs ys : List ℕ) (s : ℕ) → is_among (xs ++ ys) s ≡ (is_among xs s || is_among ys s)
among_append [] ys s = refl
among_append (x ∷ xs) ys s = by (x == s) (among_append xs ys s)
  where
    by : (b : Bool) → is_among (xs ++ ys) s ≡ (is_among xs s || is_among ys s) → (b || is_among (xs ++ ys) s) ≡ ((b || is_among xs s) || is_among ys s)
    by true f = refl
    by false f = f

or_swap : (a b c : Bool) → (a || (b || c)) ≡ ((b || a) || c)
or_swap true true c = refl
or_swap true false c = refl
or_swap false true c = refl
or_swap false false c = refl

-- the order of what is taken counts for nothing
pub taken_more : (m : Marks) (xs ys zs taken : List ℕ) → zs ≡ ys ++ xs → AreTaken m (xs ++ (ys ++ taken)) → AreTaken m (zs ++ taken)
taken_more m xs ys zs taken is all s low =
    all s low ∙ among_append xs (ys ++ taken) s ∙ ap (λ (b : Bool). is_among xs s || b) (among_append ys taken s) ∙ or_swap (is_among xs s) (is_among ys s) (is_among taken s)
    ∙ sym (ap (λ (b : Bool). b || is_among taken s) (ap (λ (l : List ℕ). is_among l s) is ∙ among_append ys xs s)) ∙ sym (among_append zs taken s)

-- the sectors of whole words are marked
pub words_marked : (words words' : List ℕ) (sectors at from to : ℕ) → 64 * from ≡ at → 64 * to ≤ sectors → sectors ≤ 64 * length words
    → ((k : ℕ) → from ≤ k → k < to → get_or words' k 0 ≡ 2 ^ 64 - 1) → ((k : ℕ) → k < from → get_or words' k 0 ≡ get_or words k 0) → ((k : ℕ) → to ≤ k → get_or words' k 0 ≡ get_or words k 0)
    → (s : ℕ) → has_mark (record { words = words'; sectors = sectors }) s ≡ (is_among (range_with_len at (64 * to - at)) s || has_mark (record { words = words; sectors = sectors }) s)
words_marked words words' sectors at from to first low long inside before behind s = elim (cases_lt (s / 64) from) [
  | inl early ↦ unmarked (before (s / 64) early) (λ a b. omega (arith, early, first, a))
  | inr later ↦ elim (cases_lt (s / 64) to) [
    | inr late ↦ unmarked (behind (s / 64) late) (λ a b. omega (arith, late, first, b))
    | inl here ↦ (
        let bit : bit_at (get_or words' (s / 64) 0) (s % 64) ≡ 1 = ap (λ (n : ℕ). bit_at n (s % 64)) (inside (s / 64) later here) ∙ bit_at_ones 64 (s % 64) (omega arith) in
        both_true (nat_lt s sectors) (bit_at (get_or words' (s / 64) 0) (s % 64) == 1) (lt-ltb s sectors (omega (arith, here, low))) (eq-eqb _ 1 bit)
        ∙ sym (ap (λ (b : Bool). b || has_mark (record { words = words; sectors = sectors }) s) (in_range at (64 * to - at) s (omega (arith, later, first)) (omega (arith, here, first)))))
  ]
]
  where
    outside : (at ≤ s → s < at + (64 * to - at) → ⊥) → (b : Bool) → is_among (range_with_len at (64 * to - at)) s ≡ b → is_among (range_with_len at (64 * to - at)) s ≡ false
    outside away false e = e
    outside away true e = absurd (let r = range_in at (64 * to - at) s e in away r.0 r.1)

    unmarked : get_or words' (s / 64) 0 ≡ get_or words (s / 64) 0 → (at ≤ s → s < at + (64 * to - at) → ⊥)
        → has_mark (record { words = words'; sectors = sectors }) s ≡ (is_among (range_with_len at (64 * to - at)) s || has_mark (record { words = words; sectors = sectors }) s)
    unmarked same away =
        ap (λ (w : ℕ). nat_lt s sectors && (bit_at w (s % 64) == 1)) same
        ∙ sym (ap (λ (b : Bool). b || has_mark (record { words = words; sectors = sectors }) s) (outside away (is_among (range_with_len at (64 * to - at)) s) refl))

-- more sectors of a row are marked
pub row_more : (m m' : Marks) (first at next : ℕ) (taken : List ℕ) → first ≤ at → at ≤ next → m'.sectors ≡ m.sectors
    → ((s : ℕ) → has_mark m' s ≡ (is_among (range_with_len at (next - at)) s || has_mark m s))
    → AreTaken m (range_with_len first (at - first) ++ taken) → AreTaken m' (range_with_len first (next - first) ++ taken)
row_more m m' first at next taken from on same marks all =
    let row : range_with_len first (next - first) ≡ range_with_len first (at - first) ++ range_with_len at (next - at) =
    ap (range_with_len first) (let e : next - first ≡ (at - first) + (next - at) = omega (arith, from, on) in e) ∙ range_cut first (at - first) (next - at)
    ∙ ap (λ (n : ℕ). range_with_len first (at - first) ++ range_with_len n (next - at)) (let e : first + (at - first) ≡ at = omega (arith, from) in e) in
    taken_more m' (range_with_len at (next - at)) (range_with_len first (at - first)) (range_with_len first (next - first)) taken row
    (λ s low. marks s ∙ ap (λ (b : Bool). is_among (range_with_len at (next - at)) s || b) (all s (subst (λ (n : ℕ). s < n) same low))
    ∙ sym (among_append (range_with_len at (next - at)) (range_with_len first (at - first) ++ taken) s))

-- a row that ends with the disc
pub row_ends : (m : Marks) (first at n : ℕ) (taken : List ℕ) → first ≤ at → ((s : ℕ) → s < m.sectors → first ≤ s → (s < at ↔ s < first + n))
    → AreTaken m (range_with_len first (at - first) ++ taken) → AreTaken m (range_with_len first n ++ taken)
row_ends m first at n taken from last all s low =
    let same : is_among (range_with_len first (at - first)) s ≡ is_among (range_with_len first n) s =
    bool_same _ _
    (λ e. (let r = range_in first (at - first) s e in in_range first n s r.0 ((last s low r.0).0 (let f : s < at = omega (arith, r.0, r.1, from) in f))))
    (λ e. (let r = range_in first n s e in in_range first (at - first) s r.0 (let f = (last s low r.0).1 r.1 in omega (arith, f, from)))) in
    all s low ∙ among_append (range_with_len first (at - first)) taken s ∙ ap (λ (b : Bool). b || is_among taken s) same ∙ sym (among_append (range_with_len first n) taken s)

-- a row of which none is marked
pub row_free : (m : Marks) (first at n : ℕ) → first ≤ at → ((s : ℕ) → s < m.sectors → first ≤ s → (s < at ↔ s < first + n))
    → ((s : ℕ) → first ≤ s → s < at → has_mark m s ≡ false) → is_free m (range_with_len first n) ≡ true
row_free m first at n from last none =
    none_marked m (range_with_len first n) (λ s e. (let r = range_in first n s e in elim (cases_lt s m.sectors) [
      | inl low ↦ none s r.0 ((last s low r.0).1 r.1)
      | inr high ↦ ap (λ (b : Bool). b && (bit_at (get_or m.words (s / 64) 0) (s % 64) == 1)) (le-ltb s m.sectors high)
    ]))

pub row_taken : (m : Marks) (first at n : ℕ) → first ≤ at → at < m.sectors → at < first + n → has_mark m at ≡ true → is_free m (range_with_len first n) ≡ false
row_taken m first at n from low high h = one_marked m (range_with_len first n) at (in_range first n at from high) h

-- a loop over the sectors of a row ends at its end, or where it began
pub row_last : (first end at n sectors : ℕ) → end ≤ at → (first < at → at ≤ end) → ((s : ℕ) → s < sectors → first ≤ s → (s < end ↔ s < first + n))
    → (s : ℕ) → s < sectors → first ≤ s → (s < at ↔ s < first + n)
row_last first end at n sectors past within last s low from =
    ((λ h. (last s low from).0 (let w = within (omega (arith, h, from)) in omega (arith, h, w))), (λ h. (let f = (last s low from).1 h in omega (arith, f, past))))
