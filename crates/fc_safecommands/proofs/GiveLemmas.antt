-- Spaces that go back make the same holes in any order.
use Rattle.std.proofs.Common.{◌≡◌, ◌<◌, ◌≤◌, ◌+◌, ◌⊎◌, inl, inr, ℕ, Bool, cond, List, [], ◌∷◌, refl, sym, ap, ap₂, subst, ◌∙◌, arith, eq-eqb}
use Rattle.std.specs.Prelude.{◌==◌}
use Rattle.std.proofs.lemmas.Bool.{cases_eq, cases_lt, le-ltb, lt-ltb, ne_eqb}
use Rattle.fc_oldmap.specs.declared.Hole.{Hole}
use Rattle.fc_oldmap.specs.Holes.{after_give, hole, hole_end}
use Rattle.fc_changes.proofs.lemmas.old.HoleLemmas.{IsIn, IsInOne, in_given}
use Rattle.fc_image.specs.effects.Steady.{holes_with}

-- ---- giving one space

past : (x h : Hole) (hs : List Hole) → hole_end h < x.start → after_give x (h ∷ hs) ≡ h ∷ after_give x hs
unfolding after_give
past x h hs less =
    ap (λ (b : Bool). cond b (h ∷ after_give x hs) (cond (hole_end h == x.start) (after_give (hole h.start (h.len + x.len)) hs) (cond (hole_end x == h.start) (hole x.start (x.len + h.len) ∷ hs) (x ∷ h ∷ hs))))
    (lt-ltb (hole_end h) x.start less)

at_end : (x h : Hole) (hs : List Hole) → hole_end h ≡ x.start → after_give x (h ∷ hs) ≡ after_give (hole h.start (h.len + x.len)) hs
unfolding after_give
at_end x h hs e =
    ap₂ (λ (a b : Bool). cond a (h ∷ after_give x hs) (cond b (after_give (hole h.start (h.len + x.len)) hs) (cond (hole_end x == h.start) (hole x.start (x.len + h.len) ∷ hs) (x ∷ h ∷ hs))))
    (le-ltb (hole_end h) x.start (omega (arith, e))) (eq-eqb (hole_end h) x.start e)

at_start : (x h : Hole) (hs : List Hole) → 0 < x.len → 0 < h.len → hole_end x ≡ h.start → after_give x (h ∷ hs) ≡ hole x.start (x.len + h.len) ∷ hs
unfolding after_give
at_start x h hs long some e =
    ap₂ (λ (a b : Bool). cond a (h ∷ after_give x hs) (cond b (after_give (hole h.start (h.len + x.len)) hs) (cond (hole_end x == h.start) (hole x.start (x.len + h.len) ∷ hs) (x ∷ h ∷ hs))))
    (le-ltb (hole_end h) x.start (omega (arith, long, some, e))) (ne_eqb (hole_end h) x.start (λ k. omega (arith, k, long, some, e)))
    ∙ ap (λ (b : Bool). cond b (hole x.start (x.len + h.len) ∷ hs) (x ∷ h ∷ hs)) (eq-eqb (hole_end x) h.start e)

before : (x h : Hole) (hs : List Hole) → hole_end x < h.start → after_give x (h ∷ hs) ≡ x ∷ h ∷ hs
unfolding after_give
before x h hs less =
    ap₂ (λ (a b : Bool). cond a (h ∷ after_give x hs) (cond b (after_give (hole h.start (h.len + x.len)) hs) (cond (hole_end x == h.start) (hole x.start (x.len + h.len) ∷ hs) (x ∷ h ∷ hs))))
    (le-ltb (hole_end h) x.start (omega (arith, less))) (ne_eqb (hole_end h) x.start (λ k. omega (arith, k, less)))
    ∙ ap (λ (b : Bool). cond b (hole x.start (x.len + h.len) ∷ hs) (x ∷ h ∷ hs)) (ne_eqb (hole_end x) h.start (λ k. omega (arith, k, less)))

alone : (x : Hole) → after_give x [] ≡ x ∷ []
unfolding after_give
alone x = refl

-- ---- holes in order

-- Each has some units, and begins at or after the end of the one before.
abbrev pub Rise : ℕ → List Hole → Type 0
Rise from [] = Unit {0}
Rise from (h ∷ hs) = (from ≤ h.start) × (0 < h.len) × Rise (hole_end h) hs

-- None of the space's units lies in one of them.
abbrev pub IsClear : Hole → List Hole → Type 0
IsClear x hs = (n : ℕ) → IsIn x n → IsInOne hs n → ⊥

lower : (a b : ℕ) (hs : List Hole) → a ≤ b → Rise b hs → Rise a hs
lower a b [] low r = tt
lower a b (h ∷ hs) low r = (let least = r.0 in omega (arith, low, least), r.1, r.2)

above : (from : ℕ) (hs : List Hole) (n : ℕ) → Rise from hs → IsInOne hs n → from ≤ n
above from [] n r i = absurd i
above from (h ∷ hs) n r (inl i) = let least = r.0 in let here = i.0 in omega (arith, least, here)
above from (h ∷ hs) n r (inr i) = let least = r.0 in let more = above (hole_end h) hs n r.2 i in omega (arith, least, more)

-- Two spaces that have no unit in common lie one after the other.
apart : (x h : Hole) → 0 < x.len → 0 < h.len → ((n : ℕ) → IsIn x n → IsIn h n → ⊥) → (hole_end h ≤ x.start) ⊎ (hole_end x ≤ h.start)
apart x h some long none = elim (cases_lt x.start (hole_end h)) [
  | inr after ↦ inl after
  | inl low ↦ elim (cases_lt h.start (hole_end x)) [
    | inr first ↦ inr first
    | inl high ↦ elim (cases_lt x.start h.start) [
      | inl less ↦ absurd (none h.start (omega (arith, less), high) (omega arith, omega (arith, long)))
      | inr more ↦ absurd (none x.start (omega arith, omega (arith, some)) (more, low))
    ]
  ]
]

clear_rest : (x h : Hole) (hs : List Hole) → IsClear x (h ∷ hs) → IsClear x hs
clear_rest x h hs clear n i j = clear n i (inr j)

clear_first : (x h : Hole) (hs : List Hole) → 0 < x.len → 0 < h.len → IsClear x (h ∷ hs) → (hole_end h ≤ x.start) ⊎ (hole_end x ≤ h.start)
clear_first x h hs some long clear = apart x h some long (λ n i j. clear n i (inl j))

-- Holes that rise from where a space begins do so from where it ends.
rise_past : (x : Hole) (hs : List Hole) → 0 < x.len → IsClear x hs → Rise x.start hs → Rise (hole_end x) hs
rise_past x [] some clear r = tt
rise_past x (h ∷ hs) some clear r = elim (clear_first x h hs some r.1 clear) [
  | inl first ↦ absurd (let least = r.0 in let long = r.1 in omega (arith, first, least, long))
  | inr later ↦ (later, r.1, r.2)
]

-- a hole joined with the space at its end
joined_clear : (x h : Hole) (hs : List Hole) → hole_end h ≡ x.start → IsClear x (h ∷ hs) → Rise (hole_end h) hs → IsClear (hole h.start (h.len + x.len)) hs
joined_clear x h hs e clear r n i j = elim (cases_lt n x.start) [
  | inl low ↦ (let more = above (hole_end h) hs n r j in omega (arith, low, more, e))
  | inr high ↦ clear n (high, (let last = i.1 in omega (arith, last, e))) (inr j)
]

-- Given into holes that rise, they rise.
pub rise_given : (from : ℕ) (x : Hole) (hs : List Hole) → from ≤ x.start → 0 < x.len → Rise from hs → IsClear x hs → Rise from (after_give x hs)
rise_given from x [] low some r clear = subst (Rise from) (sym (alone x)) (low, some, tt)
rise_given from x (h ∷ hs) low some r clear = elim (clear_first x h hs some r.1 clear) [
  | inl first ↦ elim (cases_eq (hole_end h) x.start) [
    | inl touch ↦ subst (Rise from) (sym (at_end x h hs touch))
        (rise_given from (hole h.start (h.len + x.len)) hs r.0 (omega (arith, some)) (lower from (hole_end h) hs (let least = r.0 in omega (arith, least)) r.2) (joined_clear x h hs touch clear r.2))
    | inr not ↦ subst (Rise from) (sym (past x h hs (omega (arith, first, not)))) (r.0, r.1, rise_given (hole_end h) x hs first some r.2 (clear_rest x h hs clear))
  ]
  | inr later ↦ elim (cases_eq (hole_end x) h.start) [
    | inl touch ↦ subst (Rise from) (sym (at_start x h hs some r.1 touch)) (low, omega (arith, some), subst (λ (n : ℕ). Rise n hs) (let e : hole_end h ≡ x.start + (x.len + h.len) = omega (arith, touch) in e) r.2)
    | inr not ↦ subst (Rise from) (sym (before x h hs (omega (arith, later, not)))) (low, some, (later, r.1, r.2))
  ]
]

-- ---- two spaces

-- A space before a hole that begins where it ends, given before or after that.
joined : (a c : Hole) (hs : List Hole) → 0 < a.len → 0 < c.len → hole_end a ≡ c.start → Rise (hole_end c) hs → after_give a (after_give c hs) ≡ after_give (hole a.start (a.len + c.len)) hs
joined a c [] some long e r = ap (after_give a) (alone c) ∙ at_start a c [] some long e ∙ sym (alone (hole a.start (a.len + c.len)))
joined a c (h ∷ hs) some long e r = elim (cases_eq (hole_end c) h.start) [
  | inl touch ↦
      ap (after_give a) (at_start c h hs long r.1 touch) ∙ at_start a (hole c.start (c.len + h.len)) hs some (omega (arith, long)) e
      ∙ ap (λ (n : ℕ). hole a.start n ∷ hs) (let sum : a.len + (c.len + h.len) ≡ (a.len + c.len) + h.len = omega arith in sum)
      ∙ sym (at_start (hole a.start (a.len + c.len)) h hs (omega (arith, some)) r.1 (let touching : a.start + (a.len + c.len) ≡ h.start = omega (arith, e, touch) in touching))
  | inr not ↦
      (let first = r.0 in
      ap (after_give a) (before c h hs (omega (arith, not, first))) ∙ at_start a c (h ∷ hs) some long e
      ∙ sym (before (hole a.start (a.len + c.len)) h hs (let less : a.start + (a.len + c.len) < h.start = omega (arith, e, not, first) in less)))
]

-- before all holes
first_of_all : (a : Hole) (hs : List Hole) → Rise (hole_end a + 1) hs → after_give a hs ≡ a ∷ hs
first_of_all a [] r = alone a
first_of_all a (h ∷ hs) r = before a h hs (let least = r.0 in omega (arith, least))

swapped : (from : ℕ) (a b : Hole) (hs : List Hole) → 0 < a.len → 0 < b.len → hole_end a ≤ b.start → Rise from hs → IsClear a hs → IsClear b hs → after_give b (after_give a hs) ≡ after_give a (after_give b hs)
swapped from a b [] some long order r clear_a clear_b = elim (cases_eq (hole_end a) b.start) [
  | inl touch ↦
      ap (after_give b) (alone a) ∙ at_end b a [] touch ∙ alone (hole a.start (a.len + b.len)) ∙ sym (ap (after_give a) (alone b) ∙ at_start a b [] some long touch)
  | inr not ↦
      ap (after_give b) (alone a) ∙ past b a [] (omega (arith, order, not)) ∙ ap (λ (hs : List Hole). a ∷ hs) (alone b)
      ∙ sym (ap (after_give a) (alone b) ∙ before a b [] (omega (arith, order, not)))
]
swapped from a b (h ∷ hs) some long order r clear_a clear_b =
    elim (clear_first a h hs some r.1 clear_a) [
      | inl first ↦ elim (cases_eq (hole_end h) a.start) [
        | inl touch ↦
            ap (after_give b) (at_end a h hs touch)
            ∙ swapped (hole_end h) (hole h.start (h.len + a.len)) b hs (omega (arith, some)) long (let low : h.start + (h.len + a.len) ≤ b.start = omega (arith, touch, order) in low) r.2 (joined_clear a h hs touch clear_a r.2) (clear_rest b h hs clear_b)
            ∙ sym (ap (after_give a) (past b h hs (omega (arith, touch, some, order))) ∙ at_end a h (after_give b hs) touch)
        | inr not ↦
            (let less : hole_end h < a.start = omega (arith, first, not) in
            ap (after_give b) (past a h hs less) ∙ past b h (after_give a hs) (omega (arith, less, some, order))
            ∙ ap (λ (ks : List Hole). h ∷ ks) (swapped (hole_end h) a b hs some long order r.2 (clear_rest a h hs clear_a) (clear_rest b h hs clear_b))
            ∙ sym (ap (after_give a) (past b h hs (omega (arith, less, some, order))) ∙ past a h (after_give b hs) less))
      ]
      | inr later ↦ elim (cases_eq (hole_end a) h.start) [
        | inl touch ↦ between touch
        | inr not ↦ in_front (let less : hole_end a < h.start = omega (arith, later, not) in less)
      ]
    ]
  where
    -- the hole begins where a ends
    between : hole_end a ≡ h.start → after_give b (after_give a (h ∷ hs)) ≡ after_give a (after_give b (h ∷ hs))
    between touch =
        let after : hole_end h ≤ b.start = elim (clear_first b h hs long r.1 clear_b) [
          | inl first ↦ first
          | inr other ↦ omega (arith, other, touch, order, long)
        ] in
        elim (cases_eq (hole_end h) b.start) [
          | inl both ↦
              ap (after_give b) (at_start a h hs some r.1 touch)
              ∙ at_end b (hole a.start (a.len + h.len)) hs (let end : a.start + (a.len + h.len) ≡ b.start = omega (arith, touch, both) in end)
              ∙ ap (λ (n : ℕ). after_give (hole a.start n) hs) (let sum : (a.len + h.len) + b.len ≡ a.len + (h.len + b.len) = omega arith in sum)
              ∙ sym (ap (after_give a) (at_end b h hs both)
              ∙ joined a (hole h.start (h.len + b.len)) hs some (omega (arith, long)) touch
              (subst (λ (n : ℕ). Rise n hs) (let end : hole_end b ≡ h.start + (h.len + b.len) = omega (arith, both) in end)
              (rise_past b hs long (clear_rest b h hs clear_b) (subst (λ (n : ℕ). Rise n hs) both r.2))))
          | inr not ↦
              (let less : hole_end h < b.start = omega (arith, after, not) in
              ap (after_give b) (at_start a h hs some r.1 touch)
              ∙ past b (hole a.start (a.len + h.len)) hs (let end : a.start + (a.len + h.len) < b.start = omega (arith, touch, less) in end)
              ∙ sym (ap (after_give a) (past b h hs less) ∙ at_start a h (after_give b hs) some r.1 touch))
        ]

    -- a ends before it begins
    in_front : hole_end a < h.start → after_give b (after_give a (h ∷ hs)) ≡ after_give a (after_give b (h ∷ hs))
    in_front less = elim (cases_eq (hole_end a) b.start) [
      | inl touch ↦
          ap (after_give b) (before a h hs less) ∙ at_end b a (h ∷ hs) touch
          ∙ sym (joined a b (h ∷ hs) some long touch (rise_past b (h ∷ hs) long clear_b (let low : b.start ≤ h.start = omega (arith, less, touch) in (low, r.1, r.2))))
      | inr not ↦
          (let gap : hole_end a < b.start = omega (arith, order, not) in
          ap (after_give b) (before a h hs less) ∙ past b a (h ∷ hs) gap
          ∙ sym (first_of_all a (after_give b (h ∷ hs)) (rise_given (hole_end a + 1) b (h ∷ hs) (omega (arith, gap)) long (let low : hole_end a + 1 ≤ h.start = omega (arith, less) in (low, r.1, r.2)) clear_b)))
    ]

in_turn : (from : ℕ) (a b : Hole) (hs : List Hole) → 0 < a.len → 0 < b.len → ((n : ℕ) → IsIn a n → IsIn b n → ⊥) → Rise from hs → IsClear a hs → IsClear b hs
    → after_give b (after_give a hs) ≡ after_give a (after_give b hs)
in_turn from a b hs some long none r clear_a clear_b = elim (apart a b some long none) [
  | inl later ↦ sym (swapped from b a hs long some later r clear_b clear_a)
  | inr first ↦ swapped from a b hs some long first r clear_a clear_b
]

-- ---- lists of spaces

-- They have some units each, none in two of them or in a hole.
abbrev pub AreSpread : List Hole → List Hole → Type 0
AreSpread hs [] = Unit {0}
AreSpread hs (x ∷ xs) = (0 < x.len) × IsClear x hs × IsClear x xs × AreSpread hs xs

pub clear_given : (x a : Hole) (hs : List Hole) → ((n : ℕ) → IsIn a n → IsIn x n → ⊥) → IsClear x hs → IsClear x (after_give a hs)
clear_given x a hs none clear n i j = elim (in_given a hs n j) [ inl of_a ↦ none n of_a i | inr of_hs ↦ clear n i of_hs ]

pub spread_given : (a : Hole) (hs xs : List Hole) → IsClear a xs → AreSpread hs xs → AreSpread (after_give a hs) xs
spread_given a hs [] clear s = tt
spread_given a hs (x ∷ xs) clear s = (s.0, clear_given x a hs (λ n i j. clear n i (inl j)) s.1, s.2, spread_given a hs xs (clear_rest a x xs clear) s.3)

-- One that is given first, or last.
pub first_or_last : (a : Hole) (hs xs : List Hole) → 0 < a.len → Rise 0 hs → IsClear a hs → IsClear a xs → AreSpread hs xs → holes_with (after_give a hs) xs ≡ after_give a (holes_with hs xs)
first_or_last a hs [] some r clear apart_xs s = refl
first_or_last a hs (x ∷ xs) some r clear apart_xs s =
    ap (λ (ks : List Hole). holes_with ks xs) (in_turn 0 a x hs some s.0 (λ n i j. apart_xs n i (inl j)) r clear s.1)
    ∙ first_or_last a (after_give x hs) xs some (rise_given 0 x hs (omega arith) s.0 r s.1) (clear_given a x hs (λ n i j. apart_xs n j (inl i)) clear) (clear_rest a x xs apart_xs) (spread_given x hs xs s.2 s.3)

-- they rise then
pub rise_with : (hs xs : List Hole) → Rise 0 hs → AreSpread hs xs → Rise 0 (holes_with hs xs)
rise_with hs [] r s = r
rise_with hs (x ∷ xs) r s = rise_with (after_give x hs) xs (rise_given 0 x hs (omega arith) s.0 r s.1) (spread_given x hs xs s.2 s.3)
