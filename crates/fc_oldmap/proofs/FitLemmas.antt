-- What the first hole that fits, or that reaches a unit, says of taking and giving.
use Rattle.std.proofs.Common.{◌≡◌, ℕ, zero, suc, ◌+◌, ◌-◌, ◌<◌, ◌≤◌, true, false, List, [], ◌∷◌, length, slice_set, slice_index_or, slice_get, refl, sym, ap, ◌∙◌, subst, arith, Some, None, inl, inr, eq-eqb, ne_eqb}
use Rattle.std.specs.Prelude.{◌==◌, nat_le, nat_lt, remove, insert, All}
use Rattle.std.proofs.lemmas.Bool.{le-leb, lt-leb}
use Rattle.std.proofs.lemmas.Option.{none-some}
use Rattle.fc_oldmap.specs.declared.Hole.{Hole}
use Rattle.fc_oldmap.specs.Holes.{hole, hole_end, after_take, first_fit_place, after_give, joined_with, joined_at, shifted, tidied, AreHoles, AreApart, IsFirstFit, IsFirstReaching}

-- the facts of the rest of a list
rest_fits : (x : Hole) (holes : List Hole) (n i : ℕ) (h : Hole) → IsFirstFit (x ∷ holes) n (suc i) h → IsFirstFit holes n i h
rest_fits x holes n i h f = record { at = f.at; fits = f.fits; before = λ k d l. f.before (suc k) d (omega arith) }

-- the first hole that fits is where space is taken
pub first_fit-at : (holes : List Hole) (n i : ℕ) (h : Hole) → IsFirstFit holes n i h → first_fit_place n holes ≡ Some h.start
unfolding first_fit_place
first_fit-at [] n i h f = absurd (none-some h f.at)
first_fit-at (x ∷ holes) n zero h f =
    let e : x ≡ h = cc f.at in
    let test : nat_le n x.len ≡ true = le-leb n x.len (subst (λ (y : Hole). n ≤ y.len) (sym e) f.fits) in
    rw test (ap (λ (y : Hole). Some y.start) e)
first_fit-at (x ∷ holes) n (suc i) h f =
    let test : nat_le n x.len ≡ false = lt-leb n x.len (f.before 0 x (omega arith)) in
    rw test (first_fit-at holes n i h (rest_fits x holes n i h f))

-- it leaves the list where it is taken whole
pub after_take-whole : (holes : List Hole) (n i : ℕ) (h : Hole) → IsFirstFit holes n i h → h.len ≡ n → after_take n holes ≡ remove holes i
unfolding after_take
after_take-whole [] n i h f whole = absurd (none-some h f.at)
after_take-whole (x ∷ holes) n zero h f whole =
    let e : x ≡ h = cc f.at in
    let len : x.len ≡ n = ap (λ (y : Hole). y.len) e ∙ whole in
    let test : nat_le n x.len ≡ true = le-leb n x.len (omega arith) in
    rw (test, eq-eqb x.len n len) refl
after_take-whole (x ∷ holes) n (suc i) h f whole =
    let test : nat_le n x.len ≡ false = lt-leb n x.len (f.before 0 x (omega arith)) in
    rw test (ap (λ l. x ∷ l) (after_take-whole holes n i h (rest_fits x holes n i h f) whole))

-- and else loses its front
pub after_take-front : (holes : List Hole) (n i : ℕ) (h : Hole) → IsFirstFit holes n i h → (h.len ≡ n → ⊥)
    → after_take n holes ≡ slice_set holes i (hole (h.start + n) (h.len - n))
unfolding after_take
after_take-front [] n i h f part = absurd (none-some h f.at)
after_take-front (x ∷ holes) n zero h f part =
    let e : x ≡ h = cc f.at in
    let test : nat_le n x.len ≡ true = le-leb n x.len (subst (λ (y : Hole). n ≤ y.len) (sym e) f.fits) in
    rw (test, ne_eqb x.len n (λ l. part (ap (λ (y : Hole). y.len) (sym e) ∙ l))) (ap (λ (y : Hole). hole (y.start + n) (y.len - n) ∷ holes) e)
after_take-front (x ∷ holes) n (suc i) h f part =
    let test : nat_le n x.len ≡ false = lt-leb n x.len (f.before 0 x (omega arith)) in
    rw test (ap (λ l. x ∷ l) (after_take-front holes n i h (rest_fits x holes n i h f) part))

-- where no hole fits nothing changes
pub no_fit : (holes : List Hole) (n : ℕ) → All (λ h. h.len < n) holes → first_fit_place n holes ≡ None
unfolding first_fit_place
no_fit [] n short = refl
no_fit (x ∷ holes) n short = rw (lt-leb n x.len (short 0 x (omega arith))) (no_fit holes n (λ k d l. short (suc k) d (omega arith)))

pub after_take-none : (holes : List Hole) (n : ℕ) → All (λ h. h.len < n) holes → after_take n holes ≡ holes
unfolding after_take
after_take-none [] n short = refl
after_take-none (x ∷ holes) n short =
    rw (lt-leb n x.len (short 0 x (omega arith))) (ap (λ l. x ∷ l) (after_take-none holes n (λ k d l. short (suc k) d (omega arith))))

-- a hole that is moved is joined as if it stood there
pub shifted-at : (holes : List Hole) (i n : ℕ) (e : Hole) → i < length holes
    → shifted i n holes ≡ joined_at i (slice_set holes i (hole ((slice_index_or holes i e).start + n) (slice_index_or holes i e).len))
unfolding shifted joined_at
shifted-at [] i n e there = absurd (omega arith)
shifted-at (x ∷ holes) zero n e there = refl
shifted-at (x ∷ holes) (suc i) n e there = ap (λ l. x ∷ l) (shifted-at holes i n e (omega arith))

-- holes joined one after another, from number n - 1 down to 0
unfoldable pub joined_below : ℕ → List Hole → List Hole
joined_below zero holes = holes
joined_below (suc n) holes = joined_below n (joined_at n holes)

joined_below-cons : (n : ℕ) (x : Hole) (holes : List Hole) → joined_below (suc n) (x ∷ holes) ≡ joined_with x (joined_below n holes)
unfolding joined_below joined_at
joined_below-cons zero x holes = refl
joined_below-cons (suc n) x holes = joined_below-cons n x (joined_at n holes)

pub tidied-below : (holes : List Hole) → joined_below (length holes) holes ≡ tidied holes
unfolding tidied joined_below
tidied-below [] = refl
tidied-below (x ∷ holes) = joined_below-cons (length holes) x holes ∙ ap (joined_with x) (tidied-below holes)

-- a space that touches a hole's end stands before the holes after
pub raised : (space x : Hole) (holes : List Hole) (d s : ℕ) → hole_end x ≡ space.start → AreHoles d s (hole_end x) holes → All (AreApart space) holes
    → AreHoles d s (hole_end (hole x.start (x.len + space.len))) holes
raised space x [] d s touch h apart = tt
raised space x (y ∷ holes) d s touch (h, rest) apart =
    elim (apart 0 y (omega arith)) [
      | inl l ↦ absurd (omega (arith, h.onward, h.positive, l, touch))
      | inr l ↦ (record { positive = h.positive; onward = omega (arith, l, touch); inside = h.inside; begins = h.begins; ends = h.ends }, rest)
    ]

-- a space before all holes
pub after_give-front : (space : Hole) (holes : List Hole) → 0 < space.len → (d s : ℕ) → AreHoles d s (hole_end space) holes
    → after_give space holes ≡ joined_with space holes
unfolding after_give
after_give-front space [] positive d s h = refl
after_give-front space (x ∷ holes) positive d s (h, rest) =
    let above : nat_lt (hole_end x) space.start ≡ false = lt-leb (suc (hole_end x)) space.start (omega (arith, h.onward)) in
    let apart : (hole_end x == space.start) ≡ false = ne_eqb (hole_end x) space.start (λ e. omega (arith, h.onward, h.positive)) in
    rw (above, apart) refl

-- the facts of the rest of a list
rest_reaches : (x : Hole) (holes : List Hole) (start i : ℕ) → IsFirstReaching (x ∷ holes) start (suc i) → IsFirstReaching holes start i
rest_reaches x holes start i r = record { within = omega (arith, r.within); reaches = r.reaches; before = λ k d l. r.before (suc k) d (omega arith) }

-- a hole that ends at the space's start takes it in, and is joined with the next
pub after_give-below : (space : Hole) (holes : List Hole) (d s floor i : ℕ) (h : Hole) → 0 < space.len → IsFirstReaching holes space.start i
    → slice_get holes i ≡ Some h → hole_end h ≡ space.start → AreHoles d s floor holes → All (AreApart space) holes
    → after_give space holes ≡ joined_at i (slice_set holes i (hole h.start (h.len + space.len)))
unfolding after_give joined_at
after_give-below space [] d s floor i h positive r at touch holes apart = absurd (none-some h at)
after_give-below space (x ∷ holes) d s floor zero h positive r at touch (first, rest) apart =
    let e : x ≡ h = cc at in
    let ends : hole_end x ≡ space.start = ap hole_end e ∙ touch in
    let above : nat_lt (hole_end x) space.start ≡ false = lt-leb (suc (hole_end x)) space.start (omega arith) in
    let joined = after_give-front (hole x.start (x.len + space.len)) holes (omega (arith, positive)) d s (raised space x holes d s ends rest (λ k f l. apart (suc k) f (omega arith))) in
    rw (above, eq-eqb (hole_end x) space.start ends) (joined ∙ ap (λ (y : Hole). joined_with (hole y.start (y.len + space.len)) holes) e)
after_give-below space (x ∷ holes) d s floor (suc i) h positive r at touch (first, rest) apart =
    let below : nat_lt (hole_end x) space.start ≡ true = le-leb (suc (hole_end x)) space.start (omega (arith, r.before 0 x (omega arith))) in
    rw below (ap (λ l. x ∷ l) (after_give-below space holes d s (hole_end x) i h positive (rest_reaches x holes space.start i r) at touch rest (λ k e l. apart (suc k) e (omega arith))))

-- a hole that starts at its end takes it in
pub after_give-above : (space : Hole) (holes : List Hole) (i : ℕ) (h : Hole) → IsFirstReaching holes space.start i → slice_get holes i ≡ Some h
    → (hole_end h ≡ space.start → ⊥) → hole_end space ≡ h.start → after_give space holes ≡ slice_set holes i (hole space.start (space.len + h.len))
unfolding after_give
after_give-above space [] i h r at ends touch = absurd (none-some h at)
after_give-above space (x ∷ holes) zero h r at ends touch =
    let e : x ≡ h = cc at in
    let above : nat_lt (hole_end x) space.start ≡ false = lt-leb (suc (hole_end x)) space.start (omega (arith, r.reaches x refl)) in
    rw (above, ne_eqb (hole_end x) space.start (λ t. ends (ap hole_end (sym e) ∙ t)), eq-eqb (hole_end space) x.start (touch ∙ ap (λ (y : Hole). y.start) (sym e)))
    (ap (λ (y : Hole). hole space.start (space.len + y.len) ∷ holes) e)
after_give-above space (x ∷ holes) (suc i) h r at ends touch =
    let below : nat_lt (hole_end x) space.start ≡ true = le-leb (suc (hole_end x)) space.start (omega (arith, r.before 0 x (omega arith))) in
    rw below (ap (λ l. x ∷ l) (after_give-above space holes i h (rest_reaches x holes space.start i r) at ends touch))

-- and else the space is a hole of its own
pub after_give-apart : (space : Hole) (holes : List Hole) (i : ℕ) → IsFirstReaching holes space.start i
    → ((h : Hole) → slice_get holes i ≡ Some h → (hole_end h ≡ space.start → ⊥) × (h.start ≡ hole_end space → ⊥))
    → after_give space holes ≡ insert holes i space
unfolding after_give
after_give-apart space [] zero r apart = refl
after_give-apart space [] (suc i) r apart = absurd (omega (arith, r.within))
after_give-apart space (x ∷ holes) zero r apart =
    let above : nat_lt (hole_end x) space.start ≡ false = lt-leb (suc (hole_end x)) space.start (omega (arith, r.reaches x refl)) in
    let a = apart x refl in
    rw (above, ne_eqb (hole_end x) space.start a.0, ne_eqb (hole_end space) x.start (λ t. a.1 (sym t))) refl
after_give-apart space (x ∷ holes) (suc i) r apart =
    let below : nat_lt (hole_end x) space.start ≡ true = le-leb (suc (hole_end x)) space.start (omega (arith, r.before 0 x (omega arith))) in
    rw below (ap (λ l. x ∷ l) (after_give-apart space holes i (rest_reaches x holes space.start i r) apart))
