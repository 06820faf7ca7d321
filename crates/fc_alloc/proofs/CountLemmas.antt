-- How many owners have an identifier.
use Rattle.std.proofs.Common.{◌≡◌, ◌≢◌, ◌<◌, ◌≤◌, ℕ, ◌+◌, ◌-◌, inl, inr, Bool, true, false, ◌||◌, List, [], ◌∷◌, ◌++◌, length, refl, sym, ap, ◌∙◌, get_or, set, eqb, nat_lt, arith, count_by, cond, take, length-append}
use Rattle.std.specs.List.{list_any, swap_remove, remove}
use Rattle.std.proofs.lemmas.Bool.{cases_eq, eq-eqb, ne_eqb}
use Rattle.std.proofs.lemmas.Bool.Decides.{nat_tests}
use Rattle.std.proofs.lemmas.List.{get_or-set_same, get_or-set_other, length-set, get_or_append_left}
use Rattle.std.proofs.Math.Seq.{get_or-append_seam}
use Rattle.std.proofs.lemmas.List.Folds.{list_any_none}
use Rattle.std.proofs.lemmas.List.Sums.{sum_by-cons, sum_by_push, sum_by-set, sum_by-swap_remove, sum_by-remove, count_by-le-length, sum_by_more}
use Rattle.fc_alloc.specs.declared.owner.Owner.{Owner}
use Rattle.fc_alloc.specs.Owners.{owns, is_id_owned}
use Rattle.fc_alloc.specs.Index.{AreCounts, IsTop}

-- 1 at one number, and else 0
abbrev pub one : ℕ → ℕ → ℕ
one n id = cond (eqb n id) 1 0

pub one_here : (n : ℕ) → one n n ≡ 1
one_here n = rw (eq-eqb n n refl) refl

pub one_there : (n id : ℕ) → (n ≡ id → ⊥) → one n id ≡ 0
one_there n id other = rw (ne_eqb n id other) refl

-- a number of a table that has risen at n by 1, or fallen
pub risen : (counts : List ℕ) (f g n id : ℕ) → id < length counts → get_or counts id 0 ≡ f → g ≡ f + one n id → get_or (set counts n (get_or counts n 0 + 1)) id 0 ≡ g
risen counts f g n id room was is =
    elim (cases_eq n id) [
      | inl here ↦
          let step = one_here n in
          let count = rw (← here) at was in
          let sum = rw (← here) at is in
          rw (← here) (rw (get_or-set_same counts n (get_or counts n 0 + 1) 0 (rw (← here) at room)) (omega (arith, count, sum, step)))
      | inr other ↦
          let step = one_there n id other in
          rw (get_or-set_other counts n id (get_or counts n 0 + 1) 0 (λ e. other (sym e))) (omega (arith, was, is, step))
    ]

pub fallen : (counts : List ℕ) (f g n id : ℕ) → id < length counts → get_or counts id 0 ≡ f → g + one n id ≡ f → get_or (set counts n (get_or counts n 0 - 1)) id 0 ≡ g
fallen counts f g n id room was is =
    elim (cases_eq n id) [
      | inl here ↦
          let step = one_here n in
          let count = rw (← here) at was in
          let sum = rw (← here) at is in
          rw (← here) (rw (get_or-set_same counts n (get_or counts n 0 - 1) 0 (rw (← here) at room)) (omega (arith, count, sum, step)))
      | inr other ↦
          let step = one_there n id other in
          rw (get_or-set_other counts n id (get_or counts n 0 - 1) 0 (λ e. other (sym e))) (omega (arith, was, is, step))
    ]

-- the number of owners that have an identifier
abbrev pub count : List Owner → ℕ → ℕ
count owners id = count_by (owns id) owners

pub count_push : (owners : List Owner) (o : Owner) (id : ℕ) → count (owners ++ o ∷ []) id ≡ count owners id + one o.id id
count_push owners o id = sum_by_push (λ (p : Owner). cond (owns id p) 1 0) owners o

pub count_removed : (owners : List Owner) (place : ℕ) (removed : Owner) (id : ℕ) → place < length owners → removed ≡ get_or owners place removed
    → count (swap_remove owners place removed) id + one removed.id id ≡ count owners id
count_removed owners place removed id inside is =
    let sum = sum_by-swap_remove (λ (p : Owner). cond (owns id p) 1 0) owners place removed inside in
    rw (← is) at sum

-- without the owner at a place
pub count_without : (owners : List Owner) (place : ℕ) (was : Owner) (id : ℕ) → place < length owners → was ≡ get_or owners place was
    → count (remove owners place) id + one was.id id ≡ count owners id
count_without owners place was id inside is =
    let sum = sum_by-remove (λ (p : Owner). cond (owns id p) 1 0) owners place was inside in
    rw (← is) at sum

pub count_changed : (owners : List Owner) (place : ℕ) (was o : Owner) (id : ℕ) → place < length owners → was ≡ get_or owners place was
    → count (set owners place o) id ≡ count (remove owners place) id + one o.id id
count_changed owners place was o id inside is =
    let sum = sum_by-set (λ (p : Owner). cond (owns id p) 1 0) owners place o was inside in
    let both = rw (← is) at sum in
    let without = count_without owners place was id inside is in
    omega (arith, both, without)

pub count_few : (owners : List Owner) (id : ℕ) → count owners id ≤ length owners
count_few owners id = count_by-le-length (owns id) owners

-- an owner that is there is counted
pub count_some : (owners : List Owner) (counts : List ℕ) (place : ℕ) (was : Owner) → AreCounts owners counts → place < length owners → was ≡ get_or owners place was
    → was.id < length counts → 0 < get_or counts was.id 0
count_some owners counts place was counted inside is room =
    let number = counted was.id room in
    let sum = count_without owners place was was.id inside is in
    omega (arith, number, sum, one_here was.id)

-- one owner more in a walk
pub count_more : (owners : List Owner) (i id : ℕ) (d : Owner) → i < length owners → count (take (i + 1) owners) id ≡ count (take i owners) id + one (get_or owners i d).id id
count_more owners i id d within = sum_by_more (λ (p : Owner). cond (owns id p) 1 0) owners i d within

-- a number that passes is one of those that are counted
pub any_counted : {X : Type 0} (p : X → Bool) (xs : List X) → nat_lt 0 (count_by p xs) ≡ list_any p xs
any_counted p [] = refl
any_counted p (x ∷ xs) =
    ap (nat_lt 0) (sum_by-cons (λ y. cond (p y) 1 0) x xs) ∙ go (p x) (count_by p xs) (list_any p xs) (any_counted p xs) where
      go : (b : Bool) (n : ℕ) (any : Bool) → nat_lt 0 n ≡ any → nat_lt 0 (cond b 1 0 + n) ≡ (b || any)
      go true n any is = grind (arith, nat_tests)
      go false n any is = let plain : 0 + n ≡ n = omega arith in rw plain is

-- no owner has an identifier above the highest
pub none_above : (owners : List Owner) (top id : ℕ) → IsTop owners top → top < id → is_id_owned owners id ≡ false
none_above owners top id highest above = list_any_none (owns id) owners (λ k d within. ne_eqb _ _ (λ e. let few = highest k d within in absurd (omega arith)))

-- ---- the tables after each call

-- an owner is put after the others
pub counts_push : (owners : List Owner) (counts up : List ℕ) (o : Owner) → AreCounts owners counts → up ≡ set counts o.id (get_or counts o.id 0 + 1)
    → AreCounts (owners ++ o ∷ []) up
counts_push owners counts up o counted is id within =
    let room : id < length counts = rw length-set at (rw is at within) in
    rw is (risen counts (count owners id) (count (owners ++ o ∷ []) id) o.id id room (counted id room) (count_push owners o id))

-- an owner is taken out
pub counts_removed : (owners : List Owner) (counts down : List ℕ) (place : ℕ) (removed : Owner) → AreCounts owners counts → place < length owners
    → removed ≡ get_or owners place removed → down ≡ set counts removed.id (get_or counts removed.id 0 - 1)
    → AreCounts (swap_remove owners place removed) down
counts_removed owners counts down place removed counted inside was is id within =
    let room : id < length counts = rw length-set at (rw is at within) in
    rw is (fallen counts (count owners id) (count (swap_remove owners place removed) id) removed.id id room (counted id room) (count_removed owners place removed id inside was))

-- an owner is replaced
pub counts_changed : (owners : List Owner) (counts down up : List ℕ) (place : ℕ) (was o : Owner) → AreCounts owners counts → place < length owners
    → was ≡ get_or owners place was → down ≡ set counts was.id (get_or counts was.id 0 - 1) → up ≡ set down o.id (get_or down o.id 0 + 1)
    → AreCounts (set owners place o) up
counts_changed owners counts down up place was o counted inside is fell rose id within =
    let middle : id < length down = rw length-set at (rw rose at within) in
    let room : id < length counts = rw length-set at (rw fell at middle) in
    let between : get_or down id 0 ≡ count (remove owners place) id =
    rw fell (fallen counts (count owners id) (count (remove owners place) id) was.id id room (counted id room) (count_without owners place was id inside is)) in
    rw rose (risen down (count (remove owners place) id) (count (set owners place o) id) o.id id middle between (count_changed owners place was o id inside is))

-- the count of a new owner's identifier fits beside the others
pub count_fits : (owners : List Owner) (counts down : List ℕ) (place : ℕ) (was : Owner) (id : ℕ) → AreCounts owners counts → place < length owners
    → was ≡ get_or owners place was → down ≡ set counts was.id (get_or counts was.id 0 - 1) → id < length down
    → get_or down id 0 ≤ length owners
count_fits owners counts down place was id counted inside is fell within =
    let room : id < length counts = rw length-set at (rw fell at within) in
    let between : get_or down id 0 ≡ count (remove owners place) id =
    rw fell (fallen counts (count owners id) (count (remove owners place) id) was.id id room (counted id room) (count_without owners place was id inside is)) in
    let sum = count_without owners place was id inside is in
    let few = count_few owners id in
    omega (arith, between, sum, few)

-- ---- the highest identifier

pub top_push : (owners : List Owner) (top higher : ℕ) (o : Owner) → IsTop owners top → top ≤ higher → o.id ≤ higher → IsTop (owners ++ o ∷ []) higher
top_push owners top higher o highest up within k d inside =
    elim (cases_eq k (length owners)) [
      | inl last ↦ let shown : get_or (owners ++ o ∷ []) k d ≡ o = rw last (get_or-append_seam owners o [] d) in rw shown within
      | inr other ↦
          let before : k < length owners = omega (arith, inside, length-append owners (o ∷ [])) in
          let few = highest k d before in
          rw (get_or_append_left owners (o ∷ []) d k before) (omega (arith, few))
    ]

pub top_changed : (owners : List Owner) (top higher place : ℕ) (o : Owner) → IsTop owners top → top ≤ higher → o.id ≤ higher → IsTop (set owners place o) higher
top_changed owners top higher place o highest up within k d inside =
    let room : k < length owners = rw length-set at inside in
    elim (cases_eq k place) [
      | inl here ↦ let shown : get_or (set owners place o) k d ≡ o = rw here (get_or-set_same owners place o d (rw here at room)) in rw shown within
      | inr other ↦ let few = highest k d room in rw (get_or-set_other owners place k o d other) (omega (arith, few))
    ]

pub top_removed : (owners left : List Owner) (top place : ℕ) → IsTop owners top → length left + 1 ≡ length owners
    → ((d : Owner) → place + 1 < length owners → get_or left place d ≡ get_or owners (length owners - 1) d)
    → ((k : ℕ) (d : Owner) → k ≢ place → k + 1 < length owners → get_or left k d ≡ get_or owners k d)
    → IsTop left top
top_removed owners left top place highest size last others k d inside =
    elim (cases_eq k place) [
      | inl here ↦
          let shown : get_or left k d ≡ get_or owners (length owners - 1) d = rw here (last d (omega arith)) in
          rw shown (highest (length owners - 1) d (omega arith))
      | inr other ↦ rw (others k d other (omega arith)) (highest k d (omega arith))
    ]
