-- The owners that each directory holds, after one more and one less.
use Rattle.std.proofs.Common.{◌≡◌, ◌≢◌, ◌<◌, ◌+◌, ◌&&◌, ◌||◌, ◌==◌, ℕ, suc, inl, inr, Bool, true, false, List, [], ◌∷◌, length, refl, sym, ap, subst, ◌∙◌, get_or, set, nat_lt, arith, count_by, sum_by, cond, filter, Contains, IsPermutation, Some, None, take, drop, Vec, Global}
use Rattle.std.specs.Prelude.{IsTrue}
use Rattle.std.specs.Bool.{beq}
use Rattle.std.specs.List.{find, position, position_or_len, remove, slice_get}
use Rattle.std.proofs.lemmas.Bool.{cases_eq, cases_lt, eqb-true, eq-eqb, ne_eqb, lt-ltb, true≢false}
use Rattle.std.proofs.lemmas.List.{get_or_default, set_split}
use Rattle.std.proofs.lemmas.List.Folds.{Any-from_list_any, find_at}
use Rattle.std.proofs.lemmas.List.Sums.{sum_by-cons, fails_before_first, position_or_len_is}
use Rattle.std.proofs.lemmas.List.Sorted.{IsPermutation-refl, IsPermutation-sym, IsPermutation-trans, IsPermutation-cons, IsPermutation-remove, IsPermutation-middle, sum_by-IsPermutation, Contains-permutation}
use Rattle.std.proofs.lemmas.Option.{slice_get-get_or}
use Rattle.fc_alloc.specs.declared.owner.Owner.{Owner}
use Rattle.fc_alloc.specs.Held.{IsRow}
use Rattle.fc_alloc.specs.Owners.{AreInOrder, has_node, is_held, is_node, is_same}
use Rattle.fc_alloc.specs.Index.{ArePlaces}
use Rattle.fc_alloc.specs.Lists.{row_at}
use Rattle.fc_alloc.proofs.CountLemmas.{any_counted}
use Rattle.fc_alloc.proofs.PlaceLemmas.{place_unique}

-- ---- whether two owners are the same

same_itself : (o : Owner) → is_same o o ≡ true
same_itself o = rw (eq-eqb o.id o.id refl, eq-eqb o.dir o.dir refl, eq-eqb o.node o.node refl, itself o.file, eq-eqb o.low o.low refl, eq-eqb o.first o.first refl, eq-eqb o.sectors o.sectors refl) refl
  where
    itself : (b : Bool) → beq b b ≡ true
    itself true = refl
    itself false = refl

pub same_is : (p o : Owner) → is_same p o ≡ true → p ≡ o
same_is p o e =
    let a = both (p.id == o.id) _ e in
    let b = both (p.dir == o.dir) _ a.1 in
    let c = both (p.node == o.node) _ b.1 in
    let d = both (beq p.file o.file) _ c.1 in
    let f = both (p.low == o.low) _ d.1 in
    let g = both (p.first == o.first) (p.sectors == o.sectors) f.1 in
    fields p o (eqb-true _ _ a.0) (eqb-true _ _ b.0) (eqb-true _ _ c.0) (alike p.file o.file d.0) (eqb-true _ _ f.0) (eqb-true _ _ g.0) (eqb-true _ _ g.1)
  where
    both : (a b : Bool) → (a && b) ≡ true → (a ≡ true) × (b ≡ true)
    both true true h = (refl, refl)
    both true false h = absurd (cc)
    both false b h = absurd (cc)

    alike : (a b : Bool) → beq a b ≡ true → a ≡ b
    alike true true h = refl
    alike false false h = refl
    alike true false h = absurd (cc)
    alike false true h = absurd (cc)

    fields : (p o : Owner) → p.id ≡ o.id → p.dir ≡ o.dir → p.node ≡ o.node → p.file ≡ o.file → p.low ≡ o.low → p.first ≡ o.first → p.sectors ≡ o.sectors
        → record { id = p.id; dir = p.dir; node = p.node; file = p.file; low = p.low; first = p.first; sectors = p.sectors } ≡ o
    fields p o a b c d e f g = rw (a, b, c, d, e, f, g) refl

-- ---- permutations of owners

-- 1 at one owner, and else 0
abbrev one : Owner → Owner → ℕ
one o p = cond (is_same p o) 1 0

one_here : (o : Owner) → one o o ≡ 1
one_here o = ap (λ b. cond b 1 0) (same_itself o)

-- how often an owner is in a list
abbrev times : Owner → List Owner → ℕ
times o ps = count_by (λ p. is_same p o) ps

times-cons : (o p : Owner) (ps : List Owner) → times o (p ∷ ps) ≡ one o p + times o ps
times-cons o p ps = sum_by-cons (one o) p ps

-- an owner that is there at least once can be put first
brought : (ps : List Owner) (o : Owner) → 0 < times o ps → (rest : List Owner) × IsPermutation ps (o ∷ rest)
brought ps o some =
    let test : nat_lt 0 (times o ps) ≡ true = lt-ltb 0 (times o ps) some in
    let any = Any-from_list_any (λ p. is_same p o) ps (sym (any_counted (λ p. is_same p o) ps) ∙ test) in
    let is : any.1 ≡ o = same_is any.1 o any.4 in
    (remove ps any.0, IsPermutation-remove ps any.0 o any.2 (sym (get_or_default ps any.0 o any.1 any.2 ∙ (any.3 ∙ is))))

-- lists that have each owner equally often
from_times : (os ps : List Owner) → ((o : Owner) → times o os ≡ times o ps) → IsPermutation os ps
from_times [] [] same = IsPermutation-refl []
from_times [] (p ∷ ps) same =
    let here = same p in
    let more = times-cons p p ps in
    let once = one_here p in
    absurd (omega (arith, here, more, once))
from_times (o ∷ os) ps same =
    let here = same o in
    let more = times-cons o o os in
    let once = one_here o in
    let first = brought ps o (omega (arith, here, more, once)) in
    let rest = from_times os first.0 (λ p.
    let all = same p in
    let left = times-cons p o os in
    let right = times-cons p o first.0 in
    let moved = sum_by-IsPermutation (one p) ps (o ∷ first.0) first.1 in
    omega (arith, all, left, right, moved)) in
    IsPermutation-trans _ _ _ (IsPermutation-cons o os first.0 rest) (IsPermutation-sym _ _ first.1)

-- an owner that both begin with may be left out
cancelled : (o : Owner) (os ps : List Owner) → IsPermutation (o ∷ os) (o ∷ ps) → IsPermutation os ps
cancelled o os ps same =
    from_times os ps (λ p.
    let all = sum_by-IsPermutation (one p) (o ∷ os) (o ∷ ps) same in
    let left = times-cons p o os in
    let right = times-cons p o ps in
    omega (arith, all, left, right))

-- an owner that is there has a place
pub not_missed : (ps : List Owner) (o : Owner) → Contains ps o → position (λ p. is_same p o) ps ≡ None → ⊥
not_missed ps o has none =
    elim (cases_lt (position_or_len (λ p. is_same p o) ps) (length ps)) [
      | inl below ↦
          let some : position (λ p. is_same p o) ps ≡ Some (position_or_len (λ p. is_same p o) ps) =
          ap (λ b. cond b (Some (position_or_len (λ p. is_same p o) ps)) None) (lt-ltb (position_or_len (λ p. is_same p o) ps) (length ps) below) in
          let bad : Some (position_or_len (λ p. is_same p o) ps) ≡ None = sym some ∙ none in absurd (cc)
      | inr past ↦
          let fails = fails_before_first (λ p. is_same p o) ps has.0 o (omega (arith, has.1, past)) in
          true≢false (sym (ap (λ p. is_same p o) has.2 ∙ same_itself o) ∙ fails)
    ]

-- ---- the owners that a directory holds

-- 1 for an owner that the directory holds, else 0
abbrev weight : ℕ → Owner → Owner → ℕ
weight dir o p = cond (is_held dir p) (one o p) 0

times_held : (owners : List Owner) (dir : ℕ) (o : Owner) → times o (filter (is_held dir) owners) ≡ sum_by (weight dir o) owners
times_held [] dir o = refl
times_held (p ∷ owners) dir o =
    go (is_held dir p) (times_held owners dir o) ∙ sym (sum_by-cons (weight dir o) p owners) where
      go : (b : Bool) → times o (filter (is_held dir) owners) ≡ sum_by (weight dir o) owners
          → times o (cond b (p ∷ filter (is_held dir) owners) (filter (is_held dir) owners)) ≡ cond b (one o p) 0 + sum_by (weight dir o) owners
      go true rest = times-cons o p (filter (is_held dir) owners) ∙ ap (λ k. one o p + k) rest
      go false rest = omega (arith, rest)

-- an owner takes the place of another
pub set_first : (owners : List Owner) (place : ℕ) (o : Owner) → place < length owners → IsPermutation (set owners place o) (o ∷ remove owners place)
set_first owners place o within =
    subst (λ (ps : List Owner). IsPermutation ps (o ∷ remove owners place)) (sym (set_split owners place o within)) (IsPermutation-middle (take place owners) o (drop (suc place) owners))

-- the order of the owners is all the same
held_same : (owners others : List Owner) (dir : ℕ) → IsPermutation owners others → IsPermutation (filter (is_held dir) owners) (filter (is_held dir) others)
held_same owners others dir same =
    from_times (filter (is_held dir) owners) (filter (is_held dir) others) (λ o.
    times_held owners dir o ∙ (sym (sum_by-IsPermutation (weight dir o) owners others same) ∙ sym (times_held others dir o)))

held_here : (o : Owner) (owners : List Owner) → filter (is_held o.dir) (o ∷ owners) ≡ o ∷ filter (is_held o.dir) owners
held_here o owners = ap (λ b. cond b (o ∷ filter (is_held o.dir) owners) (filter (is_held o.dir) owners)) (eq-eqb o.dir o.dir refl)

held_elsewhere : (o : Owner) (owners : List Owner) (dir : ℕ) → dir ≢ o.dir → filter (is_held dir) (o ∷ owners) ≡ filter (is_held dir) owners
held_elsewhere o owners dir other = ap (λ b. cond b (o ∷ filter (is_held dir) owners) (filter (is_held dir) owners)) (ne_eqb o.dir dir (λ e. other (sym e)))

-- ---- the table after each call, where it had each directory's owners

-- an owner more
pub held_put : (settled : Bool) (owners more : List Owner) (o : Owner) (old new : List (Vec Owner Global)) → IsPermutation more (o ∷ owners)
    → ((dir : ℕ) → IsRow dir settled owners (row_at old dir))
    → IsPermutation (o ∷ row_at old o.dir) (row_at new o.dir)
    → (IsTrue settled → AreInOrder (row_at new o.dir))
    → ((dir : ℕ) → dir ≢ o.dir → row_at new dir ≡ row_at old dir)
    → (dir : ℕ) → IsRow dir settled more (row_at new dir)
held_put settled owners more o old new order had here sorted elsewhere dir = elim (cases_eq dir o.dir) [
  | inl is ↦
      subst (λ d. IsRow d settled more (row_at new d)) (sym is)
      (record {
        same =
            IsPermutation-trans (filter (is_held o.dir) more) (filter (is_held o.dir) (o ∷ owners)) (row_at new o.dir) (held_same more (o ∷ owners) o.dir order)
            (subst (λ ps. IsPermutation ps (row_at new o.dir)) (sym (held_here o owners))
            (IsPermutation-trans (o ∷ filter (is_held o.dir) owners) (o ∷ row_at old o.dir) (row_at new o.dir)
            (IsPermutation-cons o (filter (is_held o.dir) owners) (row_at old o.dir) (had o.dir).same) here));
        sorted = sorted;
      })
  | inr other ↦
      subst (λ ps. IsRow dir settled more ps) (sym (elsewhere dir other))
      (record {
        same =
            IsPermutation-trans (filter (is_held dir) more) (filter (is_held dir) (o ∷ owners)) (row_at old dir) (held_same more (o ∷ owners) dir order)
            (subst (λ ps. IsPermutation ps (row_at old dir)) (sym (held_elsewhere o owners dir other)) (had dir).same);
        sorted = (had dir).sorted;
      })
]

-- an owner that is to go is among its directory's
held_first : (settled : Bool) (owners left : List Owner) (o : Owner) (old : List (Vec Owner Global)) → IsPermutation owners (o ∷ left)
    → ((dir : ℕ) → IsRow dir settled owners (row_at old dir))
    → IsPermutation (o ∷ filter (is_held o.dir) left) (row_at old o.dir)
held_first settled owners left o old order had =
    subst (λ ps. IsPermutation ps (row_at old o.dir)) (held_here o left)
    (IsPermutation-trans (filter (is_held o.dir) (o ∷ left)) (filter (is_held o.dir) owners) (row_at old o.dir)
    (IsPermutation-sym (filter (is_held o.dir) owners) (filter (is_held o.dir) (o ∷ left)) (held_same owners (o ∷ left) o.dir order)) (had o.dir).same)

pub held_there : (settled : Bool) (owners left : List Owner) (o : Owner) (old : List (Vec Owner Global)) → IsPermutation owners (o ∷ left)
    → ((dir : ℕ) → IsRow dir settled owners (row_at old dir)) → Contains (row_at old o.dir) o
held_there settled owners left o old order had =
    Contains-permutation (o ∷ filter (is_held o.dir) left) (row_at old o.dir) o (held_first settled owners left o old order had) (0, omega arith, refl)

-- an owner less
pub held_take : (settled : Bool) (owners left : List Owner) (o : Owner) (old new : List (Vec Owner Global)) → IsPermutation owners (o ∷ left)
    → ((dir : ℕ) → IsRow dir settled owners (row_at old dir))
    → IsPermutation (row_at old o.dir) (o ∷ row_at new o.dir)
    → (IsTrue settled → AreInOrder (row_at new o.dir))
    → ((dir : ℕ) → dir ≢ o.dir → row_at new dir ≡ row_at old dir)
    → (dir : ℕ) → IsRow dir settled left (row_at new dir)
held_take settled owners left o old new order had here sorted elsewhere dir =
    elim (cases_eq dir o.dir) [
      | inl is ↦
          subst (λ d. IsRow d settled left (row_at new d)) (sym is)
          (record {
            same =
                cancelled o (filter (is_held o.dir) left) (row_at new o.dir)
                (IsPermutation-trans (o ∷ filter (is_held o.dir) left) (row_at old o.dir) (o ∷ row_at new o.dir) (held_first settled owners left o old order had) here);
            sorted = sorted;
          })
      | inr other ↦
          subst (λ ps. IsRow dir settled left ps) (sym (elsewhere dir other))
          (record {
            same =
                subst (λ ps. IsPermutation ps (row_at old dir)) (held_elsewhere o left dir other)
                (IsPermutation-trans (filter (is_held dir) (o ∷ left)) (filter (is_held dir) owners) (row_at old dir)
                (IsPermutation-sym (filter (is_held dir) owners) (filter (is_held dir) (o ∷ left)) (held_same owners (o ∷ left) dir order)) (had dir).same);
            sorted = (had dir).sorted;
          })
    ]

-- the rows put in order
pub held_sorted : (settled : Bool) (owners : List Owner) (old new : List (Vec Owner Global)) → ((dir : ℕ) → IsRow dir settled owners (row_at old dir))
    → ((dir : ℕ) → IsPermutation (row_at old dir) (row_at new dir))
    → ((dir : ℕ) → AreInOrder (row_at new dir))
    → (dir : ℕ) → IsRow dir true owners (row_at new dir)
held_sorted settled owners old new had same sorted dir = record {
  same = IsPermutation-trans (filter (is_held dir) owners) (row_at old dir) (row_at new dir) (had dir).same (same dir);
  sorted = λ _. sorted dir;
}

-- ---- the owners of nodes

-- the owner of a node that has one
pub owner_found : (owners : List Owner) (places : List ℕ) (place node : ℕ) (d : Owner) → ArePlaces owners places → place < length owners
    → (get_or owners place d).node ≡ node → find (is_node node) owners ≡ Some (get_or owners place d)
owner_found owners places place node d placed within is =
    let first : position_or_len (is_node node) owners ≡ place =
    position_or_len_is (is_node node) owners place d (omega (arith, within))
    (λ k below. ne_eqb (get_or owners k d).node node (λ e.
    let one : k ≡ place = place_unique owners places k place d d placed (omega (arith, below, within)) within (e ∙ sym is) in absurd (omega (arith, one, below))))
    (λ _. eq-eqb (get_or owners place d).node node is) in
    find_at (is_node node) owners ∙ (ap (slice_get owners) first ∙ slice_get-get_or owners place d within)

pub no_owner : (owners : List Owner) (node : ℕ) → has_node owners node ≡ false → find (is_node node) owners ≡ None
no_owner [] node none = refl
no_owner (o ∷ owners) node none = go (is_node node o) none (no_owner owners node) where
  go : (b : Bool) → (b || has_node owners node) ≡ false → (has_node owners node ≡ false → find (is_node node) owners ≡ None) → cond b (Some o) (find (is_node node) owners) ≡ None
  go true bad rest = absurd (cc)
  go false left rest = rest left
