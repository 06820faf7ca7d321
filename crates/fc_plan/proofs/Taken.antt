-- Holes taken whole, and the front of one more.
use Rattle.std.proofs.Common.{◌≡◌, ◌<◌, ◌≤◌, ℕ, ◌+◌, ◌*◌, ◌%◌, ◌&&◌, ◌==◌, nat_le, Bool, true, false, cond, List, [], ◌∷◌, ◌++◌, length, take, drop, get_or, set, subst, sum_by, count_by, All, Contains, Option, None, Some, IfNone, IfSome, is_some, refl, sym, ap, ap₂, ◌∙◌, arith, inl, zero-add, eq-eqb}
use Rattle.std.specs.List.{find, remove}
use Rattle.std.specs.List.Sorted.{IsPermutation}
use Rattle.std.proofs.Math.Nat.{mod-add-mod, zero-mod}
use Rattle.std.proofs.lemmas.Bool.{le-leb, leb-true, lt-leb, and_from, and_parts, eqb-true}
use Rattle.std.proofs.lemmas.List.{length-take-le, length-append, take-append-drop, get_or_default}
use Rattle.std.proofs.lemmas.List.Elements.{All-head, All-tail, All-take, All-push, Contains-get_or, Contains-append_right}
use Rattle.std.proofs.lemmas.List.Sums.{sum_by-cons, sum_by_push, sum_by_more, sum_by_more_le}
use Rattle.std.proofs.lemmas.List.Sorted.{IsPermutation-sym, IsPermutation-remove, All-permutation, Contains-permutation, sum_by-IsPermutation}
use Rattle.fc_record.specs.declared.Geometry.{Geometry}
use Rattle.fc_zone.specs.declared.RunKind.TheVariants.{Hole}
use Rattle.fc_newmap.specs.Map.{ZoneRun, bits_in}
use Rattle.fc_image.specs.effects.Placed.{HasRunLength, IsFront, IsTaken, stands_at}
use Rattle.fc_plan.specs.Plan.{IsFrontOfOne, IsChoice, IsLast}
use Rattle.fc_plan.proofs.Fewest.{NoFewer, flags_of_first, no_fewer_than_one, no_fewer_than_longest, IsLongestFirst, longer_before, shorter_after}

pub stands_at-self : (p : ZoneRun) → stands_at p p ≡ true
stands_at-self p = and_from (p.0 == p.0) (p.1.start == p.1.start) (eq-eqb p.0 p.0 refl) (eq-eqb p.1.start p.1.start refl)

-- two that stand at each other are the same to every place
pub stands_at-same : (spot p q : ZoneRun) → stands_at p q ≡ true → stands_at spot q ≡ stands_at spot p
stands_at-same spot p q e =
    let z : p.0 ≡ q.0 = eqb-true p.0 q.0 (and_parts (p.0 == q.0) (p.1.start == q.1.start) e).0 in
    let s : p.1.start ≡ q.1.start = eqb-true p.1.start q.1.start (and_parts (p.0 == q.0) (p.1.start == q.1.start) e).1 in
    ap₂ (λ (x y : ℕ). (spot.0 == x) && (spot.1.start == y)) (sym z) (sym s)

pub fronts_whole : (g : Geometry) (holes s : List ZoneRun) → IsPermutation holes s → All (IsFrontOfOne g holes) s
fronts_whole g holes s moved k d in' = (
  get_or s k d,
  Contains-permutation s holes (get_or s k d) (IsPermutation-sym holes s moved) (Contains-get_or s k d in'),
  record { at_front = stands_at-self (get_or s k d); within = omega arith; rest = inl refl },
)

module _ (g : Geometry) (bits place missing : ℕ) (holes s : List ZoneRun) (part : ZoneRun) (moved : IsPermutation holes s) (last : IsLast s bits place missing)
    (front : IsFront g (get_or s place part) part) (enough : missing ≤ part.1.len) (few_more : part.1.len < missing + 2 * g.min) where
  abbrev hole : ZoneRun
  hole = get_or s place part

  abbrev parts : List ZoneRun
  parts = take place s ++ part ∷ []

  fronts_last : All (IsFrontOfOne g holes) parts
  fronts_last =
      All-push (IsFrontOfOne g holes) (take place s) part
      (All-take (IsFrontOfOne g holes) place s (fronts_whole g holes s moved))
      (hole, Contains-permutation s holes hole (IsPermutation-sym holes s moved) (Contains-get_or s place part last.within), front)

  once_last : (spot : ZoneRun) → count_by (stands_at spot) parts ≤ count_by (stands_at spot) holes
  once_last spot =
      let f : ZoneRun → ℕ = λ p. cond (stands_at spot p) 1 0 in
      let more : sum_by f parts ≡ sum_by f (take place s) + f part = sum_by_push f (take place s) part in
      let same : f part ≡ f hole = ap (λ (b : Bool). cond b 1 0) (stands_at-same spot hole part front.at_front) in
      let less : sum_by f (take place s) + f hole ≤ sum_by f s = sum_by_more_le f s place part last.within in
      let all : sum_by f s ≡ sum_by f holes = sum_by-IsPermutation f holes s moved in
      omega arith

  pub IsTaken-last : NoFewer holes bits (place + 1) → IsTaken g holes bits parts
  IsTaken-last no_fewer =
      let total : bits_in parts ≡ bits_in (take place s) + part.1.len = sum_by_push (λ p. p.1.len) (take place s) part in
      let before : bits_in (take place s) + missing ≡ bits = last.before in
      let count : length parts ≡ place + 1 = length-append (take place s) (part ∷ []) ∙ ap (λ n. n + 1) (length-take-le place s (omega (arith, last.within))) in
      let flags = flags_of_first holes s (place + 1) moved (omega (arith, last.within)) in
      let chosen : bits_in (take (place + 1) s) ≡ bits_in (take place s) + hole.1.len = sum_by_more (λ p. p.1.len) s place part last.within in
      let has : missing ≤ hole.1.len = last.has part in
      record {
        fronts = fronts_last;
        enough = rw total (omega arith);
        few_more = rw total (omega arith);
        fewest = record {
          some = (flags.0, flags.1, flags.2 ∙ sym count, rw flags.3 (omega arith));
          no_fewer = rw count no_fewer;
        };
      }

  pub IsChoice-last : NoFewer holes bits (place + 1) → All (HasRunLength g) holes → HasRunLength g part → IsChoice g holes bits parts
  IsChoice-last no_fewer long part_long = record {
    taken = IsTaken-last no_fewer;
    cut = record {
      fronts = fronts_last;
      once = once_last;
      long = All-push (HasRunLength g) (take place s) part (All-take (HasRunLength g) place s (All-permutation (HasRunLength g) holes s moved long)) part_long;
    };
  }

  pub IsChoice-longest : IsLongestFirst s → All (HasRunLength g) holes → HasRunLength g part → IsChoice g holes bits parts
  IsChoice-longest sorted long part_long =
      let apart : IsPermutation holes (take place s ++ drop place s) = rw (take-append-drop place s) moved in
      let count : length (take place s) ≡ place = length-take-le place s (omega (arith, last.within)) in
      let few : bits_in (take place s) < bits = omega (arith, last.before, last.some) in
      let none : NoFewer holes bits (length (take place s) + 1) =
      no_fewer_than_longest holes (take place s) (drop place s) (get_or s place part).1.len bits apart
      (longer_before s sorted place part last.within) (shorter_after s sorted place part last.within) few in
      IsChoice-last (rw count at none) long part_long

pub find_is : {X : Type 0} (p : X → Bool) (x : X) (xs : List X) → find p xs ≡ Some x → Contains xs x × (p x ≡ true)
find_is p x [] e = absurd (cc)
find_is {X} p x (y ∷ ys) e = go (p y) refl e (find_is p x ys)
  where
    go : (b : Bool) → p y ≡ b → cond b (Some y) (find p ys) ≡ Some x → (find p ys ≡ Some x → Contains ys x × (p x ≡ true)) → Contains (y ∷ ys) x × (p x ≡ true)
    go true test e rest = let same : y ≡ x = cc in ((0, omega arith, same), ap p (sym same) ∙ test)
    go false test e rest = let h = rest e in (Contains-append_right (y ∷ []) ys x h.0, h.1)

pub fit : (bits : ℕ) (hole : ZoneRun) (holes : List ZoneRun) → Some hole ≡ find (λ (h : ZoneRun). nat_le bits h.1.len) holes → Contains holes hole × (bits ≤ hole.1.len)
fit bits hole holes e =
    let h = find_is (λ (h : ZoneRun). nat_le bits h.1.len) hole holes (sym e) in
    (h.0, leb-true bits hole.1.len h.1)

-- ---- one hole

-- the hole in front of the others
abbrev pub fitting_first : (holes : List ZoneRun) (hole : ZoneRun) → Contains holes hole → List ZoneRun
fitting_first holes hole at = hole ∷ remove holes at.0

pub fitting_first_moved : (holes : List ZoneRun) (hole : ZoneRun) (at : Contains holes hole) → IsPermutation holes (fitting_first holes hole at)
fitting_first_moved holes hole at = IsPermutation-remove holes at.0 hole at.1 (sym at.2)

pub IsLast-one : (bits : ℕ) (hole : ZoneRun) (rest : List ZoneRun) → 0 < bits → bits ≤ hole.1.len → IsLast (hole ∷ rest) bits 0 bits
IsLast-one bits hole rest some fits = record { within = omega arith; some = some; before = omega arith; has = λ d. fits }

pub IsChoice-one : (g : Geometry) (bits : ℕ) (holes : List ZoneRun) (hole part : ZoneRun)
    → Contains holes hole → bits ≤ hole.1.len → 0 < bits → All (HasRunLength g) holes
    → IsFront g hole part → bits ≤ part.1.len → part.1.len < bits + 2 * g.min → HasRunLength g part
    → IsChoice g holes bits (part ∷ [])
IsChoice-one g bits holes hole part at fits some long front enough few_more part_long =
    IsChoice-last g bits 0 bits holes (fitting_first holes hole at) part (fitting_first_moved holes hole at)
    (IsLast-one bits hole (remove holes at.0) some fits) front enough few_more (no_fewer_than_one holes bits some) long part_long

-- ---- multiples

pub mod-sum : (a b q : ℕ) → a % q ≡ 0 → b % q ≡ 0 → (a + b) % q ≡ 0
mod-sum a b q ea eb = sym (mod-add-mod a q b) ∙ ap (λ n. (n + b) % q) ea ∙ ap (λ n. n % q) (zero-add b) ∙ eb

pub mod-rest : (a b q : ℕ) → a % q ≡ 0 → (a + b) % q ≡ 0 → b % q ≡ 0
mod-rest a b q ea eb = ap (λ n. n % q) (sym (zero-add b)) ∙ ap (λ n. (n + b) % q) (sym ea) ∙ mod-add-mod a q b ∙ eb

pub bits_in-multiple : (g : Geometry) (parts : List ZoneRun) → All (HasRunLength g) parts → bits_in parts % g.q ≡ 0
bits_in-multiple g [] all = zero-mod g.q
bits_in-multiple g (p ∷ parts) all =
    ap (λ n. n % g.q) (sum_by-cons (λ (x : ZoneRun). x.1.len) p parts)
    ∙ mod-sum p.1.len (bits_in parts) g.q ((All-head (HasRunLength g) p parts all).1) (bits_in-multiple g parts (All-tail (HasRunLength g) p parts all))

pub missing_multiple : (g : Geometry) (bits place missing : ℕ) (s : List ZoneRun) → IsLast s bits place missing → All (HasRunLength g) s → bits % g.q ≡ 0 → missing % g.q ≡ 0
missing_multiple g bits place missing s last all e =
    mod-rest (bits_in (take place s)) missing g.q (bits_in-multiple g (take place s) (All-take (HasRunLength g) place s all)) (ap (λ n. n % g.q) last.before ∙ e)

-- ---- what was read of the sorted holes

pub long_after : (g : Geometry) (holes s : List ZoneRun) (place : ℕ) (hole : ZoneRun) → IsPermutation holes s → All (HasRunLength g) holes → place < length s
    → hole ≡ get_or s place hole → HasRunLength g hole
long_after g holes s place hole moved long in' read =
    let is_long : HasRunLength g (get_or s place hole) = All-permutation (HasRunLength g) holes s moved long place hole in' in
    subst (λ (h : ZoneRun). HasRunLength g h) (sym read) is_long

pub read_at : (s : List ZoneRun) (place : ℕ) (hole d : ZoneRun) → place < length s → hole ≡ get_or s place hole → hole ≡ get_or s place d
read_at s place hole d in' read = read ∙ get_or_default s place hole d in'

-- one part in the place of the first of some holes
pub one_set : (holes : List ZoneRun) (hole part : ZoneRun) → Contains holes hole → take 1 (set holes 0 part) ≡ part ∷ []
one_set [] hole part (i, in', e) = absurd (omega arith)
one_set (h ∷ hs) hole part at = refl
