-- Bytes that were written part after part.
use Rattle.std.proofs.Common.{◌≡◌, ◌≤◌, ◌<◌, ℕ, zero, suc, ◌+◌, ◌-◌, List, [], ◌∷◌, ◌++◌, length, get_or, take, drop, set, replicate, refl, sym, ap, ◌∙◌, arith, append_assoc, length-append, length-take-le}
use Rattle.std.specs.List.{AllByRecursion}
use Rattle.std.proofs.lemmas.List.{take_at, set_at, take-append-drop, take-replicate, length-replicate}
use Rattle.fc_dirs.specs.declared.Entry.{Entry}
use Rattle.fc_dirs.specs.Entries.{padded_name}
use Rattle.fc_dirs.specs.BigBytes.{entry_bytes, entries_bytes}

-- a name with 13 and zeros after it, if there is room
padded_room : (n k m : ℕ) (name : List ℕ) → n ≡ length name + suc k → k ≤ m → take n (name ++ 13 ∷ replicate m 0) ≡ name ++ 13 ∷ replicate k 0
padded_room zero k m name is few = absurd (omega arith)
padded_room (suc n) k m [] is few =
    let same : n ≡ k = omega arith in
    rw same (ap (λ l. 13 ∷ l) (take-replicate k m 0 few))
padded_room (suc n) k m (c ∷ name) is few = ap (λ l. c ∷ l) (padded_room n k m name (omega arith) few)

pub padded_is : (space k : ℕ) (name : List ℕ) → space ≡ length name + suc k → padded_name space name ≡ name ++ 13 ∷ replicate k 0
padded_is space k name is = padded_room space k space name is (omega arith)

-- zeros that begin with another byte
set_first_zero : (front : List ℕ) (n at x : ℕ) (rest : List ℕ) → length front ≡ at → 0 < n → set (front ++ replicate n 0 ++ rest) at x ≡ front ++ x ∷ replicate (n - 1) 0 ++ rest
set_first_zero front zero at x rest len some = absurd (omega arith)
set_first_zero front (suc n) at x rest len some =
    let same : suc n - 1 ≡ n = omega arith in
    rw same (grouped front n x rest 0 ∙ set_at_of front n at x rest len) where
      grouped : (front : List ℕ) (n x : ℕ) (rest : List ℕ) (y : ℕ) → set (front ++ y ∷ replicate n 0 ++ rest) at x ≡ set (front ++ y ∷ (replicate n 0 ++ rest)) at x
      grouped front n x rest y = ap (λ l. set l at x) (append_assoc front (y ∷ replicate n 0) rest)

      set_at_of : (front : List ℕ) (n at x : ℕ) (rest : List ℕ) → length front ≡ at → set (front ++ 0 ∷ (replicate n 0 ++ rest)) at x ≡ front ++ x ∷ replicate n 0 ++ rest
      set_at_of front n at x rest len = set_at front 0 (replicate n 0 ++ rest) x at len ∙ sym (append_assoc front (x ∷ replicate n 0) rest)

-- a name was written, then zeros, then the byte after it
pub name_put : (b0 b1 b2 name : List ℕ) (at behind space : ℕ) → take behind b1 ≡ take at b0 ++ name → behind ≡ at + length name → at + space ≤ length b0
    → take (at + space) b2 ≡ take behind b1 ++ replicate (at + space - behind) 0 → behind < at + space
    → take (at + space) (set b2 behind 13) ≡ take at b0 ++ padded_name space name
name_put b0 b1 b2 name at behind space first place inside zeros room =
    let end = at + space in
    let k = space - length name - 1 in
    let front : List ℕ = take at b0 ++ name in
    let len : length front ≡ behind = length-append (take at b0) name ∙ omega (arith, length-take-le at b0 (omega arith), place) in
    let whole : b2 ≡ front ++ replicate (end - behind) 0 ++ drop end b2 =
    sym (take-append-drop end b2) ∙ ap (λ l. l ++ drop end b2) (zeros ∙ ap (λ l. l ++ replicate (end - behind) 0) first) in
    let left : end - behind - 1 ≡ k = omega (arith, place) in
    let marked : set b2 behind 13 ≡ front ++ 13 ∷ replicate k 0 ++ drop end b2 =
    ap (λ l. set l behind 13) whole ∙ set_first_zero front (end - behind) behind 13 (drop end b2) len (omega (arith, room)) ∙ ap (λ n. front ++ 13 ∷ replicate n 0 ++ drop end b2) left in
    let size : length (front ++ 13 ∷ replicate k 0) ≡ end = length-append front (13 ∷ replicate k 0) ∙ omega (arith, len, place, room, length-replicate {A = ℕ} k 0) in
    ap (take end) marked ∙ take_at (front ++ 13 ∷ replicate k 0) (drop end b2) end size
    ∙ append_assoc (take at b0) name (13 ∷ replicate k 0) ∙ ap (λ l. take at b0 ++ l) (sym (padded_is space k name (omega (arith, place, room))))

-- seven parts
pub seven_put : (x0 x1 x2 x3 x4 x5 x6 x7 a b c d e f g : List ℕ) → x1 ≡ x0 ++ a → x2 ≡ x1 ++ b → x3 ≡ x2 ++ c → x4 ≡ x3 ++ d → x5 ≡ x4 ++ e → x6 ≡ x5 ++ f → x7 ≡ x6 ++ g
    → x7 ≡ x0 ++ (a ++ b ++ c ++ d ++ e ++ f ++ g)
seven_put x0 x1 x2 x3 x4 x5 x6 x7 a b c d e f g e1 e2 e3 e4 e5 e6 e7 = rw (e7, e6, e5, e4, e3, e2, e1) (simp append_assoc)

-- one entry more
pub entries_more : (places : List ℕ) (es : List Entry) (i : ℕ) (d : Entry) → length places ≡ length es → i < length es
    → entries_bytes (take (i + 1) places) (take (i + 1) es) ≡ entries_bytes (take i places) (take i es) ++ entry_bytes (get_or places i 0) (get_or es i d)
entries_more [] [] i d same within = absurd (omega arith)
entries_more [] (e ∷ es) i d same within = absurd (omega arith)
entries_more (p ∷ places) [] i d same within = absurd (omega arith)
entries_more (p ∷ places) (e ∷ es) zero d same within = refl
entries_more (p ∷ places) (e ∷ es) (suc i) d same within =
    let next : suc i + 1 ≡ suc (i + 1) = omega arith in
    rw next (ap (λ l. entry_bytes p e ++ l) (entries_more places es i d (omega arith) (omega arith))
    ∙ sym (append_assoc (entry_bytes p e) (entries_bytes (take i places) (take i es)) (entry_bytes (get_or places i 0) (get_or es i d))))

-- what holds of each, one more
pub recursion_more : {X : Type 0} (P : X → Type 0) (xs : List X) (i : ℕ) (d : X) → i < length xs → AllByRecursion P (take i xs) → P (get_or xs i d) → AllByRecursion P (take (i + 1) xs)
recursion_more P [] i d within all last = absurd (omega arith)
recursion_more P (x ∷ xs) zero d within all last = (last, tt)
recursion_more P (x ∷ xs) (suc i) d within all last =
    let next : suc i + 1 ≡ suc (i + 1) = omega arith in
    rw next ((all.0, recursion_more P xs i d (omega arith) all.1 last))
