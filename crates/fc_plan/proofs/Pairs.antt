-- Lists that are sorted by pairs of numbers.
use Rattle.std.proofs.Common.{◌≡◌, ◌<◌, ◌≤◌, ℕ, false, List, length, get_or, Ordering, arith}
use Rattle.std.specs.List.Sorted.{IsSortedByKey}
use Rattle.std.specs.Ordering.{is_lt, nat_cmp, ordering_then}
use Rattle.std.proofs.lemmas.Bool.Decides.{nat_tests}
use Rattle.std.proofs.lemmas.Cmp.{nat_cmp_total, on_total, then_total}
use Rattle.std.proofs.lemmas.List.Sorted.{ranks_by, sorted_far}

-- by the first numbers, and then by the second ones
abbrev pub pair_cmp : ℕ × ℕ → ℕ × ℕ → Ordering
pair_cmp a b = ordering_then (nat_cmp a.0 b.0) (nat_cmp a.1 b.1)

not_below : (a b c d : ℕ) → is_lt (ordering_then (nat_cmp a b) (nat_cmp c d)) ≡ false → (b ≤ a) × (a ≡ b → d ≤ c)
not_below a b c d e = (grind (arith, nat_tests, e), λ same. grind (arith, nat_tests, e, same))

-- The first numbers don't fall, and the second ones of equal first ones don't.
pub in_order : {X : Type 0} (key : X → ℕ × ℕ) (xs : List X) → IsSortedByKey key pair_cmp xs → (i j : ℕ) (d : X) → i ≤ j → j < length xs
    → ((key (get_or xs i d)).0 ≤ (key (get_or xs j d)).0) × ((key (get_or xs j d)).0 ≡ (key (get_or xs i d)).0 → (key (get_or xs i d)).1 ≤ (key (get_or xs j d)).1)
in_order {X} key xs sorted i j d le in' =
    let p = key (get_or xs i d) in
    let q = key (get_or xs j d) in
    let far : is_lt (pair_cmp q p) ≡ false =
    sorted_far (λ (x y : X). is_lt (pair_cmp (key x) (key y)))
    (ranks_by (then_total (on_total (λ (k : ℕ × ℕ). k.0) nat_cmp_total) (on_total (λ (k : ℕ × ℕ). k.1) nat_cmp_total)) key) xs sorted i j d le in' in
    not_below q.0 p.0 q.1 p.1 far
