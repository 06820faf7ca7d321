-- The entries of a cache under their numbers.
use Rattle.std.proofs.Common.{◌≡◌, ◌⊎◌, inl, inr, ⊎_elim, ℕ, zero, suc, ◌+◌, Bool, true, false, nat_eq, cond, List, [], ◌∷◌, length, is_some, Contains, Some, None, Result, Ok, Err, OnOk, OnErr, Vec, refl, sym, ◌∙◌, ap, ap₂, subst, arith}
use Rattle.std.proofs.lemmas.Bool.Decides.{nat_tests}
use Rattle.std.proofs.lemmas.Map.{lookup-remove_entry}
use Rattle.std.specs.Cmp.{nat_eq_equiv}
use Rattle.std.specs.Global.{Global}
use Rattle.std.specs.List.{IsDistinct, range_with_len}
use Rattle.std.specs.Map.{keys_of, lookup, remove_entry}
use Rattle.lru.specs.LruCache.{LruCache, lru_cache, promoted, put_entries}
use Rattle.lru.proofs.CallerLemmas.{Contains-lookup, Contains-put_entries}
use Rattle.lru.proofs.Pairs.{promoted_absent}
use Rattle.lru.proofs.Splits.{Contains-cons, Contains-nil}
use Rattle.fc_cache.specs.Sectors.{IsPut, entries_without}

same_number : (n k : ℕ) → nat_eq n k ≡ true → k ≡ n
same_number n k test = grind (arith, nat_tests)

module _ {V : Type 0} where
  -- what a look-up finds stands there
  pub found : (es : List (ℕ × V)) (n : ℕ) (v : V) → lookup (nat_eq n) es ≡ Some v → Contains es (n, v)
  found es n v is =
      let at = Contains-lookup (nat_eq n) es v is in
      subst (λ (k : ℕ). Contains es (k, v)) (same_number n at.0 at.2) at.1

  -- what stands there a look-up finds
  pub missed : (es : List (ℕ × V)) (n : ℕ) (v : V) → Contains es (n, v) → lookup (nat_eq n) es ≡ None → ⊥
  missed [] n v there none = Contains-nil (n, v) there
  missed (e ∷ es) n v there none = by_test (nat_eq n e.0) refl (λ later rest. missed es n v later rest)
    where
      by_test : (b : Bool) → nat_eq n e.0 ≡ b → (Contains es (n, v) → lookup (nat_eq n) es ≡ None → ⊥) → ⊥
      by_test true test on = (let is = rw test at none in cc)
      by_test false test on =
          ⊎_elim
          (λ same.
          let key : e.0 ≡ n = ap (λ (p : ℕ × V). p.0) same in
          let other : nat_eq n n ≡ false = subst (λ (k : ℕ). nat_eq n k ≡ false) key test in
          let is = nat_eq_equiv.refl n in
          cc)
          (λ later. on later (rw test at none))
          (Contains-cons e es (n, v) there)

  -- one entry more
  pub put_cases : (cache : LruCache ℕ V) (n : ℕ) (v : V) (m : ℕ) (w : V) → Contains (put_entries nat_eq cache n v) (m, w) → Contains cache.entries (m, w) ⊎ ((m ≡ n) × (w ≡ v))
  put_cases cache n v m w there =
      ⊎_elim (λ old. inl old)
      (λ put. inr (⊎_elim (λ e. e) (λ was. same_number n m was.2) put.1, put.0))
      (Contains-put_entries nat_eq cache n v (m, w) there)

  -- whatever the answer of putting it
  pub put_or_not : {T E : Type 0} (result : Result T E) (old new : LruCache ℕ V) (n : ℕ) (v : V) → OnOk result (new ≡ lru_cache (put_entries nat_eq old n v) old.cap) → OnErr result (new ≡ old)
      → (m : ℕ) (w : V) → Contains new.entries (m, w) → Contains old.entries (m, w) ⊎ ((m ≡ n) × (w ≡ v))
  put_or_not (Ok x) old new n v ok err m w there = put_cases old n v m w (subst (λ (k : LruCache ℕ V). Contains k.entries (m, w)) ok there)
  put_or_not (Err e) old new n v ok err m w there = inl (subst (λ (k : LruCache ℕ V). Contains k.entries (m, w)) err there)

  -- where numbers differ, removing one leaves no entry of it
  pub removed : (es : List (ℕ × V)) (n : ℕ) → IsDistinct nat_eq (keys_of es) → lookup (nat_eq n) (remove_entry (nat_eq n) es) ≡ None
  removed es n distinct =
      lookup-remove_entry nat_eq_equiv (nat_eq n) (λ x y test. ap (λ (k : ℕ). nat_eq k y) (sym (same_number n x test))) n es distinct
      ∙ ap (λ (b : Bool). cond b None (lookup (nat_eq n) es)) (nat_eq_equiv.refl n)

  -- none is removed of none
  pub none_removed : (es : List (ℕ × V)) (n : ℕ) → length es ≡ 0 → es ≡ remove_entry (nat_eq n) es
  none_removed [] n none = refl
  none_removed (e ∷ es) n none = absurd (omega (arith, none))

  -- what isn't there isn't moved
  pub none_promoted : (es : List (ℕ × V)) (n : ℕ) → is_some (lookup (nat_eq n) es) ≡ false → promoted (nat_eq n) es ≡ es
  none_promoted es n none = (promoted_absent nat_eq (lru_cache es 64) n none).1

-- what is kept after a sector was put
pub put_is : {T E : Type 0} (result : Result T E) (old new : LruCache ℕ (Vec ℕ Global)) (n : ℕ) (bytes : Vec ℕ Global) (from : List ℕ) (es : List (ℕ × Vec ℕ Global)) → es ≡ old.entries → old.cap ≡ 64
    → bytes.items ≡ from → OnOk result (new ≡ lru_cache (put_entries nat_eq old n bytes) old.cap) → OnErr result (new ≡ old) → IsPut n from es new.entries
put_is (Ok x) old new n bytes from es same cap is ok err =
    inr (bytes, is, ap (λ (k : LruCache ℕ (Vec ℕ Global)). k.entries) ok ∙ ap₂ (λ (l : List (ℕ × Vec ℕ Global)) (k : ℕ). put_entries nat_eq (lru_cache l k) n bytes) (sym same) cap)
put_is (Err e) old new n bytes from es same cap is ok err = inl (ap (λ (k : LruCache ℕ (Vec ℕ Global)). k.entries) err ∙ sym same)

-- one sector more isn't among the entries
pub entries_without-more : (first count : ℕ) (entries : List (ℕ × Vec ℕ Global))
    → remove_entry (nat_eq (first + count)) (entries_without (range_with_len first count) entries) ≡ entries_without (range_with_len first (count + 1)) entries
entries_without-more first zero entries =
    ap (λ (k : ℕ). remove_entry (nat_eq k) entries) (let e : first + zero ≡ first = omega arith in e)
entries_without-more first (suc count) entries =
    ap (λ (k : ℕ). remove_entry (nat_eq k) (entries_without (range_with_len (first + 1) count) (remove_entry (nat_eq first) entries))) (let e : first + suc count ≡ first + 1 + count = omega arith in e)
    ∙ entries_without-more (first + 1) count (remove_entry (nat_eq first) entries)
    ∙ ap (λ (k : ℕ). entries_without (range_with_len first k) entries) (let e : suc (count + 1) ≡ suc count + 1 = omega arith in e)
