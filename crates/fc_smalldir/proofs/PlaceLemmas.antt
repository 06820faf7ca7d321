-- Entries at their places in bytes.
use Rattle.std.proofs.Common.{◌≡◌, ◌<◌, ◌≢◌, ℕ, zero, suc, ◌+◌, ◌-◌, ◌*◌, ◌==◌, Bool, true, false, List, [], ◌∷◌, length, get_or, take, drop, slice_index, refl, sym, ap, ◌∙◌, arith, length-take-le, Some}
use Rattle.std.specs.List.{AllByRecursion, All}
use Rattle.std.proofs.lemmas.List.{drop-drop, get_or-drop, get_or-take}
use Rattle.std.proofs.lemmas.Bool.Decides.{nat_tests}
use Rattle.std.proofs.lemmas.List.Elements.{All-tail, All-head}
use Rattle.fc_dirs.specs.declared.Entry.{Entry}
use Rattle.fc_dirs.specs.declared.SmallForm.{SmallForm}
use Rattle.fc_dirs.specs.Small.{FitsSmall, tail_of, small_entry, small_entries, entries_in, first_nameless}
use Rattle.fc_dirs.proofs.SearchLemmas.{position-found}

-- all by place is all by recursion
pub by_recursion : {X : Type 0} (P : X → Type 0) (xs : List X) → All P xs → AllByRecursion P xs
by_recursion P [] all = tt
by_recursion P (x ∷ xs) all = (All-head P x xs all, by_recursion P xs (All-tail P x xs all))

first_byte_at : (b : List ℕ) (at : ℕ) → slice_index (drop at b) 0 ≡ slice_index b at
first_byte_at b at = let place : at + 0 ≡ at = omega arith in rw place at (get_or-drop at b 0 0)

-- The first byte 0 ends the entries.
pub entries_end_here : (places : ℕ) (form : SmallForm) (b : List ℕ) (at : ℕ) → slice_index b at ≡ 0 → length (entries_in places form (drop at b)) ≡ 0
entries_end_here zero form b at zero_here = refl
entries_end_here (suc places) form b at zero_here =
    let first : slice_index (drop at b) 0 ≡ 0 = first_byte_at b at ∙ zero_here in
    rw first refl

-- Another first byte begins an entry.
pub entries_go_on : (places next : ℕ) (form : SmallForm) (b : List ℕ) (at : ℕ) → places ≡ suc next → slice_index b at ≢ 0
    → length (entries_in places form (drop at b)) ≡ 1 + length (entries_in next form (drop (at + 26) b))
entries_go_on zero next form b at count some = absurd (omega arith)
entries_go_on (suc places) next form b at count some =
    let same : places ≡ next = omega arith in
    let first : (slice_index (drop at b) 0 == 0) ≡ false = rw (first_byte_at b at) (grind (arith, nat_tests, some)) in
    let rest : drop 26 (drop at b) ≡ drop (at + 26) b = drop-drop 26 at b in
    rw first (rw (rest, same) (omega arith))

-- the entry of a number
pub entry_at : (places : ℕ) (form : SmallForm) (bytes : List ℕ) (i : ℕ) (d : Entry) → i < length (entries_in places form bytes)
    → get_or (entries_in places form bytes) i d ≡ small_entry form (take 26 (drop (26 * i) bytes))
entry_at zero form bytes i d within = absurd (omega arith)
entry_at (suc places) form bytes i d within = go (slice_index bytes 0 == 0) refl i within (entry_at places form (drop 26 bytes)) where
  go : (ends : Bool) → (slice_index bytes 0 == 0) ≡ ends → (i : ℕ) → i < length (entries_in (suc places) form bytes)
      → ((i : ℕ) (d : Entry) → i < length (entries_in places form (drop 26 bytes)) → get_or (entries_in places form (drop 26 bytes)) i d ≡ small_entry form (take 26 (drop (26 * i) (drop 26 bytes))))
      → get_or (entries_in (suc places) form bytes) i d ≡ small_entry form (take 26 (drop (26 * i) bytes))
  go true is i within more = absurd (let none : i < 0 = rw is at within in omega arith)
  go false is zero within more = rw is refl
  go false is (suc i) within more =
      let inside : suc i < suc (length (entries_in places form (drop 26 bytes))) = rw is at within in
      let sum : 26 * suc i ≡ 26 + 26 * i = omega arith in
      let past : drop (26 * i) (drop 26 bytes) ≡ drop (26 * suc i) bytes = drop-drop (26 * i) 26 bytes ∙ ap (λ n. drop n bytes) (sym sum) in
      rw is (more i d (omega arith) ∙ ap (λ l. small_entry form (take 26 l)) past)

-- the same in a directory's bytes, where the bytes are a slice
pub small_entry_at : (form : SmallForm) (b : List ℕ) (i : ℕ) (d : Entry) → i < length (small_entries form b)
    → get_or (small_entries form b) i d ≡ small_entry form (take (5 + 26 * i + 26 - (5 + 26 * i)) (drop (5 + 26 * i) b))
small_entry_at form b i d within =
    let size : 5 + 26 * i + 26 - (5 + 26 * i) ≡ 26 = omega arith in
    rw size (entry_at (tail_of form).places form (drop 5 b) i d within ∙ ap (λ l. small_entry form (take 26 l)) (drop-drop (26 * i) 5 b))

-- the first entry without a name, where those before have one
pub nameless_found : (form : SmallForm) (es done : List Entry) (i : ℕ) (d : Entry) → i < length es → done ≡ take i es → All (FitsSmall form) done → length (get_or es i d).name ≡ 0 → first_nameless es ≡ Some i
nameless_found form es done i d within is fit none =
    position-found (λ e. length e.name == 0) es d i within
    (λ k below.
    let same : get_or done k d ≡ get_or es k d = ap (λ l. get_or l k d) is ∙ get_or-take i es k d below in
    let inside : k < length done = rw is (rw (length-take-le i es (omega arith)) below) in
    let fits : FitsSmall form (get_or done k d) = fit k d inside in
    rw (← same) (grind (arith, nat_tests, fits.named)))
    (rw none refl)
