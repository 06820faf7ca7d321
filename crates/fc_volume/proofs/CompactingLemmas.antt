-- Lists of objects that slide, and addresses afterwards.
use Rattle.std.proofs.Common.{◌≡◌, ◌<◌, ◌≤◌, ◌⊎◌, inl, inr, ⊎_elim, ℕ, zero, suc, ◌+◌, ◌*◌, ◌^◌, Bool, true, false, cond, List, [], ◌∷◌, ◌++◌, length, drop, refl, sym, ap, subst, ◌∙◌, arith, get_or, min, ne_eqb}
use Rattle.std.specs.Prelude.{◌==◌, nat_lt}
use Rattle.std.specs.Int.{div_ceil}
use Rattle.std.specs.List.{flat_map, range_with_len}
use Rattle.std.specs.FinMap.{get}
use Rattle.std.specs.List.Sorted.{IsPartitionPoint}
use Rattle.std.proofs.lemmas.Bool.{cases_lt, ltb-false, ltb-true}
use Rattle.std.proofs.lemmas.List.{append-nil}
use Rattle.std.proofs.lemmas.List.Concat.{flat_map-append}
use Rattle.fc_oldmap.specs.OldMap.{OldMapContent}
use Rattle.fc_names.specs.declared.name.NameForm.{NameForm}
use Rattle.fc_names.specs.declared.name.NameForm.TheVariants.{Long, Seven, Ten}
use Rattle.fc_dirs.specs.declared.Entry.{Entry}
use Rattle.fc_names.specs.Names.{is_directory}
use Rattle.fc_dirs.specs.Directory.{directory_size}
use Rattle.fc_image.specs.Walk.{object_size}
use Rattle.fc_image.specs.declared.effects.Owned.{Owned}
use Rattle.fc_image.specs.effects.Short.{old_need}
use Rattle.fc_laws.specs.nodes.Edits.{Nodes}
use Rattle.fc_oldlaws.specs.moves.After.{parent_after, start_after}
use Rattle.fc_oldlaws.specs.moves.Nodes.{sliding_at, sliding_below}
use Rattle.fc_volume.specs.OldCompacting.{AreSorted, IsLow}

-- ---- one more

pub flat_more : {X : Type 0} (f : ℕ → List X) (n : ℕ) → flat_map f (range_with_len 0 n) ++ f n ≡ flat_map f (range_with_len 0 (n + 1))
flat_more {X} f n =
    ap (λ (xs : List X). flat_map f (range_with_len 0 n) ++ xs) (sym (append-nil (f n)))
    ∙ sym (flat_map-append f (range_with_len 0 n) (n ∷ [])) ∙ ap (flat_map f) (sym (range-more 0 n ∙ ap (λ m. range_with_len 0 n ++ m ∷ []) (let e : 0 + n ≡ n = omega arith in e)))
  where
    range-more : (a k : ℕ) → range_with_len a (k + 1) ≡ range_with_len a k ++ (a + k) ∷ []
    range-more a zero = ap (λ b. b ∷ []) (let e : a ≡ a + 0 = omega arith in e)
    range-more a (suc k) = ap (range_with_len a) (let z : suc k + 1 ≡ suc (k + 1) = omega arith in z) ∙ ap (λ xs. a ∷ xs) (range-more (a + 1) k ∙ ap (λ b. range_with_len (a + 1) k ++ b ∷ []) (let e : (a + 1) + k ≡ a + suc k = omega arith in e))

pub one_more : (space : OldMapContent) (nodes : Nodes) (n : ℕ) → sliding_below space nodes n ++ sliding_at space n (get nodes n) ≡ sliding_below space nodes (n + 1)
one_more space nodes n = flat_more (λ k. sliding_at space k (get nodes k)) n

-- ---- addresses

pub start_found : (was now : List Owned) (n : ℕ) (d x : Owned) (address : ℕ) → n < length was → n < length now → ((get_or was n d).start == address) ≡ true
    → start_after (drop n was) (drop n now) address ≡ (get_or now n x).start
unfolding start_after
start_found [] now n d x address low high e = absurd (omega (arith, low))
start_found (o ∷ was) [] n d x address low high e = absurd (omega (arith, high))
start_found (o ∷ was) (p ∷ now) zero d x address low high e = ap (λ (b : Bool). cond b p.start (start_after was now address)) e
start_found (o ∷ was) (p ∷ now) (suc n) d x address low high e = start_found was now n d x address (omega (arith, low)) (omega (arith, high)) e

pub start_none : (was now : List Owned) (n address : ℕ) → (length was ≤ n) ⊎ (length now ≤ n) → start_after (drop n was) (drop n now) address ≡ address
unfolding start_after
start_none [] now zero address past = refl
start_none [] now (suc n) address past = refl
start_none (o ∷ was) [] zero address past = refl
start_none (o ∷ was) [] (suc n) address past = by (drop n was)
  where
    by : (xs : List Owned) → start_after xs [] address ≡ address
    by [] = refl
    by (x ∷ xs) = refl
start_none (o ∷ was) (p ∷ now) zero address (inl past) = absurd (omega (arith, past))
start_none (o ∷ was) (p ∷ now) zero address (inr past) = absurd (omega (arith, past))
start_none (o ∷ was) (p ∷ now) (suc n) address (inl past) = start_none was now n address (inl (omega (arith, past)))
start_none (o ∷ was) (p ∷ now) (suc n) address (inr past) = start_none was now n address (inr (omega (arith, past)))

-- none of the objects before one began there
skipped : (was now : List Owned) (k address : ℕ) → k ≤ length was → ((i : ℕ) (d : Owned) → i < k → (get_or was i d).start < address) → start_after (drop k was) (drop k now) address ≡ start_after was now address
unfolding start_after
skipped was now zero address few low = refl
skipped [] now (suc k) address few low = absurd (omega (arith, few))
skipped (o ∷ was) [] (suc k) address few low = by (drop k was)
  where
    by : (xs : List Owned) → start_after xs [] address ≡ address
    by [] = refl
    by (x ∷ xs) = refl
skipped (o ∷ was) (p ∷ now) (suc k) address few low =
    let here : o.start < address = low 0 o (omega arith) in
    let other : (o.start == address) ≡ false = ne_eqb o.start address (λ e. omega (arith, here, e)) in
    skipped was now k address (omega (arith, few)) (λ i d lt. low (suc i) d (omega (arith, lt)))
    ∙ sym (ap (λ (b : Bool). cond b p.start (start_after was now address)) other)

-- all from one on began after it
past : (was now : List Owned) (k address : ℕ) → ((i : ℕ) (d : Owned) → k ≤ i → i < length was → address < (get_or was i d).start) → start_after (drop k was) (drop k now) address ≡ address
unfolding start_after
past [] now zero address high = refl
past [] now (suc k) address high = refl
past (o ∷ was) [] zero address high = refl
past (o ∷ was) [] (suc k) address high = by (drop k was)
  where
    by : (xs : List Owned) → start_after xs [] address ≡ address
    by [] = refl
    by (x ∷ xs) = refl
past (o ∷ was) (p ∷ now) zero address high =
    let here : address < o.start = high 0 o (omega arith) (omega arith) in
    let other : (o.start == address) ≡ false = ne_eqb o.start address (λ e. omega (arith, here, e)) in
    ap (λ (b : Bool). cond b p.start (start_after was now address)) other ∙ past was now 0 address (λ i d le lt. high (suc i) d (omega arith) (omega (arith, lt)))
past (o ∷ was) (p ∷ now) (suc k) address high = past was now k address (λ i d le lt. high (suc i) d (omega (arith, le)) (omega (arith, lt)))

-- What a search by halves finds: k is the first that began there or after.
module _ (was now : List Owned) (k address : ℕ) (few : k ≤ length was) (cut : IsPartitionPoint (λ (o : Owned). nat_lt o.start address ≡ true) (λ (o : Owned). nat_lt o.start address ≡ false) was k) where
  same : start_after (drop k was) (drop k now) address ≡ start_after was now address
  same = skipped was now k address few (λ i d lt. ltb-true _ _ (cut.0 i d (omega arith) lt))

  pub start_first : (d x : Owned) → k < length was → k < length now → ((get_or was k d).start == address) ≡ true → (get_or now k x).start ≡ start_after was now address
  start_first d x low high e = sym (start_found was now k d x address low high e) ∙ same

  pub start_nowhere : (length was ≤ k) ⊎ (length now ≤ k) → address ≡ start_after was now address
  start_nowhere over = sym (start_none was now k address over) ∙ same

  pub start_behind : (d : Owned) → AreSorted was → k < length was → ((get_or was k d).start ≡ address → ⊥) → address ≡ start_after was now address
  start_behind d sorted low other =
      sym (past was now k address (λ i e le lt. (
      let here : address ≤ (get_or was k e).start = ltb-false _ _ (cut.1 k e (omega arith) low) in
      let rise : (get_or was k e).start ≤ (get_or was i e).start = sorted k i e le lt in
      let apart : (get_or was k e).start ≡ address → ⊥ = λ same. other (ap (λ (o : Owned). o.start) (in_range was k d e low) ∙ same) in
      strict here rise apart)))
      ∙ same
    where
      strict : {a b c : ℕ} → a ≤ b → b ≤ c → (b ≡ a → ⊥) → a < c
      strict here rise apart = grind (arith, here, rise, apart)

      in_range : (xs : List Owned) (i : ℕ) (d e : Owned) → i < length xs → get_or xs i d ≡ get_or xs i e
      in_range [] i d e lt = absurd (omega (arith, lt))
      in_range (x ∷ xs) zero d e lt = refl
      in_range (x ∷ xs) (suc i) d e lt = in_range xs i d e (omega (arith, lt))

-- ---- units

pub few_units : (form : NameForm) (space : OldMapContent) (e : Entry) → (space.sector_units ≡ 1) ⊎ (space.sector_units ≡ 4) → e.len < 2 ^ 32 → old_need space (object_size form e) < 2 ^ 32
few_units form space e units low = by (is_directory e.attrs) form
  where
    need : (n : ℕ) → n < 2 ^ 32 → old_need space n < 2 ^ 32
    need n few = ⊎_elim
        (λ one. subst (λ (v : ℕ). div_ceil n (256 * v) * v < 2 ^ 32) (sym one) (omega (arith, few)))
        (λ four. subst (λ (v : ℕ). div_ceil n (256 * v) * v < 2 ^ 32) (sym four) (omega (arith, few))) units

    by : (b : Bool) (f : NameForm) → old_need space (cond b (directory_size f e.len) e.len) < 2 ^ 32
    by true Seven = need 1280 (omega arith)
    by true Ten = need 2048 (omega arith)
    by true Long = need e.len low
    by false f = need e.len low

pub either_past : (a b n : ℕ) → min a b ≤ n → (a ≤ n) ⊎ (b ≤ n)
either_past a b n low = elim (cases_lt a b) [
  | inl less ↦ inl (omega (arith, low, less))
  | inr more ↦ inr (omega (arith, low, more))
]

-- ---- directories

pub parent_low : (move : ℕ → ℕ) (holder parent : ℕ) → IsLow move → parent < 2 ^ 24 → parent_after move holder parent < 2 ^ 24
parent_low move holder parent low fits = by (holder == move holder) refl
  where
    by : (b : Bool) → (holder == move holder) ≡ b → cond b parent (move holder) < 2 ^ 24
    by true e = fits
    by false e = low.moved holder e
