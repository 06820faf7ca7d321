-- Mixes of gated zones.
use Rattle.std.proofs.Common.{◌≡◌, ◌<◌, ◌≤◌, ◌≢◌, ℕ, zero, suc, Bool, true, false, List, [], ◌∷◌, length, map, set, refl, sym, ap, ap₂, ◌∙◌, arith}
use Rattle.std.specs.Prelude.{not, ◌&&◌, ◌==◌, slice_index, slice_index_or, slice_set, bit_xor}
use Rattle.std.specs.List.{fold, zip, items_where_true, AllByRecursion}
use Rattle.std.specs.Int.Bits.{xor_assoc, xor_zero_r, xor_zero_l, xor_self}
use Rattle.std.proofs.lemmas.Nat.{xor_comm}
use Rattle.std.proofs.lemmas.List.{length-set, length-map}
use Rattle.std.proofs.lemmas.List.FromFn.{length-range_with_len}
use Rattle.std.proofs.lemmas.Bool.{eqb-true, eq-eqb, false_from_ne_true as unless}
use Rattle.fc_bytes.specs.Checks.{xor_all}
use Rattle.fc_newmap.specs.Copies.{cross_of, is_sound}
use Rattle.fc_newmap.specs.Gate.{gate_deltas, gated_sector, gated_by, passes_choices, is_mixed, is_gate}
use Rattle.fc_zone.proofs.ReadingLemmas.{first_part}
use Rattle.fc_record.proofs.KindLemmas.{and_second as second_part}

-- ---- exclusive ors of lists

fold-xor : (a : ℕ) (xs : List ℕ) → fold bit_xor a xs ≡ bit_xor a (xor_all xs)
fold-xor a [] = sym (xor_zero_r a)
fold-xor a (x ∷ xs) = fold-xor (bit_xor a x) xs ∙ xor_assoc a x (xor_all xs) ∙ ap (bit_xor a) (sym (fold-xor x xs) ∙ ap (λ y. fold bit_xor y xs) (sym (xor_zero_l x)))

pub xor_all-cons : (x : ℕ) (xs : List ℕ) → xor_all (x ∷ xs) ≡ bit_xor x (xor_all xs)
xor_all-cons x xs = ap (λ y. fold bit_xor y xs) (xor_zero_l x) ∙ fold-xor x xs

-- ---- a sector's CrossCheck

pub cross-gated : (sector : List ℕ) (delta : ℕ) → 4 ≤ length sector → slice_index (gated_sector sector delta) 3 ≡ bit_xor (slice_index sector 3) delta
cross-gated (a ∷ b ∷ c ∷ d ∷ rest) delta h = refl
cross-gated (a ∷ b ∷ c ∷ []) delta h = absurd (omega arith)
cross-gated (a ∷ b ∷ []) delta h = absurd (omega arith)
cross-gated (a ∷ []) delta h = absurd (omega arith)
cross-gated [] delta h = absurd (omega arith)

-- the total turns by what one CrossCheck turns by
pub cross-set : (zones : List (List ℕ)) (z delta : ℕ) → z < length zones → AllByRecursion (λ sector. 4 ≤ length sector) zones
    → cross_of (slice_set zones z (gated_sector (slice_index_or zones z []) delta)) ≡ bit_xor (cross_of zones) delta
cross-set [] z delta h all = absurd (omega arith)
cross-set (s ∷ zones) zero delta h all =
    xor_all-cons (slice_index (gated_sector s delta) 3) (map cross' zones)
    ∙ ap (λ x. bit_xor x (cross_of zones)) (cross-gated s delta all.0)
    ∙ swapped (slice_index s 3) delta (cross_of zones)
    ∙ ap (λ x. bit_xor x delta) (sym (xor_all-cons (slice_index s 3) (map cross' zones)))
  where
    cross' : List ℕ → ℕ
    cross' t = slice_index t 3

    swapped : (a d t : ℕ) → bit_xor (bit_xor a d) t ≡ bit_xor (bit_xor a t) d
    swapped a d t = xor_assoc a d t ∙ ap (bit_xor a) (xor_comm d t) ∙ sym (xor_assoc a t d)
cross-set (s ∷ zones) (suc z) delta h all =
    xor_all-cons (slice_index s 3) (map cross' (slice_set zones z (gated_sector (slice_index_or zones z []) delta)))
    ∙ ap (bit_xor (slice_index s 3)) (cross-set zones z delta (omega arith) all.1)
    ∙ sym (xor_assoc (slice_index s 3) (cross_of zones) delta)
    ∙ ap (λ x. bit_xor x delta) (sym (xor_all-cons (slice_index s 3) (map cross' zones)))
  where
    cross' : List ℕ → ℕ
    cross' t = slice_index t 3

-- ---- several zones

abbrev pub IsLong : List ℕ → Type 0
IsLong sector = 4 ≤ length sector

pub length-gated : (sector : List ℕ) (delta : ℕ) → length (gated_sector sector delta) ≡ length sector
length-gated sector delta = length-set (set sector 3 _) 0 _ ∙ length-set sector 3 _

long_at : (zones : List (List ℕ)) (z : ℕ) → z < length zones → AllByRecursion IsLong zones → IsLong (slice_index_or zones z [])
long_at [] z h all = absurd (omega arith)
long_at (s ∷ zones) zero h all = all.0
long_at (s ∷ zones) (suc z) h all = long_at zones z (omega arith) all.1

long_set : (zones : List (List ℕ)) (z : ℕ) (sector : List ℕ) → IsLong sector → AllByRecursion IsLong zones → AllByRecursion IsLong (slice_set zones z sector)
long_set [] z sector h all = tt
long_set (s ∷ zones) zero sector h all = (h, all.1)
long_set (s ∷ zones) (suc z) sector h all = (all.0, long_set zones z sector h all.1)

weaker : (turns : List (ℕ × ℕ)) (n m : ℕ) → n ≡ m → AllByRecursion (λ t. t.0 < n) turns → AllByRecursion (λ t. t.0 < m) turns
weaker [] n m e all = tt
weaker (t ∷ turns) n m e all = (omega (arith, all.0), weaker turns n m e all.1)

pub cross-gated_by : (turns : List (ℕ × ℕ)) (zones : List (List ℕ)) → AllByRecursion (λ t. t.0 < length zones) turns → AllByRecursion IsLong zones
    → cross_of (gated_by turns zones) ≡ bit_xor (cross_of zones) (xor_all (map (λ t. t.1) turns))
cross-gated_by [] zones low all = sym (xor_zero_r (cross_of zones))
cross-gated_by (t ∷ turns) zones low all =
    let sector = slice_index_or zones t.0 [] in
    let long = long_at zones t.0 low.0 all in
    let same = length-set zones t.0 (gated_sector sector t.1) in
    cross-gated_by turns (slice_set zones t.0 (gated_sector sector t.1)) (weaker turns (length zones) _ (sym same) low.1)
    (long_set zones t.0 (gated_sector sector t.1) (omega (arith, length-gated sector t.1)) all)
    ∙ ap (λ x. bit_xor x (xor_all (map (λ (u : ℕ × ℕ). u.1) turns))) (cross-set zones t.0 t.1 low.0 all)
    ∙ xor_assoc (cross_of zones) t.1 (xor_all (map (λ (u : ℕ × ℕ). u.1) turns))
    ∙ ap (bit_xor (cross_of zones)) (sym (xor_all-cons t.1 (map (λ (u : ℕ × ℕ). u.1) turns)))

-- ---- the gate

pub choice_passes : (k : ℕ) (test : List Bool → Bool) → passes_choices k test ≡ true → (flags : List Bool) → length flags ≡ k → test flags ≡ true
choice_passes zero test h [] e = h
choice_passes zero test h (b ∷ flags) e = absurd (omega arith)
choice_passes (suc k) test h [] e = absurd (omega arith)
choice_passes (suc k) test h (false ∷ flags) e = choice_passes k (λ fs. test (false ∷ fs)) (first_part _ _ h) flags (omega arith)
choice_passes (suc k) test h (true ∷ flags) e = choice_passes k (λ fs. test (true ∷ fs)) (second_part _ _ h) flags (omega arith)

pub gate_of : (k : ℕ) → 2 ≤ k → k ≤ 9 → is_gate k ≡ true
gate_of zero low high = absurd (omega arith)
gate_of (suc zero) low high = absurd (omega arith)
gate_of (suc (suc zero)) low high = refl
gate_of (suc (suc (suc zero))) low high = refl
gate_of (suc (suc (suc (suc zero)))) low high = refl
gate_of (suc (suc (suc (suc (suc zero))))) low high = refl
gate_of (suc (suc (suc (suc (suc (suc zero)))))) low high = refl
gate_of (suc (suc (suc (suc (suc (suc (suc zero))))))) low high = refl
gate_of (suc (suc (suc (suc (suc (suc (suc (suc zero)))))))) low high = refl
gate_of (suc (suc (suc (suc (suc (suc (suc (suc (suc zero))))))))) low high = refl
gate_of (suc (suc (suc (suc (suc (suc (suc (suc (suc (suc k)))))))))) low high = absurd (omega arith)

-- what a mix turns the total by is not 0
not_zero : (b : Bool) (x : ℕ) → not (b && (x == 0)) ≡ true → b ≡ true → x ≢ 0
not_zero true x h e zero_x = absurd (let t = eq-eqb x 0 zero_x in let f : not true ≡ true = rw t at h in cc)
not_zero false x h e zero_x = absurd (cc)

chosen_pairs : (flags : List Bool) (changed ds : List ℕ) → length flags ≡ length changed → length ds ≡ length changed
    → map (λ (t : ℕ × ℕ). t.1) (items_where_true flags (zip changed ds)) ≡ items_where_true flags ds
chosen_pairs [] changed ds e f = refl
chosen_pairs (b ∷ flags) [] ds e f = absurd (omega arith)
chosen_pairs (b ∷ flags) (z ∷ changed) [] e f = absurd (omega arith)
chosen_pairs (true ∷ flags) (z ∷ changed) (d ∷ ds) e f = ap (λ xs. d ∷ xs) (chosen_pairs flags changed ds (omega arith) (omega arith))
chosen_pairs (false ∷ flags) (z ∷ changed) (d ∷ ds) e f = chosen_pairs flags changed ds (omega arith) (omega arith)

chosen_low : (flags : List Bool) (changed ds : List ℕ) (n : ℕ) → AllByRecursion (λ z. z < n) changed
    → AllByRecursion (λ (t : ℕ × ℕ). t.0 < n) (items_where_true flags (zip changed ds))
chosen_low [] changed ds n all = tt
chosen_low (b ∷ flags) [] ds n all = tt
chosen_low (b ∷ flags) (z ∷ changed) [] n all = tt
chosen_low (true ∷ flags) (z ∷ changed) (d ∷ ds) n all = (all.0, chosen_low flags changed ds n all.1)
chosen_low (false ∷ flags) (z ∷ changed) (d ∷ ds) n all = chosen_low flags changed ds n all.1

pub cancel : (a x : ℕ) → bit_xor a x ≡ a → x ≡ 0
cancel a x e = sym (xor_zero_l x) ∙ ap (λ y. bit_xor y x) (sym (xor_self a)) ∙ xor_assoc a a x ∙ ap (bit_xor a) e ∙ xor_self a

pub mix_unsound : (zones : List (List ℕ)) (changed : List ℕ) (flags : List Bool) → 2 ≤ length changed → length changed ≤ 9
    → AllByRecursion (λ z. z < length zones) changed → AllByRecursion IsLong zones → length flags ≡ length changed → is_mixed flags ≡ true → is_sound zones ≡ true
    → is_sound (gated_by (items_where_true flags (zip changed (gate_deltas (length changed)))) zones) ≡ false
unfolding is_sound
mix_unsound zones changed flags low high places long as_many mixed sound = unless _ (λ whole.
    let k = length changed in
    let ds = gate_deltas k in
    let turns = items_where_true flags (zip changed ds) in
    let ds_len : length ds ≡ k = length-map _ _ ∙ length-range_with_len 0 k in
    let was = eqb-true _ _ (second_part _ _ sound) in
    let is = eqb-true _ _ (second_part _ _ whole) in
    let turned = cross-gated_by turns zones (chosen_low flags changed ds (length zones) places) long in
    let chosen = chosen_pairs flags changed ds as_many ds_len in
    let back : bit_xor 255 (xor_all (items_where_true flags ds)) ≡ 255 = ap₂ bit_xor (sym was) (ap xor_all (sym chosen)) ∙ sym turned ∙ is in
    let passes = choice_passes k _ (first_part _ _ (gate_of k low high)) flags as_many in
    not_zero (is_mixed flags) _ passes mixed (cancel 255 _ back))
