-- The names that are new in a directory, byte for byte.
use Rattle.std.proofs.Common.{◌≡◌, ◌<◌, ◌≤◌, ℕ, zero, suc, ◌+◌, ◌-◌, inl, inr, Bool, true, false, not, List, [], ◌∷◌, length, map, filter, get_or, insert, remove, refl, sym, ap, ◌∙◌, arith}
use Rattle.std.specs.List.{list_any}
use Rattle.std.specs.Str.{bytes_eq}
use Rattle.std.proofs.lemmas.Bool.{cases_lt, cases_order}
use Rattle.std.proofs.lemmas.List.Edits.{length-remove, get_or-remove_below, get_or-remove_above}
use Rattle.std.proofs.lemmas.List.Folds.{list_any_at}
use Rattle.std.proofs.lemmas.Slice.Eq.{bytes_eq-Decides}
use Rattle.fc_names.specs.Names.{is_same_name}
use Rattle.fc_names.proofs.FoldOrder.{fold_law}
use Rattle.fc_dirs.specs.declared.Entry.{Entry}
use Rattle.fc_dirs.specs.Entries.{has_name}
use Rattle.fc_dirs.proofs.SearchLemmas.{blank}
use Rattle.fc_dirs.proofs.TwinLemmas.{absent_names}

-- No entry is spelled so.
abbrev pub is_unspelled : List Entry → List ℕ → Bool
is_unspelled es name = not (list_any (λ (e : Entry). bytes_eq e.name name) es)

-- Each entry of a list fails a test of names.
abbrev pub AllFail : (List ℕ → Bool) → List Entry → Type 0
AllFail p es = (k : ℕ) → k < length es → p (get_or es k blank).name ≡ false

pub own_name : (es : List Entry) → AllFail (is_unspelled es) es
own_name es k within =
    ap not (list_any_at (λ (e : Entry). bytes_eq e.name (get_or es k blank).name) es k blank within ((bytes_eq-Decides (get_or es k blank).name (get_or es k blank).name).1 refl))

pub none_any : (q : Entry → Bool) (es : List Entry) → ((k : ℕ) → k < length es → q (get_or es k blank) ≡ false) → list_any q es ≡ false
none_any q [] none = refl
none_any q (e ∷ es) none =
    let here : q e ≡ false = none 0 (omega arith) in
    rw here (none_any q es (λ k h. none (suc k) (omega (arith, h))))

-- names that don't fold to one are spelled otherwise
pub spelled_otherwise : (a b : List ℕ) → is_same_name a b ≡ false → bytes_eq b a ≡ false
spelled_otherwise a b other = by (bytes_eq b a) refl
  where
    by : (t : Bool) → bytes_eq b a ≡ t → bytes_eq b a ≡ false
    by false h = h
    by true h =
        let same : b ≡ a = (bytes_eq-Decides b a).0 h in
        absurd (let bad : true ≡ false = sym (fold_law.same.refl a) ∙ ap (λ (x : List ℕ). is_same_name a x) (sym same) ∙ other in cc)

-- a name that folds to no other is spelled nowhere
pub absent_unspelled : (es : List Entry) (name : List ℕ) → has_name es name ≡ false → is_unspelled es name ≡ true
absent_unspelled es name absent =
    ap not (none_any (λ (e : Entry). bytes_eq e.name name) es (λ k h. spelled_otherwise name (get_or es k blank).name (absent_names es name absent k h)))

-- the entries that are left when one is taken out are among those of before
among : (es : List Entry) (at : ℕ) → at < length es → (k : ℕ) → k < length (remove es at)
    → (n : ℕ) × (n < length es) × (get_or (remove es at) k blank ≡ get_or es n blank)
among es at within k inside =
    let size = length-remove es at within in
    elim (cases_lt k at) [
      | inl before ↦ (k, omega (arith, before, within), get_or-remove_below es at blank k before within)
      | inr behind ↦ (k + 1, omega (arith, size, inside), get_or-remove_above es at blank k behind within)
    ]

pub left_fail : (p : List ℕ → Bool) (es : List Entry) (at : ℕ) → at < length es → AllFail p es → AllFail p (remove es at)
left_fail p es at within fail k inside =
    let a = among es at within k inside in
    rw a.2 (fail a.0 a.1)

-- a name that folds to no other but that of an entry, and is spelled otherwise than that
pub respelled : (es : List Entry) (at : ℕ) (name : List ℕ) → at < length es → has_name (remove es at) name ≡ false → bytes_eq (get_or es at blank).name name ≡ false
    → is_unspelled es name ≡ true
respelled es at name within absent other = ap not (none_any (λ (e : Entry). bytes_eq e.name name) es each)
  where
    size : length (remove es at) + 1 ≡ length es
    size = let n = length-remove es at within in omega (arith, n, within)

    left : (k : ℕ) → k < length (remove es at) → bytes_eq (get_or (remove es at) k blank).name name ≡ false
    left k h = spelled_otherwise name (get_or (remove es at) k blank).name (absent_names (remove es at) name absent k h)

    each : (k : ℕ) → k < length es → bytes_eq (get_or es k blank).name name ≡ false
    each k h = elim (cases_order k at) [
      | inl here ↦ rw here other
      | inr differ ↦ elim differ [
        | inl before ↦
            let is = get_or-remove_below es at blank k before within in
            ap (λ (e : Entry). bytes_eq e.name name) (sym is) ∙ left k (omega (arith, size, before, within))
        | inr behind ↦
            let last : k - 1 + 1 ≡ k = omega (arith, behind) in
            let is : get_or (remove es at) (k - 1) blank ≡ get_or es k blank = rw last at (get_or-remove_above es at blank (k - 1) (omega (arith, behind)) within) in
            ap (λ (e : Entry). bytes_eq e.name name) (sym is) ∙ left (k - 1) (omega (arith, size, h, behind))
      ]
    ]

-- ---- names that pass a test

pub none_pass : (p : List ℕ → Bool) (es : List Entry) → AllFail p es → filter p (map (λ (e : Entry). e.name) es) ≡ []
none_pass p [] fail = refl
none_pass p (e ∷ es) fail =
    let here : p e.name ≡ false = fail 0 (omega arith) in
    rw here (none_pass p es (λ k h. fail (suc k) (omega (arith, h))))

-- one that is put in passes
pub one_passes : (p : List ℕ → Bool) (es : List Entry) (n : ℕ) (e : Entry) → n ≤ length es → AllFail p es → p e.name ≡ true
    → filter p (map (λ (d : Entry). d.name) (insert es n e)) ≡ e.name ∷ []
one_passes p es zero e within fail passes = rw passes (ap (λ (l : List (List ℕ)). e.name ∷ l) (none_pass p es fail))
one_passes p [] (suc n) e within fail passes = absurd (omega (arith, within))
one_passes p (d ∷ es) (suc n) e within fail passes =
    let here : p d.name ≡ false = fail 0 (omega arith) in
    rw here (one_passes p es n e (omega (arith, within)) (λ k h. fail (suc k) (omega (arith, h))) passes)

-- or fails like the others
pub none_passes : (p : List ℕ → Bool) (es : List Entry) (n : ℕ) (e : Entry) → n ≤ length es → AllFail p es → p e.name ≡ false
    → filter p (map (λ (d : Entry). d.name) (insert es n e)) ≡ []
none_passes p es zero e within fail fails = rw fails (none_pass p es fail)
none_passes p [] (suc n) e within fail fails = absurd (omega (arith, within))
none_passes p (d ∷ es) (suc n) e within fail fails =
    let here : p d.name ≡ false = fail 0 (omega arith) in
    rw here (none_passes p es n e (omega (arith, within)) (λ k h. fail (suc k) (omega (arith, h))) fails)
