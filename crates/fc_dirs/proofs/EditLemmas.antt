-- An entry that is edited by its number is edited by its name.
use Rattle.std.proofs.Common.{◌≡◌, ◌<◌, ℕ, zero, suc, inl, inr, Bool, true, false, not, List, [], ◌∷◌, length, map, filter, get_or, remove, set, refl, sym, ap, ◌∙◌, arith, Some, None, slice_get}
use Rattle.std.proofs.lemmas.Bool.{cases_order}
use Rattle.std.proofs.lemmas.Option.{slice_get_within, get_or_from_slice_get}
use Rattle.fc_names.specs.Names.{is_same_name}
use Rattle.fc_names.proofs.FoldOrder.{fold_law}
use Rattle.fc_dirs.specs.declared.Entry.{Entry}
use Rattle.fc_dirs.specs.Entries.{first_twin, has_name}
use Rattle.fc_dirs.specs.Edits.{EditLaw, replaced_entry, without_name}
use Rattle.fc_dirs.proofs.SearchLemmas.{blank}
use Rattle.fc_dirs.proofs.TwinLemmas.{Apart, apart_from, same_name_sym, absent_names}

-- ---- lists in which one element alone passes or fails a test

filter_all : {X : Type 0} (p : X → Bool) (xs : List X) (d : X) → ((k : ℕ) → k < length xs → p (get_or xs k d) ≡ true) → xs ≡ filter p xs
filter_all p [] d all = refl
filter_all p (x ∷ xs) d all =
    let here : p x ≡ true = all 0 (omega arith) in
    rw here (ap (λ l. x ∷ l) (filter_all p xs d (λ k h. all (suc k) (omega (arith, h)))))

filter_one : {X : Type 0} (p : X → Bool) (xs : List X) (at : ℕ) (d : X) → at < length xs → p (get_or xs at d) ≡ false
    → ((k : ℕ) → k < length xs → (k ≡ at → ⊥) → p (get_or xs k d) ≡ true) → remove xs at ≡ filter p xs
filter_one p [] at d within out kept = absurd (omega (arith, within))
filter_one p (x ∷ xs) zero d within out kept =
    let here : p x ≡ false = out in
    rw here (filter_all p xs d (λ k h. kept (suc k) (omega (arith, h)) (λ (e : suc k ≡ zero). omega (arith, e))))
filter_one p (x ∷ xs) (suc at) d within out kept =
    let here : p x ≡ true = kept 0 (omega arith) (λ (e : zero ≡ suc at). omega (arith, e)) in
    rw here (ap (λ l. x ∷ l) (filter_one p xs at d (omega (arith, within)) out (λ k h other. kept (suc k) (omega (arith, h)) (λ (e : suc k ≡ suc at). other (omega (arith, e))))))

map_none : {X : Type 0} (f : X → X) (xs : List X) (d : X) → ((k : ℕ) → k < length xs → f (get_or xs k d) ≡ get_or xs k d) → xs ≡ map f xs
map_none f [] d kept = refl
map_none f (x ∷ xs) d kept =
    let here : f x ≡ x = kept 0 (omega arith) in
    rw here (ap (λ l. x ∷ l) (map_none f xs d (λ k h. kept (suc k) (omega (arith, h)))))

map_one : {X : Type 0} (f : X → X) (xs : List X) (at : ℕ) (new d : X) → at < length xs → f (get_or xs at d) ≡ new
    → ((k : ℕ) → k < length xs → (k ≡ at → ⊥) → f (get_or xs k d) ≡ get_or xs k d) → set xs at new ≡ map f xs
map_one f [] at new d within is kept = absurd (omega (arith, within))
map_one f (x ∷ xs) zero new d within is kept =
    let here : f x ≡ new = is in
    rw here (ap (λ l. new ∷ l) (map_none f xs d (λ k h. kept (suc k) (omega (arith, h)) (λ (e : suc k ≡ zero). omega (arith, e)))))
map_one f (x ∷ xs) (suc at) new d within is kept =
    let here : f x ≡ x = kept 0 (omega arith) (λ (e : zero ≡ suc at). omega (arith, e)) in
    rw here (ap (λ l. x ∷ l) (map_one f xs at new d (omega (arith, within)) is (λ k h other. kept (suc k) (omega (arith, h)) (λ (e : suc k ≡ suc at). other (omega (arith, e))))))

-- ---- names that are apart

-- only the entry of that number has the name
other_name : (es : List Entry) (at k : ℕ) (name : List ℕ) → Apart es → at < length es → k < length es → (k ≡ at → ⊥)
    → is_same_name (get_or es at blank).name name ≡ true → is_same_name (get_or es k blank).name name ≡ false
other_name es at k name apart inside within other same = by (is_same_name (get_or es k blank).name name) refl
  where
    by : (b : Bool) → is_same_name (get_or es k blank).name name ≡ b → is_same_name (get_or es k blank).name name ≡ false
    by false h = h
    by true h =
        let mine = (get_or es k blank).name in
        let its = (get_or es at blank).name in
        let both : is_same_name mine its ≡ true = fold_law.same.congr mine name its h ∙ fold_law.same.symm name its ∙ same in
        elim (cases_order k at) [
          | inl here ↦ absurd (other here)
          | inr differ ↦ elim differ [
            | inl before ↦ absurd (let bad : true ≡ false = sym both ∙ same_name_sym mine its ∙ apart k at before inside in cc)
            | inr behind ↦ absurd (let bad : true ≡ false = sym both ∙ apart at k behind within in cc)
          ]
        ]

there : (es : List Entry) (at : ℕ) (e : Entry) (name : List ℕ) → slice_get es at ≡ Some e → is_same_name e.name name ≡ true → has_name es name ≡ true
there es at e name is same = by (has_name es name) refl
  where
    by : (b : Bool) → has_name es name ≡ b → has_name es name ≡ true
    by true h = h
    by false h =
        let within = slice_get_within es at e is in
        let at_it : get_or es at blank ≡ e = get_or_from_slice_get es at e blank is in
        let none : is_same_name name e.name ≡ false = rw at_it at (absent_names es name h at within) in
        absurd (let bad : true ≡ false = sym same ∙ same_name_sym e.name name ∙ none in cc)

changed : (es : List Entry) (at : ℕ) (e new : Entry) → first_twin es ≡ None → slice_get es at ≡ Some e → is_same_name e.name new.name ≡ true
    → set es at new ≡ map (replaced_entry new) es
changed es at e new none is same =
    let within = slice_get_within es at e is in
    let at_it : get_or es at blank ≡ e = get_or_from_slice_get es at e blank is in
    let same' : is_same_name (get_or es at blank).name new.name ≡ true = rw at_it same in
    map_one (replaced_entry new) es at new blank within (rw same' refl)
    (λ k h other. rw (other_name es at k new.name (apart_from es none) within h other same') refl)

removed : (es : List Entry) (at : ℕ) (e : Entry) (name : List ℕ) → first_twin es ≡ None → slice_get es at ≡ Some e → is_same_name e.name name ≡ true
    → remove es at ≡ without_name name es
removed es at e name none is same =
    let within = slice_get_within es at e is in
    let at_it : get_or es at blank ≡ e = get_or_from_slice_get es at e blank is in
    let same' : is_same_name (get_or es at blank).name name ≡ true = rw at_it same in
    filter_one (λ (d : Entry). not (is_same_name d.name name)) es at blank within (ap not same')
    (λ k h other. ap not (other_name es at k name (apart_from es none) within h other same'))

pub edit_law : EditLaw
edit_law = record { there = there; changed = changed; removed = removed }
