-- The entry of a name.
use Rattle.std.proofs.Common.{◌≡◌, ◌<◌, ℕ, zero, suc, Bool, true, false, List, [], ◌∷◌, length, get_or, position, MatchOption, not, refl, sym, ap, ◌∙◌, subst, Option, Some, None, slice_get, cond, is_some, find, remove}
use Rattle.std.specs.Prelude.{IsFalse, IsTrue}
use Rattle.std.specs.List.{AllByRecursion, position_or_len}
use Rattle.std.proofs.lemmas.List.Quantifiers.{position-Some}
use Rattle.std.proofs.lemmas.List.Sums.{prefix_len_passes}
use Rattle.std.proofs.lemmas.Option.{slice_get-get_or}
use Rattle.fc_names.specs.Names.{is_same_name}
use Rattle.fc_dirs.specs.declared.Entry.{Entry}
use Rattle.fc_dirs.specs.declared.SmallForm.{SmallForm}
use Rattle.fc_dirs.specs.Entries.{has_name}
use Rattle.fc_dirs.specs.Small.{FitsSmall}
use Rattle.fc_dirs.specs.Big.{FitsBig}
use Rattle.fc_dirs.specs.Directory.{Directory, entries_of}
use Rattle.fc_dirs.proofs.SearchLemmas.{blank, is_some-find, place_or_end}
use Rattle.fc_dirs.proofs.EditLemmas.{edit_law}
use Rattle.fc_bigdir.proofs.RenameLemmas.{absent_without}
use Rattle.fc_image.specs.effects.Steady.{without_name}
use Rattle.fc_drafts.specs.Laws.{FreeNameLaw}
use Rattle.fc_dirs.proofs.TwinLemmas.{same_name_sym}
use Rattle.fc_drafts.specs.Draft.{CanHold, IsSayable}
use Rattle.fc_drafts.specs.Rewriting.{IsAt}
use Rattle.fc_drafts.proofs.NamesLemmas.{none_any}
use Rattle.std.proofs.lemmas.Bool.{not-true as fails}

-- what is said of the first entry that has a name
abbrev IsFirst : List Entry → List ℕ → Option ℕ → Type 0
IsFirst es name found = MatchOption found (has_name es name ≡ false) (λ at. (e : Entry) × IsAt es at e × (is_same_name name e.name ≡ true))

first : (name : List ℕ) (es : List Entry) (found : Option ℕ) → found ≡ position (λ (e : Entry). is_same_name name e.name) es → IsFirst es name found
first name es None is =
    let all : length es ≡ position_or_len (λ (e : Entry). is_same_name name e.name) es = place_or_end (λ (e : Entry). is_same_name name e.name) es None is in
    is_some-find (λ (e : Entry). is_same_name name e.name) es
    ∙ none_any (λ (e : Entry). is_same_name name e.name) es
    (λ k h. fails (is_same_name name (get_or es k blank).name) (prefix_len_passes (λ (e : Entry). not (is_same_name name e.name)) es k blank (subst (λ (n : ℕ). k < n) all h)))
first name es (Some at) is =
    let there = position-Some (λ (e : Entry). is_same_name name e.name) es at blank (sym is) in
    (get_or es at blank, slice_get-get_or es at blank there.0, there.1)

small_held : (form : SmallForm) (es : List Entry) (at : ℕ) (e : Entry) → AllByRecursion (FitsSmall form) es → IsAt es at e → FitsSmall form e
small_held form [] at e all is = absurd (cc)
small_held form (d ∷ es) zero e all is = let same : Some d ≡ Some e = is in subst (FitsSmall form) (some_same d e same) all.0
  where
    some_same : (d e : Entry) → Some d ≡ Some e → d ≡ e
    some_same d e h = cc
small_held form (d ∷ es) (suc at) e all is = small_held form es at e all.1 is

big_held : (es : List Entry) (at : ℕ) (e : Entry) → AllByRecursion FitsBig es → IsAt es at e → FitsBig e
big_held [] at e all is = absurd (cc)
big_held (d ∷ es) zero e all is = let same : Some d ≡ Some e = is in subst FitsBig (some_same d e same) all.0
  where
    some_same : (d e : Entry) → Some d ≡ Some e → d ≡ e
    some_same d e h = cc
big_held (d ∷ es) (suc at) e all is = big_held es at e all.1 is

-- A directory can hold its own entries.
pub held : (dir : Directory) (at : ℕ) (e : Entry) → IsSayable dir → IsAt (entries_of dir) at e → CanHold dir e
held (Directory.Small dir) at e small is =
    let fits = small_held dir.form dir.entries at e small.entries is in
    record { address = fits.address; attrs = fits.attrs; last = fits.last }
held (Directory.Big dir) at e big is = (big_held dir.entries at e big.entries is).last

pub found_at : (dir : Directory) (name : List ℕ) (es : List Entry) (found : Option ℕ) → IsSayable dir → es ≡ entries_of dir → found ≡ position (λ (e : Entry). is_same_name name e.name) es
    → MatchOption found (IsFalse (has_name (entries_of dir) name)) (λ at. (e : Entry) × (slice_get (entries_of dir) at ≡ Some e) × IsTrue (is_same_name e.name name) × CanHold dir e)
found_at dir name es found sayable same is = by found ((first name (entries_of dir) found (is ∙ ap (position (λ (e : Entry). is_same_name name e.name)) same)))
  where
    by : (found : Option ℕ) → IsFirst (entries_of dir) name found
        → MatchOption found (IsFalse (has_name (entries_of dir) name)) (λ at. (e : Entry) × (slice_get (entries_of dir) at ≡ Some e) × IsTrue (is_same_name e.name name) × CanHold dir e)
    by None absent = absent
    by (Some at) there = (there.0, there.1, same_name_sym there.0.name name ∙ there.2, held dir at there.0 sayable there.1)

-- ---- names that are free

none_named : (name : List ℕ) (es : List Entry) → has_name (without_name name es) name ≡ false
none_named name [] = refl
none_named name (e ∷ es) = by (is_same_name e.name name) refl (none_named name es)
  where
    by : (b : Bool) → is_same_name e.name name ≡ b → has_name (without_name name es) name ≡ false
        → has_name (cond (not (is_same_name e.name name)) (e ∷ without_name name es) (without_name name es)) name ≡ false
    by true h more = ap (λ (b : Bool). has_name (cond (not b) (e ∷ without_name name es) (without_name name es)) name) h ∙ more
    by false h more =
        let other : is_same_name name e.name ≡ false = same_name_sym name e.name ∙ h in
        ap (λ (b : Bool). has_name (cond (not b) (e ∷ without_name name es) (without_name name es)) name) h
        ∙ ap (λ (b : Bool). is_some (cond b (Some e) (find (λ (d : Entry). is_same_name name d.name) (without_name name es)))) other ∙ more

own : (dir : Directory) (at : ℕ) (was : Entry) (name : List ℕ) → IsSayable dir → IsAt (entries_of dir) at was → is_same_name was.name name ≡ true
    → has_name (remove (entries_of dir) at) name ≡ false
own (Directory.Small dir) at was name small is same = ap (λ (es : List Entry). has_name es name) (edit_law.removed dir.entries at was name small.apart is same) ∙ none_named name dir.entries
own (Directory.Big dir) at was name big is same = ap (λ (es : List Entry). has_name es name) (edit_law.removed dir.entries at was name big.apart is same) ∙ none_named name dir.entries

pub free_name_law : FreeNameLaw
free_name_law = record {
  new = λ dir at name none. absent_without (entries_of dir) at name none;
  own = own;
}
