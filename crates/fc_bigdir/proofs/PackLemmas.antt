-- Heaps of exactly the names of entries.
use Rattle.std.proofs.Common.{◌≡◌, ◌<◌, ℕ, zero, suc, ◌+◌, List, [], ◌∷◌, ◌++◌, length, get_or, map, sum_by, take, refl, sym, ap, ap₂, ◌∙◌, arith, length-append}
use Rattle.std.proofs.lemmas.List.Sums.{sum_by-cons}
use Rattle.fc_dirs.specs.declared.Entry.{Entry}
use Rattle.fc_dirs.specs.Entries.{padded_name}
use Rattle.fc_dirs.specs.Big.{name_space, packed_heap, packed_places}
use Rattle.fc_smalldir.proofs.NameLemmas.{length-padded}

-- the place after the names of entries
abbrev pub names_end : ℕ → List Entry → ℕ
names_end at [] = at
names_end at (e ∷ es) = names_end (at + name_space e.name) es

-- the names that are done, and one more
pub places_more : (at : ℕ) (es : List Entry) (i : ℕ) (d : Entry) → i < length es → packed_places at (take (i + 1) es) ≡ packed_places at (take i es) ++ names_end at (take i es) ∷ []
places_more at [] i d within = absurd (omega arith)
places_more at (e ∷ es) zero d within = refl
places_more at (e ∷ es) (suc i) d within =
    let next : suc i + 1 ≡ suc (i + 1) = omega arith in
    rw next (ap (λ l. at ∷ l) (places_more (at + name_space e.name) es i d (omega arith)))

pub end_more : (at : ℕ) (es : List Entry) (i : ℕ) (d : Entry) → i < length es → names_end at (take (i + 1) es) ≡ names_end at (take i es) + name_space (get_or es i d).name
end_more at [] i d within = absurd (omega arith)
end_more at (e ∷ es) zero d within = refl
end_more at (e ∷ es) (suc i) d within =
    let next : suc i + 1 ≡ suc (i + 1) = omega arith in
    rw next (end_more (at + name_space e.name) es i d (omega arith))

pub length-packed : (es : List Entry) → length (packed_heap es) ≡ sum_by (λ (e : Entry). name_space e.name) es
length-packed [] = refl
length-packed (e ∷ es) =
    length-append (padded_name (name_space e.name) e.name) (packed_heap es) ∙ ap₂ (λ a b. a + b) (length-padded (name_space e.name) e.name) (length-packed es)
    ∙ sym (sum_by-cons (λ (x : Entry). name_space x.name) e es)

pub names_sum : (es : List Entry) → sum_by name_space (map (λ (e : Entry). e.name) es) ≡ sum_by (λ (e : Entry). name_space e.name) es
names_sum [] = refl
names_sum (e ∷ es) =
    sum_by-cons name_space e.name (map (λ (x : Entry). x.name) es) ∙ ap (λ n. name_space e.name + n) (names_sum es) ∙ sym (sum_by-cons (λ (x : Entry). name_space x.name) e es)
