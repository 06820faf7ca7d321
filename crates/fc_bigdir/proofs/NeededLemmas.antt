-- The size that a directory needs, from counts alone.
use Rattle.std.proofs.Common.{◌≡◌, ℕ, ◌+◌, min, List, [], ◌∷◌, ◌++◌, length, map, sum_by, ap, ap₂, ◌∙◌, sym, length-append}
use Rattle.std.proofs.lemmas.List.{length-map}
use Rattle.std.proofs.lemmas.List.Sums.{sum_by_push}
use Rattle.fc_dirs.specs.declared.Entry.{Entry}
use Rattle.fc_dirs.specs.Big.{BigDir, head_space_of, name_space, needed_size, size_for}
use Rattle.fc_bigdir.specs.declared.needed.Parts.{Parts}
use Rattle.fc_bigdir.specs.Entered.{ArePartsWith, needed_for}
use Rattle.fc_bigdir.specs.Fields.{packed_size}
use Rattle.fc_bigdir.proofs.PackLemmas.{names_sum}

-- the names of these entries, and one more
pub needed_more : (dir : BigDir) (entries : List Entry) (name : List ℕ)
    → needed_size dir (map (λ (e : Entry). e.name) entries ++ name ∷ []) name
    ≡ needed_for (head_space_of dir) (length entries + 1) (length dir.heap + name_space name) (packed_size entries + name_space name)
needed_more dir entries name =
    let names = map (λ (e : Entry). e.name) entries in
    let len : length (names ++ name ∷ []) ≡ length entries + 1 = length-append names (name ∷ []) ∙ ap (λ (n : ℕ). n + 1) (length-map entries (λ (e : Entry). e.name)) in
    let sum : sum_by name_space (names ++ name ∷ []) ≡ packed_size entries + name_space name =
    sum_by_push name_space names name ∙ ap (λ (a : ℕ). a + name_space name) (names_sum entries) in
    ap₂ (λ (k s : ℕ). min (size_for (head_space_of dir) k (length dir.heap + name_space name)) (size_for (head_space_of dir) k s)) len sum

-- the same by the parts
pub needed_by : (dir : BigDir) (name : List ℕ) (parts : Parts) → ArePartsWith dir name parts
    → needed_for parts.head parts.entries parts.loose parts.tight ≡ needed_size dir (map (λ (e : Entry). e.name) dir.entries ++ name ∷ []) name
needed_by dir name parts are =
    ap₂ (λ (h k : ℕ). needed_for h k parts.loose parts.tight) are.head are.entries ∙ ap₂ (λ (l t : ℕ). needed_for (head_space_of dir) (length dir.entries + 1) l t) are.loose are.tight
    ∙ sym (needed_more dir dir.entries name)
