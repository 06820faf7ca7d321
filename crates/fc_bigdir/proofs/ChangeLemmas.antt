-- An entry that goes, and one that is replaced.
use Rattle.std.proofs.Common.{◌≡◌, ◌<◌, ◌≤◌, ℕ, zero, suc, List, [], ◌∷◌, length, get_or, set, slice_get, option_map, Some, sym, ◌∙◌, subst, arith}
use Rattle.std.specs.List.{AllByRecursion}
use Rattle.std.proofs.lemmas.List.{length-set}
use Rattle.fc_names.specs.Names.{IsName}
use Rattle.fc_dirs.specs.declared.Entry.{Entry}
use Rattle.fc_dirs.specs.Big.{AllStand, BigDir, FitsBig, IsBig, StandsInHeap, bytes_for, head_space_of, with_big_changed}
use Rattle.fc_dirs.proofs.SearchLemmas.{blank}
use Rattle.fc_dirs.proofs.TwinLemmas.{apart_from, none_from, apart_set}
use Rattle.fc_bigdir.proofs.GrowLemmas.{big_with}
use Rattle.fc_smalldir.proofs.SmallLemmas.{named_at}
pub use Rattle.fc_bigdir.proofs.WrittenEntries.{places_as_many as places_of}

stand_set : (heap places : List ℕ) (es : List Entry) (i : ℕ) (e : Entry) → AllStand heap places es → (get_or es i blank).name ≡ e.name → i < length es → AllStand heap places (set es i e)
stand_set heap [] [] i e stand same within = absurd (omega arith)
stand_set heap [] (x ∷ es) i e stand same within = absurd stand
stand_set heap (at ∷ places) [] i e stand same within = absurd stand
stand_set heap (at ∷ places) (x ∷ es) zero e stand same within = (subst (StandsInHeap heap at) same stand.0, stand.1)
stand_set heap (at ∷ places) (x ∷ es) (suc i) e stand same within = (stand.0, stand_set heap places es i e stand.1 same (omega arith))

fits_set : (es : List Entry) (i : ℕ) (e : Entry) → AllByRecursion FitsBig es → (get_or es i blank).name ≡ e.name → e.last ≡ 0 → i < length es → AllByRecursion FitsBig (set es i e)
fits_set [] i e all same last within = absurd (omega arith)
fits_set (x ∷ es) zero e all same last within = (record { name = subst IsName same (all.0).name; last = last }, all.1)
fits_set (x ∷ es) (suc i) e all same last within = (all.0, fits_set es i e all.1 same last (omega arith))

pub big_changed : (dir : BigDir) (at : ℕ) (e : Entry) → IsBig dir → at < length dir.entries → option_map (λ (d : Entry). d.name) (slice_get dir.entries at) ≡ Some e.name → e.last ≡ 0
    → IsBig (with_big_changed at e dir)
big_changed dir at e big within same last =
    let es = dir.entries in
    let name : (get_or es at blank).name ≡ e.name = named_at es at e.name same within in
    big_with dir dir.size dir.heap dir.name_places (set es at e) big big.size (subst (λ n. bytes_for (head_space_of dir) n (length dir.heap) ≤ dir.size) (sym (length-set es at e)) big.fits) big.words
    (fits_set es at e big.entries name last within) (stand_set dir.heap dir.name_places es at e big.names name within)
    (none_from (set es at e) (apart_set es at e (apart_from es big.apart) (sym name) within))
