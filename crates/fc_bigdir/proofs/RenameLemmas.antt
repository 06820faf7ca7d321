-- What a renamed entry makes of a directory.
use Rattle.std.proofs.Common.{◌≡◌, ◌<◌, ℕ, zero, suc, Bool, true, false, List, [], ◌∷◌, length, get_or, insert, remove, slice_index, refl, sym, ap, ◌∙◌, subst, arith}
use Rattle.std.specs.Option.{option_map_or}
use Rattle.std.specs.Str.{bytes_eq}
use Rattle.std.proofs.lemmas.List.Edits.{length-remove}
use Rattle.std.proofs.lemmas.List.Elements.{All-from_recursion}
use Rattle.std.proofs.lemmas.Option.{slice_get-get_or}
use Rattle.std.proofs.lemmas.Slice.Eq.{bytes_eq-Decides}
use Rattle.fc_names.specs.Names.{IsName, is_same_name}
use Rattle.fc_dirs.proofs.SearchLemmas.{blank}
use Rattle.fc_dirs.specs.declared.Entry.{Entry}
use Rattle.fc_dirs.specs.Entries.{has_name, without_entry}
use Rattle.fc_dirs.specs.Big.{BigDir, IsBig, FitsBig, StandsInHeap, is_spelled, with_entry_at, without_big_entry}
use Rattle.fc_bigdir.proofs.StandLemmas.{stand_at}
use Rattle.fc_bigdir.proofs.GrowLemmas.{big_left, big_entry_at}

-- what was taken out, put back
pub put_back : {X : Type 0} (xs : List X) (i : ℕ) (d : X) → i < length xs → insert (remove xs i) i (get_or xs i d) ≡ xs
put_back [] i d within = absurd (omega arith)
put_back (x ∷ xs) zero d within = refl
put_back (x ∷ xs) (suc i) d within = ap (λ l. x ∷ l) (put_back xs i d (omega arith))

-- a name that is spelled the same
pub spelled_name : (dir : BigDir) (at : ℕ) (e : Entry) → at < length dir.entries → is_spelled at e dir ≡ true → (get_or dir.entries at blank).name ≡ e.name
spelled_name dir at e within spelled =
    let found = ap (λ o. option_map_or (λ (d : Entry). bytes_eq d.name e.name) o false) (slice_get-get_or dir.entries at blank within) in
    (bytes_eq-Decides (get_or dir.entries at blank).name e.name).0 (sym found ∙ spelled)

-- A directory with an entry in place of one of the same spelling is one that bytes can say.
pub big_replaced : (dir : BigDir) (at : ℕ) (e : Entry) → IsBig dir → at < length dir.entries → is_spelled at e dir ≡ true → has_name (without_entry at dir.entries) e.name ≡ false → e.last ≡ 0
    → IsBig (with_entry_at (slice_index dir.name_places at) e (without_big_entry at dir))
big_replaced dir at e big within spelled absent last =
    let name = spelled_name dir at e within spelled in
    let was : FitsBig (get_or dir.entries at blank) = All-from_recursion FitsBig dir.entries big.entries at blank within in
    let fits : FitsBig e = record { name = subst IsName name was.name; last = last } in
    let stands : StandsInHeap dir.heap (slice_index dir.name_places at) e.name = subst (StandsInHeap dir.heap (slice_index dir.name_places at)) name (stand_at dir.heap dir.name_places dir.entries at blank big.names within) in
    let size = length-remove dir.entries at within in
    big_entry_at (without_big_entry at dir) (slice_index dir.name_places at) e (big_left dir at big within) fits absent stands (omega (arith, big.fits, size, within))

-- where no entry has the name, none of the others has it
pub absent_without : (es : List Entry) (at : ℕ) (name : List ℕ) → has_name es name ≡ false → has_name (without_entry at es) name ≡ false
absent_without [] zero name absent = refl
absent_without [] (suc at) name absent = refl
absent_without (e ∷ es) at name absent = go (is_same_name name e.name) refl at absent (λ i h. absent_without es i name h) where
  go : (b : Bool) → is_same_name name e.name ≡ b → (at : ℕ) → has_name (e ∷ es) name ≡ false → ((i : ℕ) → has_name es name ≡ false → has_name (without_entry i es) name ≡ false) → has_name (without_entry at (e ∷ es)) name ≡ false
  go true is at absent more = absurd (let some : true ≡ false = rw is at absent in cc)
  go false is zero absent more = rw is at absent
  go false is (suc i) absent more = rw is (more i (rw is at absent))
