-- A search for the sectors of an object along the rows of its identifier.
use Rattle.std.proofs.Common.{◌≡◌, ◌<◌, ◌≤◌, ℕ, zero, suc, ◌+◌, ◌-◌, List, [], ◌∷◌, ◌++◌, length, take, drop, Option, Some, None, refl, sym, ap, ap₂, subst, ◌∙◌, arith, append-nil}
use Rattle.std.specs.Prelude.{◌/◌, ◌%◌, ◌==◌, Bool, true, All, slice_index_or, if◌then◌else◌}
use Rattle.std.specs.Int.{div_ceil}
use Rattle.std.specs.Option.{option_map}
use Rattle.std.proofs.lemmas.Grind.{flat_map-append}
use Rattle.std.proofs.lemmas.List.Elements.{All-filter}
use Rattle.std.proofs.lemmas.List.Folds.{flat_map-map}
use Rattle.std.proofs.lemmas.List.FromFn.{length-range_with_len}
use Rattle.fc_device.specs.declared.disk.Extent.{Extent}
use Rattle.fc_newmap.specs.Map.{Map, extent_of, id_runs}
use Rattle.fc_image.specs.Layout.{first_part, id_sectors, is_object_id, low_start, new_sectors}
use Rattle.fc_objects.specs.Extents.{extent_sectors, sectors_in}
use Rattle.fc_space.specs.declared.index.IdRow.{IdRow}
use Rattle.fc_space.specs.Index.{IsIndex, IsLow, places_in, rows_of}
use Rattle.fc_space.proofs.PartLemmas.{map_more, wanted_behind}

-- The sectors that are wanted are those that were found, and `need` sectors after `skip` sectors of the rows that are left.
abbrev pub AreSought : List IdRow → ℕ → ℕ → List Extent → List IdRow → ℕ → ℕ → Type 0
AreSought rows skip need found left skip' need' =
    first_part need (drop skip (sectors_in (places_in rows))) ≡ option_map (λ (more : List ℕ). sectors_in found ++ more) (first_part need' (drop skip' (sectors_in (places_in left))))

pub push_sectors : (found : List Extent) (part : Extent) → sectors_in (found ++ part ∷ []) ≡ sectors_in found ++ extent_sectors part
push_sectors found part = flat_map-append extent_sectors found (part ∷ []) ∙ ap (λ (xs : List ℕ). sectors_in found ++ xs) (append-nil (extent_sectors part))

-- a row's part is found, where these are the sectors that were found with it
behind_row : (rows : List IdRow) (skip need : ℕ) (found found' : List Extent) (row : IdRow) (rest : List IdRow) (part : Extent) (skip' need' skip'' need'' : ℕ)
    → AreSought rows skip need found (row ∷ rest) skip' need' → extent_sectors part ≡ take need' (drop skip' (extent_sectors row.place))
    → sectors_in found' ≡ sectors_in found ++ extent_sectors part → skip'' ≡ skip' - row.place.sectors → need'' ≡ need' - part.sectors
    → AreSought rows skip need found' rest skip'' need''
behind_row rows skip need found found' row rest part skip' need' skip'' need'' s takes grown skipped needed =
    let sectors = extent_sectors row.place in
    let others = sectors_in (places_in rest) in
    let long_part : length (take need' (drop skip' sectors)) ≡ part.sectors = ap length (sym takes) ∙ length-range_with_len part.first part.sectors in
    let long : length sectors ≡ row.place.sectors = length-range_with_len row.place.first row.place.sectors in
    s
    ∙ ap (option_map (λ (more : List ℕ). sectors_in found ++ more)) (wanted_behind need' skip' sectors others)
    ∙ map_more (sectors_in found) (take need' (drop skip' sectors)) (first_part (need' - length (take need' (drop skip' sectors))) (drop (skip' - length sectors) others))
    ∙ ap₂ (λ (n k : ℕ). option_map (λ (more : List ℕ). (sectors_in found ++ take need' (drop skip' sectors)) ++ more) (first_part n (drop k others)))
    (ap (λ (n : ℕ). need' - n) long_part ∙ sym needed) (ap (λ (n : ℕ). skip' - n) long ∙ sym skipped)
    ∙ ap (λ (xs : List ℕ). option_map (λ (more : List ℕ). xs ++ more) (first_part need'' (drop skip'' others)))
    (ap (λ (xs : List ℕ). sectors_in found ++ xs) (sym takes) ∙ sym grown)

-- a part with sectors
pub sought_part : (rows : List IdRow) (skip need : ℕ) (found found' : List Extent) (row : IdRow) (rest : List IdRow) (part : Extent) (skip' need' skip'' need'' : ℕ)
    → AreSought rows skip need found (row ∷ rest) skip' need' → extent_sectors part ≡ take need' (drop skip' (extent_sectors row.place))
    → found' ≡ found ++ part ∷ [] → skip'' ≡ skip' - row.place.sectors → need'' ≡ need' - part.sectors
    → AreSought rows skip need found' rest skip'' need''
sought_part rows skip need found found' row rest part skip' need' skip'' need'' s takes grown skipped needed =
    behind_row rows skip need found found' row rest part skip' need' skip'' need'' s takes (ap sectors_in grown ∙ push_sectors found part) skipped needed

-- a part without
pub sought_behind : (rows : List IdRow) (skip need : ℕ) (found : List Extent) (row : IdRow) (rest : List IdRow) (part : Extent) (skip' need' skip'' need'' : ℕ)
    → AreSought rows skip need found (row ∷ rest) skip' need' → extent_sectors part ≡ take need' (drop skip' (extent_sectors row.place))
    → part.sectors ≤ 0 → skip'' ≡ skip' - row.place.sectors → need'' ≡ need' - part.sectors
    → AreSought rows skip need found rest skip'' need''
sought_behind rows skip need found row rest part skip' need' skip'' need'' s takes none skipped needed =
    let zero : part.sectors ≡ 0 = omega (arith, none) in
    let empty : extent_sectors part ≡ [] = ap (λ (n : ℕ). extent_sectors (record { first = part.first; sectors = n })) zero in
    behind_row rows skip need found found row rest part skip' need' skip'' need'' s takes (sym (append-nil (sectors_in found)) ∙ ap (λ (xs : List ℕ). sectors_in found ++ xs) (sym empty)) skipped needed

-- the row at a place, and those after it
pub next_row : (rows : List IdRow) (i : ℕ) (d : IdRow) → i < length rows → drop i rows ≡ slice_index_or rows i d ∷ drop (i + 1) rows
next_row [] i d within = absurd (omega (arith, within))
next_row (r ∷ rows) zero d within = refl
next_row (r ∷ rows) (suc i) d within =
    next_row rows i d (omega (arith, within)) ∙ ap (λ (n : ℕ). slice_index_or rows i d ∷ drop n (r ∷ rows)) (let e : suc (i + 1) ≡ suc i + 1 = omega arith in e)

-- ---- objects

-- what an index says of an identifier
pub id_sectors_by : (m : Map) (rows found : List IdRow) (id : ℕ) → IsIndex m rows → found ≡ rows_of id rows → sectors_in (places_in found) ≡ id_sectors m id
id_sectors_by m rows found id index is =
    ap (λ (l : List IdRow). sectors_in (places_in l)) is ∙ ap sectors_in (index.each id) ∙ flat_map-map extent_sectors (extent_of m.geometry) (id_runs m id)

pub rows_low : (m : Map) (rows found : List IdRow) (id : ℕ) → IsIndex m rows → found ≡ rows_of id rows → All IsLow found
rows_low m rows found id index is = subst (All IsLow) (sym is) (All-filter (λ (r : IdRow). r.id == id) IsLow rows index.low)

-- the sectors at an address whose identifier objects may have
pub sectors_by : (m : Map) (address bytes skip need : ℕ) → is_object_id m (address / 256) ≡ true → skip ≡ low_start m (address % 256) → need ≡ div_ceil bytes m.geometry.sector
    → (sectors : List ℕ) → sectors ≡ id_sectors m (address / 256) → new_sectors m address bytes ≡ first_part need (drop skip sectors)
sectors_by m address bytes skip need known skipped needed sectors is =
    ap (λ (b : Bool). if b then first_part (div_ceil bytes m.geometry.sector) (drop (low_start m (address % 256)) (id_sectors m (address / 256))) else None) known
    ∙ ap₂ (λ (n k : ℕ). first_part n (drop k (id_sectors m (address / 256)))) (sym needed) (sym skipped)
    ∙ ap (λ (s : List ℕ). first_part need (drop skip s)) (sym is)
