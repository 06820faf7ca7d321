-- The first sectors of a disc, which hold an old map.
use Rattle.std.proofs.Common.{◌≡◌, ◌<◌, ◌≤◌, ◌⊎◌, inl, inr, ⊎_elim, ℕ, zero, suc, ◌+◌, ◌-◌, ◌*◌, ◌/◌, true, List, [], ◌∷◌, ◌++◌, All, length, take, drop, get_or, refl, sym, ap, ap₂, subst, ◌∙◌, arith, length-drop}
use Rattle.std.specs.List.{range_with_len}
use Rattle.std.specs.Prelude.{replicate}
use Rattle.std.proofs.Math.Seq.{take-add}
use Rattle.std.proofs.lemmas.Bool.{cases_lt}
use Rattle.std.proofs.lemmas.List.{append-nil, drop-take, take-append-le, take-take, take_all}
use Rattle.std.proofs.lemmas.List.FromFn.{get_or-range_with_len, length-range_with_len}
use Rattle.fc_device.specs.declared.disk.Extent.{Extent}
use Rattle.fc_device.specs.Sectors.{row_at, sector_at}
use Rattle.fc_objects.specs.Extents.{sectors_in}
use Rattle.fc_objects.specs.Written.{AreApart, padded, part_at}
use Rattle.fc_image.specs.Layout.{is_among}
use Rattle.fc_oldmap.specs.OldMap.{OldMapContent, map_units}
use Rattle.fc_writing.specs.declared.ready.MapStep.TheVariants as steps
use Rattle.fc_writing.specs.Content.{Content, HasContent, IsPart, stored}
use Rattle.fc_writing.specs.Old.{FrontLeaves, IsTorn, StepLeaves, front_in, sector_of, with_map}
use Rattle.fc_writing.proofs.ContentLemmas.{clash, content_among, numbered_here, numbered_is, numbered_sectors}

-- ---- rows of sectors

-- one sector more
row_more : (size count : ℕ) (xs : List ℕ) → take (suc count * size) xs ≡ take (count * size) xs ++ sector_at size xs count
unfolding sector_at
row_more size count xs = (let e : suc count * size ≡ count * size + size = omega arith in ap (λ (n : ℕ). take n xs) e) ∙ take-add (count * size) size xs

-- rows are equal if their sectors are
pub rows : (size count : ℕ) (xs ys : List ℕ) → ((s : ℕ) → s < count → sector_at size xs s ≡ sector_at size ys s) → take (count * size) xs ≡ take (count * size) ys
rows size zero xs ys same = let e : 0 * size ≡ 0 = omega arith in ap (λ (n : ℕ). take n xs) e ∙ sym (ap (λ (n : ℕ). take n ys) e)
rows size (suc count) xs ys same =
    row_more size count xs ∙ ap₂ (λ (a b : List ℕ). a ++ b) (rows size count xs ys (λ s low. same s (omega (arith, low)))) (same count (omega arith)) ∙ sym (row_more size count ys)

-- a sector of the first bytes
pub sector_front : (size n s : ℕ) (xs : List ℕ) → s * size + size ≤ n → sector_at size (take n xs) s ≡ sector_at size xs s
unfolding sector_at
sector_front size n s xs fits =
    (let e : n ≡ s * size + (n - s * size) = omega (arith, fits) in ap (λ (m : ℕ). take size (drop (s * size) (take m xs))) e)
    ∙ ap (take size) (drop-take (s * size) (n - s * size) xs) ∙ take-take size (n - s * size) (drop (s * size) xs) (omega (arith, fits))

-- the part of some bytes that fill a sector
pub part_sector : (size s : ℕ) (bytes : List ℕ) → s * size + size ≤ length bytes → part_at size bytes s ≡ sector_at size bytes s
unfolding sector_at padded
part_sector size s bytes fits = take-append-le size (drop (s * size) bytes) (replicate size 0) (let l = length-drop (s * size) bytes in omega (arith, fits, l))

times_low : (size count s : ℕ) → s < count → s * size + size ≤ count * size
times_low size zero s low = absurd (omega (arith, low))
times_low size (suc count) s low = elim (cases_lt s count) [
  | inl less ↦ (let h = times_low size count s less in let e : suc count * size ≡ count * size + size = omega arith in omega (arith, h, e))
  | inr last ↦ (let same : s ≡ count = omega (arith, low, last) in let e : suc count * size ≡ count * size + size = omega arith in let f : s * size ≡ count * size = ap (λ (n : ℕ). n * size) same in omega (arith, e, f))
]

-- ---- bytes in the first sectors

pub row_is : (row : Extent) → row.first ≡ 0 → sectors_in (row ∷ []) ≡ range_with_len 0 row.sectors
row_is row first = append-nil (range_with_len row.first row.sectors) ∙ ap (λ (n : ℕ). range_with_len n row.sectors) first

pub row_apart : (n : ℕ) → AreApart (range_with_len 0 n)
row_apart n = λ i j before high same.
    let long = length-range_with_len 0 n in
    let a = get_or-range_with_len 0 n i 0 (omega (arith, before, high, long)) in
    let b = get_or-range_with_len 0 n j 0 (omega (arith, high, long)) in
    omega (arith, a, b, same, before)

pub row_low : (n sectors : ℕ) → n ≤ sectors → All (λ s. s < sectors) (range_with_len 0 n)
row_low n sectors fits k d low = let long = length-range_with_len 0 n in let at = get_or-range_with_len 0 n k d (omega (arith, low, long)) in omega (arith, at, low, long, fits)

pub row_front : (size first count : ℕ) (image : List ℕ) → first ≡ 0 → row_at size image first count ≡ take (count * size) image
unfolding row_at
row_front size first count image none = let e : first * size ≡ 0 = ap (λ (n : ℕ). n * size) none ∙ (let z : 0 * size ≡ 0 = omega arith in z) in ap (λ (k : ℕ). take (count * size) (drop k image)) e

module _ (size count : ℕ) (bytes : List ℕ) (long : length bytes ≡ count * size) where
  abbrev c : Content
  c = stored size (range_with_len 0 count) bytes

  -- each of them
  pub row_has : (image : List ℕ) → HasContent size c image → take (count * size) image ≡ bytes
  row_has image has =
      rows size count image bytes
      (λ s low.
      let fits = times_low size count s low in
      let at = get_or-range_with_len 0 count s 0 low in
      let inside : s < length (range_with_len 0 count) = (let n = length-range_with_len 0 count in omega (arith, low, n)) in
      ap (sector_at size image) (let e : s ≡ get_or (range_with_len 0 count) s 0 = omega (arith, at) in e)
      ∙ has (get_or (range_with_len 0 count) s 0, part_at size bytes s) (numbered_here (part_at size bytes) (range_with_len 0 count) s inside)
      ∙ part_sector size s bytes (omega (arith, fits, long)))
      ∙ take_all (count * size) bytes (omega (arith, long))

  pub row_torn : (was image : List ℕ) → IsPart size [] c was image → FrontLeaves size count bytes was image
  row_torn was image part = record {
    others = record {
      length_stays = part.length_stays;
      each = λ s out. ⊎_elim (λ same. inl same)
          (λ there. absurd (clash (is_among (range_with_len 0 count) s)
          (subst (λ (ss : List ℕ). is_among ss s ≡ true) (numbered_sectors (part_at size bytes) 0 (range_with_len 0 count)) (content_among c (s, sector_at size image s) there)) out)) (part.each s refl);
    };
    torn = λ s low. ⊎_elim (λ same. inl same)
        (λ there.
        let at = numbered_is (part_at size bytes) (range_with_len 0 count) (s, sector_at size image s) there in
        let n = length-range_with_len 0 count in
        let is = get_or-range_with_len 0 count at.0 0 (let h = at.1 in omega (arith, h, n)) in
        let same : at.0 ≡ s = (let e = at.2 in omega (arith, is, e)) in
        let fits = times_low size count s low in
        inr (sym at.3 ∙ ap (part_at size bytes) same ∙ part_sector size s bytes (omega (arith, fits, long)))) (part.each s refl);
  }

pub front_same : (size count : ℕ) (new image : List ℕ) → FrontLeaves size count new image image
front_same size count new image = record { others = record { length_stays = refl; each = λ s out. inl refl }; torn = λ s low. inl refl }

-- what was read at first, with the map in it
pub front_now : (space : OldMapContent) (size size' first count : ℕ) (was into new : List ℕ) → size' ≡ size → first ≡ 0 → into ≡ row_at size' was first count → new ≡ with_map space into
    → new ≡ with_map space (take (count * size) was)
front_now space size size' first count was into new size_is none into_is new_is =
    new_is ∙ ap (with_map space) (into_is ∙ ap (λ (k : ℕ). row_at k was first count) size_is ∙ row_front size first count was none)

pub front_part : (size : ℕ) (row : Extent) (front new was there image : List ℕ) → row.first ≡ 0 → length front ≡ row.sectors * size → front ≡ new → there ≡ was → IsPart size [] (stored size (sectors_in (row ∷ [])) front) there image
    → FrontLeaves size row.sectors new was image
front_part size row front new was there image first long is same part =
    subst (λ (b : List ℕ). FrontLeaves size row.sectors b was image) is
    (row_torn size row.sectors front long was image
    (subst (λ (b : List ℕ). IsPart size [] (stored size (range_with_len 0 row.sectors) front) b image) same (subst (λ (ss : List ℕ). IsPart size [] (stored size ss front) there image) (row_is row first) part)))

pub front_has : (size : ℕ) (row : Extent) (front new image : List ℕ) → row.first ≡ 0 → length front ≡ row.sectors * size → front ≡ new → HasContent size (stored size (sectors_in (row ∷ [])) front) image
    → take (row.sectors * size) image ≡ new
front_has size row front new image first long is has =
    row_has size row.sectors front long image (subst (λ (ss : List ℕ). HasContent size (stored size ss front) image) (row_is row first) has) ∙ is

-- ---- the map

abbrev pub HasUnits : OldMapContent → Type 0
HasUnits space = (space.sector_units ≡ 1) ⊎ (space.sector_units ≡ 4)

abbrev pub count_of : OldMapContent → ℕ
count_of space = map_units space.sector_units / space.sector_units

pub front_count : (space : OldMapContent) → HasUnits space → 256 * map_units space.sector_units ≡ count_of space * sector_of space
front_count space (inl one) = subst (λ (u : ℕ). 256 * map_units u ≡ map_units u / u * (256 * u)) (sym one) refl
front_count space (inr four) = subst (λ (u : ℕ). 256 * map_units u ≡ map_units u / u * (256 * u)) (sym four) refl

pub front_is : (space : OldMapContent) (image : List ℕ) → HasUnits space → front_in space image ≡ take (count_of space * sector_of space) image
front_is space image units = ap (λ (n : ℕ). take n image) (front_count space units)

-- the map's sectors are those of the image
pub untorn : (space : OldMapContent) → HasUnits space → (was image : List ℕ) → ((s : ℕ) → s < count_of space → sector_at (sector_of space) image s ≡ sector_at (sector_of space) was s) → front_in space image ≡ front_in space was
untorn space units was image same = front_is space image units ∙ rows (sector_of space) (count_of space) image was same ∙ sym (front_is space was units)

-- a sector of the front
pub in_front_at : (space : OldMapContent) → HasUnits space → (was : List ℕ) (s : ℕ) → s < count_of space → sector_at (sector_of space) (front_in space was) s ≡ sector_at (sector_of space) was s
in_front_at space units was s low =
    let fits = times_low (sector_of space) (count_of space) s low in
    let n = front_count space units in
    sector_front (sector_of space) (256 * map_units space.sector_units) s was (omega (arith, fits, n))

pub torn_was : (space : OldMapContent) → HasUnits space → (was new image : List ℕ) → new ≡ front_in space was → IsTorn space was new image → (s : ℕ) → s < count_of space → sector_at (sector_of space) image s ≡ sector_at (sector_of space) was s
torn_was space units was new image same torn s low =
    ⊎_elim (λ old. old) (λ now. now ∙ ap (λ (f : List ℕ). sector_at (sector_of space) f s) same ∙ in_front_at space units was s low) (torn s low)

pub torn_front : (space : OldMapContent) → HasUnits space → (was old new image : List ℕ) → old ≡ front_in space was → new ≡ front_in space was → IsTorn space old new image
    → (s : ℕ) → s < count_of space → sector_at (sector_of space) image s ≡ sector_at (sector_of space) was s
torn_front space units was old new image old_is new_is torn s low =
    ⊎_elim (λ e. e ∙ ap (λ (f : List ℕ). sector_at (sector_of space) f s) old_is ∙ in_front_at space units was s low)
    (λ e. e ∙ ap (λ (f : List ℕ). sector_at (sector_of space) f s) new_is ∙ in_front_at space units was s low) (torn s low)

-- the map, written by a row of its sectors
module _ (space : OldMapContent) (units : HasUnits space) (size count : ℕ) (size_is : size ≡ sector_of space) (count_is : count ≡ count_of space) where
  whole_is : count * size ≡ 256 * map_units space.sector_units
  whole_is = ap₂ (λ (a b : ℕ). a * b) count_is size_is ∙ sym (front_count space units)

  pub row_left : (was image : List ℕ) → FrontLeaves size count (with_map space (take (count * size) was)) was image → StepLeaves space (steps.Old space) was image
  row_left was image leaves =
      subst (λ (n : ℕ). FrontLeaves (sector_of space) n (with_map space (front_in space was)) was image) count_is
      (subst (λ (k : ℕ). FrontLeaves k count (with_map space (front_in space was)) was image) size_is
      (subst (λ (n : ℕ). FrontLeaves size count (with_map space (take n was)) was image) whole_is leaves))

  pub row_done : (was image : List ℕ) → take (count * size) image ≡ with_map space (take (count * size) was) → front_in space image ≡ with_map space (front_in space was)
  row_done was image done = subst (λ (n : ℕ). take n image ≡ with_map space (take n was)) whole_is done

-- the map of another space of the same disc
pub left_of_disc : (map space : OldMapContent) → space.sector_units ≡ map.sector_units → (was image : List ℕ) → StepLeaves space (steps.Old space) was image → StepLeaves map (steps.Old space) was image
left_of_disc map space same was image leaves = subst (λ (u : ℕ). FrontLeaves (256 * u) (map_units u / u) (with_map space (take (256 * map_units u) was)) was image) same leaves

pub done_of_disc : (map space : OldMapContent) → space.sector_units ≡ map.sector_units → (was image : List ℕ) → front_in space image ≡ with_map space (front_in space was) → front_in map image ≡ with_map space (front_in map was)
done_of_disc map space same was image done = subst (λ (u : ℕ). take (256 * map_units u) image ≡ with_map space (take (256 * map_units u) was)) same done
