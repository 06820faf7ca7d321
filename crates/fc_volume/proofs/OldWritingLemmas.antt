-- What writing the front of a disc leaves of its image.
use Rattle.std.proofs.Common.{◌≡◌, ◌≤◌, ◌<◌, inl, inr, ⊎_elim, ◌+◌, ◌-◌, ◌*◌, ◌/◌, ℕ, false, List, [], ◌∷◌, ◌++◌, length, take, drop, get_or, refl, sym, ap, ap₂, subst, ◌∙◌, arith}
use Rattle.std.specs.List.{range_with_len}
use Rattle.std.proofs.lemmas.List.{take-take, drop-take}
use Rattle.std.proofs.lemmas.List.FromFn.{get_or-range_with_len, length-range_with_len}
use Rattle.std.proofs.lemmas.Bool.{cases_lt}
use Rattle.fc_newmap.proofs.PlaceLemmas.{in_range}
use Rattle.std.proofs.Math.Seq.{drop-append_seam, take-append_seam}
use Rattle.fc_bytes.specs.Words.{bytes_at}
use Rattle.fc_device.specs.declared.disk.Extent.{Extent}
use Rattle.fc_device.specs.Sectors.{row_at, sector_at}
use Rattle.std.specs.Prelude.{All, Option, Some}
use Rattle.fc_device.specs.declared.disk.Disk.{Ghosts}
use Rattle.fc_device.specs.Calls.{StopsAndExitsLeave}
use Rattle.fc_image.proofs.FreeLemmas.{range_bounds}
use Rattle.fc_image.specs.Layout.{Layout, is_among, map_place}
use Rattle.fc_objects.specs.Bytes.{first_bytes}
use Rattle.fc_objects.specs.Extents.{sectors_in}
use Rattle.fc_objects.specs.Written.{IsPartWritten, part_at}
use Rattle.fc_objects.proofs.BlockLemmas.{row_bytes}
use Rattle.fc_objects.proofs.WriteLemmas.{reads_back}
use Rattle.fc_oldmap.specs.OldMap.{OldMapContent, map_units, with_holes}
use Rattle.fc_changes.specs.old.Owed.{IsWritten}
use Rattle.fc_volume.specs.OldWriting.{ChangesFront, IsFrontWritten, IsMapWritten}
use Rattle.fc_tree.proofs.ReadingLemmas.{all_on_disk as all_low}
use Rattle.fc_writing.specs.Content.{HasContent, IsPart, stored}
use Rattle.fc_writing.proofs.ContentLemmas.{numbered_here, numbered_is}
use Rattle.fc_writing.proofs.FrontLemmas.{row_is}

-- the first bytes of the first sectors
pub row_front : (size : ℕ) (image : List ℕ) (n : ℕ) → row_at size image 0 n ≡ take (n * size) image
unfolding row_at
row_front size image n = let none : 0 * size ≡ 0 = omega arith in ap (λ (k : ℕ). take (n * size) (drop k image)) none

pub first_front : (size : ℕ) (image : List ℕ) (n : ℕ) → first_bytes size image (range_with_len 0 n) (n * size) ≡ take (n * size) image
unfolding first_bytes
first_front size image n =
    ap (take (n * size)) (sym (row_bytes size image 0 n) ∙ row_front size image n) ∙ take-take (n * size) (n * size) image (omega arith)

-- ---- what is stored

-- A part of some bytes, by their sectors,
pub part_stored : (size : ℕ) (sectors bytes was image : List ℕ) → IsPart size [] (stored size sectors bytes) was image → IsPartWritten size sectors bytes was image
part_stored size sectors bytes was image part = record {
  length_stays = part.length_stays;
  each = λ s. ⊎_elim (λ same. inl same)
      (λ there. (let at = numbered_is (part_at size bytes) sectors (s, sector_at size image s) there in inr (at.0, at.1, at.2, sym at.3))) (part.each s refl);
}

-- and all of them, which are read back.
pub stored_back : (size : ℕ) (sectors bytes image : List ℕ) → length bytes ≤ length sectors * size → HasContent size (stored size sectors bytes) image → first_bytes size image sectors (length bytes) ≡ bytes
stored_back size sectors bytes image room has =
    reads_back size image sectors bytes (λ i low. has (get_or sectors i 0, part_at size bytes i) (numbered_here (part_at size bytes) sectors i low)) room

-- ---- the map

module _ (space : OldMapContent) (len : ℕ) (was image : List ℕ) (long : 512 ≤ len) (is : IsFrontWritten space len was image) where
  abbrev new : List ℕ
  new = with_holes (take 512 (take len was)) space.holes

  old_front : take 512 (take len was) ≡ take 512 was
  old_front = take-take 512 len was long

  front : bytes_at image 0 512 ≡ with_holes (bytes_at was 0 512) space.holes
  front =
      sym (take-take 512 len image long) ∙ ap (take 512) is.bytes
      ∙ ap (λ (n : ℕ). take n (new ++ drop 512 (take len was))) (sym is.long) ∙ take-append_seam new (drop 512 (take len was))
      ∙ ap (λ (bs : List ℕ). with_holes bs space.holes) old_front

  tail_of : (xs : List ℕ) (k : ℕ) → 512 + k ≤ len → take k (drop 512 (take len xs)) ≡ take k (drop 512 xs)
  tail_of xs k fits =
      let e : len ≡ 512 + (len - 512) = omega (arith, long) in
      ap (λ (n : ℕ). take k (drop 512 (take n xs))) e ∙ ap (take k) (drop-take 512 (len - 512) xs) ∙ take-take k (len - 512) (drop 512 xs) (omega (arith, fits))

  rest : (k : ℕ) → 512 + k ≤ len → bytes_at image 512 k ≡ bytes_at was 512 k
  rest k fits =
      sym (tail_of image k fits) ∙ ap (λ (bs : List ℕ). take k (drop 512 bs)) is.bytes
      ∙ ap (λ (n : ℕ). take k (drop n (new ++ drop 512 (take len was)))) (sym is.long) ∙ ap (take k) (drop-append_seam new (drop 512 (take len was)))
      ∙ tail_of was k fits

pub map_written : (space : OldMapContent) (len : ℕ) (was image : List ℕ) → 512 ≤ len → 256 * space.sector_units ≤ len → IsFrontWritten space len was image → IsWritten space [] was image → IsMapWritten space was image
map_written space len was image long fits is written = record {
  written = written;
  front = front space len was image long is;
  rest = by (256 * space.sector_units - 512) (omega (arith, long, fits));
}
  where
    by : (k : ℕ) → 512 + k ≤ len → bytes_at image 512 k ≡ bytes_at was 512 k
    by k low = rest space len was image long is k low

-- ---- the first sectors

pub front_same : (size count : ℕ) (image : List ℕ) → ChangesFront size count image image
front_same size count image = record { length_stays = refl; outside = λ s high. refl }

pub front_then : (size count : ℕ) (a b c : List ℕ) → ChangesFront size count a b → ChangesFront size count b c → ChangesFront size count a c
front_then size count a b c first second = record { length_stays = second.length_stays ∙ first.length_stays; outside = λ s high. second.outside s high ∙ first.outside s high }

-- a part of some bytes in them
pub front_part : (size count : ℕ) (row : Extent) (bytes was image : List ℕ) → row.first ≡ 0 → row.sectors ≡ count → IsPartWritten size (sectors_in (row ∷ [])) bytes was image → ChangesFront size count was image
front_part size count row bytes was image first many part = record {
  length_stays = part.length_stays;
  outside = λ s high. elim (part.each s) [
    | inl same ↦ same
    | inr torn ↦ absurd (low s torn.0 (subst (λ (xs : List ℕ). torn.0 < length xs) here torn.1) (ap (λ (xs : List ℕ). get_or xs torn.0 0) (sym here) ∙ torn.2) high)
  ];
}
  where
    here : sectors_in (row ∷ []) ≡ range_with_len 0 count
    here = row_is row first ∙ ap (range_with_len 0) many

    low : (s i : ℕ) → i < length (range_with_len 0 count) → get_or (range_with_len 0 count) i 0 ≡ s → count ≤ s → ⊥
    low s i below is high =
        let long = length-range_with_len 0 count in
        let at = get_or-range_with_len 0 count i 0 (omega (arith, below, long)) in
        omega (arith, below, long, at, is, high)

-- they are those of the map
pub front_of_map : (space : OldMapContent) (size count : ℕ) → size ≡ 256 * space.sector_units → count ≡ map_units space.sector_units / space.sector_units → (was image : List ℕ) → ChangesFront size count was image
    → IsWritten space [] was image
front_of_map space size count size_is count_is was image front = record {
  length_stays = front.length_stays;
  writes = λ s apart out. subst (λ (k : ℕ). sector_at k image s ≡ sector_at k was s) size_is (front.outside s (behind s out));
}
  where
    behind : (s : ℕ) → is_among (map_place (Layout.Old space)) s ≡ false → count ≤ s
    behind s out = elim (cases_lt s count) [
      | inl low ↦ absurd (let yes = in_range 0 (map_units space.sector_units / space.sector_units) s (omega arith) (omega (arith, low, count_is)) in cc)
      | inr high ↦ high
    ]

-- they lie on a disk that has so many
pub row_low : (sectors : ℕ) (row : Extent) → row.first ≡ 0 → row.sectors ≤ sectors → All (λ n. n < sectors) (sectors_in (row ∷ []))
row_low sectors row first few = subst (All (λ n. n < sectors)) (sym (row_is row first)) (all_low sectors (range_with_len 0 row.sectors) (λ s i. (let b = range_bounds 0 row.sectors s i in omega (arith, b, few))))

pub row_long : (row : Extent) → row.first ≡ 0 → length (sectors_in (row ∷ [])) ≡ row.sectors
row_long row first = ap (λ (xs : List ℕ). length xs) (row_is row first) ∙ length-range_with_len 0 row.sectors

-- what was read, patched and written back
pub front_written : (space : OldMapContent) (size : ℕ) (row : Extent) (was image first second : List ℕ) → row.first ≡ 0 → first ≡ row_at size was row.first row.sectors
    → second ≡ with_holes (take 512 first) space.holes ++ drop 512 first → length (with_holes (take 512 first) space.holes) ≡ 512 → length second ≡ row.sectors * size
    → first_bytes size image (sectors_in (row ∷ [])) (length second) ≡ second → IsFrontWritten space (row.sectors * size) was image
front_written space size row was image first second at filled patched whole long back =
    let one : first ≡ take (row.sectors * size) was = filled ∙ ap (λ (k : ℕ). row_at size was k row.sectors) at ∙ row_front size was row.sectors in
    record {
      bytes = sym (first_front size image row.sectors) ∙ ap₂ (λ (xs : List ℕ) (k : ℕ). first_bytes size image xs k) (sym (row_is row at)) (sym long) ∙ back ∙ patched
          ∙ ap (λ (f : List ℕ). with_holes (take 512 f) space.holes ++ drop 512 f) one;
      long = subst (λ (f : List ℕ). length (with_holes (take 512 f) space.holes) ≡ 512) one whole;
    }

-- ---- exits

pub kept_to : {D : Type 0} (d : Ghosts D) {R : List ℕ → List ℕ → Type 0} {old new : D} → StopsAndExitsLeave d old new R → (was image : List ℕ) → d.bytes old ≡ Some was → d.bytes new ≡ Some image → R was image
kept_to d {R = R} keeps was image told now = let there = keeps.exit was told in subst (R was) (same there.0 image (sym there.1 ∙ now)) there.2
  where
    same : (a b : List ℕ) → (let x : Option (List ℕ) = Some a in x) ≡ Some b → a ≡ b
    same a b e = cc
