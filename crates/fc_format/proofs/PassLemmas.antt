-- Passes over the front of an image, one after another.
use Rattle.std.proofs.Common.{◌≡◌, ◌⊎◌, ℕ, ◌+◌, ◌-◌, ◌*◌, ◌/◌, ◌%◌, ◌<◌, ◌≤◌, List, [], ◌∷◌, ◌++◌, length, take, drop, slice_index_or, suc, option_map, refl, sym, ap, subst, ◌∙◌, arith, append_assoc, length-append}
use Rattle.std.proofs.Math.Seq.{drop-cons, take-add}
use Rattle.std.proofs.lemmas.List.{append-nil, length-replicate, replicate-append-replicate}
use Rattle.fc_device.specs.declared.disk.Disk.{Ghosts}
use Rattle.fc_device.specs.Calls.{StopsTearOne}
use Rattle.fc_device.specs.Sectors.{with_sector}
use Rattle.fc_device.proofs.DiskLaws.{Laws}
use Rattle.fc_device.proofs.StopLemmas.{keeps_write}
use Rattle.fc_format.specs.Fresh.{zeros}
use Rattle.fc_format.specs.Passes.{AreParts, HasFront, KeepsBehind, LengthensFront, Part, laid}
use Rattle.fc_format.proofs.FrontLemmas.{behind_stays, front_written}

module _ {D : Type 0} (d : Ghosts D) where
  -- nothing was written yet
  pub lengthens_none : (old : D) (long : ℕ) → LengthensFront d old old long []
  lengthens_none old long = λ start front size had. subst (λ (l : List ℕ). HasFront d start l old) (sym (append-nil front)) had

  -- one pass more
  pub lengthens_then : (old mid new : D) (long more : ℕ) (xs ys : List ℕ) → long + length xs ≡ more → LengthensFront d old mid long xs → LengthensFront d mid new more ys → LengthensFront d old new long (xs ++ ys)
  lengthens_then old mid new long more xs ys place first second =
      λ start front size had.
      subst (λ (l : List ℕ). HasFront d start l new) (append_assoc front xs ys)
      (second start (front ++ xs) (length-append front xs ∙ ap (λ (n : ℕ). n + length xs) size ∙ place) (first start front size had))

  pub behind_none : (old : D) (from : ℕ) → KeepsBehind d old old from
  behind_none old from = λ start n le was. was

  pub behind_then : (old mid new : D) (one two from : ℕ) → one ≤ from → two ≤ from → KeepsBehind d old mid one → KeepsBehind d mid new two → KeepsBehind d old new from
  behind_then old mid new one two from first_le second_le first second =
      λ start n le was. second start n (omega (arith, le, second_le)) (first start n (omega (arith, le, first_le)) was)

  -- the front that one write of a sector leaves
  pub lengthens_write : (old new : D) (size n : ℕ) (piece : List ℕ) → size ≡ 256 → length piece ≡ 256
      → d.bytes new ≡ option_map (λ image. with_sector size image n piece) (d.bytes old) → LengthensFront d old new (256 * n) piece
  lengthens_write old new size n piece is whole written =
      λ start front long had.
      front_written front piece n (d.bytes start) (d.bytes old) (d.bytes new) (omega (arith, long)) whole had
      (written ∙ ap (λ (s : ℕ). option_map (λ image. with_sector s image n piece) (d.bytes old)) is)

module _ {D : Type 0} {d : Ghosts D} (law : Laws d) where
  -- a write of a sector, whatever it answers
  pub behind_write : (old new : D) (n : ℕ) (piece : List ℕ) → d.sector_size old ≡ 256 → length piece ≡ 256 → StopsTearOne d old new n piece
      → (d.bytes new ≡ d.bytes old) ⊎ (d.bytes new ≡ option_map (λ image. with_sector (d.sector_size old) image n piece) (d.bytes old))
      → KeepsBehind d old new (256 * (n + 1))
  behind_write old new n piece is whole torn old_or_new =
      λ start m le was.
      keeps_write law (d.sector_size old) n piece was torn old_or_new
      (λ first image told same. ap (λ (s : ℕ). drop m (with_sector s image n piece)) is ∙ behind_stays m n piece image (omega (arith, le)) whole ∙ same)

-- parts end where the disc ends at the latest
parts_end : (at : ℕ) (parts : List Part) (end : ℕ) → AreParts at parts end → at ≤ end
parts_end at [] end le = le
parts_end at (part ∷ parts) end are =
    let later = parts_end (part.0 + length part.1.now / 256) parts end are.2 in
    omega (arith, are.0, later)

-- the parts from number i on
pub next_part : (all : List Part) (i : ℕ) (none : Part) → i < length all → drop i all ≡ slice_index_or all i none ∷ drop (i + 1) all
next_part all i none lt = let next : suc i ≡ i + 1 = omega arith in drop-cons all i none lt ∙ ap (λ (n : ℕ). slice_index_or all i none ∷ drop n all) next

-- where a part of them ends
pub part_end : (at : ℕ) (part : Part) (left : List Part) (end : ℕ) → AreParts at (part ∷ left) end → part.0 + length part.1.now / 256 ≤ end
part_end at part left end are = parts_end (part.0 + length part.1.now / 256) left end are.2

-- The parts up to sector `at` are written, and these are left of all.
pub record HasLaid {D : Type 0} (d : Ghosts D) (start now : D) (at : ℕ) (left all : List Part) (end : ℕ) : Type 0 where
  pub done : List ℕ
  pub split : done ++ laid at left end ≡ laid 0 all end
  pub size : length done ≡ 256 * at
  pub fits : AreParts at left end
  pub front : LengthensFront d start now 0 done
  pub keeps : KeepsBehind d start now (256 * end)

module _ {D : Type 0} (d : Ghosts D) where
  pub laid_start : (start : D) (all : List Part) (end : ℕ) → AreParts 0 all end → HasLaid d start start 0 all all end
  laid_start start all end fits =
      record { done = []; split = refl; size = refl; fits = fits; front = lengthens_none d start 0; keeps = behind_none d start (256 * end) }

  -- a part more
  pub laid_part : (start mid new : D) (at : ℕ) (part : Part) (left all : List Part) (end : ℕ) → HasLaid d start mid at (part ∷ left) all end
      → LengthensFront d mid new (256 * at) (zeros (256 * (part.0 - at)) ++ part.1.now) → KeepsBehind d mid new (256 * (part.0 + length part.1.now / 256))
      → HasLaid d start new (part.0 + length part.1.now / 256) left all end
  laid_part start mid new at part left all end was front keeps =
      let bytes = part.1.now in
      let next = part.0 + length bytes / 256 in
      let more = zeros (256 * (part.0 - at)) ++ bytes in
      let fits : (at ≤ part.0) × (length bytes % 256 ≡ 0) × AreParts next left end = was.fits in
      let last : next ≤ end = parts_end next left end fits.2 in
      let zero_length : length (zeros (256 * (part.0 - at))) ≡ 256 * (part.0 - at) = length-replicate {A = ℕ} (256 * (part.0 - at)) 0 in
      record {
        done = was.done ++ more;
        split = append_assoc was.done more (laid next left end) ∙ was.split;
        size = omega (arith, was.size, length-append was.done more, length-append (zeros (256 * (part.0 - at))) bytes, zero_length, fits.0, fits.1);
        fits = fits.2;
        front = lengthens_then d start mid new 0 (256 * at) was.done more (omega (arith, was.size)) was.front front;
        keeps = behind_then d start mid new (256 * end) (256 * next) (256 * end) (omega arith) (omega (arith, last)) was.keeps keeps;
      }

  -- and bytes 0 up to the end
  pub laid_end : (start mid new : D) (at : ℕ) (all : List Part) (end : ℕ) → HasLaid d start mid at [] all end
      → LengthensFront d mid new (256 * at) (zeros (256 * (end - at))) → LengthensFront d start new 0 (laid 0 all end)
  laid_end start mid new at all end was front =
      subst (λ (l : List ℕ). LengthensFront d start new 0 l) was.split
      (lengthens_then d start mid new 0 (256 * at) was.done (zeros (256 * (end - at))) (omega (arith, was.size)) was.front front)

-- so many bytes are so many and then a sector
pub sector_more : (bytes : List ℕ) (i at : ℕ) → at ≡ i * 256 → take (256 * i) bytes ++ take (at + 256 - at) (drop at bytes) ≡ take (256 * (i + 1)) bytes
sector_more bytes i at is =
    let front : at ≡ 256 * i = omega arith in
    let size : at + 256 - at ≡ 256 = omega arith in
    let next : 256 * (i + 1) ≡ 256 * i + 256 = omega arith in
    ap (λ (n : ℕ). take (256 * i) bytes ++ take n (drop at bytes)) size
    ∙ ap (λ (n : ℕ). take (256 * i) bytes ++ take 256 (drop n bytes)) front
    ∙ sym (take-add (256 * i) 256 bytes)
    ∙ ap (λ (n : ℕ). take n bytes) (sym next)

-- the same of bytes 0
pub zeros_more : (i j : ℕ) → j ≡ i + 256 → zeros i ++ zeros 256 ≡ zeros j
zeros_more i j is = replicate-append-replicate i 256 0 ∙ ap (λ (n : ℕ). zeros n) (sym is)
