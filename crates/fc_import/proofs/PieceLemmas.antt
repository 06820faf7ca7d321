-- Two pieces of bytes, one after the other, in the sectors of two lists.
use Rattle.std.proofs.Common.{◌≡◌, ◌⊎◌, inl, inr, ⊎_elim, ◌≤◌, ◌<◌, ℕ, ◌+◌, ◌-◌, ◌*◌, List, [], ◌∷◌, ◌++◌, All, length, take, drop, get_or, length-append, refl, sym, ap, subst, ◌∙◌, arith}
use Rattle.std.proofs.lemmas.Bool.{cases_lt}
use Rattle.std.proofs.lemmas.List.{append-nil, drop_all, drop-append-le, get_or-append-add, get_or_append_left, length-drop, take-append-drop, take-append-le, take_more}
use Rattle.std.proofs.lemmas.Grind.{flat_map-append}
use Rattle.std.proofs.Math.Seq.{drop-append-add}
use Rattle.fc_device.specs.declared.disk.Extent.{Extent}
use Rattle.fc_device.specs.Sectors.{sector_at}
use Rattle.fc_objects.specs.Extents.{extent_sectors, sectors_in}
use Rattle.fc_objects.specs.Written.{AreApart, AreIn, HasParts, IsPartWritten, padded, part_at}
use Rattle.fc_objects.proofs.CallLemmas.{both, one_more}
use Rattle.fc_objects.proofs.ExtentLemmas.{blank}
use Rattle.fc_objects.proofs.WriteLemmas.{padded_front}
use Rattle.std.proofs.lemmas.Nat.{mul-le}

-- ---- sectors of two lists

module _ (xs ys : List ℕ) (once : AreApart (xs ++ ys)) where
  pub apart_front : AreApart xs
  apart_front i j before high same =
      once i j before (omega (arith, high, length-append xs ys)) (get_or_append_left xs ys 0 i (omega (arith, before, high)) ∙ same ∙ sym (get_or_append_left xs ys 0 j high))

  pub apart_back : AreApart ys
  apart_back i j before high same =
      once (length xs + i) (length xs + j) (omega (arith, before)) (omega (arith, high, length-append xs ys)) (get_or-append-add xs ys i 0 ∙ same ∙ sym (get_or-append-add xs ys j 0))

  -- none of the one is in the other
  pub apart_between : (i j : ℕ) → i < length xs → j < length ys → get_or xs i 0 ≡ get_or ys j 0 → ⊥
  apart_between i j low high same =
      once i (length xs + j) (omega (arith, low)) (omega (arith, high, length-append xs ys)) (get_or_append_left xs ys 0 i low ∙ same ∙ sym (get_or-append-add xs ys j 0))

module _ (P : ℕ → Type 0) (xs ys : List ℕ) (all : All P (xs ++ ys)) where
  pub all_front : All P xs
  all_front k e low = subst P (get_or_append_left xs ys e k low) (all k e (omega (arith, low, length-append xs ys)))

  pub all_back : All P ys
  all_back k e low = subst P (get_or-append-add xs ys k e) (all (length xs + k) e (omega (arith, low, length-append xs ys)))

-- the sectors of one extent more, and those of the others
module _ (es : List Extent) (i : ℕ) (low : i < length es) where
  pub sectors_more : sectors_in (take (i + 1) es) ≡ sectors_in (take i es) ++ extent_sectors (get_or es i blank)
  sectors_more =
      ap sectors_in (take_more es i blank low) ∙ flat_map-append extent_sectors (take i es) (get_or es i blank ∷ [])
      ∙ ap (λ (xs : List ℕ). sectors_in (take i es) ++ xs) (append-nil (extent_sectors (get_or es i blank)))

  pub sectors_cut : sectors_in es ≡ sectors_in (take (i + 1) es) ++ sectors_in (drop (i + 1) es)
  sectors_cut = ap sectors_in (sym (take-append-drop (i + 1) es)) ∙ flat_map-append extent_sectors (take (i + 1) es) (drop (i + 1) es)

  pub all_one : (P : ℕ → Type 0) → All P (sectors_in es) → All P (extent_sectors (get_or es i blank))
  all_one P all =
      all_back P (sectors_in (take i es)) (extent_sectors (get_or es i blank))
      (subst (All P) sectors_more (all_front P (sectors_in (take (i + 1) es)) (sectors_in (drop (i + 1) es)) (subst (All P) sectors_cut all)))

-- ---- bytes of two pieces

-- The first piece fills its sectors, or it is the last and no longer than they are.
abbrev pub Filled : ℕ → List ℕ → List ℕ → List ℕ → Type 0
Filled size xs p q = (length p ≡ length xs * size) ⊎ ((length p ≤ length xs * size) × (q ≡ []))

part_front : (size : ℕ) (p q : List ℕ) (i : ℕ) → i * size + size ≤ length p → part_at size (p ++ q) i ≡ part_at size p i
part_front size p q i fits =
    let at : length (drop (i * size) p) ≡ length p - i * size = length-drop (i * size) p in
    let room : size ≤ length (drop (i * size) p) = omega (arith, at, fits) in
    let more : size ≤ length (drop (i * size) p ++ q) = omega (arith, room, length-append (drop (i * size) p) q) in
    ap (padded size) (drop-append-le (i * size) p q (omega (arith, fits)))
    ∙ padded_front size (drop (i * size) p ++ q) more
    ∙ take-append-le size (drop (i * size) p) q room
    ∙ sym (padded_front size (drop (i * size) p) room)

part_none : (size : ℕ) (p : List ℕ) (n j : ℕ) → length p ≤ n * size → part_at size p (n + j) ≡ part_at size [] j
part_none size p n j short =
    let far : (n + j) * size ≡ n * size + j * size = both n j size in
    ap (padded size) (drop_all ((n + j) * size) p (omega (arith, short, far)) ∙ sym (drop_all (j * size) [] (omega arith)))

module _ (size : ℕ) (xs ys p q : List ℕ) (fills : Filled size xs p q) where
  pub front_part : (i : ℕ) → i < length xs → part_at size (p ++ q) i ≡ part_at size p i
  front_part i low =
      ⊎_elim
      (λ whole.
      let up : (i + 1) * size ≤ length xs * size = mul-le (i + 1) size (length xs) size (omega (arith, low)) (omega arith) in
      part_front size p q i (omega (arith, whole, up, one_more i size)))
      (λ last. ap (λ (l : List ℕ). part_at size (p ++ l) i) last.1 ∙ ap (λ (l : List ℕ). part_at size l i) (append-nil p)) fills

  pub back_part : (j : ℕ) → part_at size (p ++ q) (length xs + j) ≡ part_at size q j
  back_part j =
      ⊎_elim
      (λ whole.
      let far : (length xs + j) * size ≡ length p + j * size = both (length xs) j size ∙ ap (λ (k : ℕ). k + j * size) (sym whole) in
      ap (λ (k : ℕ). padded size (drop k (p ++ q))) far ∙ ap (padded size) (drop-append-add p q (j * size)))
      (λ last.
      ap (λ (l : List ℕ). part_at size (p ++ l) (length xs + j)) last.1 ∙ ap (λ (l : List ℕ). part_at size l (length xs + j)) (append-nil p)
      ∙ part_none size p (length xs) j last.0 ∙ ap (λ (l : List ℕ). part_at size l j) (sym last.1)) fills

  pub first_part : (was image : List ℕ) → IsPartWritten size xs p was image → IsPartWritten size (xs ++ ys) (p ++ q) was image
  first_part was image part = record {
    length_stays = part.length_stays;
    each = λ s.
        ⊎_elim (λ same. inl same)
        (λ here. inr (here.0, omega (arith, here.1, length-append xs ys), get_or_append_left xs ys 0 here.0 here.1 ∙ here.2, here.3 ∙ sym (front_part here.0 here.1))) (part.each s);
  }

  pub second_part : (was image : List ℕ) → IsPartWritten size ys q was image → IsPartWritten size (xs ++ ys) (p ++ q) was image
  second_part was image part = record {
    length_stays = part.length_stays;
    each = λ s.
        ⊎_elim (λ same. inl same)
        (λ here. inr (length xs + here.0, omega (arith, here.1, length-append xs ys), get_or-append-add xs ys here.0 0 ∙ here.2, here.3 ∙ sym (back_part here.0))) (part.each s);
  }

  module _ (mid image : List ℕ) (second : IsPartWritten size ys q mid image) where
    pub parts_both : AreApart (xs ++ ys) → HasParts size xs p mid → HasParts size ys q image → HasParts size (xs ++ ys) (p ++ q) image
    parts_both once first now i within =
        ⊎_elim
        (λ low.
        let s = get_or xs i 0 in
        let stays : sector_at size image s ≡ sector_at size mid s =
        ⊎_elim (λ same. same) (λ there. absurd (apart_between xs ys once i there.0 low there.1 (sym there.2))) (second.each s) in
        ap (sector_at size image) (get_or_append_left xs ys 0 i low) ∙ stays ∙ first i low ∙ sym (front_part i low))
        (λ high.
        let j : ℕ = i - length xs in
        let e : i ≡ length xs + j = omega (arith, high) in
        let below : j < length ys = omega (arith, high, within, length-append xs ys) in
        ap (λ (k : ℕ). sector_at size image (get_or (xs ++ ys) k 0)) e ∙ ap (sector_at size image) (get_or-append-add xs ys j 0) ∙ now j below ∙ sym (back_part j) ∙ ap (part_at size (p ++ q)) (sym e))
        (cases_lt i (length xs))

-- some more of it
pub part_on : (size : ℕ) (xs p was mid image : List ℕ) → IsPartWritten size xs p was mid → IsPartWritten size xs p mid image → IsPartWritten size xs p was image
part_on size xs p was mid image first second = record {
  length_stays = second.length_stays ∙ first.length_stays;
  each = λ s.
      ⊎_elim
      (λ same. ⊎_elim (λ before. inl (same ∙ before)) (λ here. inr (here.0, here.1, here.2, same ∙ here.3)) (first.each s))
      (λ here. inr here) (second.each s);
}

-- among more sectors
pub part_wider : (size : ℕ) (xs ys p was image : List ℕ) → IsPartWritten size xs p was image → IsPartWritten size (xs ++ ys) p was image
part_wider size xs ys p was image part = record {
  length_stays = part.length_stays;
  each = λ s.
      ⊎_elim (λ same. inl same)
      (λ here. inr (here.0, omega (arith, here.1, length-append xs ys), get_or_append_left xs ys 0 here.0 here.1 ∙ here.2, here.3)) (part.each s);
}

-- with bytes more after them
pub part_longer : (size : ℕ) (xs p q was image : List ℕ) → Filled size xs p q → IsPartWritten size xs p was image → IsPartWritten size xs (p ++ q) was image
part_longer size xs p q was image fills part = record {
  length_stays = part.length_stays;
  each = λ s. ⊎_elim (λ same. inl same) (λ here. inr (here.0, here.1, here.2, here.3 ∙ sym (front_part size xs [] p q fills here.0 here.1))) (part.each s);
}

pub parts_longer : (size : ℕ) (xs p q image : List ℕ) → Filled size xs p q → HasParts size xs p image → HasParts size xs (p ++ q) image
parts_longer size xs p q image fills parts i low = parts i low ∙ sym (front_part size xs [] p q fills i low)
