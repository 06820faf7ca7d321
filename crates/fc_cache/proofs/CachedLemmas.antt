-- What is kept stays right over the inner disk's calls.
use Rattle.std.proofs.Common.{◌≡◌, ◌⊎◌, inl, inr, ⊎_elim, ℕ, Bool, true, false, ◌+◌, ◌*◌, ◌<◌, ◌≤◌, List, length, Option, Some, None, Result, Ok, Err, IsErr, OnOk, nat_eq, option_map, Vec, refl, sym, ◌∙◌, ap, subst, arith}
use Rattle.std.specs.Global.{Global}
use Rattle.std.specs.Option.{ForSome}
use Rattle.std.proofs.lemmas.Bool.{cases_eq, cases_lt}
use Rattle.std.proofs.lemmas.Nat.{mul-le}
use Rattle.std.proofs.lemmas.Result.{on_ok_weaker}
use Rattle.fc_device.specs.Sectors.{sector_at, with_row, with_sector, IsMixOf}
use Rattle.fc_device.specs.Stops.{HasRowPart, LeavesOnly, RowOldOrNew, SectorOldOrNew}
use Rattle.fc_device.proofs.SectorLemmas.{length-with_row, mix_first, mix_second, with_row-one, sector_at-with_row_before, sector_at-with_row_behind, sector_at-with_sector_same, sector_at-with_sector_other}
use Rattle.std.specs.Map.{remove_entry}
use Rattle.fc_cache.specs.Sectors.{Holds, HoldsNone, AreWhole, AreSectors, KeepsNoMore, KeepsRead, KeepsWritten, entries_of, is_kept}
use Rattle.fc_cache.specs.declared.kept.Kept.{Kept}

-- kept or not
pub never_both : {b : Bool} → b ≡ true → b ≡ false → ⊥
never_both is not = cc

-- ---- what a call that fails leaves

pub failed_read : {T E : Type 0} (result : Result T E) → IsErr result → (n : ℕ) (into : List ℕ) (old new : Kept) → is_kept old n ≡ false → entries_of new ≡ entries_of old → KeepsRead n into old new result
failed_read (Ok x) is n into old new out same = absurd (cc)
failed_read (Err e) is n into old new out same = record { hit = λ kept. absurd (never_both kept out); miss = λ not. tt; failed = λ not. same }

pub failed_write : {T E : Type 0} (result : Result T E) → IsErr result → (n : ℕ) (from : List ℕ) (old new : Kept) → entries_of new ≡ remove_entry (nat_eq n) (entries_of old) → KeepsWritten n from old new result
failed_write (Ok x) is n from old new gone = absurd (cc)
failed_write (Err e) is n from old new gone = record { written = tt; failed = gone }

-- ---- what is kept

-- what is kept is right of the bytes that are told
abbrev pub AreRight : ℕ → Option (List ℕ) → Kept → Type 0
AreRight size told kept = ForSome told (λ image. AreSectors size image kept)

-- one more may be kept: these bytes under number n
abbrev pub KeepsOneMore : Kept → Kept → ℕ → List ℕ → Type 0
KeepsOneMore old new n from = (m : ℕ) (bytes : Vec ℕ Global) → Holds new m bytes → Holds old m bytes ⊎ ((m ≡ n) × (bytes.items ≡ from))

module _ (old new : Kept) (size : ℕ) where
  pub still_whole : (now : ℕ) → now ≡ size → AreWhole size old → KeepsNoMore old new → AreWhole now new
  still_whole now same whole less n bytes there = whole n bytes (less n bytes there) ∙ sym same

  pub still_right : (now : ℕ) (told told_now : Option (List ℕ)) → now ≡ size → told_now ≡ told → AreRight size told old → KeepsNoMore old new → AreRight now told_now new
  still_right now told told_now same same_bytes right less image is n bytes there =
      right image (sym same_bytes ∙ is) n bytes (less n bytes there) ∙ ap (λ (s : ℕ). sector_at s image n) (sym same)

  pub whole_with : (n : ℕ) (from : List ℕ) → length from ≡ size → AreWhole size old → KeepsOneMore old new n from → AreWhole size new
  whole_with n from long whole more m bytes there =
      ⊎_elim (λ was. whole m bytes was) (λ put. ap (λ (l : List ℕ). length l) put.1 ∙ long) (more m bytes there)

  pub right_with : (n : ℕ) (from : List ℕ) (told : Option (List ℕ)) → ForSome told (λ image. from ≡ sector_at size image n) → AreRight size told old → KeepsOneMore old new n from → AreRight size told new
  right_with n from told filled right more image is m bytes there =
      ⊎_elim (λ was. right image is m bytes was) (λ put. put.1 ∙ filled image is ∙ ap (λ (k : ℕ). sector_at size image k) (sym put.0)) (more m bytes there)

-- the image before one sector was replaced
record Before (f : List ℕ → List ℕ) (told : Option (List ℕ)) (image : List ℕ) : Type 0 where
  was : List ℕ
  told_was : told ≡ Some was
  is : image ≡ f was

before : (f : List ℕ → List ℕ) (told : Option (List ℕ)) (image : List ℕ) → option_map f told ≡ Some image → Before f told image
before f None image is = cc
before f (Some was) image is = record { was = was; told_was = refl; is = cc }

module _ (old new : Kept) (size n : ℕ) (from : List ℕ) (told : Option (List ℕ)) (long : length from ≡ size)
    (fits : (image : List ℕ) → told ≡ Some image → n * size + size ≤ length image) where
  -- the other sectors are as they were, whatever became of sector n
  pub right_without : (told_now : Option (List ℕ)) → (told_now ≡ told) ⊎ (told_now ≡ option_map (λ image. with_sector size image n from) told) → AreRight size told old → KeepsNoMore old new
      → ((bytes : Vec ℕ Global) → Holds new n bytes → ⊥) → AreRight size told_now new
  right_without told_now old_or_new right less gone image is m bytes there =
      ⊎_elim
      (λ same. right image (sym same ∙ is) m bytes (less m bytes there))
      (λ written.
      let at = before (λ (l : List ℕ). with_sector size l n from) told image (sym written ∙ is) in
      elim (cases_eq m n) [
        | inl this ↦ absurd (gone bytes (subst (λ (k : ℕ). Holds new k bytes) this there))
        | inr other ↦
            right at.was at.told_was m bytes (less m bytes there)
            ∙ sym (sector_at-with_sector_other size at.was n m from long (fits at.was at.told_was) other)
            ∙ ap (λ (l : List ℕ). sector_at size l m) (sym at.is)
      ])
      old_or_new

  -- and sector n is what was written
  pub written_at : (told_now : Option (List ℕ)) → told_now ≡ option_map (λ image. with_sector size image n from) told → ForSome told_now (λ image. from ≡ sector_at size image n)
  written_at told_now written image is =
      let at = before (λ (l : List ℕ). with_sector size l n from) told image (sym written ∙ is) in
      sym (ap (λ (l : List ℕ). sector_at size l n) at.is ∙ sector_at-with_sector_same size at.was n from long (fits at.was at.told_was))

-- a row of sectors was written, whatever became of it
module _ (old new : Kept) (size n count : ℕ) (from : List ℕ) (told : Option (List ℕ)) (long : length from ≡ count * size)
    (fits : (image : List ℕ) → told ≡ Some image → n * size + count * size ≤ length image) where
  -- the sectors outside it are as they were
  outside : (was : List ℕ) → told ≡ Some was → (m : ℕ) → (m < n) ⊎ (n + count ≤ m) → sector_at size (with_row size was n from) m ≡ sector_at size was m
  outside was is m where_it_is =
      let room : n * size + length from ≤ length was = omega (arith, long, fits was is) in
      ⊎_elim
      (λ lt. sector_at-with_row_before size was n from room m lt)
      (λ le.
      let place : (n + count) * size ≡ n * size + count * size = grind arith in
      sector_at-with_row_behind size was n from room m (omega (arith, long, place, mul-le (n + count) size m size le (omega arith))))
      where_it_is

  pub right_without_row : (told_now : Option (List ℕ)) → HasRowPart size n from told told_now → AreRight size told old → KeepsNoMore old new → HoldsNone n count new → AreRight size told_now new
  right_without_row told_now part right less none image is m bytes there =
      let at = part.told image is in
      let now = part.part at.0 at.1 in
      let mix : IsMixOf size at.0 (with_row size at.0 n from) image = subst (IsMixOf size at.0 (with_row size at.0 n from)) (one_image now.0 image (sym now.1 ∙ is)) now.2 in
      let was = right at.0 at.1 m bytes (less m bytes there) in
      ⊎_elim
      (λ same. was ∙ sym same)
      (λ written. was ∙ sym (written ∙ outside at.0 at.1 m (place m bytes there)))
      (mix.each m)
    where
      one_image : (a b : List ℕ) → Some a ≡ Some b → a ≡ b
      one_image a b e = cc

      place : (m : ℕ) (bytes : Vec ℕ Global) → Holds new m bytes → (m < n) ⊎ (n + count ≤ m)
      place m bytes there =
          elim (cases_lt m n) [
            | inl before ↦ inl before
            | inr from_it ↦ elim (cases_lt m (n + count)) [
              | inl in_it ↦ absurd (none m bytes from_it in_it there)
              | inr past ↦ inr past
            ]
          ]

-- ---- a row of one sector, which was written as that sector

module _ (size n count : ℕ) (from : List ℕ) (one : count ≡ 1) (long : length from ≡ count * size) where
  as_sector : (was : List ℕ) → with_row size was n from ≡ with_sector size was n from
  as_sector was = with_row-one size was n from (long ∙ ap (λ (k : ℕ). k * size) one ∙ (let e : 1 * size ≡ size = omega arith in e))

  pub row_written : {T E : Type 0} (result : Result T E) (told now : Option (List ℕ)) → OnOk result (now ≡ option_map (λ image. with_sector size image n from) told)
      → OnOk result (now ≡ option_map (λ image. with_row size image n from) told)
  row_written result told now written = on_ok_weaker result (λ is. is ∙ same told) written
    where
      same : (told : Option (List ℕ)) → option_map (λ image. with_sector size image n from) told ≡ option_map (λ image. with_row size image n from) told
      same None = refl
      same (Some was) = ap (λ (l : List ℕ). Some l) (sym (as_sector was))

  mixed : (was image : List ℕ) → n * size + length from ≤ length was → (image ≡ was) ⊎ (image ≡ with_sector size was n from) → IsMixOf size was (with_row size was n from) image
  mixed was image fits which =
      ⊎_elim
      (λ same. subst (IsMixOf size was (with_row size was n from)) (sym same) (mix_first size was (with_row size was n from)))
      (λ new. subst (IsMixOf size was (with_row size was n from)) (as_sector was ∙ sym new) (mix_second size was (with_row size was n from) (length-with_row size was n from fits)))
      which

  pub row_part : (told now : Option (List ℕ)) → ((image : List ℕ) → told ≡ Some image → n * size + count * size ≤ length image)
      → (now ≡ told) ⊎ (now ≡ option_map (λ image. with_sector size image n from) told) → HasRowPart size n from told now
  row_part told now fits old_or_new = record {
    part = λ was is.
        let room : n * size + length from ≤ length was = omega (arith, long, fits was is) in
        ⊎_elim
        (λ same. (was, same ∙ is, mixed was was room (inl refl)))
        (λ written. (with_sector size was n from, written ∙ ap (λ (t : Option (List ℕ)). option_map (λ image. with_sector size image n from) t) is, mixed was (with_sector size was n from) room (inr refl)))
        old_or_new;
    told = λ image is.
        ⊎_elim
        (λ same. (image, sym same ∙ is))
        (λ written. let at = before (λ (l : List ℕ). with_sector size l n from) told image (sym written ∙ is) in (at.was, at.told_was))
        old_or_new;
  }

  -- a crash leaves what it leaves of a row
  pub row_stops : {D : Type 0} (moment : D → ℕ) (left_since : D → ℕ → List ℕ → Type 0) (old new : D) (images : List ℕ → Type 0)
      → LeavesOnly moment left_since old new (SectorOldOrNew size n from images) → LeavesOnly moment left_since old new (RowOldOrNew size n from images)
  row_stops moment left_since old new images leaves = record {
    later = leaves.later;
    since = λ image left. let at = leaves.since image left in (at.0, at.1, λ fits. mixed at.0 image fits at.2);
    before = leaves.before;
    keeps = leaves.keeps;
  }
