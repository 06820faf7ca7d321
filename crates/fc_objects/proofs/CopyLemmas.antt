-- Sectors of an object that are copied into those of another, one by one.
use Rattle.std.proofs.Common.{◌≡◌, ◌≤◌, ◌<◌, ◌⊎◌, ⊎_elim, inl, inr, ℕ, ◌+◌, ◌*◌, List, [], ◌∷◌, ◌++◌, length, length-append, get_or, Option, Some, refl, sym, ap, subst, ◌∙◌, arith}
use Rattle.std.specs.Prelude.{option_map, IsFalse}
use Rattle.std.specs.Option.{ForSome}
use Rattle.std.proofs.lemmas.Bool.{cases_eq, cases_lt}
use Rattle.std.proofs.lemmas.List.{append-nil}
use Rattle.fc_device.specs.declared.disk.Disk.{Ghosts}
use Rattle.fc_device.specs.Calls.{StopsAndExitsLeave, StopsAsBefore, StopsTearOne}
use Rattle.fc_device.specs.Sectors.{sector_at, with_sector}
use Rattle.fc_device.proofs.DiskLaws.{Laws, sector_fits}
use Rattle.fc_device.proofs.SectorLemmas.{length-with_sector, sector_at-with_sector_other, sector_at-with_sector_same}
use Rattle.fc_device.proofs.StopLemmas.{keeps_same, keeps_start, keeps_write}
use Rattle.fc_objects.specs.Copied.{AreFirstCopied, AreOthers, IsPartCopied}
use Rattle.fc_objects.specs.Written.{AreApart}
use Rattle.fc_objects.proofs.WriteLemmas.{next_of}

-- ---- an image

none_copied : (size : ℕ) (from to was : List ℕ) → IsPartCopied size from to was was
none_copied size from to was = record { length_stays = refl; each = λ s. inl refl }

-- what is copied stays
source_stays : (size : ℕ) (from to was image : List ℕ) (i : ℕ) → AreOthers from to → i < length from → IsPartCopied size from to was image
    → sector_at size image (get_or from i 0) ≡ sector_at size was (get_or from i 0)
source_stays size from to was image i others low so_far =
    ⊎_elim (λ same. same) (λ new. absurd (others i new.0 low new.2 (sym new.3))) (so_far.each (get_or from i 0))

module _ (size i n : ℕ) (from to was image piece : List ℕ) (low : i < length from) (room : i < length to) (at : get_or to i 0 ≡ n) (long : length piece ≡ size)
    (inside : n * size + size ≤ length image) (is : piece ≡ sector_at size was (get_or from i 0)) where
  -- a sector more is copied
  part_more : IsPartCopied size from to was image → IsPartCopied size from to was (with_sector size image n piece)
  part_more so_far = record {
    length_stays = length-with_sector size image n piece long inside ∙ so_far.length_stays;
    each = λ s. elim (cases_eq s n) [
      | inl same ↦ inr (i, low, room, at ∙ sym same, ap (sector_at size (with_sector size image n piece)) same ∙ sector_at-with_sector_same size image n piece long inside ∙ is)
      | inr other ↦
          let e = sector_at-with_sector_other size image n s piece long inside other in
          ⊎_elim (λ old. inl (e ∙ old)) (λ new. inr (new.0, new.1, new.2, new.3, e ∙ new.4)) (so_far.each s)
    ];
  }

  -- and those before it still are
  first_more : AreApart to → AreFirstCopied size i from to was image → AreFirstCopied size (i + 1) from to was (with_sector size image n piece)
  first_more apart so_far k within = elim (cases_lt k i) [
    | inl before ↦
        sector_at-with_sector_other size image n (get_or to k 0) piece long inside (λ same. apart k i before room (same ∙ sym at)) ∙ so_far k before
    | inr after ↦ (
        let e : k ≡ i = omega (arith, after, within) in
        ap (λ (j : ℕ). sector_at size (with_sector size image n piece) (get_or to j 0)) e
        ∙ ap (sector_at size (with_sector size image n piece)) at
        ∙ sector_at-with_sector_same size image n piece long inside
        ∙ is
        ∙ ap (λ (j : ℕ). sector_at size was (get_or from j 0)) (sym e))
  ]

-- ---- the next sectors

-- After as many sectors of both, these are the next ones.
pub record AreNext (from to : List ℕ) (i here there : ℕ) : Type 0 where
  pub low : i < length from
  pub room : i < length to
  pub at_from : get_or from i 0 ≡ here
  pub at_to : get_or to i 0 ≡ there

pub next_of_both : (from to done gone after more : List ℕ) (here there : ℕ) → from ≡ done ++ (here ∷ after) → to ≡ gone ++ (there ∷ more) → length gone ≡ length done
    → AreNext from to (length done) here there
next_of_both from to done gone after more here there cut cut' level =
    let first = next_of from done after here cut in
    let second = next_of to gone more there cut' in
    record {
      low = first.within;
      room = omega (arith, second.within, level);
      at_from = first.at;
      at_to = ap (λ (k : ℕ). get_or to k 0) (sym level) ∙ second.at;
    }

-- no more are done than there are
pub front_few : (sectors done ahead : List ℕ) → sectors ≡ done ++ ahead → length done ≤ length sectors
front_few sectors done ahead cut = (let long : length sectors ≡ length (done ++ ahead) = ap length cut in omega (arith, long, length-append done ahead))

-- and all of them, if none are ahead
pub all_done : (sectors done ahead : List ℕ) → sectors ≡ done ++ ahead → ahead ≡ [] → length sectors ≡ length done
all_done sectors done ahead cut none = ap length (cut ∙ ap (λ (xs : List ℕ). done ++ xs) none ∙ append-nil done)

-- ---- over a disk

pub one_told : (a b : List ℕ) → (let x : Option (List ℕ) = Some a in x) ≡ Some b → a ≡ b
one_told a b e = cc

module _ {D : Type 0} {d : Ghosts D} (law : Laws d) (start : D) (from to : List ℕ) where
  abbrev size : ℕ
  size = d.sector_size start

  abbrev pub Kept : D → Type 0
  Kept now = StopsAndExitsLeave d start now (IsPartCopied size from to)

  abbrev pub Copied : ℕ → D → Type 0
  Copied i now = AreApart to → ForSome (d.bytes start) (λ was. ForSome (d.bytes now) (AreFirstCopied size i from to was))

  pub kept_start : IsFalse (d.pending start) → Kept start
  kept_start quiet = keeps_start law (λ image. none_copied size from to image) start quiet

  pub kept_same : {mid new : D} → Kept mid → StopsAsBefore d mid new → d.bytes new ≡ d.bytes mid → Kept new
  kept_same kept stops same = keeps_same law kept stops same

  pub copied_start : Copied 0 start
  copied_start apart was told image told' k low = absurd (omega (arith, low))

  pub copied_same : {mid new : D} (i : ℕ) → Copied i mid → d.bytes new ≡ d.bytes mid → Copied i new
  copied_same i copied same apart was told image told' = copied apart was told image (sym same ∙ told')

  -- what was read of one sector is written to the other
  module _ (i here n : ℕ) (others : AreOthers from to) (next : AreNext from to i here n) (on_disk : n < d.sectors start) (piece : List ℕ) (whole : length piece ≡ size) (mid new : D)
      (size_is : d.sector_size mid ≡ size) (kept : Kept mid) (read : ForSome (d.bytes mid) (λ image. piece ≡ sector_at size image here)) where
    inside : (was image : List ℕ) → d.bytes start ≡ Some was → IsPartCopied size from to was image → n * size + size ≤ length image
    inside was image told part = omega (arith, sector_fits law start n on_disk was told, part.length_stays)

    -- it is what the source had
    piece_is : (was : List ℕ) → d.bytes start ≡ Some was → piece ≡ sector_at size was (get_or from i 0)
    piece_is was told =
        let now = kept.exit was told in
        read now.0 now.1 ∙ ap (sector_at size now.0) (sym next.at_from) ∙ source_stays size from to was now.0 i others next.low now.2

    pub kept_write : StopsTearOne d mid new n piece
        → (d.bytes new ≡ d.bytes mid) ⊎ (d.bytes new ≡ option_map (λ image. with_sector (d.sector_size mid) image n piece) (d.bytes mid)) → Kept new
    kept_write torn either =
        keeps_write law (d.sector_size mid) n piece kept torn either
        (λ was image told part. subst (λ (k : ℕ). IsPartCopied size from to was (with_sector k image n piece)) (sym size_is)
        (part_more size i n from to was image piece next.low next.room next.at_to whole (inside was image told part) (piece_is was told) part))

    pub copied_write : Copied i mid → d.bytes new ≡ option_map (λ image. with_sector (d.sector_size mid) image n piece) (d.bytes mid) → Copied (i + 1) new
    copied_write copied written apart was told image told' =
        let before = kept.exit was told in
        let now : image ≡ with_sector (d.sector_size mid) before.0 n piece =
        sym (one_told (with_sector (d.sector_size mid) before.0 n piece) image
        (sym (written ∙ ap (option_map (λ (x : List ℕ). with_sector (d.sector_size mid) x n piece)) before.1) ∙ told')) in
        subst (AreFirstCopied size (i + 1) from to was) (sym (now ∙ ap (λ (k : ℕ). with_sector k before.0 n piece) size_is))
        (first_more size i n from to was before.0 piece next.low next.room next.at_to whole (inside was before.0 told before.2) (piece_is was told) apart (copied apart was told before.0 before.1))
