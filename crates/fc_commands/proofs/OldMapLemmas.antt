-- Both steps of a change on an old map, as one edit of its holes.
use Rattle.std.proofs.Common.{◌≡◌, ◌≤◌, ◌⊎◌, inl, inr, ℕ, ◌*◌, ◌-◌, List, [], ◌∷◌, ◌++◌, length, length-append, take, drop, map, replicate, refl, sym, ap, subst, ◌∙◌, arith}
use Rattle.std.specs.List.{flat_map}
use Rattle.std.proofs.lemmas.List.{drop-take, length-drop, length-replicate, length-take-le, take-take}
use Rattle.std.proofs.Math.Seq.{drop-append_seam, take-append_seam}
use Rattle.byteorder.specs.Endian.{little_bytes}
use Rattle.fc_bytes.specs.Words.{bytes_at}
use Rattle.fc_bytes.specs.Checks.{old_check}
use Rattle.fc_oldmap.specs.declared.Hole.{Hole}
use Rattle.fc_oldmap.specs.Holes.{hole_limit}
use Rattle.fc_oldmap.specs.OldMap.{OldMapContent, IsOldMap, checked_half, map_units, triples, with_holes}
use Rattle.fc_image.specs.Layout.{Layout, sector_bytes}
use Rattle.fc_image.specs.effects.Short.{holes_without}
use Rattle.fc_changes.specs.old.Owed.{IsMapAfter, holding}
use Rattle.fc_changes.proofs.lemmas.old.GrowthLemmas.{none_needed}
use Rattle.fc_laws.proofs.lemmas.old.takeover.AgainLemmas.{map_twice, long_triples}
use Rattle.fc_writing.specs.declared.ready.MapStep.{MapStep}
use Rattle.fc_writing.specs.declared.ready.MapStep.TheVariants as steps
use Rattle.fc_writing.specs.declared.ready.Ready.{Ready}
use Rattle.fc_writing.specs.Old.{IsOfDisc, front_after, front_given, front_in, front_taken, with_map}
use Rattle.fc_change.specs.OldSpace.{map_taken}
use Rattle.fc_change.specs.Places.{IsOldStep}
use Rattle.fc_commands.specs.Written.{map_after, space_after}

-- ---- the map's bytes

long_half : (half : List ℕ) → length half ≡ 255 → length (checked_half half) ≡ 256
long_half half long = omega (arith, length-append (take 255 half) (old_check half 255 ∷ []), length-take-le 255 half (omega (arith, long)))

module _ (bytes : List ℕ) (holes : List Hole) (size : length bytes ≡ 512) where
  abbrev starts : List ℕ
  starts = triples (map (λ (h : Hole). h.start) holes)

  abbrev lengths : List ℕ
  lengths = triples (map (λ (h : Hole). h.len) holes)

  abbrev first : List ℕ
  first = starts ++ bytes_at bytes 246 9

  abbrev second : List ℕ
  second = lengths ++ bytes_at bytes 502 8 ++ (3 * length holes) ∷ []

  long_first : length first ≡ 255
  long_first =
      omega (arith, length-append starts (bytes_at bytes 246 9), long_triples (map (λ (h : Hole). h.start) holes), length-take-le 9 (drop 246 bytes) (omega (arith, length-drop 246 bytes, size)))

  long_second : length second ≡ 255
  long_second =
      omega (
        arith,
        length-append (lengths ++ bytes_at bytes 502 8) ((3 * length holes) ∷ []),
        length-append lengths (bytes_at bytes 502 8),
        long_triples (map (λ (h : Hole). h.len) holes),
        length-take-le 8 (drop 502 bytes) (omega (arith, length-drop 502 bytes, size)),
      )

  pub long_with : length (with_holes bytes holes) ≡ 512
  unfolding with_holes
  long_with = omega (arith, length-append (checked_half first) (checked_half second), long_half first long_first, long_half second long_second)

-- ---- one step

-- The map's bytes are at least its own 512.
module _ (space : OldMapContent) (front : List ℕ) (long : 512 ≤ length front) where
  abbrev whole : length (take 512 front) ≡ 512
  whole = length-take-le 512 front long

  written : (now : OldMapContent) → take 512 (with_map now front) ≡ with_holes (take 512 front) now.holes
  written now =
      ap (λ (n : ℕ). take n (with_map now front)) (sym (long_with (take 512 front) now.holes whole)) ∙ take-append_seam (with_holes (take 512 front) now.holes) (drop 512 front)

  behind : (now : OldMapContent) → drop 512 (with_map now front) ≡ drop 512 front
  behind now =
      ap (λ (n : ℕ). drop n (with_map now front)) (sym (long_with (take 512 front) now.holes whole)) ∙ drop-append_seam (with_holes (take 512 front) now.holes) (drop 512 front)

  pub still_long : (step : MapStep) → 512 ≤ length (front_after step front)
  still_long steps.Nothing = long
  still_long (steps.New s) = long
  still_long (steps.Old now) = omega (arith, length-append (with_holes (take 512 front) now.holes) (drop 512 front), long_with (take 512 front) now.holes whole)

  -- a step leaves the holes of the map to which it leads
  pub one_step : (now : OldMapContent) (step : MapStep) → length space.holes ≤ hole_limit → IsOldStep space now step → IsMapAfter space now.holes front (front_after step front)
  one_step now steps.Nothing few is = record {
    few = subst (λ (m : OldMapContent). length m.holes ≤ hole_limit) (sym is) few;
    bytes = inl (ap (λ (m : OldMapContent). m.holes) is, refl);
    rest = refl;
  }
  one_step now (steps.New s) few is = absurd is
  one_step now (steps.Old m) few is = record {
    few = is.1;
    bytes = inr (written m ∙ ap (λ (x : OldMapContent). with_holes (take 512 front) x.holes) is.0);
    rest = ap (take (sector_bytes (Layout.Old space) - 512)) (behind m);
  }

-- ---- both

-- the map to which a step leads
after_step : (was now : OldMapContent) (step : MapStep) → IsOldStep was now step → space_after step was ≡ now
after_step was now steps.Nothing is = sym is
after_step was now (steps.New s) is = absurd is
after_step was now (steps.Old m) is = is.0

pub after_both : (space mid now : OldMapContent) (r : Ready) → IsOldStep space mid r.take → IsOldStep mid now r.give → map_after space r ≡ now
after_both space mid now r take give = ap (space_after r.give) (after_step space mid r.take take) ∙ after_step mid now r.give give

-- nothing is taken
pub none_taken : (space : OldMapContent) → IsOldMap space → map_taken space 0 ≡ space
none_taken space is = ap (λ (n : ℕ). holding space (holes_without n space.holes)) (none_needed space is.units)

-- A step to a map with other holes is one of the same disc.
pub of_disc : (space was to : OldMapContent) (step : MapStep) → IsOldStep was to step → to ≡ holding space to.holes → IsOfDisc space step
of_disc space was to steps.Nothing is same = tt
of_disc space was to (steps.New s) is same = absurd is
of_disc space was to (steps.Old m) is same = (ap (λ (x : OldMapContent). x.disc_units) (is.0 ∙ same), ap (λ (x : OldMapContent). x.sector_units) (is.0 ∙ same))

pub few_holes : (was now : OldMapContent) (step : MapStep) → length was.holes ≤ hole_limit → IsOldStep was now step → length now.holes ≤ hole_limit
few_holes was now steps.Nothing few is = subst (λ (m : OldMapContent). length m.holes ≤ hole_limit) (sym is) few
few_holes was now (steps.New s) few is = absurd is
few_holes was now (steps.Old m) few is = is.1

-- the bytes that are the map's in an image
module _ (space : OldMapContent) (is : IsOldMap space) where
  abbrev n : ℕ
  n = 256 * map_units space.sector_units

  enough : 512 ≤ n
  enough = elim is.units [
    | inl one ↦ subst (λ (u : ℕ). 512 ≤ 256 * map_units u) (sym one) (omega arith)
    | inr four ↦ subst (λ (u : ℕ). 512 ≤ 256 * map_units u) (sym four) (omega arith)
  ]

  front_bytes : (image : List ℕ) → bytes_at (front_in space image) 0 512 ≡ bytes_at image 0 512
  front_bytes image = take-take 512 n image enough

  front_rest : (image : List ℕ) → bytes_at (front_in space image) 512 (sector_bytes (Layout.Old space) - 512) ≡ bytes_at image 512 (sector_bytes (Layout.Old space) - 512)
  front_rest image = elim is.units [
    | inl one ↦ subst (λ (u : ℕ). bytes_at (take (256 * map_units u) image) 512 (256 * u - 512) ≡ bytes_at image 512 (256 * u - 512)) (sym one) refl
    | inr four ↦ subst (λ (u : ℕ). bytes_at (take (256 * map_units u) image) 512 (256 * u - 512) ≡ bytes_at image 512 (256 * u - 512)) (sym four) (by image)
  ]
    where
      by : (xs : List ℕ) → take 512 (drop 512 (take 1024 xs)) ≡ take 512 (drop 512 xs)
      by xs = ap (take 512) (drop-take 512 512 xs) ∙ take-take 512 512 (drop 512 xs) (omega arith)

  -- What both steps leave is the map with the holes of the last one.
  pub both_steps : (mid now : OldMapContent) (r : Ready) (was image : List ℕ) → mid ≡ holding space mid.holes → n ≤ length was → IsOldStep space mid r.take → IsOldStep mid now r.give
      → front_in space image ≡ front_given space r was → IsMapAfter space now.holes was image
  both_steps mid now r was image same long take give front =
      let f = front_in space was in
      let size : length f ≡ n = length-take-le n was long in
      let low : 512 ≤ length f = omega (arith, size, enough) in
      let first = one_step space f low mid r.take is.few take in
      let second = one_step mid (front_taken space r was) (still_long space f low r.take) now r.give (few_holes space mid r.take is.few take) give in
      let both : IsMapAfter space now.holes f (front_given space r was) =
      map_twice space f (front_taken space r was) (front_given space r was) mid.holes now.holes low first
      (subst (λ (m : OldMapContent). IsMapAfter m now.holes (front_taken space r was) (front_given space r was)) same second) in
      let there : IsMapAfter space now.holes f (front_in space image) = subst (IsMapAfter space now.holes f) (sym front) both in
      record {
        few = there.few;
        bytes = subst (λ (xs : List ℕ). ((now.holes ≡ space.holes) × (bytes_at image 0 512 ≡ xs)) ⊎ (bytes_at image 0 512 ≡ with_holes xs now.holes)) (front_bytes was)
            (subst (λ (ys : List ℕ). ((now.holes ≡ space.holes) × (ys ≡ bytes_at f 0 512)) ⊎ (ys ≡ with_holes (bytes_at f 0 512) now.holes)) (front_bytes image) there.bytes);
        rest = sym (front_rest image) ∙ there.rest ∙ front_rest was;
      }
