-- The zones of fresh volumes, as they are laid out.
use Rattle.std.proofs.Common.{true, ◌≡◌, ◌<◌, ◌≤◌, ◌+◌, ◌%◌, ◌∙◌, inr, ℕ, ◌-◌, ◌^◌, List, [], ◌∷◌, length, take, drop, slice_index, slice_set, Ok, refl, sym, ap, subst, arith}
use Rattle.std.specs.List.{AllByRecursion}
use Rattle.fc_bytes.specs.Bits.{bits, num, low_bits, overwritten}
use Rattle.fc_zone.specs.declared.ZoneShape.{ZoneShape}
use Rattle.fc_zone.specs.declared.Run.{Run}
use Rattle.fc_zone.specs.Zone.{IsShapeOf, field_at, hole_starts}
use Rattle.fc_zone.specs.Reading.{runs_from, zone_of}
use Rattle.fc_zone.specs.Edits.{sealed}
use Rattle.fc_zone.proofs.ReadingLemmas.{zone_of-Zone}
use Rattle.fc_format.specs.Fresh.{e_record, f_record, plus_record, with_bytes, zeros}
use Rattle.fc_format.specs.Zones.{IsLaid, owned_runs}
use Rattle.fc_format.proofs.ZoneLemmas.{all_bytes, laid_same, outside_same}

abbrev zone_shape : ℕ → ℕ → ℕ → ℕ → ℕ → ZoneShape
zone_shape zone first end base q = record { zone = zone; first = first; end = end; base = base; idlen = 15; q = q; min = 16 }

abbrev pub one_zone : ZoneShape
one_zone = zone_shape 0 512 6912 0 8

abbrev pub shape_0 : ZoneShape
shape_0 = zone_shape 0 512 6624 0 16

abbrev pub shape_1 : ZoneShape
shape_1 = zone_shape 1 32 6624 6112 16

abbrev pub shape_2 : ZoneShape
shape_2 = zone_shape 2 32 6624 12704 16

abbrev pub shape_3 : ZoneShape
shape_3 = zone_shape 3 32 6336 19296 16

-- a sector that is laid out, from what it computes to
laid_by : (shape : ZoneShape) (start target : List ℕ) (runs : List Run) → IsShapeOf target shape → zone_of shape target ≡ Ok runs → slice_index (bits target) 23 ≡ 1
    → AllByRecursion (λ p. field_at shape (bits target) p < 2 ^ 15) (hole_starts runs) → take 8 (bits target) ≡ take 8 (bits start)
    → take (shape.first - 24) (drop 24 (bits target)) ≡ take (shape.first - 24) (drop 24 (bits start)) → drop shape.end (bits target) ≡ drop shape.end (bits start) → length target ≡ length start → IsLaid shape start target runs
laid_by shape start target runs is reads top links front middle back size = record {
  zone = zone_of-Zone shape target runs is reads;
  written = record { top = top; links = links };
  outside = outside_same shape start target front middle back;
  size = size;
}

-- what is laid out is the sector that it has to be, with its check
pub sealed_same : (shape : ZoneShape) (start was made target sector : List ℕ) (runs : List Run) → 32 ≤ shape.first → was ≡ start → IsLaid shape was made runs → IsLaid shape start target runs
    → ((i : ℕ) → slice_index made i < 256) → ((i : ℕ) → slice_index target i < 256) → sector ≡ sealed made → sector ≡ sealed target
sealed_same shape start was made target sector runs header same laid wanted made_fits target_fits is =
    is ∙ ap sealed (laid_same shape start made target runs header made_fits target_fits (subst (λ (l : List ℕ). IsLaid shape l made runs) same laid) wanted)

small : 0 < 2 ^ 15
small = omega arith

abbrev pub start0 : List ℕ → List ℕ
start0 r = slice_set (overwritten (zeros 1024) 4 r) 3 255

shape_of : (shape : ZoneShape) (first end base q : ℕ) (zone : ℕ) (target : List ℕ) → shape ≡ zone_shape zone first end base q → length target ≡ 1024 → 32 ≤ first → first ≤ end → end ≤ 8192 → base + (end - first) < 2 ^ 64 → 0 < q → 16 % q ≡ 0 → 1 ≤ q → 16 ≤ 15 + q → IsShapeOf target shape
shape_of shape first end base q zone target is long header order within bits_fit some whole least room =
    subst (λ (s : ZoneShape). IsShapeOf target s) (sym is)
    (record {
      size = inr (inr long);
      header = header;
      order = order;
      within = omega (arith, within, long);
      links_reach = omega (arith, long);
      field = omega arith;
      disc_bits_fit = bits_fit;
      step = some;
      least_whole = whole;
      least_room = omega arith;
      least = room;
    })

abbrev pub target_e : List ℕ
target_e = with_bytes ((1, 0x18) ∷ (2, 0x82) ∷ (3, 0xFF) ∷ (64, 2) ∷ (67, 0x80) ∷ (863, 0x80) ∷ []) (overwritten (zeros 1024) 4 e_record)

pub bytes_e : all_bytes target_e ≡ true
bytes_e = refl

link_e : field_at one_zone (bits target_e) 544 ≡ 0
unfolding bits num low_bits
link_e = refl

pub laid_e : IsLaid one_zone (start0 e_record) target_e (owned_runs one_zone 512 ((32, 2) ∷ []))
unfolding bits num low_bits runs_from
laid_e =
    laid_by one_zone (start0 e_record) target_e (owned_runs one_zone 512 ((32, 2) ∷ []))
    (shape_of one_zone 512 6912 0 8 0 target_e refl refl (omega arith) (omega arith) (omega arith) (omega arith) (omega arith) refl (omega arith) (omega arith))
    refl refl (subst (λ (n : ℕ). n < 2 ^ 15) (sym link_e) small, tt) refl refl refl refl

abbrev pub target_e+ : List ℕ
target_e+ = with_bytes ((1, 0x18) ∷ (2, 0x82) ∷ (3, 0xFF) ∷ (64, 2) ∷ (65, 0x80) ∷ (66, 3) ∷ (67, 0x80) ∷ (863, 0x80) ∷ []) (overwritten (zeros 1024) 4 (plus_record e_record))

pub bytes_e+ : all_bytes target_e+ ≡ true
bytes_e+ = refl

link_e+ : field_at one_zone (bits target_e+) 544 ≡ 0
unfolding bits num low_bits
link_e+ = refl

pub laid_e+ : IsLaid one_zone (start0 (plus_record e_record)) target_e+ (owned_runs one_zone 512 ((16, 2) ∷ (16, 3) ∷ []))
unfolding bits num low_bits runs_from
laid_e+ =
    laid_by one_zone (start0 (plus_record e_record)) target_e+ (owned_runs one_zone 512 ((16, 2) ∷ (16, 3) ∷ []))
    (shape_of one_zone 512 6912 0 8 0 target_e+ refl refl (omega arith) (omega arith) (omega arith) (omega arith) (omega arith) refl (omega arith) (omega arith))
    refl refl (subst (λ (n : ℕ). n < 2 ^ 15) (sym link_e+) small, tt) refl refl refl refl

abbrev pub target_f0 : List ℕ
target_f0 = with_bytes ((1, 0x38) ∷ (2, 0x82) ∷ (3, 0xFF) ∷ (64, 2) ∷ (71, 0x80) ∷ (827, 0x80) ∷ []) (overwritten (zeros 1024) 4 f_record)

pub bytes_f0 : all_bytes target_f0 ≡ true
bytes_f0 = refl

link_f0 : field_at shape_0 (bits target_f0) 576 ≡ 0
unfolding bits num low_bits
link_f0 = refl

pub laid_f0 : IsLaid shape_0 (start0 f_record) target_f0 (owned_runs shape_0 512 ((64, 2) ∷ []))
unfolding bits num low_bits runs_from
laid_f0 =
    laid_by shape_0 (start0 f_record) target_f0 (owned_runs shape_0 512 ((64, 2) ∷ []))
    (shape_of shape_0 512 6624 0 16 0 target_f0 refl refl (omega arith) (omega arith) (omega arith) (omega arith) (omega arith) refl (omega arith) (omega arith))
    refl refl (subst (λ (n : ℕ). n < 2 ^ 15) (sym link_f0) small, tt) refl refl refl refl

abbrev pub target_f0+ : List ℕ
target_f0+ = with_bytes ((1, 0x38) ∷ (2, 0x82) ∷ (3, 0xFF) ∷ (64, 2) ∷ (71, 0x80) ∷ (827, 0x80) ∷ []) (overwritten (zeros 1024) 4 (plus_record f_record))

pub bytes_f0+ : all_bytes target_f0+ ≡ true
bytes_f0+ = refl

link_f0+ : field_at shape_0 (bits target_f0+) 576 ≡ 0
unfolding bits num low_bits
link_f0+ = refl

pub laid_f0+ : IsLaid shape_0 (start0 (plus_record f_record)) target_f0+ (owned_runs shape_0 512 ((64, 2) ∷ []))
unfolding bits num low_bits runs_from
laid_f0+ =
    laid_by shape_0 (start0 (plus_record f_record)) target_f0+ (owned_runs shape_0 512 ((64, 2) ∷ []))
    (shape_of shape_0 512 6624 0 16 0 target_f0+ refl refl (omega arith) (omega arith) (omega arith) (omega arith) (omega arith) refl (omega arith) (omega arith))
    refl refl (subst (λ (n : ℕ). n < 2 ^ 15) (sym link_f0+) small, tt) refl refl refl refl

abbrev pub target_f1 : List ℕ
target_f1 = with_bytes ((1, 0x18) ∷ (2, 0x80) ∷ (827, 0x80) ∷ []) (zeros 1024)

pub bytes_f1 : all_bytes target_f1 ≡ true
bytes_f1 = refl

link_f1 : field_at shape_1 (bits target_f1) 32 ≡ 0
unfolding bits num low_bits
link_f1 = refl

pub laid_f1 : IsLaid shape_1 (zeros 1024) target_f1 (owned_runs shape_1 32 ([]))
unfolding bits num low_bits runs_from
laid_f1 =
    laid_by shape_1 (zeros 1024) target_f1 (owned_runs shape_1 32 ([]))
    (shape_of shape_1 32 6624 6112 16 1 target_f1 refl refl (omega arith) (omega arith) (omega arith) (omega arith) (omega arith) refl (omega arith) (omega arith))
    refl refl (subst (λ (n : ℕ). n < 2 ^ 15) (sym link_f1) small, tt) refl refl refl refl

abbrev pub target_f2 : List ℕ
target_f2 = with_bytes ((1, 0xB8) ∷ (2, 0x80) ∷ (4, 2) ∷ (23, 0x80) ∷ (827, 0x80) ∷ []) (zeros 1024)

pub bytes_f2 : all_bytes target_f2 ≡ true
bytes_f2 = refl

link_f2 : field_at shape_2 (bits target_f2) 192 ≡ 0
unfolding bits num low_bits
link_f2 = refl

pub laid_f2 : IsLaid shape_2 (zeros 1024) target_f2 (owned_runs shape_2 32 ((160, 2) ∷ []))
unfolding bits num low_bits runs_from
laid_f2 =
    laid_by shape_2 (zeros 1024) target_f2 (owned_runs shape_2 32 ((160, 2) ∷ []))
    (shape_of shape_2 32 6624 12704 16 2 target_f2 refl refl (omega arith) (omega arith) (omega arith) (omega arith) (omega arith) refl (omega arith) (omega arith))
    refl refl (subst (λ (n : ℕ). n < 2 ^ 15) (sym link_f2) small, tt) refl refl refl refl

abbrev pub target_f2+ : List ℕ
target_f2+ = with_bytes ((1, 0xB8) ∷ (2, 0x80) ∷ (4, 2) ∷ (19, 0x80) ∷ (20, 3) ∷ (23, 0x80) ∷ (827, 0x80) ∷ []) (zeros 1024)

pub bytes_f2+ : all_bytes target_f2+ ≡ true
bytes_f2+ = refl

link_f2+ : field_at shape_2 (bits target_f2+) 192 ≡ 0
unfolding bits num low_bits
link_f2+ = refl

pub laid_f2+ : IsLaid shape_2 (zeros 1024) target_f2+ (owned_runs shape_2 32 ((128, 2) ∷ (32, 3) ∷ []))
unfolding bits num low_bits runs_from
laid_f2+ =
    laid_by shape_2 (zeros 1024) target_f2+ (owned_runs shape_2 32 ((128, 2) ∷ (32, 3) ∷ []))
    (shape_of shape_2 32 6624 12704 16 2 target_f2+ refl refl (omega arith) (omega arith) (omega arith) (omega arith) (omega arith) refl (omega arith) (omega arith))
    refl refl (subst (λ (n : ℕ). n < 2 ^ 15) (sym link_f2+) small, tt) refl refl refl refl

abbrev pub target_f3 : List ℕ
target_f3 = with_bytes ((1, 0x18) ∷ (2, 0x80) ∷ (791, 0x80) ∷ []) (zeros 1024)

pub bytes_f3 : all_bytes target_f3 ≡ true
bytes_f3 = refl

link_f3 : field_at shape_3 (bits target_f3) 32 ≡ 0
unfolding bits num low_bits
link_f3 = refl

pub laid_f3 : IsLaid shape_3 (zeros 1024) target_f3 (owned_runs shape_3 32 ([]))
unfolding bits num low_bits runs_from
laid_f3 =
    laid_by shape_3 (zeros 1024) target_f3 (owned_runs shape_3 32 ([]))
    (shape_of shape_3 32 6336 19296 16 3 target_f3 refl refl (omega arith) (omega arith) (omega arith) (omega arith) (omega arith) refl (omega arith) (omega arith))
    refl refl (subst (λ (n : ℕ). n < 2 ^ 15) (sym link_f3) small, tt) refl refl refl refl
