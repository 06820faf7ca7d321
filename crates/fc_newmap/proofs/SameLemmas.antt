-- A change of some bytes in front of a zone's bits leaves its runs.
use Rattle.std.proofs.Common.{◌≡◌, ◌<◌, ◌≤◌, ℕ, ◌+◌, ◌-◌, ◌*◌, List, None, length, take, drop, slice_index, slice_set, sym, ap, ◌∙◌, inl, inr, arith}
use Rattle.std.proofs.lemmas.List.{get_or-take, get_or-drop, take-set, drop-set-lt, length-set}
use Rattle.fc_bytes.specs.Bits.{SameOutside, bits}
use Rattle.fc_bytes.specs.BitLaws.{bits-take, bits-drop, length-bits}
use Rattle.fc_zone.specs.declared.ZoneShape.{ZoneShape}
use Rattle.fc_zone.specs.declared.Run.{Run}
use Rattle.fc_zone.specs.Zone.{first_hole, hole_starts, Zone}
use Rattle.fc_zone.proofs.HolderLemmas.{holes_from}
use Rattle.fc_zone.proofs.EditLemmas.{Spells-same, Chain-same, first_hole-same, kept_from}

bit_in_front : (s : List ℕ) (a k : ℕ) → k < 8 * a → slice_index (bits (take a s)) k ≡ slice_index (bits s) k
bit_in_front s a k low = ap (λ (l : List ℕ). slice_index l k) (bits-take a s) ∙ get_or-take (8 * a) (bits s) k 0 low

bit_behind : (s : List ℕ) (b k : ℕ) → 8 * b ≤ k → slice_index (bits (drop b s)) (k - 8 * b) ≡ slice_index (bits s) k
bit_behind s b k high =
    ap (λ (l : List ℕ). slice_index l (k - 8 * b)) (bits-drop b s) ∙ get_or-drop (8 * b) (bits s) (k - 8 * b) 0
    ∙ ap (slice_index (bits s)) (let e : 8 * b + (k - 8 * b) ≡ k = omega arith in e)

-- bytes that are the same before one place and from another on
pub bytes_outside : (s t : List ℕ) (a b : ℕ) → take a t ≡ take a s → drop b t ≡ drop b s → SameOutside (bits s) (bits t) (8 * a) (8 * b)
bytes_outside s t a b front back k (inl low) =
    sym (bit_in_front t a k low) ∙ ap (λ (l : List ℕ). slice_index (bits l) k) front ∙ bit_in_front s a k low
bytes_outside s t a b front back k (inr high) =
    sym (bit_behind t b k high) ∙ ap (λ (l : List ℕ). slice_index (bits l) (k - 8 * b)) back ∙ bit_behind s b k high

-- bits that are the same but between FreeLink and the zone's bits
pub zone_kept : (shape : ZoneShape) (s t : List ℕ) (runs : List Run) (lo hi : ℕ) → SameOutside (bits s) (bits t) lo hi → length t ≡ length s → 24 ≤ lo → hi ≤ shape.first → 24 ≤ shape.first
    → Zone shape s runs → Zone shape t runs
zone_kept shape s t runs lo hi same long low high header zone =
    let len : length (bits s) ≡ length (bits t) = omega (arith, length-bits s, length-bits t) in
    let first = first_hole-same shape (bits s) (bits t) len (λ k l u. same k (inl (omega arith))) in
    record {
      spelled = Spells-same shape (bits s) (bits t) len runs shape.first shape.end zone.spelled (λ k l u. same k (inr (omega arith)));
      chained = rw first (Chain-same shape (bits s) (bits t) len (first_hole (bits s)) (hole_starts runs) None zone.chained
          (kept_from shape (bits s) (bits t) len shape.first lo hi (hole_starts runs) same high (holes_from shape (bits s) runs shape.first shape.end zone.spelled)));
    }

-- one byte before the zone's bits
pub cross_kept : (shape : ZoneShape) (s t : List ℕ) (v : ℕ) (runs : List Run) → t ≡ slice_set s 3 v → 32 ≤ shape.first → Zone shape s runs → Zone shape t runs
cross_kept shape s t v runs e header zone =
    zone_kept shape s t runs 24 32 (bytes_outside s t 3 4 (ap (take 3) e ∙ take-set s 3 v) (ap (drop 4) e ∙ drop-set-lt 4 s 3 v (omega arith))) (ap length e ∙ length-set s 3 v)
    (omega arith) header (omega arith) zone
