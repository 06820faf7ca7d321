-- What a change of byte 0 alone leaves of a zone.
use Rattle.std.proofs.Common.{◌≡◌, ◌≤◌, ℕ, None, List, [], ◌∷◌, length, slice_index, refl, sym, ◌∙◌, inl, inr, arith}
use Rattle.std.specs.List.{slice_set}
use Rattle.std.proofs.lemmas.List.{get_or-append_right}
use Rattle.fc_bytes.specs.Bits.{bits, low_bits}
use Rattle.fc_bytes.specs.BitLaws.{length-bits, length-low_bits}
use Rattle.fc_zone.specs.declared.ZoneShape.{ZoneShape}
use Rattle.fc_zone.specs.declared.Run.{Run}
use Rattle.fc_zone.specs.Zone.{first_hole, hole_starts, Zone}
use Rattle.fc_zone.proofs.HolderLemmas.{holes_from}
use Rattle.fc_zone.proofs.EditLemmas.{Same, Spells-same, Chain-same, first_hole-same, kept_from}

-- the bits from 8 on are those of the other bytes
bits-first_byte : (byte : ℕ) (bytes : List ℕ) (v : ℕ) (k : ℕ) → 8 ≤ k → slice_index (bits (v ∷ bytes)) k ≡ slice_index (bits (byte ∷ bytes)) k
unfolding bits
bits-first_byte byte bytes v k past =
    get_or-append_right (low_bits 8 v) (bits bytes) 8 k 0 (length-low_bits 8 v) past ∙ sym (get_or-append_right (low_bits 8 byte) (bits bytes) 8 k 0 (length-low_bits 8 byte) past)

pub bits-set_first : (s : List ℕ) (v k : ℕ) → 8 ≤ k → slice_index (bits (slice_set s 0 v)) k ≡ slice_index (bits s) k
bits-set_first [] v k past = refl
bits-set_first (byte ∷ bytes) v k past = bits-first_byte byte bytes v k past

length-set_first : (s : List ℕ) (v : ℕ) → length (slice_set s 0 v) ≡ length s
length-set_first [] v = refl
length-set_first (byte ∷ bytes) v = refl

pub set_first_zone : (shape : ZoneShape) (s : List ℕ) (v : ℕ) (runs : List Run) → 8 ≤ shape.first → Zone shape s runs → Zone shape (slice_set s 0 v) runs
set_first_zone shape s v runs header zone =
    let t = slice_set s 0 v in
    let len : length (bits s) ≡ length (bits t) = omega (arith, length-bits s, length-bits t, length-set_first s v) in
    let same : (from end : ℕ) → 8 ≤ from → Same (bits s) (bits t) from end = λ from end late k low high. bits-set_first s v k (omega arith) in
    let first = first_hole-same shape (bits s) (bits t) len (same 8 23 (omega arith)) in
    record {
      spelled = Spells-same shape (bits s) (bits t) len runs shape.first shape.end zone.spelled (same shape.first shape.end header);
      chained = rw first (Chain-same shape (bits s) (bits t) len (first_hole (bits s)) (hole_starts runs) None zone.chained
          (kept_from shape (bits s) (bits t) len shape.first 0 8 (hole_starts runs) (λ k side. elim side [ inl low ↦ absurd (omega arith) | inr high ↦ bits-set_first s v k high ]) header (holes_from shape (bits s) runs shape.first shape.end zone.spelled)));
    }
