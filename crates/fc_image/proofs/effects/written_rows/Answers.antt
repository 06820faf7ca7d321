use Rattle.std.proofs.Common.{◌≡◌, ◌<◌, inl, inr, refl, ap, arith}
use Rattle.std.specs.Prelude.{slice_index}
use Rattle.fc_bytes.specs.Bits.{bits, num, low_bits}
use Rattle.fc_bytes.specs.Checks.{carry_sum, accumulated}
use Rattle.fc_dirs.specs.SmallBytes.{small_bytes}
use Rattle.fc_dirs.specs.BigBytes.{big_bytes}
use Rattle.fc_record.specs.Record.{record_fault}
use Rattle.fc_zone.specs.Reading.{runs_from, runs_of}
use Rattle.fc_image.proofs.effects.written_rows.Goals as goal

pub returns : goal.returns
unfolding bits num low_bits carry_sum accumulated record_fault runs_from runs_of small_bytes big_bytes
returns c = record {
  links_stay = record { free_link = inl refl; fields = (inr (omega arith), tt) };
  link_written = record { free_link = inr refl; fields = (inr (omega arith), tt) };
  no_top = λ w. (elim w.free_link [
    | inl same ↦ (let clash : 0 ≡ 1 = ap (λ l. slice_index l 15) same in absurd (cc))
    | inr top ↦ (let clash : 0 ≡ 1 = top in absurd (cc))
  ]);
  high_bit = λ w. (elim w.fields.0 [
    | inl there ↦ absurd (omega (arith, there.0.1))
    | inr low ↦ (let clash : 32768 < 32768 = low in absurd (omega (arith, clash)))
  ]);
  padding = λ w. (let clash : 7 ≡ 0 = ap (λ l. slice_index l 7) w.spelled in absurd (cc));
  mark = λ w. (let clash : 1 ≡ 0 = ap (λ l. slice_index l 2007) w.spelled in absurd (cc));
  free = λ w. (let clash : 1 ≡ 0 = ap (λ l. slice_index l 6) w.spelled in absurd (cc));
  last_byte = λ w. (let clash : 9 ≡ 0 = ap (λ l. slice_index l 1279) w.spelled in absurd (cc));
  head = λ w. (let clash : 1 ≡ 0 = ap (λ l. slice_index l 30) w.spelled in absurd (cc));
  heap = λ w. (let clash : 1 ≡ 0 = ap (λ l. slice_index l 2039) w.spelled in absurd (cc));
  moved = refl;
  touched = λ same. (let clash : 0 ≡ 9 = ap (λ l. slice_index l 1279) same in absurd (cc));
  rewritten = λ w. (let clash : 9 ≡ 0 = ap (λ l. slice_index l 1279) w.spelled in absurd (cc));
  joined = refl;
  touching = refl;
}
