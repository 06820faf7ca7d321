use Rattle.std.proofs.Common.{◌≡◌, ◌≤◌, true, false, refl, arith}
use Rattle.fc_image.proofs.effects.compaction_rows.Goals as goal

pub returns : goal.returns
returns c = record {
  inside = λ s. (let clash : true ≡ false = s.clear 8 refl in absurd (cc));
  at_one_place = λ space was s. (let after : 9 ≤ 7 = s.order.1.0 in absurd (omega (arith, after)));
  other_disc = λ owned s. (let same : 30 ≡ 40 = s.disc.0 in absurd (cc));
  lost = refl;
  changed_places = λ c. (let same = c.1 in absurd (cc));
  idle_count = λ c. (let same : 1 ≡ 0 = c.3 in absurd (cc));
  counted = (refl, tt, refl, refl);
}
