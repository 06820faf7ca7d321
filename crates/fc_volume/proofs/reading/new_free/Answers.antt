use Rattle.std.proofs.Common.{ap, arith}
use Rattle.fc_volume.proofs.FreeLemmas.{free_fits, largest_fits}
use Rattle.fc_volume.proofs.reading.new_free.Goals as goal

pub overflow_mul-result : goal.overflow_mul-result
overflow_mul-result c = let fits = free_fits c.args.map.now c.geometry.result.now.bit_bytes c.hole_sums-sums.result.total c.geometry.ensures.map (ap (λ h. h.bit_bytes) c.geometry.ensures.value) c.hole_sums-sums.ensures.total in omega (arith, fits)

pub overflow_mul-result-2 : goal.overflow_mul-result-2
overflow_mul-result-2 c = let fits = largest_fits c.args.map.now c.geometry.result.now.bit_bytes c.hole_sums-sums.result.longest c.geometry.ensures.map (ap (λ h. h.bit_bytes) c.geometry.ensures.value) c.hole_sums-sums.ensures.longest in omega (arith, fits)
