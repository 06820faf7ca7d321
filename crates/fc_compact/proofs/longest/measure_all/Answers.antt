use Rattle.std.proofs.Common.{refl, ◌∙◌, arith}
use Rattle.std.proofs.lemmas.List.{length-set}
use Rattle.fc_compact.proofs.LongestLemmas.{all_more}
use Rattle.fc_compact.proofs.longest.measure_all.Goals as goal

pub loop-z-preserved : goal.loop-z-preserved
loop-z-preserved c = record {
  size = length-set c.loop-z.lens c.loop-z.z c.longest_in.result ∙ c.loop-z.invariant.size;
  done = all_more c.args.map.now c.loop-z.z c.longest_in.result c.loop-z.lens _ refl c.longest_in.ensures (omega (arith, c.loop-z.invariant.size)) c.loop-z.invariant.done;
}
