use Rattle.std.proofs.Common.{ℕ, List, get_or, set, refl, ap, subst, ◌∙◌, arith}
use Rattle.std.proofs.lemmas.List.{length-set, take_all}
use Rattle.fc_compact.proofs.LongestLemmas.{Measured, measured_more, none_measured}
use Rattle.fc_compact.proofs.longest.measure.Goals as goal

pub loop-z-init : goal.loop-z-init
loop-z-init c = record { size = c.requires.size; measured = none_measured c.args.map.now c.args.lens.now }

pub loop-z-preserved : goal.loop-z-preserved
loop-z-preserved c =
    let was = c.loop-z.invariant in
    let i = c.loop-z.z-index in
    let z = get_or c.args.zones.now i 0 in
    record {
      size = length-set c.loop-z.lens z c.longest_in.result ∙ was.size;
      measured = measured_more c.args.map.now c.args.zones.now i z c.loop-z-test.true refl c.args.lens.now c.loop-z.lens _ (omega (arith, was.size)) (ap (set c.loop-z.lens z) c.longest_in.ensures) was.measured;
    }

pub returns-clause-here : goal.returns-clause-here
returns-clause-here c =
    (subst (λ (zs : List ℕ). Measured c.args.map.now zs c.args.lens.now c.loop-z.lens) (take_all c.loop-z.z-index c.args.zones.now (omega (arith, c.loop-z-test.false))) c.loop-z.invariant.measured).here

pub returns-clause-others : goal.returns-clause-others
returns-clause-others c =
    (subst (λ (zs : List ℕ). Measured c.args.map.now zs c.args.lens.now c.loop-z.lens) (take_all c.loop-z.z-index c.args.zones.now (omega (arith, c.loop-z-test.false))) c.loop-z.invariant.measured).others
