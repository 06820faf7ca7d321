use Rattle.std.proofs.Common.{◌≡◌, sym, ap, subst, arith}
use Rattle.fc_record.specs.declared.Geometry.{Geometry}
use Rattle.fc_compact.specs.Candidates.{Rises}
use Rattle.fc_compact.proofs.CandidatesLemmas.{all_seen}
use Rattle.fc_compact.proofs.candidates.Candidates.find.Goals as goal

pub returns-clause-candidates : goal.returns-clause-candidates
returns-clause-candidates c =
    let m = c.args.map.now in
    let zones = ap (λ (g : Geometry). g.zones) c.geometry.ensures.value in
    let e : c.loop-z.z ≡ m.geometry.zones = omega (arith, c.loop-z.auto.z-end, c.loop-z-test.false, zones) in
    all_seen m c.loop-z.z c.loop-z.self c.geometry.ensures.map e (subst (λ x. Rises x.items) (sym c.loop-z.invariant.ids) c.requires) c.loop-z.invariant.found
