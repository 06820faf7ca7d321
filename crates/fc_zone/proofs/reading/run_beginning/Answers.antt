use Rattle.std.proofs.Common.{◌≡◌, ◌+◌, ◌++◌, ◌∷◌, sym, subst, arith}
use Rattle.fc_bytes.specs.Bits.{bits}
use Rattle.fc_zone.specs.Zone.{IsRun, Zone}
use Rattle.fc_zone.proofs.ZoneLemmas.{IsRun-unique}
use Rattle.fc_zone.proofs.HolderLemmas.{run_ext, run_is}
use Rattle.fc_zone.proofs.EditLemmas.{run_place}
use Rattle.fc_zone.proofs.reading.run_beginning.Goals as goal

pub end_of-requires-clause-begins : goal.end_of-requires-clause-begins
end_of-requires-clause-begins c =
    let h = c.requires.run in
    (c.args.start + h.0.len, subst (λ n. IsRun c.args.shape.now (bits c.args.b.now) n (n + h.0.len)) h.1.0 (run_is c.args.shape.now c.args.b.now h.1.1.0 h.1.1.1.0 h.0 h.1.1.1.1))

pub kind_at-kind-requires-clause-from_first : goal.kind_at-kind-requires-clause-from_first
kind_at-kind-requires-clause-from_first c =
    let h = c.requires.run in
    let place = run_place c.args.shape.now c.args.b.now h.1.1.0 h.1.1.1.0 h.0 h.1.1.1.1 in
    omega (arith, place.0, h.1.0)

pub kind_at-kind-requires-clause-within : goal.kind_at-kind-requires-clause-within
kind_at-kind-requires-clause-within c =
    let h = c.requires.run in
    let place = run_place c.args.shape.now c.args.b.now h.1.1.0 h.1.1.1.0 h.0 h.1.1.1.1 in
    omega (arith, place.1, h.1.0)

pub returns-clause-value : goal.returns-clause-value
returns-clause-value c = λ front rest run zone start.
    let is = subst (λ n. IsRun c.args.shape.now (bits c.args.b.now) n (n + run.len)) start (run_is c.args.shape.now c.args.b.now front rest run zone) in
    let end : c.end_of.result ≡ c.args.start + run.len = IsRun-unique c.args.shape.now (bits c.args.b.now) c.args.start c.end_of.result (c.args.start + run.len) c.end_of.ensures is in
    run_ext _ run (sym start) (omega (arith, end)) (c.kind_at-kind.ensures front rest run zone start)

pub returns-clause-run : goal.returns-clause-run
returns-clause-run c =
    let h = c.requires.run in
    let zone = h.1.1.1.1 in
    let front = h.1.1.0 in
    let rest = h.1.1.1.0 in
    let same = returns-clause-value c front rest h.0 zone h.1.0 in
    (front, (rest, subst (λ r. Zone c.args.shape.now c.args.b.now (front ++ r ∷ rest)) (sym same) zone))
