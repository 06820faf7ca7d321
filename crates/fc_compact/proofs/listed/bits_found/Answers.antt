use Rattle.std.proofs.Common.{ap, arith}
use Rattle.fc_newmap.specs.Map.{bits_in, id_runs}
use Rattle.fc_newmap.proofs.ExtentLemmas.{sum_more}
use Rattle.fc_compact.proofs.listed.bits_found.Goals as goal

pub overflow_add-total : goal.overflow_add-total
overflow_add-total c =
    let before = c.loop-run.invariant in
    let r = c.in-Some.ensures.value before.0 before.1.0 in
    let more = sum_more (c.in-Some.field-0-0, c.in-Some.run') r.0 c.loop-run.total (bits_in (id_runs c.args.map.now c.args.id)) before.0 r.1.0 before.1.1 in
    omega (arith, more, c.requires.few)

pub loop-run-preserved : goal.loop-run-preserved
loop-run-preserved c =
    let before = c.loop-run.invariant in
    let r = c.in-Some.ensures.value before.0 before.1.0 in
    let more = sum_more (c.in-Some.field-0-0, c.in-Some.run') r.0 c.loop-run.total (bits_in (id_runs c.args.map.now c.args.id)) before.0 r.1.0 before.1.1 in
    (r.0, (r.1.1, more))

pub returns : goal.returns
returns c =
    let before = c.loop-run.invariant in
    let r = c.in_default.ensures.value before.0 before.1.0 in
    omega (arith, before.1.1, ap bits_in r.0)
