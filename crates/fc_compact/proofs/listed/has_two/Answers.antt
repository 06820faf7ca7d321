use Rattle.std.proofs.Common.{◌≡◌, length, ap, sym, arith}
use Rattle.std.proofs.lemmas.Bool.{le-ltb, lt-ltb}
use Rattle.fc_newmap.specs.Map.{id_runs}
use Rattle.fc_compact.proofs.listed.has_two.Goals as goal

pub returns-in_default : goal.returns-in_default
returns-in_default c =
    let ids = id_runs c.args.map.now c.args.id in
    let none : length ids ≡ 0 = ap length (c.in_default.ensures.value ids c.start-runs.ensures).0 in
    sym (le-ltb 1 (length ids) (omega (arith, none)))

pub next-requires-2 : goal.next-requires-2
next-requires-2 c = let r = c.in-Some.ensures.value (id_runs c.args.map.now c.args.id) c.start-runs.ensures in (r.0, r.1.1)

pub returns-in_default-next : goal.returns-in_default-next
returns-in_default-next c =
    let ids = id_runs c.args.map.now c.args.id in
    let r = c.in-Some.ensures.value ids c.start-runs.ensures in
    let one = ap length r.1.0 in
    let none : length r.0 ≡ 0 = ap length (c.in_default-next.ensures.value r.0 r.1.1).0 in
    sym (le-ltb 1 (length ids) (omega (arith, one, none)))

pub returns : goal.returns
returns c =
    let ids = id_runs c.args.map.now c.args.id in
    let r = c.in-Some.ensures.value ids c.start-runs.ensures in
    let s = c.in-Some-next.ensures.value r.0 r.1.1 in
    let one = ap length r.1.0 in
    let two = ap length s.1.0 in
    sym (lt-ltb 1 (length ids) (omega (arith, one, two)))
