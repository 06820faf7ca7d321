use Rattle.std.proofs.Common.{[], ◌∷◌, ◌++◌}
use Rattle.fc_zone.specs.declared.Run.{Run}
use Rattle.fc_zone.specs.declared.RunKind.TheVariants.{Id}
use Rattle.fc_zone.proofs.CursorLemmas.{stands_relabelled}
use Rattle.fc_bench.proofs.zones.label_all.Goals as goal

pub loop-run-preserved-in-Hole : goal.loop-run-preserved-in-Hole
loop-run-preserved-in-Hole c =
    let stands = c.loop-run.invariant in
    let run = c.in-Some.run' in
    let edited : Run = record run { kind = (Id 3) } in
    let step = c.in-Some.ensures.value stands.0 stands.1 stands.2 in
    (stands.0 ++ edited ∷ [], step.0, stands_relabelled c.args.shape.now c.loop-run.b c.label.new.b stands.0 step.0 run (Id 3) c.next.new.self step.1.1 c.label.ensures.runs)
