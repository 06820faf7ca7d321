use Rattle.std.proofs.Common.{[], ◌∷◌, ◌++◌}
use Rattle.fc_zone.specs.declared.Run.{Run}
use Rattle.fc_zone.specs.declared.RunKind.TheVariants.{Hole}
use Rattle.fc_zone.proofs.CursorLemmas.{stands_relabelled}
use Rattle.fc_bench.proofs.zones.release_all.Goals as goal

pub loop-run-preserved : goal.loop-run-preserved
loop-run-preserved c =
    let stands = c.loop-run.invariant in
    let run = c.in-Some.run' in
    let edited : Run = record run { kind = Hole } in
    let step = c.in-Some.ensures.value stands.0 stands.1 stands.2 in
    (stands.0 ++ edited ∷ [], step.0, stands_relabelled c.args.shape.now c.loop-run.b c.release.new.b stands.0 step.0 run Hole c.next.new.self step.1.1 c.release.ensures.runs)
