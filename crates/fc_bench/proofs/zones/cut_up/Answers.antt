use Rattle.std.proofs.Common.{◌<◌, ◌+◌, ◌-◌, ◌∷◌, Option, refl, subst, sym}
use Rattle.std.specs.Option.{IfSome}
use Rattle.fc_zone.specs.declared.Run.{Run}
use Rattle.fc_zone.specs.Zone.{HasRun}
use Rattle.fc_zone.proofs.WalkLemmas.{bits_left, walk_ends}
use Rattle.fc_bench.proofs.zones.cut_up.Goals as goal

pub loop-at-smaller : goal.loop-at-smaller
loop-at-smaller c =
    let shape = c.args.shape.now in
    let run = c.in-Some.run' in
    let next = c.next-at.result in
    let held : HasRun shape c.loop-at.b run = subst (λ (o : Option Run). IfSome o (HasRun shape c.loop-at.b)) c.in-Some.is c.loop-at.invariant.run in
    let piece : Run = record run { len = shape.min } in
    let back : Run = record run { start = run.start + shape.min; len = run.len - shape.min } in
    let there : HasRun shape c.split.new.b piece = (held.0, (back ∷ held.1.0, c.split.ensures.runs held.0 held.1.0 run held.1.1 refl)) in
    subst (λ (o : Option Run). bits_left shape.end next < bits_left shape.end o) (sym c.in-Some.is) (walk_ends shape c.split.new.b piece next there c.next-at.ensures.run)
