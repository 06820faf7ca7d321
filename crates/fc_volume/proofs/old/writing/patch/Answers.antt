use Rattle.std.proofs.Common.{List, ℕ, length, ap, arith}
use Rattle.std.proofs.lemmas.List.{length-take-le}
use Rattle.fc_volume.proofs.old.writing.patch.Goals as goal

pub returns-clause-long : goal.returns-clause-long
returns-clause-long c =
    let w = ap (λ (l : List ℕ). length l) c.write.ensures in
    let a = c.write.auto.b in
    let t = length-take-le 512 c.args.front.now c.requires in
    omega (arith, w, a, t)
