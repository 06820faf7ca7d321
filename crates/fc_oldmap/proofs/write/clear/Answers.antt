use Rattle.std.proofs.Common.{◌≡◌, ◌++◌, length, take, drop, replicate, ap, ◌∙◌, arith}
use Rattle.std.proofs.lemmas.List.{length-take}
use Rattle.fc_oldmap.proofs.write.clear.Goals as goal

pub slice_bounds-fill-end-2 : goal.slice_bounds-fill-end-2
slice_bounds-fill-end-2 c = omega (arith, length-take 246 c.args.half.now, c.requires)

pub returns : goal.returns
returns c =
    let size : length (take 246 c.args.half.now) ≡ 246 = omega (arith, length-take 246 c.args.half.now, c.requires) in
    ap (λ l. l ++ drop 246 c.args.half.now) (c.fill.ensures.after (λ y e. e) ∙ ap (λ n. replicate n 0) size)
