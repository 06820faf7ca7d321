use Rattle.std.proofs.Common.{◌≡◌, ◌++◌, ◌∷◌, [], map, take}
use Rattle.fc_fit.proofs.paths.push_children.Given as goal

abbrev pub invariant-loop-e : goal.invariant-loop-e
invariant-loop-e l = l.paths.items ≡ l.fn.paths.items ++ map (λ e. l.dir ++ e.name ∷ []) (take l.e-index l.entries)
