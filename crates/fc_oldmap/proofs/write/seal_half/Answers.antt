use Rattle.std.proofs.Common.{◌∙◌, ap, ◌++◌, ◌∷◌, [], take}
use Rattle.fc_oldmap.proofs.WriteLemmas.{set-last}
use Rattle.fc_oldmap.proofs.write.seal_half.Goals as goal

pub returns : goal.returns
returns c = set-last c.args.half.now 255 c.old_check.result c.requires ∙ ap (λ x. take 255 c.args.half.now ++ x ∷ []) c.old_check.ensures
