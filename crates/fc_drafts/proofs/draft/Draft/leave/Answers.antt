use Rattle.std.proofs.Common.{sym, subst, ap, ◌∙◌}
use Rattle.fc_dirs.specs.Directory.{Directory}
use Rattle.fc_drafts.specs.Draft.{directory_in, with_head}
use Rattle.fc_drafts.specs.Rewriting.{HasLeft}
use Rattle.fc_drafts.proofs.RewritingLemmas.{left}
use Rattle.fc_drafts.proofs.draft.Draft.leave.Goals as goal

pub returns : goal.returns
returns c =
    let old = directory_in c.args.self.now in
    subst (λ (d : Directory). HasLeft c.args.parent c.args.at old d) (sym (c.head.ensures ∙ ap (with_head c.args.parent) c.remove.ensures))
    (left c.args.parent old c.args.at c.entries.ensures.sayable c.requires.present)
