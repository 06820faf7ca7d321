use Rattle.std.proofs.Common.{sym, subst, ap, ◌∙◌}
use Rattle.fc_dirs.specs.Directory.{Directory}
use Rattle.fc_drafts.specs.Draft.{directory_in, with_head}
use Rattle.fc_drafts.specs.Rewriting.{HasMoved}
use Rattle.fc_drafts.proofs.RewritingLemmas.{moved}
use Rattle.fc_drafts.proofs.draft.Draft.rename_head.Goals as goal

pub returns-clause-ok : goal.returns-clause-ok
returns-clause-ok c =
    let old = directory_in c.args.self.now in
    subst (λ (d : Directory). HasMoved c.args.parent c.args.name.now old d) (sym (c.head.ensures ∙ ap (with_head c.args.parent) c.in_ok-set_name.ensures.ok))
    (moved c.args.parent c.args.name.now old c.entries.ensures.sayable)
