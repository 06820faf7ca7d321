use Rattle.std.proofs.Common.{sym, subst}
use Rattle.fc_dirs.specs.Directory.{Directory}
use Rattle.fc_drafts.specs.Draft.{directory_in}
use Rattle.fc_drafts.specs.Rewriting.{HasNewHolder}
use Rattle.fc_drafts.proofs.RewritingLemmas.{new_holder}
use Rattle.fc_drafts.proofs.draft.Draft.set_holder.Goals as goal

pub returns : goal.returns
returns c =
    let old = directory_in c.args.self.now in
    subst (λ (d : Directory). HasNewHolder c.args.parent old d) (sym c.head.ensures) (new_holder c.args.parent old c.entries.ensures.sayable)
