use Rattle.std.proofs.Common.{sym, subst}
use Rattle.fc_dirs.specs.Directory.{Directory, entries_of}
use Rattle.fc_drafts.specs.Draft.{directory_in}
use Rattle.fc_drafts.specs.Rewriting.{HasAmended}
use Rattle.fc_drafts.proofs.EditLemmas.{name_at}
use Rattle.fc_drafts.proofs.AmendLemmas.{amended}
use Rattle.fc_drafts.proofs.draft.Draft.amend.Goals as goal

pub returns : goal.returns
returns c =
    let old = directory_in c.args.self.now in
    let e = c.args.e in
    subst (λ (d : Directory). HasAmended c.args.at e old d) (sym c.change.ensures)
    (amended old c.args.at e c.entries.ensures.sayable c.requires.present (name_at (entries_of old) c.args.at e.name c.requires.present c.requires.same))
