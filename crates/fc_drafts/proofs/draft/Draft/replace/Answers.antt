use Rattle.std.proofs.Common.{sym, subst, ap, ◌∙◌}
use Rattle.fc_dirs.specs.Directory.{Directory, entries_of}
use Rattle.fc_drafts.specs.Draft.{directory_in, with_head}
use Rattle.fc_drafts.specs.Rewriting.{HasReplaced}
use Rattle.fc_drafts.proofs.EditLemmas.{name_at}
use Rattle.fc_drafts.proofs.RewritingLemmas.{replaced}
use Rattle.fc_drafts.proofs.draft.Draft.replace.Goals as goal

pub returns : goal.returns
returns c =
    let old = directory_in c.args.self.now in
    let e = c.args.e in
    subst (λ (d : Directory). HasReplaced c.args.parent c.args.at e old d) (sym (c.head.ensures ∙ ap (with_head c.args.parent) c.change.ensures))
    (replaced c.args.parent old c.args.at e c.entries.ensures.sayable c.requires.present (name_at (entries_of old) c.args.at e.name c.requires.present c.requires.same))
