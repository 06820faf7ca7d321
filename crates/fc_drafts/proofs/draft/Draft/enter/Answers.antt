use Rattle.std.proofs.Common.{sym, subst, ap, ◌∙◌}
use Rattle.std.proofs.lemmas.Result.{err_from_is_err_and}
use Rattle.fc_dirs.specs.Directory.{Directory}
use Rattle.fc_drafts.specs.Draft.{directory_in, with_head}
use Rattle.fc_drafts.specs.Rewriting.{HasEntered}
use Rattle.fc_drafts.proofs.RewritingLemmas.{entered}
use Rattle.fc_drafts.proofs.SizeLemmas.{full_is}
use Rattle.fc_drafts.proofs.draft.Draft.enter.Goals as goal

pub returns-in_err-insert-clause-full : goal.returns-in_err-insert-clause-full
returns-in_err-insert-clause-full c = λ gain gets.
    let test = full_is (directory_in c.args.self.now) c.args.e gain c.entries.ensures.sayable gets in
    let full = c.in_err-insert.ensures.full in
    let p = err_from_is_err_and c.from_residual.result c.from_residual.ensures.1 in
    rw (p.1, p.2) (λ h. test.0 (full.0 h), λ t. full.1 (test.1 t))

pub returns-clause-ok : goal.returns-clause-ok
returns-clause-ok c =
    let old = directory_in c.args.self.now in
    subst (λ (d : Directory). HasEntered c.args.parent c.args.e old d) (sym (c.head.ensures ∙ ap (with_head c.args.parent) c.in_ok-insert.ensures.ok))
    (entered c.args.parent old c.args.e c.entries.ensures.sayable c.requires.absent)

pub returns-clause-full : goal.returns-clause-full
returns-clause-full c = λ gain gets.
    let test = full_is (directory_in c.args.self.now) c.args.e gain c.entries.ensures.sayable gets in
    let full = c.in_ok-insert.ensures.full in
    (λ h. test.0 (full.0 h), λ t. full.1 (test.1 t))
