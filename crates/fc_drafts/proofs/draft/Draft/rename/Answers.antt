use Rattle.std.proofs.Common.{sym, subst, ap, ◌∙◌}
use Rattle.std.proofs.lemmas.Result.{err_from_is_err_and}
use Rattle.fc_dirs.specs.Directory.{Directory}
use Rattle.fc_drafts.specs.Draft.{directory_in, with_head}
use Rattle.fc_drafts.specs.Rewriting.{HasRenamed}
use Rattle.fc_drafts.proofs.RewritingLemmas.{renamed}
use Rattle.fc_drafts.proofs.SizeLemmas.{full_renamed, never_full}
use Rattle.fc_drafts.proofs.draft.Draft.rename.Goals as goal

pub returns-in_err-move_entry-clause-full : goal.returns-in_err-move_entry-clause-full
returns-in_err-move_entry-clause-full c = λ was gain is other gets.
    let test = full_renamed (directory_in c.args.self.now) c.args.at was c.args.e gain c.entries.ensures.sayable is other gets in
    let full = c.in_err-move_entry.ensures.full in
    let p = err_from_is_err_and c.from_residual.result c.from_residual.ensures.1 in
    rw (p.1, p.2) (λ h. test.0 (full.0 h), λ t. full.1 (test.1 t))

pub returns-in_err-move_entry-clause-kept : goal.returns-in_err-move_entry-clause-kept
returns-in_err-move_entry-clause-kept c = λ was is same.
    let full = c.in_err-move_entry.ensures.full in
    let p = err_from_is_err_and c.from_residual.result c.from_residual.ensures.1 in
    rw (p.1, p.2) (λ h. never_full (directory_in c.args.self.now) c.args.at was c.args.e is same (full.0 h))

pub returns-clause-ok : goal.returns-clause-ok
returns-clause-ok c =
    let old = directory_in c.args.self.now in
    subst (λ (d : Directory). HasRenamed c.args.parent c.args.at c.args.e old d) (sym (c.head.ensures ∙ ap (with_head c.args.parent) c.in_ok-move_entry.ensures.ok))
    (renamed c.args.parent old c.args.at c.args.e c.entries.ensures.sayable c.requires.present c.requires.absent)

pub returns-clause-full : goal.returns-clause-full
returns-clause-full c = λ was gain is other gets.
    let test = full_renamed (directory_in c.args.self.now) c.args.at was c.args.e gain c.entries.ensures.sayable is other gets in
    let full = c.in_ok-move_entry.ensures.full in
    (λ h. test.0 (full.0 h), λ t. full.1 (test.1 t))
