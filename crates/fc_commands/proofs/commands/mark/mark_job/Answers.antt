use Rattle.std.proofs.Common.{ℕ, List, [], refl, sym, ap}
use Rattle.std.proofs.lemmas.Result.{err_from_is_err_and}
use Rattle.fc_image.specs.Layout.{dir_form}
use Rattle.fc_model.specs.Command.{Command}
use Rattle.fc_space.specs.Space.{layout_of}
use Rattle.fc_change.specs.declared.job.Job.TheVariants as jobs
use Rattle.fc_holdings.specs.Holdings.{parts_of}
use Rattle.fc_commands.proofs.JudgmentLemmas.{by_form, judged_job, not_judged}
use Rattle.fc_commands.proofs.commands.mark.mark_job.Goals as goal

pub returns-in_err-target-clause-judged : goal.returns-in_err-target-clause-judged
returns-in_err-target-clause-judged c =
    let p = err_from_is_err_and c.from_residual.result c.from_residual.ensures.1 in
    not_judged c.args.read_only (Command.Mark c.args.path.now c.args.attrs) (parts_of c.args.holdings.now) [] c.in_err-target.field-0.0 c.from_residual.result p.0 p.1 p.2
    (λ v image sound held. sym (c.in_err-target.ensures.refusal image v.layout v.listings (dir_form v.layout) 0 0 0 sound held.nodes))

pub returns-clause-judged : goal.returns-clause-judged
returns-clause-judged c =
    judged_job c.args.read_only (Command.Mark c.args.path.now c.args.attrs) (parts_of c.args.holdings.now) (jobs.Marks c.in_ok-target.target c.args.attrs) c.in_ok-name.name []
    (λ v sound held. (c.in_ok-target.ensures.target v.layout v.listings sound held.nodes, refl)) (λ v image sound held. sym (c.in_ok-target.ensures.refusal image v.layout v.listings (dir_form v.layout) 0 0 0 sound held.nodes)) refl
