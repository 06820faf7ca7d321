use Rattle.std.proofs.Common.{sym, ap, subst, ◌∙◌}
use Rattle.std.proofs.lemmas.Result.{err_from_is_err_and}
use Rattle.std.specs.Prelude.{Err, IfErr, Result}
use Rattle.fc_change.specs.declared.spaces.Spaces.{Spaces}
use Rattle.fc_change.specs.Held.{parts_of}
use Rattle.fc_commands.specs.declared.stages.Prepared.{Prepared}
use Rattle.fc_safe.specs.declared.error.SafeError.{SafeError}
use Rattle.fc_safecommands.specs.Stages.{RefusesAnew}
use Rattle.fc_safecommands.proofs.CourseLemmas.{refuses_first}
use Rattle.fc_safecommands.proofs.course.prepare_job.Goals as goal

pub returns-in_err-spaces-clause-refused : goal.returns-in_err-spaces-clause-refused
returns-in_err-spaces-clause-refused c =
    let m = c.args.map.now in let h = parts_of c.args.held.now in let job = c.args.job.now in let name = c.args.name.now in
    let p = err_from_is_err_and c.from_residual.result c.from_residual.ensures.1 in
    subst (λ (r : Result Prepared SafeError). IfErr r (RefusesAnew m h job name)) (sym (p.1 ∙ ap (λ (e : SafeError). let r : Result Prepared SafeError = Err e in r) p.2))
    (refuses_first Spaces m h job name c.in-Ok.wanted c.in_err-spaces.field-0.0 c.in-Ok.ensures.wants c.in_err-spaces.ensures.refused)

pub draft-requires-clause-can : goal.draft-requires-clause-can
draft-requires-clause-can c = c.requires.can.draft c.in-Ok.wanted c.in_ok-spaces.spaces (record { wants = c.in-Ok.ensures.wants; placed = c.in_ok-spaces.ensures.places })

pub returns-clause-ready : goal.returns-clause-ready
returns-clause-ready c = record {
  wants = c.in-Ok.wanted;
  spaces = c.in_ok-spaces.spaces;
  are_wants = c.in-Ok.ensures.wants;
  placed = c.in_ok-spaces.ensures.places;
  enough = c.in_ok-spaces.ensures.refused;
  change = c.in_ok-change.ensures;
  ready = c.in_ok-ready.ensures;
}
