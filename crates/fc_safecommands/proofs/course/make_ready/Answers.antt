use Rattle.std.proofs.Common.{◌≡◌, sym, ap, subst, ◌∙◌}
use Rattle.std.proofs.lemmas.Result.{err_from_is_err_and}
use Rattle.std.specs.Prelude.{Err, IfErr, Result}
use Rattle.fc_newmap.specs.Map.{Map}
use Rattle.fc_image.specs.Layout.{Layout}
use Rattle.fc_space.specs.Space.{layout_of}
use Rattle.fc_holdings.specs.Holdings.{parts_of}
use Rattle.fc_commands.specs.declared.stages.Prepared.{Prepared}
use Rattle.fc_safe.specs.declared.error.SafeError.{SafeError}
use Rattle.fc_safecommands.specs.Anew.{IsPreparedAnew}
use Rattle.fc_safecommands.specs.Stages.{RefusesAnew}
use Rattle.fc_safecommands.proofs.HeldLemmas.{one_map}
use Rattle.fc_safecommands.proofs.course.make_ready.Goals as goal

pub returns-in_err-prepared-clause-refused : goal.returns-in_err-prepared-clause-refused
returns-in_err-prepared-clause-refused c =
    let h = parts_of c.args.holdings.now in
    let at : layout_of c.args.holdings.now.places ≡ Layout.New c.in-NewMapped.map = ap layout_of (sym c.space.ensures ∙ c.in-NewMapped.is) in
    let p = err_from_is_err_and c.from_residual.result c.from_residual.ensures.1 in
    subst (λ (r : Result Prepared SafeError). IfErr r (λ error. (m : Map) → h.layout ≡ Layout.New m → RefusesAnew m h c.args.job.now c.args.name.now error))
    (sym (p.1 ∙ ap (λ (e : SafeError). let r : Result Prepared SafeError = Err e in r) p.2))
    (λ m is. subst (λ (n : Map). RefusesAnew n h c.args.job.now c.args.name.now c.in_err-prepared.field-0.0) (one_map h.layout c.in-NewMapped.map m at is) c.in_err-prepared.ensures.refused)

pub returns-clause-ready : goal.returns-clause-ready
returns-clause-ready c = λ m is.
    (let h = parts_of c.args.holdings.now in
    let at : layout_of c.args.holdings.now.places ≡ Layout.New c.in-NewMapped.map = ap layout_of (sym c.space.ensures ∙ c.in-NewMapped.is) in
    subst (λ (n : Map). IsPreparedAnew n h c.args.job.now c.args.name.now c.in_ok-prepared.prepared) (one_map h.layout c.in-NewMapped.map m at is) c.in_ok-prepared.ensures.ready)
