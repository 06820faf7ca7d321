use Rattle.std.proofs.Common.{List, ◌++◌, ◌∷◌, sym, ap, ap₂, ◌∙◌}
use Rattle.fc_zone.specs.declared.Run.{Run}
use Rattle.fc_newmap.proofs.ComposeLemmas.{edit_then}
use Rattle.fc_plan.specs.Giving.{IsNext}
use Rattle.fc_plan.proofs.Gives.{can_release}
use Rattle.std.proofs.Common.{None, subst}
use Rattle.fc_reclaim.proofs.ChainLemmas.{alone, first_is, first_next, relabelled}
use Rattle.fc_reclaim.proofs.zone.give_back.Goals as goal

pub release-requires-clause-zone : goal.release-requires-clause-zone
release-requires-clause-zone c = c.requires.run.low

pub release-requires-clause-run : goal.release-requires-clause-run
release-requires-clause-run c = can_release c.args.map.now c.args.z c.args.run c.requires.map (alone c.args.map.now c.args.z c.args.chain c.args.run c.requires.run)

pub join_all-requires-clause-run : goal.join_all-requires-clause-run
join_all-requires-clause-run c =
    subst (IsNext c.release.new.self c.args.z None) (sym c.unwrap_or.ensures)
    (first_next c.args.map.now c.release.new.self c.args.z c.args.chain c.args.run c.release.ensures.runs c.release.ensures.edit.geometry c.requires.run)

pub join_all-requires-clause-kind : goal.join_all-requires-clause-kind
join_all-requires-clause-kind c =
    ap (λ (r : Run). r.kind) c.unwrap_or.ensures ∙ (first_is c.args.chain c.requires.run.links c.args.run c.requires.run.rest c.requires.run.first c.requires.run.holes).kind

pub returns-clause-edit : goal.returns-clause-edit
returns-clause-edit c = edit_then c.args.map.now c.release.new.self c.join_all.new.map c.args.z c.release.ensures.edit c.join_all.ensures.edit

pub returns-clause-runs : goal.returns-clause-runs
returns-clause-runs c = λ front links rest runs chain are.
    let first = first_is c.args.chain links c.args.run rest chain are in
    c.join_all.ensures.runs front first.tail
    (relabelled c.args.map.now c.release.new.self c.args.z c.args.chain c.args.run c.release.ensures.runs front links rest runs first ∙ ap (λ (r : Run). front ++ r ∷ first.tail) (sym c.unwrap_or.ensures))
    ∙ ap₂ (λ (r : Run) (rs : List Run). front ++ r ∷ rs) (rw c.unwrap_or.ensures first.joined_is) first.behind_is

pub returns-clause-value : goal.returns-clause-value
returns-clause-value c = λ front links rest runs chain are.
    let first = first_is c.args.chain links c.args.run rest chain are in
    c.join_all.ensures.value front first.tail
    (relabelled c.args.map.now c.release.new.self c.args.z c.args.chain c.args.run c.release.ensures.runs front links rest runs first ∙ ap (λ (r : Run). front ++ r ∷ first.tail) (sym c.unwrap_or.ensures))
    ∙ rw c.unwrap_or.ensures first.joined_is
