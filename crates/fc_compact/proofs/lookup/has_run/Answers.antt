use Rattle.std.proofs.Common.{◌++◌, ◌∷◌, [], List, append_assoc, append-nil, refl, ap, sym, subst, ◌∙◌}
use Rattle.std.specs.List.{list_any}
use Rattle.fc_zone.specs.declared.Run.{Run}
use Rattle.fc_newmap.specs.Map.{ZoneRun, has_id, runs_of}
use Rattle.fc_newmap.specs.RunsLaw.{placed}
use Rattle.fc_newmap.specs.Walk.{StandsBefore}
use Rattle.fc_compact.proofs.FoundLemmas.{any_there, none_more}
use Rattle.fc_compact.proofs.ReleaseLemmas.{placed_first, placed_none}
use Rattle.fc_compact.proofs.lookup.has_run.Goals as goal

pub loop-run-init : goal.loop-run-init
loop-run-init c = record { done = []; left = runs_of c.args.map.now c.args.z; cut = refl; stands = c.walk_in-walk.ensures; none = refl }

pub returns-then-has_id : goal.returns-then-has_id
returns-then-has_id c =
    let was = c.loop-run.invariant in
    let p : ZoneRun = (c.in-Some.field-0-0, c.in-Some.run') in
    let r = c.in-Some.ensures.value (placed c.args.z was.left) was.stands in
    let first = placed_first c.args.z was.left p r.0 r.1.0 in
    sym (ap (list_any (λ (run : Run). has_id c.args.id run.kind)) (was.cut ∙ ap (λ (rs : List Run). was.done ++ rs) first.1)
    ∙ any_there (λ (run : Run). has_id c.args.id run.kind) was.done first.0 c.in-Some.run' (sym c.has_id.ensures ∙ c.if-has_id.true))

pub loop-run-preserved : goal.loop-run-preserved
loop-run-preserved c =
    let was = c.loop-run.invariant in
    let run = c.in-Some.run' in
    let p : ZoneRun = (c.in-Some.field-0-0, run) in
    let r = c.in-Some.ensures.value (placed c.args.z was.left) was.stands in
    let first = placed_first c.args.z was.left p r.0 r.1.0 in
    record {
      done = was.done ++ run ∷ [];
      left = first.0;
      cut = was.cut ∙ ap (λ (rs : List Run). was.done ++ rs) first.1 ∙ sym (append_assoc was.done (run ∷ []) first.0);
      stands = subst (λ (ps : List ZoneRun). StandsBefore c.args.map.now ps c.next.new.self) first.2 r.1.1;
      none = none_more (λ (r : Run). has_id c.args.id r.kind) was.done run was.none (sym c.has_id.ensures ∙ c.if-has_id.false);
    }

pub returns : goal.returns
returns c =
    let was = c.loop-run.invariant in
    let r = c.in_default.ensures.value (placed c.args.z was.left) was.stands in
    let none = placed_none c.args.z was.left r.0 in
    sym (ap (list_any (λ (run : Run). has_id c.args.id run.kind)) (was.cut ∙ ap (λ (rs : List Run). was.done ++ rs) none ∙ append-nil was.done) ∙ was.none)
