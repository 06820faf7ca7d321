use Rattle.std.proofs.Common.{◌++◌, ◌∷◌, [], List, append_assoc, append-nil, refl, sym, ap, subst, ◌∙◌}
use Rattle.fc_zone.specs.declared.Run.{Run}
use Rattle.fc_newmap.specs.Map.{ZoneRun, runs_of}
use Rattle.fc_newmap.specs.RunsLaw.{placed}
use Rattle.fc_newmap.specs.Walk.{StandsBefore}
use Rattle.fc_compact.specs.Candidates.{AreFoundIn}
use Rattle.fc_compact.proofs.CandidatesLemmas.{zone_seen}
use Rattle.fc_compact.proofs.ReleaseLemmas.{placed_first, placed_none}
use Rattle.fc_compact.proofs.candidates.Candidates.see_zone.Goals as goal

pub loop-run-init : goal.loop-run-init
loop-run-init c = record { ids = refl; done = []; left = runs_of c.args.map.now c.args.z; cut = refl; stands = c.walk_in-walk.ensures; found = c.requires.found }

pub loop-run-preserved : goal.loop-run-preserved
loop-run-preserved c =
    let was = c.loop-run.invariant in
    let run = c.in-Some.run' in
    let p : ZoneRun = (c.in-Some.field-0-0, run) in
    let r = c.in-Some.ensures.value (placed c.args.z was.left) was.stands in
    let first = placed_first c.args.z was.left p r.0 r.1.0 in
    record {
      ids = c.see.ensures.ids ∙ was.ids;
      done = was.done ++ run ∷ [];
      left = first.0;
      cut = was.cut ∙ ap (λ (rs : List Run). was.done ++ rs) first.1 ∙ sym (append_assoc was.done (run ∷ []) first.0);
      stands = subst (λ (ps : List ZoneRun). StandsBefore c.args.map.now ps c.next.new.self) first.2 r.1.1;
      found = c.see.ensures.found c.args.map.now was.done was.found;
    }

pub returns-clause-found : goal.returns-clause-found
returns-clause-found c =
    let was = c.loop-run.invariant in
    let r = c.in_default.ensures.value (placed c.args.z was.left) was.stands in
    let none = placed_none c.args.z was.left r.0 in
    zone_seen c.args.map.now c.args.z c.loop-run.self
    (subst (λ (done : List Run). AreFoundIn c.args.map.now c.args.z done c.loop-run.self) (sym (was.cut ∙ ap (λ (rs : List Run). was.done ++ rs) none ∙ append-nil was.done)) was.found)
