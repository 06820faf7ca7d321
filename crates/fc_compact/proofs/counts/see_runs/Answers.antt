use Rattle.std.proofs.Common.{◌≡◌, List, [], ◌∷◌, ◌++◌, refl, sym, ap, subst, ◌∙◌, append_assoc, append-nil}
use Rattle.fc_newmap.specs.Map.{ZoneRun, all_runs}
use Rattle.fc_newmap.proofs.HeldLemmas.{geometry_facts}
use Rattle.fc_compact.specs.Candidates.{AreSeen}
use Rattle.fc_compact.proofs.SeenLemmas.{seen_few}
use Rattle.fc_compact.proofs.counts.see_runs.Goals as goal

pub loop-run-preserved : goal.loop-run-preserved
loop-run-preserved c =
    let was = c.loop-run.invariant in
    let p : ZoneRun = (c.in-Some.field-0-0, c.in-Some.run') in
    let r = c.in-Some.ensures.value was.left was.stands in
    record {
      passed = was.passed ++ p ∷ [];
      left = r.0;
      stands = r.1.1;
      cut = was.cut ∙ ap (λ (l : List ZoneRun). was.passed ++ l) r.1.0 ∙ sym (append_assoc was.passed (p ∷ []) r.0);
      size = c.see.ensures.size;
      seen = c.see.ensures.seen was.passed p refl was.seen;
    }

pub returns-clause-few : goal.returns-clause-few
returns-clause-few c =
    let m = c.args.map.now in
    let was = c.loop-run.invariant in
    let r = c.in_default.ensures.value was.left was.stands in
    let all : all_runs m ≡ was.passed = was.cut ∙ ap (λ (l : List ZoneRun). was.passed ++ l) r.0 ∙ append-nil was.passed in
    seen_few m c.loop-run.seen (geometry_facts m.geometry c.over_all-walk.ensures.map.of_record).zones (subst (AreSeen c.loop-run.seen) (sym all) was.seen)
