use Rattle.std.proofs.Common.{◌≡◌, ◌++◌, ◌∷◌, [], List, map, append_assoc, append-nil, refl, ap, sym, ◌∙◌}
use Rattle.fc_zone.specs.declared.Run.{Run}
use Rattle.fc_zone.specs.Cursor.{StandsBetween}
use Rattle.fc_newmap.specs.Map.{runs_of, sector_of}
use Rattle.fc_newmap.proofs.ComposeLemmas.{edit_none, edit_then}
use Rattle.fc_compact.specs.Joins.{freed}
use Rattle.fc_compact.proofs.ReleaseLemmas.{freed_more}
use Rattle.fc_compact.proofs.ShiftLemmas.{low_then}
use Rattle.fc_compact.proofs.ZonePassLemmas.{begun, read_as, shape_stays, stands_on}
use Rattle.fc_compact.proofs.release.release_in.Goals as goal
use Rattle.fc_compact.proofs.release.release_in.Goals.{In-Some}

pub loop-run-init : goal.loop-run-init
loop-run-init c =
    let m = c.args.map.now in
    let z = c.args.z in
    let walk = c.from_zone-walk.result in
    let start = begun m z walk c.from_zone-walk.ensures.stands c.from_zone-walk.ensures.zone c.from_zone-walk.ensures.more in
    record {
      done = [];
      left = runs_of m z;
      cut = refl;
      runs = refl;
      edit = edit_none m z c.from_zone-walk.ensures.map;
      shape = start.shape_is;
      passed = start.done;
      stands = start.stands;
    }

-- the rest of the runs, of which one comes next
record IsOnward (c : In-Some) : Type 0 where
  pub rest : List Run
  pub left : c.loop-run.invariant.left ≡ c.in-Some.run' ∷ rest
  pub stands : StandsBetween c.from_zone-walk.result.shape (sector_of c.loop-run.map c.args.z) (c.loop-run.invariant.passed ++ c.in-Some.run' ∷ []) rest c.next.new.self

onward : (c : In-Some) → IsOnward c
onward c =
    let was = c.loop-run.invariant in
    let k = c.from_zone-walk.result.shape in
    let sector = sector_of c.loop-run.map c.args.z in
    let step = c.in-Some.ensures.value was.passed was.left (read_as k sector c.bytes.result.now was.passed was.left c.loop-run.place c.bytes.ensures.value was.stands) in
    record {
      rest = step.0;
      left = step.1.0;
      stands = read_as k c.bytes.result.now sector (was.passed ++ c.in-Some.run' ∷ []) step.0 c.next.new.self (sym c.bytes.ensures.value) step.1.1;
    }

pub next-requires-clause-shape : goal.next-requires-clause-shape
next-requires-clause-shape c =
    let was = c.loop-run.invariant in
    shape_stays c.args.map.now c.loop-run.map c.args.z c.from_zone-walk.result.shape c.bytes.result.now was.edit.map was.edit.geometry c.requires.zone was.shape c.bytes.ensures.value

pub release_run-requires-clause-zone : goal.release_run-requires-clause-zone
release_run-requires-clause-zone c = low_then c.args.map.now c.loop-run.map c.args.z c.args.z c.loop-run.invariant.edit c.requires.zone

pub release_run-requires-clause-run : goal.release_run-requires-clause-run
release_run-requires-clause-run c =
    let was = c.loop-run.invariant in
    let o = onward (goal.at.release_run-requires-clause-run c).In-Some in
    let done = map (freed c.args.id) was.done in
    (done, o.rest, was.runs ∙ ap (λ (rs : List Run). done ++ rs) o.left)

pub loop-run-preserved : goal.loop-run-preserved
loop-run-preserved c =
    let was = c.loop-run.invariant in
    let o = onward (goal.at.loop-run-preserved c).In-Some in
    let m = c.args.map.now in
    let z = c.args.z in
    let k = c.from_zone-walk.result.shape in
    let n = c.release_run.new.map in
    let run = c.in-Some.run' in
    let freed_here = map (freed c.args.id) was.done in
    let done : List Run = was.done ++ run ∷ [] in
    let after = c.release_run.ensures.runs freed_here o.rest (was.runs ∙ ap (λ (rs : List Run). freed_here ++ rs) o.left) ∙ sym (freed_more c.args.id was.done o.rest run) in
    let edit = edit_then m c.loop-run.map n z was.edit c.release_run.ensures.edit in
    record {
      done = done;
      left = o.rest;
      cut = was.cut ∙ ap (λ (rs : List Run). was.done ++ rs) o.left ∙ sym (append_assoc was.done (run ∷ []) o.rest);
      runs = after;
      edit = edit;
      shape = was.shape;
      passed = map (freed c.args.id) done;
      stands = stands_on m n z k (sector_of c.loop-run.map z) (was.passed ++ run ∷ []) (map (freed c.args.id) done) o.rest c.next.new.self edit.map edit.geometry c.requires.zone was.shape o.stands after;
    }

pub returns-clause-runs : goal.returns-clause-runs
returns-clause-runs c =
    let was = c.loop-run.invariant in
    let k = c.from_zone-walk.result.shape in
    let none = (c.in_default.ensures.value was.passed was.left (read_as k (sector_of c.loop-run.map c.args.z) c.bytes.result.now was.passed was.left c.loop-run.place c.bytes.ensures.value was.stands)).0 in
    was.runs ∙ ap (λ (rs : List Run). map (freed c.args.id) was.done ++ rs) none ∙ append-nil (map (freed c.args.id) was.done)
    ∙ sym (ap (map (freed c.args.id)) (was.cut ∙ ap (λ (rs : List Run). was.done ++ rs) none ∙ append-nil was.done))
