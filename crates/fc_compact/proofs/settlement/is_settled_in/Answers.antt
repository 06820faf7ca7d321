use Rattle.std.proofs.Common.{◌≡◌, ◌++◌, ◌∷◌, [], List, true, false, append_assoc, refl, ap, sym, subst, ◌∙◌}
use Rattle.fc_record.specs.declared.Geometry.{Geometry}
use Rattle.fc_zone.specs.declared.Run.{Run}
use Rattle.fc_newmap.specs.Map.{ZoneRun, runs_of}
use Rattle.fc_newmap.specs.RunsLaw.{placed}
use Rattle.fc_newmap.specs.Walk.{StandsBefore}
use Rattle.fc_image.specs.effects.Settled.{passes_adjacent}
use Rattle.fc_compact.specs.Compaction.{is_done_by}
use Rattle.fc_compact.proofs.AdjacentLemmas.{adjacent_fails, adjacent_more}
use Rattle.fc_compact.proofs.ReleaseLemmas.{placed_first, placed_none}
use Rattle.fc_compact.proofs.settlement.is_settled_in.Goals as goal

pub returns-in_default : goal.returns-in_default
returns-in_default c =
    let m = c.args.map.now in
    let r = c.in_default.ensures.value (placed c.args.z (runs_of m c.args.z)) c.walk_in-walk.ensures in
    sym (ap (passes_adjacent (is_done_by m.geometry c.args.owners.now)) (placed_none c.args.z (runs_of m c.args.z) r.0))

pub loop-next-init : goal.loop-next-init
loop-next-init c =
    let m = c.args.map.now in
    let z = c.args.z in
    let p : ZoneRun = (c.in-Some.field-0-0, c.in-Some.first) in
    let r = c.in-Some.ensures.value (placed z (runs_of m z)) c.walk_in-walk.ensures in
    let first = placed_first z (runs_of m z) p r.0 r.1.0 in
    record {
      front = [];
      left = first.0;
      cut = first.1;
      stands = subst (λ (ps : List ZoneRun). StandsBefore m ps c.next.new.self) first.2 r.1.1;
      done = refl;
    }

pub returns-then-not-is_done : goal.returns-then-not-is_done
returns-then-not-is_done c =
    let m = c.args.map.now in
    let z = c.args.z in
    let was = c.loop-next.invariant in
    let f = is_done_by m.geometry c.args.owners.now in
    let next = c.in-Some-next.next in
    let p : ZoneRun = (c.in-Some-next.field-0-0, next) in
    let r = c.in-Some-next.ensures.value (placed z was.left) was.stands in
    let ahead = placed_first z was.left p r.0 r.1.0 in
    let not_done : f c.loop-next.run next ≡ false = ap (λ (h : Geometry). is_done_by h c.args.owners.now c.loop-next.run next) (sym c.geometry.ensures.value) ∙ sym c.is_done.ensures ∙ c.if-not-is_done.true in
    sym (ap (passes_adjacent f) (was.cut ∙ ap (λ (rs : List Run). was.front ++ c.loop-next.run ∷ rs) ahead.1) ∙ adjacent_fails f was.front c.loop-next.run next ahead.0 not_done)

pub loop-next-preserved : goal.loop-next-preserved
loop-next-preserved c =
    let m = c.args.map.now in
    let z = c.args.z in
    let was = c.loop-next.invariant in
    let f = is_done_by m.geometry c.args.owners.now in
    let run = c.loop-next.run in
    let next = c.in-Some-next.next in
    let p : ZoneRun = (c.in-Some-next.field-0-0, next) in
    let r = c.in-Some-next.ensures.value (placed z was.left) was.stands in
    let ahead = placed_first z was.left p r.0 r.1.0 in
    let is_done : f run next ≡ true = ap (λ (h : Geometry). is_done_by h c.args.owners.now run next) (sym c.geometry.ensures.value) ∙ sym c.is_done.ensures ∙ c.if-not-is_done.false in
    record {
      front = was.front ++ run ∷ [];
      left = ahead.0;
      cut = was.cut ∙ ap (λ (rs : List Run). was.front ++ run ∷ rs) ahead.1 ∙ sym (append_assoc was.front (run ∷ []) (next ∷ ahead.0));
      stands = subst (λ (ps : List ZoneRun). StandsBefore m ps c.next-in-loop-next.new.self) ahead.2 r.1.1;
      done = adjacent_more f was.front run next was.done is_done;
    }

pub returns : goal.returns
returns c =
    let m = c.args.map.now in
    let was = c.loop-next.invariant in
    let f = is_done_by m.geometry c.args.owners.now in
    let r = c.in_default-next.ensures.value (placed c.args.z was.left) was.stands in
    let none = placed_none c.args.z was.left r.0 in
    sym (ap (passes_adjacent f) (was.cut ∙ ap (λ (rs : List Run). was.front ++ c.loop-next.run ∷ rs) none) ∙ was.done)
