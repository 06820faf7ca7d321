use Rattle.std.proofs.Common.{◌++◌, ◌∷◌, [], List, inl, inr, append_assoc, append-nil, refl, sym, ap, subst, ◌∙◌, arith}
use Rattle.std.specs.Prelude.{Contains}
use Rattle.fc_newmap.specs.Map.{ZoneRun, runs_of}
use Rattle.fc_newmap.specs.RunsLaw.{placed}
use Rattle.fc_newmap.specs.Walk.{holes_in}
use Rattle.std.proofs.lemmas.List.Elements.{Contains-append_right, Contains-push_cases}
use Rattle.fc_compact.proofs.longest.hole_in.Goals as goal

pub loop-zone-init : goal.loop-zone-init
loop-zone-init c = record { done = []; left = placed c.args.z (runs_of c.args.map.now c.args.z); stands = c.walk_in-walk.ensures; cut = refl; none = λ p there e. absurd (let l = there.1 in omega arith) }

pub returns-then-hole-from-clause-found : goal.returns-then-hole-from-clause-found
returns-then-hole-from-clause-found c =
    let was = c.loop-zone.invariant in
    let p : ZoneRun = (c.in-Some.zone, c.in-Some.hole) in
    let r = c.in-Some.ensures.value was.left was.stands in
    (subst (λ (ps : List ZoneRun). Contains ps p) (sym (was.cut ∙ ap (λ (ps : List ZoneRun). was.done ++ ps) r.1.0)) (Contains-append_right was.done (p ∷ holes_in r.0) p (0, omega arith, refl)), c.if-hole-from.true ∙ c.from.ensures)

pub loop-zone-preserved : goal.loop-zone-preserved
loop-zone-preserved c =
    let was = c.loop-zone.invariant in
    let p : ZoneRun = (c.in-Some.zone, c.in-Some.hole) in
    let r = c.in-Some.ensures.value was.left was.stands in
    record {
      done = was.done ++ p ∷ [];
      left = r.0;
      stands = r.1.1;
      cut = was.cut ∙ ap (λ (ps : List ZoneRun). was.done ++ ps) r.1.0 ∙ sym (append_assoc was.done (p ∷ []) (holes_in r.0));
      none = λ q there e. elim (Contains-push_cases was.done p q there) [
        | inl before ↦ was.none q before e
        | inr same ↦ c.if-hole-from.false (ap (λ (s : ZoneRun). s.1.len) same ∙ e ∙ sym c.from.ensures)
      ];
    }

pub returns-clause-none : goal.returns-clause-none
returns-clause-none c =
    let was = c.loop-zone.invariant in
    let r = c.in_default.ensures.value was.left was.stands in
    λ p there e. was.none p (subst (λ (ps : List ZoneRun). Contains ps p) (was.cut ∙ ap (λ (ps : List ZoneRun). was.done ++ ps) r.0 ∙ append-nil was.done) there) e
