use Rattle.std.proofs.Common.{◌≡◌, ◌++◌, ◌∷◌, [], List, Bool, true, cond, not, arith, ap, ap₂, sym, ◌∙◌, append_assoc}
use Rattle.std.specs.Result.{is_ok}
use Rattle.fc_newmap.specs.Map.{ZoneRun, hole_runs}
use Rattle.fc_newmap.specs.Walk.{holes_in}
use Rattle.fc_plan.specs.Supply.{holes_ahead}
use Rattle.fc_plan.proofs.MetHoles.{ahead_of}
use Rattle.fc_plan.proofs.holes.Holes.meet_next.Goals as goal
use Rattle.fc_plan.proofs.holes.Holes.meet_next.Goals.{In-Some}

-- the holes that are left after the one that is met
step : (c : In-Some) → holes_ahead c.args.map.now c.args.self.now ≡ c.in-Some.hole ∷ holes_in (c.in-Some.ensures.value c.requires.left c.requires.stands).0
step c = sym c.requires.ahead ∙ (c.in-Some.ensures.value c.requires.left c.requires.stands).1.0

pub returns-clause-walked : goal.returns-clause-walked
returns-clause-walked c =
    let next = c.in-Some.ensures.value c.requires.left c.requires.stands in
    let on = c.in-Some.ensures.onward in
    let few = c.requires.few in
    record {
      left = next.0;
      stands = next.1.1;
      ahead = sym (ahead_of (hole_runs c.args.map.now) c.args.self.now.count c.in-Some.hole (holes_in next.0) (step (goal.at.returns-clause-walked c).In-Some));
      few = omega arith;
    }

pub returns-clause-same : goal.returns-clause-same
returns-clause-same c =
    let met : List ZoneRun = c.args.self.now.met.items in
    let next = (c.in-Some.ensures.value c.requires.left c.requires.stands).0 in
    let behind = step (goal.at.returns-clause-same c).In-Some in
    let pushed : is_ok c.push.result ≡ true = c.is_err.ensures.negation ∙ ap not c.if-is_err.false in
    ap₂ (λ (xs ys : List ZoneRun). xs ++ ys) (c.push.ensures.items ∙ ap (λ (b : Bool). cond b (met ++ c.in-Some.hole ∷ []) met) pushed) (ahead_of (hole_runs c.args.map.now) c.args.self.now.count c.in-Some.hole (holes_in next) behind)
    ∙ append_assoc met (c.in-Some.hole ∷ []) (holes_in next) ∙ ap (λ (hs : List ZoneRun). met ++ hs) (sym behind)
