use Rattle.std.proofs.Common.{◌≤◌, ℕ, List, length, refl, ap, ◌∙◌, arith}
use Rattle.std.specs.List.{zip}
use Rattle.std.proofs.lemmas.List.{take_all}
use Rattle.fc_newmap.specs.Gate.{gate_deltas, gated_by}
use Rattle.fc_newmap.proofs.ComposeLemmas.{same_none, same_then}
use Rattle.fc_newmap.proofs.CopyMapLemmas.{contents_none, contents_then, gated_more, turns_short}
use Rattle.fc_newmap.proofs.copies.committing.gate_zones.Goals as goal

pub loop-i-preserved : goal.loop-i-preserved
loop-i-preserved c = record {
  map = gated_more c.args.map.now c.loop-i.map c.turn.new.map c.args.changed.now c.loop-i.i _ c.delta_of.result c.loop-i-test.true refl c.delta_of.ensures c.loop-i.invariant.map c.turn.ensures.map;
  runs = same_then c.args.map.now c.loop-i.map c.turn.new.map c.loop-i.invariant.runs c.turn.ensures.runs;
  contents = contents_then c.args.map.now c.loop-i.map c.turn.new.map c.loop-i.invariant.contents c.turn.ensures.contents;
}

pub loop-i-init : goal.loop-i-init
loop-i-init c = record { map = refl; runs = same_none c.args.map.now c.is_map.ensures; contents = contents_none c.args.map.now }

pub returns-clause-map : goal.returns-clause-map
returns-clause-map c =
    let turns = zip c.args.changed.now (gate_deltas (length c.args.changed.now)) in
    let all : length turns ≤ c.loop-i.i = omega (arith, turns_short c.args.changed.now, c.loop-i-test.false) in
    c.loop-i.invariant.map ∙ ap (λ (ts : List (ℕ × ℕ)). record c.args.map.now { zones = gated_by ts c.args.map.now.zones }) (take_all c.loop-i.i turns all)
