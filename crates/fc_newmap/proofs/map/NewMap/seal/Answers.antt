use Rattle.std.proofs.Common.{subst, refl, ap, ◌∙◌}
use Rattle.fc_zone.specs.Edits.{sealed}
use Rattle.fc_newmap.specs.Map.{runs_of, shape, with_zone}
use Rattle.fc_newmap.specs.Edits.{KeepsRuns}
use Rattle.fc_newmap.specs.NewMap.{map_in}
use Rattle.fc_newmap.specs.Tally.{IsTallyOf}
use Rattle.fc_newmap.proofs.EditLemmas.{Writes, lent, new_items, same_runs, written_in}
use Rattle.fc_newmap.proofs.TallyLemmas.{same_tally}
use Rattle.fc_newmap.proofs.map.NewMap.seal.Goals as goal
use Rattle.fc_newmap.proofs.map.NewMap.seal.Goals.{After-seal}

made : (c : After-seal) → Writes c.self.inside.geometry c.self.inside.zones c.args.self.now c.deref_mut.result.now c.seal.new.b c.place_of-from.result c.args.z
made c = written_in c.self.inside.geometry c.self.inside.zones c.args.self.now c.deref_mut.result.now c.seal.new.b c.place_of-from.result c.args.z c.self.invariant.held c.self.view_is c.requires c.place_of-from.ensures c.deref_mut.ensures.value c.seal.auto.b

pub seal-requires : goal.seal-requires
seal-requires c =
    let w = written_in c.self.inside.geometry c.self.inside.zones c.args.self.now c.deref_mut.result.now (lent c.self.inside.geometry c.place_of-from.result c.deref_mut.result.now) c.place_of-from.result c.args.z c.self.invariant.held c.self.view_is c.requires c.place_of-from.ensures c.deref_mut.ensures.value refl in
    w.fits.size

runs_kept : (c : After-seal) → KeepsRuns c.args.self.now (map_in c.self.inside.geometry (new_items c.self.inside.geometry c.self.inside.zones c.deref_mut.result.now c.seal.new.b c.place_of-from.result))
runs_kept c =
    let w = made c in
    same_runs c.self.inside.geometry c.args.self.now c.args.z (lent c.self.inside.geometry c.place_of-from.result c.deref_mut.result.now) c.seal.new.b
    (new_items c.self.inside.geometry c.self.inside.zones c.deref_mut.result.now c.seal.new.b c.place_of-from.result) w
    (c.seal.ensures.zone (shape c.self.inside.geometry c.args.z) (runs_of c.args.self.now c.args.z) w.low_first w.zone)

pub invariant_of-self : goal.invariant_of-self
invariant_of-self c =
    let w = made (goal.at.invariant_of-self c).After-seal in
    let before = (goal.at.invariant_of-self c).After-seal in
    record {
      held = w.held (runs_of c.args.self.now c.args.z, c.seal.ensures.zone (shape c.self.inside.geometry c.args.z) (runs_of c.args.self.now c.args.z) w.low_first w.zone);
      tally = same_tally c.args.self.now _ c.self.inside.tally (runs_kept before) (subst (IsTallyOf c.self.inside.tally) c.self.view_is c.self.invariant.tally);
    }

pub returns-clause-map : goal.returns-clause-map
returns-clause-map c =
    let w = made (goal.at.returns-clause-map c).After-seal in
    w.map ∙ ap (with_zone c.args.self.now c.args.z) (c.seal.ensures.sector ∙ ap sealed w.old_is)

pub returns-clause-runs : goal.returns-clause-runs
returns-clause-runs c = runs_kept (goal.at.returns-clause-runs c).After-seal
