use Rattle.std.proofs.Common.{subst, List, ℕ, arith, refl, ap, ◌∙◌, slice_set}
use Rattle.fc_newmap.specs.Map.{runs_of, shape, with_zone}
use Rattle.fc_newmap.specs.Edits.{KeepsRuns}
use Rattle.fc_newmap.specs.NewMap.{map_in}
use Rattle.fc_newmap.specs.Tally.{IsTallyOf}
use Rattle.fc_newmap.proofs.EditLemmas.{Writes, lent, new_items, same_runs, sector_long, written_in}
use Rattle.fc_newmap.proofs.SameLemmas.{cross_kept}
use Rattle.fc_newmap.proofs.TallyLemmas.{same_tally}
use Rattle.fc_newmap.proofs.map.NewMap.set_cross.Goals as goal
use Rattle.fc_newmap.proofs.map.NewMap.set_cross.Goals.{After-put_cross}

made : (c : After-put_cross) → Writes c.self.inside.geometry c.self.inside.zones c.args.self.now c.deref_mut.result.now c.put_cross.new.b c.place_of-from.result c.args.z
made c = written_in c.self.inside.geometry c.self.inside.zones c.args.self.now c.deref_mut.result.now c.put_cross.new.b c.place_of-from.result c.args.z c.self.invariant.held c.self.view_is c.requires c.place_of-from.ensures c.deref_mut.ensures.value c.put_cross.auto.b

pub put_cross-requires : goal.put_cross-requires
put_cross-requires c =
    let w = written_in c.self.inside.geometry c.self.inside.zones c.args.self.now c.deref_mut.result.now (lent c.self.inside.geometry c.place_of-from.result c.deref_mut.result.now) c.place_of-from.result c.args.z c.self.invariant.held c.self.view_is c.requires c.place_of-from.ensures c.deref_mut.ensures.value refl in
    sector_long (lent c.self.inside.geometry c.place_of-from.result c.deref_mut.result.now) (shape c.self.inside.geometry c.args.z) 3 w.fits (omega arith)

runs_kept : (c : After-put_cross) → KeepsRuns c.args.self.now (map_in c.self.inside.geometry (new_items c.self.inside.geometry c.self.inside.zones c.deref_mut.result.now c.put_cross.new.b c.place_of-from.result))
runs_kept c =
    let w = made c in
    let old = lent c.self.inside.geometry c.place_of-from.result c.deref_mut.result.now in
    same_runs c.self.inside.geometry c.args.self.now c.args.z old c.put_cross.new.b
    (new_items c.self.inside.geometry c.self.inside.zones c.deref_mut.result.now c.put_cross.new.b c.place_of-from.result) w
    (cross_kept (shape c.self.inside.geometry c.args.z) old c.put_cross.new.b c.args.v (runs_of c.args.self.now c.args.z) c.put_cross.ensures w.fits.header w.zone)

pub invariant_of-self : goal.invariant_of-self
invariant_of-self c =
    let w = made (goal.at.invariant_of-self c).After-put_cross in
    let shape = shape c.self.inside.geometry c.args.z in
    let runs = runs_of c.args.self.now c.args.z in
    let before = (goal.at.invariant_of-self c).After-put_cross in
    record {
      held = w.held (runs, cross_kept shape (lent c.self.inside.geometry c.place_of-from.result c.deref_mut.result.now) c.put_cross.new.b c.args.v runs c.put_cross.ensures w.fits.header w.zone);
      tally = same_tally c.args.self.now _ c.self.inside.tally (runs_kept before) (subst (IsTallyOf c.self.inside.tally) c.self.view_is c.self.invariant.tally);
    }

pub returns-clause-map : goal.returns-clause-map
returns-clause-map c =
    let w = made (goal.at.returns-clause-map c).After-put_cross in
    w.map ∙ ap (with_zone c.args.self.now c.args.z) (c.put_cross.ensures ∙ ap (λ (s : List ℕ). slice_set s 3 c.args.v) w.old_is)

pub returns-clause-runs : goal.returns-clause-runs
returns-clause-runs c = runs_kept (goal.at.returns-clause-runs c).After-put_cross
