use Rattle.std.proofs.Common.{subst, length, List, ℕ, arith, refl, ap, ◌∙◌}
use Rattle.fc_newmap.specs.Map.{runs_of, shape, with_root, with_zone}
use Rattle.fc_newmap.specs.Edits.{KeepsRuns}
use Rattle.fc_newmap.specs.NewMap.{map_in}
use Rattle.fc_newmap.specs.Tally.{IsTallyOf}
use Rattle.fc_newmap.proofs.EditLemmas.{Writes, lent, new_items, same_runs, sector_long, written_in}
use Rattle.fc_newmap.proofs.HeldLemmas.{first_fits, some_zone}
use Rattle.fc_newmap.proofs.RootLemmas.{root_kept}
use Rattle.fc_newmap.proofs.TallyLemmas.{same_tally}
use Rattle.fc_newmap.proofs.map.NewMap.set_root.Goals as goal
use Rattle.fc_newmap.proofs.map.NewMap.set_root.Goals.{After-deref_mut, After-put_root}

pub slice_bounds-put_root-end : goal.slice_bounds-put_root-end
slice_bounds-put_root-end c =
    let fits = first_fits c.self.inside.geometry c.self.inside.zones.items c.place_of-from.result c.self.invariant.held c.place_of-from.ensures in
    let long = ap length c.deref_mut.ensures.value in
    omega (arith, fits, long)

before : (c : After-deref_mut) → Writes c.self.inside.geometry c.self.inside.zones c.args.self.now c.deref_mut.result.now (lent c.self.inside.geometry c.place_of-from.result c.deref_mut.result.now) c.place_of-from.result 0
before c = written_in c.self.inside.geometry c.self.inside.zones c.args.self.now c.deref_mut.result.now (lent c.self.inside.geometry c.place_of-from.result c.deref_mut.result.now) c.place_of-from.result 0 c.self.invariant.held c.self.view_is (some_zone c.self.inside.geometry c.self.inside.zones.items c.args.self.now c.self.invariant.held c.self.view_is) c.place_of-from.ensures c.deref_mut.ensures.value refl

after : (c : After-put_root) → Writes c.self.inside.geometry c.self.inside.zones c.args.self.now c.deref_mut.result.now c.put_root.new.b c.place_of-from.result 0
after c = written_in c.self.inside.geometry c.self.inside.zones c.args.self.now c.deref_mut.result.now c.put_root.new.b c.place_of-from.result 0 c.self.invariant.held c.self.view_is (some_zone c.self.inside.geometry c.self.inside.zones.items c.args.self.now c.self.invariant.held c.self.view_is) c.place_of-from.ensures c.deref_mut.ensures.value c.put_root.auto.b

pub put_root-requires : goal.put_root-requires
put_root-requires c =
    let w = before (goal.at.put_root-requires c).After-deref_mut in
    sector_long (lent c.self.inside.geometry c.place_of-from.result c.deref_mut.result.now) (shape c.self.inside.geometry 0) 55 w.fits (omega arith)

runs_kept : (c : After-put_root) → KeepsRuns c.args.self.now (map_in c.self.inside.geometry (new_items c.self.inside.geometry c.self.inside.zones c.deref_mut.result.now c.put_root.new.b c.place_of-from.result))
runs_kept c =
    let w = after c in
    let old = lent c.self.inside.geometry c.place_of-from.result c.deref_mut.result.now in
    same_runs c.self.inside.geometry c.args.self.now 0 old c.put_root.new.b
    (new_items c.self.inside.geometry c.self.inside.zones c.deref_mut.result.now c.put_root.new.b c.place_of-from.result) w
    (root_kept (shape c.self.inside.geometry 0) old c.put_root.new.b c.args.root c.args.size (runs_of c.args.self.now 0)
    (sector_long old (shape c.self.inside.geometry 0) 55 w.fits (omega arith)) c.put_root.ensures (omega arith) w.zone)

pub invariant_of-self : goal.invariant_of-self
invariant_of-self c =
    let w = after (goal.at.invariant_of-self c).After-put_root in
    let old = lent c.self.inside.geometry c.place_of-from.result c.deref_mut.result.now in
    let before = (goal.at.invariant_of-self c).After-put_root in
    record {
      held = w.held (
        runs_of c.args.self.now 0,
        root_kept (shape c.self.inside.geometry 0) old c.put_root.new.b c.args.root c.args.size (runs_of c.args.self.now 0)
            (sector_long old (shape c.self.inside.geometry 0) 55 w.fits (omega arith)) c.put_root.ensures (omega arith) w.zone,
      );
      tally = same_tally c.args.self.now _ c.self.inside.tally (runs_kept before) (subst (IsTallyOf c.self.inside.tally) c.self.view_is c.self.invariant.tally);
    }

pub returns-clause-map : goal.returns-clause-map
returns-clause-map c =
    let w = after (goal.at.returns-clause-map c).After-put_root in
    w.map ∙ ap (with_zone c.args.self.now 0) (c.put_root.ensures ∙ ap (λ (s : List ℕ). with_root s c.args.root c.args.size) w.old_is)

pub returns-clause-runs : goal.returns-clause-runs
returns-clause-runs c = runs_kept (goal.at.returns-clause-runs c).After-put_root
