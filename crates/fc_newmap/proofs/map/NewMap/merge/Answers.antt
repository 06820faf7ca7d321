use Rattle.std.proofs.Common.{subst, sym, refl}
use Rattle.fc_zone.specs.declared.ZoneShape.{ZoneShape}
use Rattle.fc_zone.specs.Edits.{HasRunsToMerge}
use Rattle.fc_zone.specs.Zone.{IsShapeOf}
use Rattle.fc_newmap.specs.Edits.{IsEdit, MergesIn}
use Rattle.fc_newmap.specs.Map.{Map}
use Rattle.fc_newmap.specs.NewMap.{map_in}
use Rattle.fc_newmap.specs.Tally.{IsTallyOf}
use Rattle.fc_newmap.proofs.EditLemmas.{Writes, edit_of, held_by, lent, links_of, lowered, merged_zone, merges, new_items, written_in}
use Rattle.fc_newmap.proofs.TallyLemmas.{merge_tally}
use Rattle.fc_newmap.proofs.map.NewMap.merge.Goals as goal
use Rattle.fc_newmap.proofs.map.NewMap.merge.Goals.{After-deref_mut, After-merge}

before : (c : After-deref_mut) → Writes c.self.inside.geometry c.self.inside.zones c.args.self.now c.deref_mut.result.now (lent c.self.inside.geometry c.place_of-from.result c.deref_mut.result.now) c.place_of-from.result c.args.z
before c = written_in c.self.inside.geometry c.self.inside.zones c.args.self.now c.deref_mut.result.now (lent c.self.inside.geometry c.place_of-from.result c.deref_mut.result.now) c.place_of-from.result c.args.z c.self.invariant.held c.self.view_is c.requires.zone c.place_of-from.ensures c.deref_mut.ensures.value refl

after : (c : After-merge) → Writes c.self.inside.geometry c.self.inside.zones c.args.self.now c.deref_mut.result.now c.merge.new.b c.place_of-from.result c.args.z
after c = written_in c.self.inside.geometry c.self.inside.zones c.args.self.now c.deref_mut.result.now c.merge.new.b c.place_of-from.result c.args.z c.self.invariant.held c.self.view_is c.requires.zone c.place_of-from.ensures c.deref_mut.ensures.value c.merge.auto.b

pub merge-requires-clause-shape : goal.merge-requires-clause-shape
merge-requires-clause-shape c =
    let w = before (goal.at.merge-requires-clause-shape c).After-deref_mut in
    subst (λ (k : ZoneShape). IsShapeOf (lent c.self.inside.geometry c.place_of-from.result c.deref_mut.result.now) k) (sym c.shape_of-shape.ensures.value) w.fits

pub merge-requires-clause-runs : goal.merge-requires-clause-runs
merge-requires-clause-runs c =
    let w = before (goal.at.merge-requires-clause-runs c).After-deref_mut in
    lowered c.self.inside.geometry c.args.self.now c.args.z (lent c.self.inside.geometry c.place_of-from.result c.deref_mut.result.now) (lent c.self.inside.geometry c.place_of-from.result c.deref_mut.result.now) (new_items c.self.inside.geometry c.self.inside.zones c.deref_mut.result.now (lent c.self.inside.geometry c.place_of-from.result c.deref_mut.result.now) c.place_of-from.result) c.shape_of-shape.result w c.shape_of-shape.ensures.value (λ k t. HasRunsToMerge k t c.args.start) c.requires.runs

-- the map after the edit
abbrev edited : After-merge → Map
edited c = map_in c.self.inside.geometry (new_items c.self.inside.geometry c.self.inside.zones c.deref_mut.result.now c.merge.new.b c.place_of-from.result)

is_edit : (c : After-merge) → IsEdit c.args.self.now (edited c) c.args.z
is_edit c =
    let w = after c in
    let req = lowered c.self.inside.geometry c.args.self.now c.args.z (lent c.self.inside.geometry c.place_of-from.result c.deref_mut.result.now) c.merge.new.b (new_items c.self.inside.geometry c.self.inside.zones c.deref_mut.result.now c.merge.new.b c.place_of-from.result) c.shape_of-shape.result w c.shape_of-shape.ensures.value (λ k t. HasRunsToMerge k t c.args.start) c.requires.runs in
    edit_of c.self.inside.geometry c.args.self.now c.args.z (lent c.self.inside.geometry c.place_of-from.result c.deref_mut.result.now) c.merge.new.b (new_items c.self.inside.geometry c.self.inside.zones c.deref_mut.result.now c.merge.new.b c.place_of-from.result) c.shape_of-shape.result w c.shape_of-shape.ensures.value (merged_zone c.shape_of-shape.result (lent c.self.inside.geometry c.place_of-from.result c.deref_mut.result.now) c.merge.new.b c.args.start req c.merge.ensures.runs) c.merge.ensures.links c.merge.ensures.outside c.merge.ensures.bytes

has_runs : (c : After-merge) → MergesIn c.args.self.now (edited c) c.args.z c.args.start
has_runs c =
    let w = after c in
    merges c.self.inside.geometry c.args.self.now c.args.z (lent c.self.inside.geometry c.place_of-from.result c.deref_mut.result.now) c.merge.new.b (new_items c.self.inside.geometry c.self.inside.zones c.deref_mut.result.now c.merge.new.b c.place_of-from.result) c.shape_of-shape.result w c.shape_of-shape.ensures.value c.args.start c.merge.ensures.runs

tally_was : (c : After-merge) → IsTallyOf c.self.inside.tally c.args.self.now
tally_was c = subst (IsTallyOf c.self.inside.tally) c.self.view_is c.self.invariant.tally

pub invariant_of-self : goal.invariant_of-self
invariant_of-self c =
    let w = after (goal.at.invariant_of-self c).After-merge in
    let req = lowered c.self.inside.geometry c.args.self.now c.args.z (lent c.self.inside.geometry c.place_of-from.result c.deref_mut.result.now) c.merge.new.b (new_items c.self.inside.geometry c.self.inside.zones c.deref_mut.result.now c.merge.new.b c.place_of-from.result) c.shape_of-shape.result w c.shape_of-shape.ensures.value (λ k t. HasRunsToMerge k t c.args.start) c.requires.runs in
    let before = (goal.at.invariant_of-self c).After-merge in
    record {
      held = held_by c.self.inside.geometry c.args.self.now c.args.z (lent c.self.inside.geometry c.place_of-from.result c.deref_mut.result.now) c.merge.new.b (new_items c.self.inside.geometry c.self.inside.zones c.deref_mut.result.now c.merge.new.b c.place_of-from.result) c.shape_of-shape.result w c.shape_of-shape.ensures.value (merged_zone c.shape_of-shape.result (lent c.self.inside.geometry c.place_of-from.result c.deref_mut.result.now) c.merge.new.b c.args.start req c.merge.ensures.runs);
      tally = merge_tally c.args.self.now (edited before) c.args.z c.args.start (is_edit before) c.requires.zone c.self.inside.tally c.requires.runs (has_runs before) (tally_was before);
    }

pub returns-clause-runs : goal.returns-clause-runs
returns-clause-runs c = has_runs (goal.at.returns-clause-runs c).After-merge

pub returns-clause-links : goal.returns-clause-links
returns-clause-links c =
    let w = after (goal.at.returns-clause-links c).After-merge in
    links_of c.self.inside.geometry c.args.self.now c.args.z (lent c.self.inside.geometry c.place_of-from.result c.deref_mut.result.now) c.merge.new.b (new_items c.self.inside.geometry c.self.inside.zones c.deref_mut.result.now c.merge.new.b c.place_of-from.result) c.shape_of-shape.result w c.shape_of-shape.ensures.value c.merge.ensures.links

pub returns-clause-edit : goal.returns-clause-edit
returns-clause-edit c = is_edit (goal.at.returns-clause-edit c).After-merge
