use Rattle.std.proofs.Common.{subst, sym, refl}
use Rattle.fc_zone.specs.declared.ZoneShape.{ZoneShape}
use Rattle.fc_zone.specs.Edits.{HasRunToSplit}
use Rattle.fc_zone.specs.Zone.{IsShapeOf}
use Rattle.fc_newmap.specs.Edits.{IsEdit, SplitsIn}
use Rattle.fc_newmap.specs.Map.{Map}
use Rattle.fc_newmap.specs.NewMap.{map_in}
use Rattle.fc_newmap.specs.Tally.{IsTallyOf}
use Rattle.fc_newmap.proofs.EditLemmas.{Writes, edit_of, held_by, lent, links_of, lowered, new_items, split_zone, splits, written_in}
use Rattle.fc_newmap.proofs.TallyLemmas.{split_tally}
use Rattle.fc_newmap.proofs.map.NewMap.split.Goals as goal
use Rattle.fc_newmap.proofs.map.NewMap.split.Goals.{After-deref_mut, After-split}

before : (c : After-deref_mut) → Writes c.self.inside.geometry c.self.inside.zones c.args.self.now c.deref_mut.result.now (lent c.self.inside.geometry c.place_of-from.result c.deref_mut.result.now) c.place_of-from.result c.args.z
before c = written_in c.self.inside.geometry c.self.inside.zones c.args.self.now c.deref_mut.result.now (lent c.self.inside.geometry c.place_of-from.result c.deref_mut.result.now) c.place_of-from.result c.args.z c.self.invariant.held c.self.view_is c.requires.zone c.place_of-from.ensures c.deref_mut.ensures.value refl

after : (c : After-split) → Writes c.self.inside.geometry c.self.inside.zones c.args.self.now c.deref_mut.result.now c.split.new.b c.place_of-from.result c.args.z
after c = written_in c.self.inside.geometry c.self.inside.zones c.args.self.now c.deref_mut.result.now c.split.new.b c.place_of-from.result c.args.z c.self.invariant.held c.self.view_is c.requires.zone c.place_of-from.ensures c.deref_mut.ensures.value c.split.auto.b

pub split-requires-clause-shape : goal.split-requires-clause-shape
split-requires-clause-shape c =
    let w = before (goal.at.split-requires-clause-shape c).After-deref_mut in
    subst (λ (k : ZoneShape). IsShapeOf (lent c.self.inside.geometry c.place_of-from.result c.deref_mut.result.now) k) (sym c.shape_of-shape.ensures.value) w.fits

pub split-requires-clause-run : goal.split-requires-clause-run
split-requires-clause-run c =
    let w = before (goal.at.split-requires-clause-run c).After-deref_mut in
    lowered c.self.inside.geometry c.args.self.now c.args.z (lent c.self.inside.geometry c.place_of-from.result c.deref_mut.result.now) (lent c.self.inside.geometry c.place_of-from.result c.deref_mut.result.now) (new_items c.self.inside.geometry c.self.inside.zones c.deref_mut.result.now (lent c.self.inside.geometry c.place_of-from.result c.deref_mut.result.now) c.place_of-from.result) c.shape_of-shape.result w c.shape_of-shape.ensures.value (λ k t. HasRunToSplit k t c.args.start c.args.len) c.requires.run

-- the map after the edit
abbrev edited : After-split → Map
edited c = map_in c.self.inside.geometry (new_items c.self.inside.geometry c.self.inside.zones c.deref_mut.result.now c.split.new.b c.place_of-from.result)

is_edit : (c : After-split) → IsEdit c.args.self.now (edited c) c.args.z
is_edit c =
    let w = after c in
    let req = lowered c.self.inside.geometry c.args.self.now c.args.z (lent c.self.inside.geometry c.place_of-from.result c.deref_mut.result.now) c.split.new.b (new_items c.self.inside.geometry c.self.inside.zones c.deref_mut.result.now c.split.new.b c.place_of-from.result) c.shape_of-shape.result w c.shape_of-shape.ensures.value (λ k t. HasRunToSplit k t c.args.start c.args.len) c.requires.run in
    edit_of c.self.inside.geometry c.args.self.now c.args.z (lent c.self.inside.geometry c.place_of-from.result c.deref_mut.result.now) c.split.new.b (new_items c.self.inside.geometry c.self.inside.zones c.deref_mut.result.now c.split.new.b c.place_of-from.result) c.shape_of-shape.result w c.shape_of-shape.ensures.value (split_zone c.shape_of-shape.result (lent c.self.inside.geometry c.place_of-from.result c.deref_mut.result.now) c.split.new.b c.args.start c.args.len req c.split.ensures.runs) c.split.ensures.links c.split.ensures.outside c.split.ensures.bytes

has_runs : (c : After-split) → SplitsIn c.args.self.now (edited c) c.args.z c.args.start c.args.len
has_runs c =
    let w = after c in
    splits c.self.inside.geometry c.args.self.now c.args.z (lent c.self.inside.geometry c.place_of-from.result c.deref_mut.result.now) c.split.new.b (new_items c.self.inside.geometry c.self.inside.zones c.deref_mut.result.now c.split.new.b c.place_of-from.result) c.shape_of-shape.result w c.shape_of-shape.ensures.value c.args.start c.args.len c.split.ensures.runs

tally_was : (c : After-split) → IsTallyOf c.self.inside.tally c.args.self.now
tally_was c = subst (IsTallyOf c.self.inside.tally) c.self.view_is c.self.invariant.tally

pub invariant_of-self : goal.invariant_of-self
invariant_of-self c =
    let w = after (goal.at.invariant_of-self c).After-split in
    let req = lowered c.self.inside.geometry c.args.self.now c.args.z (lent c.self.inside.geometry c.place_of-from.result c.deref_mut.result.now) c.split.new.b (new_items c.self.inside.geometry c.self.inside.zones c.deref_mut.result.now c.split.new.b c.place_of-from.result) c.shape_of-shape.result w c.shape_of-shape.ensures.value (λ k t. HasRunToSplit k t c.args.start c.args.len) c.requires.run in
    let before = (goal.at.invariant_of-self c).After-split in
    record {
      held = held_by c.self.inside.geometry c.args.self.now c.args.z (lent c.self.inside.geometry c.place_of-from.result c.deref_mut.result.now) c.split.new.b (new_items c.self.inside.geometry c.self.inside.zones c.deref_mut.result.now c.split.new.b c.place_of-from.result) c.shape_of-shape.result w c.shape_of-shape.ensures.value (split_zone c.shape_of-shape.result (lent c.self.inside.geometry c.place_of-from.result c.deref_mut.result.now) c.split.new.b c.args.start c.args.len req c.split.ensures.runs);
      tally = split_tally c.args.self.now (edited before) c.args.z c.args.start (is_edit before) c.requires.zone c.args.len c.self.inside.tally c.requires.run (has_runs before) (tally_was before);
    }

pub returns-clause-runs : goal.returns-clause-runs
returns-clause-runs c = has_runs (goal.at.returns-clause-runs c).After-split

pub returns-clause-links : goal.returns-clause-links
returns-clause-links c =
    let w = after (goal.at.returns-clause-links c).After-split in
    links_of c.self.inside.geometry c.args.self.now c.args.z (lent c.self.inside.geometry c.place_of-from.result c.deref_mut.result.now) c.split.new.b (new_items c.self.inside.geometry c.self.inside.zones c.deref_mut.result.now c.split.new.b c.place_of-from.result) c.shape_of-shape.result w c.shape_of-shape.ensures.value c.split.ensures.links

pub returns-clause-edit : goal.returns-clause-edit
returns-clause-edit c = is_edit (goal.at.returns-clause-edit c).After-split
