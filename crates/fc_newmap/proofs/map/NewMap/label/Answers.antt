use Rattle.std.proofs.Common.{subst, sym, refl}
use Rattle.std.specs.Option.{IfSome}
use Rattle.fc_record.specs.declared.Geometry.{Geometry}
use Rattle.fc_zone.specs.declared.ZoneShape.{ZoneShape}
use Rattle.fc_zone.specs.declared.RunKind.TheVariants.{Id}
use Rattle.fc_zone.specs.Edits.{HasHoleAt}
use Rattle.fc_zone.specs.Zone.{IsShapeOf}
use Rattle.fc_newmap.specs.Edits.{IsEdit, RelabelsIn}
use Rattle.fc_newmap.specs.Map.{Map}
use Rattle.fc_newmap.specs.NewMap.{map_in}
use Rattle.fc_newmap.specs.Tally.{HasRoom, IsTallyOf}
use Rattle.fc_newmap.proofs.EditLemmas.{Writes, edit_of, held_by, lent, links_of, lowered, new_items, relabelled, relabels, was_run, written_in}
use Rattle.fc_newmap.proofs.TallyLemmas.{label_room, label_tally}
use Rattle.fc_newmap.proofs.map.NewMap.label.Goals as goal
use Rattle.fc_newmap.proofs.map.NewMap.label.Goals.{After-deref_mut, After-label}

before : (c : After-deref_mut) → Writes c.self.inside.geometry c.self.inside.zones c.args.self.now c.deref_mut.result.now (lent c.self.inside.geometry c.place_of-from.result c.deref_mut.result.now) c.place_of-from.result c.args.z
before c = written_in c.self.inside.geometry c.self.inside.zones c.args.self.now c.deref_mut.result.now (lent c.self.inside.geometry c.place_of-from.result c.deref_mut.result.now) c.place_of-from.result c.args.z c.self.invariant.held c.self.view_is c.requires.zone c.place_of-from.ensures c.deref_mut.ensures.value refl

after : (c : After-label) → Writes c.self.inside.geometry c.self.inside.zones c.args.self.now c.deref_mut.result.now c.label.new.b c.place_of-from.result c.args.z
after c = written_in c.self.inside.geometry c.self.inside.zones c.args.self.now c.deref_mut.result.now c.label.new.b c.place_of-from.result c.args.z c.self.invariant.held c.self.view_is c.requires.zone c.place_of-from.ensures c.deref_mut.ensures.value c.label.auto.b

pub label-requires-clause-shape : goal.label-requires-clause-shape
label-requires-clause-shape c =
    let w = before (goal.at.label-requires-clause-shape c).After-deref_mut in
    subst (λ (k : ZoneShape). IsShapeOf (lent c.self.inside.geometry c.place_of-from.result c.deref_mut.result.now) k) (sym c.shape_of-shape.ensures.value) w.fits

pub label-requires-clause-hole : goal.label-requires-clause-hole
label-requires-clause-hole c =
    let w = before (goal.at.label-requires-clause-hole c).After-deref_mut in
    lowered c.self.inside.geometry c.args.self.now c.args.z (lent c.self.inside.geometry c.place_of-from.result c.deref_mut.result.now) (lent c.self.inside.geometry c.place_of-from.result c.deref_mut.result.now) (new_items c.self.inside.geometry c.self.inside.zones c.deref_mut.result.now (lent c.self.inside.geometry c.place_of-from.result c.deref_mut.result.now) c.place_of-from.result) c.shape_of-shape.result w c.shape_of-shape.ensures.value (λ k t. HasHoleAt k t c.args.start) c.requires.hole

-- the map after the edit
abbrev edited : After-label → Map
edited c = map_in c.self.inside.geometry (new_items c.self.inside.geometry c.self.inside.zones c.deref_mut.result.now c.label.new.b c.place_of-from.result)

is_edit : (c : After-label) → IsEdit c.args.self.now (edited c) c.args.z
is_edit c =
    let w = after c in
    let req = lowered c.self.inside.geometry c.args.self.now c.args.z (lent c.self.inside.geometry c.place_of-from.result c.deref_mut.result.now) c.label.new.b (new_items c.self.inside.geometry c.self.inside.zones c.deref_mut.result.now c.label.new.b c.place_of-from.result) c.shape_of-shape.result w c.shape_of-shape.ensures.value (λ k t. HasHoleAt k t c.args.start) c.requires.hole in
    edit_of c.self.inside.geometry c.args.self.now c.args.z (lent c.self.inside.geometry c.place_of-from.result c.deref_mut.result.now) c.label.new.b (new_items c.self.inside.geometry c.self.inside.zones c.deref_mut.result.now c.label.new.b c.place_of-from.result) c.shape_of-shape.result w c.shape_of-shape.ensures.value (relabelled c.shape_of-shape.result (lent c.self.inside.geometry c.place_of-from.result c.deref_mut.result.now) c.label.new.b c.args.start (Id c.args.id) (was_run c.shape_of-shape.result (lent c.self.inside.geometry c.place_of-from.result c.deref_mut.result.now) c.label.new.b c.args.start req) c.label.ensures.runs) c.label.ensures.links c.label.ensures.outside c.label.ensures.bytes

has_runs : (c : After-label) → RelabelsIn c.args.self.now (edited c) c.args.z c.args.start (Id c.args.id)
has_runs c =
    let w = after c in
    relabels c.self.inside.geometry c.args.self.now c.args.z (lent c.self.inside.geometry c.place_of-from.result c.deref_mut.result.now) c.label.new.b (new_items c.self.inside.geometry c.self.inside.zones c.deref_mut.result.now c.label.new.b c.place_of-from.result) c.shape_of-shape.result w c.shape_of-shape.ensures.value c.args.start (Id c.args.id) c.label.ensures.runs

tally_was : (c : After-label) → IsTallyOf c.self.inside.tally c.args.self.now
tally_was c = subst (IsTallyOf c.self.inside.tally) c.self.view_is c.self.invariant.tally

pub count-requires-clause-room : goal.count-requires-clause-room
count-requires-clause-room c =
    let before = (goal.at.count-requires-clause-room c).After-label in
    let w = after before in
    subst (λ (g : Geometry). IfSome c.self.inside.tally (λ rows. HasRoom g rows.items (Id c.args.id) c.run_from-hole.result.len)) w.geometry
    (label_room c.args.self.now (edited before) c.args.z c.args.start (is_edit before) c.requires.zone c.args.id c.run_from-hole.result c.requires.hole c.run_from-hole.ensures.value (has_runs before) c.self.inside.tally (tally_was before))

pub invariant_of-self : goal.invariant_of-self
invariant_of-self c =
    let w = after (goal.at.invariant_of-self c).After-label in
    let req = lowered c.self.inside.geometry c.args.self.now c.args.z (lent c.self.inside.geometry c.place_of-from.result c.deref_mut.result.now) c.label.new.b (new_items c.self.inside.geometry c.self.inside.zones c.deref_mut.result.now c.label.new.b c.place_of-from.result) c.shape_of-shape.result w c.shape_of-shape.ensures.value (λ k t. HasHoleAt k t c.args.start) c.requires.hole in
    let before = (goal.at.invariant_of-self c).After-label in
    record {
      held = held_by c.self.inside.geometry c.args.self.now c.args.z (lent c.self.inside.geometry c.place_of-from.result c.deref_mut.result.now) c.label.new.b (new_items c.self.inside.geometry c.self.inside.zones c.deref_mut.result.now c.label.new.b c.place_of-from.result) c.shape_of-shape.result w c.shape_of-shape.ensures.value (relabelled c.shape_of-shape.result (lent c.self.inside.geometry c.place_of-from.result c.deref_mut.result.now) c.label.new.b c.args.start (Id c.args.id) (was_run c.shape_of-shape.result (lent c.self.inside.geometry c.place_of-from.result c.deref_mut.result.now) c.label.new.b c.args.start req) c.label.ensures.runs);
      tally = label_tally c.args.self.now (edited before) c.args.z c.args.start (is_edit before) c.requires.zone c.args.id c.run_from-hole.result c.requires.hole c.run_from-hole.ensures.value (has_runs before) c.self.inside.geometry c.self.inside.tally c.count.new.tally (sym w.geometry) c.count.ensures (tally_was before);
    }

pub returns-clause-runs : goal.returns-clause-runs
returns-clause-runs c = has_runs (goal.at.returns-clause-runs c).After-label

pub returns-clause-links : goal.returns-clause-links
returns-clause-links c =
    let w = after (goal.at.returns-clause-links c).After-label in
    links_of c.self.inside.geometry c.args.self.now c.args.z (lent c.self.inside.geometry c.place_of-from.result c.deref_mut.result.now) c.label.new.b (new_items c.self.inside.geometry c.self.inside.zones c.deref_mut.result.now c.label.new.b c.place_of-from.result) c.shape_of-shape.result w c.shape_of-shape.ensures.value c.label.ensures.links

pub returns-clause-edit : goal.returns-clause-edit
returns-clause-edit c = is_edit (goal.at.returns-clause-edit c).After-label
