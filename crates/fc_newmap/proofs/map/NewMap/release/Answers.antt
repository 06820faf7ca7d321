use Rattle.std.proofs.Common.{subst, sym, refl}
use Rattle.fc_zone.specs.declared.ZoneShape.{ZoneShape}
use Rattle.fc_zone.specs.declared.RunKind.TheVariants.{Hole}
use Rattle.fc_zone.specs.Edits.{HasRunAt}
use Rattle.fc_zone.specs.Zone.{IsShapeOf}
use Rattle.fc_newmap.specs.Edits.{IsEdit, RelabelsIn}
use Rattle.fc_newmap.specs.Map.{Map}
use Rattle.fc_newmap.specs.NewMap.{map_in}
use Rattle.fc_newmap.specs.Tally.{IsTallyOf}
use Rattle.fc_newmap.proofs.EditLemmas.{Writes, edit_of, held_by, lent, links_of, lowered, new_items, relabelled, relabels, written_in}
use Rattle.fc_newmap.proofs.TallyLemmas.{release_bits, release_tally}
use Rattle.fc_newmap.proofs.map.NewMap.release.Goals as goal
use Rattle.fc_newmap.proofs.map.NewMap.release.Goals.{After-deref_mut, After-release}

before : (c : After-deref_mut) → Writes c.self.inside.geometry c.self.inside.zones c.args.self.now c.deref_mut.result.now (lent c.self.inside.geometry c.place_of-from.result c.deref_mut.result.now) c.place_of-from.result c.args.z
before c = written_in c.self.inside.geometry c.self.inside.zones c.args.self.now c.deref_mut.result.now (lent c.self.inside.geometry c.place_of-from.result c.deref_mut.result.now) c.place_of-from.result c.args.z c.self.invariant.held c.self.view_is c.requires.zone c.place_of-from.ensures c.deref_mut.ensures.value refl

after : (c : After-release) → Writes c.self.inside.geometry c.self.inside.zones c.args.self.now c.deref_mut.result.now c.release.new.b c.place_of-from.result c.args.z
after c = written_in c.self.inside.geometry c.self.inside.zones c.args.self.now c.deref_mut.result.now c.release.new.b c.place_of-from.result c.args.z c.self.invariant.held c.self.view_is c.requires.zone c.place_of-from.ensures c.deref_mut.ensures.value c.release.auto.b

pub release-requires-clause-shape : goal.release-requires-clause-shape
release-requires-clause-shape c =
    let w = before (goal.at.release-requires-clause-shape c).After-deref_mut in
    subst (λ (k : ZoneShape). IsShapeOf (lent c.self.inside.geometry c.place_of-from.result c.deref_mut.result.now) k) (sym c.shape_of-shape.ensures.value) w.fits

pub release-requires-clause-run : goal.release-requires-clause-run
release-requires-clause-run c =
    let w = before (goal.at.release-requires-clause-run c).After-deref_mut in
    lowered c.self.inside.geometry c.args.self.now c.args.z (lent c.self.inside.geometry c.place_of-from.result c.deref_mut.result.now) (lent c.self.inside.geometry c.place_of-from.result c.deref_mut.result.now) (new_items c.self.inside.geometry c.self.inside.zones c.deref_mut.result.now (lent c.self.inside.geometry c.place_of-from.result c.deref_mut.result.now) c.place_of-from.result) c.shape_of-shape.result w c.shape_of-shape.ensures.value (λ k t. HasRunAt k t c.args.start) c.requires.run

-- the map after the edit
abbrev edited : After-release → Map
edited c = map_in c.self.inside.geometry (new_items c.self.inside.geometry c.self.inside.zones c.deref_mut.result.now c.release.new.b c.place_of-from.result)

is_edit : (c : After-release) → IsEdit c.args.self.now (edited c) c.args.z
is_edit c =
    let w = after c in
    let req = lowered c.self.inside.geometry c.args.self.now c.args.z (lent c.self.inside.geometry c.place_of-from.result c.deref_mut.result.now) c.release.new.b (new_items c.self.inside.geometry c.self.inside.zones c.deref_mut.result.now c.release.new.b c.place_of-from.result) c.shape_of-shape.result w c.shape_of-shape.ensures.value (λ k t. HasRunAt k t c.args.start) c.requires.run in
    edit_of c.self.inside.geometry c.args.self.now c.args.z (lent c.self.inside.geometry c.place_of-from.result c.deref_mut.result.now) c.release.new.b (new_items c.self.inside.geometry c.self.inside.zones c.deref_mut.result.now c.release.new.b c.place_of-from.result) c.shape_of-shape.result w c.shape_of-shape.ensures.value (relabelled c.shape_of-shape.result (lent c.self.inside.geometry c.place_of-from.result c.deref_mut.result.now) c.release.new.b c.args.start Hole req c.release.ensures.runs) c.release.ensures.links c.release.ensures.outside c.release.ensures.bytes

has_runs : (c : After-release) → RelabelsIn c.args.self.now (edited c) c.args.z c.args.start Hole
has_runs c =
    let w = after c in
    relabels c.self.inside.geometry c.args.self.now c.args.z (lent c.self.inside.geometry c.place_of-from.result c.deref_mut.result.now) c.release.new.b (new_items c.self.inside.geometry c.self.inside.zones c.deref_mut.result.now c.release.new.b c.place_of-from.result) c.shape_of-shape.result w c.shape_of-shape.ensures.value c.args.start Hole c.release.ensures.runs

tally_was : (c : After-release) → IsTallyOf c.self.inside.tally c.args.self.now
tally_was c = subst (IsTallyOf c.self.inside.tally) c.self.view_is c.self.invariant.tally

pub uncount-requires-clause-bits : goal.uncount-requires-clause-bits
uncount-requires-clause-bits c =
    let before = (goal.at.uncount-requires-clause-bits c).After-release in
    release_bits c.args.self.now (edited before) c.args.z c.args.start (is_edit before) c.requires.zone c.run_from-run.result c.requires.run c.run_from-run.ensures.value (has_runs before) c.self.inside.tally (tally_was before)

pub invariant_of-self : goal.invariant_of-self
invariant_of-self c =
    let w = after (goal.at.invariant_of-self c).After-release in
    let req = lowered c.self.inside.geometry c.args.self.now c.args.z (lent c.self.inside.geometry c.place_of-from.result c.deref_mut.result.now) c.release.new.b (new_items c.self.inside.geometry c.self.inside.zones c.deref_mut.result.now c.release.new.b c.place_of-from.result) c.shape_of-shape.result w c.shape_of-shape.ensures.value (λ k t. HasRunAt k t c.args.start) c.requires.run in
    let before = (goal.at.invariant_of-self c).After-release in
    record {
      held = held_by c.self.inside.geometry c.args.self.now c.args.z (lent c.self.inside.geometry c.place_of-from.result c.deref_mut.result.now) c.release.new.b (new_items c.self.inside.geometry c.self.inside.zones c.deref_mut.result.now c.release.new.b c.place_of-from.result) c.shape_of-shape.result w c.shape_of-shape.ensures.value (relabelled c.shape_of-shape.result (lent c.self.inside.geometry c.place_of-from.result c.deref_mut.result.now) c.release.new.b c.args.start Hole req c.release.ensures.runs);
      tally = release_tally c.args.self.now (edited before) c.args.z c.args.start (is_edit before) c.requires.zone c.run_from-run.result c.requires.run c.run_from-run.ensures.value (has_runs before) c.self.inside.geometry c.self.inside.tally c.uncount.new.tally (sym w.geometry) c.uncount.ensures (tally_was before);
    }

pub returns-clause-runs : goal.returns-clause-runs
returns-clause-runs c = has_runs (goal.at.returns-clause-runs c).After-release

pub returns-clause-links : goal.returns-clause-links
returns-clause-links c =
    let w = after (goal.at.returns-clause-links c).After-release in
    links_of c.self.inside.geometry c.args.self.now c.args.z (lent c.self.inside.geometry c.place_of-from.result c.deref_mut.result.now) c.release.new.b (new_items c.self.inside.geometry c.self.inside.zones c.deref_mut.result.now c.release.new.b c.place_of-from.result) c.shape_of-shape.result w c.shape_of-shape.ensures.value c.release.ensures.links

pub returns-clause-edit : goal.returns-clause-edit
returns-clause-edit c = is_edit (goal.at.returns-clause-edit c).After-release
