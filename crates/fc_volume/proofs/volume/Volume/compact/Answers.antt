use Rattle.std.proofs.Common.{List, refl, ap, subst, sym, ◌∙◌}
use Rattle.fc_device.proofs.DiskLaws.{laws}
use Rattle.fc_device.proofs.StopLemmas.{keeps_start}
use Rattle.fc_names.specs.declared.refusal.Refusal.{Refusal}
use Rattle.fc_alloc.specs.declared.owner.Owner.{Owner}
use Rattle.fc_space.specs.Space.{layout_of}
use Rattle.fc_writing.specs.declared.copies.Copies.TheVariants.{Equal}
use Rattle.fc_volume.specs.Compacting.{CanCompact, IsDone, KeepsDisc}
use Rattle.fc_volume.specs.Volume.{Volume, parts_of}
use Rattle.fc_volume.proofs.KeepLemmas.{kept_done, kept_fault, kept_refused}
use Rattle.fc_volume.proofs.RepairedLemmas.{loose_same}
use Rattle.fc_volume.proofs.StandsLemmas.{can_compact, has_compacted, new_layout, stands_after}
use Rattle.fc_volume.proofs.volume.Volume.compact.Goals as goal

pub returns-then-self-clause-objects : goal.returns-then-self-clause-objects
returns-then-self-clause-objects g c = λ m layout. keeps_start (laws g.met.D.Disk) (c.keeps_objects.ensures.same m.geometry) c.args.disk.now c.requires.settled

pub returns-then-self-clause-frame : goal.returns-then-self-clause-frame
returns-then-self-clause-frame g c = λ m layout. keeps_start (laws g.met.D.Disk) (loose_same m c.args.self.now.owners) c.args.disk.now c.requires.settled

pub returns-then-self-clause-keeps : goal.returns-then-self-clause-keeps
returns-then-self-clause-keeps g c =
    let map = new_layout (parts_of c.args.self.now).layout c.requires.new_map in
    kept_refused (laws g.met.D.Disk) c.args.self.now c.args.disk.now map.0 Refusal.ReadOnly map.1 c.requires.stands c.requires.settled c.requires.fit

pub compact_places-requires-clause-ready : goal.compact_places-requires-clause-ready
compact_places-requires-clause-ready g c = λ m layout image told.
    subst (λ (w : Volume). CanCompact m w.copies w.owners image) (sym c.self.view_is)
    (can_compact g.D.Disk c.args.self.now c.args.disk.now m c.requires.stands (sym (ap (λ w. layout_of w.space) c.self.view_is) ∙ layout) image told)

pub returns-in-Ok-clause-compacted : goal.returns-in-Ok-clause-compacted
returns-in-Ok-clause-compacted g c =
    let v = c.args.self.now in
    let new = c.compact_places.new.disk in
    let now : Volume = record {
      space = c.index.new.self;
      copies = Equal;
      tree = c.self.inside.holdings.tree;
      owners = c.self.inside.holdings.owners;
      read_only = c.self.inside.read_only;
      fit = c.self.inside.fit;
    } in
    let map = new_layout (parts_of v).layout c.requires.new_map in
    let here = ap (λ w. layout_of w.space) c.self.view_is ∙ map.1 in
    let owners = ap (λ w. w.owners) c.self.view_is in
    let after = c.in-Ok.ensures.done map.0 here in
    let exits = subst (λ (os : List Owner). KeepsDisc g.D.Disk map.0 os c.args.disk.now new) owners (c.compact_places.ensures.exits map.0 here) in
    let done = subst (λ (os : List Owner). IsDone g.D.Disk map.0 after.0 os new) owners after.2 in
    has_compacted c.by_owners.ensures c.one_map.ensures v now c.args.disk.now new map.0 after.0 c.requires.stands map.1 (ap layout_of c.index.ensures ∙ after.1)
    (ap (λ w. w.tree) c.self.view_is) owners refl c.compact_places.ensures.form exits done

pub returns-in-Ok-clause-keeps : goal.returns-in-Ok-clause-keeps
returns-in-Ok-clause-keeps g c =
    let v = c.args.self.now in
    let new = c.compact_places.new.disk in
    let now : Volume = record {
      space = c.index.new.self;
      copies = Equal;
      tree = c.self.inside.holdings.tree;
      owners = c.self.inside.holdings.owners;
      read_only = c.self.inside.read_only;
      fit = c.self.inside.fit;
    } in
    let map = new_layout (parts_of v).layout c.requires.new_map in
    let here = ap (λ w. layout_of w.space) c.self.view_is ∙ map.1 in
    let owners = ap (λ w. w.owners) c.self.view_is in
    let after = c.in-Ok.ensures.done map.0 here in
    let layout' = ap layout_of c.index.ensures ∙ after.1 in
    let form = c.compact_places.ensures.form in
    let exits = subst (λ (os : List Owner). KeepsDisc g.D.Disk map.0 os c.args.disk.now new) owners (c.compact_places.ensures.exits map.0 here) in
    let done = subst (λ (os : List Owner). IsDone g.D.Disk map.0 after.0 os new) owners after.2 in
    kept_done (laws g.met.D.Disk) v now c.args.disk.now new map.0 after.0 map.1 layout' (ap (λ w. w.read_only) c.self.view_is) form c.compact_places.ensures.cause.later exits done.map.geometry
    (stands_after c.by_owners.ensures c.one_map.ensures v now c.args.disk.now new map.0 after.0 c.requires.stands map.1 layout' (ap (λ w. w.tree) c.self.view_is) owners refl form exits done) c.in-Ok.ensures.durable
    (ap (λ w. w.fit) c.self.view_is ∙ c.requires.fit)

pub returns-in-Err-clause-keeps : goal.returns-in-Err-clause-keeps
returns-in-Err-clause-keeps g c =
    let v = c.args.self.now in
    let new = c.compact_places.new.disk in
    let map = new_layout (parts_of v).layout c.requires.new_map in
    let here = ap (λ w. layout_of w.space) c.self.view_is ∙ map.1 in
    let owners = ap (λ w. w.owners) c.self.view_is in
    let map' = new_layout (layout_of c.compact_places.new.places) c.compact_places.ensures.new_map in
    let exits = subst (λ (os : List Owner). KeepsDisc g.D.Disk map.0 os c.args.disk.now new) owners (c.compact_places.ensures.exits map.0 here) in
    kept_fault (laws g.met.D.Disk) v _ c.args.disk.now new map.0 map'.0 map.1 map'.1 (ap (λ w. w.read_only) c.self.view_is) c.compact_places.ensures.form c.compact_places.ensures.cause.later exits refl
    c.in-Err.ensures.cause.failed
