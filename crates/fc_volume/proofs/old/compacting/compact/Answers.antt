use Rattle.std.proofs.Common.{◌∙◌, ap, subst, sym}
use Rattle.fc_space.specs.declared.space.Space.{Space}
use Rattle.fc_space.specs.Space.{layout_of}
use Rattle.fc_tree.specs.Nodes.{bound_of, nodes_of}
use Rattle.fc_volume.specs.Volume.{Volume, parts_of}
use Rattle.fc_volume.specs.OldCompacting.{IsReadyToCompact, marks}
use Rattle.fc_volume.proofs.OldKeepsLemmas.{old_kinds, same_form}
use Rattle.fc_volume.proofs.CompactVolumeLemmas.{are_ready, has_compacted, map_is, no_big, only_places, placed, stands_after}
use Rattle.fc_volume.proofs.old.compacting.compact.Goals as goal

pub write_compacted-requires-clause-bodies : goal.write_compacted-requires-clause-bodies
write_compacted-requires-clause-bodies g c =
    let layout = map_is _ c.args.volume.now c.volume.view_is c.requires.old_map c.map_of-map.result c.map_of-map.ensures in
    let prepared = subst (λ (s : Space). IsReadyToCompact (layout_of s) (nodes_of c.volume.inside.holdings.tree) (bound_of c.volume.inside.holdings.tree) c.in-Ok.ready) c.space.ensures c.in-Ok.ensures in
    (are_ready g.D.Disk c.move_laws.ensures _ c.args.volume.now c.volume.view_is c.args.disk.now c.requires.stands c.map_of-map.result layout c.is_old_map.ensures c.in-Ok.ready prepared c.bound.ensures.above).bodies

pub write_compacted-requires-clause-small : goal.write_compacted-requires-clause-small
write_compacted-requires-clause-small g c =
    let layout = map_is _ c.args.volume.now c.volume.view_is c.requires.old_map c.map_of-map.result c.map_of-map.ensures in
    let prepared = subst (λ (s : Space). IsReadyToCompact (layout_of s) (nodes_of c.volume.inside.holdings.tree) (bound_of c.volume.inside.holdings.tree) c.in-Ok.ready) c.space.ensures c.in-Ok.ensures in
    no_big g.D.Disk c.move_laws.ensures _ c.args.volume.now c.volume.view_is c.args.disk.now c.requires.stands c.map_of-map.result layout c.is_old_map.ensures c.in-Ok.ready prepared c.bound.ensures.above

pub write_compacted-requires-clause-placed : goal.write_compacted-requires-clause-placed
write_compacted-requires-clause-placed g c =
    let layout = map_is _ c.args.volume.now c.volume.view_is c.requires.old_map c.map_of-map.result c.map_of-map.ensures in
    let prepared = subst (λ (s : Space). IsReadyToCompact (layout_of s) (nodes_of c.volume.inside.holdings.tree) (bound_of c.volume.inside.holdings.tree) c.in-Ok.ready) c.space.ensures c.in-Ok.ensures in
    placed g.D.Disk c.move_laws.ensures _ c.args.volume.now c.volume.view_is c.args.disk.now c.requires.stands c.map_of-map.result layout c.is_old_map.ensures c.in-Ok.ready prepared c.bound.ensures.above

pub returns-in-Ok-write_compacted-clause-compacted : goal.returns-in-Ok-write_compacted-clause-compacted
returns-in-Ok-write_compacted-clause-compacted g c =
    let layout = map_is _ c.args.volume.now c.volume.view_is c.requires.old_map c.map_of-map.result c.map_of-map.ensures in
    let prepared = subst (λ (s : Space). IsReadyToCompact (layout_of s) (nodes_of c.volume.inside.holdings.tree) (bound_of c.volume.inside.holdings.tree) c.in-Ok.ready) c.space.ensures c.in-Ok.ensures in
    λ image told. let w = c.in-Ok-write_compacted.ensures.bytes image told in (
      w.2,
      w.3,
      has_compacted g.D.Disk c.move_laws.ensures _ c.args.volume.now c.volume.view_is c.args.disk.now c.requires.stands c.map_of-map.result layout c.is_old_map.ensures c.in-Ok.ready prepared c.bound.ensures.above
          c.take_over.new.volume c.write_compacted.new.disk c.write_compacted.new.map c.take_over.ensures.layout c.write_compacted.new.tree c.take_over.ensures.tree c.write_compacted.new.ready.moves
          (marks c.write_compacted.new.ready.spares.items) c.in-Ok-write_compacted.ensures.done c.in-Ok-write_compacted.ensures.bytes c.write_compacted.ensures.goes.told c.take_over.ensures.owners image told w.2 w.3,
    )

pub returns-in-Ok-write_compacted-clause-keeps : goal.returns-in-Ok-write_compacted-clause-keeps
returns-in-Ok-write_compacted-clause-keeps g c =
    let layout = map_is _ c.args.volume.now c.volume.view_is c.requires.old_map c.map_of-map.result c.map_of-map.ensures in
    let prepared = subst (λ (s : Space). IsReadyToCompact (layout_of s) (nodes_of c.volume.inside.holdings.tree) (bound_of c.volume.inside.holdings.tree) c.in-Ok.ready) c.space.ensures c.in-Ok.ensures in
    record {
      unchanged = tt;
      stands = stands_after g.D.Disk c.move_laws.ensures _ c.args.volume.now c.volume.view_is c.args.disk.now c.requires.stands c.map_of-map.result layout c.is_old_map.ensures c.in-Ok.ready prepared c.bound.ensures.above
          c.take_over.new.volume c.write_compacted.new.disk c.write_compacted.new.map c.take_over.ensures.layout c.write_compacted.new.tree c.take_over.ensures.tree c.write_compacted.new.ready.moves
          (marks c.write_compacted.new.ready.spares.items) c.in-Ok-write_compacted.ensures.done c.in-Ok-write_compacted.ensures.bytes c.write_compacted.ensures.goes.told c.take_over.ensures.owners c.take_over.ensures.copies c.write_compacted.ensures.goes.form;
      settled = c.in-Ok-write_compacted.ensures.durable;
      fit = c.take_over.ensures.fit ∙ ap (λ (x : Volume). x.fit) c.volume.view_is ∙ c.requires.fit;
      unfit = λ failed. absurd (cc);
      rights = c.take_over.ensures.rights ∙ ap (λ (x : Volume). x.read_only) c.volume.view_is;
      map = old_kinds (parts_of c.args.volume.now).layout (parts_of c.take_over.new.volume).layout c.map_of-map.result c.write_compacted.new.map (sym (ap (λ (x : Volume). layout_of x.space) c.volume.view_is) ∙ layout) c.take_over.ensures.layout;
      dirs = same_form (parts_of c.args.volume.now).layout (parts_of c.take_over.new.volume).layout c.map_of-map.result c.write_compacted.new.map (sym (ap (λ (x : Volume). layout_of x.space) c.volume.view_is) ∙ layout) c.take_over.ensures.layout
          c.in-Ok-write_compacted.ensures.done.kept.disc.1;
      form = c.write_compacted.ensures.goes.form;
      goes = c.write_compacted.ensures.goes.stops;
      faults = c.write_compacted.ensures.goes.cause.later;
      cause = λ failed. absurd (cc);
    }

pub returns-in-Ok-write_compacted-clause-places : goal.returns-in-Ok-write_compacted-clause-places
returns-in-Ok-write_compacted-clause-places g c =
    let layout = map_is _ c.args.volume.now c.volume.view_is c.requires.old_map c.map_of-map.result c.map_of-map.ensures in
    let prepared = subst (λ (s : Space). IsReadyToCompact (layout_of s) (nodes_of c.volume.inside.holdings.tree) (bound_of c.volume.inside.holdings.tree) c.in-Ok.ready) c.space.ensures c.in-Ok.ensures in
    only_places g.D.Disk c.move_laws.ensures _ c.args.volume.now c.volume.view_is c.args.disk.now c.requires.stands c.map_of-map.result layout c.is_old_map.ensures c.in-Ok.ready prepared c.bound.ensures.above
    c.write_compacted.new.disk c.write_compacted.ensures.places

pub returns-clause-places : goal.returns-clause-places
returns-clause-places g c =
    let layout = map_is _ c.args.volume.now c.volume.view_is c.requires.old_map c.map_of-map.result c.map_of-map.ensures in
    let prepared = subst (λ (s : Space). IsReadyToCompact (layout_of s) (nodes_of c.volume.inside.holdings.tree) (bound_of c.volume.inside.holdings.tree) c.in-Ok.ready) c.space.ensures c.in-Ok.ensures in
    only_places g.D.Disk c.move_laws.ensures _ c.args.volume.now c.volume.view_is c.args.disk.now c.requires.stands c.map_of-map.result layout c.is_old_map.ensures c.in-Ok.ready prepared c.bound.ensures.above
    c.write_compacted.new.disk c.write_compacted.ensures.places
