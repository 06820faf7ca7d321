use Rattle.std.proofs.Common.{◌≡◌, ◌∙◌, List, sym, ap, subst}
use Rattle.fc_image.specs.declared.effects.Owned.{Owned}
use Rattle.fc_image.specs.effects.Moves.{Squashed}
use Rattle.fc_oldlaws.specs.moves.Nodes.{AreMoved}
use Rattle.fc_oldlaws.specs.moves.Writes.{MarkChanges}
use Rattle.fc_squash.specs.Squashing.{KeepsBodies}
use Rattle.fc_tree.specs.Nodes.{nodes_of}
use Rattle.fc_volume.specs.OldCompacting.{AreSorted, marks, slide_by}
use Rattle.fc_volume.specs.declared.old.compacting.moves.Moves.{Moves}
use Rattle.fc_squash.specs.Places.{ChangesRoom}
use Rattle.fc_volume.proofs.OldRoomLemmas.{after_slide, written_room}
use Rattle.fc_volume.proofs.NumbersLemmas.{low_moves}
use Rattle.fc_volume.proofs.old.compacting.write_compacted.Goals as goal

pub rewrite-requires-clause-can : goal.rewrite-requires-clause-can
rewrite-requires-clause-can g c = record {
  spares = c.requires.ready.spares;
  sorted = subst AreSorted (sym (ap (λ (v : _). v.items) c.slide.ensures.before)) c.requires.ready.sorted;
  low = low_moves c.slide.new.map c.slide.new.moves.before.items c.slide.new.moves.after.items c.slide.ensures.kept.map c.slide.ensures.kept.bodies;
  small = c.requires.small;
}

pub returns-clause-done : goal.returns-clause-done
returns-clause-done g c =
    let map = c.args.map.now in
    let map' = c.slide.new.map in
    let was : List Owned = c.args.ready.now.moves.before.items in
    let end : List Owned = c.rewrite.new.ready.moves.after.items in
    let resting = c.requires.ready.resting in
    let first : c.slide.new.moves.before.items ≡ was = ap (λ (v : _). v.items) c.slide.ensures.before in
    let last : c.slide.new.moves.after.items ≡ end = ap (λ (m : Moves). m.after.items) (sym c.rewrite.ensures.moves) in
    record {
      before = ap (λ (m : Moves). m.before.items) c.rewrite.ensures.moves ∙ first;
      squashed = subst (λ (l : List Owned). Squashed map map' l end) resting (subst (λ (l : List Owned). Squashed map map' c.args.ready.now.moves.after.items l) last c.in_ok-slide.ensures.squashed);
      kept = subst (λ (l : List Owned). KeepsBodies map map' l end) resting (subst (λ (l : List Owned). KeepsBodies map map' c.args.ready.now.moves.after.items l) last c.slide.ensures.kept);
      moved = subst (λ (l : List Owned). AreMoved (slide_by map map' l end) (nodes_of c.args.tree.now) (nodes_of c.rewrite.new.tree)) first
          (subst (λ (l : List Owned). AreMoved (slide_by map map' c.slide.new.moves.before.items l) (nodes_of c.args.tree.now) (nodes_of c.rewrite.new.tree)) last (c.rewrite.ensures.readdressed.moved map c.requires.map));
      marked = subst (λ (l : List Owned). MarkChanges (slide_by map map' l end) (nodes_of c.args.tree.now) (marks c.rewrite.new.ready.spares.items)) first
          (subst (λ (l : List Owned). MarkChanges (slide_by map map' c.slide.new.moves.before.items l) (nodes_of c.args.tree.now) (marks c.rewrite.new.ready.spares.items)) last (c.rewrite.ensures.readdressed.marked map c.requires.map));
    }

pub returns-in_err-slide-clause-places : goal.returns-in_err-slide-clause-places
returns-in_err-slide-clause-places g c = λ sectors room was told.
    let w = c.slide.ensures.places was told in
    let resting = c.requires.ready.resting in (
      w.0,
      w.1,
      written_room c.args.map.now (nodes_of c.args.tree.now) c.args.ready.now.moves.before.items sectors was w.0 room
          (subst (λ (l : List Owned). ChangesRoom c.args.map.now l was w.0) resting w.2),
    )

pub returns-in_err-rewrite-clause-places : goal.returns-in_err-rewrite-clause-places
returns-in_err-rewrite-clause-places g c =
    let map = c.args.map.now in
    let map' = c.slide.new.map in
    let was : List Owned = c.args.ready.now.moves.before.items in
    let now : List Owned = c.slide.new.moves.after.items in
    let resting = c.requires.ready.resting in
    let first : c.slide.new.moves.before.items ≡ was = ap (λ (v : _). v.items) c.slide.ensures.before in
    after_slide g.D.Disk map map' (nodes_of c.args.tree.now) (nodes_of c.rewrite.new.tree) was now c.args.disk.now c.slide.new.disk c.rewrite.new.disk
    (subst (λ (l : List Owned). KeepsBodies map map' l now) resting c.slide.ensures.kept)
    (subst (λ (l : List Owned). Squashed map map' l now) resting c.in_ok-slide.ensures.squashed)
    (subst (λ (l : List Owned). AreMoved (slide_by map map' l now) (nodes_of c.args.tree.now) (nodes_of c.rewrite.new.tree)) first (c.rewrite.ensures.readdressed.moved map c.requires.map))
    (λ before told. (let w = c.slide.ensures.places before told in (w.0, w.1, subst (λ (l : List Owned). ChangesRoom map l before w.0) resting w.2)))
    c.rewrite.ensures.places

pub returns-clause-places : goal.returns-clause-places
returns-clause-places g c =
    let map = c.args.map.now in
    let map' = c.slide.new.map in
    let was : List Owned = c.args.ready.now.moves.before.items in
    let now : List Owned = c.slide.new.moves.after.items in
    let resting = c.requires.ready.resting in
    let first : c.slide.new.moves.before.items ≡ was = ap (λ (v : _). v.items) c.slide.ensures.before in
    after_slide g.D.Disk map map' (nodes_of c.args.tree.now) (nodes_of c.rewrite.new.tree) was now c.args.disk.now c.slide.new.disk c.rewrite.new.disk
    (subst (λ (l : List Owned). KeepsBodies map map' l now) resting c.slide.ensures.kept)
    (subst (λ (l : List Owned). Squashed map map' l now) resting c.in_ok-slide.ensures.squashed)
    (subst (λ (l : List Owned). AreMoved (slide_by map map' l now) (nodes_of c.args.tree.now) (nodes_of c.rewrite.new.tree)) first (c.rewrite.ensures.readdressed.moved map c.requires.map))
    (λ before told. (let w = c.slide.ensures.places before told in (w.0, w.1, subst (λ (l : List Owned). ChangesRoom map l before w.0) resting w.2)))
    c.rewrite.ensures.places
