use Rattle.std.proofs.Common.{◌∙◌, ap, set, arith}
use Rattle.std.specs.List.{remove}
use Rattle.std.proofs.lemmas.List.Sorted.{IsPermutation-remove}
use Rattle.fc_alloc.specs.Owners.{with_changed}
use Rattle.fc_alloc.proofs.PlaceLemmas.{found_place, at_place, places_changed, changed}
use Rattle.fc_alloc.proofs.CountLemmas.{count_fits, count_some, counts_changed, top_changed}
use Rattle.fc_alloc.proofs.HeldLemmas.{set_first}
use Rattle.fc_alloc.proofs.owners.Owners.change.Goals as goal

pub index-place-requires : goal.index-place-requires
index-place-requires c =
    let found = found_place c.self.inside.list.items c.self.inside.places.items c.args.o.node c.self.invariant.placed (rw (← c.self.view_is) at c.requires) in
    omega (arith, found.0)

pub index-was-requires : goal.index-was-requires
index-was-requires c =
    let at = at_place c.self.inside.list.items c.self.inside.places.items c.args.o.node c.index-place.result.now c.self.invariant.placed (rw (← c.self.view_is) at c.requires) c.index-place.ensures in
    omega (arith, at.0)

pub count_down-requires : goal.count_down-requires
count_down-requires c room =
    let at = at_place c.self.inside.list.items c.self.inside.places.items c.args.o.node c.index-place.result.now c.self.invariant.placed (rw (← c.self.view_is) at c.requires) c.index-place.ensures in
    count_some c.self.inside.list.items c.self.inside.counts.items c.index-place.result.now c.index-was.result.now c.self.invariant.counted at.0 c.index-was.ensures (omega (arith, room))

pub count_up-requires : goal.count_up-requires
count_up-requires c room =
    let at = at_place c.self.inside.list.items c.self.inside.places.items c.args.o.node c.index-place.result.now c.self.invariant.placed (rw (← c.self.view_is) at c.requires) c.index-place.ensures in
    let fits = count_fits c.self.inside.list.items c.self.inside.counts.items c.count_down.new.counts.items c.index-place.result.now c.index-was.result.now c.args.o.id c.self.invariant.counted at.0 c.index-was.ensures c.count_down.ensures (omega (arith, room)) in
    omega (arith, fits, c.self.inside.list.ok.0)

pub index_mut-requires : goal.index_mut-requires
index_mut-requires c =
    let at = at_place c.self.inside.list.items c.self.inside.places.items c.args.o.node c.index-place.result.now c.self.invariant.placed (rw (← c.self.view_is) at c.requires) c.index-place.ensures in
    omega (arith, at.0)

pub invariant_of-self : goal.invariant_of-self
invariant_of-self c =
    let at = at_place c.self.inside.list.items c.self.inside.places.items c.args.o.node c.index-place.result.now c.self.invariant.placed (rw (← c.self.view_is) at c.requires) c.index-place.ensures in
    record {
      placed = places_changed c.self.inside.list.items c.self.inside.places.items c.index-place.result.now c.args.o c.self.invariant.placed at.1;
      counted = counts_changed c.self.inside.list.items c.self.inside.counts.items c.count_down.new.counts.items c.count_up.new.counts.items c.index-place.result.now c.index-was.result.now c.args.o c.self.invariant.counted at.0 c.index-was.ensures c.count_down.ensures c.count_up.ensures;
      highest = top_changed c.self.inside.list.items c.self.inside.top c.max-self-inside.result c.index-place.result.now c.args.o c.self.invariant.highest (omega arith) (omega arith);
      held_by_dir = c.change.ensures c.self.inside.list.items (remove c.self.inside.list.items c.index-place.result.now) (set c.self.inside.list.items c.index-place.result.now c.args.o)
          (IsPermutation-remove c.self.inside.list.items c.index-place.result.now c.index-was.result.now at.0 c.index-was.ensures)
          (set_first c.self.inside.list.items c.index-place.result.now c.args.o at.0) c.self.invariant.held_by_dir;
    }

pub returns : goal.returns
returns c =
    let at = at_place c.self.inside.list.items c.self.inside.places.items c.args.o.node c.index-place.result.now c.self.invariant.placed (rw (← c.self.view_is) at c.requires) c.index-place.ensures in
    changed c.self.inside.list.items c.self.inside.places.items c.index-place.result.now c.args.o c.self.invariant.placed at.0 at.1 ∙ ap (with_changed c.args.o) c.self.view_is
