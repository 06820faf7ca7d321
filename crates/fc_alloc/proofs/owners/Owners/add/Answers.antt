use Rattle.std.proofs.Common.{◌≡◌, ◌+◌, ◌-◌, ◌++◌, ◌∷◌, [], refl, length, length-append, arith}
use Rattle.std.proofs.lemmas.Grind.{common_steps}
use Rattle.std.proofs.lemmas.List.Sorted.{IsPermutation-to_front}
use Rattle.fc_alloc.specs.Index.{ArePlaces, AreCounts}
use Rattle.fc_alloc.proofs.PlaceLemmas.{places_push, places_grown}
use Rattle.fc_alloc.proofs.CountLemmas.{counts_push, top_push}
use Rattle.fc_alloc.proofs.owners.Owners.add.Goals as goal

pub invariant_of-self-2 : goal.invariant_of-self-2
invariant_of-self-2 c =
    let list = c.self.inside.list.items in
    let o = c.args.o in
    let pushed : c.push.new.self.items ≡ list ++ o ∷ [] = grind (arith, common_steps, c.push.ensures.items, c.if-is_err.false, c.is_err.ensures.value) in
    let size : c.len.result - 1 ≡ length list = let long : length c.push.new.self.items ≡ length list + 1 = rw (pushed, length-append) refl in omega (arith, c.len.ensures) in
    let grown : ArePlaces list c.grow_places.new.places.items = rw c.grow_places.ensures.grown.1 (places_grown list c.self.inside.places.items _ c.self.invariant.placed) in
    let counted : AreCounts list c.grow_counts.new.counts.items = rw c.deref.ensures.value at c.grow_counts.ensures.counts in
    record {
      placed = rw (pushed, size) (places_push list c.grow_places.new.places.items o grown (rw (← c.self.view_is) at c.requires) (omega (arith, c.in_ok-grow_places.ensures.room)));
      counted = rw pushed (counts_push list c.grow_counts.new.counts.items c.count_up.new.counts.items o counted c.count_up.ensures);
      held_by_dir = rw pushed (c.put.ensures list (list ++ o ∷ []) (IsPermutation-to_front list o) c.self.invariant.held_by_dir);
      highest = rw pushed (top_push list c.self.inside.top c.max-self-inside.result o c.self.invariant.highest (omega arith) (omega arith));
    }
