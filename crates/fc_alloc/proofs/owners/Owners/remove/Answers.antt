use Rattle.std.proofs.Common.{◌≡◌, ◌<◌, ◌≤◌, ◌+◌, ◌-◌, ◌≢◌, ◌∙◌, ℕ, ◌∷◌, ap, sym, subst, length, get_or, arith, vec_len, List, IsPermutation}
use Rattle.std.proofs.lemmas.List.Sorted.{IsPermutation-swap_remove}
use Rattle.fc_alloc.specs.declared.owner.Owner.{Owner}
use Rattle.fc_alloc.proofs.PlaceLemmas.{places_moved, places_cut, taken_out}
use Rattle.fc_alloc.proofs.CountLemmas.{count_some, counts_removed, top_removed}
use Rattle.fc_alloc.proofs.owners.Owners.remove.Goals as goal

pub count_down-requires : goal.count_down-requires
count_down-requires c room =
    let at = rw c.deref.ensures.value at c.in-Some.ensures in
    count_some c.self.inside.list.items c.self.inside.counts.items c.in-Some.place c.swap_remove-removed.result c.self.invariant.counted at.0 c.swap_remove-removed.ensures.value (omega (arith, room))

pub invariant_of-self : goal.invariant_of-self
invariant_of-self c =
    let list = c.self.inside.list.items in
    let left = c.swap_remove-removed.new.self.items in
    let place = c.in-Some.place in
    let at = rw c.deref.ensures.value at c.in-Some.ensures in
    let size : length left + 1 ≡ length list = omega (arith, c.swap_remove-removed.ensures.len) in
    let n : vec_len c.self.inside.list ≡ length list = omega arith in
    let within : place < length left = omega (arith, c.if-place-len.true, c.len.ensures) in
    let last : (d : Owner) → place + 1 < length list → get_or left place d ≡ get_or list (length list - 1) d = rw n at c.swap_remove-removed.ensures.by_index.0 in
    let others : (k : ℕ) (d : Owner) → k ≢ place → k + 1 < length list → get_or left k d ≡ get_or list k d = rw n at c.swap_remove-removed.ensures.by_index.1 in
    let order : IsPermutation list (c.swap_remove-removed.result ∷ left) = rw c.swap_remove-removed.ensures.items (IsPermutation-swap_remove list place c.swap_remove-removed.result at.0 c.swap_remove-removed.ensures.value) in
    record {
      placed = places_moved list left c.self.inside.places.items place c.index.result.now c.self.invariant.placed size within (λ d. last d (omega arith)) others c.index.ensures;
      counted = rw c.swap_remove-removed.ensures.items (counts_removed list c.self.inside.counts.items c.count_down.new.counts.items place c.swap_remove-removed.result c.self.invariant.counted at.0 c.swap_remove-removed.ensures.value c.count_down.ensures);
      highest = top_removed list left c.self.inside.top place c.self.invariant.highest size last others;
      held_by_dir = c.take.ensures list left order c.self.invariant.held_by_dir;
    }

pub invariant_of-self-else-place-len : goal.invariant_of-self-else-place-len
invariant_of-self-else-place-len c =
    let list = c.self.inside.list.items in
    let left = c.swap_remove-removed.new.self.items in
    let place = c.in-Some.place in
    let at = rw c.deref.ensures.value at c.in-Some.ensures in
    let size : length left + 1 ≡ length list = omega (arith, c.swap_remove-removed.ensures.len) in
    let n : vec_len c.self.inside.list ≡ length list = omega arith in
    let past : length left ≤ place = omega (arith, c.if-place-len.false, c.len.ensures) in
    let last : (d : Owner) → place + 1 < length list → get_or left place d ≡ get_or list (length list - 1) d = rw n at c.swap_remove-removed.ensures.by_index.0 in
    let others : (k : ℕ) (d : Owner) → k ≢ place → k + 1 < length list → get_or left k d ≡ get_or list k d = rw n at c.swap_remove-removed.ensures.by_index.1 in
    let order : IsPermutation list (c.swap_remove-removed.result ∷ left) = rw c.swap_remove-removed.ensures.items (IsPermutation-swap_remove list place c.swap_remove-removed.result at.0 c.swap_remove-removed.ensures.value) in
    record {
      placed = places_cut list left c.self.inside.places.items place c.self.invariant.placed size past others;
      counted = rw c.swap_remove-removed.ensures.items (counts_removed list c.self.inside.counts.items c.count_down.new.counts.items place c.swap_remove-removed.result c.self.invariant.counted at.0 c.swap_remove-removed.ensures.value c.count_down.ensures);
      highest = top_removed list left c.self.inside.top place c.self.invariant.highest size last others;
      held_by_dir = c.take.ensures list left order c.self.invariant.held_by_dir;
    }

pub returns-then-place-len-clause-found : goal.returns-then-place-len-clause-found
returns-then-place-len-clause-found c o has same =
    let at = rw c.deref.ensures.value at c.in-Some.ensures in
    let node : c.swap_remove-removed.result.node ≡ o.node = ap (λ (p : Owner). p.node) c.swap_remove-removed.ensures.value ∙ (at.1 c.swap_remove-removed.result ∙ sym same) in
    subst (λ (os : List Owner). IsPermutation os (o ∷ c.swap_remove-removed.new.self.items)) c.self.view_is (rw c.swap_remove-removed.ensures.items (taken_out c.self.inside.list.items c.self.inside.places.items c.in-Some.place c.swap_remove-removed.result o c.self.invariant.placed at.0 c.swap_remove-removed.ensures.value node (rw (← c.self.view_is) at has)))

pub returns-else-place-len-clause-found : goal.returns-else-place-len-clause-found
returns-else-place-len-clause-found c o has same =
    let at = rw c.deref.ensures.value at c.in-Some.ensures in
    let node : c.swap_remove-removed.result.node ≡ o.node = ap (λ (p : Owner). p.node) c.swap_remove-removed.ensures.value ∙ (at.1 c.swap_remove-removed.result ∙ sym same) in
    subst (λ (os : List Owner). IsPermutation os (o ∷ c.swap_remove-removed.new.self.items)) c.self.view_is (rw c.swap_remove-removed.ensures.items (taken_out c.self.inside.list.items c.self.inside.places.items c.in-Some.place c.swap_remove-removed.result o c.self.invariant.placed at.0 c.swap_remove-removed.ensures.value node (rw (← c.self.view_is) at has)))
