use Rattle.std.proofs.Common.{◌≡◌, true, arith}
use Rattle.std.proofs.lemmas.Bool.{false_from_ne_true}
use Rattle.fc_alloc.specs.Owners.{has_node}
use Rattle.fc_alloc.proofs.PlaceLemmas.{found_place}
use Rattle.fc_alloc.proofs.index.place_of.Goals as goal
use Rattle.fc_alloc.proofs.index.place_of.Goals.{else-place-list-via-then-place-list+else-list-place, else-place-list-via-else-place-list}

-- the table leads to the owner of a node that has one, so it has none
pub returns-then-node-places : goal.returns-then-node-places
returns-then-node-places c =
    false_from_ne_true _ (λ (has : has_node c.args.list.now c.args.node ≡ true).
    let at = found_place c.args.list.now c.args.places.now c.args.node c.requires has in absurd (omega (arith, at.0)))

pub returns-else-place-list : goal.returns-else-place-list
returns-else-place-list c =
    false_from_ne_true _ (λ (has : has_node c.args.list.now c.args.node ≡ true).
    let at = found_place c.args.list.now c.args.places.now c.args.node c.requires has in
    elim c.else-place-list.branch [
      | else-place-list-via-then-place-list+else-list-place w ↦ w.if-list-place.false (at.2 _)
      | else-place-list-via-else-place-list w ↦ absurd (omega (arith, at.1))
    ])
