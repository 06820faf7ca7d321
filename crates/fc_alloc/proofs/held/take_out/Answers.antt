use Rattle.std.proofs.Common.{◌≡◌, ◌<◌, ◌≤◌, ◌+◌, ◌-◌, ◌∷◌, ◌∙◌, ℕ, List, Some, None, length, length-drop, get_or, drop, ap, sym, subst, arith, IsPermutation}
use Rattle.std.specs.Prelude.{IsTrue}
use Rattle.std.specs.List.{position}
use Rattle.std.proofs.lemmas.List.{get_or-drop}
use Rattle.std.proofs.lemmas.List.Quantifiers.{position-Some}
use Rattle.std.proofs.lemmas.List.Sorted.{IsPermutation-remove}
use Rattle.fc_alloc.specs.declared.owner.Owner.{Owner}
use Rattle.fc_alloc.specs.Owners.{AreInOrder, is_same}
use Rattle.fc_alloc.proofs.HeldLemmas.{not_missed, same_is}
use Rattle.fc_alloc.proofs.OrderLemmas.{order_taken, stands_behind}
use Rattle.fc_alloc.proofs.held.take_out.Goals as goal
use Rattle.fc_alloc.proofs.held.take_out.Goals.{After-remove, In_default, then-sorted, else-sorted}

-- where the owner stands
found : (c : After-remove) → (c.if-sorted.from + c.in-Some.further < length c.args.row.now.items)
    × (get_or c.args.row.now.items (c.if-sorted.from + c.in-Some.further) c.args.o.now ≡ c.args.o.now)
found c =
    let row = c.args.row.now.items in
    let o = c.args.o.now in
    let from = c.if-sorted.from in
    let further = c.in-Some.further in
    let is : position (λ p. is_same p o) (drop from row) ≡ Some further = subst (λ (os : List Owner). position (λ p. is_same p o) os ≡ Some further) (c.split_at.ensures.back ∙ ap (drop from) c.deref-2.ensures.value) (sym c.stands_at.ensures ∙ c.in-Some.is) in
    let at = position-Some (λ p. is_same p o) (drop from row) further o is in
    let long = length-drop from row in
    (omega (arith, at.0, long), sym (get_or-drop from row further o) ∙ same_is (get_or (drop from row) further o) o at.1)

pub returns-in-Some-clause-same : goal.returns-in-Some-clause-same
returns-in-Some-clause-same c order has =
    let row = c.args.row.now.items in
    let o = c.args.o.now in
    let at = found c in
    subst (λ (left : List Owner). IsPermutation row (o ∷ left)) (sym c.remove.ensures.items) (IsPermutation-remove row (c.if-sorted.from + c.in-Some.further) o at.0 (sym at.1))

pub returns-in-Some-clause-sorted : goal.returns-in-Some-clause-sorted
returns-in-Some-clause-sorted c order =
    let at = found c in
    subst AreInOrder (sym c.remove.ensures.items) (order_taken c.args.row.now.items (c.if-sorted.from + c.in-Some.further) order at.0)

-- an owner that is there stands behind where the search starts
behind : (c : In_default) → (IsTrue c.args.sorted → AreInOrder c.args.row.now.items) → (k : ℕ) → get_or c.args.row.now.items k c.args.o.now ≡ c.args.o.now → c.if-sorted.from ≤ k
behind c order k is =
    elim c.if-sorted.branch [
      | then-sorted w ↦
          let row = c.args.row.now.items in
          let at = rw w.deref.ensures.value at w.place_in-from.ensures in
          let past = stands_behind row w.place_in-from.result c.args.o.now (order w.if-sorted.true) at.within (at.point (order w.if-sorted.true)) k is in
          omega (arith, past, w.from-is)
      | else-sorted w ↦ omega (arith, w.from-is)
    ]

-- it is found
pub returns-in_default-clause-same : goal.returns-in_default-clause-same
returns-in_default-clause-same c order has =
    let row = c.args.row.now.items in
    let o = c.args.o.now in
    let from = c.if-sorted.from in
    let none : position (λ p. is_same p o) (drop from row) ≡ None = subst (λ (os : List Owner). position (λ p. is_same p o) os ≡ None) (c.split_at.ensures.back ∙ ap (drop from) c.deref-2.ensures.value) (sym c.stands_at.ensures ∙ c.in_default.is) in
    let past : from ≤ has.0 = behind c order has.0 has.2 in
    let long = length-drop from row in
    let place : from + (has.0 - from) ≡ has.0 = omega (arith, past) in
    absurd (not_missed (drop from row) o (has.0 - from, omega (arith, long, past, has.1), get_or-drop from row (has.0 - from) o ∙ (ap (λ k. get_or row k o) place ∙ has.2)) none)
