use Rattle.std.proofs.Common.{◌+◌, List, slice_set, slice_index_or, sym, ap, subst, ◌∙◌}
use Rattle.fc_oldmap.specs.declared.Hole.{Hole}
use Rattle.fc_oldmap.specs.Holes.{hole, TouchesNext}
use Rattle.fc_oldmap.proofs.PlaceLemmas.{joined_at-written, joined_at-apart}
use Rattle.fc_oldmap.proofs.holes.join_next.Goals as goal

pub returns-then-touches_next : goal.returns-then-touches_next
returns-then-touches_next c =
    let touches = c.touches_next.ensures.0 c.if-touches_next.true in
    joined_at-written c.args.holes.now.items c.deref.result.now c.remove-next.new.self.items c.set.new.holes.items c.args.i c.remove-next.result _ touches c.deref.ensures.0 c.remove-next.ensures.items c.remove-next.ensures.value (c.set.ensures ∙ ap (λ (l : List Hole). slice_set c.remove-next.new.self.items c.args.i (hole (slice_index_or l c.args.i (hole 0 0)).start ((slice_index_or l c.args.i (hole 0 0)).len + c.remove-next.result.len))) (c.deref-then-touches_next.ensures.0 ∙ sym c.deref.ensures.0))

pub returns-else-touches_next : goal.returns-else-touches_next
returns-else-touches_next c =
    let T : List Hole → Type 0 = λ l. TouchesNext l c.args.i in
    sym (joined_at-apart c.args.holes.now.items c.args.i (λ t. cc (c.touches_next.ensures.1 (subst T (sym c.deref.ensures.0) t), c.if-touches_next.false)))
