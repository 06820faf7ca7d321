use Rattle.std.proofs.Common.{◌<◌, ◌∙◌, ap, subst, sym, ℕ}
use Rattle.fc_record.specs.Record.{id_limit}
use Rattle.fc_newmap.proofs.IdLemmas.{unused_here, unused_later}
use Rattle.fc_newmap.proofs.map.NewMap.next_unused.Goals as goal
use Rattle.fc_newmap.proofs.map.NewMap.next_unused.Goals.{After-is_used}

low : (c : After-is_used) → c.loop-id.id < id_limit c.args.self.now.geometry
low c = subst (λ (n : ℕ). c.loop-id.id < n) (c.id_limit-id-end.ensures ∙ ap id_limit c.geometry.ensures.value) c.loop-id-test.true

pub returns-then-not-is_used-clause-least : goal.returns-then-not-is_used-clause-least
returns-then-not-is_used-clause-least c =
    sym c.loop-id.invariant
    ∙ unused_here c.args.self.now c.loop-id.id (low (goal.at.returns-then-not-is_used-clause-least c).After-is_used) (sym c.is_used.ensures ∙ c.if-not-is_used.true)

pub loop-id-preserved : goal.loop-id-preserved
loop-id-preserved c =
    sym (unused_later c.args.self.now c.loop-id.id (low (goal.at.loop-id-preserved c).After-is_used) (sym c.is_used.ensures ∙ c.if-not-is_used.false)) ∙ c.loop-id.invariant
