use Rattle.fc_alloc.proofs.HeldLemmas.{held_sorted}
use Rattle.fc_alloc.proofs.held.Held.settle.Goals as goal

pub returns-then-not-self-clause-same : goal.returns-then-not-self-clause-same
returns-then-not-self-clause-same c owners had complete =
    held_sorted c.args.self.now.settled owners c.args.self.now.rows.items c.sort_rows.new.rows.items (had complete) c.sort_rows.ensures.same c.sort_rows.ensures.sorted
