use Rattle.std.proofs.Common.{ℕ, Option, sym, subst}
use Rattle.std.specs.Option.{option_to_list}
use Rattle.fc_placing.specs.Leaving.{LeavesIds, LeavesUsed}
use Rattle.fc_placing.proofs.LeavingLemmas.{leaves_ids}
use Rattle.fc_placing.proofs.UsedLemmas.{leaves_used}
use Rattle.fc_placing.proofs.leaving.left_by_replaced.Goals as goal

pub returns-clause-exactly : goal.returns-clause-exactly
returns-clause-exactly c = subst (λ (r : Option ℕ). LeavesIds c.args.owners.now c.args.node c.args.shared (option_to_list r)) (sym c.left_among.ensures) (leaves_ids c.args.owners.now c.args.node c.args.shared)

pub returns-clause-used : goal.returns-clause-used
returns-clause-used c = subst (λ (r : Option ℕ). LeavesUsed c.args.owners.now (option_to_list r)) (sym c.left_among.ensures) (leaves_used c.args.owners.now c.args.node c.args.shared)
