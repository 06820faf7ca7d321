use Rattle.std.proofs.Common.{ℕ, List, []}
use Rattle.fc_device.proofs.DiskLaws.{laws}
use Rattle.fc_model.specs.Command.{Command}
use Rattle.fc_holdings.specs.Holdings.{parts_of}
use Rattle.fc_commands.proofs.JudgmentLemmas.{ok_then}
use Rattle.fc_commands.proofs.commands.delete.delete.Goals as goal

pub returns-clause-refused : goal.returns-clause-refused
returns-clause-refused g c = c.carry_out.ensures.refused (Command.Delete c.args.path.now) c.args.read_only c.delete_job-judged.ensures.judged

pub returns-clause-changed : goal.returns-clause-changed
returns-clause-changed g c = ok_then c.carry_out.result (λ each. each (Command.Delete c.args.path.now) c.args.read_only c.delete_job-judged.ensures.judged) c.carry_out.ensures.changed

pub returns-clause-places : goal.returns-clause-places
returns-clause-places g c = c.carry_out.ensures.places (Command.Delete c.args.path.now) c.args.read_only c.delete_job-judged.ensures.judged

pub returns-clause-leaves : goal.returns-clause-leaves
returns-clause-leaves g c = c.carry_out.ensures.leaves (Command.Delete c.args.path.now) c.args.read_only c.delete_job-judged.ensures.judged
