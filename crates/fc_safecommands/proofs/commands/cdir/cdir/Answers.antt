use Rattle.fc_model.specs.Command.{Command}
use Rattle.fc_commands.proofs.JudgmentLemmas.{ok_then}
use Rattle.fc_safecommands.proofs.commands.cdir.cdir.Goals as goal

pub carry_out-requires-clause-judged : goal.carry_out-requires-clause-judged
carry_out-requires-clause-judged g c = (Command.Cdir c.args.path.now, c.args.read_only, c.cdir_job-judged.ensures.judged)

pub returns-clause-refused : goal.returns-clause-refused
returns-clause-refused g c = c.carry_out.ensures.refused (Command.Cdir c.args.path.now) c.args.read_only c.cdir_job-judged.ensures.judged

pub returns-clause-changed : goal.returns-clause-changed
returns-clause-changed g c = ok_then c.carry_out.result (λ each. each (Command.Cdir c.args.path.now) c.args.read_only c.cdir_job-judged.ensures.judged) c.carry_out.ensures.changed

pub returns-clause-tree : goal.returns-clause-tree
returns-clause-tree g c = c.carry_out.ensures.tree (Command.Cdir c.args.path.now) c.args.read_only c.cdir_job-judged.ensures.judged
