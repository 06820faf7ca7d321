use Rattle.fc_model.specs.Command.{Command}
use Rattle.fc_commands.proofs.JudgmentLemmas.{ok_then}
use Rattle.fc_safecommands.proofs.commands.save.create.Goals as goal

pub carry_out-requires-clause-judged : goal.carry_out-requires-clause-judged
carry_out-requires-clause-judged g c = (Command.Create c.args.path.now c.args.words.load c.args.words.exec c.args.words.len, c.args.read_only, c.file_job-judged.ensures.created)

pub returns-clause-refused : goal.returns-clause-refused
returns-clause-refused g c = c.carry_out.ensures.refused (Command.Create c.args.path.now c.args.words.load c.args.words.exec c.args.words.len) c.args.read_only c.file_job-judged.ensures.created

pub returns-clause-changed : goal.returns-clause-changed
returns-clause-changed g c = ok_then c.carry_out.result (λ each. each (Command.Create c.args.path.now c.args.words.load c.args.words.exec c.args.words.len) c.args.read_only c.file_job-judged.ensures.created) c.carry_out.ensures.changed

pub returns-clause-tree : goal.returns-clause-tree
returns-clause-tree g c = c.carry_out.ensures.tree (Command.Create c.args.path.now c.args.words.load c.args.words.exec c.args.words.len) c.args.read_only c.file_job-judged.ensures.created
