use Rattle.fc_model.specs.Command.{Command}
use Rattle.fc_commands.proofs.JudgmentLemmas.{ok_then}
use Rattle.fc_safecommands.proofs.commands.save.save.Goals as goal

pub carry_out-requires-clause-judged : goal.carry_out-requires-clause-judged
carry_out-requires-clause-judged g c = (Command.Save c.args.path.now c.args.words.load c.args.words.exec c.args.bytes.now, c.args.read_only, (c.file_job-judged.ensures.saved c.args.bytes.now c.requires.length))

pub returns-clause-refused : goal.returns-clause-refused
returns-clause-refused g c = c.carry_out.ensures.refused (Command.Save c.args.path.now c.args.words.load c.args.words.exec c.args.bytes.now) c.args.read_only (c.file_job-judged.ensures.saved c.args.bytes.now c.requires.length)

pub returns-clause-changed : goal.returns-clause-changed
returns-clause-changed g c = ok_then c.carry_out.result (λ each. each (Command.Save c.args.path.now c.args.words.load c.args.words.exec c.args.bytes.now) c.args.read_only (c.file_job-judged.ensures.saved c.args.bytes.now c.requires.length)) c.carry_out.ensures.changed

pub returns-clause-tree : goal.returns-clause-tree
returns-clause-tree g c = c.carry_out.ensures.tree (Command.Save c.args.path.now c.args.words.load c.args.words.exec c.args.bytes.now) c.args.read_only (c.file_job-judged.ensures.saved c.args.bytes.now c.requires.length)
