use Rattle.fc_model.specs.Command.{Command}
use Rattle.fc_holdings.specs.Holdings.{parts_of}
use Rattle.fc_commands.proofs.JudgmentLemmas.{ok_then}
use Rattle.fc_safecommands.proofs.JudgmentLemmas.{fit_any}
use Rattle.fc_safecommands.proofs.commands.mark.mark.Goals as goal

pub mark_job-judged-requires : goal.mark_job-judged-requires
mark_job-judged-requires g c = let h = parts_of c.args.holdings.now in fit_any h.layout h.nodes c.args.attrs c.requires.suits

pub carry_out-requires-clause-judged : goal.carry_out-requires-clause-judged
carry_out-requires-clause-judged g c = (Command.Mark c.args.path.now c.args.attrs, c.args.read_only, c.mark_job-judged.ensures.judged)

pub returns-clause-refused : goal.returns-clause-refused
returns-clause-refused g c = c.carry_out.ensures.refused (Command.Mark c.args.path.now c.args.attrs) c.args.read_only c.mark_job-judged.ensures.judged

pub returns-clause-changed : goal.returns-clause-changed
returns-clause-changed g c = ok_then c.carry_out.result (λ each. each (Command.Mark c.args.path.now c.args.attrs) c.args.read_only c.mark_job-judged.ensures.judged) c.carry_out.ensures.changed

pub returns-clause-tree : goal.returns-clause-tree
returns-clause-tree g c = c.carry_out.ensures.tree (Command.Mark c.args.path.now c.args.attrs) c.args.read_only c.mark_job-judged.ensures.judged
