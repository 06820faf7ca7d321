use Rattle.fc_shell.proofs.LineLemmas.{all_commands}
use Rattle.fc_shell.proofs.lines.CommandLines.new.Goals as goal

pub returns : goal.returns
returns c = all_commands c.args.script.now
