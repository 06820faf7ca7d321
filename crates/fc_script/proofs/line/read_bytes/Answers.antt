use Rattle.std.proofs.Common.{◌∙◌, sym, ap, Some}
use Rattle.fc_script.proofs.PairLemmas.{pairs_of-decode}
use Rattle.fc_script.proofs.line.read_bytes.Goals as goal

pub returns-in-Ok : goal.returns-in-Ok
returns-in-Ok c = pairs_of-decode c.args.digits.now c.in-Ok.bytes.items c.in-Ok.ensures.ok ∙ sym (ap Some c.new.ensures)
