use Rattle.std.proofs.Common.{refl, arith}
use Rattle.std.proofs.lemmas.Grind.{common_steps}
use Rattle.std.specs.List.{flat_map}
use Rattle.fc_shell.specs.Told.{told_line, told_lines}
use Rattle.fc_shell.proofs.ReplyLemmas.{ok_reply}
use Rattle.fc_shell.proofs.cat.listing.Goals as goal

pub returns : goal.returns
returns c = ok_reply _ (flat_map told_line c.args.lines.now.items) (told_lines c.args.lines.now.items) (grind (arith, common_steps)) refl refl
