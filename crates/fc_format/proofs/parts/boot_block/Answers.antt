use Rattle.fc_format.proofs.BlockLemmas.{boot_laid}
use Rattle.fc_format.proofs.parts.boot_block.Goals as goal

pub returns : goal.returns
returns c = boot_laid c.args.of.now c.put.new.b c.boot_check.result c.told-of c.put.ensures.bytes c.boot_check.ensures
