use Rattle.fc_tree.proofs.DirectoryLemmas.{long_says, seven_says, ten_says}
use Rattle.fc_tree.proofs.directory.body_of.Goals as goal

pub returns-in_ok-read-in-Seven-clause-ok : goal.returns-in_ok-read-in-Seven-clause-ok
returns-in_ok-read-in-Seven-clause-ok c = seven_says c.args.form c.args.bytes.now c.in_ok-read-in-Seven.field-0 c.in-Seven.is c.in_ok-read-in-Seven.ensures.ok c.in_ok-read-in-Seven.ensures.form

pub returns-in_ok-read-in-Ten-clause-ok : goal.returns-in_ok-read-in-Ten-clause-ok
returns-in_ok-read-in-Ten-clause-ok c = ten_says c.args.form c.args.bytes.now c.in_ok-read-in-Ten.field-0 c.in-Ten.is c.in_ok-read-in-Ten.ensures.ok c.in_ok-read-in-Ten.ensures.form

pub returns-in_ok-read-in-Long-clause-ok : goal.returns-in_ok-read-in-Long-clause-ok
returns-in_ok-read-in-Long-clause-ok c = long_says c.args.form c.args.bytes.now c.in_ok-read-in-Long.field-0 c.in-Long.is c.in_ok-read-in-Long.ensures.ok
