use Rattle.fc_objects.specs.Extents.{sectors_in}
use Rattle.fc_safe.proofs.ExtentLemmas.{row_left, row_taken}
use Rattle.fc_safe.proofs.extents.push_row.Goals as goal

pub returns-clause-sectors : goal.returns-clause-sectors
returns-clause-sectors c =
    row_taken (sectors_in c.args.place.now.items) (sectors_in c.push_some.new.place.items) c.args.row c.args.wanted c.min-passed.result c.min-sectors.result c.min-passed.ensures c.min-sectors.ensures
    c.in_ok-push_some.ensures

pub returns-clause-left : goal.returns-clause-left
returns-clause-left c = row_left c.args.row c.args.wanted c.min-passed.result c.min-sectors.result c.min-passed.ensures c.min-sectors.ensures
