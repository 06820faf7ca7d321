use Rattle.fc_safe.proofs.SetLemmas.{search_missed}
use Rattle.fc_safe.proofs.sets.place_of_id.Goals as goal

pub returns-in-Err : goal.returns-in-Err
returns-in-Err c = search_missed c.args.ids.now c.args.id c.in-Err.field-0 c.binary_search.result c.requires c.binary_search.ensures.position c.in-Err.is
