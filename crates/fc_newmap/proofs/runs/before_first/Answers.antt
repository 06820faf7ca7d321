use Rattle.fc_newmap.proofs.AheadLemmas.{first_has, stands_first}
use Rattle.fc_newmap.proofs.runs.before_first.Goals as goal

pub at_run-requires-clause-run : goal.at_run-requires-clause-run
at_run-requires-clause-run c = first_has c.args.map.now c.args.id c.args.z c.args.search.start c.requires.map c.requires.zone (c.requires.start c.if-search-eq0.false)

pub returns-else-search-eq0 : goal.returns-else-search-eq0
returns-else-search-eq0 c =
    stands_first c.args.map.now c.args.id c.args.z c.args.search.start c.args.search.more c.at_run.result c.requires.map c.requires.zone (c.requires.start c.if-search-eq0.false) c.at_run.ensures
