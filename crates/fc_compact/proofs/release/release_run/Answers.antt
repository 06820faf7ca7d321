use Rattle.fc_newmap.proofs.ComposeLemmas.{edit_none}
use Rattle.fc_compact.proofs.ReleaseLemmas.{run_is_at}
use Rattle.fc_compact.proofs.release.release_run.Goals as goal

pub release-requires-clause-run : goal.release-requires-clause-run
release-requires-clause-run c = run_is_at c.args.map.now c.args.z c.args.run c.is_map.ensures c.requires.zone c.requires.run

pub returns-else-has_id-clause-edit : goal.returns-else-has_id-clause-edit
returns-else-has_id-clause-edit c = edit_none c.args.map.now c.args.z c.is_map.ensures
