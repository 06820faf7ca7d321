use Rattle.fc_safecommands.proofs.JobLemmas.{laws_of}
use Rattle.fc_safecommands.proofs.laws.safe_jobs.Goals as goal

pub returns : goal.returns
returns c = laws_of c.safe_space.ensures c.safe_writing.ensures (record {
  deletes = c.safe_deletion.ensures;
  rewords = c.safe_rewording.ensures;
  adds = c.safe_addition.ensures;
  grows = c.safe_growing.ensures;
  moves = c.safe_moving.ensures;
  grown_moves = c.safe_growing_moves.ensures;
  copies = c.safe_copying.ensures;
  grown_copies = c.safe_growing_copies.ensures;
})
