use Rattle.fc_safecommands.proofs.lemmas.JobLemmas.{job_law}
use Rattle.fc_safecommands.proofs.views.jobs.Goals as goal

pub returns : goal.returns
returns c = job_law
