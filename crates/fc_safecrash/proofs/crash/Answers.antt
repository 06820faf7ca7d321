use Rattle.fc_safecrash.proofs.CrashLemmas.{crash_law}
use Rattle.fc_safecrash.proofs.crash.Goals as goal

pub returns : goal.returns
returns c = crash_law
