use Rattle.fc_drafts.proofs.EntryLemmas.{entry_law}
use Rattle.fc_drafts.proofs.laws.made_entries.Goals as goal

pub returns : goal.returns
returns c = entry_law
