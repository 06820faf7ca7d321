use Rattle.fc_files.proofs.NamedLemmas.{named_still}
use Rattle.fc_files.proofs.file_disk.FileDiskDisk.sync.Goals as goal

pub invariant_of-self-clause-named : goal.invariant_of-self-clause-named
invariant_of-self-clause-named g c = named_still _ _ _ c.sync-synced.ensures c.args.self.now.named

pub invariant_of-self-else-is_err-clause-named : goal.invariant_of-self-else-is_err-clause-named
invariant_of-self-else-is_err-clause-named g c = named_still _ _ _ c.sync-synced.ensures c.args.self.now.named
