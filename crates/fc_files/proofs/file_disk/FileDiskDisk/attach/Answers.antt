use Rattle.fc_files.proofs.NamedLemmas.{asked_last, asked_more}
use Rattle.fc_files.proofs.file_disk.FileDiskDisk.attach.Goals as goal

pub invariant_of-self-clause-named : goal.invariant_of-self-clause-named
invariant_of-self-clause-named g c = asked_more _ _ c.args.self.now.asks.list _ (c.as_bytes.result.now, c.args.blank) (c.in-Ok-None.ensures.none c.in-Ok-None.field-0-is) c.note.ensures c.args.self.now.named

pub invariant_of-self-in-Ok-Some-clause-named : goal.invariant_of-self-in-Ok-Some-clause-named
invariant_of-self-in-Ok-Some-clause-named g c = asked_last _ c.args.self.now.asks.list _ c.args.name.now c.as_bytes.result.now c.args.blank c.as_bytes.ensures.value c.note.ensures (rw c.in-Ok-Some.field-0-is at c.in-Ok-Some.ensures.name)

pub invariant_of-self-in-Err-clause-named : goal.invariant_of-self-in-Err-clause-named
invariant_of-self-in-Err-clause-named g c = asked_more _ _ c.args.self.now.asks.list _ (c.as_bytes.result.now, c.args.blank) c.in-Err.ensures.failed c.note.ensures c.args.self.now.named
