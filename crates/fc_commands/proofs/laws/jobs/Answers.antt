use Rattle.fc_commands.proofs.JobLemmas.{laws_of}
use Rattle.fc_commands.proofs.laws.jobs.Goals as goal

pub returns : goal.returns
returns c = λ h job name bytes kind has is tells suffice a judged.
    laws_of c.deletion.ensures c.rewording.ensures c.addition.ensures c.moving.ensures c.copying.ensures h.layout h.nodes h.owners job name bytes kind has is tells suffice a judged
