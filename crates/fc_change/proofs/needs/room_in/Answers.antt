use Rattle.std.proofs.Common.{sym, subst, ◌∙◌}
use Rattle.fc_dirs.specs.Directory.{Directory}
use Rattle.fc_drafts.specs.Gains.{GetsName, HasRoom}
use Rattle.fc_change.proofs.NeedsLemmas.{never_file, one_content}
use Rattle.fc_change.proofs.needs.room_in.Goals as goal

pub returns-in-Small : goal.returns-in-Small
returns-in-Small c = λ content gain says.
    subst (λ (d : Directory). GetsName d c.args.name.now gain → HasRoom d gain c.in_small.result) (sym (one_content content (Directory.Small c.in-Small.dir) (sym says ∙ c.in-Small.is))) (c.in_small.ensures c.args.name.now gain)

pub returns-in-Big : goal.returns-in-Big
returns-in-Big c = λ content gain says.
    subst (λ (d : Directory). GetsName d c.args.name.now gain → HasRoom d gain c.in_big.result) (sym (one_content content (Directory.Big c.in-Big.dir) (sym says ∙ c.in-Big.is))) (c.in_big.ensures gain)

pub returns-in-File : goal.returns-in-File
returns-in-File c = λ content gain says gets. absurd (never_file content (sym says ∙ c.in-File.is))
