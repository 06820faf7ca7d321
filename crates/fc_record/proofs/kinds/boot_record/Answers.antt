use Rattle.std.proofs.Common.{Ok, ap, sym, ◌∙◌}
use Rattle.fc_record.proofs.PartLemmas.{boot_found}
use Rattle.fc_record.proofs.kinds.boot_record.Goals as goal

pub returns-clause-found : goal.returns-clause-found
returns-clause-found g c = λ image told.
    let there = c.in_ok-fetch.ensures.there image told in
    let block = c.in_ok-fetch.ensures.filled (ap Ok c.if-not-branch.false) image told in
    c.record_in_boot.ensures.value ∙ boot_found image c.fetch.new.into (sym c.if-not-branch.false ∙ there) block
