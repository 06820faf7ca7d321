use Rattle.std.proofs.Common.{◌+◌, Ok, length, ap, sym, ◌∙◌, arith}
use Rattle.std.specs.Prelude.{nat_le}
use Rattle.fc_bytes.specs.Words.{bytes_at}
use Rattle.std.proofs.lemmas.List.{length-take-le}
use Rattle.fc_record.proofs.FrontLemmas.{map_written}
use Rattle.fc_record.proofs.PartLemmas.{old_found}
use Rattle.fc_record.proofs.kinds.old_kind.Goals as goal

pub returns-clause-found : goal.returns-clause-found
returns-clause-found g c = λ image told.
    let long = length-take-le 512 c.args.first.now (omega (arith, c.fits-first)) in
    let there = c.in_ok-fetch.ensures.there image told ∙ ap (λ n. nat_le (0 + n) (length image)) long in
    let map = c.in_ok-fetch.ensures.filled (ap Ok c.if-not-branch.false) image told ∙ ap (bytes_at image 0) long in
    c.kind_in_old_map.ensures.value ∙ old_found image c.fetch.new.into (sym c.if-not-branch.false ∙ there) (omega (arith, c.fetch.auto.into, long)) map

pub returns-clause-map : goal.returns-clause-map
returns-clause-map g c = λ image told kind is.
    let long = length-take-le 512 c.args.first.now (omega (arith, c.fits-first)) in
    let map = c.in_ok-fetch.ensures.filled (ap Ok c.if-not-branch.false) image told ∙ ap (bytes_at image 0) long in
    map_written image c.fetch.new.into _ (omega (arith, c.fetch.auto.into, long)) map
