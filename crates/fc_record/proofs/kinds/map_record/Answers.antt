use Rattle.std.proofs.Common.{◌≡◌, ◌+◌, ◌*◌, Ok, length, sym, ap, ◌∙◌, arith}
use Rattle.std.proofs.lemmas.Bool.{leb-false}
use Rattle.fc_bytes.specs.Words.{bytes_at}
use Rattle.fc_record.specs.Parts.{record_in_map}
use Rattle.fc_record.proofs.PartLemmas.{too_short}
use Rattle.fc_record.proofs.kinds.map_record.Goals as goal

pub returns-then-not-branch-clause-found : goal.returns-then-not-branch-clause-found
returns-then-not-branch-clause-found g c = λ image told.
    let there = c.in_ok-fetch.ensures.there image told in
    let long : length c.args.sector.now ≡ 1024 = omega (arith, c.fits-sector) in
    let short = leb-false (256 * c.args.first + length c.args.sector.now) (length image) (sym there ∙ c.if-not-branch.true) in
    too_short image (256 * c.args.first) (omega (arith, short, long))

pub returns-then-not-branch-clause-filled : goal.returns-then-not-branch-clause-filled
returns-then-not-branch-clause-filled g c = λ image told enough.
    let there = c.in_ok-fetch.ensures.there image told in
    let long : length c.args.sector.now ≡ 1024 = omega (arith, c.fits-sector) in
    let short = leb-false (256 * c.args.first + length c.args.sector.now) (length image) (sym there ∙ c.if-not-branch.true) in
    absurd (omega (arith, short, long, enough))

pub returns-clause-found : goal.returns-clause-found
returns-clause-found g c = λ image told.
    let long : length c.args.sector.now ≡ 1024 = omega (arith, c.fits-sector) in
    let filled = c.in_ok-fetch.ensures.filled (ap Ok c.if-not-branch.false) image told in
    c.record_in_map.ensures.value ∙ ap record_in_map (filled ∙ ap (bytes_at image (256 * c.args.first)) long)

pub returns-clause-filled : goal.returns-clause-filled
returns-clause-filled g c = λ image told enough.
    let long : length c.args.sector.now ≡ 1024 = omega (arith, c.fits-sector) in
    c.in_ok-fetch.ensures.filled (ap Ok c.if-not-branch.false) image told ∙ ap (bytes_at image (256 * c.args.first)) long
