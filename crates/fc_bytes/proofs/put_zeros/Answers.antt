use Rattle.std.proofs.Common.{◌≡◌, ◌-◌, length, drop, arith}
use Rattle.std.proofs.lemmas.List.{length-take, length-drop}
use Rattle.std.proofs.lemmas.Slice.{drop-put_mid}
use Rattle.fc_bytes.proofs.put_zeros.Goals as goal

pub returns-clause-rest : goal.returns-clause-rest
returns-clause-rest c =
    let b = c.args.b.now in
    let at = c.args.at in
    let end = c.args.end in
    let order = c.requires.order in
    let within = c.requires.within in
    let len : length c.fill.new.self ≡ end - at = omega (arith, c.fill.ensures.len, length-take (end - at) (drop at b), length-drop at b, order, within) in
    drop-put_mid at (end - at) b c.fill.new.self end (omega (arith, order)) (omega (arith, order, within)) len
