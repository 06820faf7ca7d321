use Rattle.std.proofs.Common.{◌≡◌, ◌+◌, ◌-◌, ◌*◌, length, ℕ, arith}
use Rattle.std.proofs.lemmas.List.{length-replicate}
use Rattle.fc_format.specs.Fresh.{zeros}
use Rattle.fc_format.proofs.PassLemmas.{behind_then, lengthens_then}
use Rattle.fc_format.proofs.passes.write_part.Goals as goal

pub returns-in_err-write_bytes-clause-keeps : goal.returns-in_err-write_bytes-clause-keeps
returns-in_err-write_bytes-clause-keeps g c =
    behind_then g.D.Disk c.args.disk.now c.write_zeros.new.disk c.write_bytes.new.disk (256 * c.args.first) _ _ (omega arith) (omega arith) c.write_zeros.ensures.keeps c.write_bytes.ensures.keeps

pub returns-in_err-write_zeros-clause-keeps : goal.returns-in_err-write_zeros-clause-keeps
returns-in_err-write_zeros-clause-keeps g c = λ start n le was. c.write_zeros.ensures.keeps start n (omega (arith, le)) was

pub returns-clause-keeps : goal.returns-clause-keeps
returns-clause-keeps g c =
    behind_then g.D.Disk c.args.disk.now c.write_zeros.new.disk c.write_bytes.new.disk (256 * c.args.first) _ _ (omega arith) (omega arith) c.write_zeros.ensures.keeps c.write_bytes.ensures.keeps

pub returns-clause-front : goal.returns-clause-front
returns-clause-front g c =
    let more = 256 * (c.args.first - c.args.at) in
    let long : 256 * c.args.at + length (zeros more) ≡ 256 * c.args.first = omega (arith, length-replicate {A = ℕ} more 0, c.requires.order) in
    lengthens_then g.D.Disk c.args.disk.now c.write_zeros.new.disk c.write_bytes.new.disk (256 * c.args.at) (256 * c.args.first) (zeros more) c.args.bytes.now long
    c.in_ok-write_zeros.ensures.front c.in_ok-write_bytes.ensures.front
