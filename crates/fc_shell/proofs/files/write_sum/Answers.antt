use Rattle.std.proofs.Common.{◌∷◌}
use Rattle.hex.specs.Hex.{encode_lower}
use Rattle.fc_script.specs.Texts.{ok_line}
use Rattle.fc_shell.proofs.WritingLemmas.{part_of_first, part_of_second}
use Rattle.fc_shell.proofs.files.write_sum.Goals as goal

pub returns-in_err-write_hex-clause-part : goal.returns-in_err-write_hex-clause-part
returns-in_err-write_hex-clause-part g c =
    let taken = g.K.Sink.taken in
    part_of_first (taken c.args.out.now) (taken c.write_hex.new.out) (encode_lower c.args.sum.now) (10 ∷ ok_line) c.write_hex.ensures.part

pub returns-clause-part : goal.returns-clause-part
returns-clause-part g c =
    let taken = g.K.Sink.taken in
    part_of_second (taken c.args.out.now) (taken c.write_hex.new.out) (taken c.write_all.new.out) (encode_lower c.args.sum.now) (10 ∷ ok_line) c.in_ok-write_hex.ensures.written c.write_all.ensures.part
