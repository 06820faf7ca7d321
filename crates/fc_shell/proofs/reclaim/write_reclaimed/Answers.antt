use Rattle.fc_shell.proofs.ReclaimLemmas.{back_cut, front_cut, number_cut}
use Rattle.fc_shell.proofs.reclaim.write_reclaimed.Goals as goal

pub returns-in_err-write_all-clause-part : goal.returns-in_err-write_all-clause-part
returns-in_err-write_all-clause-part g c =
    let taken = g.K.Sink.taken in
    front_cut (taken c.args.out.now) (taken c.write_all.new.out) c.args.bytes c.write_all.ensures.part

pub returns-in_err-write_number-clause-part : goal.returns-in_err-write_number-clause-part
returns-in_err-write_number-clause-part g c =
    let taken = g.K.Sink.taken in
    number_cut (taken c.args.out.now) (taken c.write_all.new.out) (taken c.write_number.new.out) c.args.bytes c.in_ok-write_all.ensures.written c.write_number.ensures.part

pub returns-clause-part : goal.returns-clause-part
returns-clause-part g c =
    let taken = g.K.Sink.taken in
    back_cut (taken c.args.out.now) (taken c.write_all.new.out) (taken c.write_number.new.out) (taken c.write_all-2.new.out) c.args.bytes c.in_ok-write_all.ensures.written c.in_ok-write_number.ensures.written
    c.write_all-2.ensures.part
