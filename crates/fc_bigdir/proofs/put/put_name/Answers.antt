use Rattle.fc_bigdir.proofs.PutLemmas.{name_put}
use Rattle.fc_bigdir.proofs.put.put_name.Goals as goal

pub returns-then-behind-end-clause-bytes : goal.returns-then-behind-end-clause-bytes
returns-then-behind-end-clause-bytes c =
    name_put c.args.b.now c.put-behind.new.b c.put_zeros.new.b c.args.name.now c.args.at c.put-behind.result c.args.space c.put-behind.ensures.so_far c.put-behind.ensures.end c.requires.within c.put_zeros.ensures.so_far
    c.if-behind-end.true
