use Rattle.std.proofs.Common.{◌∙◌, sym}
use Rattle.fc_bigdir.specs.Fields.{dir_of}
use Rattle.fc_dirs.proofs.SearchLemmas.{blank}
use Rattle.fc_bigdir.proofs.ChangeLemmas.{big_changed}
use Rattle.fc_bigdir.proofs.KeptLemmas.{packed-set}
use Rattle.fc_bigdir.proofs.big.BigDir.change.Goals as goal
use Rattle.fc_smalldir.proofs.SmallLemmas.{named_at}

pub invariant_of-self : goal.invariant_of-self
invariant_of-self c =
    let s = c.self.inside in
    let d = dir_of s.size s.sequence s.parent s.name.items s.second_form s.reserved s.heap.items s.places.items s.entries.items in
    let present = rw (← c.self.view_is) at c.requires.present in
    let same = rw (← c.self.view_is) at c.requires.same in
    record {
      big = big_changed d c.args.at c.args.e c.self.invariant.big present same c.requires.last;
      packed_is = c.self.invariant.packed_is ∙ sym (packed-set s.entries.items c.args.at c.args.e blank present (named_at s.entries.items c.args.at c.args.e.name same present));
    }
