use Rattle.std.proofs.Common.{length, sym, ap, ◌∙◌}
use Rattle.fc_bigdir.proofs.WrittenEntries.{places_as_many}
use Rattle.fc_bigdir.proofs.big.BigDir.put_unchecked.Goals as goal

pub put_entries-at-requires-clause-places : goal.put_entries-at-requires-clause-places
put_entries-at-requires-clause-places c =
    ap length c.deref.ensures.value ∙ places_as_many _ _ _ c.self.invariant.big.names ∙ sym (ap length c.deref-2.ensures.value)
