use Rattle.std.proofs.Common.{◌≡◌, ◌≤◌, ◌*◌, map}
use Rattle.std.specs.List.{range_with_len}
use Rattle.fc_dirs.specs.Big.{big_entry, entry_bytes, heap_of}
use Rattle.fc_bigdir.specs.Fields.{packed_size}
use Rattle.fc_bigdir.proofs.EntryLemmas.{AreRight}
use Rattle.fc_bigdir.proofs.entries.read_entries.Given as goal

abbrev pub invariant-loop-i : goal.invariant-loop-i
invariant-loop-i l =
    (l.entries.items ≡ map (λ i. big_entry (heap_of l.fn.second_form l.fn.b) (entry_bytes l.fn.second_form l.fn.b i)) (range_with_len 0 l.i))
    × AreRight l.fn.second_form l.fn.b l.i
    × (l.packed ≡ packed_size l.entries.items)
    × (l.packed ≤ 256 * l.i)
