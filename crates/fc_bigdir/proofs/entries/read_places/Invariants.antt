use Rattle.std.proofs.Common.{◌≡◌, map}
use Rattle.std.specs.List.{range_with_len}
use Rattle.fc_dirs.specs.Big.{entry_bytes, name_place}
use Rattle.fc_bigdir.proofs.entries.read_places.Given as goal

abbrev pub invariant-loop-i : goal.invariant-loop-i
invariant-loop-i l = l.places.items ≡ map (λ i. name_place (entry_bytes l.fn.second_form l.fn.b i)) (range_with_len 0 l.i)
