use Rattle.std.proofs.Common.{◌≡◌}
use Rattle.std.specs.List.{range_with_len}
use Rattle.fc_cache.specs.Sectors.{entries_of, entries_without, HoldsNone, KeepsNoMore}
use Rattle.fc_cache.proofs.kept.Kept.remove_row.Given as goal

abbrev pub invariant-loop-i : goal.invariant-loop-i
invariant-loop-i l = record {
  none : HoldsNone l.row.first l.i l.self;
  order : entries_of l.self ≡ entries_without (range_with_len l.row.first l.i) (entries_of l.fn.self);
  no_more : KeepsNoMore l.fn.self l.self;
}
