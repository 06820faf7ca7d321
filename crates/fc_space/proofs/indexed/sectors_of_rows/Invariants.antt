use Rattle.std.proofs.Common.{drop}
use Rattle.fc_space.specs.Space.{HaveSectors}
use Rattle.fc_space.proofs.IndexedLemmas.{AreSought}
use Rattle.fc_space.proofs.indexed.sectors_of_rows.Given as goal

-- the rows so far are searched
abbrev pub invariant-loop-row : goal.invariant-loop-row
invariant-loop-row l = record {
  sought : AreSought l.rows l.fn.skip l.fn.need l.place.items (drop l.row-index l.rows) l.before l.left;
  each : HaveSectors l.place.items;
}
