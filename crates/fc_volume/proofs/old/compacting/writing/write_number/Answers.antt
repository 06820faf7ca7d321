use Rattle.std.proofs.Common.{◌*◌, ℕ, sym, ap, subst}
use Rattle.fc_tree.specs.Nodes.{nodes_of}
use Rattle.fc_volume.specs.OldCompacting.{IsDirWritten}
use Rattle.fc_squash.specs.Places.{ChangesRow}
use Rattle.fc_volume.proofs.OldRoomLemmas.{written_row}
use Rattle.fc_volume.proofs.RowsLemmas.{number_written}
use Rattle.fc_volume.proofs.old.compacting.writing.write_number.Goals as goal

pub returns-in-Small-clause-written : goal.returns-in-Small-clause-written
returns-in-Small-clause-written g c = λ was told.
    let w = c.in_ok-write_directory.ensures.written was told in (
      w.0,
      w.1,
      number_written c.args.map.now (nodes_of c.args.tree.now) c.requires.placed c.args.n c.in-Some.node.now c.in-Small.dir c.row_at-row.result.first c.row_at-row.result.sectors was w.0
          (record { there = sym c.in-Some.ensures; says = c.in-Small.is }) c.row_at-row.ensures.first c.row_at-row.ensures.sectors
          (subst (λ (k : ℕ). IsDirWritten k c.row_at-row.result.first c.row_at-row.result.sectors c.in-Small.dir was w.0) c.requires.size w.2),
    )

pub returns-in-Small-clause-places : goal.returns-in-Small-clause-places
returns-in-Small-clause-places g c = λ sectors have was told.
    let w = c.write_directory.ensures.places was told in (
      w.0,
      w.1,
      written_row c.args.map.now (nodes_of c.args.tree.now) sectors c.args.n c.in-Some.node.now c.in-Small.dir c.row_at-row.result.first c.row_at-row.result.sectors was w.0 c.requires.placed
          (record { there = sym c.in-Some.ensures; says = c.in-Small.is }) c.row_at-row.ensures.first c.row_at-row.ensures.sectors have
          (subst (λ (k : ℕ). ChangesRow k c.row_at-row.result.first c.row_at-row.result.sectors was w.0) (ap (λ (n : ℕ). 256 * n) c.sector_units.ensures.value) w.2),
    )

pub returns-in_err-write_directory-clause-places : goal.returns-in_err-write_directory-clause-places
returns-in_err-write_directory-clause-places g c = λ sectors have was told.
    let w = c.write_directory.ensures.places was told in (
      w.0,
      w.1,
      written_row c.args.map.now (nodes_of c.args.tree.now) sectors c.args.n c.in-Some.node.now c.in-Small.dir c.row_at-row.result.first c.row_at-row.result.sectors was w.0 c.requires.placed
          (record { there = sym c.in-Some.ensures; says = c.in-Small.is }) c.row_at-row.ensures.first c.row_at-row.ensures.sectors have
          (subst (λ (k : ℕ). ChangesRow k c.row_at-row.result.first c.row_at-row.result.sectors was w.0) (ap (λ (n : ℕ). 256 * n) c.sector_units.ensures.value) w.2),
    )
