use Rattle.std.proofs.Common.{◌≡◌, ◌∷◌, ◌+◌, ◌-◌, true, drop, List, not, ap, subst, sym, refl, ◌∙◌, arith}
use Rattle.std.specs.Prelude.{slice_index_or}
use Rattle.std.specs.Result.{is_ok}
use Rattle.fc_device.specs.declared.disk.Extent.{Extent}
use Rattle.fc_space.specs.declared.index.IdRow.{IdRow}
use Rattle.fc_space.specs.Space.{HaveSectors}
use Rattle.fc_space.proofs.PlaceLemmas.{one_extent}
use Rattle.fc_space.proofs.IndexedLemmas.{AreSought, next_row, sought_behind, sought_part}
use Rattle.fc_space.proofs.indexed.sectors_of_rows.Goals.{else-part-gt0-via-then-part-gt0+else-is_err, else-part-gt0-via-else-part-gt0}
use Rattle.fc_space.proofs.indexed.sectors_of_rows.Goals as goal

pub loop-row-preserved : goal.loop-row-preserved
loop-row-preserved c =
    let none : IdRow = record { id = 0; place = record { first = 0; sectors = 0 } } in
    let rows = c.args.rows.now in
    let skip = c.args.skip in
    let need = c.args.need in
    let i = c.loop-row.row-index in
    let row : IdRow = slice_index_or rows i none in
    let rest : List IdRow = drop (i + 1) rows in
    let before = c.loop-row.before in
    let left = c.loop-row.left in
    let here : AreSought rows skip need c.loop-row.place.items (row ∷ rest) before left =
    subst (λ (l : List IdRow). AreSought rows skip need c.loop-row.place.items l before left) (next_row rows i none (omega (arith, c.loop-row-test.true))) c.loop-row.invariant.sought in
    elim c.else-part-gt0.branch [
      | else-part-gt0-via-then-part-gt0+else-is_err w ↦
          (let done : is_ok w.push.result ≡ true = w.is_err.ensures.negation ∙ ap not w.if-is_err.false in
          let found : List Extent = c.else-part-gt0.place.items in
          let pushed = ap (λ v. v.items) w.place-is ∙ rw done at w.push.ensures.items in
          record {
            sought = sought_part rows skip need c.loop-row.place.items found row rest c.part_of-part.result before left _ _ here c.part_of-part.ensures.sectors
                pushed c.saturating_sub-before.ensures refl;
            each = one_extent c.loop-row.place.items found c.part_of-part.result pushed w.if-part-gt0.true c.loop-row.invariant.each;
          })
      | else-part-gt0-via-else-part-gt0 w ↦ record {
        sought = subst (λ v. AreSought rows skip need v.items rest c.saturating_sub-before.result (left - c.part_of-part.result.sectors)) (sym w.place-is)
            (sought_behind rows skip need c.loop-row.place.items row rest c.part_of-part.result before left _ _ here c.part_of-part.ensures.sectors
            (omega (arith, w.if-part-gt0.false)) c.saturating_sub-before.ensures refl);
        each = subst (λ v. HaveSectors v.items) (sym w.place-is) c.loop-row.invariant.each;
      }
    ]
