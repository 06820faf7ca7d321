use Rattle.std.proofs.Common.{◌∙◌, arith, ap, subst, take, List, ◌++◌, ◌+◌, ◌≡◌, get_or}
use Rattle.std.proofs.lemmas.List.{take_all, take_more}
use Rattle.fc_device.specs.declared.disk.Extent.{Extent}
use Rattle.fc_objects.specs.Extents.{extent_sectors, sectors_in}
use Rattle.fc_tree.specs.Taken.{AreTaken}
use Rattle.fc_tree.proofs.TakenLemmas.{taken_more}
use Rattle.fc_tree.proofs.taken.Taken.take.Goals as goal
use Rattle.fc_space.proofs.IndexedLemmas.{push_sectors}

pub loop-extent-preserved : goal.loop-extent-preserved
loop-extent-preserved c =
    let i = c.loop-extent.invariant in
    let e : Extent = get_or c.args.place.now c.loop-extent.extent-index (record { first = 0; sectors = 0 }) in
    let more : sectors_in (take (c.loop-extent.extent-index + 1) c.args.place.now) ≡ sectors_in (take c.loop-extent.extent-index c.args.place.now) ++ extent_sectors e =
    ap sectors_in (take_more c.args.place.now c.loop-extent.extent-index (record { first = 0; sectors = 0 }) c.loop-extent-test.true) ∙ push_sectors (take c.loop-extent.extent-index c.args.place.now) e in
    record {
      sectors = c.take_extent.ensures.sectors ∙ i.sectors;
      taken = λ taken h. taken_more c.take_extent.new.self (extent_sectors e) _ _ taken more (c.take_extent.ensures.taken _ (i.taken taken h));
    }

pub returns-clause-taken : goal.returns-clause-taken
returns-clause-taken c = λ taken h.
    subst (λ (es : List Extent). AreTaken c.loop-extent.self (sectors_in es ++ taken)) (take_all c.loop-extent.extent-index c.args.place.now (omega (arith, c.loop-extent-test.false)))
    (c.loop-extent.invariant.taken taken h)
