use Rattle.std.proofs.Common.{List, ap, subst, sym}
use Rattle.fc_newmap.specs.Map.{ZoneRun}
use Rattle.fc_image.specs.effects.Sharing.{new_ids}
use Rattle.fc_plan.specs.Plan.{AreFreeRuns}
use Rattle.fc_plan.specs.Supply.{Stock}
use Rattle.fc_plan.proofs.Order.{map_holes-free}
use Rattle.fc_plan.proofs.supply.Supply.new.Goals as goal

pub invariant_of-result : goal.invariant_of-result
invariant_of-result c =
    let m = c.args.map.now in
    record {
      of_record = c.is_map.ensures.of_record;
      free = subst (λ (hs : List ZoneRun). AreFreeRuns m.geometry hs) (sym c.all.ensures.all) (map_holes-free m c.is_map.ensures);
      walked = c.all.ensures.walked;
    }

pub returns : goal.returns
returns c =
    let m = c.args.map.now in
    ap (λ (hs : List ZoneRun). let s : Stock = record { geometry = m.geometry; holes = hs; ids = new_ids m } in s) c.all.ensures.all
