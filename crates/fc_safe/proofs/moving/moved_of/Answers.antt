use Rattle.std.proofs.Common.{◌∙◌, ap, map}
use Rattle.fc_safe.specs.Staying.{last_end}
use Rattle.fc_safe.proofs.MovingLemmas.{ids_are}
use Rattle.fc_safe.proofs.moving.moved_of.Goals as goal

pub returns : goal.returns
returns c =
    let g = c.args.g.now in
    let owners = c.args.owners.now in
    let x = c.args.moving.now in
    record {
      ids = ids_are g owners x.changed.items x.leaving.items c.in_ok-ids.ids.items c.in_ok-ids.ensures.rising c.in_ok-ids.ensures.same (λ o at. (c.requires.placed o at).id_high);
      ends = c.in_ok-ends.ensures ∙ ap (map (last_end g x.leaving.items x.longer owners)) c.deref-3.ensures.value;
    }
