use Rattle.std.proofs.Common.{List, ℕ, subst}
use Rattle.std.specs.Prelude.{OnOk}
use Rattle.fc_format.specs.Passes.{LengthensFront}
use Rattle.fc_format.proofs.DiscLemmas.{one_zone}
use Rattle.fc_format.proofs.volume.write_one_zone.Goals as goal

pub returns-clause-front : goal.returns-clause-front
returns-clause-front g c =
    subst (λ (l : List ℕ). OnOk c.write_parts.result (LengthensFront g.D.Disk c.args.disk.now c.write_parts.new.disk 0 l)) (one_zone c.args.map.now c.args.root.now c.told-map c.told-root)
    c.write_parts.ensures.front
