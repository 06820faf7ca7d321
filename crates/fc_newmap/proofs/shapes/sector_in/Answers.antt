use Rattle.std.proofs.Common.{◌∙◌, ◌+◌, ◌-◌, ap, ℕ, take, drop}
use Rattle.fc_newmap.proofs.HeldLemmas.{slice_is}
use Rattle.fc_newmap.proofs.shapes.sector_in.Goals as goal

pub returns-clause-value : goal.returns-clause-value
returns-clause-value c =
    ap (λ (from : ℕ). take (from + c.args.g.now.sector - from) (drop from c.args.zones.now)) c.place_of-from.ensures
    ∙ slice_is c.args.g.now c.args.zones.now c.args.z c.requires.whole c.requires.zone
