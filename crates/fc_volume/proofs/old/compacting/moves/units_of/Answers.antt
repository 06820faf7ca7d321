use Rattle.std.proofs.Common.{◌<◌, ◌^◌, ℕ, sym, subst, ap, ◌∙◌, arith}
use Rattle.fc_image.specs.Layout.{dir_form}
use Rattle.fc_image.specs.effects.Short.{old_need}
use Rattle.fc_space.specs.Space.{layout_of}
use Rattle.fc_volume.proofs.CompactingLemmas.{few_units}
use Rattle.fc_volume.proofs.old.compacting.moves.units_of.Goals as goal

pub returns-clause-few : goal.returns-clause-few
returns-clause-few c =
    subst (λ (n : ℕ). n < 2 ^ 32) (sym (c.units_for.ensures ∙ ap (old_need c.in-OldMapped.map) c.object_bytes-bytes.ensures))
    (few_units (dir_form (layout_of c.args.space.now)) c.in-OldMapped.map c.args.e.now c.holes.ensures.map.units (omega arith))
