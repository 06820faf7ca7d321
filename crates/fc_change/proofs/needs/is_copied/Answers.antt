use Rattle.std.proofs.Common.{sym, ap, ◌∙◌}
use Rattle.fc_image.specs.Layout.{Layout}
use Rattle.fc_space.specs.Space.{layout_of}
use Rattle.fc_change.specs.Needs.{copied_on}
use Rattle.fc_change.proofs.needs.is_copied.Goals as goal

pub returns-in-NewMapped : goal.returns-in-NewMapped
returns-in-NewMapped c =
    c.copied_among.ensures
    ∙ sym (ap (λ (l : Layout). copied_on l c.args.held.now.owners.now c.args.renaming.target.node c.args.renaming.holder) (ap layout_of (sym c.space.ensures ∙ c.in-NewMapped.is)))
