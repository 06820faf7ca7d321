use Rattle.std.proofs.Common.{◌≡◌, ◌<◌, ◌^◌, ℕ, sym, subst, ap, ◌∙◌}
use Rattle.fc_dirs.specs.Small.{SmallDir}
use Rattle.fc_oldlaws.specs.moves.After.{parent_after, start_after}
use Rattle.fc_volume.proofs.CompactingLemmas.{parent_low}
use Rattle.fc_volume.proofs.old.compacting.directories.readdress.Goals as goal

pub set_parent-requires : goal.set_parent-requires
set_parent-requires c =
    let parent : c.parent.result ≡ c.args.dir.now.parent = c.parent.ensures ∙ ap (λ (d : SmallDir). d.parent) c.move_entries.ensures.dir in
    let move = start_after c.args.moves.now.before.items c.args.moves.now.after.items in
    subst (λ (n : ℕ). n < 2 ^ 24) (sym (c.parent_after-parent.ensures ∙ ap (parent_after move c.args.holder) parent))
    (parent_low move c.args.holder c.args.dir.now.parent c.requires.low c.entries.ensures.small.parent)
