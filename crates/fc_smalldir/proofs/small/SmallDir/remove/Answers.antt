use Rattle.std.proofs.Common.{subst, sym}
use Rattle.fc_dirs.specs.Small.{IsSmall}
use Rattle.fc_smalldir.specs.Fields.{dir_of}
use Rattle.fc_smalldir.proofs.SmallLemmas.{small_removed}
use Rattle.fc_smalldir.proofs.small.SmallDir.remove.Goals as goal

pub invariant_of-self : goal.invariant_of-self
invariant_of-self c =
    let head = c.self.inside.head in
    let d = dir_of head c.self.inside.entries.items in
    subst (λ l. IsSmall (dir_of head l)) (sym c.remove.ensures.items) (small_removed d c.args.at c.self.invariant (rw (← c.self.view_is) at c.requires))
