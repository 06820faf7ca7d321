use Rattle.fc_smalldir.specs.Fields.{dir_of}
use Rattle.fc_smalldir.proofs.SmallLemmas.{small_changed}
use Rattle.fc_smalldir.proofs.small.SmallDir.change.Goals as goal

pub invariant_of-self : goal.invariant_of-self
invariant_of-self c =
    let d = dir_of c.self.inside.head c.self.inside.entries.items in
    small_changed d c.args.at c.args.e c.self.invariant (rw (← c.self.view_is) at c.requires.present) (rw (← c.self.view_is) at c.requires.same) c.words_fit.ensures.load c.words_fit.ensures.exec c.words_fit.ensures.len
    c.requires.address (rw (← c.self.view_is) at c.requires.attrs) (rw (← c.self.view_is) at c.requires.last)
