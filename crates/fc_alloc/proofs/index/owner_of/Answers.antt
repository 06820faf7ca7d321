use Rattle.std.proofs.Common.{sym}
use Rattle.fc_alloc.proofs.PlaceLemmas.{blank}
use Rattle.fc_alloc.proofs.HeldLemmas.{no_owner, owner_found}
use Rattle.fc_alloc.proofs.index.owner_of.Goals as goal

pub returns : goal.returns
returns c =
    let at = c.in-Some.ensures in
    sym (owner_found c.args.list.now c.args.places.now c.in-Some.place c.args.node blank c.requires at.0 (at.1 blank))

pub returns-in_default : goal.returns-in_default
returns-in_default c = sym (no_owner c.args.list.now c.args.node c.in_default.ensures)
