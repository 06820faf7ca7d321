use Rattle.std.proofs.Common.{[]}
use Rattle.fc_tree.proofs.MemberLemmas.{contains_here}
use Rattle.fc_change.specs.Directories.{Rewriting}
use Rattle.fc_change.proofs.drafts.removal.remove.Goals as goal

pub leave-requires : goal.leave-requires
leave-requires c = c.requires.2.first (c.args.target.holder, Rewriting.Leaves c.args.target.at) (contains_here (c.args.target.holder, Rewriting.Leaves c.args.target.at) [])
