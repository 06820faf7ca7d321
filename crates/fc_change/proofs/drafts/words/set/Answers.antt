use Rattle.std.proofs.Common.{[]}
use Rattle.fc_dirs.specs.declared.Entry.{Entry}
use Rattle.fc_drafts.specs.Entries.{set_entry}
use Rattle.fc_tree.proofs.MemberLemmas.{contains_here}
use Rattle.fc_tree.specs.Nodes.{nodes_of}
use Rattle.fc_change.specs.Directories.{Rewriting}
use Rattle.fc_change.proofs.DraftLemmas.{can_reword}
use Rattle.fc_change.proofs.drafts.words.set.Goals as goal

pub reword-requires-clause-can : goal.reword-requires-clause-can
reword-requires-clause-can c =
    let can = c.requires.2 in
    let t = c.args.target in
    can_reword c.args.grown (nodes_of c.args.held.now.tree.now) t (λ (was : Entry). set_entry was c.args.words.load c.args.words.exec c.args.words.access) can.entry c.in_ok-entry.entry c.entry_of-was.result.now
    (can.first (t.holder, Rewriting.Replaces t.at can.entry) (contains_here (t.holder, Rewriting.Replaces t.at can.entry) [])) can.made c.entry_of-was.ensures c.in_ok-entry.ensures
