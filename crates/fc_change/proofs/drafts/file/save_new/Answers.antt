use Rattle.std.proofs.Common.{[], List, None, sym, ap, subst, ◌∙◌}
use Rattle.fc_dirs.specs.declared.Entry.{Entry}
use Rattle.fc_tree.proofs.MemberLemmas.{contains_here}
use Rattle.fc_tree.specs.Nodes.{nodes_of}
use Rattle.fc_change.specs.declared.change.Says.{Says}
use Rattle.fc_change.specs.declared.change.Turned.TheVariants as turns
use Rattle.fc_change.specs.Directories.{CanTell, Rewriting, TellAll}
use Rattle.fc_change.proofs.drafts.file.save_new.Goals as goal

pub enter-requires : goal.enter-requires
enter-requires c =
    let can = c.requires in
    subst (λ (e : Entry). CanTell c.args.grown (nodes_of c.args.held.now.tree.now) c.args.dir (Rewriting.Enters e)) (can.made ∙ sym c.in_ok-entry.ensures)
    (can.first (c.args.dir, Rewriting.Enters can.entry) (contains_here (c.args.dir, Rewriting.Enters can.entry) []))

pub returns : goal.returns
returns c = record {
  entry = c.in_ok-entry.entry;
  made = c.in_ok-entry.ensures;
  first = (c.in_ok-first.ensures, tt);
  last = subst (λ (ss : List Says). TellAll c.args.grown (nodes_of c.args.held.now.tree.now) [] ss) (sym c.new.ensures.items) tt;
  object = ap (λ (e : Entry). turns.Comes c.args.dir e None) (c.in_ok-own.ensures ∙ sym c.in_ok-entry.ensures);
}
