use Rattle.std.proofs.Common.{sym, ap, subst, ◌∙◌}
use Rattle.std.specs.Option.{unwrap_or}
use Rattle.fc_dirs.specs.declared.Entry.{Entry}
use Rattle.fc_drafts.specs.Entries.{renamed_entry}
use Rattle.fc_tree.specs.Nodes.{nodes_of}
use Rattle.fc_change.specs.declared.change.Turned.TheVariants as turns
use Rattle.fc_change.specs.declared.job.Job.TheVariants as jobs
use Rattle.fc_change.specs.Directories.{CanTellThese}
use Rattle.fc_change.specs.Drafts.{told_first}
use Rattle.fc_change.proofs.ToldLemmas.{same_made}
use Rattle.fc_change.proofs.drafts.renaming.rename_object.Goals as goal

pub tell_holder-requires : goal.tell_holder-requires
tell_holder-requires c =
    let nodes = nodes_of c.args.held.now.tree.now in
    let r = c.args.renaming in
    let made = same_made nodes r.target (λ (was : Entry). renamed_entry was c.args.name.now (unwrap_or c.args.address was.address)) c.requires.entry c.in_ok-entry.entry c.entry_of-was.result.now
    c.requires.made c.entry_of-was.ensures c.in_ok-entry.ensures in
    subst (λ (e : Entry). CanTellThese nodes c.args.grown (told_first (jobs.Move r) e)) made c.requires.first

pub returns : goal.returns
returns c =
    let r = c.args.renaming in
    record {
      entry = c.in_ok-entry.entry;
      made = (c.entry_of-was.result.now, c.entry_of-was.ensures, c.in_ok-entry.ensures);
      first = c.in_ok-first.ensures;
      last = c.in_ok-last.ensures;
      object = ap (λ (e : Entry). turns.Turns r.target.node r.holder e) (c.in_ok-own.ensures ∙ sym c.in_ok-entry.ensures);
    }
