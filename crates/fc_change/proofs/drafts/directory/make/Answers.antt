use Rattle.std.proofs.Common.{[], List, Some, ℕ, sym, ap, ap₂, subst, ◌∙◌}
use Rattle.fc_dirs.specs.declared.Entry.{Entry}
use Rattle.fc_drafts.specs.Entries.{directory_entry}
use Rattle.fc_image.specs.effects.Steady.{new_directory}
use Rattle.fc_names.specs.declared.name.NameForm.{NameForm}
use Rattle.fc_tree.proofs.MemberLemmas.{contains_here}
use Rattle.fc_tree.specs.Nodes.{nodes_of}
use Rattle.fc_change.specs.declared.change.Says.{Says}
use Rattle.fc_change.specs.declared.change.Turned.TheVariants as turns
use Rattle.fc_change.specs.Directories.{CanTell, Rewriting, TellAll}
use Rattle.fc_change.proofs.drafts.directory.make.Goals as goal

pub enter-requires : goal.enter-requires
enter-requires c =
    let can = c.requires in
    let form = ap (λ (f : NameForm). directory_entry f c.args.name.now c.args.address) c.dir_form-form.ensures in
    subst (λ (e : Entry). CanTell c.args.grown (nodes_of c.args.held.now.tree.now) c.args.dir (Rewriting.Enters e)) (can.made ∙ sym (c.in_ok-entry.ensures ∙ form))
    (can.first (c.args.dir, Rewriting.Enters can.entry) (contains_here (c.args.dir, Rewriting.Enters can.entry) []))

pub returns : goal.returns
returns c =
    let form = ap (λ (f : NameForm). directory_entry f c.args.name.now c.args.address) c.dir_form-form.ensures in
    record {
      entry = c.in_ok-entry.entry;
      made = c.in_ok-entry.ensures ∙ form;
      first = (c.in_ok-first.ensures, tt);
      last = subst (λ (ss : List Says). TellAll c.args.grown (nodes_of c.args.held.now.tree.now) [] ss) (sym c.new.ensures.items) tt;
      object = (
        c.in_ok-made.made,
        ap (λ (e : Entry). turns.Comes c.args.dir e (Some c.in_ok-made.made)) (c.in_ok-own.ensures ∙ sym c.in_ok-entry.ensures),
        c.in_ok-made.ensures ∙ ap₂ (λ (f : NameForm) (n : ℕ). new_directory f n c.args.name.now) c.dir_form-form.ensures c.address_after.ensures,
      );
    }
