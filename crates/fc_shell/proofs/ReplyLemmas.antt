-- The reply of a command, by what a volume answers.
use Rattle.std.proofs.Common.{◌≡◌, ℕ, Bool, true, false, List, [], ◌∷◌, ◌++◌, map, refl, sym, ap, ap₂, ◌∙◌, Ok, Err}
use Rattle.std.specs.List.{flat_map}
use Rattle.fc_names.specs.declared.refusal.Refusal.{Refusal}
use Rattle.fc_names.specs.declared.name.NameForm.{NameForm}
use Rattle.fc_names.specs.Names.{Path}
use Rattle.fc_record.specs.declared.Kind.{Kind}
use Rattle.fc_model.specs.Tree.{Body, Node as ModelNode, Tree, children}
use Rattle.fc_model.specs.Command.{Command}
use Rattle.fc_model.specs.Answer.{answer}
use Rattle.fc_image.specs.Layout.{dir_form}
use Rattle.fc_image.specs.Opening.{Opened}
use Rattle.fc_image.specs.Stays.{OpensAs}
use Rattle.fc_image.specs.effects.Effect.{State, tree_in}
use Rattle.fc_script.specs.Reading.{command}
use Rattle.fc_script.specs.declared.command.Command.{Command as Told}
use Rattle.fc_script.specs.Texts.{cat_reply, node_line, ok_line, refusal_line}
use Rattle.fc_runs.specs.ReadLaw.{answered_reply, is_reading, served_reply}
use Rattle.fc_runs.specs.Replies.{reply_to}
use Rattle.fc_volume.specs.declared.lines.Line.{Line}
use Rattle.fc_volume.specs.Answers.{line_in, lines_in}
use Rattle.fc_volume.specs.Volume.{Volume}
use Rattle.fc_shell.specs.Answered.{IsReply, volume_reply}
use Rattle.fc_shell.specs.Modes.{mode_of}
use Rattle.fc_shell.specs.Told.{told_line, told_lines}
use Rattle.fc_shell.specs.declared.reply.Reply.{Reply}
use Rattle.fc_shell.proofs.ShortageLemmas.{shortage_none}
use Rattle.fc_runs.specs.Run.{is_error, keeps_tree}
use Rattle.fc_runs.proofs.ErrorLemmas.{ok_no_error}

-- ---- replies in memory

-- a text that ends with `ok`
pub ok_reply : (reply : Reply) (text whole : List ℕ) → reply.text.items ≡ text ++ ok_line → reply.is_error ≡ false → whole ≡ text ++ ok_line → IsReply reply whole
ok_reply reply text whole is fine same = record {
  is_text = is ∙ sym same;
  error_is = fine ∙ sym (ap is_error same ∙ ok_no_error text);
}

-- ---- accepted and refused

module _ (kind : Kind) (v : Volume) (image : List ℕ) (view : Opened) (c : Command) where
  -- an accepted command's reply is what it tells
  pub accepted : (t : Tree) → OpensAs image kind view → is_reading c ≡ true
      → answer (tree_in (record { image = image; view = view })) (dir_form view.layout) v.read_only c ≡ Ok t
      → volume_reply kind v (record { image = image; view = view }) c ≡ reply_to (tree_in (record { image = image; view = view })) view c
  unfolding volume_reply
  accepted t opens reads is =
      let s : State = record { image = image; view = view } in
      ap (answered_reply (mode_of kind v.read_only false) s c) is ∙ ap (served_reply s c) (shortage_none image kind view c opens reads)

  -- a refused one's is the refusal's line
  pub refused : (refusal : Refusal) → answer (tree_in (record { image = image; view = view })) (dir_form view.layout) v.read_only c ≡ Err refusal
      → volume_reply kind v (record { image = image; view = view }) c ≡ refusal_line refusal
  unfolding volume_reply
  refused refusal is = let s : State = record { image = image; view = view } in ap (answered_reply (mode_of kind v.read_only false) s c) is

-- `digest` is refused where `load` is
pub same_answer : (t : Tree) (form : NameForm) (read_only : Bool) (path : Path) → answer t form read_only (Command.Digest path) ≡ answer t form read_only (Command.Load path)
unfolding answer
same_answer t form read_only path = refl

-- `free` and `check` are never refused
pub free_answer : (t : Tree) (form : NameForm) (read_only : Bool) → answer t form read_only Command.Free ≡ Ok t
unfolding answer
free_answer t form read_only = refl

pub check_answer : (t : Tree) (form : NameForm) (read_only : Bool) → answer t form read_only Command.Check ≡ Ok t
unfolding answer
check_answer t form read_only = refl

-- A command that doesn't read changes the tree, but for `compact` and `reclaim`.
pub changing : (asked : Told) → is_reading (command asked) ≡ false → (asked ≡ Told.Compact → ⊥) → (asked ≡ Told.Reclaim → ⊥) → keeps_tree (command asked) ≡ false
changing (Told.Cat path) changes compact reclaim = absurd (cc)
changing (Told.Load path) changes compact reclaim = absurd (cc)
changing (Told.Digest path) changes compact reclaim = absurd (cc)
changing Told.Free changes compact reclaim = absurd (cc)
changing Told.Check changes compact reclaim = absurd (cc)
changing (Told.Cdir path) changes compact reclaim = refl
changing (Told.Delete path) changes compact reclaim = refl
changing (Told.Save path w x bytes) changes compact reclaim = refl
changing (Told.Create path w x len) changes compact reclaim = refl
changing (Told.Rename from to) changes compact reclaim = refl
changing (Told.Set path w x access) changes compact reclaim = refl
changing Told.Compact changes compact reclaim = absurd (compact refl)
changing Told.Reclaim changes compact reclaim = absurd (reclaim refl)

-- no other command reads
pub no_other : (asked : Told) → is_reading (command asked) ≡ true → ((path : Path) → asked ≡ Told.Cat path → ⊥) → ((path : Path) → asked ≡ Told.Load path → ⊥)
    → ((path : Path) → asked ≡ Told.Digest path → ⊥) → (asked ≡ Told.Free → ⊥) → (asked ≡ Told.Check → ⊥) → ⊥
no_other (Told.Cat path) reads cat load digest free check = cat path refl
no_other (Told.Load path) reads cat load digest free check = load path refl
no_other (Told.Digest path) reads cat load digest free check = digest path refl
no_other Told.Free reads cat load digest free check = free refl
no_other Told.Check reads cat load digest free check = check refl
no_other (Told.Cdir path) reads cat load digest free check = absurd (cc)
no_other (Told.Delete path) reads cat load digest free check = absurd (cc)
no_other (Told.Save path w x bytes) reads cat load digest free check = absurd (cc)
no_other (Told.Create path w x len) reads cat load digest free check = absurd (cc)
no_other (Told.Rename from to) reads cat load digest free check = absurd (cc)
no_other (Told.Set path w x access) reads cat load digest free check = absurd (cc)
no_other Told.Compact reads cat load digest free check = absurd (cc)
no_other Told.Reclaim reads cat load digest free check = absurd (cc)

-- ---- directories

entry_same : (n : ModelNode) → told_line (line_in n) ≡ node_line n
entry_same n = by n.body refl
  where
    by : (body : Body) → n.body ≡ body → told_line (line_in n) ≡ node_line n
    by (Body.File bytes) is = rw is refl
    by Body.Directory is = rw is refl

-- what is told of a directory is the reply of `cat`
pub cat_told : (t : Tree) (path : Path) (lines : List Line) → lines ≡ lines_in t path → told_lines lines ≡ cat_reply (map (λ e. e.1) (children t path))
cat_told t path lines is = ap told_lines is ∙ ap (λ text. text ++ ok_line) (all (children t path))
  where
    all : (es : List (Path × ModelNode)) → flat_map told_line (map (λ e. line_in e.1) es) ≡ flat_map node_line (map (λ e. e.1) es)
    all [] = refl
    all (e ∷ es) = ap₂ (λ (a b : List ℕ). a ++ b) (entry_same e.1) (all es)
