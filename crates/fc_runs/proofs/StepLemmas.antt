-- What a step leaves.
use Rattle.std.proofs.Common.{◌≡◌, Bool, true, false, ◌||◌, List, ℕ, [], Option, Some, None, Result, Ok, Err, refl, sym, ap, subst, ◌∙◌}
use Rattle.fc_names.specs.declared.refusal.Refusal.{Refusal}
use Rattle.fc_record.specs.declared.Kind.{Kind}
use Rattle.fc_model.specs.Tree.{Tree}
use Rattle.fc_model.specs.Command.{Command}
use Rattle.fc_model.specs.Answer.{answer, changed}
use Rattle.fc_image.specs.Layout.{dir_form}
use Rattle.fc_image.specs.Objects.{tree_of}
use Rattle.fc_image.specs.Stays.{OpensAs}
use Rattle.fc_image.specs.effects.Effect.{State, tree_in}
use Rattle.fc_image.specs.safe.Reclaim.{reclaimed_bytes}
use Rattle.fc_image.specs.safe.SafeEffect.{HasTree}
use Rattle.fc_script.specs.Texts.{reclaimed_line}
use Rattle.fc_runs.specs.ReadLaw.{is_reading}
use Rattle.fc_runs.specs.Run.{Answers, Mode, Serves, Takes, is_error, keeps_tree, keeps_tree_or, reply_of, shortage}
use Rattle.fc_runs.specs.Stops.{leaves_image_or}
use Rattle.fc_runs.proofs.ErrorLemmas.{ok_no_error}
use Rattle.fc_runs.proofs.ReadLemmas.{same_state}
use Rattle.fc_runs.proofs.RepliesLemmas.{changing_reply, kept_tree}
use Rattle.fc_runs.proofs.TreeLemmas.{answer_ok, effect_tree}

-- ---- a line that keeps the tree

pub both_false : (b : Bool) → b ≡ false → (b || false) ≡ true → ⊥
both_false true h k = absurd (cc)
both_false false h k = absurd (cc)

served_keeps : (mode : Mode) (s s' : State) (c : Command) (t : Tree) (reply : List ℕ) (keeps : Bool) (short : Option (List ℕ)) → keeps_tree c ≡ keeps
    → t ≡ changed (tree_in s) c → Serves mode s c t short reply s' → (is_error reply || keeps) ≡ true → tree_in s' ≡ tree_in s
served_keeps mode s s' c t reply keeps (Some line) k is x h = ap tree_in x.1
served_keeps mode s s' c t reply true None k is x h = effect_tree mode s s' c t is x.1 ∙ is ∙ kept_tree (tree_in s) c k
served_keeps mode s s' c t reply false None k is x h =
    absurd (both_false (is_error reply) (ap is_error (x.0 ∙ changing_reply s s' c k) ∙ ok_no_error []) h)

answered_keeps : (mode : Mode) (s s' : State) (c : Command) (reply : List ℕ) (a : Result Tree Refusal) → answer (tree_in s) (dir_form s.view.layout) mode.read_only c ≡ a
    → Answers mode s c a reply s' → (is_error reply || keeps_tree c) ≡ true → tree_in s' ≡ tree_in s
answered_keeps mode s s' c reply (Err refusal) is x h = ap tree_in x.1
answered_keeps mode s s' c reply (Ok t) is x h =
    served_keeps mode s s' c t reply (keeps_tree c) (shortage mode.safe s.view c) refl (answer_ok (tree_in s) t (dir_form s.view.layout) mode.read_only c is) x h

-- A line that keeps the tree leaves the tree.
pub step_keeps : (mode : Mode) (s s' : State) (r : Result Command Refusal) (reply : List ℕ) → Takes mode s r reply s' → keeps_tree_or (is_error reply) r ≡ true → tree_in s' ≡ tree_in s
step_keeps mode s s' (Err refusal) reply x h = ap tree_in x.1
step_keeps mode s s' (Ok c) reply x h = answered_keeps mode s s' c reply (answer (tree_in s) (dir_form s.view.layout) mode.read_only c) refl x h

-- ---- a line that leaves the image

-- An accepted command that doesn't read has a reply that ends with `ok`.
done_no_error : (s s' : State) (c : Command) → is_reading c ≡ false → is_error (reply_of s c s') ≡ false
done_no_error s s' (Command.Cat path) h = absurd (cc)
done_no_error s s' (Command.Load path) h = absurd (cc)
done_no_error s s' (Command.Digest path) h = absurd (cc)
done_no_error s s' Command.Free h = absurd (cc)
done_no_error s s' Command.Check h = absurd (cc)
done_no_error s s' Command.Compact h = ok_no_error []
done_no_error s s' Command.Reclaim h = ok_no_error (reclaimed_line (reclaimed_bytes s.view s'.view))
done_no_error s s' (Command.Save path load exec bytes) h = ok_no_error []
done_no_error s s' (Command.Create path load exec len) h = ok_no_error []
done_no_error s s' (Command.Cdir path) h = ok_no_error []
done_no_error s s' (Command.Delete path) h = ok_no_error []
done_no_error s s' (Command.Rename from to) h = ok_no_error []
done_no_error s s' (Command.Set path load exec access) h = ok_no_error []
done_no_error s s' (Command.Mark path attrs) h = ok_no_error []

served_leaves : (mode : Mode) (s s' : State) (c : Command) (t : Tree) (reply : List ℕ) (reads : Bool) (short : Option (List ℕ)) → is_reading c ≡ reads
    → Serves mode s c t short reply s' → (is_error reply || reads) ≡ true → s' ≡ s
served_leaves mode s s' c t reply reads (Some line) k x h = x.1
served_leaves mode s s' c t reply true None k x h = same_state mode s s' c t k x.1
served_leaves mode s s' c t reply false None k x h = absurd (both_false (is_error reply) (ap is_error x.0 ∙ done_no_error s s' c k) h)

answered_leaves : (mode : Mode) (s s' : State) (c : Command) (reply : List ℕ) (a : Result Tree Refusal) → Answers mode s c a reply s' → (is_error reply || is_reading c) ≡ true → s' ≡ s
answered_leaves mode s s' c reply (Err refusal) x h = x.1
answered_leaves mode s s' c reply (Ok t) x h = served_leaves mode s s' c t reply (is_reading c) (shortage mode.safe s.view c) refl x h

-- A line that is refused or reads leaves everything.
pub step_leaves : (mode : Mode) (s s' : State) (r : Result Command Refusal) (reply : List ℕ) → Takes mode s r reply s' → leaves_image_or (is_error reply) r ≡ true → s' ≡ s
step_leaves mode s s' (Err refusal) reply x h = x.1
step_leaves mode s s' (Ok c) reply x h = answered_leaves mode s s' c reply (answer (tree_in s) (dir_form s.view.layout) mode.read_only c) x h

-- the image of a state has its tree
pub has_tree : (kind : Kind) (s : State) (image : List ℕ) → OpensAs s.image kind s.view → image ≡ s.image → HasTree kind (tree_in s) image
has_tree kind s image opens same = record {
  view = s.view;
  opens = subst (λ (i : List ℕ). OpensAs i kind s.view) (sym same) opens;
  tree = ap (λ (i : List ℕ). tree_of i s.view.layout s.view.listings) same;
}
