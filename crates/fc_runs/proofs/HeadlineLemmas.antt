-- Steps answer as the map does.
use Rattle.std.proofs.Common.{◌≡◌, ℕ, Bool, true, false, List, [], ◌∷◌, refl, sym, ap, subst, ◌∙◌, Option, Some, None}
use Rattle.std.specs.Prelude.{Result, Ok, Err}
use Rattle.fc_names.specs.declared.refusal.Refusal.{Refusal}
use Rattle.fc_model.specs.Tree.{Tree}
use Rattle.fc_model.specs.Command.{Command}
use Rattle.fc_model.specs.Answer.{answer}
use Rattle.fc_image.specs.Layout.{dir_form}
use Rattle.fc_image.specs.Stays.{OpensAs}
use Rattle.fc_image.specs.effects.Effect.{State, tree_in}
use Rattle.fc_script.specs.Lines.{command_of}
use Rattle.fc_script.specs.Texts.{refusal_line}
use Rattle.fc_runs.specs.Run.{Mode, ChangesBy, Effect, Serves, Answers, Takes, Steps, reply_of, shortage}
use Rattle.fc_runs.specs.Headline.{HeadlineLaw, IsReply, MapAnswers, map_line, map_reply, unless_refused, unless_short}
use Rattle.fc_runs.proofs.TreeLemmas.{answer_ok, effect_tree}

-- ---- the image opens after each step

abbrev pub Opens : Mode → State → Type 0
Opens mode s = OpensAs s.image mode.kind s.view

pub same_opens : (mode : Mode) (s s' : State) → Opens mode s → s' ≡ s → Opens mode s'
same_opens mode s s' o e = subst (Opens mode) (sym e) o

changes_opens : (mode : Mode) (safe : Bool) (s s' : State) (c : Command) (t : Tree) → ChangesBy safe mode.kind s s' c t → Opens mode s'
changes_opens mode true s s' c t e = e.opens.opens
changes_opens mode false s s' c t e = e.opens.opens

effect_opens : (mode : Mode) (s s' : State) (c : Command) (t : Tree) → Opens mode s → Effect mode s c t s' → Opens mode s'
effect_opens mode s s' (Command.Cat path) t o e = same_opens mode s s' o e
effect_opens mode s s' (Command.Load path) t o e = same_opens mode s s' o e
effect_opens mode s s' (Command.Digest path) t o e = same_opens mode s s' o e
effect_opens mode s s' Command.Free t o e = same_opens mode s s' o e
effect_opens mode s s' Command.Check t o e = same_opens mode s s' o e
effect_opens mode s s' Command.Compact t o e = e.opens.opens
effect_opens mode s s' Command.Reclaim t o e = e.opens.opens
effect_opens mode s s' (Command.Save path load exec bytes) t o e = changes_opens mode mode.safe s s' (Command.Save path load exec bytes) t e
effect_opens mode s s' (Command.Create path load exec len) t o e = changes_opens mode mode.safe s s' (Command.Create path load exec len) t e
effect_opens mode s s' (Command.Cdir path) t o e = changes_opens mode mode.safe s s' (Command.Cdir path) t e
effect_opens mode s s' (Command.Delete path) t o e = changes_opens mode mode.safe s s' (Command.Delete path) t e
effect_opens mode s s' (Command.Rename from to) t o e = changes_opens mode mode.safe s s' (Command.Rename from to) t e
effect_opens mode s s' (Command.Set path load exec access) t o e = changes_opens mode mode.safe s s' (Command.Set path load exec access) t e
effect_opens mode s s' (Command.Mark path attrs) t o e = changes_opens mode mode.safe s s' (Command.Mark path attrs) t e

-- ---- one line

-- what a step of a line is: the reply and the tree are the map's, and the image opens
abbrev pub IsMapStep : Mode → State → Tree × Option (List ℕ) → List ℕ → State → Type 0
IsMapStep mode s line reply s' = IsReply line.1 reply × (tree_in s' ≡ line.0) × Opens mode s'

refused_step : (mode : Mode) (s s' : State) (line reply : List ℕ) → Opens mode s → reply ≡ line → s' ≡ s → IsMapStep mode s (tree_in s, Some line) reply s'
refused_step mode s s' line reply o r e = (r, ap tree_in e, same_opens mode s s' o e)

-- the reply is the map's
reply_is : (s s' : State) (c : Command) (reply : List ℕ) → reply ≡ reply_of s c s' → IsReply (map_reply (tree_in s) c) reply
reply_is s s' (Command.Cat path) reply r = r
reply_is s s' (Command.Load path) reply r = r
reply_is s s' (Command.Digest path) reply r = r
reply_is s s' Command.Free reply r = tt
reply_is s s' Command.Check reply r = tt
reply_is s s' Command.Compact reply r = r
reply_is s s' Command.Reclaim reply r = tt
reply_is s s' (Command.Save path load exec bytes) reply r = r
reply_is s s' (Command.Create path load exec len) reply r = r
reply_is s s' (Command.Cdir path) reply r = r
reply_is s s' (Command.Delete path) reply r = r
reply_is s s' (Command.Rename from to) reply r = r
reply_is s s' (Command.Set path load exec access) reply r = r
reply_is s s' (Command.Mark path attrs) reply r = r

served_step : (mode : Mode) (s s' : State) (c : Command) (t : Tree) (reply : List ℕ) (short : Option (List ℕ)) → Opens mode s
    → answer (tree_in s) (dir_form s.view.layout) mode.read_only c ≡ Ok t
    → Serves mode s c t short reply s' → IsMapStep mode s (unless_short (tree_in s) c t short) reply s'
served_step mode s s' c t reply (Some line) o a x = refused_step mode s s' line reply o x.0 x.1
served_step mode s s' c t reply None o a x =
    (reply_is s s' c reply x.0, effect_tree mode s s' c t (answer_ok (tree_in s) t (dir_form s.view.layout) mode.read_only c a) x.1, effect_opens mode s s' c t o x.1)

answered_step : (mode : Mode) (s s' : State) (c : Command) (reply : List ℕ) (a : Result Tree Refusal) → Opens mode s
    → answer (tree_in s) (dir_form s.view.layout) mode.read_only c ≡ a → Answers mode s c a reply s'
    → IsMapStep mode s (unless_refused mode (tree_in s) s.view c a) reply s'
answered_step mode s s' c reply (Err refusal) o a x = refused_step mode s s' (refusal_line refusal) reply o x.0 x.1
answered_step mode s s' c reply (Ok t) o a x = served_step mode s s' c t reply (shortage mode.safe s.view c) o a x

pub taken_step : (mode : Mode) (s s' : State) (reply : List ℕ) (r : Result Command Refusal) → Opens mode s
    → Takes mode s r reply s' → IsMapStep mode s (map_line mode (tree_in s) s.view r) reply s'
taken_step mode s s' reply (Err refusal) o x = refused_step mode s s' (refusal_line refusal) reply o x.0 x.1
taken_step mode s s' reply (Ok c) o x = answered_step mode s s' c reply (answer (tree_in s) (dir_form s.view.layout) mode.read_only c) o refl x

-- ---- all lines

steps_answer : (mode : Mode) (s s' : State) (t : Tree) (lines replies : List (List ℕ)) → Opens mode s → tree_in s ≡ t
    → Steps (λ between. Unit {0}) mode s lines replies s' → MapAnswers mode t s lines replies (tree_in s') s'
steps_answer mode s s' t [] [] o e x = (record { opens = o; tree = e }, ap tree_in x ∙ e, x)
steps_answer mode s s' t [] (reply ∷ replies) o e x = absurd x
steps_answer mode s s' t (line ∷ lines) [] o e x = absurd x
steps_answer mode s s' t (line ∷ lines) (reply ∷ replies) o e x =
    (let step : IsMapStep mode s (map_line mode t s.view (command_of line)) reply x.0
    = subst (λ (u : Tree). IsMapStep mode s (map_line mode u s.view (command_of line)) reply x.0) e
    (taken_step mode s x.0 reply (command_of line) o x.2) in (
      record { opens = o; tree = e },
      step.0,
      (
        x.0,
        x.2,
        steps_answer mode x.0 s' (map_line mode t s.view (command_of line)).0 lines replies step.2 step.1 x.3,
      ),
    ))

pub headline_law : HeadlineLaw
headline_law = λ mode s s' lines replies o x. steps_answer mode s s' (tree_in s) lines replies o refl x
