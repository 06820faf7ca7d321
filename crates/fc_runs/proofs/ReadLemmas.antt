-- Steps of reading commands.
use Rattle.std.proofs.Common.{◌≡◌, ℕ, true, List, refl, sym, subst, ◌∙◌, Option, Some, None}
use Rattle.std.specs.Prelude.{Result, Ok, Err}
use Rattle.fc_names.specs.declared.refusal.Refusal.{Refusal}
use Rattle.fc_model.specs.Tree.{Tree}
use Rattle.fc_model.specs.Command.{Command}
use Rattle.fc_model.specs.Answer.{answer}
use Rattle.fc_image.specs.Layout.{dir_form}
use Rattle.fc_image.specs.effects.Effect.{State, tree_in}
use Rattle.fc_runs.specs.Replies.{reply_to}
use Rattle.fc_runs.specs.Run.{Mode, Effect, Serves, Answers, Takes, reply_of, shortage}
use Rattle.fc_runs.specs.ReadLaw.{ReadLaw, is_reading, served_reply, answered_reply}

-- A command that reads leaves everything.
pub same_state : (mode : Mode) (s s' : State) (c : Command) (t : Tree) → is_reading c ≡ true → Effect mode s c t s' → s' ≡ s
same_state mode s s' (Command.Cat path) t h e = e
same_state mode s s' (Command.Load path) t h e = e
same_state mode s s' (Command.Digest path) t h e = e
same_state mode s s' Command.Free t h e = e
same_state mode s s' Command.Check t h e = e
same_state mode s s' (Command.Save path load exec bytes) t h e = absurd (cc)
same_state mode s s' (Command.Create path load exec len) t h e = absurd (cc)
same_state mode s s' (Command.Cdir path) t h e = absurd (cc)
same_state mode s s' (Command.Delete path) t h e = absurd (cc)
same_state mode s s' (Command.Rename from to) t h e = absurd (cc)
same_state mode s s' (Command.Set path load exec access) t h e = absurd (cc)
same_state mode s s' (Command.Mark path attrs) t h e = absurd (cc)
same_state mode s s' Command.Compact t h e = absurd (cc)
same_state mode s s' Command.Reclaim t h e = absurd (cc)

effect_none : (mode : Mode) (s : State) (c : Command) (t : Tree) → is_reading c ≡ true → Effect mode s c t s
effect_none mode s (Command.Cat path) t h = refl
effect_none mode s (Command.Load path) t h = refl
effect_none mode s (Command.Digest path) t h = refl
effect_none mode s Command.Free t h = refl
effect_none mode s Command.Check t h = refl
effect_none mode s (Command.Save path load exec bytes) t h = absurd (cc)
effect_none mode s (Command.Create path load exec len) t h = absurd (cc)
effect_none mode s (Command.Cdir path) t h = absurd (cc)
effect_none mode s (Command.Delete path) t h = absurd (cc)
effect_none mode s (Command.Rename from to) t h = absurd (cc)
effect_none mode s (Command.Set path load exec access) t h = absurd (cc)
effect_none mode s (Command.Mark path attrs) t h = absurd (cc)
effect_none mode s Command.Compact t h = absurd (cc)
effect_none mode s Command.Reclaim t h = absurd (cc)

same_reply : (s s' : State) (c : Command) → is_reading c ≡ true → reply_of s c s' ≡ reply_to (tree_in s) s.view c
same_reply s s' (Command.Cat path) h = refl
same_reply s s' (Command.Load path) h = refl
same_reply s s' (Command.Digest path) h = refl
same_reply s s' Command.Free h = refl
same_reply s s' Command.Check h = refl
same_reply s s' (Command.Save path load exec bytes) h = absurd (cc)
same_reply s s' (Command.Create path load exec len) h = absurd (cc)
same_reply s s' (Command.Cdir path) h = absurd (cc)
same_reply s s' (Command.Delete path) h = absurd (cc)
same_reply s s' (Command.Rename from to) h = absurd (cc)
same_reply s s' (Command.Set path load exec access) h = absurd (cc)
same_reply s s' (Command.Mark path attrs) h = absurd (cc)
same_reply s s' Command.Compact h = absurd (cc)
same_reply s s' Command.Reclaim h = absurd (cc)

served_one : (mode : Mode) (s s' : State) (reply : List ℕ) (c : Command) (t : Tree) (line : Option (List ℕ)) → is_reading c ≡ true
    → Serves mode s c t line reply s' → (reply ≡ served_reply s c line) × (s' ≡ s)
served_one mode s s' reply c t (Some line) h x = (x.0, x.1)
served_one mode s s' reply c t None h x = (x.0 ∙ same_reply s s' c h, same_state mode s s' c t h x.1)

served_some : (mode : Mode) (s : State) (c : Command) (t : Tree) (line : Option (List ℕ)) → is_reading c ≡ true → Serves mode s c t line (served_reply s c line) s
served_some mode s c t (Some line) h = (refl, refl)
served_some mode s c t None h = (sym (same_reply s s c h), effect_none mode s c t h)

answered_one : (mode : Mode) (s s' : State) (reply : List ℕ) (c : Command) (a : Result Tree Refusal) → is_reading c ≡ true
    → Answers mode s c a reply s' → (reply ≡ answered_reply mode s c a) × (s' ≡ s)
answered_one mode s s' reply c (Err refusal) h x = (x.0, x.1)
answered_one mode s s' reply c (Ok t) h x = served_one mode s s' reply c t (shortage mode.safe s.view c) h x

answered_some : (mode : Mode) (s : State) (c : Command) (a : Result Tree Refusal) → is_reading c ≡ true → Answers mode s c a (answered_reply mode s c a) s
answered_some mode s c (Err refusal) h = (refl, refl)
answered_some mode s c (Ok t) h = served_some mode s c t (shortage mode.safe s.view c) h

pub read_law : ReadLaw
read_law = record {
  one = λ mode s s' line reply c is h step.
      answered_one mode s s' reply c (answer (tree_in s) (dir_form s.view.layout) mode.read_only c) h
      (subst (λ (r : Result Command Refusal). Takes mode s r reply s') is step);
  some = λ mode s line c is h.
      (let a = answer (tree_in s) (dir_form s.view.layout) mode.read_only c in
      subst (λ (r : Result Command Refusal). Takes mode s r (answered_reply mode s c a) s) (sym is) (answered_some mode s c a h));
}
