-- Commands that give an object other words.
use Rattle.std.proofs.Common.{◌≡◌, inl, inr, ℕ, cond, List, refl, sym, subst, Option, Some}
use Rattle.std.specs.Prelude.{None}
use Rattle.fc_names.specs.Names.{Path, is_same_path}
use Rattle.fc_names.specs.declared.name.NameForm.{NameForm}
use Rattle.fc_names.specs.declared.name.NameForm.TheVariants as forms
use Rattle.fc_model.specs.Command.{Command}
use Rattle.fc_model.specs.Tree.{holder}
use Rattle.fc_dirs.specs.declared.Entry.{Entry}
use Rattle.fc_image.specs.Walk.{Object}
use Rattle.fc_image.specs.Objects.{object_at}
use Rattle.fc_image.specs.Opening.{Opened}
use Rattle.fc_image.specs.effects.Short.{growth_in}
use Rattle.fc_image.specs.effects.Steady.{IsDirLength, edited, holds_named, named_entry, with_made}
use Rattle.fc_changes.proofs.DirectoriesLemmas.{IsPlain, plain_mark, plain_set}
use Rattle.fc_outcomes.specs.Rewording.{Words}

-- what is known of such a command, of either
pub record IsWordCommand (command : Command) (path : Path) : Type 0 where
  pub plain : IsPlain command
  pub none : (v : Opened) → growth_in v command ≡ None
  pub holds : (p : Path) → holds_named command p ≡ is_same_path (holder path) p
  pub edited_is : (p : Path) (made : Option Entry) (es : List Entry) → edited command p made es ≡ cond (is_same_path (holder path) p) (with_made made es) es
  pub entry : (w : Opened) (o : Object) → object_at w.listings path ≡ Some o → named_entry w command ≡ Some o.entry

pub word_command : (command : Command) (path there : Path) (turn : Object → Object) → Words command path there turn → IsWordCommand command path
word_command command path there turn (inl s) =
    subst (λ (c : Command). IsWordCommand c path) (sym s.3)
    (record {
      plain = plain_set path s.0 s.1 s.2;
      none = λ v. refl;
      holds = λ p. refl;
      edited_is = λ p made es. refl;
      entry = λ w o at. (let named : (u : Opened) (x : Object) → object_at u.listings path ≡ Some x → named_entry u (Command.Set path s.0 s.1 s.2) ≡ Some x.entry = λ u x e. rw e refl in named w o at);
    })
word_command command path there turn (inr s) =
    subst (λ (c : Command). IsWordCommand c path) (sym s.1)
    (record {
      plain = plain_mark path s.0;
      none = λ v. refl;
      holds = λ p. refl;
      edited_is = λ p made es. refl;
      entry = λ w o at. (let named : (u : Opened) (x : Object) → object_at u.listings path ≡ Some x → named_entry u (Command.Mark path s.0) ≡ Some x.entry = λ u x e. rw e refl in named w o at);
    })

pub same_length : (form : NameForm) (old new : ℕ) → new ≡ old → IsDirLength form old new
same_length forms.Seven old new same = inl same
same_length forms.Ten old new same = inl same
same_length forms.Long old new same = same
