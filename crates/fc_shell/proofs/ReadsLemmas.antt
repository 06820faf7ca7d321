-- Scripts of commands that read, as runs.
use Rattle.std.proofs.Common.{◌≡◌, ◌⊎◌, inl, inr, ℕ, Bool, true, false, not, ◌&&◌, List, [], ◌∷◌, map, Some, Result, Ok, Err, refl, sym, ap, ap₂, subst, ◌∙◌}
use Rattle.std.specs.Prelude.{if◌then◌else◌, replicate}
use Rattle.std.specs.List.{list_any}
use Rattle.fc_names.specs.declared.refusal.Refusal.{Refusal}
use Rattle.fc_model.specs.Command.{Command}
use Rattle.fc_image.specs.effects.Effect.{State}
use Rattle.fc_image.specs.safe.SafeShort.{is_suitable}
use Rattle.fc_format.specs.Fresh.{format_size}
use Rattle.fc_format.specs.Opens.{FreshLaw}
use Rattle.fc_script.specs.Lines.{command_of}
use Rattle.fc_runs.specs.ReadLaw.{ReadLaw, reading_reply}
use Rattle.fc_runs.specs.Run.{Mode, Step, Steps, Takes, commands_in, is_error, text_of}
use Rattle.fc_words.specs.declared.Format.{Format as Word}
use Rattle.fc_shell.specs.declared.ending.End.TheVariants.{Done, NotSafe, Refused}
use Rattle.fc_shell.specs.Modes.{is_unsuited, mode_of}
use Rattle.fc_shell.specs.ReadsLaw.{ReadsLaw}
use Rattle.fc_shell.specs.Replies.{command_reply, format_in, image_for, image_reply, line_reply, opened_reply, replies_of, suited_reply}
use Rattle.fc_shell.specs.Reads.{all_read, is_reading_line}
use Rattle.std.proofs.lemmas.Bool.{and_parts as both_true}

-- a line is a step
step : ReadLaw → (mode : Mode) (s : State) (line : List ℕ) → is_reading_line (command_of line) ≡ true → Step mode s line (line_reply mode s line) s
step law mode s line built = by (command_of line) refl built
  where
    by : (r : Result Command Refusal) → command_of line ≡ r → is_reading_line r ≡ true → Takes mode s r (command_reply mode s r) s
    by (Err refusal) is h = (refl, refl)
    by (Ok c) is h = subst (λ r. Takes mode s r (reading_reply mode s c) s) is (law.some mode s line c is h)

-- so are all of them
steps : ReadLaw → (May : List ℕ → Type 0) (mode : Mode) (s : State) → May s.image → (lines : List (List ℕ))
    → all_read lines ≡ true → Steps May mode s lines (map (line_reply mode s) lines) s
steps law May mode s may [] built = refl
steps law May mode s may (line ∷ lines) built =
    let both = both_true (is_reading_line (command_of line)) (all_read lines) built in
    (s, may, step law mode s line both.0, steps law May mode s may lines both.1)

-- a line has no other step
pub one_step : ReadLaw → (mode : Mode) (s s' : State) (line reply : List ℕ) → is_reading_line (command_of line) ≡ true → Step mode s line reply s'
    → (reply ≡ line_reply mode s line) × (s' ≡ s)
one_step law mode s s' line reply built taken = by (command_of line) refl built taken
  where
    by : (r : Result Command Refusal) → command_of line ≡ r → is_reading_line r ≡ true → Takes mode s r reply s' → (reply ≡ command_reply mode s r) × (s' ≡ s)
    by (Err refusal) is h takes = takes
    by (Ok c) is h takes = law.one mode s s' line reply c is h (subst (λ r. Takes mode s r reply s') (sym is) takes)

-- and all of them have no others
pub one_row : ReadLaw → (mode : Mode) (s s' : State) (lines replies : List (List ℕ)) → all_read lines ≡ true
    → Steps (λ between. Unit {0}) mode s lines replies s' → (replies ≡ map (line_reply mode s) lines) × (s' ≡ s)
one_row law mode s s' [] [] built same = (refl, same)
one_row law mode s s' [] (reply ∷ replies) built row = absurd row
one_row law mode s s' (line ∷ lines) [] built row = absurd row
one_row law mode s s' (line ∷ lines) (reply ∷ replies) built row =
    let both = both_true (is_reading_line (command_of line)) (all_read lines) built in
    let first = one_step law mode s row.0 line reply both.0 row.2 in
    let rest = one_row law mode s s' lines replies both.1 (subst (λ (mid : State). Steps (λ between. Unit {0}) mode mid lines replies s') first.1 row.3) in
    (ap₂ ◌∷◌ first.0 rest.0, rest.1)

-- a fresh image is accepted
fresh_ends : FreshLaw → (read_only safe : Bool) (script image : List ℕ) (f : Word)
    → ((image_reply read_only safe script (image_for (Some f) image)).end ≡ Done) ⊎ (((image_reply read_only safe script (image_for (Some f) image)).end ≡ Refused)
    ⊎ ((safe ≡ true) × ((image_reply read_only safe script (image_for (Some f) image)).end ≡ NotSafe)))
fresh_ends law read_only safe script image f =
    let there = law (format_in f) (replicate (format_size (format_in f)) 0) in
    let here = image_for (Some f) image in
    let mode : Mode = mode_of there.0.kind read_only safe in
    let s : State = record { image = here; view = there.0 } in
    subst (λ o. ((opened_reply read_only safe script here o).end ≡ Done) ⊎ (((opened_reply read_only safe script here o).end ≡ Refused) ⊎ ((safe ≡ true) × ((opened_reply read_only safe script here o).end ≡ NotSafe)))) (sym there.1)
    (by mode s (is_unsuited safe there.0) (asked safe (not (is_suitable there.0))))
  where
    asked : (a b : Bool) → (a && b) ≡ true → a ≡ true
    asked true b e = refl
    asked false b e = absurd (cc)

    either : (refused : Bool) → ((if refused then Refused else Done) ≡ Done) ⊎ (((if refused then Refused else Done) ≡ Refused) ⊎ ((safe ≡ true) × ((if refused then Refused else Done) ≡ NotSafe)))
    either true = inr (inl refl)
    either false = inl refl

    by : (mode : Mode) (s : State) (unsuited : Bool) → (unsuited ≡ true → safe ≡ true)
        → ((suited_reply unsuited mode s script).end ≡ Done) ⊎ (((suited_reply unsuited mode s script).end ≡ Refused) ⊎ ((safe ≡ true) × ((suited_reply unsuited mode s script).end ≡ NotSafe)))
    by mode s true is = inr (inr (is refl, refl))
    by mode s false is = either (list_any is_error (replies_of mode s script))

pub reads_law : ReadLaw → FreshLaw → ReadsLaw
reads_law law fresh = record {
  runs = λ mode s script built.
      record { start = refl; replies = replies_of mode s script; steps = steps law (λ image. image ≡ s.image) mode s refl (commands_in script) built; told = refl };
  only = λ mode s s' script text built run.
      let same = one_row law mode s s' (commands_in script) run.replies built run.steps in
      (run.told ∙ ap text_of same.0, same.1);
  fresh = fresh_ends fresh;
}
