-- What a script of commands that read does.
use Rattle.std.specs.Prelude.{◌≡◌, ◌⊎◌, ℕ, Bool, true, List, Some, None}
use Rattle.fc_image.specs.effects.Effect.{State}
use Rattle.fc_runs.specs.Run.{Mode, Run, text_of}
use Rattle.fc_words.specs.declared.Format.{Format as Word}
use Rattle.fc_shell.specs.declared.ending.End.TheVariants.{Done, NotSafe, Refused}
use Rattle.fc_shell.specs.Replies.{image_for, image_reply, replies_of}
use Rattle.fc_shell.specs.Reads.{only_reads}

pub record ReadsLaw : Type 0 where
  -- If a script only reads, its replies are those of a run that leaves everything: the image is the same
  -- all along.
  pub runs : (mode : Mode) (s : State) (script : List ℕ) → only_reads script ≡ true
      → Run (λ image. image ≡ s.image) mode None s script (text_of (replies_of mode s script)) s
  -- No other run has its lines: whatever may stand between, it writes this text and leaves everything.
  pub only : (mode : Mode) (s s' : State) (script text : List ℕ) → only_reads script ≡ true → Run (λ between. Unit {0}) mode None s script text s'
      → (text ≡ text_of (replies_of mode s script)) × (s' ≡ s)
  -- A fresh image is never a bad one; but the safe mode may not serve it.
  pub fresh : (read_only safe : Bool) (script image : List ℕ) (f : Word)
      → ((image_reply read_only safe script (image_for (Some f) image)).end ≡ Done) ⊎ (((image_reply read_only safe script (image_for (Some f) image)).end ≡ Refused)
      ⊎ ((safe ≡ true) × ((image_reply read_only safe script (image_for (Some f) image)).end ≡ NotSafe)))
