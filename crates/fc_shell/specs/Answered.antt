-- How a command is answered.
use Rattle.std.specs.Prelude.{◌≡◌, ◌≤◌, ℕ, Bool, false, List, Option, Result, Ok, Err}
use Rattle.std.specs.Option.{ForSome}
use Rattle.fc_device.specs.declared.disk.Disk.{Ghosts}
use Rattle.fc_device.specs.declared.streams.Sink.{Ghosts as Sinks}
use Rattle.fc_device.specs.Faults.{Rose}
use Rattle.fc_record.specs.declared.Kind.{Kind}
use Rattle.fc_image.specs.Opening.{Opened}
use Rattle.fc_image.specs.Stays.{OpensAs}
use Rattle.fc_image.specs.effects.Effect.{State}
use Rattle.fc_model.specs.Command.{Command}
use Rattle.fc_runs.specs.ReadLaw.{reading_reply}
use Rattle.fc_runs.specs.Run.{is_error}
use Rattle.fc_tree.specs.Parts.{ArePartsOf}
use Rattle.fc_volume.specs.Volume.{Volume, parts_of}
use Rattle.fc_shell.specs.declared.answer.LineFault.{LineFault}
use Rattle.fc_shell.specs.declared.reply.Reply.{Reply}
use Rattle.fc_shell.specs.Modes.{mode_of}
use Rattle.fc_shell.specs.Writing.{Wrote, WrotePart}

-- ---- replies

-- a reply in memory is this text
pub record IsReply (reply : Reply) (text : List ℕ) : Type 0 where
  pub is_text : reply.text.items ≡ text
  pub error_is : reply.is_error ≡ is_error text

-- The reply was written, and it is an error line or not; or a part of it was.
abbrev pub Answered : List ℕ → Option (List ℕ) → Option (List ℕ) → Result Bool LineFault → Type 0
Answered reply before after (Ok refused) = Wrote before after reply × (refused ≡ is_error reply)
Answered reply before after (Err fault) = WrotePart before after reply

-- the same of a reply that is no error line
abbrev pub Told : {T : Type 0} → List ℕ → Option (List ℕ) → Option (List ℕ) → Result T LineFault → Type 0
Told reply before after (Ok done) = Wrote before after reply
Told reply before after (Err fault) = WrotePart before after reply

-- ---- causes

-- A line isn't answered only if a call failed, whose count of faults rose, or if memory is short.
pub record IsCaused {D K T : Type 0} (d : Ghosts D) (k : Sinks K) (old new : D) (before after : K) (result : Result T LineFault) : Type 0 where
  pub later : k.faults before ≤ k.faults after
  pub disk : result ≡ Err LineFault.Disk → Rose (d.faults old) (d.faults new)
  pub out : result ≡ Err LineFault.Out → Rose (k.faults before) (k.faults after)

-- the same of a call that asks nothing of a disk
pub record OnlyTells {K T : Type 0} (k : Sinks K) (before after : K) (result : Result T LineFault) : Type 0 where
  pub later : k.faults before ≤ k.faults after
  pub no_disk : result ≡ Err LineFault.Disk → ⊥
  pub out : result ≡ Err LineFault.Out → Rose (k.faults before) (k.faults after)

-- ---- of which image

-- P holds of each way to read an image as one of which the volume's parts are.
abbrev pub ForImage : Volume → List ℕ → (Kind → State → Type 0) → Type 0
ForImage v image P = (kind : Kind) (view : Opened) → OpensAs image kind view → ArePartsOf (parts_of v) view → P kind (record { image = image; view = view })

-- The same for each image, and for one that is known.
abbrev pub ForView : Volume → (Kind → State → Type 0) → Type 0
ForView v P = (image : List ℕ) → ForImage v image P

abbrev pub ForState : Option (List ℕ) → Volume → (Kind → State → Type 0) → Type 0
ForState told v P = ForSome told (λ image. ForImage v image P)

-- the reply to a command that reads, over a volume whose image opened as this kind; it is the same in the safe mode
unfoldable pub volume_reply : Kind → Volume → State → Command → List ℕ
volume_reply kind v s c = reading_reply (mode_of kind v.read_only false) s c
