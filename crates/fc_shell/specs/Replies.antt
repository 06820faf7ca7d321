-- What a run without a demo answers and writes by words, script and image, if the script only reads.
use Rattle.std.specs.Prelude.{◌≡◌, ℕ, ◌^◌, Bool, true, false, nat_lt, List, [], length, map, replicate, if◌then◌else◌, Option, Some, None, Result, Ok, Err}
use Rattle.std.specs.List.{list_any}
use Rattle.std.specs.Option.{option_map}
use Rattle.fc_names.specs.declared.refusal.Refusal.{Refusal}
use Rattle.fc_model.specs.Command.{Command}
use Rattle.fc_image.specs.declared.ImageFault.{ImageFault}
use Rattle.fc_image.specs.Opening.{Opened, open_image}
use Rattle.fc_image.specs.effects.Effect.{State}
use Rattle.fc_format.specs.declared.Format.{Format}
use Rattle.fc_format.specs.Fresh.{format_size, fresh_image}
use Rattle.fc_script.specs.Lines.{command_of}
use Rattle.fc_script.specs.Texts.{refusal_line}
use Rattle.fc_runs.specs.Demo.{demo_script}
use Rattle.fc_runs.specs.Replies.{bad_image_line}
use Rattle.fc_runs.specs.ReadLaw.{reading_reply}
use Rattle.fc_runs.specs.Run.{Mode, commands_in, is_error, text_of}
use Rattle.fc_words.specs.CommandLine.{Request, request_of}
use Rattle.fc_words.specs.declared.Format.{Format as Word}
use Rattle.fc_words.specs.declared.Format.TheVariants as words
use Rattle.fc_shell.specs.declared.ending.End.{End}
use Rattle.fc_shell.specs.declared.ending.End.TheVariants.{Done, Refused, BadWords, BadImage, DiskFault, ScriptFault, OutFault, NoMemory, ScriptTooLong, NotSafe, NoImage}
use Rattle.fc_shell.specs.Modes.{is_unsuited, mode_of}
use Rattle.fc_shell.specs.Writing.{Wrote, WrotePart}

-- how a run ends if no call of the outside fails and memory is found, and what it writes
pub record Outcome : Type 0 where
  pub end : End
  pub text : List ℕ

-- an end before anything is written
abbrev pub silent : End → Outcome
silent end = record { end = end; text = [] }

-- ---- scripts

-- the most bytes of a script
abbrev pub script_limit : ℕ
script_limit = 2 ^ 24

-- the greatest number of a demo
abbrev pub demo_limit : ℕ
demo_limit = 10000

-- The script of a run, if it is known: a demo's is its own, any other the source has.
abbrev pub told_script : Option ℕ → Option (List ℕ) → Option (List ℕ)
told_script None told = told
told_script (Some n) told = Some (demo_script n)

-- by the words; if they are bad, no script is run
abbrev pub asked_script : Option Request → Option (List ℕ) → Option (List ℕ)
asked_script None told = told
asked_script (Some r) told = told_script r.demo told

-- The words ask for no demo.
abbrev pub AsksNoDemo : Option Request → Type 0
AsksNoDemo None = Unit {0}
AsksNoDemo (Some r) = r.demo ≡ None

-- the reply to a line, by the command that it spells
abbrev pub command_reply : Mode → State → Result Command Refusal → List ℕ
command_reply mode s (Err refusal) = refusal_line refusal
command_reply mode s (Ok c) = reading_reply mode s c

-- the reply to a line
abbrev pub line_reply : Mode → State → List ℕ → List ℕ
line_reply mode s line = command_reply mode s (command_of line)

-- the replies to a script of commands that read
abbrev pub replies_of : Mode → State → List ℕ → List (List ℕ)
replies_of mode s script = map (line_reply mode s) (commands_in script)

-- the script's end was reached
abbrev pub served : List (List ℕ) → Outcome
served replies = record { end = if list_any is_error replies then Refused else Done; text = text_of replies }

-- ---- images

-- the replies over what the image opens as, unless the safe mode doesn't serve it
abbrev pub suited_reply : Bool → Mode → State → List ℕ → Outcome
suited_reply true mode s script = silent NotSafe
suited_reply false mode s script = served (replies_of mode s script)

-- the fault, or the replies over what the image opens as
abbrev pub opened_reply : Bool → Bool → List ℕ → List ℕ → Result Opened ImageFault → Outcome
opened_reply read_only safe script image (Err fault) = record { end = BadImage fault; text = bad_image_line fault }
opened_reply read_only safe script image (Ok v) =
    suited_reply (is_unsuited safe v) (mode_of v.kind read_only safe) (record { image = image; view = v }) script

-- the replies over an image
abbrev pub image_reply : Bool → Bool → List ℕ → List ℕ → Outcome
image_reply read_only safe script image = opened_reply read_only safe script image (open_image image)

-- the format that a word names
abbrev pub format_in : Word → Format
format_in words.E = Format.E
format_in words.F = Format.F
format_in words.D = Format.D
format_in words.L = Format.L
format_in words.EPlus = Format.EPlus
format_in words.FPlus = Format.FPlus

-- the bytes of a new image, if one is asked for
abbrev pub blank_size : Request → Option ℕ
blank_size r = option_map (λ f. format_size (format_in f)) r.new

-- the image over which the script runs: the one that is there, or a fresh one
abbrev pub image_for : Option Word → List ℕ → List ℕ
image_for None image = image
image_for (Some f) image = fresh_image (format_in f) (replicate (format_size (format_in f)) 0)

-- the name is given, or not
abbrev pub attached_reply : Bool → Request → List ℕ → List ℕ → Outcome
attached_reply false r script image = silent NoImage
attached_reply true r script image = image_reply r.read_only r.safe script (image_for r.new image)

-- ---- words

-- what the words ask for, over a script that was read
abbrev pub script_reply : (List ℕ → Option ℕ → Bool) → Request → List ℕ → List ℕ → Outcome
script_reply gives r script image =
    if nat_lt script_limit (length script) then silent ScriptTooLong
    else attached_reply (gives r.image (blank_size r)) r script image

-- a run of what the words ask for
abbrev pub request_reply : (List ℕ → Option ℕ → Bool) → List ℕ → List ℕ → Option Request → Outcome
request_reply gives script image None = silent BadWords
request_reply gives script image (Some r) = script_reply gives r script image

-- a whole run without a demo: words, the names that the disk gives, script and image
abbrev pub run_reply : List (List ℕ) → (List ℕ → Option ℕ → Bool) → List ℕ → List ℕ → Outcome
run_reply words gives script image = request_reply gives script image (request_of words)

-- ---- how a run ends

-- The run ended so. If a call of the outside failed or memory was short, a part of the reply was written; else the
-- reply decides, and all of it was.
abbrev pub EndsAs : Outcome → End → Option (List ℕ) → Option (List ℕ) → Type 0
EndsAs reply DiskFault before after = WrotePart before after reply.text
EndsAs reply ScriptFault before after = after ≡ before
EndsAs reply OutFault before after = WrotePart before after reply.text
EndsAs reply NoMemory before after = WrotePart before after reply.text
EndsAs reply end before after = (reply.end ≡ end) × Wrote before after reply.text
