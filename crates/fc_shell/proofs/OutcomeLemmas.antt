-- A script that only reads: its end and its text are those of words, script and image.
use Rattle.std.proofs.Common.{◌≡◌, inl, inr, ℕ, Bool, true, false, nat_lt, List, [], ◌∷◌, ◌++◌, length, map, take, Option, Some, None, Result, Ok, Err, refl, sym, ap, subst, ◌∙◌, append_assoc}
use Rattle.std.specs.Prelude.{if◌then◌else◌, slice_get, is_some}
use Rattle.std.specs.List.{list_any}
use Rattle.std.proofs.lemmas.List.{append-nil}
use Rattle.fc_device.specs.declared.disk.Disk.{Ghosts}
use Rattle.fc_names.specs.declared.refusal.Refusal.{Refusal}
use Rattle.fc_model.specs.Command.{Command}
use Rattle.fc_image.specs.declared.ImageFault.{ImageFault}
use Rattle.fc_image.specs.Opening.{Opened, open_image}
use Rattle.fc_image.specs.effects.Effect.{State}
use Rattle.fc_script.specs.Lines.{command_of}
use Rattle.fc_script.specs.Texts.{refusal_line}
use Rattle.fc_runs.specs.Early.{reply_begun, text_begun}
use Rattle.fc_runs.specs.Promises.{Cause, HasRun, HasStopped}
use Rattle.fc_runs.specs.ReadLaw.{reading_reply}
use Rattle.fc_runs.specs.Replies.{bad_image_line}
use Rattle.fc_runs.specs.Run.{Mode, Steps, commands_in, is_error, text_of}
use Rattle.fc_runs.specs.Stops.{MayHaveLeft}
use Rattle.fc_runs.proofs.ReadLemmas.{read_law}
use Rattle.fc_words.specs.CommandLine.{Request}
use Rattle.fc_shell.specs.declared.ending.End.{End}
use Rattle.fc_shell.specs.declared.ending.End.TheVariants.{Done, Refused, BadWords, BadImage, DiskFault, ScriptFault, OutFault, NoMemory, ScriptTooLong, NotSafe, HostFault, NoImage}
use Rattle.fc_shell.specs.Reads.{all_read, is_reading_line, only_reads}
use Rattle.fc_shell.specs.Modes.{is_unsuited, mode_of}
use Rattle.fc_shell.specs.Promise.{EndsBefore, EndsByGiving, EndsByLength, EndsByOpening, EndsBySuiting, EndsOnFault, EndsOver, EndsUnsuited, EndsWithout, Promise}
use Rattle.fc_shell.specs.Replies.{AsksNoDemo, EndsAs, attached_reply, blank_size, command_reply, image_for, line_reply, opened_reply, replies_of, request_reply, script_limit, served, silent, suited_reply}
use Rattle.fc_shell.specs.Writing.{Wrote, WrotePart}
use Rattle.fc_shell.proofs.ReadsLemmas.{one_row, one_step}
use Rattle.fc_shell.proofs.TurnLemmas.{steps_weaker}
use Rattle.fc_shell.proofs.WritingLemmas.{part_of_first}
use Rattle.std.proofs.lemmas.Bool.{and_parts as both_true}

-- ---- nothing was written

wrote_none : (before after : Option (List ℕ)) (text : List ℕ) → Wrote before after text → text ≡ [] → after ≡ before
wrote_none None after text wrote is = wrote
wrote_none (Some taken) after text wrote is = wrote ∙ ap Some (ap (λ (t : List ℕ). taken ++ t) is ∙ append-nil taken)

part_none : (before after : Option (List ℕ)) (text whole : List ℕ) → Wrote before after text → text ≡ [] → WrotePart before after whole
part_none before after text whole wrote is = (0, subst (Wrote before after) is wrote)

-- ---- a part of the replies

begun_part : (mode : Mode) (s : State) (r : Result Command Refusal) → is_reading_line r ≡ true → (rest : List ℕ) × (command_reply mode s r ≡ reply_begun mode s r ++ rest)
begun_part mode s (Err refusal) reads = (refusal_line refusal, refl)
begun_part mode s (Ok c) reads =
    let e : reply_begun mode s (Ok c) ≡ reading_reply mode s c = ap (λ (b : Bool). if b then reading_reply mode s c else []) reads in
    ([], sym (ap (λ (t : List ℕ). t ++ []) e ∙ append-nil (reading_reply mode s c)))

begun_cons : (reply : List ℕ) (replies : List (List ℕ)) (next : Option (List ℕ)) (begun : List ℕ → List ℕ) → text_begun None (reply ∷ replies) next begun ≡ reply ++ text_begun None replies next begun
begun_cons reply replies None begun = refl
begun_cons reply replies (Some line) begun = append_assoc reply (text_of replies) (begun line)

early : (mode : Mode) (s s' : State) (lines replies : List (List ℕ)) → all_read lines ≡ true → Steps (λ between. Unit {0}) mode s (take (length replies) lines) replies s'
    → (s' ≡ s) × ((rest : List ℕ) × (text_of (map (line_reply mode s) lines) ≡ text_begun None replies (slice_get lines (length replies)) (λ line. reply_begun mode s (command_of line)) ++ rest))
early mode s s' [] [] reads x = (x, ([], refl))
early mode s s' [] (reply ∷ replies) reads x = absurd x
early mode s s' (line ∷ lines) [] reads x =
    let both = both_true (is_reading_line (command_of line)) (all_read lines) reads in
    let part = begun_part mode s (command_of line) both.0 in
    let more = text_of (map (line_reply mode s) lines) in
    (x, (part.0 ++ more, ap (λ (t : List ℕ). t ++ more) part.1 ∙ append_assoc (reply_begun mode s (command_of line)) part.0 more))
early mode s s' (line ∷ lines) (reply ∷ replies) reads x =
    let both = both_true (is_reading_line (command_of line)) (all_read lines) reads in
    let first = one_step read_law mode s x.0 line reply both.0 x.2 in
    let later = early mode s s' lines replies both.1 (subst (λ (mid : State). Steps (λ between. Unit {0}) mode mid (take (length replies) lines) replies s') first.1 x.3) in
    let begun : List ℕ → List ℕ = λ (l : List ℕ). reply_begun mode s (command_of l) in
    let so_far = text_begun None replies (slice_get lines (length replies)) begun in (
      later.0,
      (
        later.1.0,
        ap (λ (t : List ℕ). line_reply mode s line ++ t) later.1.1 ∙ sym (append_assoc (line_reply mode s line) so_far later.1.0)
            ∙ ap (λ (t : List ℕ). t ++ later.1.0) (ap (λ (t : List ℕ). t ++ so_far) (sym first.0) ∙ sym (begun_cons reply replies (slice_get lines (length replies)) begun)),
      ),
    )

module _ {D : Type 0} (d : Ghosts D) (old new : D) (before after : Option (List ℕ)) (text : List ℕ) (wrote : Wrote before after text) where
  module _ (mode : Mode) (fresh : Bool) (s : State) (script : List ℕ) (reads : only_reads script ≡ true) where
    stopped_as : (cause : Cause) → HasStopped d old new mode fresh None s script text cause → WrotePart before after (text_of (replies_of mode s script))
    stopped_as cause has =
        let ended = has.ended in
        let row = early mode s has.end (commands_in script) ended.replies reads
        (steps_weaker (MayHaveLeft d old new) (λ between. Unit {0}) (λ image may. tt) mode s has.end (take (length ended.replies) (commands_in script)) ended.replies ended.steps) in
        let so_far : List ℕ = text_begun None ended.replies (slice_get (commands_in script) (length ended.replies)) (λ line. reply_begun mode s (command_of line)) in
        let told : text ≡ take ended.told.0 so_far =
        subst (λ (x : State). text ≡ take ended.told.0 (text_begun None ended.replies (slice_get (commands_in script) (length ended.replies)) (λ line. reply_begun mode x (command_of line)))) row.0 ended.told.1 in
        subst (WrotePart before after) (sym row.1.1) (part_of_first before after so_far row.1.0 (ended.told.0, subst (Wrote before after) told wrote))

    run_as : (refused : Bool) → HasRun d old new mode fresh None s script text refused
        → (refused ≡ list_any is_error (replies_of mode s script)) × Wrote before after (text_of (replies_of mode s script))
    run_as refused has =
        let same = one_row read_law mode s has.end (commands_in script) has.run.replies reads
        (steps_weaker (MayHaveLeft d old new) (λ between. Unit {0}) (λ image may. tt) mode s has.end (commands_in script) has.run.replies has.run.steps) in
        (has.refused_is ∙ ap (list_any is_error) same.0, subst (Wrote before after) (has.run.told ∙ ap text_of same.0) wrote)

    over_as : (end : End) → EndsOver d old new mode fresh None s script text end → EndsAs (served (replies_of mode s script)) end before after
    over_as Done x = let as' = run_as false x in (ap (λ (b : Bool). if b then Refused else Done) (sym as'.0), as'.1)
    over_as Refused x = let as' = run_as true x in (ap (λ (b : Bool). if b then Refused else Done) (sym as'.0), as'.1)
    over_as ScriptFault x = wrote_none before after text wrote x.told
    over_as DiskFault (inl x) = stopped_as Cause.Disk x
    over_as DiskFault (inr x) = part_none before after text (text_of (replies_of mode s script)) wrote x.1
    over_as OutFault (inl x) = stopped_as Cause.Out x
    over_as OutFault (inr x) = absurd x
    over_as NoMemory (inl x) = stopped_as Cause.Memory x
    over_as NoMemory (inr x) = part_none before after text (text_of (replies_of mode s script)) wrote x.1
    over_as BadWords x = absurd x
    over_as (BadImage fault) x = absurd x
    over_as ScriptTooLong x = absurd x
    over_as NotSafe x = absurd x
    over_as HostFault x = absurd x
    over_as NoImage x = absurd x

  fault_as : (fault : ImageFault) (end : End) → EndsOnFault d old new fault text end → EndsAs (record { end = BadImage fault; text = bad_image_line fault }) end before after
  fault_as fault (BadImage found) x = (ap BadImage (sym x.0), subst (Wrote before after) x.1.told wrote)
  fault_as fault ScriptFault x = wrote_none before after text wrote x.told
  fault_as fault DiskFault x = part_none before after text (bad_image_line fault) wrote x.told
  fault_as fault NoMemory x = part_none before after text (bad_image_line fault) wrote x.told
  fault_as fault OutFault x = (x.0, subst (Wrote before after) x.1.told wrote)
  fault_as fault Done x = absurd x
  fault_as fault Refused x = absurd x
  fault_as fault BadWords x = absurd x
  fault_as fault ScriptTooLong x = absurd x
  fault_as fault NotSafe x = absurd x
  fault_as fault HostFault x = absurd x
  fault_as fault NoImage x = absurd x

  without_as : (fresh : Bool) (end : End) → EndsWithout d old new fresh text end → EndsAs (silent NoImage) end before after
  without_as fresh NoImage x = (refl, subst (Wrote before after) x.told wrote)
  without_as fresh ScriptFault x = wrote_none before after text wrote x.told
  without_as fresh NoMemory x = part_none before after text [] wrote x.told
  without_as fresh DiskFault (inl x) = part_none before after text [] wrote x.told
  without_as fresh DiskFault (inr x) = part_none before after text [] wrote x.1
  without_as fresh OutFault x = absurd x
  without_as fresh (BadImage fault) x = absurd x
  without_as fresh Done x = absurd x
  without_as fresh Refused x = absurd x
  without_as fresh BadWords x = absurd x
  without_as fresh ScriptTooLong x = absurd x
  without_as fresh NotSafe x = absurd x
  without_as fresh HostFault x = absurd x

  before_as : (reason end : End) → (Wrote before after [] → EndsAs (silent reason) reason before after) → EndsBefore d old new reason text end → EndsAs (silent reason) end before after
  before_as reason end at (inl is, x) = subst (λ (e : End). EndsAs (silent reason) e before after) (sym is) (at (subst (Wrote before after) x.told wrote))
  before_as reason end at (inr (inl is), x) = subst (λ (e : End). EndsAs (silent reason) e before after) (sym is) (wrote_none before after text wrote x.told)
  before_as reason end at (inr (inr is), x) = subst (λ (e : End). EndsAs (silent reason) e before after) (sym is) (part_none before after text [] wrote x.told)

  unsuited_as : (fresh : Bool) (s : State) (end : End) → EndsUnsuited d old new fresh s text end → EndsAs (silent NotSafe) end before after
  unsuited_as fresh s NotSafe x = (refl, subst (Wrote before after) x.told wrote)
  unsuited_as fresh s ScriptFault x = wrote_none before after text wrote x.told
  unsuited_as fresh s NoMemory (inl x) = part_none before after text [] wrote x.told
  unsuited_as fresh s NoMemory (inr x) = part_none before after text [] wrote x.1
  unsuited_as fresh s DiskFault (inl x) = part_none before after text [] wrote x.told
  unsuited_as fresh s DiskFault (inr x) = part_none before after text [] wrote x.1
  unsuited_as fresh s OutFault x = absurd x
  unsuited_as fresh s (BadImage fault) x = absurd x
  unsuited_as fresh s Done x = absurd x
  unsuited_as fresh s Refused x = absurd x
  unsuited_as fresh s BadWords x = absurd x
  unsuited_as fresh s ScriptTooLong x = absurd x
  unsuited_as fresh s HostFault x = absurd x
  unsuited_as fresh s NoImage x = absurd x

  suiting_as : (mode : Mode) (fresh : Bool) (s : State) (script : List ℕ) (unsuited : Bool) (end : End) → only_reads script ≡ true → EndsBySuiting d old new mode fresh None s script text unsuited end
      → EndsAs (suited_reply unsuited mode s script) end before after
  suiting_as mode fresh s script true end reads x = unsuited_as fresh s end x
  suiting_as mode fresh s script false end reads x = over_as mode fresh s script reads end x

  opening_as : (read_only safe fresh : Bool) (image script : List ℕ) (o : Result Opened ImageFault) (end : End) → only_reads script ≡ true
      → EndsByOpening d old new read_only safe fresh None image script text o end → EndsAs (opened_reply read_only safe script image o) end before after
  opening_as read_only safe fresh image script (Err fault) end reads x = fault_as fault end x
  opening_as read_only safe fresh image script (Ok v) end reads x =
      suiting_as (mode_of v.kind read_only safe) fresh (record { image = image; view = v }) script (is_unsuited safe v) end reads x

  giving_as : (r : Request) (image script : List ℕ) (given : Bool) (end : End) → r.demo ≡ None → only_reads script ≡ true → EndsByGiving d old new r image script text given end
      → EndsAs (attached_reply given r script image) end before after
  giving_as r image script false end plain reads x = without_as (is_some r.new) end x
  giving_as r image script true end plain reads x =
      opening_as r.read_only r.safe (is_some r.new) (image_for r.new image) script (open_image (image_for r.new image)) end reads
      (subst (λ (demo : Option ℕ). EndsByOpening d old new r.read_only r.safe (is_some r.new) demo (image_for r.new image) script text (open_image (image_for r.new image)) end) plain x)

  length_as : (gives : List ℕ → Option ℕ → Bool) (r : Request) (image script : List ℕ) (long : Bool) (end : End) → r.demo ≡ None → only_reads script ≡ true → EndsByLength d old new gives r image script text long end
      → EndsAs (if long then silent ScriptTooLong else attached_reply (gives r.image (blank_size r)) r script image) end before after
  length_as gives r image script true end plain reads x = before_as ScriptTooLong end (λ w. (refl, w)) x
  length_as gives r image script false end plain reads x = giving_as r image script (gives r.image (blank_size r)) end plain reads x

  pub promise_as : (gives : List ℕ → Option ℕ → Bool) (image script : List ℕ) (o : Option Request) (end : End) → AsksNoDemo o → only_reads script ≡ true → Promise d old new gives image script text o end
      → EndsAs (request_reply gives script image o) end before after
  promise_as gives image script None end plain reads x = before_as BadWords end (λ w. (refl, w)) x
  promise_as gives image script (Some r) end plain reads x = length_as gives r image script (nat_lt script_limit (length script)) end plain reads x
