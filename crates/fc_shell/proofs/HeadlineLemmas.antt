-- The headline, from what a run promises.
use Rattle.std.proofs.Common.{◌≡◌, ◌⊎◌, inl, inr, ℕ, Bool, true, false, nat_lt, List, length, Option, Some, Result, Ok, Err, refl, sym, subst}
use Rattle.std.specs.Prelude.{is_some}
use Rattle.fc_device.specs.declared.disk.Disk.{Ghosts}
use Rattle.fc_image.specs.declared.ImageFault.{ImageFault}
use Rattle.fc_image.specs.Laws.{AcceptedLaw}
use Rattle.fc_image.specs.Opening.{Opened, open_image}
use Rattle.fc_image.specs.effects.Effect.{State}
use Rattle.fc_runs.specs.Headline.{HeadlineLaw}
use Rattle.fc_runs.specs.Promises.{HasRun}
use Rattle.fc_runs.specs.Run.{commands_in, script_for}
use Rattle.fc_runs.specs.Stops.{MayHaveLeft}
use Rattle.fc_words.specs.CommandLine.{Request}
use Rattle.fc_shell.specs.declared.ending.End.{End}
use Rattle.fc_shell.specs.declared.ending.End.TheVariants.{Done, Refused, BadWords, BadImage, DiskFault, ScriptFault, OutFault, NoMemory, ScriptTooLong, NotSafe, HostFault, NoImage}
use Rattle.fc_shell.specs.Headline.{IsAnsweredByMap, start_of}
use Rattle.fc_shell.specs.Modes.{is_unsuited, mode_of}
use Rattle.fc_shell.specs.Promise.{EndsBefore, EndsByGiving, EndsByLength, EndsByOpening, EndsBySuiting, EndsOnFault, EndsOver, EndsUnsuited, EndsWithout, Promise}
use Rattle.fc_shell.specs.Replies.{blank_size, image_for, script_limit}
use Rattle.fc_shell.proofs.TurnLemmas.{steps_weaker}

-- All lines were done.
abbrev IsWhole : End → Type 0
IsWhole Done = Unit {0}
IsWhole Refused = Unit {0}
IsWhole end = ⊥

whole : (end : End) → (end ≡ Done) ⊎ (end ≡ Refused) → IsWhole end
whole end (inl is) = subst IsWhole (sym is) tt
whole end (inr is) = subst IsWhole (sym is) tt

module _ {D : Type 0} (d : Ghosts D) (old new : D) (headline : HeadlineLaw) (accepted : AcceptedLaw) (r : Request) (image script text : List ℕ) where
  from_run : (v : Opened) (fresh refused : Bool) → open_image (image_for r.new image) ≡ Ok v
      → HasRun d old new (mode_of v.kind r.read_only r.safe) fresh r.demo (start_of r image v) script text refused → IsAnsweredByMap d new r image script text
  from_run v fresh refused o has = record {
    view = v;
    opens = o;
    replies = has.run.replies;
    end = has.end;
    answered = headline (mode_of v.kind r.read_only r.safe) (start_of r image v) has.end (commands_in (script_for r.demo script)) has.run.replies
        (accepted (image_for r.new image) v o)
        (steps_weaker (MayHaveLeft d old new) (λ between. Unit {0}) (λ image may. tt) (mode_of v.kind r.read_only r.safe) (start_of r image v) has.end (commands_in (script_for r.demo script)) has.run.replies has.run.steps);
    told = has.run.told;
    holds = has.holds;
  }

  over : (v : Opened) (fresh : Bool) (end : End) → open_image (image_for r.new image) ≡ Ok v → IsWhole end
      → EndsOver d old new (mode_of v.kind r.read_only r.safe) fresh r.demo (start_of r image v) script text end → IsAnsweredByMap d new r image script text
  over v fresh Done o w x = from_run v fresh false o x
  over v fresh Refused o w x = from_run v fresh true o x
  over v fresh BadWords o w x = absurd w
  over v fresh (BadImage fault) o w x = absurd w
  over v fresh DiskFault o w x = absurd w
  over v fresh ScriptFault o w x = absurd w
  over v fresh OutFault o w x = absurd w
  over v fresh NoMemory o w x = absurd w
  over v fresh ScriptTooLong o w x = absurd w
  over v fresh NotSafe o w x = absurd w
  over v fresh HostFault o w x = absurd w
  over v fresh NoImage o w x = absurd w

  unsuited : (fresh : Bool) (s : State) (end : End) → IsWhole end → EndsUnsuited d old new fresh s text end → ⊥
  unsuited fresh s Done w x = x
  unsuited fresh s Refused w x = x
  unsuited fresh s BadWords w x = w
  unsuited fresh s (BadImage found) w x = w
  unsuited fresh s DiskFault w x = w
  unsuited fresh s ScriptFault w x = w
  unsuited fresh s OutFault w x = w
  unsuited fresh s NoMemory w x = w
  unsuited fresh s ScriptTooLong w x = w
  unsuited fresh s NotSafe w x = w
  unsuited fresh s HostFault w x = w
  unsuited fresh s NoImage w x = w

  by_suiting : (v : Opened) (fresh is_not : Bool) (end : End) → open_image (image_for r.new image) ≡ Ok v → IsWhole end
      → EndsBySuiting d old new (mode_of v.kind r.read_only r.safe) fresh r.demo (start_of r image v) script text is_not end → IsAnsweredByMap d new r image script text
  by_suiting v fresh true end o w x = absurd (unsuited fresh (start_of r image v) end w x)
  by_suiting v fresh false end o w x = over v fresh end o w x

  on_fault : (fault : ImageFault) (end : End) → IsWhole end → EndsOnFault d old new fault text end → ⊥
  on_fault fault Done w x = x
  on_fault fault Refused w x = x
  on_fault fault BadWords w x = w
  on_fault fault (BadImage found) w x = w
  on_fault fault DiskFault w x = w
  on_fault fault ScriptFault w x = w
  on_fault fault OutFault w x = w
  on_fault fault NoMemory w x = w
  on_fault fault ScriptTooLong w x = w
  on_fault fault NotSafe w x = w
  on_fault fault HostFault w x = w
  on_fault fault NoImage w x = w

  without : (fresh : Bool) (end : End) → IsWhole end → EndsWithout d old new fresh text end → ⊥
  without fresh Done w x = x
  without fresh Refused w x = x
  without fresh BadWords w x = w
  without fresh (BadImage found) w x = w
  without fresh DiskFault w x = w
  without fresh ScriptFault w x = w
  without fresh OutFault w x = w
  without fresh NoMemory w x = w
  without fresh ScriptTooLong w x = w
  without fresh NotSafe w x = w
  without fresh HostFault w x = w
  without fresh NoImage w x = w

  early : (reason end : End) → (IsWhole reason → ⊥) → IsWhole end → EndsBefore d old new reason text end → ⊥
  early reason end denied w x = by x.0
    where
      by : (end ≡ reason) ⊎ ((end ≡ ScriptFault) ⊎ (end ≡ NoMemory)) → ⊥
      by (inl is) = denied (subst IsWhole is w)
      by (inr (inl is)) = subst IsWhole is w
      by (inr (inr is)) = subst IsWhole is w

  by_opening : (opened : Result Opened ImageFault) (end : End) → open_image (image_for r.new image) ≡ opened → IsWhole end
      → EndsByOpening d old new r.read_only r.safe (is_some r.new) r.demo (image_for r.new image) script text opened end → IsAnsweredByMap d new r image script text
  by_opening (Err fault) end o w x = absurd (on_fault fault end w x)
  by_opening (Ok v) end o w x = by_suiting v (is_some r.new) (is_unsuited r.safe v) end o w x

  by_giving : (given : Bool) (end : End) → IsWhole end → EndsByGiving d old new r image script text given end → IsAnsweredByMap d new r image script text
  by_giving false end w x = absurd (without (is_some r.new) end w x)
  by_giving true end w x = by_opening (open_image (image_for r.new image)) end refl w x

  module _ (gives : List ℕ → Option ℕ → Bool) where
    by_length : (long : Bool) (end : End) → IsWhole end → EndsByLength d old new gives r image script text long end → IsAnsweredByMap d new r image script text
    by_length true end w x = absurd (early ScriptTooLong end (λ never. never) w x)
    by_length false end w x = by_giving (gives r.image (blank_size r)) end w x

    pub answered_by_map : (end : End) → (end ≡ Done) ⊎ (end ≡ Refused) → Promise d old new gives image script text (Some r) end → IsAnsweredByMap d new r image script text
    answered_by_map end w x = by_length (nat_lt script_limit (length script)) end (whole end w) x
