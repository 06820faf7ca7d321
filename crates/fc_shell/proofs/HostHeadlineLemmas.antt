-- The headline over a host that tells its files, from what a run promises.
use Rattle.std.proofs.Common.{◌≡◌, ◌⊎◌, inl, inr, ℕ, Bool, true, false, nat_lt, List, [], ◌∷◌, length, Option, Some, None, Result, Ok, Err, refl, sym, subst}
use Rattle.std.specs.Prelude.{is_some}
use Rattle.fc_device.specs.declared.disk.Disk.{Ghosts}
use Rattle.fc_host.specs.Asked.{Asked}
use Rattle.fc_host.specs.Files.{Files}
use Rattle.fc_image.specs.declared.ImageFault.{ImageFault}
use Rattle.fc_image.specs.Laws.{AcceptedLaw}
use Rattle.fc_image.specs.Opening.{Opened, open_image}
use Rattle.fc_image.specs.effects.Effect.{State}
use Rattle.fc_runs.specs.HostHeadline.{HostHeadlineLaw}
use Rattle.fc_runs.specs.HostPromises.{ToldRun}
use Rattle.fc_runs.specs.HostRun.{HostSteps, Reading}
use Rattle.fc_script.specs.HostLines.{host_line_of}
use Rattle.fc_runs.specs.Run.{Mode, commands_in}
use Rattle.fc_runs.specs.Stops.{MayHaveLeft}
use Rattle.fc_words.specs.CommandLine.{Request}
use Rattle.fc_shell.specs.declared.ending.End.{End}
use Rattle.fc_shell.specs.declared.ending.End.TheVariants.{Done, Refused, BadWords, BadImage, DiskFault, ScriptFault, OutFault, HostFault, NoMemory, ScriptTooLong, NotSafe, NoImage}
use Rattle.fc_shell.specs.Headline.{start_of}
use Rattle.fc_shell.specs.HostHeadline.{IsAnsweredByMaps, IsInLines, IsServedWithHost}
use Rattle.fc_shell.specs.HostPromise.{HostPromise, MovesByDemo, MovesByGiving, MovesByLength, MovesByOpening, MovesBySuiting, ToldOver}
use Rattle.fc_shell.specs.Modes.{is_unsuited, mode_of}
use Rattle.fc_shell.specs.Promise.{EndsBefore, EndsOnFault, EndsUnsuited, EndsWithout}
use Rattle.fc_shell.specs.Replies.{blank_size, image_for, script_limit}
use Rattle.fc_shell.proofs.HostPromiseLemmas.{over_told}

-- The run ended in its lines or after them.
abbrev IsLate : End → Type 0
IsLate Done = Unit {0}
IsLate Refused = Unit {0}
IsLate HostFault = Unit {0}
IsLate end = ⊥

late : (end : End) → IsInLines end → IsLate end
late end (inl is) = subst IsLate (sym is) tt
late end (inr (inl is)) = subst IsLate (sym is) tt
late end (inr (inr is)) = subst IsLate (sym is) tt

module _ {D : Type 0} (d : Ghosts D) (old new : D) (r : Request) (files left : Option Files) (asked : List Asked) (image script text : List ℕ) where
  on_fault : (fault : ImageFault) (end : End) → IsLate end → EndsOnFault d old new fault text end → ⊥
  on_fault fault Done w x = x
  on_fault fault Refused w x = x
  on_fault fault HostFault w x = x
  on_fault fault BadWords w x = w
  on_fault fault (BadImage found) w x = w
  on_fault fault DiskFault w x = w
  on_fault fault ScriptFault w x = w
  on_fault fault OutFault w x = w
  on_fault fault NoMemory w x = w
  on_fault fault ScriptTooLong w x = w
  on_fault fault NotSafe w x = w
  on_fault fault NoImage w x = w

  unsuited : (fresh : Bool) (s : State) (end : End) → IsLate end → EndsUnsuited d old new fresh s text end → ⊥
  unsuited fresh s Done w x = x
  unsuited fresh s Refused w x = x
  unsuited fresh s HostFault w x = x
  unsuited fresh s BadWords w x = w
  unsuited fresh s (BadImage found) w x = w
  unsuited fresh s DiskFault w x = w
  unsuited fresh s ScriptFault w x = w
  unsuited fresh s OutFault w x = w
  unsuited fresh s NoMemory w x = w
  unsuited fresh s ScriptTooLong w x = w
  unsuited fresh s NotSafe w x = w
  unsuited fresh s NoImage w x = w

  by_suiting : (v : Opened) (is_not : Bool) (end : End) → open_image (image_for r.new image) ≡ Ok v → IsLate end
      → MovesBySuiting d old new (mode_of v.kind r.read_only r.safe) (is_some r.new) (start_of r image v) files left asked script text is_not end → IsServedWithHost d old new r image script text files left end
  by_suiting v true end o w x = absurd (unsuited (is_some r.new) (start_of r image v) end w x.0)
  by_suiting v false end o w x =
      record { view = v; opens = o; over = over_told d old new (mode_of v.kind r.read_only r.safe) (is_some r.new) (start_of r image v) files left asked script text end x }

  without : (fresh : Bool) (end : End) → IsLate end → EndsWithout d old new fresh text end → ⊥
  without fresh Done w x = x
  without fresh Refused w x = x
  without fresh HostFault w x = x
  without fresh BadWords w x = w
  without fresh (BadImage found) w x = w
  without fresh DiskFault w x = w
  without fresh ScriptFault w x = w
  without fresh OutFault w x = w
  without fresh NoMemory w x = w
  without fresh ScriptTooLong w x = w
  without fresh NotSafe w x = w
  without fresh NoImage w x = w

  early : (reason end : End) → (IsLate reason → ⊥) → IsLate end → EndsBefore d old new reason text end → ⊥
  early reason end denied w x = by x.0
    where
      by : (end ≡ reason) ⊎ ((end ≡ ScriptFault) ⊎ (end ≡ NoMemory)) → ⊥
      by (inl is) = denied (subst IsLate is w)
      by (inr (inl is)) = subst IsLate is w
      by (inr (inr is)) = subst IsLate is w

  by_opening : (opened : Result Opened ImageFault) (end : End) → open_image (image_for r.new image) ≡ opened → IsLate end
      → MovesByOpening d old new r.read_only r.safe (is_some r.new) files left asked (image_for r.new image) script text opened end → IsServedWithHost d old new r image script text files left end
  by_opening (Err fault) end o w x = absurd (on_fault fault end w x.0)
  by_opening (Ok v) end o w x = by_suiting v (is_unsuited r.safe v) end o w x

  by_giving : (given : Bool) (end : End) → IsLate end → MovesByGiving d old new r files left asked image script text given end → IsServedWithHost d old new r image script text files left end
  by_giving false end w x = absurd (without (is_some r.new) end w x.0)
  by_giving true end w x = by_opening (open_image (image_for r.new image)) end refl w x

  module _ (gives : List ℕ → Option ℕ → Bool) (plain : r.demo ≡ None) where
    by_length : (long : Bool) (end : End) → IsLate end → MovesByLength d old new gives r files left asked image script text long end → IsServedWithHost d old new r image script text files left end
    by_length true end w x = absurd (early ScriptTooLong end (λ never. never) w x.0)
    by_length false end w x = by_giving (gives r.image (blank_size r)) end w
        (subst (λ (demo : Option ℕ). MovesByDemo d old new r files left asked image script text (gives r.image (blank_size r)) demo end) plain x)

    pub served_with_host : (end : End) → IsInLines end → HostPromise d old new gives files left asked image script text (Some r) end → IsServedWithHost d old new r image script text files left end
    served_with_host end w x = by_length (nat_lt script_limit (length script)) end (late end w) x

-- ---- by two maps

steps_weaker : (read : Reading) (May Might : List ℕ → Type 0) → ((image : List ℕ) → May image → Might image) → (mode : Mode) (s s' : State) (files files' : Files) (lines replies : List (List ℕ))
    → HostSteps read May mode s files lines replies s' files' → HostSteps read Might mode s files lines replies s' files'
steps_weaker read May Might weaker mode s s' files files' [] [] x = x
steps_weaker read May Might weaker mode s s' files files' [] (reply ∷ replies) x = x
steps_weaker read May Might weaker mode s s' files files' (line ∷ lines) [] x = x
steps_weaker read May Might weaker mode s s' files files' (line ∷ lines) (reply ∷ replies) x =
    (x.0, x.1, weaker x.0.image x.2, x.3, steps_weaker read May Might weaker mode x.0 s' x.1 files' lines replies x.4)

module _ {D : Type 0} (d : Ghosts D) (old new : D) (headline : HostHeadlineLaw) (accepted : AcceptedLaw) (r : Request) (image script text : List ℕ) (files : Files) (left : Option Files) where
  by_maps : (v : Opened) (refused : Bool) → open_image (image_for r.new image) ≡ Ok v
      → ToldRun d host_line_of old new (mode_of v.kind r.read_only r.safe) (is_some r.new) (start_of r image v) (Some files) left script text refused → IsAnsweredByMaps d new r image script text files left
  by_maps v refused o x =
      let ran = x files refl in
      let has = ran.2 in
      record {
        view = v;
        opens = o;
        replies = has.run.replies;
        end = has.end;
        now = ran.0;
        left_is = ran.1;
        answered = headline host_line_of (mode_of v.kind r.read_only r.safe) (start_of r image v) has.end files ran.0 (commands_in script) has.run.replies (accepted (image_for r.new image) v o)
            (steps_weaker host_line_of (MayHaveLeft d old new) (λ between. Unit {0}) (λ between may. tt) (mode_of v.kind r.read_only r.safe) (start_of r image v) has.end files ran.0 (commands_in script) has.run.replies has.run.steps);
        told = has.run.told;
        holds = has.holds;
      }

  pub answered_by_maps : (end : End) (held : Option Files) → held ≡ Some files → (end ≡ Done) ⊎ (end ≡ Refused) → IsServedWithHost d old new r image script text held left end
      → IsAnsweredByMaps d new r image script text files left
  answered_by_maps end held is (inl done) x =
      let over = subst (λ (e : End). ToldOver d old new (mode_of x.view.kind r.read_only r.safe) (is_some r.new) (start_of r image x.view) held left script text e) done x.over in
      by_maps x.view false x.opens (subst (λ (h : Option Files). ToldRun d host_line_of old new (mode_of x.view.kind r.read_only r.safe) (is_some r.new) (start_of r image x.view) h left script text false) is over)
  answered_by_maps end held is (inr done) x =
      let over = subst (λ (e : End). ToldOver d old new (mode_of x.view.kind r.read_only r.safe) (is_some r.new) (start_of r image x.view) held left script text e) done x.over in
      by_maps x.view true x.opens (subst (λ (h : Option Files). ToldRun d host_line_of old new (mode_of x.view.kind r.read_only r.safe) (is_some r.new) (start_of r image x.view) h left script text true) is over)
