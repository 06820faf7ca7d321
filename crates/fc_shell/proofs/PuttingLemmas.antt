-- A `put`: what becomes of its line, by the length of its file and by what the volume answers.
use Rattle.std.proofs.Common.{◌≡◌, ◌≤◌, ◌<◌, ◌⊎◌, inl, inr, ⊎_elim, ℕ, ◌+◌, Bool, true, false, nat_lt, List, [], ◌∷◌, ◌++◌, All, length, Option, Some, None, Result, Ok, Err, IfOk, IfErr, refl, sym, ap, subst, ◌∙◌, append_assoc, arith}
use Rattle.std.specs.Prelude.{IsOk, OnOk}
use Rattle.std.specs.Option.{ForSome}
use Rattle.std.proofs.lemmas.Bool.Decides.{nat_tests}
use Rattle.std.proofs.lemmas.List.{take_all}
use Rattle.std.proofs.lemmas.List.Elements.{All-cons}
use Rattle.std.proofs.lemmas.Result.{on_ok_weaker}
use Rattle.fc_device.specs.declared.disk.Disk.{Ghosts}
use Rattle.fc_device.specs.declared.streams.Sink.{Ghosts as Sinks}
use Rattle.fc_device.specs.Calls.{OnlyReads, SameForm}
use Rattle.fc_device.specs.Faults.{Rose}
use Rattle.fc_device.specs.Stops.{LeavesOnly}
use Rattle.fc_device.proofs.DiskLaws.{Laws, form_then}
use Rattle.fc_device.proofs.StopLemmas.{goes_on_same, keeps_same, one_told, reads_start}
use Rattle.fc_host.specs.declared.host.Host.{Ghosts as Hosts}
use Rattle.fc_host.specs.Answers.{AnswersCalls, joined, taken_from}
use Rattle.fc_host.specs.Asked.{Asked}
use Rattle.fc_host.specs.Files.{Files, bytes_of, size_of}
use Rattle.fc_host.specs.declared.supply.Supply.{Ghosts as Supplies}
use Rattle.fc_host.specs.HostSupplies.{Giving, Goes, faults_of}
use Rattle.fc_host.specs.Looks.{IsLook, LooksAt, Takes as TakesBytes}
use Rattle.fc_host.specs.Supplies.{IsGivenOf}
use Rattle.fc_host.specs.declared.asks.HostCall.TheVariants as calls
use Rattle.fc_host.proofs.AnswerLemmas.{file_answered}
use Rattle.fc_names.specs.declared.refusal.Refusal.{Refusal}
use Rattle.fc_names.specs.declared.refusal.Refusal.TheVariants as refusals
use Rattle.fc_names.specs.Names.{Path}
use Rattle.fc_names.specs.declared.name.NameForm.{NameForm}
use Rattle.fc_record.specs.declared.Kind.{Kind}
use Rattle.fc_model.specs.Tree.{Tree}
use Rattle.fc_model.specs.Command.{Command}
use Rattle.fc_model.specs.Answer.{changed, first_of, reasons}
use Rattle.fc_image.specs.Layout.{dir_form}
use Rattle.fc_image.specs.Objects.{tree_of}
use Rattle.fc_image.specs.Opening.{Opened}
use Rattle.fc_image.specs.Sound.{AreSound}
use Rattle.fc_image.specs.Stays.{OpensAs}
use Rattle.fc_image.specs.effects.Effect.{Changes, State, tree_in}
use Rattle.fc_script.specs.HostLines.{HostLine}
use Rattle.fc_script.specs.Texts.{ok_line, refusal_line}
use Rattle.fc_runs.specs.AskedRun.{AskedTakes, PutsAsked, UnlessRefused}
use Rattle.fc_runs.specs.HostRun.{answer_in, host_keeps_tree, longest_file}
use Rattle.fc_runs.specs.HostServing.{IsBrokenOff, IsMoved}
use Rattle.fc_runs.specs.Meanwhile.{GoesOn}
use Rattle.fc_runs.specs.HostPromises.{AskedBegun, AskedLeaves}
use Rattle.fc_runs.specs.Promises.{StaysBy, spares_disk}
use Rattle.fc_runs.specs.Run.{Mode, Takes, is_error}
use Rattle.fc_runs.specs.Spares.{Spares}
use Rattle.fc_runs.specs.Stops.{HostLeftBy, HostSparesBy, LeftAs, host_leaves_image}
use Rattle.fc_runs.proofs.ErrorLemmas.{ok_no_error}
use Rattle.fc_runs.proofs.HostServingLemmas.{stays_same}
use Rattle.fc_runs.proofs.LeftLemmas.{left_if_spared}
use Rattle.fc_runs.proofs.ModeLemmas.{as_either}
use Rattle.fc_image.specs.safe.SafeEffect.{HasTreeBeforeOrAfter}
use Rattle.fc_space.specs.Space.{layout_of}
use Rattle.fc_space.specs.declared.space.Space.{Space}
use Rattle.fc_tree.specs.Agree.{Agree}
use Rattle.fc_tree.specs.Nodes.{HoldObjects, Numbers, nodes_of}
use Rattle.fc_tree.specs.Parts.{ArePartsOf}
use Rattle.fc_tree.proofs.WalkedLemmas.{sound_law}
use Rattle.fc_holdings.specs.declared.error.CommandError.{CommandError}
use Rattle.fc_holdings.specs.declared.error.CommandError.TheVariants.{DiskFault, NoMemory, Refused}
use Rattle.fc_holdings.specs.Answers.{AnswersBy, UnlessFault}
use Rattle.fc_commands.proofs.JudgmentLemmas.{by_form}
use Rattle.fc_commands.specs.Run.{IsMapIn}
use Rattle.fc_commands.specs.Judgments.{CommandLeaves}
use Rattle.fc_commands.specs.Given.{OpensAlikeOf, UnlessDiskFault, as_held, filled}
use Rattle.fc_commands.specs.Promises.{WritesPlacesOf}
use Rattle.fc_commands.specs.declared.given.GivenError.{GivenError}
use Rattle.fc_volume.specs.Changing.{refusal_in}
use Rattle.fc_volume.specs.Giving.{IsAskedGiving}
use Rattle.fc_volume.specs.Volume.{StandsFor, Volume, parts_of}
use Rattle.fc_shell.specs.declared.answer.LineFault.{LineFault}
use Rattle.fc_shell.specs.declared.answer.LineFault.TheVariants as lines
use Rattle.fc_shell.specs.declared.moving.MoveFault.{MoveFault}
use Rattle.fc_shell.specs.declared.moving.MoveFault.TheVariants as moves
use Rattle.fc_shell.specs.Answered.{Answered, OnlyTells}
use Rattle.fc_shell.specs.Line.{IsReady}
use Rattle.fc_shell.specs.Modes.{mode_of}
use Rattle.fc_shell.specs.MoveFaults.{move_fault, moved_result}
use Rattle.fc_shell.specs.Moving.{AreCaused, AsksMore, KeepsServing, LineMoves, move_cause}
use Rattle.fc_shell.specs.Putting.{IsMeasured, SavesFile, SavesGiven, TellsSaved}
use Rattle.fc_shell.specs.Writing.{Wrote, WrotePart}
use Rattle.fc_shell.proofs.ChangeLemmas.{agreed_view, answer_accepted, answer_refused, done_accepted, done_takes, refusal_is, refused_takes}
use Rattle.fc_shell.proofs.CommandLemmas.{locked}
use Rattle.fc_shell.proofs.MovingLemmas.{broke_left, cuts_move, disk_line, no_host, out_line, told_moves}
use Rattle.fc_shell.proofs.SpaceLemmas.{spares_law}
use Rattle.fc_shell.proofs.SparesLemmas.{spares_of}
use Rattle.fc_shell.proofs.StepLemmas.{same_image, same_tree}
use Rattle.fc_shell.proofs.WritingLemmas.{wrote_nothing}

-- ---- a save of given bytes

rose_host : (failed : Bool) (n m : ℕ) → Rose n (faults_of failed m) → (failed ≡ true → Rose n m) → Rose n m
rose_host false n m rose fails = rose
rose_host true n m rose fails = fails refl

-- What a volume answers by bytes that a supply gives, if that is a host's file.
pub given_saved : {D H B : Type 0} (d : Ghosts D) (h : Hosts H) (b : Supplies B) (name : List ℕ) (len : ℕ) (save : List ℕ → Command) (was v : Volume) (old new : D) (x y : B) (host host' : H) (failed : Bool)
    (answer : Result (Unit {0}) GivenError) → IsAskedGiving d b len save was v old new x y answer → (y ≡ x → host' ≡ host)
    → Goes h name len (record { host = host; given = []; failed = false }) (record { host = host'; given = b.given y; failed = failed })
    → ForSome (h.files host') (λ files. IsGivenOf (b.given y) len (bytes_of files name)) → b.faults x ≡ h.faults host → b.faults y ≡ faults_of failed (h.faults host')
    → SavesGiven d h name len save was v old new (record { host = host; given = []; failed = false }) (record { host = host'; given = b.given y; failed = failed }) answer
given_saved d h b name len save was v old new x y host host' failed answer asked same gives told before after = record {
  refused = asked.refused;
  whole = asked.given;
  changed = asked.changed;
  places = asked.places;
  leaves = asked.leaves;
  alike = asked.alike;
  unchanged = kept answer asked.keeps.unchanged;
  stands = asked.keeps.stands;
  settled = asked.keeps.settled;
  fit = asked.keeps.fit;
  rights = asked.keeps.rights;
  form = asked.keeps.form;
  goes = asked.keeps.goes;
  disk_later = asked.keeps.disk_later;
  disk_failed = asked.keeps.disk_failed;
  gives = gives;
  told = told;
  host_failed = λ is.
      rose_host failed (h.faults host) (h.faults host') (subst (λ (m : ℕ). Rose (h.faults host) m) after (subst (λ (n : ℕ). Rose n (b.faults y)) before (asked.keeps.supply_failed is)))
      (λ fails. ⊎_elim (λ never. absurd (let clash : false ≡ true = never in cc)) (λ rose. rose.0) (gives.fails fails));
}
  where
    kept : (r : Result (Unit {0}) GivenError) → IfErr r (λ error. (error ≡ GivenError.Command DiskFault → ⊥) → (error ≡ GivenError.Supply → ⊥) → (v ≡ was) × (new ≡ old) × (y ≡ x))
        → IfErr r (λ error. (error ≡ GivenError.Command DiskFault → ⊥) → (error ≡ GivenError.Supply → ⊥) → (v ≡ was) × (new ≡ old) × (host' ≡ host))
    kept (Ok done) is = tt
    kept (Err error) is = λ disk supply. let k = is disk supply in (k.0, k.1, same k.2)

-- ---- a save of given bytes, synced

module _ {D H : Type 0} {d : Ghosts D} (law : Laws d) (h : Hosts H) (name : List ℕ) (len : ℕ) (save : List ℕ → Command) (was v : Volume) (old mid : D) (before after : H) (given : List ℕ) (failed : Bool) where
  abbrev start : Giving H
  start = record { host = before; given = []; failed = false }

  abbrev end : Giving H
  end = record { host = after; given = given; failed = failed }

  module _ (answer : Result (Unit {0}) GivenError) (saves : SavesGiven d h name len save was v old mid start end answer) where
    -- It has not failed, if as many bytes were given:
    unfailed : length given ≡ len → failed ≡ false
    unfailed long = by failed saves.gives.fails
      where
        by : (b : Bool) → (b ≡ true → (false ≡ true) ⊎ (Rose (h.faults before) (h.faults after) × (length given < len))) → b ≡ false
        by false fails = refl
        by true fails = absurd (⊎_elim (λ never. let clash : false ≡ true = never in cc) (λ x. let low = x.1 in omega (arith, long, low)) (fails refl))

    -- then these were taken, and they are the file's.
    taken_all : length given ≡ len → TakesBytes name 0 given (h.asked before) (h.asked after)
    taken_all long =
        let more = (saves.gives.takes (unfailed long)).1 in
        subst (λ (bytes : List ℕ). TakesBytes name 0 bytes (h.asked before) (h.asked after)) (sym more.1) more.2

    told_all : length given ≡ len → ForSome (h.files before) (λ files. given ≡ bytes_of files name)
    told_all long files known =
        let is = saves.told files (saves.gives.files ∙ known) in
        is.first ∙ take_all (length given) (bytes_of files name) (let l = is.long in omega (arith, long, l))

    -- Nothing more was done: the host didn't fail.
    pub saved_so : (answer ≡ Err GivenError.Supply → ⊥) → SavesFile d h name len save was v old mid before after answer
    saved_so never = record {
      given = given;
      refused = saves.refused;
      whole = saves.whole;
      taken = on_ok_weaker answer taken_all saves.whole;
      told = on_ok_weaker answer told_all saves.whole;
      changed = saves.changed;
      places = saves.places;
      leaves = saves.leaves;
      alike = saves.alike;
      unchanged = saves.unchanged;
      ready = ready answer saves.fit saves.stands saves.settled;
      settled = settled answer never saves.settled;
      goes = record { form = saves.form; stops = saves.goes; faults = saves.disk_later };
      disk_failed = saves.disk_failed;
      looks = saves.gives.looks;
      files = saves.gives.files;
      host_later = saves.gives.later;
      host_failed = saves.host_failed;
    }
      where
        takes : v.fit ≡ true → StandsFor d v mid → d.pending mid ≡ false → IsReady d mid was v
        takes fit stands quiet = record { fit = fit; stands = stands; settled = quiet; read_only = saves.rights }

        ready : (x : Result (Unit {0}) GivenError) → UnlessDiskFault x (v.fit ≡ true) → UnlessDiskFault x (StandsFor d v mid) → UnlessFault (as_held x) (d.pending mid ≡ false) → UnlessFault (as_held x) (IsReady d mid was v)
        ready (Ok done) fit stands quiet = takes fit stands quiet
        ready (Err (GivenError.Command (Refused r))) fit stands quiet = takes fit stands quiet
        ready (Err (GivenError.Command NoMemory)) fit stands quiet = takes fit stands quiet
        ready (Err (GivenError.Command DiskFault)) fit stands quiet = tt
        ready (Err GivenError.Supply) fit stands quiet = tt

        settled : (x : Result (Unit {0}) GivenError) → (x ≡ Err GivenError.Supply → ⊥) → UnlessFault (as_held x) (d.pending mid ≡ false) → (x ≡ Err (GivenError.Command DiskFault) → ⊥) → d.pending mid ≡ false
        settled (Ok done) unfailed quiet unless = quiet
        settled (Err (GivenError.Command (Refused r))) unfailed quiet unless = quiet
        settled (Err (GivenError.Command NoMemory)) unfailed quiet unless = quiet
        settled (Err (GivenError.Command DiskFault)) unfailed quiet unless = absurd (unless refl)
        settled (Err GivenError.Supply) unfailed quiet unless = absurd (unfailed refl)

  -- The host failed, and what was written before is synced.
  module _ (new : D) (saves : SavesGiven d h name len save was v old mid start end (Err GivenError.Supply)) (form : SameForm d mid new) (bytes : d.bytes new ≡ d.bytes mid)
      (stops : LeavesOnly d.moment d.left_since mid new (d.left_since mid (d.moment mid))) (faults : d.faults mid ≤ d.faults new) where
    meanwhile : GoesOn d old new
    meanwhile = record { form = form_then d saves.form form; stops = goes_on_same law saves.goes stops; faults = omega (arith, saves.disk_later, faults) }

    pub saved_synced : d.pending new ≡ false → SavesFile d h name len save was v old new before after (Err GivenError.Supply)
    saved_synced quiet = record {
      given = given;
      refused = saves.refused;
      whole = tt;
      taken = tt;
      told = tt;
      changed = tt;
      places = keeps_same law saves.places stops bytes;
      leaves = keeps_same law saves.leaves stops bytes;
      alike = λ is. keeps_same law (saves.alike refl) stops bytes;
      unchanged = λ disk supply. absurd (supply refl);
      ready = tt;
      settled = λ never. quiet;
      goes = meanwhile;
      disk_failed = λ is. absurd (cc);
      looks = saves.gives.looks;
      files = saves.gives.files;
      host_later = saves.gives.later;
      host_failed = saves.host_failed;
    }

    -- The disk failed then, too.
    pub saved_unsynced : Rose (d.faults mid) (d.faults new) → SavesFile d h name len save was v old new before after (Err (GivenError.Command DiskFault))
    saved_unsynced rose = record {
      given = given;
      refused = saves.refused;
      whole = tt;
      taken = tt;
      told = tt;
      changed = tt;
      places = keeps_same law saves.places stops bytes;
      leaves = keeps_same law saves.leaves stops bytes;
      alike = λ is. absurd (cc);
      unchanged = λ disk supply. absurd (disk refl);
      ready = tt;
      settled = λ never. absurd (never refl);
      goes = meanwhile;
      disk_failed = λ is. omega (arith, rose, saves.disk_later);
      looks = saves.gives.looks;
      files = saves.gives.files;
      host_later = saves.gives.later;
      host_failed = λ is. absurd (cc);
    }

-- ---- the judge

-- The judge says what the model does, over each view whose parts these are.
pub judged_by : (image : List ℕ) (view : Opened) (v : Volume) (form : NameForm) (read_only : Bool) (space : Space) (tree : Numbers) (refusal : Option Refusal) (c : Command)
    → form ≡ dir_form (layout_of space) → space ≡ v.space → tree ≡ v.tree → read_only ≡ v.read_only → ArePartsOf (parts_of v) view
    → (HoldObjects (nodes_of tree) view.listings → refusal ≡ first_of (reasons (tree_of image view.layout view.listings) form read_only c))
    → first_of (reasons (tree_of image view.layout view.listings) (dir_form view.layout) v.read_only c) ≡ refusal
judged_by image view v form read_only space tree refusal c form_is space_is tree_is rights parts judged =
    by_form form (parts_of v).layout image view v.read_only c refusal (form_is ∙ ap (λ (s : Space). dir_form (layout_of s)) space_is) parts.layout
    (subst (λ (b : Bool). refusal ≡ first_of (reasons (tree_of image view.layout view.listings) form b c)) rights
    (judged (subst (λ (t : Numbers). HoldObjects (nodes_of t) view.listings) (sym tree_is) parts.nodes)))

-- A volume that may not be changed is refused by it.
pub writable_by : (v : Volume) (path : Path) (load exec : ℕ) → (kind : Kind) × Agree kind (parts_of v)
    → ((view : Opened) → AreSound view.layout view.listings → ArePartsOf (parts_of v) view → first_of (reasons (tree_of [] view.layout view.listings) (dir_form view.layout) v.read_only (Command.Save path load exec [])) ≡ None)
    → v.read_only ≡ true → ⊥
writable_by v path load exec agree accepted is =
    let there = agreed_view v agree in
    locked (tree_of [] there.0.layout there.0.listings) (dir_form there.0.layout) (Command.Save path load exec []) refl
    (subst (λ (b : Bool). first_of (reasons (tree_of [] there.0.layout there.0.listings) (dir_form there.0.layout) b (Command.Save path load exec [])) ≡ None) is (accepted there.0 there.1 there.2))

-- ---- the line

module _ {D : Type 0} {d : Ghosts D} (law : Laws d) (kind : Kind) (safe : Bool) (was : Volume) (s : State) (name : List ℕ) (path : Path) (load exec : ℕ) (old : D)
    (quiet : d.pending old ≡ false) (told : d.bytes old ≡ Some s.image) (opens : OpensAs s.image kind s.view) where
  abbrev mode : Mode
  mode = mode_of kind was.read_only safe

  abbrev save : List ℕ → Command
  save = Command.Save path load exec

  abbrev line : Result HostLine Refusal
  line = Ok (HostLine.Put name path load exec)

  abbrev model : Option Refusal
  model = first_of (reasons (tree_in s) (dir_form s.view.layout) was.read_only (save []))

  -- The model refuses it before anything is asked.
  pub unasked : (r : Refusal) → model ≡ Some r → AskedTakes mode s [] line (refusal_line r) s
  unasked r refused =
      subst (λ (a : Result Tree Refusal). UnlessRefused s a [] (refusal_line r) s (PutsAsked mode s save name [] (refusal_line r) s))
      (sym (answer_refused (tree_in s) (dir_form s.view.layout) was.read_only (save []) r refused)) ((refl, refl), refl)

  module _ (accepted : model ≡ None) where
    pub answer_is : answer_in mode s (save []) ≡ Ok (changed (tree_in s) (save []))
    answer_is = answer_accepted (tree_in s) (dir_form s.view.layout) was.read_only (save []) accepted

    is_ok : IsOk (answer_in mode s (save []))
    is_ok = subst (λ (a : Result Tree Refusal). IsOk a) (sym answer_is) refl

    pub asked_so : (asked : List Asked) (reply : List ℕ) (next : State) → PutsAsked mode s save name asked reply next → AskedTakes mode s asked line reply next
    asked_so asked reply next puts =
        subst (λ (a : Result Tree Refusal). UnlessRefused s a asked reply next (PutsAsked mode s save name asked reply next)) (sym answer_is) puts

    -- the host is asked how long the file is
    pub sized : (size : Option ℕ) (files : Option Files) → ForSome files (λ held. size ≡ size_of held name) → AnswersCalls files ((name, calls.Size size, []) ∷ []) files
    sized size files is = (files, (is, refl), refl)

    pub not_long : (len : ℕ) → len ≤ longest_file → nat_lt longest_file len ≡ false
    not_long len few = grind (arith, nat_tests, few)

    -- It isn't there, or is too long.
    pub unmeasured : (was now : List Asked) (files : Option Files) (r : Refusal) → IsMeasured name was now files (Err r)
        → (asked : List Asked) × (now ≡ was ++ asked) × AskedTakes mode s asked line (refusal_line r) s × AnswersCalls files asked files
    unmeasured was now files r (inl x) =
        let asked : List Asked = (name, calls.Size None, []) ∷ [] in (
          asked,
          x.1,
          asked_so asked (refusal_line r) s (inl (refl, (ap refusal_line x.0, refl))),
          sized None files x.2,
        )
    unmeasured was now files r (inr x) =
        let asked : List Asked = (name, calls.Size (Some x.0), []) ∷ [] in
        let test : nat_lt longest_file x.0 ≡ true = (let long = x.2 in grind (arith, nat_tests, long)) in (
          asked,
          x.3,
          asked_so asked (refusal_line r) s (inr (x.0, [], refl, inl (test, refl, (ap refusal_line x.1, refl)))),
          sized (Some x.0) files x.4,
        )

    -- what was asked began the line
    pub begun : (asked : List Asked) → All (IsLook name) asked → AskedBegun mode s line asked
    begun asked looks = inr (is_ok, looks)

    -- It breaks off, and the disk is as it was.
    pub broke_same : (new : D) (before after : Option (List ℕ)) (v : Volume) (fault : MoveFault) (asked : List Asked) (files : Option Files) → OnlyReads d old new → after ≡ before → All (IsLook name) asked
        → LineMoves d old new mode s v line before after asked files files (Err fault)
    broke_same new before after v fault asked files reads same looks = inr (record {
      part = (0, subst (λ (a : Option (List ℕ)). Wrote before a []) (sym same) (wrote_nothing before));
      broke = record {
        begun = begun asked looks;
        files_left = λ held known. (held, known, inl refl);
        back = λ first host is. refl;
        holds = λ spares. (s.image, reads.bytes ∙ told, stays_same (move_cause fault) kind s opens);
        kept = λ keeps. same_tree law kind safe was s [] old new before after quiet told opens reads.stops;
        still = λ leaves. same_image law kind safe was s [] old new before after quiet told opens reads.stops;
        spared = λ image since. broke_left mode s opens line asked files image (same_image law kind safe was s [] old new before after quiet told opens reads.stops image since);
        exit = λ image here. broke_left mode s opens line asked files image (one_told (sym here ∙ (reads.bytes ∙ told)));
      };
    })

    -- ---- the file was there and is short enough, outside the safe mode

    module _ {H K : Type 0} (plain : safe ≡ false) (h : Hosts H) (k : Sinks K) (parts : ArePartsOf (parts_of was) s.view) (agree : (x : Kind) × Agree x (parts_of was)) (is_map : IsMapIn (parts_of was).layout) (len : ℕ) (few : len ≤ longest_file) (host mid end : H)
        (measured : h.asked mid ≡ h.asked host ++ (name, calls.Size (Some len), []) ∷ []) (size : ForSome (h.files host) (λ held. Some len ≡ size_of held name)) (same_files : h.files mid ≡ h.files host)
        (v : Volume) (new : D) (before after : K) where
      abbrev ask : Asked
      ask = (name, calls.Size (Some len), [])

      asked_is : (more : List Asked) → h.asked end ≡ h.asked mid ++ more → h.asked end ≡ h.asked host ++ ask ∷ more
      asked_is more is = is ∙ ap (λ (l : List Asked). l ++ more) measured ∙ append_assoc (h.asked host) (ask ∷ []) more

      -- a sector that the command needn't write stays
      spares : (bytes image : List ℕ) → WritesPlacesOf (save bytes) (parts_of was) s.image image → CommandLeaves (save bytes) (parts_of was) s.image image → HostSparesBy kind s line image
      spares bytes image writes leaves = (
        bytes,
        spares_of (parts_of was) kind s.view (save bytes) s.image image opens parts writes
            (spares_law s.image image kind agree.0 s.view (parts_of was) (save bytes) opens parts agree.1 is_map leaves),
      )

      -- outside the safe mode
      plain_takes : (c : Command) (reply : List ℕ) (next : State) → Takes (mode_of kind was.read_only false) s (Ok c) reply next → Takes mode s (Ok c) reply next
      plain_takes c reply next takes = subst (λ (b : Bool). Takes (mode_of kind was.read_only b) s (Ok c) reply next) (sym plain) takes

      left_plain : (Safe Plain : List ℕ → Type 0) (image : List ℕ) → Plain image → LeftAs safe Safe Plain image
      left_plain Safe Plain image left = as_either Safe Plain image safe (λ is. absurd (let clash : false ≡ true = sym plain ∙ is in cc)) (λ is. left)

      left_so : (refused : Bool) → refused ≡ false → (bytes image : List ℕ) → WritesPlacesOf (save bytes) (parts_of was) s.image image → CommandLeaves (save bytes) (parts_of was) s.image image
          → HostLeftBy kind s refused line image
      left_so refused is bytes image writes leaves =
          left_if_spared (host_leaves_image refused line) (host_keeps_tree refused line) kind s (HostSparesBy kind s line) image is is (spares bytes image writes leaves)

      no_error : is_error ok_line ≡ false
      no_error = ok_no_error []

      clash : (b : Bool) → b ≡ false → b ≡ true → ⊥
      clash b isnt is = let e : false ≡ true = sym isnt ∙ is in cc

      -- It was saved.
      pub done_moves : (saves : SavesFile d h name len save was v old new mid end (Ok tt)) → (r : Result Bool LineFault) → (r ≡ Err LineFault.Disk → ⊥) → Answered ok_line (k.taken before) (k.taken after) r
          → AsksMore h host end (λ asked. LineMoves d old new mode s v line (k.taken before) (k.taken after) asked (h.files host) (h.files end) (moved_result r))
      done_moves saves r never answered = (ask ∷ more, asked_is more saves.taken.1, by r never answered)
        where
          more : List Asked
          more = taken_from name 0 saves.taken.0

          bytes : List ℕ
          bytes = saves.given

          accepted_all : refusal_in s.view s.image was.read_only (save bytes) ≡ None
          accepted_all = done_accepted (refusal_in s.view s.image was.read_only (save bytes)) tt (saves.refused bytes saves.whole s.view s.image (sound_law s.image kind s.view opens) parts)

          changes : (other : List ℕ) × (d.bytes new ≡ Some other) × ((view : Opened) × Changes kind s (record { image = other; view = view }) (save bytes) (changed (tree_in s) (save bytes)) × ArePartsOf (parts_of v) view)
          changes = let c = saves.changed s.image told in (c.0, c.1, c.2 kind s.view opens parts)

          next : State
          next = record { image = changes.0; view = changes.2.0 }

          takes : Takes mode s (Ok (save (joined saves.taken.0))) ok_line next
          takes = subst (λ (bs : List ℕ). Takes mode s (Ok (save bs)) ok_line next) (sym saves.taken.2) (plain_takes (save bytes) ok_line next (done_takes kind was.read_only s (save bytes) refl next accepted_all changes.2.1))

          step : AskedTakes mode s (ask ∷ more) line ok_line next
          step = asked_so (ask ∷ more) ok_line next
              (inr (len, more, refl, inr (not_long len few, inl (saves.taken.0, refl, ap length saves.taken.2 ∙ saves.whole, takes))))

          answers : AnswersCalls (h.files host) (ask ∷ more) (h.files end)
          answers = (
            h.files host,
            (size, refl),
            subst (λ (o : Option Files). AnswersCalls (h.files host) more o) (sym (saves.files ∙ same_files))
                (file_answered (h.files host) name bytes saves.taken.0 saves.taken.2 (subst (λ (o : Option Files). ForSome o (λ files. bytes ≡ bytes_of files name)) same_files saves.told)),
          )

          moved : IsMoved d old new mode s line ok_line (ask ∷ more) (h.files host) (h.files end) next
          moved = record {
            step = step;
            answered = answers;
            holds = changes.1;
            opens = changes.2.1.opens.opens;
            kept = λ keeps. absurd (clash (is_error ok_line) no_error keeps);
            still = λ leaves. absurd (clash (is_error ok_line) no_error leaves);
            spared = λ image since. left_plain (HasTreeBeforeOrAfter kind s (tree_in next)) (HostLeftBy kind s (is_error ok_line) line) image
                (left_so (is_error ok_line) no_error (filled len bytes) image (saves.places.stops.since image since s.image told) (saves.leaves.stops.since image since s.image told));
          }

          by : (r : Result Bool LineFault) → (r ≡ Err LineFault.Disk → ⊥) → Answered ok_line (k.taken before) (k.taken after) r
              → LineMoves d old new mode s v line (k.taken before) (k.taken after) (ask ∷ more) (h.files host) (h.files end) (moved_result r)
          by (Ok refused) never answered = record { reply = ok_line; next = next; moved = moved; parts = changes.2.2; wrote = answered.0; refused_is = answered.1 }
          by (Err fault) never answered = inl (record { reply = ok_line; next = next; moved = moved; part = answered; cuts = cuts_move fault (λ disk. never (ap Err disk)) })

      -- It broke off, and the disk has what the line may leave; if the disk didn't fail, an image like the one from before.
      pub broke_moves : (fault : MoveFault) (answer : Result (Unit {0}) GivenError) → SavesFile d h name len save was v old new mid end answer → after ≡ before
          → (spares_disk (move_cause fault) ≡ true → (image : List ℕ) × (d.bytes new ≡ Some image) × StaysBy (move_cause fault) kind s image)
          → AsksMore h host end (λ asked. LineMoves d old new mode s v line (k.taken before) (k.taken after) asked (h.files host) (h.files end) (Err fault))
      broke_moves fault answer saves same holds =
          let more = saves.looks.0 in
          let looks = All-cons (IsLook name) ask more (refl, refl) saves.looks.2 in (
            ask ∷ more,
            asked_is more saves.looks.1,
            inr (record {
              part = (0, subst (λ (a : K). Wrote (k.taken before) (k.taken a) []) (sym same) (wrote_nothing (k.taken before)));
              broke = record {
                begun = begun (ask ∷ more) looks;
                files_left = λ held known. (held, saves.files ∙ (same_files ∙ known), inl refl);
                back = λ first other is. saves.files ∙ same_files;
                holds = holds;
                kept = λ keeps. absurd (let clash : false ≡ true = keeps in cc);
                still = λ leaves. absurd (let clash : false ≡ true = leaves in cc);
                spared = λ image since. left_plain (AskedLeaves mode s line (ask ∷ more) (h.files host)) (HostLeftBy kind s false line) image
                    (left_so false refl (filled len saves.given) image (saves.places.stops.since image since s.image told) (saves.leaves.stops.since image since s.image told));
                exit = λ image here. left_plain (AskedLeaves mode s line (ask ∷ more) (h.files host)) (HostLeftBy kind s false line) image
                    (let exit = saves.places.exit s.image told in
                    let leaves = saves.leaves.exit s.image told in
                    left_so false refl (filled len saves.given) image (subst (WritesPlacesOf (save (filled len saves.given)) (parts_of was) s.image) (one_told (sym exit.1 ∙ here)) exit.2)
                    (subst (CommandLeaves (save (filled len saves.given)) (parts_of was) s.image) (one_told (sym leaves.1 ∙ here)) leaves.2));
              };
            }),
          )

      -- It was refused for its length, and nothing was taken.
      pub refused_moves : (r : Refusal) (told' : Result Bool LineFault) → SavesFile d h name len save was v old new mid end (Err (GivenError.Command (Refused r)))
          → (told' ≡ Err LineFault.Disk → ⊥) → Answered (refusal_line r) (k.taken before) (k.taken after) told'
          → AsksMore h host end (λ asked. LineMoves d old new mode s v line (k.taken before) (k.taken after) asked (h.files host) (h.files end) (moved_result told'))
      refused_moves r told' saves never answered =
          let same = saves.unchanged (λ disk. absurd (cc)) (λ supply. absurd (cc)) in
          let asked = ask ∷ [] in
          let refusals : (bytes : List ℕ) → length bytes ≡ len → Takes mode s (Ok (save bytes)) (refusal_line r) s =
          λ bytes long.
          plain_takes (save bytes) (refusal_line r) s (refused_takes kind was.read_only s (save bytes) refl r
          (refusal_is (refusal_in s.view s.image was.read_only (save bytes)) r (saves.refused bytes long s.view s.image (sound_law s.image kind s.view opens) parts))) in
          let step : AskedTakes mode s asked line (refusal_line r) s = asked_so asked (refusal_line r) s (inr (len, [], refl, inr (not_long len few, inr (refl, refusals)))) in
          let files_same : h.files end ≡ h.files host = saves.files ∙ same_files in (
            asked,
            ap h.asked same.2 ∙ measured,
            subst (λ (w : Volume). LineMoves d old new mode s w line (k.taken before) (k.taken after) asked (h.files host) (h.files end) (moved_result told')) (sym same.0)
                (subst (λ (o : Option Files). LineMoves d old new mode s was line (k.taken before) (k.taken after) asked (h.files host) o (moved_result told')) (sym files_same)
                (told_moves law kind safe was s line old new (k.taken before) (k.taken after) quiet told opens (subst (λ (x : D). OnlyReads d old x) (sym same.1) (reads_start law old))
                (refusal_line r) asked (h.files host) (h.files host) step (sized (Some len) (h.files host) size) parts told' never answered)),
          )

      told_so : {result : Result Bool MoveFault} (r : Result Bool LineFault) → moved_result r ≡ result
          → AsksMore h host end (λ asked. LineMoves d old new mode s v line (k.taken before) (k.taken after) asked (h.files host) (h.files end) (moved_result r))
          → AsksMore h host end (λ asked. LineMoves d old new mode s v line (k.taken before) (k.taken after) asked (h.files host) (h.files end) result)
      told_so r is moves = subst (λ (x : Result Bool MoveFault). AsksMore h host end (λ asked. LineMoves d old new mode s v line (k.taken before) (k.taken after) asked (h.files host) (h.files end) x)) is moves

      -- what becomes of the line, by what the volume answered
      pub saved_moves : (answer : Result (Unit {0}) GivenError) (result : Result Bool MoveFault) → SavesFile d h name len save was v old new mid end answer → TellsSaved k before after answer result
          → AsksMore h host end (λ asked. LineMoves d old new mode s v line (k.taken before) (k.taken after) asked (h.files host) (h.files end) result)
      saved_moves (Ok done) result saves tells = told_so tells.0 (sym tells.1) (done_moves saves tells.0 tells.3.no_disk tells.2)
      saved_moves (Err (GivenError.Command (Refused r))) result saves tells = told_so tells.0 (sym tells.1) (refused_moves r tells.0 saves tells.2.1.no_disk tells.2.0)
      saved_moves (Err (GivenError.Command NoMemory)) result saves tells =
          subst (λ (x : Result Bool MoveFault). AsksMore h host end (λ asked. LineMoves d old new mode s v line (k.taken before) (k.taken after) asked (h.files host) (h.files end) x))
          (sym (tells.1 ∙ ap moved_result tells.2.0))
          (broke_moves MoveFault.NoMemory (Err (GivenError.Command NoMemory)) saves tells.2.1 (λ spares. (s.image, ap d.bytes (saves.unchanged (λ disk. absurd (cc)) (λ supply. absurd (cc))).1 ∙ told, refl)))
      saved_moves (Err (GivenError.Command DiskFault)) result saves tells =
          subst (λ (x : Result Bool MoveFault). AsksMore h host end (λ asked. LineMoves d old new mode s v line (k.taken before) (k.taken after) asked (h.files host) (h.files end) x))
          (sym (tells.1 ∙ ap moved_result tells.2.0)) (broke_moves MoveFault.Disk (Err (GivenError.Command DiskFault)) saves tells.2.1 (λ spares. absurd (cc)))
      saved_moves (Err GivenError.Supply) result saves tells =
          let exit = (saves.alike refl).exit s.image told in
          let alike = exit.2 kind s.view opens parts in
          subst (λ (x : Result Bool MoveFault). AsksMore h host end (λ asked. LineMoves d old new mode s v line (k.taken before) (k.taken after) asked (h.files host) (h.files end) x))
          (sym tells.0) (broke_moves MoveFault.Host (Err GivenError.Supply) saves tells.1 (λ spares. (exit.0, exit.1, record { opens = alike.opens; objects = alike.objects })))

-- ---- what it keeps

module _ {D K H : Type 0} (d : Ghosts D) (k : Sinks K) (h : Hosts H) (name : List ℕ) (path : Path) (load exec len : ℕ) (was v : Volume) (old new : D) (before after : K) (start mid end : H) where
  abbrev saved_line : Result HostLine Refusal
  saved_line = Ok (HostLine.Put name path load exec)

  pub saved_serves : (was.read_only ≡ true → ⊥) → (answer : Result (Unit {0}) GivenError) (result : Result Bool MoveFault) → SavesFile d h name len (Command.Save path load exec) was v old new mid end answer
      → TellsSaved k before after answer result → KeepsServing d old new was v saved_line result
  saved_serves writable answer result saves tells = record {
    goes = saves.goes;
    ready = ready answer result saves.ready tells;
    settled = λ never. saves.settled (λ is. never (disk answer result tells is));
    reads = ⊎_elim (λ locked. absurd (writable locked)) (λ leaves. absurd (let clash : false ≡ true = leaves in cc));
  }
    where
      ready : (x : Result (Unit {0}) GivenError) (r : Result Bool MoveFault) → UnlessFault (as_held x) (IsReady d new was v) → TellsSaved k before after x r → IfOk r (λ refused. IsReady d new was v)
      ready x (Err fault) takes tells = tt
      ready (Ok done) (Ok refused) takes tells = takes
      ready (Err (GivenError.Command (Refused r))) (Ok refused) takes tells = takes
      ready (Err (GivenError.Command NoMemory)) (Ok refused) takes tells = takes
      ready (Err (GivenError.Command DiskFault)) (Ok refused) takes tells = absurd (let clash = tells.1 ∙ ap moved_result tells.2.0 in cc)
      ready (Err GivenError.Supply) (Ok refused) takes tells = absurd (let clash = tells.0 in cc)

      disk : (x : Result (Unit {0}) GivenError) (r : Result Bool MoveFault) → TellsSaved k before after x r → x ≡ Err (GivenError.Command DiskFault) → r ≡ Err MoveFault.Disk
      disk (Ok done) r tells is = absurd (cc)
      disk (Err (GivenError.Command (Refused refusal))) r tells is = absurd (cc)
      disk (Err (GivenError.Command NoMemory)) r tells is = absurd (cc)
      disk (Err (GivenError.Command DiskFault)) r tells is = tells.1 ∙ ap moved_result tells.2.0
      disk (Err GivenError.Supply) r tells is = absurd (cc)

  -- a line isn't answered only for a cause
  pub saved_caused : h.faults start ≤ h.faults mid → (answer : Result (Unit {0}) GivenError) (result : Result Bool MoveFault) → SavesFile d h name len (Command.Save path load exec) was v old new mid end answer
      → TellsSaved k before after answer result → AreCaused d k h old new before after start end result
  saved_caused first answer result saves tells = record {
    later = later answer result tells;
    host_later = omega (arith, first, saves.host_later);
    disk = λ is. saves.disk_failed (disk answer result tells is);
    out = λ is. out answer result tells is;
    host = λ is. (let rose = saves.host_failed (host answer result tells is) in omega (arith, rose, first));
  }
    where
      same_faults : after ≡ before → k.faults before ≤ k.faults after
      same_faults same = let e = ap k.faults same in omega (arith, e)

      later : (x : Result (Unit {0}) GivenError) (r : Result Bool MoveFault) → TellsSaved k before after x r → k.faults before ≤ k.faults after
      later (Ok done) r tells = tells.3.later
      later (Err (GivenError.Command (Refused refusal))) r tells = tells.2.1.later
      later (Err (GivenError.Command NoMemory)) r tells = same_faults tells.2.1
      later (Err (GivenError.Command DiskFault)) r tells = same_faults tells.2.1
      later (Err GivenError.Supply) r tells = same_faults tells.1

      disk : (x : Result (Unit {0}) GivenError) (r : Result Bool MoveFault) → TellsSaved k before after x r → r ≡ Err MoveFault.Disk → x ≡ Err (GivenError.Command DiskFault)
      disk (Ok done) r tells is = absurd (tells.3.no_disk (disk_line tells.0 (sym tells.1 ∙ is)))
      disk (Err (GivenError.Command (Refused refusal))) r tells is = absurd (tells.2.1.no_disk (disk_line tells.0 (sym tells.1 ∙ is)))
      disk (Err (GivenError.Command NoMemory)) r tells is = absurd (let clash = sym tells.2.0 ∙ disk_line tells.0 (sym tells.1 ∙ is) in cc)
      disk (Err (GivenError.Command DiskFault)) r tells is = refl
      disk (Err GivenError.Supply) r tells is = absurd (let clash = sym tells.0 ∙ is in cc)

      out : (x : Result (Unit {0}) GivenError) (r : Result Bool MoveFault) → TellsSaved k before after x r → r ≡ Err MoveFault.Out → Rose (k.faults before) (k.faults after)
      out (Ok done) r tells is = tells.3.out (out_line tells.0 (sym tells.1 ∙ is))
      out (Err (GivenError.Command (Refused refusal))) r tells is = tells.2.1.out (out_line tells.0 (sym tells.1 ∙ is))
      out (Err (GivenError.Command NoMemory)) r tells is = absurd (let clash = sym tells.2.0 ∙ out_line tells.0 (sym tells.1 ∙ is) in cc)
      out (Err (GivenError.Command DiskFault)) r tells is = absurd (let clash = sym tells.2.0 ∙ out_line tells.0 (sym tells.1 ∙ is) in cc)
      out (Err GivenError.Supply) r tells is = absurd (let clash = sym tells.0 ∙ is in cc)

      host : (x : Result (Unit {0}) GivenError) (r : Result Bool MoveFault) → TellsSaved k before after x r → r ≡ Err MoveFault.Host → x ≡ Err GivenError.Supply
      host (Ok done) r tells is = absurd (no_host tells.0 (sym tells.1 ∙ is))
      host (Err (GivenError.Command e)) r tells is = absurd (no_host tells.0 (sym tells.1 ∙ is))
      host (Err GivenError.Supply) r tells is = refl
