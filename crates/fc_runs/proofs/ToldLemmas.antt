-- What a run promises over a host that tells its files, from what was asked of it.
use Rattle.std.proofs.Common.{◌≡◌, ◌≤◌, ◌==◌, inl, inr, ⊎_elim, nat_lt, ℕ, Bool, true, false, List, [], Option, Some, None, Result, Ok, Err, refl, sym, subst, ◌++◌, ap, drop, length, take, ◌∙◌, arith}
use Rattle.std.specs.Prelude.{if◌then◌else◌, slice_get}
use Rattle.std.specs.FinMap.{get}
use Rattle.std.proofs.lemmas.Bool.Decides.{nat_tests}
use Rattle.std.proofs.lemmas.Grind.{flat_map-append}
use Rattle.std.proofs.lemmas.List.{take-append-drop, take_all}
use Rattle.fc_device.specs.declared.disk.Disk.{Ghosts}
use Rattle.fc_host.specs.Answers.{AnswersCalls, all_asked}
use Rattle.fc_host.specs.Asked.{Asked, taken_by}
use Rattle.fc_host.specs.Files.{Files}
use Rattle.fc_host.proofs.AnswerLemmas.{answered_parts}
use Rattle.fc_names.specs.declared.refusal.Refusal.{Refusal}
use Rattle.fc_model.specs.Tree.{Tree}
use Rattle.fc_model.specs.Command.{Command}
use Rattle.fc_image.specs.effects.Effect.{State, tree_in}
use Rattle.fc_image.specs.safe.SafeEffect.{HasTree, HasTreeBeforeOrAfter}
use Rattle.fc_script.specs.HostLines.{HostLine}
use Rattle.fc_runs.specs.HostPromises.{AskedHasRun, AskedHasStopped, AskedHasTreeAfter, AskedLeaves, AskedStepsTo, AskedStops, AskedTreeAround, ToldRun, ToldStop}
use Rattle.fc_runs.specs.HostRun.{HostHasTreeAfter, HostHasTreeAround, Reading, host_tree_after, longest_file, tree_after_put}
use Rattle.fc_runs.specs.Promises.{Cause}
use Rattle.fc_runs.specs.Run.{Mode, commands_in, line_begun, tree_after, whole_replies}
use Rattle.fc_runs.specs.Stops.{HostLeftByLine, HostStepsTo, HostStops, IsLeftInLine, LeftIn, MayHaveLeft}
use Rattle.fc_runs.proofs.AskedLemmas.{steps_told}
use Rattle.fc_runs.proofs.HostStepLemmas.{asks_many}

module _ {D : Type 0} (d : Ghosts D) (read : Reading) (old new : D) (mode : Mode) (fresh : Bool) (s : State) where
  -- The files before the first lines, and after them.
  told_front : (mid : State) (files : Files) (left : Option Files) (lines replies : List (List ℕ)) (asks : List (List Asked)) (n : ℕ) → AnswersCalls (Some files) (all_asked asks) left
      → AskedStepsTo read mode s lines replies asks n mid → HostStepsTo read mode s files lines replies n mid
  told_front mid files left lines replies asks n answered steps =
      let cut : all_asked asks ≡ all_asked (take n asks) ++ all_asked (drop n asks) =
      ap all_asked (sym (take-append-drop n asks)) ∙ flat_map-append (λ (a : List Asked). a) (take n asks) (drop n asks) in
      let parts = answered_parts (all_asked (take n asks)) (all_asked (drop n asks)) (Some files) left (subst (λ (l : List Asked). AnswersCalls (Some files) l left) cut answered) in
      let told = steps_told read (λ between. Unit {0}) mode s mid files parts.0 (take n lines) (take n replies) (take n asks) steps parts.1 in
      (told.0, told.2)

  -- what the line leaves that broke off
  pub line_leaves : (x : State) (begun : List Asked) (held : Files) (between : Option Files) (image : List ℕ) → between ≡ Some held → (r : Result HostLine Refusal)
      → AskedLeaves mode x r begun between image → HasTreeBeforeOrAfter mode.kind x (host_tree_after mode x held r) image
  line_leaves x begun held between image is r has = by r has
    where
      one : (t u : Tree) → t ≡ u → HasTreeBeforeOrAfter mode.kind x t image → HasTreeBeforeOrAfter mode.kind x u image
      one t u same tree = subst (λ (v : Tree). HasTreeBeforeOrAfter mode.kind x v image) same tree

      first : (t u : Tree) → t ≡ tree_in x → HasTreeBeforeOrAfter mode.kind x t image → HasTreeBeforeOrAfter mode.kind x u image
      first t u same (inl tree) = inl tree
      first t u same (inr tree) = inl (subst (λ (v : Tree). HasTree mode.kind v image) same tree)

      put : (save : List ℕ → Command) (bytes : List ℕ) (o : Option (List ℕ)) → o ≡ Some bytes → length bytes ≤ longest_file → tree_after mode x (Ok (save bytes)) ≡ tree_after_put mode x save o
      put save bytes o there short =
          let test : nat_lt longest_file (length bytes) ≡ false = grind (arith, nat_tests, short) in
          sym (ap (tree_after_put mode x save) there ∙ ap (λ (long : Bool). if long then tree_in x else tree_after mode x (Ok (save bytes))) test)

      by : (r : Result HostLine Refusal) → AskedLeaves mode x r begun between image → HasTreeBeforeOrAfter mode.kind x (host_tree_after mode x held r) image
      by (Err refusal) has = one has.0 (tree_in x) has.1 has.2
      by (Ok (HostLine.Put host path load exec)) has = ⊎_elim (λ same. first has.0 (tree_after_put mode x (Command.Save path load exec) (get held host)) same has.2)
          (λ whole. one has.0 (tree_after_put mode x (Command.Save path load exec) (get held host)) (whole.2 ∙ put (Command.Save path load exec) (taken_by begun) (get held host) (whole.1 held is) whole.0) has.2) has.1
      by (Ok (HostLine.Get path host)) has = one has.0 (tree_in x) has.1 has.2
      by (Ok (HostLine.Other command)) has = one has.0 (tree_after mode x (Ok command)) has.1 has.2

  -- the tree around that line
  pub around_told : (x : State) (next : Option (List ℕ)) (begun : List Asked) (held : Files) (between : Option Files) (image : List ℕ) → between ≡ Some held
      → AskedTreeAround read mode x next begun between image → HostHasTreeAround read mode x held next image
  around_told x None begun held between image is has = has
  around_told x (Some line) begun held between image is has = line_leaves x begun held between image is (read line) has

  saved_told : (x : State) (next : Option (List ℕ)) (begun : List Asked) (held : Files) (between : Option Files) (image : List ℕ) → between ≡ Some held
      → LeftIn (λ refused line. AskedLeaves mode x (read line) begun between) x next None image
      → LeftIn (λ refused line. HasTreeBeforeOrAfter mode.kind x (host_tree_after mode x held (read line))) x next None image
  saved_told x None begun held between image is has = has
  saved_told x (Some line) begun held between image is has = line_leaves x begun held between image is (read line) has

  -- The tree after some of the lines.
  tree_told : (files : Files) (left : Option Files) (lines replies : List (List ℕ)) (asks : List (List Asked)) (begun : List Asked) (least : ℕ) (image : List ℕ) → length asks ≡ length replies
      → AnswersCalls (Some files) (all_asked asks) left → AskedHasTreeAfter read mode s lines replies asks begun left least image
      → HostHasTreeAfter read (λ between. Unit {0}) mode s files lines replies least image
  tree_told files left lines replies asks begun least image many answered has = by (has.count == length replies) refl
    where
      by : (b : Bool) → (has.count == length replies) ≡ b → HostHasTreeAfter read (λ between. Unit {0}) mode s files lines replies least image
      by true is =
          let same : has.count ≡ length replies = grind (arith, nat_tests, is) in
          let whole : take has.count asks ≡ asks = take_all has.count asks (omega (arith, many, same)) in
          let told = steps_told read (λ between. Unit {0}) mode s has.mid files left (take has.count lines) (take has.count replies) (take has.count asks) has.steps
          (subst (λ (l : List (List Asked)). AnswersCalls (Some files) (all_asked l) left) (sym whole) answered) in
          record {
            count = has.count;
            enough = has.enough;
            within = has.within;
            mid = has.mid;
            between = told.0;
            steps = told.2;
            tree = around_told has.mid (line_begun lines replies has.count) begun told.0 left image told.1 has.tree;
          }
      by false is =
          let told = told_front has.mid files left lines replies asks has.count answered has.steps in
          let none : line_begun lines replies has.count ≡ None = ap (λ (b : Bool). if b then slice_get lines has.count else None) is in
          record {
            count = has.count;
            enough = has.enough;
            within = has.within;
            mid = has.mid;
            between = told.0;
            steps = told.1;
            tree = subst (λ (o : Option (List ℕ)). HostHasTreeAround read mode has.mid told.0 o image) (sym none)
                (subst (λ (o : Option (List ℕ)). AskedTreeAround read mode has.mid o begun left image) none has.tree);
          }

  stops_told : (end : State) (files : Files) (left : Option Files) (lines replies : List (List ℕ)) (asks : List (List Asked)) (begun : List Asked) (text : List ℕ) → length asks ≡ length replies
      → AnswersCalls (Some files) (all_asked asks) left
      → AskedStops d read old new mode fresh s end lines replies asks begun left text → HostStops d read old new mode fresh None s end files lines replies text
  stops_told end files left lines replies asks begun text many answered stops = record {
    idle = λ new_map there none keep image left. stops.idle new_map there keep image left;
    last = stops.last;
    still = λ there none leave image left. stops.still there leave image left;
    rest = stops.rest;
    along = λ plain there image was. told_in_line (stops.along plain there image was);
    ending = stops.ending;
    during = λ safe there image was. tree_told files left lines replies asks begun 0 image many answered (stops.during safe there image was);
    exit = λ safe image was. tree_told files left lines replies asks begun (whole_replies (length text) replies) image many answered (stops.exit safe image was);
  }
    where
      told_in_line : {image : List ℕ} → IsLeftInLine (AskedStepsTo read mode s lines replies asks) (HostLeftByLine read mode.kind) lines replies image
          → IsLeftInLine (HostStepsTo read mode s files lines replies) (HostLeftByLine read mode.kind) lines replies image
      told_in_line in_line = record {
        count = in_line.count;
        within = in_line.within;
        mid = in_line.mid;
        steps = told_front in_line.mid files left lines replies asks in_line.count answered in_line.steps;
        left = in_line.left;
      }

  pub run_told : (files left : Option Files) (asked : List Asked) (script text : List ℕ) (refused : Bool) → AskedHasRun d read old new mode fresh s files left asked script text refused
      → ToldRun d read old new mode fresh s files left script text refused
  run_told files left asked script text refused has held is =
      let told = steps_told read (MayHaveLeft d old new) mode s has.end held left (commands_in script) has.replies has.asks has.steps
      (subst (λ (o : Option Files). AnswersCalls o (all_asked has.asks) left) is has.answered) in (
        told.0,
        told.1,
        record {
          end = has.end;
          run = record { start = has.start; replies = has.replies; steps = told.2; told = has.told };
          refused_is = has.refused_is;
          holds = has.holds;
          settled = has.settled;
          stops = λ quiet. stops_told has.end held left (commands_in script) has.replies has.asks [] text (asks_many read (MayHaveLeft d old new) mode s has.end (commands_in script) has.replies has.asks has.steps) (subst (λ (o : Option Files). AnswersCalls o (all_asked has.asks) left) is has.answered) (has.stops quiet);
        },
      )

  pub stop_told : (files left : Option Files) (asked : List Asked) (script text : List ℕ) (cause : Cause) → AskedHasStopped d read old new mode fresh s files left asked script text cause
      → ToldStop d read old new mode fresh s files left script text cause
  stop_told files left asked script text cause has held is =
      let told = steps_told read (MayHaveLeft d old new) mode s has.end held has.between (take (length has.replies) (commands_in script)) has.replies has.asks has.steps
      (subst (λ (o : Option Files). AnswersCalls o (all_asked has.asks) has.between) is has.answered) in
      let rest = has.files_left told.0 told.1 in (
        rest.0,
        rest.1,
        record {
          end = has.end;
          ended = record { start = has.start; replies = has.replies; between = told.0; steps = told.2; host = rest.2; told = has.told };
          whole = λ none disk. has.whole disk;
          holds = has.holds;
          settled = has.settled;
          spared = has.spared;
          saved = λ safe image here. saved_told has.end (slice_get (commands_in script) (length has.replies)) has.begun told.0 has.between image told.1 (has.saved safe image here);
          stops = λ quiet. stops_told has.end held has.between (commands_in script) has.replies has.asks has.begun text
              (asks_many read (MayHaveLeft d old new) mode s has.end (take (length has.replies) (commands_in script)) has.replies has.asks has.steps) (subst (λ (o : Option Files). AnswersCalls o (all_asked has.asks) has.between) is has.answered) (has.stops quiet);
        },
      )
