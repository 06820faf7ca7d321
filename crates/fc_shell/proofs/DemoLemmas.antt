-- A demo: its script, and its line in place of the replies.
use Rattle.std.proofs.Common.{◌≡◌, ◌≤◌, ◌⊎◌, inl, inr, ℕ, nat_le, Bool, true, false, List, [], ◌∷◌, length, take, Option, Some, None, Ok, Err, refl, sym, ap, subst, ◌∙◌, arith}
use Rattle.std.specs.Prelude.{codes, slice_get}
use Rattle.std.specs.Fmt.{decimal}
use Rattle.std.specs.Option.{ForSome, option_and_then, option_map}
use Rattle.std.specs.Str.Parse.{digits_value}
use Rattle.std.proofs.lemmas.Bool.Decides.{nat_tests}
use Rattle.std.proofs.Math.Seq.{take-length}
use Rattle.hex.specs.Hex.{encode_lower}
use Rattle.sha2.specs.Sha256.{sha256}
use Rattle.fc_demo.proofs.SizeLemmas.{script_short}
use Rattle.fc_device.specs.declared.disk.Disk.{Ghosts}
use Rattle.fc_image.specs.effects.Effect.{State}
use Rattle.fc_image.specs.safe.SafeEffect.{HasTreeBeforeOrAfter}
use Rattle.fc_script.specs.Lines.{command_of}
use Rattle.fc_script.specs.Texts.{line_of}
use Rattle.fc_runs.specs.Demo.{demo_script}
use Rattle.fc_runs.specs.Early.{reply_begun, text_begun}
use Rattle.fc_runs.specs.Promises.{Cause, HasRun, HasStopped, spares_disk}
use Rattle.fc_runs.specs.Run.{HasTreeAfter, Mode, Steps, commands_in, demo_line, text_of, tree_after}
use Rattle.fc_runs.specs.Stops.{MayHaveLeft, Stops, next_keeps_tree, next_leaves_image}
use Rattle.fc_words.specs.CommandLine.{Request, Settings, Text, format_of, image_of, is_decimal, is_set, number_of, optional, request_from, request_of, settings_after, value_of}
use Rattle.fc_words.specs.declared.Format.{Format as Word}
use Rattle.fc_shell.specs.declared.answer.LineFault.{LineFault}
use Rattle.fc_shell.specs.declared.ending.End.{End}
use Rattle.fc_shell.specs.declared.ending.End.TheVariants.{DiskFault, OutFault, NoMemory}
use Rattle.fc_shell.specs.declared.tally.Tally.{Tally}
use Rattle.fc_shell.specs.Counted.{AreCounted, has_refused, tally_line}
use Rattle.fc_shell.specs.Ends.{end_after}
use Rattle.fc_shell.specs.Promise.{EndsOver}
use Rattle.fc_shell.specs.Replies.{demo_limit, script_limit}
use Rattle.fc_shell.specs.Serving.{ServesAs, cause_of}
use Rattle.fc_shell.specs.Writing.{Wrote, WrotePart}
use Rattle.fc_shell.proofs.PromiseLemmas.{no_fresh}
use Rattle.fc_shell.proofs.TurnLemmas.{steps_long}
use Rattle.fc_shell.proofs.WritingLemmas.{wrote_nothing}
use Rattle.fc_device.proofs.StopLemmas.{one_told}
use Rattle.fc_runs.specs.Stops.{IsLeftInLine, LeftByLine, LeftIn, StepsTo}

-- ---- its script

-- It is never too long.
pub demo_short : (n : ℕ) → n ≤ demo_limit → length (demo_script n) ≤ script_limit
demo_short n few = let short = script_short n in omega (arith, few, short)

number_few : (text : Text) (n : ℕ) → number_of text ≡ Some n → n ≤ demo_limit
number_few text n is = by (is_decimal text) (nat_le (digits_value 10 text) 10000) refl refl
  where
    by : (a b : Bool) → is_decimal text ≡ a → nat_le (digits_value 10 text) 10000 ≡ b → n ≤ demo_limit
    by true true e f =
        let same : Some (digits_value 10 text) ≡ Some n = rw (e, f) at is in
        let value : digits_value 10 text ≡ n = cc in
        let low : digits_value 10 text ≤ 10000 = grind (arith, nat_tests, f) in
        omega (arith, value, low)
    by true false e f = absurd (let none : (let o : Option ℕ = None in o) ≡ Some n = rw (e, f) at is in cc)
    by false b e f = absurd (let none : (let o : Option ℕ = None in o) ≡ Some n = rw e at is in cc)

value_few : (text : Option Text) (demo : Option ℕ) → optional number_of text ≡ Some demo → ForSome demo (λ n. n ≤ demo_limit)
value_few None demo is n some = absurd (let clash : (let o : Option ℕ = None in o) ≡ Some n = (let same : (let o : Option ℕ = None in o) ≡ demo = cc in same ∙ some) in cc)
value_few (Some text) demo is n some = by (number_of text) refl is
  where
    by : (o : Option ℕ) → number_of text ≡ o → option_map Some o ≡ Some demo → n ≤ demo_limit
    by None e is = absurd (cc)
    by (Some m) e is = let same : m ≡ n = cc in subst (λ (k : ℕ). k ≤ demo_limit) same (number_few text m e)

-- The number of a demo that words ask for is one of those.
pub asked_few : (words : List Text) (r : Request) → request_of words ≡ Some r → ForSome r.demo (λ n. n ≤ demo_limit)
asked_few words r is = by (settings_after words None []) refl is
  where
    parts : (new : Option (Option Word)) (demo : Option (Option ℕ)) (image : Option Text) (read_only safe : Bool) → ((o : Option ℕ) → demo ≡ Some o → ForSome o (λ n. n ≤ demo_limit))
        → option_and_then (λ new. option_and_then (λ demo. option_map (λ image. record { new = new; read_only = read_only; demo = demo; safe = safe; image = image }) image) demo) new ≡ Some r
        → ForSome r.demo (λ n. n ≤ demo_limit)
    parts None demo image read_only safe few e = absurd (cc)
    parts (Some new) None image read_only safe few e = absurd (cc)
    parts (Some new) (Some demo) None read_only safe few e = absurd (cc)
    parts (Some new) (Some demo) (Some image) read_only safe few e =
        let same : record { new = new; read_only = read_only; demo = demo; safe = safe; image = image } ≡ r = cc in
        subst (λ (x : Request). ForSome x.demo (λ n. n ≤ demo_limit)) same (few demo refl)

    by : (settings : Option Settings) → settings_after words None [] ≡ settings → option_and_then request_from settings ≡ Some r → ForSome r.demo (λ n. n ≤ demo_limit)
    by None e is = absurd (cc)
    by (Some s) e is = parts (optional format_of (value_of (codes "new") s)) (optional number_of (value_of (codes "demo") s)) (option_and_then image_of (value_of (codes "image") s))
        (is_set (codes "read-only") s) (is_set (codes "safe") s)
        (value_few (value_of (codes "demo") s)) is

-- ---- its line

line_is : (n : ℕ) (tally : Tally) (bytes : List ℕ) (replies : List (List ℕ)) → AreCounted replies tally → bytes ≡ text_of replies → tally_line n tally bytes ≡ demo_line n replies
line_is n tally bytes replies are is =
    ap (line tally.replies tally.refused) is ∙ ap (λ (k : ℕ). line k tally.refused (text_of replies)) are.replies_are ∙ ap (λ (k : ℕ). line (length replies) k (text_of replies)) are.refused_are
  where
    line : ℕ → ℕ → List ℕ → List ℕ
    line count errors text = line_of (
        codes "demo" ∷ decimal n ∷ codes "commands" ∷ decimal count ∷ codes "refused" ∷ decimal errors ∷ codes "sha256" ∷ encode_lower (sha256 text) ∷ [])

-- what a sink in memory took, which had nothing before
taken_is : (bytes text : List ℕ) → Wrote (Some []) (Some bytes) text → bytes ≡ text
taken_is bytes text wrote = cc

get_none : (xs : List (List ℕ)) → (let o : Option (List ℕ) = slice_get xs (length xs) in o) ≡ None
get_none [] = refl
get_none (x ∷ xs) = get_none xs

module _ {D : Type 0} (d : Ghosts D) (old new : D) (mode : Mode) (s : State) (n : ℕ) (script : List ℕ) (own : demo_script n ≡ script) where
  -- whatever was written
  stops_demo : (end : State) (replies : List (List ℕ)) (text line : List ℕ) → Stops d old new mode false None s end (commands_in script) replies text
      → Stops d old new mode false (Some n) s end (commands_in (demo_script n)) replies line
  stops_demo end replies text line stops = record {
    idle = λ new_map fresh none keep image left. absurd (cc);
    last = λ new_map keep image left. stops.last new_map (subst (λ (t : List ℕ). next_keeps_tree (commands_in t) replies ≡ true) own keep) image left;
    still = λ fresh none leave image left. absurd (cc);
    rest = λ leave image left. stops.rest (subst (λ (t : List ℕ). next_leaves_image (commands_in t) replies ≡ true) own leave) image left;
    along = λ plain fresh image left.
        subst (λ (t : List ℕ). IsLeftInLine (StepsTo mode s (commands_in t) replies) (LeftByLine mode.kind) (commands_in t) replies image) (sym own) (stops.along plain fresh image left);
    ending = λ plain image left.
        subst (λ (t : List ℕ). LeftIn (LeftByLine mode.kind end) end (slice_get (commands_in t) (length replies)) None image) (sym own) (stops.ending plain image left);
    during = λ safe fresh image left.
        subst (λ (t : List ℕ). HasTreeAfter (λ between. Unit {0}) mode s (commands_in t) replies 0 image) (sym own) (stops.during safe fresh image left);
    exit = λ safe image left.
        let has = stops.exit safe image left in
        subst (λ (t : List ℕ). HasTreeAfter (λ between. Unit {0}) mode s (commands_in t) replies 0 image) (sym own)
        (record { count = has.count; enough = omega arith; within = has.within; mid = has.mid; steps = has.steps; tree = has.tree });
  }

  -- All lines were done, and its line was written,
  run_demo : (refused : Bool) (text line : List ℕ) → (has : HasRun d old new mode false None s script text refused) → line ≡ demo_line n has.run.replies
      → HasRun d old new mode false (Some n) s script line refused
  run_demo refused text line has is = record {
    end = has.end;
    run = record {
      start = has.run.start;
      replies = has.run.replies;
      steps = subst (λ (t : List ℕ). Steps (MayHaveLeft d old new) mode s (commands_in t) has.run.replies has.end) (sym own) has.run.steps;
      told = is;
    };
    refused_is = has.refused_is;
    holds = has.holds;
    settled = has.settled;
    stops = λ quiet. stops_demo has.end has.run.replies text line (has.stops quiet);
  }

  -- or a part of it was.
  part_demo : (refused : Bool) (text line : List ℕ) (k : ℕ) (cause : Cause) → (has : HasRun d old new mode false None s script text refused) → line ≡ take k (demo_line n has.run.replies)
      → HasStopped d old new mode false (Some n) s script line cause
  part_demo refused text line k cause has is =
      let replies = has.run.replies in
      let all = commands_in script in
      let long : length replies ≡ length all = steps_long (MayHaveLeft d old new) mode s has.end all replies has.run.steps in
      let whole : take (length replies) all ≡ all = ap (λ (m : ℕ). take m all) long ∙ take-length all in
      let lines = commands_in (demo_script n) in
      let none : slice_get lines (length replies) ≡ None =
      ap (λ (t : List ℕ). slice_get (commands_in t) (length replies)) own ∙ ap (slice_get all) long ∙ get_none all in
      let begun : List ℕ → List ℕ = λ (l : List ℕ). reply_begun mode has.end (command_of l) in
      record {
        end = has.end;
        ended = record {
          start = has.run.start;
          replies = replies;
          steps = subst (λ (t : List ℕ). Steps (MayHaveLeft d old new) mode s (take (length replies) (commands_in t)) replies has.end) (sym own)
              (subst (λ (ls : List (List ℕ)). Steps (MayHaveLeft d old new) mode s ls replies has.end) (sym whole) has.run.steps);
          told = (k, is ∙ ap (λ (o : Option (List ℕ)). take k (text_begun (Some n) replies o begun)) (sym none));
        };
        whole = λ demo disk. absurd (cc);
        holds = λ spares. has.holds;
        settled = λ spares. inl has.settled;
        spared = λ plain image here. subst (λ (o : Option (List ℕ)). LeftIn (LeftByLine mode.kind has.end) has.end o None image) (sym none) (one_told (sym here ∙ has.holds));
        saved = λ safe image here. subst (λ (o : Option (List ℕ)). LeftIn (λ refused line. HasTreeBeforeOrAfter mode.kind has.end (tree_after mode has.end (command_of line))) has.end o None image) (sym none)
            (one_told (sym here ∙ has.holds));
        stops = λ quiet. stops_demo has.end replies text line (has.stops quiet);
      }

  -- A line broke off: nothing was written.
  broke_demo : (text : List ℕ) (cause mine : Cause) → (spares_disk mine ≡ true → spares_disk cause ≡ true) → HasStopped d old new mode false None s script text cause
      → HasStopped d old new mode false (Some n) s script [] mine
  broke_demo text cause mine less has = record {
    end = has.end;
    ended = record {
      start = has.ended.start;
      replies = has.ended.replies;
      steps = subst (λ (t : List ℕ). Steps (MayHaveLeft d old new) mode s (take (length has.ended.replies) (commands_in t)) has.ended.replies has.end) (sym own) has.ended.steps;
      told = (0, refl);
    };
    whole = λ demo disk. absurd (cc);
    holds = λ spares. has.holds (less spares);
    settled = λ spares. has.settled (less spares);
    spared = λ plain image here.
        subst (λ (t : List ℕ). LeftIn (LeftByLine mode.kind has.end) has.end (slice_get (commands_in t) (length has.ended.replies)) None image) (sym own) (has.spared plain image here);
    saved = λ safe image here.
        subst (λ (t : List ℕ). LeftIn (λ refused line. HasTreeBeforeOrAfter mode.kind has.end (tree_after mode has.end (command_of line))) has.end (slice_get (commands_in t) (length has.ended.replies)) None image) (sym own)
        (has.saved safe image here);
    stops = λ quiet. stops_demo has.end has.ended.replies text [] (has.stops quiet);
  }

  over_demo : (refused : Bool) (line : List ℕ) → HasRun d old new mode false (Some n) s script line refused → EndsOver d old new mode false (Some n) s script line (end_after refused)
  over_demo true line has = has
  over_demo false line has = has

  -- All lines were done, and then the line was told, or wasn't.
  pub demo_ends : (bytes : List ℕ) (tally : Tally) (end : End) (before after : Option (List ℕ)) → ServesAs d old new mode s script (Some []) (Some bytes) (Ok tally)
      → (end ≡ end_after (has_refused tally)) ⊎ ((end ≡ OutFault) ⊎ (end ≡ NoMemory)) → (end ≡ end_after (has_refused tally) → Wrote before after (tally_line n tally bytes))
      → WrotePart before after (tally_line n tally bytes) → (end ≡ NoMemory → after ≡ before)
      → (text : List ℕ) × Wrote before after text × EndsOver d old new mode false (Some n) s script text end
  demo_ends bytes tally end before after served (inl is) told part quiet =
      let has = served.2 in
      let line = tally_line n tally bytes in
      let same : line ≡ demo_line n has.run.replies = line_is n tally bytes has.run.replies served.3 (taken_is bytes served.0 served.1 ∙ has.run.told) in
      (line, told is, subst (EndsOver d old new mode false (Some n) s script line) (sym is) (over_demo (has_refused tally) line (run_demo (has_refused tally) served.0 line has same)))
  demo_ends bytes tally end before after served (inr (inl is)) told part quiet =
      let has = served.2 in
      let same : tally_line n tally bytes ≡ demo_line n has.run.replies = line_is n tally bytes has.run.replies served.3 (taken_is bytes served.0 served.1 ∙ has.run.told) in
      let line = take part.0 (tally_line n tally bytes) in
      (line, part.1, subst (EndsOver d old new mode false (Some n) s script line) (sym is) (inl (part_demo (has_refused tally) served.0 line part.0 Cause.Out has (ap (take part.0) same))))
  demo_ends bytes tally end before after served (inr (inr is)) told part quiet =
      let has = served.2 in (
        [],
        subst (λ (a : Option (List ℕ)). Wrote before a []) (sym (quiet is)) (wrote_nothing before),
        subst (EndsOver d old new mode false (Some n) s script []) (sym is) (inl (part_demo (has_refused tally) served.0 [] 0 Cause.Memory has refl)),
      )

  -- An I/O error of the disk came in a line,
  pub demo_fault : (before after told : Option (List ℕ)) → ServesAs d old new mode s script before after (Err LineFault.Disk)
      → (text : List ℕ) × Wrote told told text × EndsOver d old new mode false (Some n) s script text DiskFault
  demo_fault before after told served = ([], wrote_nothing told, inl (broke_demo served.0 Cause.Disk Cause.Disk (λ same. same) served.2))

  -- or memory was short, for a line or for its reply.
  pub demo_memory : (fault : LineFault) (before after told : Option (List ℕ)) → (fault ≡ LineFault.Out) ⊎ (fault ≡ LineFault.NoMemory) → ServesAs d old new mode s script before after (Err fault)
      → (text : List ℕ) × Wrote told told text × EndsOver d old new mode false (Some n) s script text NoMemory
  demo_memory fault before after told (inl is) served = ([], wrote_nothing told, inl (broke_demo served.0 (cause_of fault) Cause.Memory (λ same. ap (λ (f : LineFault). spares_disk (cause_of f)) is) served.2))
  demo_memory fault before after told (inr is) served = ([], wrote_nothing told, inl (broke_demo served.0 (cause_of fault) Cause.Memory (λ same. ap (λ (f : LineFault). spares_disk (cause_of f)) is) served.2))
