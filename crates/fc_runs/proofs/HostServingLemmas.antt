-- Serving line after line, if lines may move files of a host.
use Rattle.std.proofs.Common.{◌≡◌, inl, inr, ⊎_elim, ℕ, ◌+◌, Bool, true, false, List, [], ◌∷◌, ◌++◌, length, take, Option, Some, None, Result, Ok, Err, refl, sym, ap, subst, ◌∙◌, arith, append_assoc}
use Rattle.std.specs.Prelude.{slice_get}
use Rattle.std.specs.List.{list_any}
use Rattle.std.proofs.lemmas.List.{append-nil, length-append, take_at}
use Rattle.std.proofs.Math.Seq.{take-append-add}
use Rattle.fc_device.specs.declared.disk.Disk.{Ghosts}
use Rattle.fc_device.proofs.DiskLaws.{Laws}
use Rattle.fc_device.proofs.StopLemmas.{one_told}
use Rattle.fc_host.specs.Answers.{AnswersCalls, all_asked}
use Rattle.fc_host.specs.Asked.{Asked}
use Rattle.fc_host.specs.Files.{Files}
use Rattle.fc_host.proofs.AnswerLemmas.{answered_both}
use Rattle.fc_record.specs.declared.Kind.{Kind}
use Rattle.fc_names.specs.declared.refusal.Refusal.{Refusal}
use Rattle.fc_image.specs.Stays.{OpensAs}
use Rattle.fc_image.specs.effects.Effect.{State, tree_in}
use Rattle.fc_image.specs.safe.SafeEffect.{HasTree, HasTreeBeforeOrAfter}
use Rattle.fc_script.specs.HostLines.{HostLine}
use Rattle.fc_runs.specs.AskedRun.{AskedSteps}
use Rattle.fc_runs.specs.Early.{FilesLeftBy, host_reply_begun, text_begun}
use Rattle.fc_runs.specs.HostPromises.{AskedBegun, AskedBegunBy, AskedHasRun, AskedHasStopped, AskedLeaves, AskedStepsTo, AskedTreeAround}
use Rattle.fc_runs.specs.HostRun.{Reading, all_host_keep_tree, host_keeps_tree}
use Rattle.fc_runs.specs.HostServing.{AreMoved, IsBrokenOff, IsMoved}
use Rattle.fc_runs.specs.Meanwhile.{GoesOn}
use Rattle.fc_runs.specs.Promises.{Cause, StaysBy, cuts_replies, spares_disk}
use Rattle.fc_runs.specs.Run.{Mode, commands_in, is_error, text_of, whole_replies}
use Rattle.fc_runs.specs.Stops.{HasTreeBetween, HostLeftBy, HostLeftByLine, IsLeftInLine, LeftIn, MayHaveLeft, all_host_leave_image, host_leaves_image, is_kept_by_next}
use Rattle.fc_runs.proofs.HostStepLemmas.{asked_more, asks_keep, asks_leave, asks_long, asks_many, asks_more, asks_new, asks_weaker, each_done, each_last, each_next}
use Rattle.fc_runs.proofs.LeftLemmas.{asked_longer, asked_to_all, asked_to_more, host_ends_same, host_left_same, left_front, left_last, left_more, left_next}
use Rattle.fc_runs.proofs.MeanwhileLemmas.{goes_then}
use Rattle.fc_runs.proofs.ModeLemmas.{as_plain, as_safe, asked_around, asked_before, asked_leaves_before, asked_between, between_last, between_more, left_unbegun, whole_most}
use Rattle.fc_runs.proofs.StepLemmas.{has_tree}
use Rattle.fc_runs.proofs.TextLemmas.{begun_front, front_part, get_next, one_more, whole_all}

-- ---- the line that broke off

-- the image from before is left
pub stays_same : (cause : Cause) (kind : Kind) (s : State) → OpensAs s.image kind s.view → StaysBy cause kind s s.image
stays_same Cause.Disk kind s opens = refl
stays_same Cause.Out kind s opens = refl
stays_same Cause.Host kind s opens = record { opens = opens; objects = refl }
stays_same Cause.Memory kind s opens = refl

-- nothing was asked in it
pub none_asked : (mode : Mode) (s : State) (r : Result HostLine Refusal) → AskedBegun mode s r []
none_asked mode s (Err refusal) = refl
none_asked mode s (Ok (HostLine.Put host path load exec)) = inl refl
none_asked mode s (Ok (HostLine.Get path host)) = inl refl
none_asked mode s (Ok (HostLine.Other command)) = refl

pub none_begun : (read : Reading) (mode : Mode) (s : State) (next : Option (List ℕ)) → AskedBegunBy read mode s next []
none_begun read mode s None = refl
none_begun read mode s (Some line) = none_asked mode s (read line)

pub files_stay : (read : Reading) (mode : Mode) (s : State) (files : Files) (next : Option (List ℕ)) → FilesLeftBy read mode s files next files
files_stay read mode s files None = refl
files_stay read mode s files (Some line) = inl refl

module _ {D : Type 0} {d : Ghosts D} (law : Laws d) (read : Reading) (mode : Mode) (s : State) (files : Option Files) (script : List ℕ) (old : D) (told : d.bytes old ≡ Some s.image)
    (quiet : d.pending old ≡ false) (opens : OpensAs s.image mode.kind s.view) where
  -- what lines are tested for
  abbrev keeps : Bool → List ℕ → Bool
  keeps refused line = host_keeps_tree refused (read line)

  abbrev leaves : Bool → List ℕ → Bool
  leaves refused line = host_leaves_image refused (read line)

  -- what a line may leave
  abbrev by : State → Bool → List ℕ → List ℕ → Type 0
  by = HostLeftByLine read mode.kind

  -- and what one may that broke off, in the safe mode and outside of it
  abbrev Safely : List ℕ → State → List Asked → Option Files → List ℕ → Type 0
  Safely line x asked held = AskedLeaves mode x (read line) asked held

  abbrev Plainly : List ℕ → State → List ℕ → Type 0
  Plainly line x = HostLeftBy mode.kind x false (read line)

  same_by : (x : State) → OpensAs x.image mode.kind x.view → (image : List ℕ) (refused : Bool) (line : List ℕ) → image ≡ x.image → by x refused line image
  same_by x there image refused line same = host_left_same mode.kind x there image same refused (read line)

  -- Some lines were done, and `rest` are left.
  along_done : (new : D) (held : Option Files) (asked : List Asked) (rest : List (List ℕ)) → (are : AreMoved d read old new mode s files held asked (commands_in script) rest) → mode.safe ≡ false → (image : List ℕ)
      → d.left_since new (d.moment old) image → IsLeftInLine (AskedStepsTo read mode s (commands_in script) are.replies are.asks) by (commands_in script) are.replies image
  along_done new held asked rest are plain image left =
      let May = MayHaveLeft d old new in
      let long = asks_long read May mode s are.state are.done are.replies are.asks are.steps in
      let many = asks_many read May mode s are.state are.done are.replies are.asks are.steps in
      subst (λ (lines : List (List ℕ)). IsLeftInLine (AskedStepsTo read mode s lines are.replies are.asks) by lines are.replies image) (sym are.cut)
      (left_front (AskedStepsTo read mode s are.done are.replies are.asks) (AskedStepsTo read mode s (are.done ++ rest) are.replies are.asks) by are.state are.done are.replies long
      (asked_to_all read May mode s are.state are.done are.replies are.asks long many are.steps) image (same_by are.state are.opens image)
      (λ n x low to. asked_longer mode s are.done are.replies long n low x read are.asks many rest to) rest (are.along plain image left))

  during_done : (new : D) (held : Option Files) (asked : List Asked) (rest : List (List ℕ)) → (are : AreMoved d read old new mode s files held asked (commands_in script) rest) → mode.safe ≡ true → (image : List ℕ)
      → d.left_since new (d.moment old) image → HasTreeBetween (AskedStepsTo read mode s (commands_in script) are.replies are.asks) (length are.replies) mode.kind image
  during_done new held asked rest are safe image left =
      let May = MayHaveLeft d old new in
      let long = asks_long read May mode s are.state are.done are.replies are.asks are.steps in
      let many = asks_many read May mode s are.state are.done are.replies are.asks are.steps in
      subst (λ (lines : List (List ℕ)). HasTreeBetween (AskedStepsTo read mode s lines are.replies are.asks) (length are.replies) mode.kind image) (sym are.cut)
      (between_more (AskedStepsTo read mode s are.done are.replies are.asks) (AskedStepsTo read mode s (are.done ++ rest) are.replies are.asks) (length are.replies) (length are.replies) mode.kind image (omega arith)
      (λ n x low to. asked_longer mode s are.done are.replies long n low x read are.asks many rest to) (are.during safe image left))

  -- The lines that were done lead to where they do.
  done_to : (May : List ℕ → Type 0) (done replies : List (List ℕ)) (asks : List (List Asked)) (state : State) (rest : List (List ℕ)) → commands_in script ≡ done ++ rest → AskedSteps read May mode s done replies asks state
      → AskedStepsTo read mode s (commands_in script) replies asks (length replies) state
  done_to May done replies asks state rest cut steps =
      let long = asks_long read May mode s state done replies asks steps in
      let many = asks_many read May mode s state done replies asks steps in
      subst (λ (lines : List (List ℕ)). AskedStepsTo read mode s lines replies asks (length replies) state) (sym cut)
      (asked_longer mode s done replies long (length replies) (omega arith) state read asks many rest (asked_to_all read May mode s state done replies asks long many steps))

  -- before the first line
  pub moved_start : (left : List (List ℕ)) → left ≡ commands_in script → AreMoved d read old old mode s files files [] (commands_in script) left
  moved_start left all = record {
    done = [];
    replies = [];
    asks = [];
    state = s;
    cut = sym all;
    steps = refl;
    asked_is = refl;
    answered = refl;
    holds = told;
    opens = opens;
    kept = λ keep new_map image left. has_tree mode.kind s image opens (law.settled old quiet s.image told image left);
    still = λ leave image left. law.settled old quiet s.image told image left;
    during = λ safe image left.
        record { count = 0; within = omega arith; mid = s; steps = refl; tree = has_tree mode.kind s image opens (law.settled old quiet s.image told image left) };
    along = λ plain image left. inl (law.settled old quiet s.image told image left);
  }

  -- one line more
  pub moved_more : (line reply : List ℕ) (left : List (List ℕ)) (mid new : D) (next : State) (held now : Option Files) (asked more : List Asked)
      → (are : AreMoved d read old mid mode s files held asked (commands_in script) (line ∷ left)) → GoesOn d old mid → GoesOn d mid new
      → IsMoved d mid new mode are.state (read line) reply more held now next → AreMoved d read old new mode s files now (asked ++ more) (commands_in script) left
  moved_more line reply left mid new next held now asked more are first second is =
      let May = MayHaveLeft d old mid in
      let Might = MayHaveLeft d old new in
      let long = asks_long read May mode s are.state are.done are.replies are.asks are.steps in
      let many = asks_many read May mode s are.state are.done are.replies are.asks are.steps in
      record {
        done = are.done ++ line ∷ [];
        replies = are.replies ++ reply ∷ [];
        asks = are.asks ++ more ∷ [];
        state = next;
        cut = are.cut ∙ sym (append_assoc are.done (line ∷ []) left);
        steps = asks_more read Might mode s are.state next are.done are.replies are.asks line reply more
            (asks_weaker read May Might (λ image may tells. second.stops.keeps (d.moment old) image first.stops.later (may tells)) mode s are.state are.done are.replies are.asks are.steps)
            (λ tells. law.earlier new (d.moment old) (d.moment new) next.image (omega (arith, first.stops.later, second.stops.later))
            (law.leaves_what_is_read new (second.form.tells_stays ∙ first.form.tells_stays ∙ tells) next.image is.holds))
            is.step;
        asked_is = ap (λ (l : List Asked). l ++ more) are.asked_is ∙ sym (asked_more are.asks more);
        answered = subst (λ (l : List Asked). AnswersCalls files l now) (sym (asked_more are.asks more)) (answered_both (all_asked are.asks) more files held now are.answered is.answered);
        holds = is.holds;
        opens = is.opens;
        kept = λ keep new_map image left.
            let both = each_last keeps are.done are.replies line reply long keep in
            let new_now = asks_new read May mode s are.state are.done are.replies are.asks are.steps new_map in
            ⊎_elim (λ was. are.kept both.0 new_map image was)
            (λ since. subst (λ t. HasTree mode.kind t image) (asks_keep read May mode s are.state are.done are.replies are.asks are.steps both.0) (is.kept both.1 new_now image since))
            (second.stops.before (d.moment old) image first.stops.later left);
        still = λ leave image left.
            let both = each_last leaves are.done are.replies line reply long leave in
            ⊎_elim (λ was. are.still both.0 image was)
            (λ since. is.still both.1 image since ∙ ap (λ (x : State). x.image) (asks_leave read May mode s are.state are.done are.replies are.asks are.steps both.0))
            (second.stops.before (d.moment old) image first.stops.later left);
        during = λ safe image left.
            let Before = AskedStepsTo read mode s are.done are.replies are.asks in
            let After = AskedStepsTo read mode s (are.done ++ line ∷ []) (are.replies ++ reply ∷ []) (are.asks ++ more ∷ []) in
            let all = asked_to_all read May mode s are.state are.done are.replies are.asks long many are.steps in
            let steps = asks_more read Might mode s are.state next are.done are.replies are.asks line reply more
            (asks_weaker read May Might (λ image may tells. second.stops.keeps (d.moment old) image first.stops.later (may tells)) mode s are.state are.done are.replies are.asks are.steps)
            (λ tells. law.earlier new (d.moment old) (d.moment new) next.image (omega (arith, first.stops.later, second.stops.later))
            (law.leaves_what_is_read new (second.form.tells_stays ∙ first.form.tells_stays ∙ tells) next.image is.holds)) is.step in
            let long' = asks_long read Might mode s next (are.done ++ line ∷ []) (are.replies ++ reply ∷ []) (are.asks ++ more ∷ []) steps in
            let many' = asks_many read Might mode s next (are.done ++ line ∷ []) (are.replies ++ reply ∷ []) (are.asks ++ more ∷ []) steps in
            let last = asked_to_all read Might mode s next (are.done ++ line ∷ []) (are.replies ++ reply ∷ []) (are.asks ++ more ∷ []) long' many' steps in
            let l = length-append are.replies (reply ∷ []) in
            between_last Before After (length are.replies) (length (are.replies ++ reply ∷ [])) mode.kind image (omega (arith, l))
            (λ n x low to. asked_to_more mode s are.done are.replies long n low x read are.asks many (line ∷ []) (reply ∷ []) (more ∷ []) to) are.state next all last
            (⊎_elim (λ was. inl (are.during safe image was))
            (λ since. inr (as_safe (HasTreeBeforeOrAfter mode.kind are.state (tree_in next)) (HostLeftBy mode.kind are.state (is_error reply) (read line)) image mode.safe safe (is.spared image since)))
            (second.stops.before (d.moment old) image first.stops.later left));
        along = λ plain image left.
            let Before = AskedStepsTo read mode s are.done are.replies are.asks in
            let After = AskedStepsTo read mode s (are.done ++ line ∷ []) (are.replies ++ reply ∷ []) (are.asks ++ more ∷ []) in
            let all = asked_to_all read May mode s are.state are.done are.replies are.asks long many are.steps in
            ⊎_elim (λ was. left_more Before After by are.state are.done are.replies long all image (same_by are.state are.opens image)
            (λ n x low to. asked_to_more mode s are.done are.replies long n low x read are.asks many (line ∷ []) (reply ∷ []) (more ∷ []) to) line reply next (are.along plain image was))
            (λ since. left_last Before After by are.state are.done are.replies long all image (same_by are.state are.opens image)
            (λ n x low to. asked_to_more mode s are.done are.replies long n low x read are.asks many (line ∷ []) (reply ∷ []) (more ∷ []) to) line reply next
            (as_plain (HasTreeBeforeOrAfter mode.kind are.state (tree_in next)) (HostLeftBy mode.kind are.state (is_error reply) (read line)) image mode.safe plain (is.spared image since)))
            (second.stops.before (d.moment old) image first.stops.later left);
      }

  -- what callers see of these
  pub moved_first : (left : List (List ℕ)) → left ≡ commands_in script → (now : AreMoved d read old old mode s files files [] (commands_in script) left) × (now.replies ≡ []) × (now.state ≡ s)
  unfolding moved_start
  moved_first left all = (moved_start left all, refl, refl)

  pub moved_next : (line reply : List ℕ) (left : List (List ℕ)) (mid new : D) (next : State) (held now : Option Files) (asked more : List Asked)
      → (are : AreMoved d read old mid mode s files held asked (commands_in script) (line ∷ left)) → GoesOn d old mid → GoesOn d mid new
      → IsMoved d mid new mode are.state (read line) reply more held now next
      → (later : AreMoved d read old new mode s files now (asked ++ more) (commands_in script) left) × (later.replies ≡ are.replies ++ reply ∷ []) × (later.state ≡ next)
  unfolding moved_more
  moved_next line reply left mid new next held now asked more are first second is = (moved_more line reply left mid new next held now asked more are first second is, refl, refl)

  -- the image as it opened might have been left
  pub moved_from : (new : D) → GoesOn d old new → MayHaveLeft d old new s.image
  moved_from new goes tells = goes.stops.keeps (d.moment old) s.image (omega arith) (law.leaves_what_is_read old tells s.image told)

  -- all lines were done
  pub moved_all : (new : D) (held : Option Files) (asked : List Asked) (refused : Bool) → (are : AreMoved d read old new mode s files held asked (commands_in script) []) → GoesOn d old new
      → d.pending new ≡ false → refused ≡ list_any is_error are.replies → AskedHasRun d read old new mode false s files held asked script (text_of are.replies) refused
  moved_all new held asked refused are goes settled refused_is =
      let all : are.done ≡ commands_in script = sym (are.cut ∙ append-nil are.done) in
      record {
        end = are.state;
        replies = are.replies;
        asks = are.asks;
        start = moved_from new goes;
        steps = subst (λ (lines : List (List ℕ)). AskedSteps read (MayHaveLeft d old new) mode s lines are.replies are.asks are.state) all are.steps;
        asked_is = are.asked_is;
        answered = are.answered;
        told = refl;
        refused_is = refused_is;
        holds = are.holds;
        settled = settled;
        stops = λ was_quiet. record {
          idle = λ new_map fresh keep image left.
              let tree = are.kept (subst (λ (lines : List (List ℕ)). all_host_keep_tree read lines are.replies ≡ true) (sym all) keep) new_map image left in
              record { view = tree.view; opens = tree.opens; tree = tree.tree };
          last = λ new_map next image left. has_tree mode.kind are.state image are.opens (law.settled new settled are.state.image are.holds image left);
          still = λ fresh leave image left.
              are.still (subst (λ (lines : List (List ℕ)). all_host_leave_image read lines are.replies ≡ true) (sym all) leave) image left;
          rest = λ next image left. law.settled new settled are.state.image are.holds image left;
          along = λ plain fresh. along_done new held asked [] are plain;
          ending = λ plain image left. host_ends_same read mode.kind are.state are.opens (slice_get (commands_in script) (length are.replies)) image (law.settled new settled are.state.image are.holds image left);
          during = λ safe fresh image left. asked_between mode s (commands_in script) are.replies image read are.asks [] held (during_done new held asked [] are safe image left);
          exit = λ safe image left. asked_around mode s (commands_in script) are.replies image read are.asks [] held are.state (whole_replies (length (text_of are.replies)) are.replies)
              (whole_most (length (text_of are.replies)) are.replies) (done_to (MayHaveLeft d old new) are.done are.replies are.asks are.state [] are.cut are.steps)
              (asked_before read mode are.state (slice_get (commands_in script) (length are.replies)) [] held image (has_tree mode.kind are.state image are.opens (law.settled new settled are.state.image are.holds image left)));
        };
      }

  -- The last line was done, and its reply written in part.
  pub moved_cut : (line reply : List ℕ) (left : List (List ℕ)) (mid new : D) (next : State) (held now : Option Files) (asked more : List Asked) (n : ℕ) (cause : Cause)
      → (has : AreMoved d read old mid mode s files held asked (commands_in script) (line ∷ left)) → GoesOn d old mid → GoesOn d mid new → d.pending new ≡ false → cuts_replies cause ≡ true
      → IsMoved d mid new mode has.state (read line) reply more held now next
      → AskedHasStopped d read old new mode false s files now (asked ++ more) script (text_of has.replies ++ take n reply) cause
  unfolding moved_more
  moved_cut line reply left mid new next held now asked more n cause has first second settled cut is =
      let are = moved_more line reply left mid new next held now asked more has first second is in
      let Might = MayHaveLeft d old new in
      let long : length are.replies ≡ length are.done = asks_long read Might mode s are.state are.done are.replies are.asks are.steps in
      let front : take (length are.replies) (commands_in script) ≡ are.done =
      ap (take (length are.replies)) are.cut ∙ take_at are.done left (length are.replies) (sym long) in
      let begun : List ℕ → List ℕ = λ (l : List ℕ). host_reply_begun mode are.state (read l) in
      let after : Option (List ℕ) = slice_get (commands_in script) (length are.replies) in
      let rest = begun_front are.replies after begun in
      let part = front_part n reply rest.0 in
      let whole : text_begun None are.replies after begun ≡ text_of has.replies ++ (reply ++ rest.0) =
      rest.1 ∙ ap (λ (t : List ℕ). t ++ rest.0) (one_more has.replies reply) ∙ append_assoc (text_of has.replies) reply rest.0 in
      let text : text_of has.replies ++ take n reply ≡ take (length (text_of has.replies) + part.0) (text_begun None are.replies after begun) =
      ap (λ (t : List ℕ). text_of has.replies ++ t) part.1 ∙ sym (take-append-add (text_of has.replies) (reply ++ rest.0) part.0)
      ∙ ap (take (length (text_of has.replies) + part.0)) (sym whole) in
      record {
        end = are.state;
        replies = are.replies;
        asks = are.asks;
        begun = [];
        between = now;
        start = moved_from new (goes_then law first second);
        steps = subst (λ (lines : List (List ℕ)). AskedSteps read Might mode s lines are.replies are.asks are.state) (sym front) are.steps;
        asked_is = are.asked_is ∙ sym (append-nil (all_asked are.asks));
        answered = are.answered;
        begun_is = none_begun read mode are.state after;
        files_left = λ fs known. (fs, known, files_stay read mode are.state fs after);
        back = λ first host is. refl;
        told = (length (text_of has.replies) + part.0, text);
        whole = λ whole. absurd (let clash : false ≡ true = sym whole ∙ cut in cc);
        holds = λ spares. (are.state.image, are.holds, stays_same cause mode.kind are.state are.opens);
        settled = λ spares. inl settled;
        spared = λ plain image here. host_ends_same read mode.kind are.state are.opens after image (one_told (sym here ∙ are.holds));
        saved = λ safe image here. left_unbegun (λ refused line. Safely line are.state [] now) are.state after image (one_told (sym here ∙ are.holds))
            (λ line. asked_leaves_before mode are.state (read line) [] now image (has_tree mode.kind are.state image are.opens (one_told (sym here ∙ are.holds))));
        stops = λ was_quiet. record {
          idle = λ new_map fresh keep image left'.
              let done = each_done keeps are.done are.replies left long (subst (λ (lines : List (List ℕ)). all_host_keep_tree read lines are.replies ≡ true) are.cut keep) in
              let tree = are.kept done new_map image left' in
              record { view = tree.view; opens = tree.opens; tree = tree.tree };
          last = λ new_map kept image left'. has_tree mode.kind are.state image are.opens (law.settled new settled are.state.image are.holds image left');
          still = λ fresh leave image left'.
              are.still (each_done leaves are.done are.replies left long (subst (λ (lines : List (List ℕ)). all_host_leave_image read lines are.replies ≡ true) are.cut leave)) image left';
          rest = λ leave image left'. law.settled new settled are.state.image are.holds image left';
          along = λ plain fresh. along_done new now (asked ++ more) left are plain;
          ending = λ plain image left'. host_ends_same read mode.kind are.state are.opens after image (law.settled new settled are.state.image are.holds image left');
          during = λ safe fresh image left'. asked_between mode s (commands_in script) are.replies image read are.asks [] now (during_done new now (asked ++ more) left are safe image left');
          exit = λ safe image left'. asked_around mode s (commands_in script) are.replies image read are.asks [] now are.state (whole_replies (length (text_of has.replies ++ take n reply)) are.replies)
              (whole_most (length (text_of has.replies ++ take n reply)) are.replies) (done_to Might are.done are.replies are.asks are.state left are.cut are.steps)
              (asked_before read mode are.state after [] now image (has_tree mode.kind are.state image are.opens (law.settled new settled are.state.image are.holds image left')));
        };
      }

  -- A line broke off.
  pub moved_broke : (line : List ℕ) (left : List (List ℕ)) (mid new : D) (held now : Option Files) (asked more : List Asked) (n : ℕ) (cause : Cause)
      → (are : AreMoved d read old mid mode s files held asked (commands_in script) (line ∷ left)) → GoesOn d old mid → GoesOn d mid new → (spares_disk cause ≡ true → d.pending new ≡ false)
      → IsBrokenOff d mid new mode are.state (read line) more held now cause
      → AskedHasStopped d read old new mode false s files now (asked ++ more) script (text_of are.replies ++ take n (host_reply_begun mode are.state (read line))) cause
  moved_broke line left mid new held now asked more n cause are first second settled broke =
      let May = MayHaveLeft d old mid in
      let Might = MayHaveLeft d old new in
      let long : length are.replies ≡ length are.done = asks_long read May mode s are.state are.done are.replies are.asks are.steps in
      let front : take (length are.replies) (commands_in script) ≡ are.done =
      ap (take (length are.replies)) are.cut ∙ take_at are.done (line ∷ left) (length are.replies) (sym long) in
      let next : slice_get (commands_in script) (length are.replies) ≡ Some line =
      ap (λ (lines : List (List ℕ)). slice_get lines (length are.replies)) are.cut ∙ get_next are.done line left (length are.replies) long in
      let begun : List ℕ → List ℕ = λ (l : List ℕ). host_reply_begun mode are.state (read l) in
      let text : text_of are.replies ++ take n (begun line) ≡ take (length (text_of are.replies) + n) (text_begun None are.replies (slice_get (commands_in script) (length are.replies)) begun) =
      sym (take-append-add (text_of are.replies) (begun line) n)
      ∙ ap (λ (o : Option (List ℕ)). take (length (text_of are.replies) + n) (text_begun None are.replies o begun)) (sym next) in
      record {
        end = are.state;
        replies = are.replies;
        asks = are.asks;
        begun = more;
        between = held;
        start = moved_from new (goes_then law first second);
        steps = subst (λ (lines : List (List ℕ)). AskedSteps read Might mode s lines are.replies are.asks are.state) (sym front)
            (asks_weaker read May Might (λ image may tells. second.stops.keeps (d.moment old) image first.stops.later (may tells)) mode s are.state are.done are.replies are.asks are.steps);
        asked_is = ap (λ (l : List Asked). l ++ more) are.asked_is;
        answered = are.answered;
        begun_is = subst (λ (o : Option (List ℕ)). AskedBegunBy read mode are.state o more) (sym next) broke.begun;
        files_left = λ fs known. let rest = broke.files_left fs known in
            (rest.0, rest.1, subst (λ (o : Option (List ℕ)). FilesLeftBy read mode are.state fs o rest.0) (sym next) rest.2);
        back = broke.back;
        told = (length (text_of are.replies) + n, text);
        whole = λ disk. whole_all are.replies (take n (begun line));
        holds = λ spares. broke.holds spares;
        settled = λ spares. inl (settled spares);
        spared = λ plain image here. subst (λ (o : Option (List ℕ)). LeftIn (by are.state) are.state o None image) (sym next) (as_plain (Safely line are.state more held) (Plainly line are.state) image mode.safe plain (broke.exit image here));
        saved = λ safe image here. subst (λ (o : Option (List ℕ)). LeftIn (λ refused l. Safely l are.state more held) are.state o None image) (sym next) (as_safe (Safely line are.state more held) (Plainly line are.state) image mode.safe safe (broke.exit image here));
        stops = λ was_quiet. record {
          idle = λ new_map fresh keep image left'.
              let all = subst (λ (lines : List (List ℕ)). all_host_keep_tree read lines are.replies ≡ true) are.cut keep in
              let done = each_done keeps are.done are.replies (line ∷ left) long all in
              let new_now = asks_new read May mode s are.state are.done are.replies are.asks are.steps new_map in
              let tree : HasTree mode.kind (tree_in s) image =
              ⊎_elim (λ was. are.kept done new_map image was)
              (λ since. subst (λ t. HasTree mode.kind t image) (asks_keep read May mode s are.state are.done are.replies are.asks are.steps done)
              (broke.kept (each_next keeps are.done are.replies line left long all) new_now image since))
              (second.stops.before (d.moment old) image first.stops.later left') in
              record { view = tree.view; opens = tree.opens; tree = tree.tree };
          last = λ new_map keep image left'.
              let kept = subst (λ (o : Option (List ℕ)). is_kept_by_next (λ l. host_keeps_tree false (read l)) o ≡ true) next keep in
              broke.kept kept (asks_new read May mode s are.state are.done are.replies are.asks are.steps new_map) image
              (law.earlier new (d.moment mid) (d.moment new) image second.stops.later left');
          still = λ fresh leave image left'.
              let all = subst (λ (lines : List (List ℕ)). all_host_leave_image read lines are.replies ≡ true) are.cut leave in
              let done = each_done leaves are.done are.replies (line ∷ left) long all in
              ⊎_elim (λ was. are.still done image was)
              (λ since. broke.still (each_next leaves are.done are.replies line left long all) image since
              ∙ ap (λ (x : State). x.image) (asks_leave read May mode s are.state are.done are.replies are.asks are.steps done))
              (second.stops.before (d.moment old) image first.stops.later left');
          rest = λ leave image left'.
              broke.still (subst (λ (o : Option (List ℕ)). is_kept_by_next (λ l. host_leaves_image false (read l)) o ≡ true) next leave) image
              (law.earlier new (d.moment mid) (d.moment new) image second.stops.later left');
          during = λ safe fresh image left'.
              ⊎_elim (λ was. asked_between mode s (commands_in script) are.replies image read are.asks more held (during_done mid held asked (line ∷ left) are safe image was))
              (λ since. asked_around mode s (commands_in script) are.replies image read are.asks more held are.state 0 (omega arith) (done_to May are.done are.replies are.asks are.state (line ∷ left) are.cut are.steps)
              (subst (λ (o : Option (List ℕ)). AskedTreeAround read mode are.state o more held image) (sym next) (as_safe (Safely line are.state more held) (Plainly line are.state) image mode.safe safe (broke.spared image since))))
              (second.stops.before (d.moment old) image first.stops.later left');
          exit = λ safe image left'.
              let written = text_of are.replies ++ take n (begun line) in
              asked_around mode s (commands_in script) are.replies image read are.asks more held are.state (whole_replies (length written) are.replies) (whole_most (length written) are.replies)
              (done_to May are.done are.replies are.asks are.state (line ∷ left) are.cut are.steps)
              (subst (λ (o : Option (List ℕ)). AskedTreeAround read mode are.state o more held image) (sym next)
              (as_safe (Safely line are.state more held) (Plainly line are.state) image mode.safe safe (broke.spared image (law.earlier new (d.moment mid) (d.moment new) image second.stops.later left'))));
          along = λ plain fresh image left'.
              let many = asks_many read May mode s are.state are.done are.replies are.asks are.steps in
              let Before = AskedStepsTo read mode s are.done are.replies are.asks in
              let After = AskedStepsTo read mode s (are.done ++ line ∷ left) are.replies are.asks in
              let all = asked_to_all read May mode s are.state are.done are.replies are.asks long many are.steps in
              subst (λ (lines : List (List ℕ)). IsLeftInLine (AskedStepsTo read mode s lines are.replies are.asks) by lines are.replies image) (sym are.cut)
              (⊎_elim (λ was. left_front Before After by are.state are.done are.replies long all image (same_by are.state are.opens image)
              (λ n x low to. asked_longer mode s are.done are.replies long n low x read are.asks many (line ∷ left) to) (line ∷ left) (are.along plain image was))
              (λ since. left_next Before After by are.state are.done are.replies long all image (same_by are.state are.opens image)
              (λ n x low to. asked_longer mode s are.done are.replies long n low x read are.asks many (line ∷ left) to) line left (as_plain (Safely line are.state more held) (Plainly line are.state) image mode.safe plain (broke.spared image since)))
              (second.stops.before (d.moment old) image first.stops.later left'));
          ending = λ plain image left'.
              subst (λ (o : Option (List ℕ)). LeftIn (by are.state) are.state o None image) (sym next)
              (as_plain (Safely line are.state more held) (Plainly line are.state) image mode.safe plain (broke.spared image (law.earlier new (d.moment mid) (d.moment new) image second.stops.later left')));
        };
      }
