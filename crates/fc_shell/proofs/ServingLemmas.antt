-- Serving line after line.
use Rattle.std.proofs.Common.{◌≡◌, ◌⊎◌, inl, inr, ⊎_elim, ℕ, ◌+◌, Bool, true, false, ◌||◌, List, [], ◌∷◌, ◌++◌, length, take, Option, Some, None, Ok, Err, cond, nat_lt, refl, sym, ap, ap₂, subst, ◌∙◌, arith, append_assoc}
use Rattle.std.specs.Prelude.{slice_get}
use Rattle.std.specs.List.{count_by, list_any}
use Rattle.std.proofs.lemmas.Bool.Decides.{nat_tests}
use Rattle.std.proofs.lemmas.List.{append-nil, length-append, take_at}
use Rattle.std.proofs.lemmas.List.Sums.{sum_by-cons, sum_by_push}
use Rattle.std.proofs.Math.Seq.{take-append-add}
use Rattle.fc_device.specs.declared.disk.Disk.{Ghosts}
use Rattle.fc_device.proofs.DiskLaws.{Laws}
use Rattle.fc_image.specs.Stays.{OpensAs}
use Rattle.fc_image.specs.effects.Effect.{State, tree_in}
use Rattle.fc_image.specs.safe.SafeEffect.{HasTree, HasTreeBeforeOrAfter}
use Rattle.fc_script.specs.Lines.{command_of}
use Rattle.fc_runs.specs.Early.{reply_begun, text_begun}
use Rattle.fc_runs.specs.Meanwhile.{GoesOn}
use Rattle.fc_runs.specs.Promises.{spares_disk}
use Rattle.fc_runs.specs.Run.{HasTreeAround, Mode, Steps, all_keep_tree, commands_in, is_error, keeps_tree_or, text_of, tree_after, whole_replies}
use Rattle.fc_runs.specs.Stops.{MayHaveLeft, all_leave_image, is_kept_by_next, leaves_image_or}
use Rattle.fc_runs.proofs.MeanwhileLemmas.{goes_then}
use Rattle.fc_runs.proofs.ModeLemmas.{around_before, as_plain, as_safe, between_last, between_more, left_unbegun, tree_around, tree_between, whole_most}
use Rattle.fc_runs.proofs.StepLemmas.{has_tree}
use Rattle.fc_runs.proofs.TextLemmas.{begun_front, front_part, get_next, one_more, whole_all}
use Rattle.fc_tree.specs.Parts.{ArePartsOf}
use Rattle.fc_volume.specs.Volume.{Volume, parts_of}
use Rattle.fc_shell.specs.declared.answer.LineFault.{LineFault}
use Rattle.fc_shell.specs.declared.answer.LineFault.TheVariants as lines
use Rattle.fc_shell.specs.declared.tally.Tally.{Tally}
use Rattle.fc_shell.specs.Reads.{Spares, all_read, is_reading_line}
use Rattle.fc_shell.specs.Counted.{AreCounted, has_refused}
use Rattle.fc_shell.specs.Line.{BreaksOff, IsAnswered, IsCutOff, IsDone, LineEnds}
use Rattle.fc_shell.specs.Serving.{AreDone, HasServed, ServesAs, cause_of}
use Rattle.fc_shell.specs.Writing.{Wrote}
use Rattle.fc_shell.proofs.TurnLemmas.{each_done, each_front, each_last, each_next, keeps, leaves, steps_keep, steps_leave, steps_long, steps_more, steps_new, steps_weaker}
use Rattle.fc_shell.proofs.WritingLemmas.{wrote_nothing, wrote_both}
use Rattle.std.proofs.lemmas.Bool.{and_parts as both_true}
use Rattle.fc_device.proofs.StopLemmas.{one_told}
use Rattle.fc_runs.specs.Stops.{HasTreeBetween, IsLeftInLine, LeftBy, LeftByLine, LeftIn, StepsTo}
use Rattle.fc_runs.proofs.LeftLemmas.{ends_same, left_by_same, left_front, left_last, left_more, left_next, steps_any, steps_longer, steps_to_all, steps_to_more}

-- ---- tests

-- lines that write nothing, and lines that change the disc
pub spares_first : (ro now : Bool) (line : List ℕ) (left : List (List ℕ)) → now ≡ ro → Spares ro (line ∷ left) → (now ≡ true) ⊎ (is_reading_line (command_of line) ≡ true)
spares_first ro now line left same (inl locked) = inl (same ∙ locked)
spares_first ro now line left same (inr reads) = inr (both_true (is_reading_line (command_of line)) (all_read left) reads).0

pub spares_rest : (ro : Bool) (line : List ℕ) (left : List (List ℕ)) → Spares ro (line ∷ left) → Spares ro left
spares_rest ro line left (inl locked) = inl locked
spares_rest ro line left (inr reads) = inr (both_true (is_reading_line (command_of line)) (all_read left) reads).1

-- ---- counts

pub none_counted : (tally : Tally) → tally.replies ≡ 0 → tally.refused ≡ 0 → AreCounted [] tally
none_counted tally replies refused = record { replies_are = replies; refused_are = refused }

-- a reply more
pub one_counted : (replies : List (List ℕ)) (reply : List ℕ) (refused : Bool) (was now : Tally) → AreCounted replies was → refused ≡ is_error reply
    → now.replies ≡ was.replies + 1 → now.refused ≡ was.refused + cond refused 1 0 → AreCounted (replies ++ reply ∷ []) now
one_counted replies reply refused was now are is more errors = record {
  replies_are = more ∙ ap (λ (n : ℕ). n + 1) are.replies_are ∙ sym (length-append replies (reply ∷ []));
  refused_are = errors ∙ ap₂ (λ (n : ℕ) (b : Bool). n + cond b 1 0) are.refused_are is ∙ sym (sum_by_push (λ (r : List ℕ). cond (is_error r) 1 0) replies reply);
}

-- Some are counted as error lines if one is.
any_counted : (replies : List (List ℕ)) → nat_lt 0 (count_by is_error replies) ≡ list_any is_error replies
any_counted [] = refl
any_counted (reply ∷ replies) = by (is_error reply) refl (any_counted replies)
  where
    by : (b : Bool) → is_error reply ≡ b → nat_lt 0 (count_by is_error replies) ≡ list_any is_error replies → nat_lt 0 (count_by is_error (reply ∷ replies)) ≡ list_any is_error (reply ∷ replies)
    by true is rest = ap (nat_lt 0) (sum_by-cons (λ (r : List ℕ). cond (is_error r) 1 0) reply replies ∙ ap (λ (x : Bool). cond x 1 0 + count_by is_error replies) is)
        ∙ grind (arith, nat_tests) ∙ sym (ap (λ (x : Bool). x || list_any is_error replies) is)
    by false is rest = ap (nat_lt 0) (sum_by-cons (λ (r : List ℕ). cond (is_error r) 1 0) reply replies ∙ ap (λ (x : Bool). cond x 1 0 + count_by is_error replies) is)
        ∙ ap (nat_lt 0) (omega arith) ∙ rest ∙ sym (ap (λ (x : Bool). x || list_any is_error replies) is)

pub refused_counted : (replies : List (List ℕ)) (tally : Tally) → AreCounted replies tally → has_refused tally ≡ list_any is_error replies
refused_counted replies tally are = ap (nat_lt 0) are.refused_are ∙ any_counted replies

-- ---- causes

not_disk : (fault : LineFault) → spares_disk (cause_of fault) ≡ true → fault ≡ LineFault.Disk → ⊥
not_disk fault spares is =
    let clash : false ≡ true = sym (ap (λ (f : LineFault). spares_disk (cause_of f)) is) ∙ spares in
    cc

is_disk : (fault : LineFault) → spares_disk (cause_of fault) ≡ false → fault ≡ LineFault.Disk
is_disk lines.Disk h = refl
is_disk lines.Out h = absurd (cc)
is_disk lines.NoMemory h = absurd (cc)

-- ---- lines that were done

module _ {D : Type 0} {d : Ghosts D} (law : Laws d) where
  module _ (mode : Mode) (s : State) (script : List ℕ) (old : D) (told : d.bytes old ≡ Some s.image) (quiet : d.pending old ≡ false) (opens : OpensAs s.image mode.kind s.view) where
    -- what a line may leave
    abbrev by : State → Bool → List ℕ → List ℕ → Type 0
    by = LeftByLine mode.kind

    -- and what one may that broke off, in the safe mode and outside of it
    abbrev Safely : List ℕ → State → List ℕ → Type 0
    Safely line x = HasTreeBeforeOrAfter mode.kind x (tree_after mode x (command_of line))

    abbrev Plainly : List ℕ → State → List ℕ → Type 0
    Plainly line x = LeftBy mode.kind x false (command_of line)

    same_by : (x : State) → OpensAs x.image mode.kind x.view → (image : List ℕ) (refused : Bool) (line : List ℕ) → image ≡ x.image → by x refused line image
    same_by x there image refused line same = left_by_same mode.kind x there image same refused (command_of line)

    -- Some lines were done, and `rest` are left.
    along_done : (new : D) (rest : List (List ℕ)) → (are : AreDone d old new mode s script rest) → mode.safe ≡ false → (image : List ℕ) → d.left_since new (d.moment old) image
        → IsLeftInLine (StepsTo mode s (commands_in script) are.replies) by (commands_in script) are.replies image
    along_done new rest are plain image left =
        let long = steps_long (MayHaveLeft d old new) mode s are.state are.done are.replies are.steps in
        subst (λ (lines : List (List ℕ)). IsLeftInLine (StepsTo mode s lines are.replies) by lines are.replies image) (sym are.cut)
        (left_front (StepsTo mode s are.done are.replies) (StepsTo mode s (are.done ++ rest) are.replies) by are.state are.done are.replies long
        (steps_to_all (MayHaveLeft d old new) mode s are.state are.done are.replies long are.steps) image (same_by are.state are.opens image)
        (λ n x low to. steps_longer mode s are.done are.replies long n low x rest to) rest (are.along plain image left))

    during_done : (new : D) (rest : List (List ℕ)) → (are : AreDone d old new mode s script rest) → mode.safe ≡ true → (image : List ℕ) → d.left_since new (d.moment old) image
        → HasTreeBetween (StepsTo mode s (commands_in script) are.replies) (length are.replies) mode.kind image
    during_done new rest are safe image left =
        let long = steps_long (MayHaveLeft d old new) mode s are.state are.done are.replies are.steps in
        subst (λ (lines : List (List ℕ)). HasTreeBetween (StepsTo mode s lines are.replies) (length are.replies) mode.kind image) (sym are.cut)
        (between_more (StepsTo mode s are.done are.replies) (StepsTo mode s (are.done ++ rest) are.replies) (length are.replies) (length are.replies) mode.kind image (omega arith)
        (λ n x low to. steps_longer mode s are.done are.replies long n low x rest to) (are.during safe image left))

    -- The lines that were done lead to where they do.
    done_to : (May : List ℕ → Type 0) (done replies : List (List ℕ)) (state : State) (rest : List (List ℕ)) → commands_in script ≡ done ++ rest → Steps May mode s done replies state
        → StepsTo mode s (commands_in script) replies (length replies) state
    done_to May done replies state rest cut steps =
        let long = steps_long May mode s state done replies steps in
        subst (λ (lines : List (List ℕ)). StepsTo mode s lines replies (length replies) state) (sym cut)
        (steps_longer mode s done replies long (length replies) (omega arith) state rest (steps_to_all May mode s state done replies long steps))

    -- before the first line
    pub done_start : (left : List (List ℕ)) → left ≡ commands_in script → AreDone d old old mode s script left
    done_start left all = record {
      done = [];
      replies = [];
      state = s;
      cut = sym all;
      steps = refl;
      holds = told;
      opens = opens;
      kept = λ keep new_map image left. has_tree mode.kind s image opens (law.settled old quiet s.image told image left);
      still = λ leave image left. law.settled old quiet s.image told image left;
      during = λ safe image left.
          record { count = 0; within = omega arith; mid = s; steps = refl; tree = has_tree mode.kind s image opens (law.settled old quiet s.image told image left) };
      along = λ plain image left. inl (law.settled old quiet s.image told image left);
    }

    pub served_start : (left : List (List ℕ)) (v : Volume) (tally : Tally) (before : Option (List ℕ)) → left ≡ commands_in script → ArePartsOf (parts_of v) s.view
        → tally.replies ≡ 0 → tally.refused ≡ 0 → HasServed d old old mode s script left v tally before before
    unfolding done_start
    served_start left v tally before all parts replies refused =
        record { lines = done_start left all; counted = none_counted tally replies refused; wrote = wrote_nothing before; parts = parts }

    -- one line more
    pub done_more : (line reply : List ℕ) (left : List (List ℕ)) (mid new : D) (next : State) → (are : AreDone d old mid mode s script (line ∷ left)) → GoesOn d old mid → GoesOn d mid new
        → IsDone d mid new mode are.state line reply next → AreDone d old new mode s script left
    done_more line reply left mid new next are first second is = record {
      done = are.done ++ line ∷ [];
      replies = are.replies ++ reply ∷ [];
      state = next;
      cut = are.cut ∙ sym (append_assoc are.done (line ∷ []) left);
      steps = steps_more (MayHaveLeft d old new) mode s are.state next are.done are.replies line reply
          (steps_weaker (MayHaveLeft d old mid) (MayHaveLeft d old new) (λ image may tells. second.stops.keeps (d.moment old) image first.stops.later (may tells)) mode s are.state are.done are.replies are.steps)
          (λ tells. law.earlier new (d.moment old) (d.moment new) next.image (omega (arith, first.stops.later, second.stops.later))
          (law.leaves_what_is_read new (second.form.tells_stays ∙ first.form.tells_stays ∙ tells) next.image is.holds))
          is.step;
      holds = is.holds;
      opens = is.opens;
      kept = λ keep new_map image left.
          let front = each_front (MayHaveLeft d old mid) mode keeps s are.state are.done are.replies line reply are.steps keep in
          let last = each_last (MayHaveLeft d old mid) mode keeps s are.state are.done are.replies line reply are.steps keep in
          let new_now = steps_new (MayHaveLeft d old mid) mode s are.state are.done are.replies are.steps new_map in
          ⊎_elim (λ was. are.kept front new_map image was)
          (λ since. subst (λ t. HasTree mode.kind t image) (steps_keep (MayHaveLeft d old mid) mode s are.state are.done are.replies are.steps front) (is.kept last new_now image since))
          (second.stops.before (d.moment old) image first.stops.later left);
      still = λ leave image left.
          let front = each_front (MayHaveLeft d old mid) mode leaves s are.state are.done are.replies line reply are.steps leave in
          let last = each_last (MayHaveLeft d old mid) mode leaves s are.state are.done are.replies line reply are.steps leave in
          ⊎_elim (λ was. are.still front image was)
          (λ since. is.still last image since ∙ ap (λ (x : State). x.image) (steps_leave (MayHaveLeft d old mid) mode s are.state are.done are.replies are.steps front))
          (second.stops.before (d.moment old) image first.stops.later left);
      during = λ safe image left.
          let May = MayHaveLeft d old mid in
          let Might = MayHaveLeft d old new in
          let long = steps_long May mode s are.state are.done are.replies are.steps in
          let Before = StepsTo mode s are.done are.replies in
          let After = StepsTo mode s (are.done ++ line ∷ []) (are.replies ++ reply ∷ []) in
          let all = steps_to_all May mode s are.state are.done are.replies long are.steps in
          let steps = steps_more (λ between. Unit {0}) mode s are.state next are.done are.replies line reply (steps_any May mode s are.state are.done are.replies are.steps) tt is.step in
          let last = steps_to_all (λ between. Unit {0}) mode s next (are.done ++ line ∷ []) (are.replies ++ reply ∷ [])
          (steps_long (λ between. Unit {0}) mode s next (are.done ++ line ∷ []) (are.replies ++ reply ∷ []) steps) steps in
          let l = length-append are.replies (reply ∷ []) in
          between_last Before After (length are.replies) (length (are.replies ++ reply ∷ [])) mode.kind image (omega (arith, l))
          (λ n x low to. steps_to_more mode s are.done are.replies long n low x (line ∷ []) (reply ∷ []) to) are.state next all last
          (⊎_elim (λ was. inl (are.during safe image was))
          (λ since. inr (as_safe (HasTreeBeforeOrAfter mode.kind are.state (tree_in next)) (LeftBy mode.kind are.state (is_error reply) (command_of line)) image mode.safe safe (is.spared image since)))
          (second.stops.before (d.moment old) image first.stops.later left));
      along = λ plain image left.
          let long = steps_long (MayHaveLeft d old mid) mode s are.state are.done are.replies are.steps in
          let Before = StepsTo mode s are.done are.replies in
          let After = StepsTo mode s (are.done ++ line ∷ []) (are.replies ++ reply ∷ []) in
          let all = steps_to_all (MayHaveLeft d old mid) mode s are.state are.done are.replies long are.steps in
          ⊎_elim (λ was. left_more Before After by are.state are.done are.replies long all image (same_by are.state are.opens image)
          (λ n x low to. steps_to_more mode s are.done are.replies long n low x (line ∷ []) (reply ∷ []) to) line reply next (are.along plain image was))
          (λ since. left_last Before After by are.state are.done are.replies long all image (same_by are.state are.opens image)
          (λ n x low to. steps_to_more mode s are.done are.replies long n low x (line ∷ []) (reply ∷ []) to) line reply next
          (as_plain (HasTreeBeforeOrAfter mode.kind are.state (tree_in next)) (LeftBy mode.kind are.state (is_error reply) (command_of line)) image mode.safe plain (is.spared image since)))
          (second.stops.before (d.moment old) image first.stops.later left);
    }

    -- the image as it opened might have been left
    pub start_left : (new : D) → GoesOn d old new → MayHaveLeft d old new s.image
    start_left new goes tells = goes.stops.keeps (d.moment old) s.image (omega arith) (law.leaves_what_is_read old tells s.image told)

    -- all lines were done
    pub served_all : (v : Volume) (tally : Tally) (before after : Option (List ℕ)) (new : D) → HasServed d old new mode s script [] v tally before after → GoesOn d old new
        → d.pending new ≡ false → ServesAs d old new mode s script before after (Ok tally)
    served_all v tally before after new has goes settled =
        let are = has.lines in
        let all : are.done ≡ commands_in script = sym (are.cut ∙ append-nil are.done) in (
          text_of are.replies,
          has.wrote,
          record {
            end = are.state;
            run = record {
              start = start_left new goes;
              replies = are.replies;
              steps = subst (λ (lines : List (List ℕ)). Steps (MayHaveLeft d old new) mode s lines are.replies are.state) all are.steps;
              told = refl;
            };
            refused_is = refused_counted are.replies tally has.counted;
            holds = are.holds;
            settled = settled;
            stops = λ was_quiet. record {
              idle = λ new_map fresh demo keep image left.
                  let tree = are.kept (subst (λ (lines : List (List ℕ)). all_keep_tree lines are.replies ≡ true) (sym all) keep) new_map image left in
                  record { view = tree.view; opens = tree.opens; tree = tree.tree };
              last = λ new_map next image left. has_tree mode.kind are.state image are.opens (law.settled new settled are.state.image are.holds image left);
              still = λ fresh demo leave image left.
                  are.still (subst (λ (lines : List (List ℕ)). all_leave_image lines are.replies ≡ true) (sym all) leave) image left;
              rest = λ next image left. law.settled new settled are.state.image are.holds image left;
              along = λ plain fresh. along_done new [] are plain;
              ending = λ plain image left. ends_same mode.kind are.state are.opens (slice_get (commands_in script) (length are.replies)) image (law.settled new settled are.state.image are.holds image left);
              during = λ safe fresh image left. tree_between mode s (commands_in script) are.replies image (during_done new [] are safe image left);
              exit = λ safe image left. tree_around mode s (commands_in script) are.replies image are.state (whole_replies (length (text_of are.replies)) are.replies) (whole_most (length (text_of are.replies)) are.replies)
                  (done_to (MayHaveLeft d old new) are.done are.replies are.state [] are.cut are.steps)
                  (around_before mode are.state (slice_get (commands_in script) (length are.replies)) image (has_tree mode.kind are.state image are.opens (law.settled new settled are.state.image are.holds image left)));
            };
          },
          has.counted,
        )

    -- The last line was done, and its reply written in part.
    cut_off : (line : List ℕ) (left : List (List ℕ)) (v : Volume) (so_far : Tally) (before between after : Option (List ℕ)) (mid new : D) (fault : LineFault)
        → (has : HasServed d old mid mode s script (line ∷ left) v so_far before between) → GoesOn d old mid → GoesOn d mid new
        → ((fault ≡ LineFault.Disk → ⊥) → d.pending new ≡ false)
        → IsCutOff d mid new mode has.lines.state line between after fault → ServesAs d old new mode s script before after (Err fault)
    unfolding done_more
    cut_off line left v so_far before between after mid new fault has first second settled cut =
        let are = done_more line cut.reply left mid new cut.next has.lines first second cut.done in
        let was = has.lines in
        let long : length are.replies ≡ length are.done = steps_long (MayHaveLeft d old new) mode s are.state are.done are.replies are.steps in
        let front : take (length are.replies) (commands_in script) ≡ are.done =
        ap (take (length are.replies)) are.cut ∙ take_at are.done left (length are.replies) (sym long) in
        let begun : List ℕ → List ℕ = λ (l : List ℕ). reply_begun mode are.state (command_of l) in
        let next : Option (List ℕ) = slice_get (commands_in script) (length are.replies) in
        let rest = begun_front are.replies next begun in
        let part = front_part cut.part.0 cut.reply rest.0 in
        let text = text_of was.replies ++ take cut.part.0 cut.reply in
        let whole : text_begun None are.replies next begun ≡ text_of was.replies ++ (cut.reply ++ rest.0) =
        rest.1 ∙ ap (λ (t : List ℕ). t ++ rest.0) (one_more was.replies cut.reply) ∙ append_assoc (text_of was.replies) cut.reply rest.0 in
        let is : text ≡ take (length (text_of was.replies) + part.0) (text_begun None are.replies next begun) =
        ap (λ (t : List ℕ). text_of was.replies ++ t) part.1 ∙ sym (take-append-add (text_of was.replies) (cut.reply ++ rest.0) part.0)
        ∙ ap (take (length (text_of was.replies) + part.0)) (sym whole) in
        let now_quiet : d.pending new ≡ false = settled cut.no_disk in (
          text,
          wrote_both before between after (text_of was.replies) (take cut.part.0 cut.reply) has.wrote cut.part.1,
          record {
            end = are.state;
            ended = record {
              start = start_left new (goes_then law first second);
              replies = are.replies;
              steps = subst (λ (lines : List (List ℕ)). Steps (MayHaveLeft d old new) mode s lines are.replies are.state) (sym front) are.steps;
              told = (length (text_of was.replies) + part.0, is);
            };
            whole = λ demo disk. absurd (cut.no_disk (is_disk fault disk));
            holds = λ spares. are.holds;
            settled = λ spares. inl now_quiet;
            spared = λ plain image here. ends_same mode.kind are.state are.opens next image (one_told (sym here ∙ are.holds));
            saved = λ safe image here. left_unbegun (λ refused line. Safely line are.state) are.state next image (one_told (sym here ∙ are.holds))
                (λ line. inl (has_tree mode.kind are.state image are.opens (one_told (sym here ∙ are.holds))));
            stops = λ was_quiet. record {
              idle = λ new_map fresh demo keep image left'.
                  let done = each_done (MayHaveLeft d old new) mode keeps s are.state are.done are.replies left are.steps
                  (subst (λ (lines : List (List ℕ)). all_keep_tree lines are.replies ≡ true) are.cut keep) in
                  let tree = are.kept done new_map image left' in
                  record { view = tree.view; opens = tree.opens; tree = tree.tree };
              last = λ new_map next image left'. has_tree mode.kind are.state image are.opens (law.settled new now_quiet are.state.image are.holds image left');
              still = λ fresh demo leave image left'.
                  are.still (each_done (MayHaveLeft d old new) mode leaves s are.state are.done are.replies left are.steps
                  (subst (λ (lines : List (List ℕ)). all_leave_image lines are.replies ≡ true) are.cut leave)) image left';
              rest = λ next image left'. law.settled new now_quiet are.state.image are.holds image left';
              along = λ plain fresh. along_done new left are plain;
              ending = λ plain image left'. ends_same mode.kind are.state are.opens next image (law.settled new now_quiet are.state.image are.holds image left');
              during = λ safe fresh image left'. tree_between mode s (commands_in script) are.replies image (during_done new left are safe image left');
              exit = λ safe image left'. tree_around mode s (commands_in script) are.replies image are.state (whole_replies (length text) are.replies) (whole_most (length text) are.replies)
                  (done_to (MayHaveLeft d old new) are.done are.replies are.state left are.cut are.steps)
                  (around_before mode are.state next image (has_tree mode.kind are.state image are.opens (law.settled new now_quiet are.state.image are.holds image left')));
            };
          },
        )

    -- A line broke off.
    broke_off : (line : List ℕ) (left : List (List ℕ)) (v : Volume) (so_far : Tally) (before between after : Option (List ℕ)) (mid new : D) (fault : LineFault)
        → (has : HasServed d old mid mode s script (line ∷ left) v so_far before between) → GoesOn d old mid → GoesOn d mid new
        → ((fault ≡ LineFault.Disk → ⊥) → d.pending new ≡ false)
        → BreaksOff d mid new mode has.lines.state line between after fault → ServesAs d old new mode s script before after (Err fault)
    broke_off line left v so_far before between after mid new fault has first second settled broke =
        let are = has.lines in
        let May = MayHaveLeft d old mid in
        let long : length are.replies ≡ length are.done = steps_long May mode s are.state are.done are.replies are.steps in
        let front : take (length are.replies) (commands_in script) ≡ are.done =
        ap (take (length are.replies)) are.cut ∙ take_at are.done (line ∷ left) (length are.replies) (sym long) in
        let next : slice_get (commands_in script) (length are.replies) ≡ Some line =
        ap (λ (lines : List (List ℕ)). slice_get lines (length are.replies)) are.cut ∙ get_next are.done line left (length are.replies) long in
        let begun : List ℕ → List ℕ = λ (l : List ℕ). reply_begun mode are.state (command_of l) in
        let text = text_of are.replies ++ take broke.part.0 (begun line) in
        let is : text ≡ take (length (text_of are.replies) + broke.part.0) (text_begun None are.replies (slice_get (commands_in script) (length are.replies)) begun) =
        sym (take-append-add (text_of are.replies) (begun line) broke.part.0)
        ∙ ap (λ (o : Option (List ℕ)). take (length (text_of are.replies) + broke.part.0) (text_begun None are.replies o begun)) (sym next) in (
          text,
          wrote_both before between after (text_of are.replies) (take broke.part.0 (begun line)) has.wrote broke.part.1,
          record {
            end = are.state;
            ended = record {
              start = start_left new (goes_then law first second);
              replies = are.replies;
              steps = subst (λ (lines : List (List ℕ)). Steps (MayHaveLeft d old new) mode s lines are.replies are.state) (sym front)
                  (steps_weaker May (MayHaveLeft d old new) (λ image may tells. second.stops.keeps (d.moment old) image first.stops.later (may tells)) mode s are.state are.done are.replies are.steps);
              told = (length (text_of are.replies) + broke.part.0, is);
            };
            whole = λ demo disk. whole_all are.replies (take broke.part.0 (begun line));
            holds = λ spares. broke.holds (not_disk fault spares);
            settled = λ spares. inl (settled (not_disk fault spares));
            spared = λ plain image here. subst (λ (o : Option (List ℕ)). LeftIn (by are.state) are.state o None image) (sym next) (as_plain (Safely line are.state) (Plainly line are.state) image mode.safe plain (broke.exit image here));
            saved = λ safe image here. subst (λ (o : Option (List ℕ)). LeftIn (λ refused l. Safely l are.state) are.state o None image) (sym next) (as_safe (Safely line are.state) (Plainly line are.state) image mode.safe safe (broke.exit image here));
            stops = λ was_quiet. record {
              idle = λ new_map fresh demo keep image left'.
                  let all = subst (λ (lines : List (List ℕ)). all_keep_tree lines are.replies ≡ true) are.cut keep in
                  let done = each_done May mode keeps s are.state are.done are.replies (line ∷ left) are.steps all in
                  let new_now = steps_new May mode s are.state are.done are.replies are.steps new_map in
                  let tree : HasTree mode.kind (tree_in s) image =
                  ⊎_elim (λ was. are.kept done new_map image was)
                  (λ since. subst (λ t. HasTree mode.kind t image) (steps_keep May mode s are.state are.done are.replies are.steps done)
                  (broke.kept (each_next May mode keeps s are.state are.done are.replies line left are.steps all) new_now image since))
                  (second.stops.before (d.moment old) image first.stops.later left') in
                  record { view = tree.view; opens = tree.opens; tree = tree.tree };
              last = λ new_map keep image left'.
                  let kept = subst (λ (o : Option (List ℕ)). is_kept_by_next (λ l. keeps_tree_or false (command_of l)) o ≡ true) next keep in
                  broke.kept kept (steps_new May mode s are.state are.done are.replies are.steps new_map) image
                  (law.earlier new (d.moment mid) (d.moment new) image second.stops.later left');
              still = λ fresh demo leave image left'.
                  let all = subst (λ (lines : List (List ℕ)). all_leave_image lines are.replies ≡ true) are.cut leave in
                  let done = each_done May mode leaves s are.state are.done are.replies (line ∷ left) are.steps all in
                  ⊎_elim (λ was. are.still done image was)
                  (λ since. broke.still (each_next May mode leaves s are.state are.done are.replies line left are.steps all) image since
                  ∙ ap (λ (x : State). x.image) (steps_leave May mode s are.state are.done are.replies are.steps done))
                  (second.stops.before (d.moment old) image first.stops.later left');
              rest = λ leave image left'.
                  broke.still (subst (λ (o : Option (List ℕ)). is_kept_by_next (λ l. leaves_image_or false (command_of l)) o ≡ true) next leave) image
                  (law.earlier new (d.moment mid) (d.moment new) image second.stops.later left');
              along = λ plain fresh image left'.
                  let Before = StepsTo mode s are.done are.replies in
                  let After = StepsTo mode s (are.done ++ line ∷ left) are.replies in
                  let all = steps_to_all May mode s are.state are.done are.replies long are.steps in
                  subst (λ (lines : List (List ℕ)). IsLeftInLine (StepsTo mode s lines are.replies) by lines are.replies image) (sym are.cut)
                  (⊎_elim (λ was. left_front Before After by are.state are.done are.replies long all image (same_by are.state are.opens image)
                  (λ n x low to. steps_longer mode s are.done are.replies long n low x (line ∷ left) to) (line ∷ left) (are.along plain image was))
                  (λ since. left_next Before After by are.state are.done are.replies long all image (same_by are.state are.opens image)
                  (λ n x low to. steps_longer mode s are.done are.replies long n low x (line ∷ left) to) line left (as_plain (Safely line are.state) (Plainly line are.state) image mode.safe plain (broke.spared image since)))
                  (second.stops.before (d.moment old) image first.stops.later left'));
              ending = λ plain image left'.
                  subst (λ (o : Option (List ℕ)). LeftIn (by are.state) are.state o None image) (sym next)
                  (as_plain (Safely line are.state) (Plainly line are.state) image mode.safe plain (broke.spared image (law.earlier new (d.moment mid) (d.moment new) image second.stops.later left')));
              during = λ safe fresh image left'.
                  ⊎_elim (λ was. tree_between mode s (commands_in script) are.replies image (during_done mid (line ∷ left) are safe image was))
                  (λ since. tree_around mode s (commands_in script) are.replies image are.state 0 (omega arith) (done_to May are.done are.replies are.state (line ∷ left) are.cut are.steps)
                  (subst (λ (o : Option (List ℕ)). HasTreeAround mode are.state o image) (sym next) (as_safe (Safely line are.state) (Plainly line are.state) image mode.safe safe (broke.spared image since))))
                  (second.stops.before (d.moment old) image first.stops.later left');
              exit = λ safe image left'.
                  tree_around mode s (commands_in script) are.replies image are.state (whole_replies (length text) are.replies) (whole_most (length text) are.replies)
                  (done_to May are.done are.replies are.state (line ∷ left) are.cut are.steps)
                  (subst (λ (o : Option (List ℕ)). HasTreeAround mode are.state o image) (sym next)
                  (as_safe (Safely line are.state) (Plainly line are.state) image mode.safe safe (broke.spared image (law.earlier new (d.moment mid) (d.moment new) image second.stops.later left'))));
            };
          },
        )

    pub served_part : (line : List ℕ) (left : List (List ℕ)) (v v' : Volume) (so_far : Tally) (before between after : Option (List ℕ)) (mid new : D) (fault : LineFault)
        → (has : HasServed d old mid mode s script (line ∷ left) v so_far before between) → GoesOn d old mid → GoesOn d mid new
        → ((fault ≡ LineFault.Disk → ⊥) → d.pending new ≡ false)
        → LineEnds d mid new mode has.lines.state v' line between after (Err fault) → ServesAs d old new mode s script before after (Err fault)
    served_part line left v v' so_far before between after mid new fault has first second settled ends =
        ⊎_elim (cut_off line left v so_far before between after mid new fault has first second settled)
        (broke_off line left v so_far before between after mid new fault has first second settled) ends

    pub served_more : (line : List ℕ) (left : List (List ℕ)) (v v' : Volume) (refused : Bool) (so_far now : Tally) (before between after : Option (List ℕ)) (mid new : D)
        → (has : HasServed d old mid mode s script (line ∷ left) v so_far before between) → GoesOn d old mid → GoesOn d mid new
        → IsAnswered d mid new mode has.lines.state v' line between after refused → now.replies ≡ so_far.replies + 1 → now.refused ≡ so_far.refused + cond refused 1 0
        → HasServed d old new mode s script left v' now before after
    unfolding done_more
    served_more line left v v' refused so_far now before between after mid new has first second is more errors = record {
      lines = done_more line is.reply left mid new is.next has.lines first second is.done;
      counted = one_counted has.lines.replies is.reply refused so_far now has.counted is.refused_is more errors;
      wrote = subst (Wrote before after) (sym (one_more has.lines.replies is.reply)) (wrote_both before between after (text_of has.lines.replies) is.reply has.wrote is.wrote);
      parts = is.parts;
    }
