-- Serving line after line, if lines may move files of a host.
use Rattle.std.proofs.Common.{◌≡◌, ◌⊎◌, inl, inr, ℕ, ◌+◌, Bool, true, false, List, [], ◌∷◌, ◌++◌, ◌≤◌, take, Option, Some, Result, Ok, Err, cond, sym, ap, subst, ◌∙◌, arith, append_assoc}
use Rattle.std.specs.List.{list_all}
use Rattle.fc_device.specs.declared.disk.Disk.{Ghosts}
use Rattle.fc_device.specs.declared.streams.Sink.{Ghosts as Sinks}
use Rattle.fc_device.proofs.DiskLaws.{Laws}
use Rattle.fc_host.specs.declared.host.Host.{Ghosts as Hosts}
use Rattle.fc_host.specs.Answers.{all_asked}
use Rattle.fc_host.specs.Asked.{Asked}
use Rattle.fc_host.specs.Files.{Files}
use Rattle.fc_image.specs.Stays.{OpensAs}
use Rattle.fc_image.specs.effects.Effect.{State}
use Rattle.fc_runs.specs.Early.{host_reply_begun}
use Rattle.fc_runs.specs.HostAsks.{LineAsks, LinesAsk}
use Rattle.fc_runs.specs.HostRun.{Reading}
use Rattle.fc_script.specs.HostLines.{host_line_of}
use Rattle.fc_runs.specs.Meanwhile.{GoesOn}
use Rattle.fc_runs.specs.Promises.{cuts_replies, spares_disk}
use Rattle.fc_runs.specs.Run.{Mode, commands_in, text_of}
use Rattle.fc_runs.specs.Stops.{host_leaves_image}
use Rattle.fc_runs.proofs.HostServingLemmas.{moved_all, moved_broke, moved_cut, moved_first, moved_next}
use Rattle.fc_runs.proofs.HostStepLemmas.{asked_more}
use Rattle.fc_runs.proofs.TextLemmas.{one_more}
use Rattle.std.proofs.lemmas.Bool.{and_parts as both_true}
use Rattle.fc_tree.specs.Parts.{ArePartsOf}
use Rattle.fc_volume.specs.Volume.{Volume, parts_of}
use Rattle.fc_shell.specs.declared.moving.MoveFault.{MoveFault}
use Rattle.fc_shell.specs.declared.tally.Tally.{Tally}
use Rattle.fc_shell.specs.Counted.{AreCounted, has_refused}
use Rattle.fc_shell.specs.Moving.{AreCaused, HasMoved, HostSpares, IsServed, LineMoves, LinesMove, move_cause}
use Rattle.fc_shell.specs.Writing.{Wrote}
use Rattle.fc_shell.proofs.ServingLemmas.{none_counted, one_counted, refused_counted}
use Rattle.fc_shell.proofs.WritingLemmas.{wrote_both, wrote_nothing}

-- ---- lines that write nothing

pub host_spares_first : (ro now : Bool) (line : List ℕ) (left : List (List ℕ)) → now ≡ ro → HostSpares ro (line ∷ left) → (now ≡ true) ⊎ (host_leaves_image false (host_line_of line) ≡ true)
host_spares_first ro now line left same (inl locked) = inl (same ∙ locked)
host_spares_first ro now line left same (inr reads) =
    inr (both_true (host_leaves_image false (host_line_of line)) (list_all (λ line. host_leaves_image false (host_line_of line)) left) reads).0

pub host_spares_rest : (ro : Bool) (line : List ℕ) (left : List (List ℕ)) → HostSpares ro (line ∷ left) → HostSpares ro left
host_spares_rest ro line left (inl locked) = inl locked
host_spares_rest ro line left (inr reads) =
    inr (both_true (host_leaves_image false (host_line_of line)) (list_all (λ line. host_leaves_image false (host_line_of line)) left) reads).1

-- ---- what lines asked

-- what each of these lines asked
abbrev pub AllAsk : Reading → List (List ℕ) → List (List Asked) → Type 0
AllAsk read [] [] = Unit {0}
AllAsk read [] (asked ∷ asks) = ⊥
AllAsk read (line ∷ lines) [] = ⊥
AllAsk read (line ∷ lines) (asked ∷ asks) = LineAsks (read line) asked × AllAsk read lines asks

pub all_ask_more : (read : Reading) (done : List (List ℕ)) (asks : List (List Asked)) (line : List ℕ) (more : List Asked) → AllAsk read done asks → LineAsks (read line) more
    → AllAsk read (done ++ line ∷ []) (asks ++ more ∷ [])
all_ask_more read [] [] line more all is = (is, tt)
all_ask_more read [] (a ∷ asks) line more all is = absurd all
all_ask_more read (l ∷ done) [] line more all is = absurd all
all_ask_more read (l ∷ done) (a ∷ asks) line more all is = (all.0, all_ask_more read done asks line more all.1 is)

pub all_ask_lines : (read : Reading) (done left : List (List ℕ)) (asks : List (List Asked)) → AllAsk read done asks → LinesAsk read (done ++ left) asks
all_ask_lines read [] left [] all = tt
all_ask_lines read [] left (a ∷ asks) all = absurd all
all_ask_lines read (l ∷ done) left [] all = absurd all
all_ask_lines read (l ∷ done) left (a ∷ asks) all = (all.0, all_ask_lines read done left asks all.1)

pub all_asked_more : (old mid now : List Asked) (asks : List (List Asked)) (more : List Asked) → mid ≡ old ++ all_asked asks → now ≡ mid ++ more → now ≡ old ++ all_asked (asks ++ more ∷ [])
all_asked_more old mid now asks more was is =
    is ∙ ap (λ (l : List Asked). l ++ more) was ∙ append_assoc old (all_asked asks) more ∙ ap (λ (l : List Asked). old ++ l) (sym (asked_more asks more))

pub asked_then : (old mid now asked more : List Asked) → mid ≡ old ++ asked → now ≡ mid ++ more → now ≡ old ++ (asked ++ more)
asked_then old mid now asked more was is = is ∙ ap (λ (l : List Asked). l ++ more) was ∙ append_assoc old asked more

-- ---- faults

pub no_disk : (fault : MoveFault) → cuts_replies (move_cause fault) ≡ true → fault ≡ MoveFault.Disk → ⊥
no_disk fault cuts is =
    let clash : false ≡ true = sym (ap (λ (f : MoveFault). cuts_replies (move_cause f)) is) ∙ cuts in
    cc

pub not_disk : (fault : MoveFault) → spares_disk (move_cause fault) ≡ true → fault ≡ MoveFault.Disk → ⊥
not_disk fault spares is =
    let clash : false ≡ true = sym (ap (λ (f : MoveFault). spares_disk (move_cause f)) is) ∙ spares in
    cc

-- ---- lines in turn

module _ {D : Type 0} {d : Ghosts D} (law : Laws d) (mode : Mode) (s : State) (files : Option Files) (script : List ℕ) (old : D) (told : d.bytes old ≡ Some s.image)
    (quiet : d.pending old ≡ false) (opens : OpensAs s.image mode.kind s.view) where
  pub host_start : (left : List (List ℕ)) (v : Volume) (tally : Tally) (before : Option (List ℕ)) → left ≡ commands_in script → ArePartsOf (parts_of v) s.view → tally.replies ≡ 0 → tally.refused ≡ 0
      → HasMoved d old old mode s script left v tally before before [] files files
  host_start left v tally before all parts replies refused =
      let first = moved_first law host_line_of mode s files script old told quiet opens left all in
      record {
        lines = first.0;
        counted = subst (λ (rs : List (List ℕ)). AreCounted rs tally) (sym first.1) (none_counted tally replies refused);
        wrote = subst (λ (rs : List (List ℕ)). Wrote before before (text_of rs)) (sym first.1) (wrote_nothing before);
        parts = subst (λ (x : State). ArePartsOf (parts_of v) x.view) (sym first.2) parts;
      }

  pub host_more : (line : List ℕ) (left : List (List ℕ)) (v v' : Volume) (refused : Bool) (so_far now : Tally) (before between after : Option (List ℕ)) (mid new : D) (asked more : List Asked) (held later : Option Files)
      → (has : HasMoved d old mid mode s script (line ∷ left) v so_far before between asked files held) → GoesOn d old mid → GoesOn d mid new
      → IsServed d mid new mode has.lines.state v' (host_line_of line) between after more held later refused → now.replies ≡ so_far.replies + 1 → now.refused ≡ so_far.refused + cond refused 1 0
      → HasMoved d old new mode s script left v' now before after (asked ++ more) files later
  host_more line left v v' refused so_far now before between after mid new asked more held later has first second is count errors =
      let next = moved_next law host_line_of mode s files script old told quiet opens line is.reply left mid new is.next held later asked more has.lines first second is.moved in
      record {
        lines = next.0;
        counted = subst (λ (rs : List (List ℕ)). AreCounted rs now) (sym next.1) (one_counted has.lines.replies is.reply refused so_far now has.counted is.refused_is count errors);
        wrote = subst (λ (rs : List (List ℕ)). Wrote before after (text_of rs)) (sym next.1)
            (subst (Wrote before after) (sym (one_more has.lines.replies is.reply)) (wrote_both before between after (text_of has.lines.replies) is.reply has.wrote is.wrote));
        parts = subst (λ (x : State). ArePartsOf (parts_of v') x.view) (sym next.2) is.parts;
      }

  pub host_all : (v : Volume) (tally : Tally) (before after : Option (List ℕ)) (new : D) (asked : List Asked) (held : Option Files)
      → HasMoved d old new mode s script [] v tally before after asked files held → GoesOn d old new → d.pending new ≡ false
      → LinesMove d old new mode s script before after asked files held (Ok tally)
  host_all v tally before after new asked held has goes settled = (
    text_of has.lines.replies,
    has.wrote,
    moved_all law host_line_of mode s files script old told quiet opens new held asked (has_refused tally) has.lines goes settled (refused_counted has.lines.replies tally has.counted),
  )

  pub host_part : (line : List ℕ) (left : List (List ℕ)) (v v' : Volume) (so_far : Tally) (before between after : Option (List ℕ)) (mid new : D) (fault : MoveFault) (asked more : List Asked) (held later : Option Files)
      → (has : HasMoved d old mid mode s script (line ∷ left) v so_far before between asked files held) → GoesOn d old mid → GoesOn d mid new
      → ((fault ≡ MoveFault.Disk → ⊥) → d.pending new ≡ false)
      → LineMoves d mid new mode has.lines.state v' (host_line_of line) between after more held later (Err fault)
      → LinesMove d old new mode s script before after (asked ++ more) files later (Err fault)
  host_part line left v v' so_far before between after mid new fault asked more held later has first second settled (inl x) = (
    text_of has.lines.replies ++ take x.part.0 x.reply,
    wrote_both before between after (text_of has.lines.replies) (take x.part.0 x.reply) has.wrote x.part.1,
    moved_cut law host_line_of mode s files script old told quiet opens line x.reply left mid new x.next held later asked more x.part.0 (move_cause fault) has.lines first second
        (settled (no_disk fault x.cuts)) x.cuts x.moved,
  )
  host_part line left v v' so_far before between after mid new fault asked more held later has first second settled (inr x) = (
    text_of has.lines.replies ++ take x.part.0 (host_reply_begun mode has.lines.state (host_line_of line)),
    wrote_both before between after (text_of has.lines.replies) (take x.part.0 (host_reply_begun mode has.lines.state (host_line_of line))) has.wrote x.part.1,
    moved_broke law host_line_of mode s files script old told quiet opens line left mid new held later asked more x.part.0 (move_cause fault) has.lines first second
        (λ spares. settled (not_disk fault spares)) x.broke,
  )

-- ---- causes over lines

pub one_move : {T : Type 0} (r : Result T MoveFault) (e f : MoveFault) → r ≡ Err e → r ≡ Err f → e ≡ f
one_move r e f is other = cc

pub caused_on : {D K H S T : Type 0} (d : Ghosts D) (k : Sinks K) (h : Hosts H) (old mid new : D) (first before after : K) (host between left : H) (fault : MoveFault) (result : Result S MoveFault) (other : Result T MoveFault)
    → d.faults old ≤ d.faults mid → k.faults first ≤ k.faults before → h.faults host ≤ h.faults between → result ≡ Err fault → other ≡ Err fault
    → AreCaused d k h mid new before after between left result → AreCaused d k h old new first after host left other
caused_on d k h old mid new first before after host between left fault result other disk out own was same caused = record {
  later = omega (arith, out, caused.later);
  host_later = omega (arith, own, caused.host_later);
  disk = λ is. let rose = caused.disk (was ∙ ap Err (one_move other fault MoveFault.Disk same is)) in omega (arith, disk, rose);
  out = λ is. let rose = caused.out (was ∙ ap Err (one_move other fault MoveFault.Out same is)) in omega (arith, out, rose);
  host = λ is. let rose = caused.host (was ∙ ap Err (one_move other fault MoveFault.Host same is)) in omega (arith, own, rose);
}

pub caused_all : {D K H T : Type 0} (d : Ghosts D) (k : Sinks K) (h : Hosts H) (old new : D) (before after : K) (host left : H) (value : T) → k.faults before ≤ k.faults after → h.faults host ≤ h.faults left
    → AreCaused d k h old new before after host left (Ok value)
caused_all d k h old new before after host left value later own =
    record { later = later; host_later = own; disk = λ is. absurd (cc); out = λ is. absurd (cc); host = λ is. absurd (cc) }
