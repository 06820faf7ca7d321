use Rattle.std.proofs.Common.{◌≡◌, List, [], ℕ, Some, Bool, sym, ap, subst, ◌∙◌, true, false}
use Rattle.std.proofs.lemmas.List.{append-nil}
use Rattle.fc_device.proofs.DiskLaws.{laws}
use Rattle.fc_tree.proofs.WalkedLemmas.{sound_law}
use Rattle.fc_image.specs.effects.Effect.{State}
use Rattle.fc_shell.specs.declared.ending.End.{End}
use Rattle.fc_shell.specs.Ends.{is_late, move_end}
use Rattle.fc_shell.specs.HostPromise.{MovesOver}
use Rattle.fc_shell.specs.Modes.{is_unsuited, mode_of}
use Rattle.fc_shell.proofs.HostKeptLemmas.{host_idle}
use Rattle.fc_shell.proofs.HostPromiseLemmas.{disk_move, host_move, late_move, moves_end, moves_suited, moves_unsuited, out_move, unsafe_move}
use Rattle.fc_shell.proofs.PromiseLemmas.{none_begun, reads_unwritten}
use Rattle.fc_shell.proofs.WritingLemmas.{wrote_nothing}
use Rattle.fc_shell.proofs.hosted.answer_lines_with.Goals as goal

pub returns-clause-promise : goal.returns-clause-promise
returns-clause-promise g c image told kind view opens parts =
    let s : State = record { image = image; view = view } in
    let mode = mode_of kind c.args.volume.now.read_only c.args.safe in
    let is : is_unsuited c.args.safe view ≡ false = sym (c.is_unsuited.ensures.exactly view (sound_law image kind view opens) parts) ∙ c.if-is_unsuited.false in
    let old = c.args.disk.now in
    let new = c.serve_with.new.disk in
    let files = g.H.Host.files in
    let served = c.serve_with.ensures.served image told kind view opens parts in
    let ends = moves_end g.D.Disk old new mode s c.args.script.now (g.K.Sink.taken c.args.out.now) (g.K.Sink.taken c.serve_with.new.out) served.0 (files c.args.host.now) (files c.serve_with.new.host) c.serve_with.result served.2 in (
      served.0,
      served.1,
      (
        ends.0,
        ends.1,
        moves_suited g.D.Disk old new mode s (files c.args.host.now) (files c.serve_with.new.host) served.0 c.args.script.now ends.0 (is_unsuited c.args.safe view) c.end_of_moves.result is
            (subst (λ (end : End). MovesOver g.D.Disk old new mode false s (files c.args.host.now) (files c.serve_with.new.host) served.0 c.args.script.now ends.0 end) (sym c.end_of_moves.ensures) ends.2),
      ),
    )

pub returns-clause-keeps : goal.returns-clause-keeps
returns-clause-keeps g c =
    let goes = c.serve_with.ensures.goes in
    let caused = c.serve_with.ensures.caused in
    let is = c.end_of_moves.ensures in
    record {
      asked_stays = goes.form.asked_stays;
      goes = goes.stops;
      faults = goes.faults;
      not_safe = λ e. absurd (unsafe_move c.serve_with.result (sym is ∙ e));
      disk_fault = λ e. caused.disk (disk_move c.serve_with.result (sym is ∙ e));
      out_fault = λ e. caused.out (out_move c.serve_with.result (sym is ∙ e));
      settled = λ never. c.serve_with.ensures.settled (λ e. never (is ∙ ap move_end e));
      unwritten = λ reads. reads_unwritten (c.serve_with.ensures.reads reads);
      late = ap is_late is ∙ late_move c.serve_with.result;
    }

same_script : (a b : List ℕ) → Some a ≡ Some b → a ≡ b
same_script a b e = cc

pub returns-clause-host : goal.returns-clause-host
returns-clause-host g c =
    let asks = c.serve_with.ensures.asks in
    let caused = c.serve_with.ensures.caused in
    record {
      asked = asks.0;
      asks = asks.1;
      script = c.args.script.now;
      known = λ text is. same_script c.args.script.now text is;
      lines = asks.2;
      later = caused.host_later;
      fault = λ e. caused.host (host_move c.serve_with.result (sym c.end_of_moves.ensures ∙ e));
    }

-- ---- the safe mode doesn't serve the volume

pub returns-then-is_unsuited-clause-promise : goal.returns-then-is_unsuited-clause-promise
returns-then-is_unsuited-clause-promise g c image told kind view opens parts =
    let s : State = record { image = image; view = view } in
    let is : is_unsuited c.args.safe view ≡ true = sym (c.is_unsuited.ensures.exactly view (sound_law image kind view opens) parts) ∙ c.if-is_unsuited.true in (
      [],
      sym (append-nil (g.H.Host.asked c.args.host.now)),
      (
        [],
        wrote_nothing (g.K.Sink.taken c.args.out.now),
        moves_unsuited (laws g.met.D.Disk) c.args.disk.now (mode_of kind c.args.volume.now.read_only c.args.safe) s (g.H.Host.files c.args.host.now) c.args.script.now (is_unsuited c.args.safe view) is told c.requires.settled,
      ),
    )

pub returns-then-is_unsuited-clause-keeps : goal.returns-then-is_unsuited-clause-keeps
returns-then-is_unsuited-clause-keeps g c =
    none_begun (laws g.met.D.Disk) g.K.Sink c.args.safe _ c.args.disk.now c.args.out.now c.requires.settled (c.is_unsuited.ensures.asked c.if-is_unsuited.true)

pub returns-then-is_unsuited-clause-host : goal.returns-then-is_unsuited-clause-host
returns-then-is_unsuited-clause-host g c = host_idle g.H.Host _ c.args.script.now c.args.host.now End.NotSafe (λ text is. cc) (λ e. cc)

pub serve_with-requires-clause-suits : goal.serve_with-requires-clause-suits
serve_with-requires-clause-suits g c = c.is_unsuited.ensures.suits c.if-is_unsuited.false
