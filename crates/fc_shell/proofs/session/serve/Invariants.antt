use Rattle.std.proofs.Common.{◌≡◌, ◌≤◌, ◌+◌, length}
use Rattle.fc_device.specs.Calls.{OnlyReads}
use Rattle.fc_runs.specs.Run.{commands_in}
use Rattle.fc_shell.specs.Answered.{ForState}
use Rattle.fc_shell.specs.Reads.{Spares}
use Rattle.fc_shell.specs.Left.{commands_left}
use Rattle.fc_runs.specs.Meanwhile.{GoesOn}
use Rattle.fc_shell.specs.Line.{IsReady}
use Rattle.fc_shell.specs.Modes.{SuitsMode, mode_of}
use Rattle.fc_shell.specs.Serving.{HasServed}
use Rattle.fc_shell.specs.Replies.{script_limit}
use Rattle.fc_shell.proofs.LengthLemmas.{AreUpTo}
use Rattle.fc_shell.proofs.session.serve.Given as goal

abbrev pub invariant-loop-line : goal.invariant-loop-line
invariant-loop-line g l = record {
  short : AreUpTo script_limit (commands_left l.lines);
  goes : GoesOn g.D.Disk l.fn.disk l.disk;
  suits : SuitsMode l.safe l.volume;
  ready : IsReady g.D.Disk l.disk l.fn.volume l.volume;
  reads : Spares l.fn.volume.read_only (commands_in l.script) → Spares l.fn.volume.read_only (commands_left l.lines) × OnlyReads g.D.Disk l.fn.disk l.disk;
  out_faults : g.K.Sink.faults l.fn.out ≤ g.K.Sink.faults l.out;
  counted : l.tally.replies + length (commands_left l.lines) ≡ length (commands_in l.script);
  within : l.tally.refused ≤ l.tally.replies;
  served : ForState (g.D.Disk.bytes l.fn.disk) l.fn.volume (λ kind s.
      HasServed g.D.Disk l.fn.disk l.disk (mode_of kind l.fn.volume.read_only l.safe) s l.script (commands_left l.lines) l.volume l.tally (g.K.Sink.taken l.fn.out) (g.K.Sink.taken l.out));
}

abbrev pub decreases-loop-line : goal.decreases-loop-line
decreases-loop-line g l = length (commands_left l.lines)
