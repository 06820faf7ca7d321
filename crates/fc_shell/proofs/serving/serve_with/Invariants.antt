use Rattle.std.proofs.Common.{◌≡◌, ◌≤◌, ◌+◌, ◌++◌, List, ℕ, length}
use Rattle.fc_device.specs.Calls.{OnlyReads}
use Rattle.fc_host.specs.Answers.{all_asked}
use Rattle.fc_host.specs.Asked.{Asked}
use Rattle.fc_script.specs.HostLines.{host_line_of}
use Rattle.fc_runs.specs.Meanwhile.{GoesOn}
use Rattle.fc_runs.specs.Run.{commands_in}
use Rattle.fc_shell.specs.Answered.{ForState}
use Rattle.fc_shell.specs.Left.{commands_left}
use Rattle.fc_shell.specs.Line.{IsReady}
use Rattle.fc_shell.specs.Modes.{SuitsMode, mode_of}
use Rattle.fc_shell.specs.Moving.{AsksMore, HasMoved, HostSpares}
use Rattle.fc_shell.specs.Replies.{script_limit}
use Rattle.fc_shell.proofs.HostServingLemmas.{AllAsk}
use Rattle.fc_shell.proofs.LengthLemmas.{AreUpTo}
use Rattle.fc_shell.proofs.serving.serve_with.Given as goal

abbrev pub invariant-loop-line : goal.invariant-loop-line
invariant-loop-line g l = record {
  short : AreUpTo script_limit (commands_left l.lines);
  goes : GoesOn g.D.Disk l.fn.disk l.disk;
  suits : SuitsMode l.safe l.volume;
  ready : IsReady g.D.Disk l.disk l.fn.volume l.volume;
  reads : HostSpares l.fn.volume.read_only (commands_in l.script) → HostSpares l.fn.volume.read_only (commands_left l.lines) × OnlyReads g.D.Disk l.fn.disk l.disk;
  out_faults : g.K.Sink.faults l.fn.out ≤ g.K.Sink.faults l.out;
  host_faults : g.H.Host.faults l.fn.host ≤ g.H.Host.faults l.host;
  counted : l.tally.replies + length (commands_left l.lines) ≡ length (commands_in l.script);
  within : l.tally.refused ≤ l.tally.replies;
  asks : (done : List (List ℕ)) × (asks : List (List Asked)) × (commands_in l.script ≡ done ++ commands_left l.lines)
      × (g.H.Host.asked l.host ≡ g.H.Host.asked l.fn.host ++ all_asked asks) × AllAsk host_line_of done asks;
  served : ForState (g.D.Disk.bytes l.fn.disk) l.fn.volume (λ kind s. AsksMore g.H.Host l.fn.host l.host (λ asked.
      HasMoved g.D.Disk l.fn.disk l.disk (mode_of kind l.fn.volume.read_only l.safe) s l.script (commands_left l.lines) l.volume l.tally (g.K.Sink.taken l.fn.out) (g.K.Sink.taken l.out) asked (g.H.Host.files l.fn.host) (g.H.Host.files l.host)));
}

abbrev pub decreases-loop-line : goal.decreases-loop-line
decreases-loop-line g l = length (commands_left l.lines)
