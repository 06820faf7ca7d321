use Rattle.std.proofs.Common.{ap, subst}
use Rattle.fc_script.specs.Reading.{command}
use Rattle.fc_volume.specs.Volume.{Volume, holdings_of}
use Rattle.fc_shell.specs.Changing.{ChangesSafely}
use Rattle.fc_shell.proofs.safety.change_safely.Goals as goal

pub returns : goal.returns
returns g c =
    let is = c.volume.view_is in
    record {
      held = subst (λ (v : Volume). ChangesSafely g.D.Disk (command c.args.asked.now) v.read_only (holdings_of v) c.change_held-changed.new.holdings c.args.disk.now c.change_held-changed.new.disk c.change_held-changed.result) is
          c.change_held-changed.ensures;
      rights = ap (λ (v : Volume). v.read_only) is;
      fit = c.is_usable_after-volume-inside.ensures;
    }
