use Rattle.std.proofs.Common.{ap, subst}
use Rattle.fc_model.specs.Command.{Command as Model}
use Rattle.fc_volume.specs.Volume.{Volume, holdings_of}
use Rattle.fc_shell.specs.Changing.{ChangesSafely}
use Rattle.fc_shell.proofs.safety.save_safely.Goals as goal

pub returns : goal.returns
returns g c =
    let is = c.volume.view_is in
    record {
      held = subst (λ (v : Volume). ChangesSafely g.D.Disk (Model.Save c.args.path.now c.args.words.load c.args.words.exec c.args.bytes.now) v.read_only (holdings_of v) c.save-changed.new.holdings c.args.disk.now c.save-changed.new.disk c.save-changed.result) is
          (record {
            refused = c.save-changed.ensures.refused;
            changed = c.save-changed.ensures.changed;
            tree = c.save-changed.ensures.tree;
            free = c.save-changed.ensures.free;
            keeps = c.save-changed.ensures.keeps;
          });
      rights = ap (λ (v : Volume). v.read_only) is;
      fit = c.is_usable_after-volume-inside.ensures;
    }
