use Rattle.std.proofs.Common.{sym, subst, ◌∙◌}
use Rattle.std.specs.Prelude.{OnOk}
use Rattle.std.specs.Option.{ForSome}
use Rattle.fc_device.specs.Calls.{StopsAndExitsLeave}
use Rattle.fc_image.specs.Layout.{Layout}
use Rattle.fc_space.specs.declared.space.Space.{Space}
use Rattle.fc_space.specs.Space.{layout_of}
use Rattle.fc_holdings.specs.Holdings.{CopiesAre}
use Rattle.fc_commands.specs.Written.{ChangeLeavesOn, IsChangedOn}
use Rattle.fc_commands.proofs.writing.write_change.Goals as goal

pub write_new-requires-clause-known : goal.write_new-requires-clause-known
write_new-requires-clause-known g c = subst (λ (s : Space). ForSome (g.D.Disk.bytes c.args.disk.now) (CopiesAre c.args.copies (layout_of s))) (sym c.edit.ensures.value ∙ c.in-NewMapped.is) c.requires.known

pub returns-in-NewMapped-clause-done : goal.returns-in-NewMapped-clause-done
returns-in-NewMapped-clause-done g c = subst (λ (s : Space). OnOk c.write_new.result (ForSome (g.D.Disk.bytes c.args.disk.now) (λ was. ForSome (g.D.Disk.bytes c.write_new.new.disk) (IsChangedOn (layout_of s) (Layout.New c.write_new.new.map) c.args.ready c.args.bytes.now was)))) (sym (sym c.edit.ensures.value ∙ c.in-NewMapped.is)) c.write_new.ensures.done

pub returns-in-OldMapped-clause-keeps : goal.returns-in-OldMapped-clause-keeps
returns-in-OldMapped-clause-keeps g c = subst (λ (s : Space). StopsAndExitsLeave g.D.Disk c.args.disk.now c.write_and_hold.new.disk (ChangeLeavesOn (layout_of s) c.args.ready c.args.bytes.now)) (sym (sym c.edit.ensures.value ∙ c.in-OldMapped.is)) c.write_and_hold.ensures.keeps
