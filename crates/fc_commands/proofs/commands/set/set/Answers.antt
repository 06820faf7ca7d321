use Rattle.std.proofs.Common.{ℕ, List, []}
use Rattle.fc_device.proofs.DiskLaws.{laws}
use Rattle.fc_model.specs.Command.{Command}
use Rattle.fc_holdings.specs.Holdings.{parts_of}
use Rattle.fc_commands.proofs.SetMomentLemmas.{set_keeps}
use Rattle.fc_commands.proofs.JudgmentLemmas.{ok_then}
use Rattle.fc_commands.proofs.commands.set.set.Goals as goal

pub returns-clause-refused : goal.returns-clause-refused
returns-clause-refused g c = c.carry_out.ensures.refused (Command.Set c.args.path.now c.args.words.load c.args.words.exec c.args.words.access) c.args.read_only c.set_job-judged.ensures.judged

pub returns-clause-changed : goal.returns-clause-changed
returns-clause-changed g c = ok_then c.carry_out.result (λ each. each (Command.Set c.args.path.now c.args.words.load c.args.words.exec c.args.words.access) c.args.read_only c.set_job-judged.ensures.judged) c.carry_out.ensures.changed

pub returns-clause-places : goal.returns-clause-places
returns-clause-places g c = c.carry_out.ensures.places (Command.Set c.args.path.now c.args.words.load c.args.words.exec c.args.words.access) c.args.read_only c.set_job-judged.ensures.judged

pub returns-clause-leaves : goal.returns-clause-leaves
returns-clause-leaves g c = c.carry_out.ensures.leaves (Command.Set c.args.path.now c.args.words.load c.args.words.exec c.args.words.access) c.args.read_only c.set_job-judged.ensures.judged

pub returns-clause-map : goal.returns-clause-map
returns-clause-map g c =
    set_keeps g.D.Disk (laws g.met.D.Disk) c.args.disk.now c.carry_out.new.disk (parts_of c.args.holdings.now) c.requires.stands.agree.0 c.requires.stands.agree.1 c.args.path.now c.args.words.load c.args.words.exec c.args.words.access
    (c.carry_out.ensures.leaves (Command.Set c.args.path.now c.args.words.load c.args.words.exec c.args.words.access) c.args.read_only c.set_job-judged.ensures.judged)
