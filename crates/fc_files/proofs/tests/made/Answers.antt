use Rattle.std.proofs.Common.{◌≡◌, rules, option_map}
use Rattle.fc_host.specs.Files.{with_empty}
use Rattle.fc_host.specs.HostLaws.{empty_there}
use Rattle.fc_files.proofs.tests.made.Goals as goal

pub append-requires-clause-there : goal.append-requires-clause-there
append-requires-clause-there g c =
    let made : g.H.Host.files c.make.new.self ≡ option_map (with_empty c.args.name.now) (g.H.Host.files c.args.host.now) = search rules in
    empty_there (g.H.Host.files c.args.host.now) (g.H.Host.files c.make.new.self) c.args.name.now made
