use Rattle.std.proofs.Common.{◌≡◌, ◌≤◌, rules, length, replicate}
use Rattle.fc_import.proofs.ImportLemmas.{row_padded, supply_called}
use Rattle.fc_import.proofs.place.take_row.Goals as goal

pub returns-clause-takes : goal.returns-clause-takes
returns-clause-takes g c =
    let long : length c.fill-2.new.into ≡ c.min-count.result = search rules in
    record {
      piece = c.fill-2.new.into;
      given = c.in_ok-fill.ensures.given;
      whole = search rules;
      is = row_padded (length c.args.row.now) c.min-count.result c.fill-2.new.into c.fill.new.self (c.fill.ensures.after (λ y e. e)) long (search rules);
    }

pub returns-clause-supply : goal.returns-clause-supply
returns-clause-supply g c = supply_called g.B.Supply c.args.from.now c.fill-2.new.self c.fill-2.ensures.total c.fill-2.ensures.all c.fill-2.ensures.goes

pub returns-in_err-fill-clause-supply : goal.returns-in_err-fill-clause-supply
returns-in_err-fill-clause-supply g c = supply_called g.B.Supply c.args.from.now c.fill-2.new.self c.fill-2.ensures.total c.fill-2.ensures.all c.fill-2.ensures.goes
