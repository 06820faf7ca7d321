use Rattle.std.proofs.Common.{rules, ◌≡◌, ◌≤◌, arith, length, le-leb}
use Rattle.std.specs.List.{list_all}
use Rattle.std.proofs.lemmas.Bool.Decides.{nat_tests}
use Rattle.std.proofs.lemmas.Iterator.{YieldsList-from_slice}
use Rattle.std.proofs.lemmas.Iterator.Search.{all_from_yields_List}
use borrow.Author.Tests.{tests}
use Rattle.fc_names.specs.Names.{is_writable_byte, name_limit}
use Rattle.fc_names.proofs.name.writable_bytes.Goals as goal

pub returns-then-name-name_limit : goal.returns-then-name-name_limit
returns-then-name-name_limit c =
    let all : c.all.result ≡ list_all (is_writable_byte c.args.form) c.args.name.now =
    all_from_yields_List (is_writable_byte c.args.form) _ _ _ c.all.ensures.ran (YieldsList-from_slice c.args.name.now cc)
    (λ x b q k. search (rules, tests)) in
    let test = c.if-is_empty.ensures in
    let some : 1 ≤ length c.args.name.now = grind (arith, nat_tests, test) in
    let few : length c.args.name.now ≤ name_limit c.args.form = rw (← c.name_limit.ensures) c.if-name-name_limit.true in
    rw (le-leb 1 (length c.args.name.now) some, le-leb (length c.args.name.now) (name_limit c.args.form) few) all
