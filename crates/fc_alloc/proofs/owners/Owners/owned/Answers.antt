use Rattle.std.proofs.Common.{◌≡◌, ◌<◌, ◌∙◌, ap, sym, false, leb, length, arith}
use Rattle.std.proofs.lemmas.Bool.Decides.{nat_tests}
use Rattle.fc_alloc.specs.Owners.{is_id_owned, owns}
use Rattle.fc_alloc.proofs.CountLemmas.{any_counted, count, none_above}
use Rattle.fc_alloc.proofs.owners.Owners.owned.Goals as goal

pub returns-in-Some : goal.returns-in-Some
returns-in-Some c =
    let at = c.in-Some.ensures.lookup.3 in
    let room : c.args.id < length c.self.inside.counts.items = rw c.deref.ensures.value at at.0 in
    let number : c.in-Some.count.now ≡ count c.self.inside.list.items c.args.id = rw c.deref.ensures.value at (at.1 0) ∙ c.self.invariant.counted c.args.id room in
    rw number (any_counted (owns c.args.id) c.self.inside.list.items ∙ ap (λ os. is_id_owned os c.args.id) c.self.view_is)

pub returns-else-id-self : goal.returns-else-id-self
returns-else-id-self c =
    let above : leb c.args.id c.self.inside.top ≡ false = grind (arith, nat_tests, c.if-id-self.false) in
    above ∙ sym (rw c.self.view_is at (none_above c.self.inside.list.items c.self.inside.top c.args.id c.self.invariant.highest c.if-id-self.false))
