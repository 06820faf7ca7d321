use Rattle.std.proofs.Common.{◌≡◌, ◌<◌, ◌∙◌, List, length, sym, subst, arith}
use Rattle.std.specs.Prelude.{IsTrue}
use Rattle.std.proofs.lemmas.Grind.{common_steps}
use Rattle.fc_alloc.specs.declared.owner.Owner.{Owner}
use Rattle.fc_alloc.specs.Owners.{AreHeldBy}
use Rattle.fc_alloc.specs.Lists.{row_at}
use Rattle.fc_alloc.proofs.ListLemmas.{nodes_read}
use Rattle.fc_alloc.proofs.held.Held.get.Goals as goal

pub returns-in-Some : goal.returns-in-Some
returns-in-Some c owners had =
    let rows = c.args.self.now.rows.items in
    let dir = c.args.dir in
    let at = c.in-Some.ensures.lookup.3 in
    let room : dir < length rows = rw c.deref.ensures.value at at.0 in
    let read : row_at rows dir ≡ c.in-Some.row.now.items = nodes_read rows dir c.in-Some.row.now room (rw c.deref.ensures.value at (at.1 c.in-Some.row.now)) in
    let settled : IsTrue c.args.self.now.settled = grind (arith, common_steps, c.if-not-self.false) in
    let complete : IsTrue c.args.self.now.complete = grind (arith, common_steps, c.if-not-self.false) in
    let row = had complete dir in
    subst (λ (held : List Owner). AreHeldBy dir owners held) (read ∙ sym c.as_slice.ensures.value) (record { same = row.same; sorted = row.sorted settled })
