use Rattle.std.proofs.Common.{◌≡◌, ◌∙◌, true, false, ap, arith, is_ok, subst, sym}
use Rattle.std.proofs.lemmas.Grind.{common_steps}
use Rattle.fc_alloc.specs.declared.held.Held.{Held}
use Rattle.fc_alloc.specs.Held.{IsRow}
use Rattle.fc_alloc.specs.Lists.{row_at}
use Rattle.fc_alloc.proofs.HeldLemmas.{held_put}
use Rattle.fc_alloc.proofs.held.Held.put.Goals as goal
use Rattle.fc_alloc.proofs.held.Held.put.Goals.{else-self-via-then-self+else-is_err, else-self-via-else-self}

-- the owner was put, or the table had been given up before
pub returns-else-self : goal.returns-else-self
returns-else-self c owners more order had complete dir =
    elim c.else-self.branch [
      | else-self-via-then-self+else-is_err w ↦
          let put : is_ok w.put_in_row.result ≡ true = grind (arith, common_steps, w.if-is_err.false, w.is_err.ensures.value) in
          let was = had w.if-self.true in
          subst (λ (h : Held). IsRow dir h.settled more (row_at h.rows.items dir)) (sym w.self-is)
          (held_put c.args.self.now.settled owners more c.args.o c.args.self.now.rows.items w.put_in_row.new.rows.items order was (w.put_in_row.ensures.here put)
          (λ settled. w.put_in_row.ensures.sorted put settled ((was c.args.o.dir).sorted settled)) w.put_in_row.ensures.elsewhere dir)
      | else-self-via-else-self w ↦
          let bad : true ≡ false = sym complete ∙ (ap (λ (h : Held). h.complete) w.self-is ∙ w.if-self.false) in
          absurd (cc)
    ]
