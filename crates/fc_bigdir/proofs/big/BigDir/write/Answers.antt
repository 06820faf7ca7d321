use Rattle.std.proofs.Common.{◌≡◌, true, false, ◌&&◌, subst, sym, ap, ap₂, ◌∙◌}
use Rattle.fc_dirs.specs.Big.{BigDir, IsBig, is_check_right}
use Rattle.fc_dirs.specs.BigBytes.{IsWrittenBig}
use Rattle.fc_bigdir.proofs.WriteLemmas.{word_set, word_kept}
use Rattle.fc_bigdir.proofs.ReadBack.{read_back}
use Rattle.fc_bigdir.proofs.big.BigDir.write.Goals as goal
use Rattle.fc_bigdir.proofs.big.BigDir.write.Goals.{else-self-via-then-self+else-is_check_right, else-self-via-else-self}

pub returns-then-is_check_right-clause-bytes : goal.returns-then-is_check_right-clause-bytes
returns-then-is_check_right-clause-bytes c =
    let d = c.args.self.now in
    let b = c.put_checked-end.new.b in
    let form : d.second_form ≡ true = sym (ap (λ (x : BigDir). x.second_form) c.self.view_is) ∙ c.if-self.true in
    word_set d b c.put_checked-end.result c.put_checked-end.ensures.bytes c.put_checked-end.ensures.end form (sym c.is_check_right.ensures ∙ c.if-is_check_right.true)

pub returns-then-is_check_right-clause-written : goal.returns-then-is_check_right-clause-written
returns-then-is_check_right-clause-written c =
    subst (λ b. IsWrittenBig b c.args.self.now) (sym (returns-then-is_check_right-clause-bytes c))
    (read_back c.args.self.now (subst IsBig c.self.view_is c.self.invariant.big) c.put_checked-end.ensures.widths)

pub returns-else-self-clause-bytes : goal.returns-else-self-clause-bytes
returns-else-self-clause-bytes c =
    let d = c.args.self.now in
    let b = c.put_checked-end.new.b in
    let form = sym (ap (λ (x : BigDir). x.second_form) c.self.view_is) in
    word_kept d b c.put_checked-end.ensures.bytes (elim c.else-self.branch [
      | else-self-via-then-self+else-is_check_right w ↦ ap₂ (λ x y. x && y) (form ∙ w.if-self.true) (sym w.is_check_right.ensures ∙ w.if-is_check_right.false)
      | else-self-via-else-self w ↦ ap (λ x. x && is_check_right false b) (form ∙ w.if-self.false)
    ])

pub returns-else-self-clause-written : goal.returns-else-self-clause-written
returns-else-self-clause-written c =
    subst (λ b. IsWrittenBig b c.args.self.now) (sym (returns-else-self-clause-bytes c))
    (read_back c.args.self.now (subst IsBig c.self.view_is c.self.invariant.big) c.put_checked-end.ensures.widths)
