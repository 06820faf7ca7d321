use Rattle.std.proofs.Common.{◌≡◌, ℕ, Bool, false, min, if◌then◌else◌, sym, ap, ◌∙◌}
use Rattle.fc_names.specs.Names.{is_same_name}
use Rattle.fc_bigdir.proofs.OrderLemmas.{other_letters}
use Rattle.fc_bigdir.proofs.twins.least_with.Goals as goal
use Rattle.fc_bigdir.proofs.twins.least_with.Goals.{else-a-b-via-then-a-b+else-fold_eq, else-a-b-via-else-a-b}

skipped : (least at : ℕ) (same : Bool) → same ≡ false → least ≡ (if same then min least at else least)
skipped least at same is = sym (ap (λ (b : Bool). if b then min least at else least) is)

pub returns-else-a-b : goal.returns-else-a-b
returns-else-a-b c =
    skipped c.args.least c.args.b.now.at (is_same_name c.args.a.now.name.now c.args.b.now.name.now) (elim c.else-a-b.branch [
      | else-a-b-via-then-a-b+else-fold_eq w ↦ sym w.fold_eq.ensures ∙ w.if-fold_eq.false
      | else-a-b-via-else-a-b w ↦ other_letters c.args.a.now c.args.b.now c.requires.first c.requires.second w.if-a-b.false
    ])
