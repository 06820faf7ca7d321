use Rattle.std.proofs.Common.{◌≡◌, ◌∙◌, ℕ, true, sym, subst}
use Rattle.std.proofs.lemmas.Bool.{eqb-true}
use Rattle.fc_alloc.specs.Owners.{is_node}
use Rattle.fc_plan.specs.Giving.{is_one_of}
use Rattle.fc_plan.proofs.Taken.{find_is}
use Rattle.fc_safe.proofs.gone.push_left.Goals as goal

pub is_left-requires : goal.is_left-requires
is_left-requires c =
    let is = find_is (is_node c.args.n) c.in-Some.own c.args.owners.now (sym c.of.ensures ∙ c.in-Some.is) in
    subst (λ (k : ℕ). is_one_of c.args.leaving.now k ≡ true) (sym (eqb-true c.in-Some.own.node c.args.n is.1)) c.requires
